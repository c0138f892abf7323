-- What each reader gives of an input within the old limit has old forms: by `StoredSpans` for how records are laid out, by each reader's own
-- laws for how long its texts are, and by `Underline` for where a thing was read from.
use Rattle.lent.specs.declared.gating.GateError.{GateError}
use Rattle.lent.specs.declared.gating.GateError.TheVariants.{TooLong, Short, NotAscii}
use Rattle.std.specs.Prelude.{Result, Ok, Err}
use mathlib.Core.Path.{◌≡◌, ◌∙◌, refl, sym}
use mathlib.Core.Bool.{Bool, true, false}
use mathlib.Core.List.{List, [], ◌∷◌, ◌++◌, append-nil}
use Prim.Native.Nat.{ℕ, ◌+◌, ◌≤◌, min}
use native.Mathlib.Omega.{arith}
use lib.ListN.{length, length-append}
use lib.Dec.{ltb}
use Rattle.ascii.specs.Choice.{pick}
use Rattle.ascii.specs.Classes.{white}
use Rattle.ascii.proofs.TrimLaws.{ends_fit}
use Rattle.lent.specs.Sizes.{token_words, action_words, variable_words, room_for}
use Rattle.lent.specs.Sources.{Part, part, Sourced}
use Rattle.lent.specs.Gates.{gate_of}
use Rattle.lent.specs.Layout.{texts_of, words_of}
use Rattle.lent.specs.Table.{Refusal, too_long, not_ascii, short_buffer, no_room, named, no_action, no_argument, no_variable, unknown_operator, bad_cursor, Outcome, refuses, reads, past_gate, Filled}
use Rattle.lexer.specs.Tokens.{Token, reading}
use Rattle.lexer.specs.Places.{Placed, All, nil, cons}
use Rattle.lexer.specs.Layout.{token_record, text_of}
use Rattle.lexer.specs.Layout as Lexed
use Rattle.lexer.specs.Promises.{tokens_outcome}
use Rattle.lexer.specs.Promises as Lexer
use Rattle.lexer.proofs.PlaceLaws.{places, texts_fit_lem}
use Rattle.single_action.specs.Actions.{Action}
use Rattle.actions.specs.Normal.{normalised}
use Rattle.actions.specs.Lists.{actions_of}
use Rattle.actions.specs.Layout as Acts
use Rattle.actions.specs.Promises.{actions_gate, actions_outcome, setvar_alone, setvar_outcome}
use Rattle.actions.specs.Promises as Acting
use Rattle.actions.proofs.NormalLaws.{normalised_length}
use Rattle.actions.proofs.LengthLaws.{Fits, actions_fit, alone_fits}
use Rattle.variables.specs.Parts.{pieces}
use Rattle.variables.specs.Variables as Of
use Rattle.variables.specs.Steps.{hanging, targets_of}
use Rattle.variables.specs.Promises.{variables_outcome, update_outcome}
use Rattle.variables.specs.Promises as Targeting
use Rattle.variables.specs.Layout as Spread
use Rattle.variables.specs.declared.singles.Exclusions.{Exclusions}
use Rattle.variables.specs.declared.singles.Exclusions.TheVariants.{AsWritten, LookedUp}
use Rattle.variables.proofs.FitLaws.{Within, targets_within}
use Rattle.operators.specs.Operators.{Reading, accepted, unknown, operator}
use Rattle.operators.specs.Places.{name_place}
use Rattle.operators.specs.Promises.{outcome_of, operator_outcome}
use Rattle.operators.proofs.PromiseLaws.{refused_inside}
use Rattle.directives.specs.Directives as Whole
use Rattle.directives.specs.declared.Version.{Version}
use Rattle.directives.specs.Versions.{directives_for}
use Rattle.directives.proofs.VersionLaws.{for_holds}
use Rattle.directives.specs.Layout as Laid
use Rattle.directives.specs.Table as Directing
use Rattle.directives.specs.Promises as Package
use Rattle.directives.proofs.FitLaws.{ResultFits, directives_fit, texts_long, texts_total_lem}
use Rattle.spans.proofs.RoundLaws.{there_and_back, back_and_there}
use Rattle.spans.proofs.ConversionLaws.{made_refuses}
use Rattle.demands.specs.Underline.{Each, whole, Told, ActionsThere, TargetsThere, Argument, BodyIn, DirectiveIn, RefusalIn, FaultIn, PackageIn}
use Rattle.demands.specs.StoredSpans.{old_limit, token_spans, action_spans, variable_spans, directive_spans, RecordsKept, RefusalKept, FilledKept, OperatorKept, FaultKept, DirectivesKept, StoredSpans}
use Rattle.demands.proofs.Underline.{each_map, underline}
use Rattle.demands.proofs.StoredSpans.{near, kept, part_kept, Near, From, all_kept, slot_kept, actions_kept, targets_kept}

each_of : {P Q : Token → Type 0} → ((t : Token) → P t → Q t) → {ts : List Token} → All P ts → Each Q ts
each_of f nil = tt
each_of f (cons {t = t} p ps) = (f t p, each_of f ps)

-- the gate's refusals have no span
gate_kept : (spans : List Bool) (g : Result Unit GateError) (o : Outcome Filled) → FilledKept spans o → FilledKept spans (past_gate g o)
gate_kept spans (Ok tt) o k = k
gate_kept spans (Err TooLong) o k = tt
gate_kept spans (Err (NotAscii p)) o k = tt
gate_kept spans (Err Short) o k = tt

-- nor has 4
room_kept : (spans : List Bool) (t : Bool) (n : ℕ) (x : Filled) → FilledKept spans (reads x) → FilledKept spans (pick t (refuses (no_room n)) (reads x))
room_kept spans true n x k = tt
room_kept spans false n x k = k

module _ (s : List ℕ) (short : length s ≤ old_limit) where
  -- ---- tokens

  token_from : (t : Token) → Placed s t → Near (part t.first t.past)
  token_from t p = (omega (arith, p.some, p.inside), omega (arith, p.inside))

  tokens_kept : (n m : ℕ) → FilledKept token_spans (tokens_outcome s n m)
  unfolding tokens_outcome
  tokens_kept n m =
      let ts = (reading s).tokens in
      let l : length (Lexed.texts ts) ≤ length s = omega (arith, sym (texts_long ts) ∙ texts_total_lem ts, texts_fit_lem s) in
      gate_kept token_spans (gate_of s n (length s)) _
      (room_kept token_spans (ltb (room_for token_words m) (length ts)) (length ts) (Lexer.laid_out (reading s))
      (all_kept token_spans token_record text_of (λ t. Near (part t.first t.past)) (λ o t. refl)
      (λ o t more h c. (part_kept (part t.first t.past) c, (kept o (length t.text) (omega (arith, h)) (omega (arith, h)), tt))) 0 ts (omega arith) (each_of token_from (places s))))

  -- ---- what is underlined in the input is near

  told_near : {read : List ℕ → List ℕ} {around x : Part} {P : List ℕ → Type 0} → around.past ≤ length s → Told read s around x P → Near x
  told_near h w = (omega (arith, w.1.0.some, w.1.0.upto, h), omega (arith, w.1.0.upto, h))

  -- ---- action lists

  listed_kept : (xs : List (Sourced Action)) → length (Acts.texts xs) ≤ near → Each From xs → RecordsKept action_spans (length xs) (Acts.words_from 0 xs)
  unfolding RecordsKept
  listed_kept xs h c =
      let z : length xs + 0 ≡ length xs = omega arith in
      rw (← z, ← append-nil (Acts.words_from 0 xs)) (actions_kept 0 xs (omega arith) c 0 [] tt)

  actions_near : (m : ℕ) (o : Outcome (List (Sourced Action))) → ActionsThere normalised s (whole s) o → Fits (length (normalised s)) o → FilledKept action_spans (Acting.roomed m o)
  unfolding RecordsKept
  actions_near m (refuses (named no_action k name x)) w f = part_kept x (told_near (omega arith) w)
  actions_near m (refuses (named (no_argument flaw) k name x)) w f = part_kept x (told_near (omega arith) w)
  actions_near m (refuses (named no_variable k name x)) w f = absurd w
  actions_near m (refuses (unknown_operator p n x)) w f = absurd w
  actions_near m (refuses too_long) w f = tt
  actions_near m (refuses (not_ascii p)) w f = tt
  actions_near m (refuses short_buffer) w f = tt
  actions_near m (refuses (no_room n)) w f = tt
  actions_near m (refuses bad_cursor) w f = tt
  actions_near m (reads xs) w f = room_kept action_spans (ltb (room_for action_words m) (length xs)) (length xs) (Acting.laid_out xs) (listed_kept xs (omega (arith, f, normalised_length s)) (each_map (λ x k. told_near (omega arith) k) xs w))

  parse_actions_kept : (n k m : ℕ) → FilledKept action_spans (actions_outcome s n k m)
  unfolding actions_outcome
  parse_actions_kept n k m = gate_kept action_spans (actions_gate s n k) _ (actions_near m (actions_of s) (underline.actions s) (actions_fit s))

  parse_setvar_kept : (n m : ℕ) → FilledKept action_spans (setvar_outcome s n m)
  unfolding setvar_outcome
  parse_setvar_kept n m =
      let f = ends_fit white s in
      gate_kept action_spans (gate_of s n (length s + 3)) _
      (room_kept action_spans (ltb (room_for action_words m) 1) 1 (Acting.laid_out (setvar_alone s))
      (listed_kept (setvar_alone s) (omega (arith, alone_fits s)) ((omega (arith, f), omega (arith, f)), tt)))

  -- ---- lists of variables

  spread_kept : (vs : List (Sourced Of.Variable)) (es : List (Sourced (List ℕ))) → length (Spread.texts vs es) ≤ near → Each From vs → Each From es
      → RecordsKept variable_spans (length vs + length es) (Spread.words_from 0 vs es)
  unfolding RecordsKept
  spread_kept vs es h c d =
      let z : length vs + (length es + 0) ≡ length vs + length es = omega arith in
      rw (← z, ← append-nil (Spread.words_from 0 vs es)) (targets_kept 0 vs es (omega arith) c d 0 [] tt)

  roomed_kept : (m : ℕ) (vs : List (Sourced Of.Variable)) (es : List (Sourced (List ℕ))) → length (Spread.selection_texts vs) + length (texts_of Spread.exclusion_text es) ≤ length s
      → Each From vs → Each From es → FilledKept variable_spans (Targeting.roomed m vs es)
  roomed_kept m vs es h c d =
      room_kept variable_spans (ltb (room_for variable_words m) (length vs + length es)) (length vs + length es) (Targeting.laid_out vs es)
      (spread_kept vs es (omega (arith, length-append (Spread.selection_texts vs) (texts_of Spread.exclusion_text es))) c d)

  abbrev There : Exclusions → Of.Targets → Type 0
  There n = TargetsThere (λ u. u) s (whole s) n

  hung_near : (m : ℕ) (ts : Of.Targets) → There AsWritten ts → Within (length s) (length s) (hanging AsWritten ts) → FilledKept variable_spans (Targeting.hung m ts)
  hung_near m (Of.targets [] es) w h = roomed_kept m [] [] h.0 tt tt
  hung_near m (Of.targets (v ∷ vs) es) w h = roomed_kept m (v ∷ vs) es h.0 (each_map (λ x k. told_near (omega arith) k) (v ∷ vs) w.0) (each_map (λ x k. told_near (omega arith) k) es w.1)
  hung_near m (Of.refused i name x) w h = part_kept x (told_near (omega arith) w)

  updated_near : (m : ℕ) (ts : Of.Targets) → There LookedUp ts → Within (length s) (length s) ts → FilledKept variable_spans (Targeting.updated m ts)
  updated_near m (Of.targets vs es) w h = roomed_kept m vs es h.0 (each_map (λ x k. told_near (omega arith) k) vs w.0) (each_map (λ x k. told_near (omega arith) k) es w.1)
  updated_near m (Of.refused i name x) w h = part_kept x (told_near (omega arith) w)

  parse_variables_kept : (n m : ℕ) → FilledKept variable_spans (variables_outcome s n m)
  unfolding variables_outcome targets_of
  parse_variables_kept n m =
      gate_kept variable_spans (gate_of s n (length s)) _ (hung_near m (Of.read_all Of.as_written (pieces s)) (underline.variables AsWritten s) (targets_within AsWritten s))

  parse_update_targets_kept : (n m : ℕ) → FilledKept variable_spans (update_outcome s n m)
  unfolding update_outcome targets_of
  parse_update_targets_kept n m =
      gate_kept variable_spans (gate_of s n (length s)) _ (updated_near m (Of.read_all Of.looked_up (pieces s)) (underline.variables LookedUp s) (targets_within LookedUp s))

  -- ---- an operator

  parse_operator_kept : OperatorKept (operator_outcome s)
  unfolding operator_outcome
  parse_operator_kept = past (gate_of s 0 0)
    where
      name_kept : (o : Reading) → operator s ≡ o → OperatorKept (outcome_of s o)
      name_kept (accepted x) e = tt
      name_kept (unknown name) e = let h = refused_inside s name e in part_kept (part (name_place s) (name_place s + length name)) (omega (arith, h), omega (arith, h))

      past : (g : Result Unit GateError) → OperatorKept (past_gate g (outcome_of s (operator s)))
      past (Ok tt) = name_kept (operator s) refl
      past (Err TooLong) = tt
      past (Err (NotAscii p)) = tt
      past (Err Short) = tt

  -- ---- a package

  somewhere_near : {read : List ℕ → List ℕ} {x : Part} {P : List ℕ → Type 0} (t : Token) → Argument s t → Told read s (part t.first t.past) x P → Near x
  somewhere_near t a w = told_near a.inside w

  refusal_near : (f : Refusal) → RefusalIn s f → RefusalKept f
  refusal_near (named no_action k name x) w = part_kept x (somewhere_near w.0 w.1.0 w.1.1)
  refusal_near (named (no_argument flaw) k name x) w = part_kept x (somewhere_near w.0 w.1.0 w.1.1)
  refusal_near (named no_variable k name x) w = part_kept x (somewhere_near w.0 w.1.0 w.1.1)
  refusal_near (unknown_operator p n x) w = part_kept x (omega (arith, w.1.1.0), omega (arith, w.1.1.0))
  refusal_near too_long w = tt
  refusal_near (not_ascii p) w = tt
  refusal_near short_buffer w = tt
  refusal_near (no_room n) w = tt
  refusal_near bad_cursor w = tt

  fault_near : (f : Whole.Fault) → FaultIn s f → FaultKept f
  fault_near (Whole.wrong_count l) w = tt
  fault_near (Whole.untaken l) w = tt
  fault_near (Whole.stopped l) w = tt
  fault_near (Whole.id_missing l) w = tt
  fault_near (Whole.within l f) w = refusal_near f w

  -- what a body's records were read from
  acted_from : (x : Whole.Body) → BodyIn s x → Each From (Laid.actions_in x)
  acted_from (Whole.rule vs o xs) w = each_map (λ x k. somewhere_near k.0 k.1.0 k.1.1) xs w.1
  acted_from (Whole.act xs) w = each_map (λ x k. somewhere_near k.0 k.1.0 k.1.1) xs w
  acted_from (Whole.marker m) w = tt
  acted_from (Whole.defaults xs) w = each_map (λ x k. somewhere_near k.0 k.1.0 k.1.1) xs w
  acted_from (Whole.unknown n) w = tt

  variables_from_lem : (x : Whole.Body) → BodyIn s x → Each From (Laid.listed_in x).variables
  variables_from_lem (Whole.rule vs o xs) w = each_map (λ x k. somewhere_near k.0 k.1.0 k.1.1) vs.variables w.0.0
  variables_from_lem (Whole.act xs) w = tt
  variables_from_lem (Whole.marker m) w = tt
  variables_from_lem (Whole.defaults xs) w = tt
  variables_from_lem (Whole.unknown n) w = tt

  exclusions_from : (x : Whole.Body) → BodyIn s x → Each From (Laid.listed_in x).exclusions
  exclusions_from (Whole.rule vs o xs) w = each_map (λ x k. somewhere_near k.0 k.1.0 k.1.1) vs.exclusions w.0.1
  exclusions_from (Whole.act xs) w = tt
  exclusions_from (Whole.marker m) w = tt
  exclusions_from (Whole.defaults xs) w = tt
  exclusions_from (Whole.unknown n) w = tt

  -- its texts in their order
  body_long : (x : Whole.Body) → length (Laid.body_text x) ≡ length (Laid.name_text x) + (length (Laid.listed_text x) + (length (Laid.argument_text x) + length (Acts.texts (Laid.actions_in x))))
  unfolding Laid.body_text
  body_long x =
      omega (
        arith,
        length-append (Laid.name_text x) (Laid.listed_text x ++ (Laid.argument_text x ++ Acts.texts (Laid.actions_in x))),
        length-append (Laid.listed_text x) (Laid.argument_text x ++ Acts.texts (Laid.actions_in x)),
        length-append (Laid.argument_text x) (Acts.texts (Laid.actions_in x)),
      )

  directives_near : (r : Laid.Reached) (ds : List Whole.Directive) → r.text + length (Laid.texts ds) ≤ near → Each (DirectiveIn s) ds
      → RecordsKept directive_spans (length ds) (Laid.directives_from r ds)
  unfolding RecordsKept Laid.directives_from texts_of
  directives_near r [] h w = tt
  directives_near r (d ∷ ds) h w =
      let b = body_long d.body in
      let l = length-append (Laid.body_text d.body) (Laid.texts ds) in
      let e = w.0.0 in (
        (
          part_kept (part d.first d.past) (omega (arith, e), omega (arith, e)),
          (
            slot_kept r.text (Laid.name_slot d.body) (omega (arith, b, l, h)),
            (slot_kept (Laid.listed_end r.text d.body) (Laid.argument_slot d.body) (omega (arith, b, l, h)), tt),
          ),
        ),
        directives_near (Laid.past_body r d.body) ds (omega (arith, l, h)) w.1,
      )

  variables_near : (o : ℕ) (ds : List Whole.Directive) → o + length (Laid.texts ds) ≤ near → Each (DirectiveIn s) ds
      → RecordsKept variable_spans (Laid.listed_counts ds) (Laid.variables_from o ds)
  unfolding RecordsKept Laid.listed_counts words_of texts_of
  variables_near o [] h w = tt
  variables_near o (d ∷ ds) h w =
      let x = d.body in
      let vs = (Laid.listed_in x).variables in
      let es = (Laid.listed_in x).exclusions in
      let l = length-append (Laid.body_text x) (Laid.texts ds) in
      let n = Laid.listed_counts ds in
      let z : length vs + length es + n ≡ length vs + (length es + n) = omega arith in
      rw z
      (targets_kept (Laid.name_end o x) vs es (omega (arith, body_long x, l, h)) (variables_from_lem x w.0.1) (exclusions_from x w.0.1) n _
      (variables_near (o + length (Laid.directive_text d)) ds (omega (arith, l, h)) w.1))

  acted_near : (o : ℕ) (ds : List Whole.Directive) → o + length (Laid.texts ds) ≤ near → Each (DirectiveIn s) ds
      → RecordsKept action_spans (Laid.action_counts ds) (Laid.actions_from o ds)
  unfolding RecordsKept Laid.action_counts words_of texts_of
  acted_near o [] h w = tt
  acted_near o (d ∷ ds) h w =
      let x = d.body in
      let l = length-append (Laid.body_text x) (Laid.texts ds) in
      actions_kept (Laid.argument_end o x) (Laid.actions_in x) (omega (arith, body_long x, l, h)) (acted_from x w.0.1) (Laid.action_counts ds) _
      (acted_near (o + length (Laid.directive_text d)) ds (omega (arith, l, h)) w.1)

  package_near : (m : Package.Rooms) (x : Result (List Whole.Directive) Whole.Fault) → PackageIn s x → ResultFits (length s) x → DirectivesKept (Package.roomed m x)
  package_near m (Err f) w h = fault_near f w
  package_near m (Ok ds) w h = go (Package.lacks m ds)
    where
      go : (t : Bool) → DirectivesKept (pick t (Directing.overfull (length ds) (Laid.listed_counts ds) (Laid.action_counts ds)) (Directing.filled (Package.laid_out ds)))
      go true = tt
      go false = record {
        directives = directives_near (Laid.reached 0 0 0) ds (omega (arith, h.0)) w;
        variables = variables_near 0 ds (omega (arith, h.0)) w;
        actions = acted_near 0 ds (omega (arith, h.0)) w;
      }

  directives_kept : (v : Version) (m : Package.Lent) → DirectivesKept (Package.outcome_on v s m)
  unfolding Package.directives_outcome
  directives_kept v m = past (gate_of s (min (length m.text) (length m.scratch)) (length s))
    where
      past : (g : Result Unit GateError) → DirectivesKept (Directing.past_gate g (Package.roomed (Package.rooms_of m) (directives_for v s)))
      past (Ok tt) = package_near (Package.rooms_of m) (directives_for v s) (underline.directives v s) (for_holds (ResultFits (length s)) (λ l. omega arith) v s (directives_fit s))
      past (Err TooLong) = tt
      past (Err (NotAscii p)) = tt
      past (Err Short) = tt

pub stored_spans : StoredSpans
stored_spans = record {
  from_refused = λ v. made_refuses _ _ _;
  to_refused = λ w. made_refuses _ _ _;
  from_and_back = there_and_back;
  to_and_back = back_and_there;
  tokens = λ s n m h. tokens_kept s h n m;
  parse_actions = λ s n k m h. parse_actions_kept s h n k m;
  parse_setvar = λ s n m h. parse_setvar_kept s h n m;
  parse_variables = λ s n m h. parse_variables_kept s h n m;
  parse_update_targets = λ s n m h. parse_update_targets_kept s h n m;
  parse_operator = λ s h. parse_operator_kept s h;
  directives = λ v s m h. directives_kept s h v m;
}
