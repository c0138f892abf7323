-- From what is written to what parse_actions and parse_setvar promise: one law for each way out.
use Rattle.lent.specs.declared.gating.GateError.TheVariants.{TooLong, Short, NotAscii}
use Rattle.std.specs.Prelude.{Result, Ok, Err}
use mathlib.Core.Path.{◌≡◌, refl, sym, ap, ◌∙◌}
use mathlib.Core.Bool.{Bool, true, false}
use mathlib.Core.List.{List, [], ◌∷◌, append-nil}
use Prim.Native.Nat.{ℕ, ◌+◌, ◌*◌, ◌≤◌, ◌<◌, min}
use native.Mathlib.Omega.{arith}
use lib.ListN.{length, take, length-map}
use lib.Dec.{ltb}
use Rattle.ascii.specs.Choice.{pick}
use Rattle.ascii.specs.Classes.{white}
use Rattle.ascii.specs.Trim.{trimmed_part}
use Rattle.ascii.proofs.TrimLaws.{ends_fit}
use Rattle.lent.specs.Sizes.{limit, span_base, action_words, room_for}
use Rattle.lent.specs.Buffers.{padded, stored, stored_each}
use Rattle.lent.specs.Gates.{gate_of}
use Rattle.lent.specs.Sources.{Part, part_word, Sourced, sourced, sited_by, sited_all}
use Rattle.lent.proofs.LayoutLaws.{sited_texts}
use Rattle.lent.specs.Endings.{starts}
use Rattle.lent.specs.Table.{Naming, no_action, no_argument, named, Refusal, unknown_action, bad_argument, Outcome, refuses, reads, sited_outcome, resited, Filled, given_by, text_by, records_by}
use Rattle.lent.specs.declared.refusing.Flaw.{Flaw}
use Rattle.lent.proofs.GateLaws.{open_is}
use Rattle.lent.proofs.StartLaws.{starts_is}
use Rattle.lent.proofs.BufferLaws.{taken_first, each_fits}
use Rattle.lent.proofs.EndLaws.{ended_told, ended_text, ended_records}
use Rattle.lent.specs.Layout.{texts_of, records_of}
use Rattle.records.specs.Codes.{set_var_code}
use Rattle.single_action.specs.Setvar.{setvar}
use Rattle.single_action.specs.Actions.{Action, action_text, setvar_action}
use Rattle.single_action.specs.Plans.{plan_action, Planned}
use Rattle.single_action.specs.declared.plans.Plan.{Plan}
use Rattle.single_action.proofs.SingleLaws.{setvar_text_lem}
use Rattle.actions.specs.Normal.{normalised}
use Rattle.actions.specs.Lists.{normal_site, actions_of}
use Rattle.actions.specs.Layout.{records_from, words_from, texts}
use Rattle.actions.specs.Steps.{Put}
use Rattle.actions.specs.Listing.{Laid, ReadAll, Stopped, Ended}
use Rattle.actions.specs.Promises.{answer_given, laid_out, roomed, actions_gate, actions_outcome, setvar_outcome, ParseActions, SetvarAlone}
use Rattle.actions.specs.declared.Read.{Read}
use Rattle.actions.specs.declared.ActionsError.{ActionsError}
use Rattle.actions.specs.declared.ActionsError.TheVariants.{Gate, UnknownAction, BadArgument, NoRoom}
use Rattle.lent.specs.declared.gating.GateError.{GateError}
use Rattle.actions.proofs.NormalLaws.{normalised_length}
use Rattle.actions.proofs.LayoutLaws.{words_length, words_joined, text_long, records_long}
use Rattle.actions.proofs.OutcomeLaws.{outcome_by_lem, setvar_by}

-- an answer and both buffers, by an outcome
pub record Met (o : Outcome Filled) (text text' records records' : List ℕ) (r : Result Read ActionsError) : Type 0 where
  pub answer : answer_given r ≡ given_by o
  pub texts : text' ≡ text_by o text
  pub words : records' ≡ records_by o records

-- ---- the last step

-- from actions that are written at the front of both buffers
module _ {xs : List (Sourced Action)} {text₀ text text' records₀ records records' : List ℕ} {count used : ℕ} {r : Result Read ActionsError}
    (x : Laid xs 0 0 text₀ text records₀ records count used) (room : used ≤ length text₀) (f : Ended used count text text' records records' r) where
  few : count ≡ length xs
  few = omega (arith, x.counted)

  reached : used ≡ length (texts xs)
  reached = omega (arith, x.used_is)

  all_texts : take used text ≡ texts xs
  all_texts = rw (reached, x.written) (taken_first text₀ (texts xs) (omega (arith, reached, room)))

  all_words : count * action_words ≤ length records₀ → take (count * action_words) records ≡ words_from 0 xs
  all_words h =
      let w = words_from 0 xs in
      let n : count * action_words ≡ length w = omega (arith, few, words_length 0 xs) in
      let l : length w ≤ length records₀ = omega (arith, n, h) in
      let e : stored_each records₀ 0 (records_from 0 xs) ≡ stored records₀ 0 w =
      each_fits records₀ 0 (records_from 0 xs) (rw (words_joined 0 xs) (omega arith)) ∙ ap (stored records₀ 0) (words_joined 0 xs) in
      rw (n, x.recorded, e) (taken_first records₀ w l)

  pub finished_met : Met (roomed (length records₀) (reads xs)) text₀ text' records₀ records' r
  finished_met =
      let y = f.finished in
      let long = text_long x in
      let wide = records_long x in
      let t = ended_text y text₀ records₀ (laid_out xs) long wide all_texts in
      let w = ended_records y text₀ records₀ (laid_out xs) long wide all_words in
      record { answer = told f.full f.answer (ended_told y text₀ records₀ (laid_out xs) long wide); texts = rw few at t; words = rw few at w }
    where
      told : (b : Bool) → r ≡ pick b (Err (NoRoom count)) (Ok (record { count = count; text = used })) → b ≡ ltb (room_for action_words (length records₀)) count
          → answer_given r ≡ given_by (roomed (length records₀) (reads xs))
      told true e z = ap answer_given e ∙ rw (← few, ← z)
      told false e z = ap answer_given e ∙ rw (← few, ← z, reached)

-- ---- a list

-- actions that are written, and then put where they stand in the input
laid_sited : (f : Part → Part) {xs : List (Sourced Action)} {text text' records records₁ records' : List ℕ} {count used : ℕ}
    → Laid xs 0 0 text text' records records₁ count used → records' ≡ stored_each records 0 (records_from 0 (sited_all f xs))
    → Laid (sited_all f xs) 0 0 text text' records records' count used
laid_sited f {xs} x m =
    let t = sited_texts f action_text xs in
    record {
      counted = x.counted ∙ sym (length-map xs (sited_by f));
      used_is = x.used_is ∙ rw t;
      written = x.written ∙ rw t;
      recorded = m;
    }

module _ (s text work records : List ℕ) {shorter : ℕ} {g : (Result Unit GateError)} (m : shorter ≡ min (length text) (length work)) (e : g ≡ gate_of s shorter (length s)) where
  gate_by : (h : Result Unit GateError) → g ≡ h → actions_gate s (length text) (length work) ≡ h
  gate_by h f = rw (← m) (sym e ∙ f)

  -- past the checks every buffer has room for the input
  pub open_rooms : g ≡ (Ok tt) → (length s ≤ limit) × (length s ≤ length text) × (length s ≤ length work)
  open_rooms f =
      let o = (open_is s shorter (length s)).0 (sym e ∙ f) in
      (o.within, omega (arith, o.room, m), omega (arith, o.room, m))

  -- and the list may start at the front of the text and the records
  pub open_starts : g ≡ (Ok tt) → {n : List ℕ} → n ≡ normalised s → starts (length n) (length text) 0 0 ≡ true
  open_starts f w =
      let o = open_rooms f in
      rw w ((starts_is (length (normalised s)) (length text) 0 0).1
      (record { within = omega (arith, o, normalised_length s); offset_low = omega arith; count_low = omega arith; room = omega (arith, o, normalised_length s) }))

  -- the checks: nothing is touched
  pub actions_refused : (h : GateError) → g ≡ Err h → ParseActions s text text work work records records (Err (Gate h))
  unfolding actions_outcome
  actions_refused TooLong f = let z = gate_by (Err TooLong) f in record { answer = rw z; texts = rw z; words = rw z; scratch = rw z }
  actions_refused (NotAscii p) f = let z = gate_by (Err (NotAscii p)) f in record { answer = rw z; texts = rw z; words = rw z; scratch = rw z }
  actions_refused Short f = let z = gate_by (Err Short) f in record { answer = rw z; texts = rw z; words = rw z; scratch = rw z }

  -- past them the scratch buffer holds the normalised text
  module _ (f : g ≡ (Ok tt)) {work' : List ℕ} (w : work' ≡ padded (length work) (normalised s)) where
    parse_met : (o : Outcome (List (Sourced Action))) {text' records' : List ℕ} {r : Result Read ActionsError} → actions_of s ≡ o
        → Met (roomed (length records) o) text text' records records' r → ParseActions s text text' work work' records records' r
    parse_met o a x =
        let z = gate_by (Ok tt) f in
        let b = outcome_by_lem s (length text) (length work) (length records) (Ok tt) o z a in
        record { answer = rw b x.answer; texts = rw b x.texts; words = rw b x.words; scratch = rw z w }

    pub actions_read_lem : {text₁ text' records₁ records₂ records' : List ℕ} {count used : ℕ} {id chain : Bool} {r : Result Read ActionsError}
        → (x : ReadAll (normalised s) 0 0 text text₁ records records₁ count used id chain) → records₂ ≡ stored_each records 0 (records_from 0 (sited_all (normal_site s) x.actions))
        → Ended used count text₁ text' records₂ records' r → ParseActions s text text' work work' records records' r
    unfolding actions_of
    actions_read_lem x m y =
        parse_met (reads (sited_all (normal_site s) x.actions)) (ap (sited_outcome (normal_site s)) x.all)
        (finished_met (laid_sited (normal_site s) x.laid m) (omega (arith, x.fits, open_rooms f, normalised_length s)) y)

    -- a refusal by a name
    resited_as : (why : Naming) (piece : ℕ) (name : List ℕ) (y : Part) → resited (normal_site s) (named why piece name y) ≡ named why piece name (normal_site s y)
    resited_as why piece name y = refl

    -- a refused piece, its source put where it stands in the input
    stopped_met : (refusal : List ℕ → Part → Refusal) → ((name : List ℕ) (y : Part) → resited (normal_site s) (refusal name y) ≡ refusal name (normal_site s y))
        → {text' records' : List ℕ} {name span : ℕ} {r : Result Read ActionsError} (x : Stopped refusal (normalised s) text text' records records' name span)
        → Met (refuses (refusal x.named (normal_site s x.source))) text text' records records' r → ParseActions s text text' work work' records records' r
    unfolding actions_of
    stopped_met refusal m x y =
        parse_met (refuses (refusal x.named (normal_site s x.source))) (ap (sited_outcome (normal_site s)) x.first ∙ ap refuses (m x.named x.source)) y

    pub actions_bad : {text' records' : List ℕ} (flaw : Flaw) (piece : ℕ) {name span span' : ℕ} (x : Stopped (bad_argument flaw piece) (normalised s) text text' records records' name span)
        → span' ≡ part_word (normal_site s x.source) → ParseActions s text text' work work' records records' (Err (BadArgument flaw piece name span'))
    actions_bad flaw piece x m = stopped_met (bad_argument flaw piece) (resited_as (no_argument flaw) piece) x (record { answer = rw (x.counted, m); texts = x.written; words = x.cleared })

    pub actions_unknown : {text' records' : List ℕ} (piece : ℕ) {name span span' : ℕ} (x : Stopped (unknown_action piece) (normalised s) text text' records records' name span)
        → span' ≡ part_word (normal_site s x.source) → ParseActions s text text' work work' records records' (Err (UnknownAction piece name span'))
    actions_unknown piece x m = stopped_met (unknown_action piece) (resited_as no_action piece) x (record { answer = rw (x.counted, m); texts = x.written; words = x.cleared })

-- ---- a setvar alone

-- one action, stored at the front of both buffers
pub laid_alone : (x : Action) (y : Part) {text text' records records' : List ℕ} {used : ℕ} → Put x (part_word y) 0 0 text text' records records' used
    → Laid (sourced x y ∷ []) 0 0 text text' records records' 1 used
unfolding texts_of records_of stored_each
laid_alone x y p = record {
  counted = omega arith;
  used_is = omega (arith, p.end, ap length (append-nil (action_text x)));
  written = p.texts ∙ rw append-nil;
  recorded = p.words;
}

module _ (s text records : List ℕ) {g : (Result Unit GateError)} (e : g ≡ gate_of s (length text) (length s + 3)) where
  pub alone_refused : (h : GateError) → g ≡ Err h → SetvarAlone s text text records records (Err (Gate h))
  unfolding setvar_outcome
  alone_refused TooLong f = let z = sym e ∙ f in record { answer = rw z; texts = rw z; words = rw z }
  alone_refused (NotAscii p) f = let z = sym e ∙ f in record { answer = rw z; texts = rw z; words = rw z }
  alone_refused Short f = let z = sym e ∙ f in record { answer = rw z; texts = rw z; words = rw z }

  -- the trimmed input's span is a word
  pub alone_narrow : g ≡ (Ok tt) → ((trimmed_part s).first ≤ (trimmed_part s).past) × ((trimmed_part s).past < span_base)
  alone_narrow f =
      let o = (open_is s (length text) (length s + 3)).0 (sym e ∙ f) in
      (omega arith, omega (arith, o.within, ends_fit white s))

  -- the one action fits, and stands laid out
  module _ (f : g ≡ (Ok tt)) (plan : Plan) (p : Planned s plan (setvar_action set_var_code (setvar s))) where
    pub alone_room : (length (action_text (plan_action s plan)) ≤ length text) × (length (action_text (plan_action s plan)) < span_base)
    alone_room =
        let o = (open_is s (length text) (length s + 3)).0 (sym e ∙ f) in
        let h : length (action_text (plan_action s plan)) ≤ length s + 3 = rw p.means (setvar_text_lem set_var_code s) in
        (omega (arith, h, o.room), omega (arith, h, o.within))

    pub alone_read : {text₁ text' records₁ records' : List ℕ} {used : ℕ} {r : Result Read ActionsError} → Put (plan_action s plan) (part_word (trimmed_part s)) 0 0 text text₁ records records₁ used
        → Ended used 1 text₁ text' records₁ records' r → SetvarAlone s text text' records records' r
    alone_read x y =
        let b = setvar_by s (length text) (length records) (Ok tt) (sym e ∙ f) in
        let m = finished_met (laid_alone (setvar_action set_var_code (setvar s)) (trimmed_part s) (rw p.means at x)) (omega (arith, x.end, alone_room)) y in
        record { answer = rw b m.answer; texts = rw b m.texts; words = rw b m.words }
