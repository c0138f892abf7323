-- The theorem of M-104: what is underlined is what was read.
-- The idea: a site carries every part of an argument's text to bytes of the package that read as that part; so it does with the pieces
-- of the text, and with what is read from them. A directive's arguments are tokens of its package.
use Rattle.std.specs.Prelude.{Result, Ok, Err}
use mathlib.Core.Path.{◌≡◌, ◌∙◌, refl, sym, ap, subst}
use mathlib.Core.Bool.{Bool, true, false}
use mathlib.Core.List.{List, [], ◌∷◌, map, append-nil}
use Prim.Native.Nat.{ℕ, ◌+◌, ◌-◌, ◌≤◌}
use native.Mathlib.Omega.{arith}
use lib.ListN.{length, take, drop, get_or, length-take, length-drop}
use lib.Dec.{ltb}
use Rattle.ascii.specs.Choice.{pick}
use Rattle.ascii.specs.Classes.{white}
use Rattle.ascii.specs.Trim.{leading_white, trim_ends, trimmed_part}
use Rattle.ascii.proofs.TrimLaws.{ends_are}
use Rattle.lent.specs.Sources.{Part, part, Sourced, sited_all}
use Rattle.lent.specs.Table.{too_long, not_ascii, short_buffer, no_room, named, no_action, no_argument, no_variable, unknown_operator, bad_cursor, resited, Outcome, refuses, reads, sited_outcome}
use Rattle.lexer.specs.declared.Cursor.{Cursor}
use Rattle.lexer.specs.declared.Kind.{Kind}
use Rattle.lexer.specs.declared.Kind.TheVariants.{Directive, Word, QuotedString, Comment, Newline}
use Rattle.lexer.specs.Tokens.{Token, reading}
use Rattle.lexer.specs.Layout.{text_of}
use Rattle.lexer.specs.Places.{Placed, All, nil, cons}
use Rattle.lexer.proofs.PlaceLaws.{all_map, places}
use Rattle.places.specs.declared.Rule.{Rule}
use Rattle.places.specs.Sites.{site_of}
use Rattle.places.proofs.SiteLaws.{site_bounds}
use Rattle.single_action.specs.Actions.{Action}
use Rattle.actions.specs.Normal.{normalised}
use Rattle.actions.specs.Lists.{normal_site, actions_of}
use Rattle.variables.specs.Parts.{pieces}
use Rattle.variables.specs.Variables as Of
use Rattle.variables.specs.Steps.{excluding_of, targets_of}
use Rattle.variables.specs.declared.singles.Exclusions.{Exclusions}
use Rattle.variables.specs.declared.singles.Exclusions.TheVariants.{AsWritten, LookedUp}
use Rattle.operators.specs.Operators as Operator
use Rattle.operators.specs.Places.{name_place}
use Rattle.operators.specs.Promises.{outcome_of}
use Rattle.operators.proofs.PromiseLaws.{refused_inside, refused_stands}
use Rattle.directives.specs.Groups.{Item, joined, stray, argument_by, arguments_of, item_by, items}
use Rattle.directives.specs.Directives as Whole
use Rattle.directives.proofs.VersionLaws.{for_holds}
use Rattle.directives.specs.declared.shapes.Shape.{Shape}
use Rattle.directives.specs.declared.shapes.Shape.TheVariants.{Rule as of_rule, Action as of_action, Marker as of_marker, Defaults as of_defaults, Other as of_other}
use Rattle.directives.specs.Directives.{shape_of, listed_by, rule_by, act_by, told, body_by, is_mark, between, site_at, standing, argument_site, list_site, list_number, refusal_site, sited, last_past, placed, directive_of, item_read, before, over, ending, end_of}
use Rattle.demands.specs.Underline.{bytes_in, whole, as_they_are, Each, ActionThere, ActionsThere, TargetsThere, Among, here, there, IsArgument, lexed, listed, Argument, ActionIn, BodyIn, EndsIn, DirectiveIn, RefusalIn, FaultIn, PackageIn, Underline}
use Rattle.demands.proofs.TokenTexts.{Stands, tokens_stand}
use Rattle.demands.proofs.UnderlineLaws.{Carries, plain_carries, normal_carries, site_carries, both_carries, list_there_lem, sited_targets, targets_there, hanging_there, targets_still}
use Rattle.demands.proofs.UnderlineCalls.{actions_told, variables_told, update_targets_told, directives_told}

pub each_map : {A : Type 0} {P Q : A → Type 0} → ((x : A) → P x → Q x) → (xs : List A) → Each P xs → Each Q xs
each_map f [] w = tt
each_map f (x ∷ xs) w = (f x w.0, each_map f xs w.1)

-- ---- the arguments of a package

all_among : (ts : List Token) → All (λ t. Among t ts) ts
all_among [] = nil
all_among (t ∷ ts) = cons here (all_map (λ u a. there a) (all_among ts))

one_among : {P : Token → Type 0} {t : Token} {ts : List Token} → All P ts → Among t ts → P t
one_among (cons p ps) here = p
one_among (cons p ps) (there a) = one_among ps a
one_among nil a = elim a [ ]

module _ (s : List ℕ) where
  abbrev Carried : Kind → Token → Type 0
  Carried k t = Carries (lexed k) s (standing t) (site_at s (standing t)) t.text

  -- a word from its first byte on, a quoted text from behind its mark on
  token_carries : (k : Kind) (t : Token) → IsArgument k → Stands k s t → Placed s t → Carried k t
  unfolding site_at
  token_carries Directive t a h p = absurd a
  token_carries Word t a h p = record {
    carry = λ y o l.
        rw h.mark (site_carries Rule.Word s t.first t.past t.text [] (omega (arith, p.some)) p.inside (h.text ∙ sym (append-nil t.text)) y o l);
  }
  token_carries QuotedString t a h p = record {
    carry = λ y o l.
        let u = site_carries Rule.Quoted s (t.first + 1) t.past t.text h.close (omega (arith, p.some)) p.inside h.text y o l in
        rw h.mark (record { some = u.some; from = omega (arith, u.from); upto = u.upto; reads = u.reads });
  }
  token_carries Comment t a h p = absurd a
  token_carries Newline t a h p = absurd a

  carries : (t : Token) → Argument s t → Carried t.kind t
  carries t a = token_carries t.kind t a.kind (one_among (tokens_stand s) a.among) (one_among (places s) a.among)

  -- wherever a part of its text is put, it is in the package
  site_ends : (t : Token) → Argument s t → (x : Part) → EndsIn s (site_at s (standing t) x)
  unfolding site_at
  site_ends t a x = go (is_mark (get_or s t.first 0))
    where
      p : Placed s t
      p = one_among (places s) a.among

      put : (rule : Rule) (k : ℕ) → k ≤ t.past → EndsIn s (site_of rule k (between s k t.past) x)
      put rule k h =
          let b = site_bounds rule k (between s k t.past) x in
          let n : k + length (between s k t.past) ≤ length s = rw (length-take, length-drop) (omega (arith, p.inside)) in
          (omega (arith, b.order, b.high), omega (arith, b.high))

      go : (u : Bool) → EndsIn s (pick u (site_of Rule.Quoted (t.first + 1) (between s (t.first + 1) t.past)) (site_of Rule.Word t.first (between s t.first t.past)) x)
      go true = put Rule.Quoted (t.first + 1) (omega (arith, p.some))
      go false = put Rule.Word t.first (omega (arith, p.some))

  list_carries : (t : Token) → Argument s t → Carries (listed t.kind) s (standing t) (λ x. site_at s (standing t) (normal_site t.text x)) (normalised t.text)
  list_carries t a = both_carries (carries t a)

  -- what a directive takes
  arguments_are : (ts : List Token) → All (λ t. Among t (reading s).tokens) ts → All (Argument s) (arguments_of ts)
  unfolding arguments_of
  arguments_are [] nil = nil
  arguments_are (t ∷ ts) (cons h hs) = go t.kind refl (arguments_are ts hs)
    where
      one : (k : Kind) → t.kind ≡ k → IsArgument k → Argument s t
      one k e a = record { among = h; kind = subst IsArgument (sym e) a; inside = (one_among (places s) h).inside }

      go : (k : Kind) → t.kind ≡ k → All (Argument s) (arguments_of ts) → All (Argument s) (argument_by k t (arguments_of ts))
      go Directive e w = nil
      go Word e w = cons (one Word e tt) w
      go QuotedString e w = cons (one QuotedString e tt) w
      go Comment e w = nil
      go Newline e w = nil

  abbrev Taken : List Item → Type 0
  Taken [] = Unit {0}
  Taken (joined t args ∷ xs) = (EndsIn s (standing t) × All (Argument s) args) × Taken xs
  Taken (stray t ∷ xs) = Taken xs

  items_are : (taking : Bool) (ts : List Token) → All (λ t. Among t (reading s).tokens) ts → Taken (items taking ts)
  unfolding items
  items_are taking [] nil = tt
  items_are taking (t ∷ ts) (cons h hs) = go t.kind taking (items_are true ts hs) (items_are false ts hs)
    where
      go : (k : Kind) (taking : Bool) → Taken (items true ts) → Taken (items false ts) → Taken (item_by k taking t ts (λ now. items now ts))
      go Directive taking a b = let p = one_among (places s) h in (((omega (arith, p.some, p.inside), p.inside), arguments_are ts hs), a)
      go Word true a b = a
      go Word false a b = b
      go QuotedString true a b = a
      go QuotedString false a b = b
      go Comment taking a b = b
      go Newline taking a b = b

  -- ---- one directive

  abbrev BodyFound : Result Whole.Body Whole.Fault → Type 0
  BodyFound (Err f) = FaultIn s f
  BodyFound (Ok x) = BodyIn s x

  -- a list of actions that is told of a directive with these arguments
  abbrev ActionsFound : Shape → List Token → Outcome (List (Sourced Action)) → Type 0
  ActionsFound shape args (refuses f) = RefusalIn s (resited (refusal_site s shape args f) f)
  ActionsFound shape args (reads xs) = Each (ActionIn s) (sited_all (list_site s (list_number shape) args) xs)

  -- and stands in its argument t
  module _ (t : Token) (a : Argument s t) (shape : Shape) (args : List Token)
      (is : (x : Part) → list_site s (list_number shape) args x ≡ site_at s (standing t) (normal_site t.text x)) where
    abbrev site : Part → Part
    site x = site_at s (standing t) (normal_site t.text x)

    each_in : (xs : List (Sourced Action)) → Each (ActionThere (listed t.kind) s (standing t)) (sited_all site xs)
        → Each (ActionIn s) (sited_all (list_site s (list_number shape) args) xs)
    each_in [] w = tt
    each_in (x ∷ xs) w = (rw (is x.source) (t, (a, w.0)), each_in xs w.1)

    list_found : (o : Outcome (List (Sourced Action))) → ActionsThere (listed t.kind) s (standing t) (sited_outcome site o) → ActionsFound shape args o
    list_found (refuses (named no_action k name x)) w = rw (is x) (t, (a, w))
    list_found (refuses (named (no_argument flaw) k name x)) w = rw (is x) (t, (a, w))
    list_found (refuses (named no_variable k name x)) w = absurd w
    list_found (refuses (unknown_operator p n x)) w = absurd w
    list_found (refuses too_long) w = absurd w
    list_found (refuses (not_ascii p)) w = absurd w
    list_found (refuses short_buffer) w = absurd w
    list_found (refuses (no_room n)) w = absurd w
    list_found (refuses bad_cursor) w = absurd w
    list_found (reads xs) w = each_in xs w

    actions_found : ActionsFound shape args (Whole.actions_read t.text)
    actions_found = list_found (Whole.actions_read t.text) (list_there_lem (list_carries t a))

  -- a rule, by what its arguments are read to
  module _ (l : ℕ) (v o : Token) (rest : List Token) (a : Argument s v) (b : Argument s o) where
    abbrev args : List Token
    args = v ∷ o ∷ rest

    rule_found : (ts : Of.Targets) (op : Operator.Reading) (ks : Outcome (List (Sourced Action)))
        → TargetsThere (lexed v.kind) s (standing v) AsWritten (sited_targets (site_at s (standing v)) ts) → Operator.operator o.text ≡ op
        → ActionsFound of_rule args ks → BodyFound (sited s of_rule args (told l (rule_by (listed_by ts) (outcome_of o.text op) ks)))
    unfolding argument_site
    rule_found (Of.refused i name x) op ks w e h = (v, (a, w))
    rule_found (Of.targets vs es) (Operator.unknown name) ks w e h =
        let n : ℕ = name_place o.text in
        (o, (b, (site_ends o b (part n (n + length name)), λ some. (carries o b).carry (part n (n + length name)) (omega (arith, some)) (refused_inside o.text name e))))
    rule_found (Of.targets vs es) (Operator.accepted x) (refuses f) w e h = h
    rule_found (Of.targets vs es) (Operator.accepted x) (reads xs) w e h = (
      (each_map (λ x k. (v, (a, k))) (sited_all (site_at s (standing v)) vs) w.0, each_map (λ x k. (v, (a, k))) (sited_all (site_at s (standing v)) es) w.1),
      h,
    )

    rule_there : (ks : Outcome (List (Sourced Action))) → ActionsFound of_rule args ks
        → BodyFound (sited s of_rule args (told l (rule_by (Whole.variables_read v.text) (Whole.operator_read o.text) ks)))
    unfolding targets_of
    rule_there ks h =
        let c = carries v a in
        rule_found (targets_of AsWritten v.text) (Operator.operator o.text) ks
        (hanging_there c AsWritten AsWritten (Of.read_all (excluding_of AsWritten) (pieces v.text)) (targets_there c AsWritten)) refl h

  -- a list of actions alone
  act_there : (l : ℕ) (t : Token) (o : Outcome (List (Sourced Action))) → ActionsFound of_action (t ∷ []) o → BodyFound (sited s of_action (t ∷ []) (told l (act_by Whole.act o)))
  act_there l t (refuses f) w = w
  act_there l t (reads xs) w = w

  defaults_there : (l : ℕ) (t : Token) (o : Outcome (List (Sourced Action))) → ActionsFound of_defaults (t ∷ []) o
      → BodyFound (sited s of_defaults (t ∷ []) (told l (act_by Whole.defaults o)))
  defaults_there l t (refuses f) w = w
  defaults_there l t (reads xs) w = w

  body_there : (shape : Shape) (l : ℕ) (name : List ℕ) (args : List Token) → All (Argument s) args → BodyFound (sited s shape args (body_by shape l name (map text_of args)))
  unfolding list_site
  body_there of_rule l name [] nil = tt
  body_there of_rule l name (v ∷ []) (cons a nil) = tt
  body_there of_rule l name (v ∷ o ∷ []) (cons a (cons b nil)) = rule_there l v o [] a b (reads []) tt
  body_there of_rule l name (v ∷ o ∷ t ∷ []) (cons a (cons b (cons c nil))) =
      rule_there l v o (t ∷ []) a b (Whole.actions_read t.text) (actions_found t c of_rule (v ∷ o ∷ t ∷ []) (λ x. refl))
  body_there of_rule l name (v ∷ o ∷ t ∷ x ∷ xs) w = tt
  body_there of_action l name [] nil = tt
  body_there of_action l name (t ∷ []) (cons a nil) = act_there l t (Whole.actions_read t.text) (actions_found t a of_action (t ∷ []) (λ x. refl))
  body_there of_action l name (t ∷ x ∷ xs) w = tt
  body_there of_marker l name [] nil = tt
  body_there of_marker l name (t ∷ []) w = tt
  body_there of_marker l name (t ∷ x ∷ xs) w = tt
  body_there of_defaults l name [] nil = tt
  body_there of_defaults l name (t ∷ []) (cons a nil) = defaults_there l t (Whole.actions_read t.text) (actions_found t a of_defaults (t ∷ []) (λ x. refl))
  body_there of_defaults l name (t ∷ x ∷ xs) w = tt
  body_there of_other l name ts w = tt

  -- ---- all directives

  abbrev OneFound : Result Whole.Directive Whole.Fault → Type 0
  OneFound (Err f) = FaultIn s f
  OneFound (Ok d) = DirectiveIn s d

  placed_there : (l first past : ℕ) (x : Result Whole.Body Whole.Fault) → EndsIn s (part first past) → BodyFound x → OneFound (placed l first past x)
  placed_there l first past (Err f) e w = w
  placed_there l first past (Ok x) e w = (e, w)

  last_in : (p : ℕ) (args : List Token) → p ≤ length s → All (Argument s) args → last_past p args ≤ length s
  unfolding last_past
  last_in p [] h nil = h
  last_in p (t ∷ ts) h (cons a w) = last_in t.past ts a.inside w

  before_there : (x : Result Whole.Directive Whole.Fault) (o : Result (List Whole.Directive) Whole.Fault) → OneFound x → PackageIn s o → PackageIn s (before x o)
  before_there (Err f) o h w = h
  before_there (Ok d) (Err f) h w = w
  before_there (Ok d) (Ok ds) h w = (h, w)

  ending_there : (o : Result (List Whole.Directive) Whole.Fault) → PackageIn s o → (xs : List Item) → Taken xs → PackageIn s (ending s o xs)
  unfolding over item_read directive_of
  ending_there o w [] h = w
  ending_there o w (joined t args ∷ xs) h =
      before_there (item_read s (joined t args)) (ending s o xs)
      (placed_there t.line.0 t.first (last_past t.past args) (sited s (shape_of t.text) args (body_by (shape_of t.text) t.line.0 t.text (map text_of args)))
      (h.0.0.0, last_in t.past args h.0.0.1 h.0.1)
      (body_there (shape_of t.text) t.line.0 t.text args h.0.1))
      (ending_there o w xs h.1)
  ending_there o w (stray t ∷ xs) h = tt

  end_there : (n : ℕ) (c : Cursor) → PackageIn s (end_of n c)
  unfolding end_of
  end_there n c = go (ltb c.place n)
    where
      go : (u : Bool) → PackageIn s (pick u (Err (Whole.stopped c.line.0)) (Ok []))
      go true = tt
      go false = tt

  directives_there : PackageIn s (Whole.directives s)
  unfolding Whole.directives
  directives_there =
      ending_there (end_of (length s) (reading s).stop) (end_there (length s) (reading s).stop) (items false (reading s).tokens)
      (items_are false (reading s).tokens (all_among (reading s).tokens))

-- ---- inputs by themselves

actions_there : (s : List ℕ) → ActionsThere normalised s (whole s) (actions_of s)
unfolding actions_of
actions_there s = list_there_lem (normal_carries s)

targets_found : (n : Exclusions) (s : List ℕ) → TargetsThere as_they_are s (whole s) n (Of.read_all (excluding_of n) (pieces s))
targets_found n s = subst (TargetsThere _ s (whole s) n) (targets_still (Of.read_all (excluding_of n) (pieces s))) (targets_there (plain_carries s) n)

setvar_there : (s : List ℕ) → bytes_in s (trimmed_part s) ≡ trim_ends s
setvar_there s =
    let k : ℕ = leading_white s in
    let e : k + length (trim_ends s) - k ≡ length (trim_ends s) = omega arith in
    ap (λ (n : ℕ). take n (drop k s)) e ∙ ends_are white s

operator_there : (s name : List ℕ) → Operator.operator s ≡ Operator.unknown name → bytes_in s (part (name_place s) (name_place s + length name)) ≡ name
operator_there s name h =
    let e : name_place s + length name - name_place s ≡ length name = omega arith in
    ap (λ (n : ℕ). take n (drop (name_place s) s)) e ∙ refused_stands s name h

pub underline : Underline
underline = record {
  actions = actions_there;
  variables = targets_found;
  setvar = setvar_there;
  operator = operator_there;
  argument_part = λ s t a. (carries s t a).carry;
  list_part = λ s t a. (list_carries s t a).carry;
  directives = λ v s. for_holds (PackageIn s) (λ l. tt) v s (directives_there s);
  actions_called = λ i o p. actions_told i o p (actions_there i.0.input);
  variables_called = λ i o p. variables_told i o p (targets_found AsWritten i.input);
  update_targets_called = λ i o p. update_targets_told i o p (targets_found LookedUp i.input);
  directives_called = λ i o p. directives_told i o p (for_holds (PackageIn i.input) (λ l. tt) i.version i.input (directives_there i.input));
}
