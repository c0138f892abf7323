-- A record's spelling is its name and what stands behind it, the mark chosen by its texts.
use mathlib.Core.Path.{◌≡◌, ◌∙◌, refl, sym, ap, subst}
use mathlib.Core.Bool.{Bool, true, false}
use mathlib.Core.List.{List, [], ◌∷◌, ◌++◌, append-nil}
use Prim.Native.Nat.{ℕ, zero, suc, ◌+◌, ◌-◌, ◌/◌, ◌%◌}
use native.Mathlib.Omega.{arith}
use lib.Dec.{eqb, ltb}
use borrow.Author.Tests.{eqb-true, ne_eqb}
use types.Run.{OneOf, miss}
use denote.Enum.Declared.{tag_of}
use Rattle.ascii.specs.Choice.{pick, and, or}
use Rattle.ascii.specs.Text.{bytes}
use Rattle.ascii.specs.Fold.{lowered, same}
use Rattle.ascii.proofs.SameLaws.{never, and_left, and_right, same_true}
use Rattle.listing.specs.Json.{onto, decimal}
use Rattle.records.specs.Codes.{shapes, shape_of, known_by, is_kind, text_kind, has_b, has_c}
use Rattle.records.specs.declared.marking.Shape.{Shape}
use Rattle.records.specs.declared.marking.Shape.TheVariants.{NoCode as no_code, Bare as bare, One as one, Two as two, Setting as setting_shape}
use Rattle.records.specs.Actions.{Action, slot_text, action_text}
use Rattle.single_action.specs.contracts.naming.Rule.{the_type}
use Rattle.single_action.specs.Setvar.{SetValue, text, int, increment, decrement, delete, macro}
use Rattle.single_action.specs.declared.naming.Rule.{Rule}
use Rattle.single_action.specs.declared.naming.Rule.TheVariants.{Plain as plain, Wanted as wanted, Unmarked as unmarked, UpTo as up_to, Severity as severity, Equation as equation, Expiry as expiry, Setting as setting}
use Rattle.single_action.specs.Table.{Row, rows, Found, found, missing}
use Rattle.single_action.specs.Plans.{cut}
use Rattle.spelled.specs.Spelling.{coded, has, marked, signed, value_in, setvar_in, bang, tail, setvar_text, argument, with_argument, spell_by, spell}
use Rattle.spelled.specs.Texts.{rule_in}
use Rattle.spelled.specs.Steps.{slot_of, entry_action, name_in, name_for, rule_for, mark_for, behind_name}
use Rattle.spelled.specs.declared.entries.Entry.{Entry}

-- ---- the mark

-- no other rule has one
pub mark_none : (r : Rule) (t : List ℕ) → OneOf (0 ∷ 1 ∷ 3 ∷ 4 ∷ 5 ∷ 6 ∷ []) (tag_of the_type r) → 0 ≡ mark_for r t
mark_none plain t h = refl
mark_none wanted t h = refl
mark_none unmarked t h = absurd (miss (0 ∷ 1 ∷ 3 ∷ 4 ∷ 5 ∷ 6 ∷ []) 2 tt h)
mark_none (up_to most) t h = refl
mark_none severity t h = refl
mark_none equation t h = refl
mark_none expiry t h = refl
mark_none setting t h = absurd (miss (0 ∷ 1 ∷ 3 ∷ 4 ∷ 5 ∷ 6 ∷ []) 7 tt h)

-- ---- a byte in a text

or_none : (t : Bool) → or t false ≡ t
or_none true = refl
or_none false = refl

has_append : (m : ℕ) (s t : List ℕ) → has m (s ++ t) ≡ or (has m s) (has m t)
unfolding has
has_append m [] t = refl
has_append m (b ∷ s) t = ap (or (eqb b m)) (has_append m s t) ∙ go (eqb b m) (has m s) (has m t)
  where
    go : (x y z : Bool) → or x (or y z) ≡ or (or x y) z
    go true y z = refl
    go false y z = refl

-- digits are no mark
has_onto : (k n : ℕ) (r : List ℕ) → has 39 r ≡ false → has 39 (onto k n r) ≡ false
unfolding onto has
has_onto zero n r e = e
has_onto (suc k) n r e = go (ltb n 10) (rw (ne_eqb (48 + n) 39 (λ z. omega arith)) e) (has_onto k (n / 10) ((48 + n % 10) ∷ r) (rw (ne_eqb (48 + n % 10) 39 (λ z. omega arith)) e))
  where
    go : (t : Bool) → has 39 ((48 + n) ∷ r) ≡ false → has 39 (onto k (n / 10) ((48 + n % 10) ∷ r)) ≡ false
        → has 39 (pick t ((48 + n) ∷ r) (onto k (n / 10) ((48 + n % 10) ∷ r))) ≡ false
    go true a b = a
    go false a b = b

has_decimal : (n : ℕ) → has 39 (decimal n) ≡ false
unfolding decimal has
has_decimal n = has_onto 20 n [] refl

has_signed : (n : ℕ) → has 39 (signed n) ≡ false
unfolding signed has
has_signed n = go (ltb n 9223372036854775808)
  where
    go : (t : Bool) → has 39 (pick t (decimal n) (45 ∷ decimal (18446744073709551616 - n))) ≡ false
    go true = has_decimal n
    go false = has_decimal (18446744073709551616 - n)

-- ---- a setvar's text

has_bang : (v : SetValue) → has 39 (bang v) ≡ false
unfolding has
has_bang (text t) = refl
has_bang (int n) = refl
has_bang (increment n) = refl
has_bang (decrement n) = refl
has_bang delete = refl
has_bang (macro t) = refl

-- a text 1 is left out, and holds no mark
has_text : (t : List ℕ) → has 39 (tail (text t)) ≡ has 39 t
unfolding has bytes
has_text t = go (same t (49 ∷ [])) (λ e. ap (has 39) (same_true t (49 ∷ []) e))
  where
    go : (w : Bool) → (w ≡ true → has 39 t ≡ has 39 (49 ∷ [])) → has 39 (pick w [] (61 ∷ t)) ≡ has 39 t
    go true e = sym (e refl)
    go false e = refl

-- a kind without a text has none
kind_none : (k j : ℕ) (t : List ℕ) → (text_kind k ≡ false → t ≡ []) → text_kind j ≡ false → eqb k j ≡ true → has 39 t ≡ false
unfolding has
kind_none k j t h e q =
    let p : k ≡ j = eqb-true k j q in
    ap (has 39) (h (rw p e))

has_tail : (k n : ℕ) (t : List ℕ) → (text_kind k ≡ false → t ≡ []) → has 39 (tail (value_in k n t)) ≡ has 39 t
unfolding value_in has
has_tail k n t h = go (eqb k 1) (eqb k 2) (eqb k 3) (eqb k 4) (eqb k 6) (kind_none k 2 t h refl) (kind_none k 3 t h refl) (kind_none k 4 t h refl) (λ p u. ap (has 39) (h (rw (p, u))))
  where
    go : (p q r s u : Bool) → (q ≡ true → has 39 t ≡ false) → (r ≡ true → has 39 t ≡ false) → (s ≡ true → has 39 t ≡ false) → (p ≡ false → u ≡ false → has 39 t ≡ false)
        → has 39 (tail (pick p (text t) (pick q (int n) (pick r (increment n) (pick s (decrement n) (pick u (macro t) delete)))))) ≡ has 39 t
    go true q r s u a b c d = has_text t
    go false true r s u a b c d = has_decimal n ∙ sym (a refl)
    go false false true s u a b c d = has_signed n ∙ sym (b refl)
    go false false false true u a b c d = has_signed n ∙ sym (c refl)
    go false false false false true a b c d = refl
    go false false false false false a b c d = sym (d refl refl)

pub has_setvar : (x : Action) → (text_kind x.kind ≡ false → slot_text x.c ≡ []) → has 39 (setvar_text (setvar_in x)) ≡ has 39 (action_text x)
unfolding setvar_text action_text has
has_setvar x h =
    let v = value_in x.kind x.number (slot_text x.c) in
    let a = slot_text x.a in
    let b = slot_text x.b in
    has_append 39 (bang v) (a ++ (46 ∷ (b ++ tail v)))
    ∙ ap (λ (w : Bool). or w (has 39 (a ++ (46 ∷ (b ++ tail v))))) (has_bang v)
    ∙ has_append 39 a (46 ∷ (b ++ tail v))
    ∙ ap (or (has 39 a)) (has_append 39 b (tail v) ∙ ap (or (has 39 b)) (has_tail x.kind x.number (slot_text x.c) h) ∙ sym (has_append 39 b (slot_text x.c)))
    ∙ sym (has_append 39 a (b ++ slot_text x.c))

-- ---- rules and shapes

abbrev is_one : Shape → Bool
is_one no_code = false
is_one bare = false
is_one one = true
is_one two = false
is_one setting_shape = false

abbrev is_setting : Shape → Bool
is_setting no_code = false
is_setting bare = false
is_setting one = false
is_setting two = false
is_setting setting_shape = true

-- a text in marks is the only one, and a setting's shape is its own
abbrev suits : Rule → Shape → Bool
suits plain s = true
suits wanted s = true
suits unmarked s = is_one s
suits (up_to most) s = true
suits severity s = true
suits equation s = true
suits expiry s = true
suits setting s = is_setting s

all_suit : List Row → Bool
all_suit [] = true
all_suit (r ∷ rs) = and (suits r.rule (shape_of r.code)) (all_suit rs)

all_suit_lem : all_suit rows ≡ true
unfolding all_suit rows shape_of shapes
all_suit_lem = refl

coded_suits : (rs : List Row) (k : ℕ) → all_suit rs ≡ true → suits (rule_in (coded rs k)) (shape_of k) ≡ true
unfolding coded all_suit
coded_suits [] k e = refl
coded_suits (r ∷ rs) k e = go (eqb r.code k) (λ p. subst (λ (j : ℕ). suits r.rule (shape_of j) ≡ true) (eqb-true r.code k p) (and_left (suits r.rule (shape_of r.code)) (all_suit rs) e)) (coded_suits rs k (and_right (suits r.rule (shape_of r.code)) (all_suit rs) e))
  where
    go : (t : Bool) → (t ≡ true → suits r.rule (shape_of k) ≡ true) → suits (rule_in (coded rs k)) (shape_of k) ≡ true → suits (rule_in (pick t (found r) (coded rs k))) (shape_of k) ≡ true
    go true a b = a refl
    go false a b = b

suited : (k : ℕ) → suits (rule_for k) (shape_of k) ≡ true
unfolding rule_for
suited k = go (eqb k 32)
  where
    go : (t : Bool) → suits (pick t wanted (rule_in (coded rows k))) (shape_of k) ≡ true
    go true = refl
    go false = coded_suits rows k all_suit_lem

-- what is known of a setting's kind
pub setting_kind : (k kind : ℕ) → rule_for k ≡ setting → known_by (shape_of k) kind ≡ true → is_kind kind ≡ true
setting_kind k kind e = go (shape_of k) (subst (λ (r : Rule). suits r (shape_of k) ≡ true) e (suited k))
  where
    go : (s : Shape) → is_setting s ≡ true → known_by s kind ≡ true → is_kind kind ≡ true
    go no_code w h = absurd (never cc)
    go bare w h = absurd (never cc)
    go one w h = absurd (never cc)
    go two w h = absurd (never cc)
    go setting_shape w h = h

-- ---- the spelling

-- a text that its shape does not have is empty
pub record Shaped (x : Action) : Type 0 where
  pub second : has_b (shape_of x.code) ≡ false → slot_text x.b ≡ []
  pub third : has_c (shape_of x.code) x.kind ≡ false → slot_text x.c ≡ []

module _ (x : Action) (known : Shaped x) where
  -- beside the text in marks there is none
  one_text : is_one (shape_of x.code) ≡ true → has 39 (action_text x) ≡ has 39 (slot_text x.a)
  unfolding action_text has
  one_text w =
      let n : (has_b (shape_of x.code) ≡ false) × (has_c (shape_of x.code) x.kind ≡ false) = go (shape_of x.code) w in
      rw (known.second n.0, known.third n.1) (has_append 39 (slot_text x.a) [] ∙ or_none (has 39 (slot_text x.a)))
    where
      go : (s : Shape) → is_one s ≡ true → (has_b s ≡ false) × (has_c s x.kind ≡ false)
      go no_code e = absurd (never cc)
      go bare e = absurd (never cc)
      go one e = (refl, refl)
      go two e = absurd (never cc)
      go setting_shape e = absurd (never cc)

  setting_text : is_setting (shape_of x.code) ≡ true → has 39 (setvar_text (setvar_in x)) ≡ has 39 (action_text x)
  setting_text w = has_setvar x (go (shape_of x.code) w known.third)
    where
      go : (s : Shape) → is_setting s ≡ true → (has_c s x.kind ≡ false → slot_text x.c ≡ []) → text_kind x.kind ≡ false → slot_text x.c ≡ []
      go no_code e h = absurd (never cc)
      go bare e h = absurd (never cc)
      go one e h = absurd (never cc)
      go two e h = absurd (never cc)
      go setting_shape e h = h

  by_rule : (n : List ℕ) (r : Rule) → suits r (shape_of x.code) ≡ true → with_argument n (argument r x) ≡ n ++ behind_name r (mark_for r (action_text x)) x
  unfolding argument behind_name marked
  by_rule n plain w = sym (append-nil n)
  by_rule n wanted w = refl
  by_rule n unmarked w = rw (one_text w)
  by_rule n (up_to most) w = refl
  by_rule n severity w = refl
  by_rule n equation w = refl
  by_rule n expiry w = refl
  by_rule n setting w = rw (setting_text w)

  transformation : 116 ∷ 58 ∷ slot_text x.a ≡ bytes "t" ++ behind_name wanted 0 x
  unfolding bytes behind_name
  transformation = refl

  nothing : [] ≡ [] ++ behind_name plain 0 x
  unfolding behind_name
  nothing = refl

  pub spell_is : spell x ≡ name_for x.code ++ behind_name (rule_for x.code) (mark_for (rule_for x.code) (action_text x)) x
  unfolding spell name_for rule_for
  spell_is = go (eqb x.code 32) (coded rows x.code) (suited x.code)
    where
      go : (t : Bool) (f : Found) → suits (pick t wanted (rule_in f)) (shape_of x.code) ≡ true
          → pick t (116 ∷ 58 ∷ slot_text x.a) (spell_by f x) ≡ pick t (bytes "t") (name_in f) ++ behind_name (pick t wanted (rule_in f)) (mark_for (pick t wanted (rule_in f)) (action_text x)) x
      go true f w = transformation
      go false missing w = nothing
      go false (found r) w = by_rule (lowered r.name) r.rule w

-- the action of an entry has no text but its shape's
shaped_entry : (s : List ℕ) (e : Entry) → Shaped (entry_action s e)
unfolding entry_action
shaped_entry s e = record { second = go (has_b (shape_of e.code)) (cut s e.second e.third); third = go (has_c (shape_of e.code) e.kind) (cut s e.third e.past) }
  where
    go : (w : Bool) (t : List ℕ) → w ≡ false → slot_text (slot_of w t) ≡ []
    go true t h = absurd (never cc)
    go false t h = refl

pub spell_entry : (s : List ℕ) (e : Entry) →
    spell (entry_action s e) ≡ name_for e.code ++ behind_name (rule_for e.code) (mark_for (rule_for e.code) (action_text (entry_action s e))) (entry_action s e)
unfolding entry_action
spell_entry s e = spell_is (entry_action s e) (shaped_entry s e)

-- the same with the rule and the mark that the code has
pub entry_spelled : (s : List ℕ) (e : Entry) (rule : Rule) (mark : ℕ) → rule ≡ rule_for e.code → mark ≡ mark_for rule (action_text (entry_action s e)) →
    spell (entry_action s e) ≡ name_for e.code ++ behind_name rule mark (entry_action s e)
entry_spelled s e rule mark r m = rw (m, r) (spell_entry s e)
