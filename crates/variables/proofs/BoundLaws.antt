-- How many records a list can need: a variable takes two bytes at least, an exclusion one, or two where it is looked up, and a bar stands between two pieces.
-- So n bytes of variables need at most n / 2 records (`TX|!|!`), and n bytes of update targets (n + 1) / 3 (`TX|TX|TX`).
use Rattle.std.specs.Prelude.{Option, Some, None, Result}
use mathlib.Core.Path.{◌≡◌, ◌∙◌, refl, ap, subst}
use mathlib.Core.Bool.{Bool, true, false}
use mathlib.Core.List.{List, [], ◌∷◌}
use Prim.Native.Nat.{ℕ, suc, ◌+◌, ◌*◌, ◌/◌, ◌≤◌, ◌<◌}
use native.Mathlib.Omega.{arith}
use lib.ListN.{length, length-append, length-map}
use lib.Dec.{eqb, leb}
use borrow.Author.Tests.{leb-true}
use Rattle.ascii.specs.Choice.{pick}
use Rattle.ascii.specs.Classes.{white}
use Rattle.ascii.specs.Text.{bytes}
use Rattle.ascii.specs.Fold.{upper, uppered}
use Rattle.ascii.specs.Trim.{trim_ends}
use Rattle.ascii.specs.Splits.{whole, halves, split}
use Rattle.ascii.proofs.TrimLaws.{ends_fit}
use Rattle.lent.specs.Sizes.{variable_words, room_for}
use Rattle.lent.specs.Sources.{Part, Sourced}
use Rattle.lent.specs.Buffers.{joined}
use Rattle.lent.proofs.SpanLaws.{room_is}
use Rattle.names.specs.Tables.{name_at}
use Rattle.names.specs.Variables.{variables, variable_code}
use Rattle.names.proofs.Tests.{every, at}
use Rattle.names.proofs.TableLaws.{find_none}
use Rattle.variables.specs.Parts.{cut, Piece, piece_texts, place_of, kept, filled_from, pieces_from, pieces}
use Rattle.variables.specs.Variables.{at_colon, front_of, Selection, none, selection, Single, variable, unknown, named, split_single, single, Variable, Targets, targets, refused, with_variable, with_exclusion, if_known, piece, read_all}
use Rattle.variables.specs.Steps.{excluding_of, excluded_of, kept_count, kept_of, hanging, targets_of}
use Rattle.variables.specs.Promises.{answer_given, ParseVariables, ParseUpdateTargets}
use Rattle.variables.specs.Calls.{AllMeant, needed}
use Rattle.variables.specs.declared.Read.{Read}
use Rattle.variables.specs.declared.VariablesError.{VariablesError}
use Rattle.variables.specs.declared.singles.Exclusions.{Exclusions}
use Rattle.variables.specs.declared.singles.Exclusions.TheVariants.{AsWritten, LookedUp}
use Rattle.variables.proofs.PartLaws.{spread, cut_spread}
use Rattle.variables.proofs.FitLaws.{total}
use Rattle.variables.proofs.CoreLaws.{targets_read}
use Rattle.variables.proofs.MeantLaws.{understood}
use Rattle.variables.proofs.PromiseLaws.{variables_of, exclusions_of, needed_is, parse_variables_numbers, parse_update_targets_numbers}

-- ---- the pieces, with the bars between them

kept_spread : (t : List ℕ) (x : Part) (qs : List Piece) → total (kept t x qs) + length (kept t x qs) ≤ suc (length t + (total qs + length qs))
unfolding joined
kept_spread [] x qs = omega arith
kept_spread (b ∷ t) x qs = omega (arith, length-append (b ∷ t) (joined (piece_texts qs)))

filled_spread : (k : ℕ) (l : List (List ℕ)) → total (filled_from k l) + length (filled_from k l) ≤ spread l
unfolding filled_from joined
filled_spread k [] = omega arith
filled_spread k (p ∷ ps) =
    let j = k + length p + 1 in
    omega (arith, kept_spread (trim_ends p) (place_of k p) (filled_from j ps), filled_spread j ps, ends_fit white p, length-append p (joined ps))

pieces_spread : (s : List ℕ) → total (pieces s) + length (pieces s) ≤ suc (length s)
unfolding pieces_from
pieces_spread s = omega (arith, filled_spread 0 (cut s), cut_spread s)

-- ---- one piece

all_long : every (λ k. leb 2 (length (name_at variables k))) (length variables) ≡ true
unfolding every variables bytes
all_long = refl

no_variable_lem : (name : List ℕ) → length name ≤ 1 → variable_code name ≡ None
unfolding variable_code
no_variable_lem name h = find_none variables (uppered name) other
  where
    other : (k : ℕ) → k < length variables → name_at variables k ≡ uppered name → ⊥
    other k l e =
        let f = leb-true 2 (length (name_at variables k)) (at (λ k. leb 2 (length (name_at variables k))) (length variables) all_long k l) in
        omega (arith, f, ap length e, length-map name upper)

-- what comes of n bytes: a variable of two at least
abbrev Wide : ℕ → Single → Type 0
Wide n (variable v) = 2 ≤ n
Wide n (unknown name) = Unit {0}

unnamed : (n : ℕ) (name : List ℕ) (counts : Bool) (chosen : Selection) → length name ≤ 1 → Wide n (named (variable_code name) name counts chosen)
unnamed n name counts chosen h = rw (no_variable_lem name h) tt

wide_enough : (n : ℕ) (x : Single) → 2 ≤ n → Wide n x
wide_enough n (variable v) h = h
wide_enough n (unknown name) h = tt

wide : (p : List ℕ) → Wide (length p) (single p)
unfolding single split
wide [] = unnamed 0 [] false none (omega arith)
wide (b ∷ []) = go (eqb b 38) (eqb b 58)
  where
    go : (t u : Bool) → Wide 1 (pick t (split_single (whole []) true) (split_single (pick u (halves [] []) (whole (b ∷ []))) false))
    go true u = unnamed 1 [] true none (omega arith)
    go false true = unnamed 1 [] false (selection []) (omega arith)
    go false false = unnamed 1 (b ∷ []) false none (omega arith)
wide (b ∷ c ∷ r) = wide_enough (length (b ∷ c ∷ r)) (single (b ∷ c ∷ r)) (omega arith)

-- ---- a list

-- the least that exclusions take, each with a bar
abbrev weighed : Exclusions → ℕ → ℕ
weighed AsWritten n = 2 * n
weighed LookedUp n = 3 * n

-- what pieces of so many bytes, counted with one more for each, may come to
abbrev Few : Exclusions → ℕ → Targets → Type 0
Few n k (targets vs es) = 3 * length vs + weighed n (length es) ≤ k
Few n k (refused i name x) = Unit {0}

none_few : (n : Exclusions) → Few n 0 (targets [] [])
none_few AsWritten = omega arith
none_few LookedUp = omega arith

more_few : (n : Exclusions) (j k : ℕ) (ts : Targets) → j ≤ k → Few n j ts → Few n k ts
more_few n j k (targets vs es) l h = omega arith
more_few n j k (refused i name x) l h = tt

variable_few : (n : Exclusions) (j k : ℕ) (x : Part) (y : Single) (ts : Targets) → Wide j y → Few n k ts → Few n (j + suc k) (with_variable x y ts)
variable_few n j k x (variable v) (targets vs es) w h = omega arith
variable_few n j k x (variable v) (refused i name z) w h = tt
variable_few n j k x (unknown name) (targets vs es) w h = tt
variable_few n j k x (unknown name) (refused i m z) w h = tt

written_few : (k : ℕ) (x : Part) (e : List ℕ) (ts : Targets) → Few AsWritten k ts → Few AsWritten (suc (length e) + suc k) (with_exclusion x e ts)
written_few k x e (targets vs es) h = omega arith
written_few k x e (refused i name z) h = tt

known_few : (k : ℕ) (x : Part) (l : Option ℕ) (name e : List ℕ) (ts : Targets) → 1 ≤ length e → Few LookedUp k ts → Few LookedUp (suc (length e) + suc k) (if_known x l name (with_exclusion x e ts))
known_few k x (Some c) name e (targets vs es) l h = omega arith
known_few k x (Some c) name e (refused i m z) l h = tt
known_few k x None name e ts l h = tt

excluding_few : (n : Exclusions) (k : ℕ) (x : Part) (e : List ℕ) (ts : Targets) → Few n k ts → Few n (suc (length e) + suc k) (excluding_of n x e ts)
unfolding split
excluding_few AsWritten k x e ts h = written_few k x e ts h
excluding_few LookedUp k x [] ts h = rw (no_variable_lem [] (omega arith)) tt
excluding_few LookedUp k x (b ∷ r) ts h = known_few k x (variable_code (front_of (at_colon (b ∷ r)))) (front_of (at_colon (b ∷ r))) (b ∷ r) ts (omega arith) h

piece_few : (n : Exclusions) (k : ℕ) (x : Part) (p : List ℕ) (ts : Targets) → Few n k ts → Few n (length p + suc k) (piece (excluding_of n) x p ts)
piece_few n k x [] ts h = variable_few n 0 k x (single []) ts (wide []) h
piece_few n k x (b ∷ r) ts h = go (eqb b 33)
  where
    go : (t : Bool) → Few n (suc (length r) + suc k) (pick t (excluding_of n x r ts) (with_variable x (single (b ∷ r)) ts))
    go true = excluding_few n k x r ts h
    go false = variable_few n (suc (length r)) k x (single (b ∷ r)) ts (wide (b ∷ r)) h

read_few : (n : Exclusions) (ps : List Piece) → Few n (total ps + length ps) (read_all (excluding_of n) ps)
unfolding read_all joined
read_few n [] = none_few n
read_few n (p ∷ ps) =
    more_few n (length p.text + suc (total ps + length ps)) (total (p ∷ ps) + suc (length ps)) (piece (excluding_of n) p.place p.text (read_all (excluding_of n) ps))
    (omega (arith, length-append p.text (joined (piece_texts ps))))
    (piece_few n (total ps + length ps) p.place p.text (read_all (excluding_of n) ps) (read_few n ps))

list_few : (n : Exclusions) (s : List ℕ) → Few n (suc (length s)) (read_all (excluding_of n) (pieces s))
list_few n s =
    more_few n (total (pieces s) + length (pieces s)) (suc (length s)) (read_all (excluding_of n) (pieces s)) (pieces_spread s) (read_few n (pieces s))

-- The bound for variables: with none of these no exclusion is kept, and with one there is a byte to spare.
abbrev Halved : ℕ → Targets → Type 0
Halved k (targets vs es) = 2 * (length vs + length es) ≤ k
Halved k (refused i name x) = Unit {0}

hung_few : (k : ℕ) (ts : Targets) → Few AsWritten (suc k) ts → Halved k (hanging AsWritten ts)
hung_few k (targets [] es) h = omega arith
hung_few k (targets (v ∷ vs) es) h = omega arith
hung_few k (refused i name x) h = tt

pub variables_most : (s : List ℕ) (vs : List (Sourced Variable)) (es : List (Sourced (List ℕ))) → targets_of AsWritten s ≡ targets vs es → 2 * (length vs + length es) ≤ length s
unfolding targets_of
variables_most s vs es e = subst (Halved (length s)) e (hung_few (length s) (read_all (excluding_of AsWritten) (pieces s)) (list_few AsWritten s))

-- The bound for update targets.
pub update_targets_most : (s : List ℕ) (vs : List (Sourced Variable)) (es : List (Sourced (List ℕ))) → targets_of LookedUp s ≡ targets vs es → 3 * (length vs + length es) ≤ length s + 1
unfolding targets_of
update_targets_most s vs es e =
    let h : 3 * length vs + 3 * length es ≤ suc (length s) = subst (Few LookedUp (suc (length s))) e (list_few LookedUp s) in
    omega arith

-- ---- with room for so many records, 4 is never given

-- what is read where every name is meant
meant_are : (n : Exclusions) (s : List ℕ) (a : AllMeant n (pieces s)) → targets_of n s ≡ targets (variables_of n s 0 a) (exclusions_of n s 0)
meant_are n s a =
    let u = understood n a in
    let es = excluded_of (pieces s) in
    targets_read n s u.vs u.read ∙ ap (λ (i : ℕ). targets u.vs (kept_of (kept_count n i (length es)) es)) u.count

crowded_never : (n : Exclusions) (s : List ℕ) (m most : ℕ)
    → ((vs : List (Sourced Variable)) (es : List (Sourced (List ℕ))) → targets_of n s ≡ targets vs es → length vs + length es ≤ most) → most * variable_words ≤ m
    → AllMeant n (pieces s) → room_for variable_words m < needed n s → ⊥
crowded_never n s m most b h a f =
    let l = b (variables_of n s 0 a) (exclusions_of n s 0) (meant_are n s a) in
    let c : needed n s ≤ room_for variable_words m = (room_is variable_words m (needed n s) (omega arith)).1 (omega (arith, l, needed_is n s 0 a)) in
    omega (arith, c)

pub variables_fit : (s : List ℕ) {text text' records records' : List ℕ} {r : Result Read VariablesError} → ParseVariables s text text' records records' r
    → length s / 2 * variable_words ≤ length records → (answer_given r).number ≡ 4 → ⊥
variables_fit s {records = records} x h e =
    let f = (parse_variables_numbers s x).number_4.0 e in
    crowded_never AsWritten s (length records) (length s / 2) (λ vs es q. omega (arith, variables_most s vs es q)) h f.1.0 f.1.1

pub update_targets_fit : (s : List ℕ) {text text' records records' : List ℕ} {r : Result Read VariablesError} → ParseUpdateTargets s text text' records records' r
    → (length s + 1) / 3 * variable_words ≤ length records → (answer_given r).number ≡ 4 → ⊥
update_targets_fit s {records = records} x h e =
    let f = (parse_update_targets_numbers s x).number_4.0 e in
    crowded_never LookedUp s (length records) ((length s + 1) / 3) (λ vs es q. omega (arith, update_targets_most s vs es q)) h f.1.0 f.1.1
