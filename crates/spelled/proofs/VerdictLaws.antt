-- Records are written exactly when they stand for a list whose spelling reads back to it, by the reader's own promise.
use Rattle.lent.specs.declared.gating.GateError.{GateError}
use Rattle.lent.specs.declared.gating.GateError.TheVariants.{TooLong, Short, NotAscii}
use Rattle.std.specs.Prelude.{Result, Ok, Err}
use mathlib.Core.Path.{◌≡◌, ◌∙◌, refl, sym, ap, subst}
use mathlib.Core.Bool.{Bool, true, false}
use mathlib.Core.List.{List, [], ◌∷◌, map}
use Prim.Native.Nat.{ℕ, suc, ◌+◌, ◌≤◌, min}
use native.Mathlib.Omega.{arith}
use lib.ListN.{length, length-append, length-map}
use lib.Dec.{leb}
use borrow.Author.Tests.{leb-true, le-leb, ne_eqb}
use Rattle.ascii.specs.Choice.{pick, and}
use Rattle.ascii.proofs.TestLaws.{apart, both, joins}
use Rattle.lent.specs.Sizes.{limit, action_words, room_for}
use Rattle.lent.specs.Sources.{Sourced}
use Rattle.lent.specs.Table.{Refusal, Outcome, refuses, reads, past_gate}
use Rattle.lent.proofs.HighLaws.{high_low, low_high}
use Rattle.lent.proofs.GateLaws.{open_is}
use Rattle.listing.specs.Json.{trail, joined}
use Rattle.listing.specs.Steps.{comma}
use Rattle.records.specs.Codes.{deny_code}
use Rattle.records.specs.Actions.{Action, action_text}
use Rattle.records.specs.Decoding.{Decoded, none, shows}
use Rattle.single_action.specs.Actions.{numbered}
use Rattle.actions.specs.Pieces.{outside}
use Rattle.actions.specs.Lists.{actions_of}
use Rattle.actions.specs.Promises.{laid_out, actions_gate, actions_outcome}
use Rattle.actions.proofs.OutcomeLaws.{room_read, outcome_by_lem}
use Rattle.spelled.specs.Spelling.{spell, spell_all}
use Rattle.spelled.specs.Condition.{nest_past, clean, stays, written}
use Rattle.spelled.specs.Back.{things}
use Rattle.spelled.specs.Records.{records_of, shown}
use Rattle.spelled.specs.Writing.{ascii, holds, is_last, reach, Verdict, fine, fails, verdict}
use Rattle.spelled.specs.Calls.{ReadsAs, Writable}
use Rattle.spelled.proofs.BackLaws.{exact, back_is}
use Rattle.spelled.proofs.AsciiLaws.{low, low_spelling, read_low, ascii_high, high_ascii}
use Rattle.spelled.proofs.KeepLaws.{deny_stays}

-- ---- one walk

-- a verdict is not both
pub fine_not : {n k : ℕ} {A : Type 0} → fails k ≡ fine n → A
fine_not e = absurd (apart refl (ap failing e))
  where
    failing : Verdict → Bool
    failing (fine n) = false
    failing (fails k) = true

abbrev bytes_in_lem : Verdict → ℕ
bytes_in_lem (fine n) = n
bytes_in_lem (fails k) = 0

-- every record shows an action
pub fine_shown : (k n m : ℕ) (ds : List Decoded) → verdict k n ds ≡ fine m → ds ≡ map shows (shown ds)
unfolding verdict shown
fine_shown k n m [] e = refl
fine_shown k n m (none ∷ r) e = fine_not e
fine_shown k n m (shows x ∷ r) e = go (and (holds (is_last r) x) (leb (reach k n x) limit)) e (λ f. fine_shown (suc k) (reach k n x) m r f)
  where
    go : (t : Bool) → pick t (verdict (suc k) (reach k n x) r) (fails k) ≡ fine m → (verdict (suc k) (reach k n x) r ≡ fine m → r ≡ map shows (shown r)) → shows x ∷ r ≡ shows x ∷ map shows (shown r)
    go true f ih = ap (λ (l : List Decoded). shows x ∷ l) (ih f)
    go false f ih = fine_not f

-- the bytes up to the end of a list that starts with the number k behind n bytes
unfoldable pub total : ℕ → ℕ → List Action → ℕ
total k n [] = n
total k n (x ∷ xs) = total (suc k) (reach k n x) xs

comma_one : (k : ℕ) → length (comma (suc k)) ≡ 1
comma_one k = rw (ne_eqb (suc k) 0 (λ e. omega (arith, e)))

total_trail : (k n : ℕ) (xs : List Action) → total (suc k) n xs ≡ n + length (trail (map spell xs))
unfolding total trail
total_trail k n [] = omega arith
total_trail k n (x ∷ xs) = omega (arith, total_trail (suc k) (reach (suc k) n x) xs, comma_one k, length-append (spell x) (trail (map spell xs)))

pub total_is : (xs : List Action) → total 0 0 xs ≡ length (spell_all xs)
unfolding total spell_all joined
total_is [] = refl
total_is (x ∷ xs) = omega (arith, total_trail 0 (reach 0 0 x) xs, length-append (spell x) (trail (map spell xs)))

total_low : (k n : ℕ) (xs : List Action) → n ≤ total k n xs
unfolding total
total_low k n [] = omega arith
total_low k n (x ∷ xs) = omega (arith, total_low (suc k) (reach k n x) xs)

-- a record by itself, and before another
last_holds : (x : Action) → holds true x ≡ and (ascii (action_text x)) (stays x)
unfolding holds written
last_holds x = rw (← exact (x ∷ []))

and_true : (t : Bool) → and t true ≡ t
and_true true = refl
and_true false = refl

next_holds : (x : Action) → holds false x ≡ and (ascii (action_text x)) (and (stays x) (clean (nest_past outside (spell x))))
unfolding holds written
next_holds x = rw (← exact (x ∷ numbered deny_code 0 ∷ []), deny_stays, and_true (clean (nest_past outside (spell x))))

-- what is said of a list that is fine with m
record Walked (k n m : ℕ) (xs : List Action) : Type 0 where
  ascii_all : low xs ≡ true
  passed : written xs ≡ true
  sized : m ≡ total k n xs
  within : n ≤ limit → m ≤ limit

walked : (k n m : ℕ) (xs : List Action) → verdict k n (map shows xs) ≡ fine m → Walked k n m xs
unfolding verdict written total low
walked k n m [] e = let f : n ≡ m = ap bytes_in_lem e in record { ascii_all = refl; passed = refl; sized = sym f; within = λ h. omega (arith, f, h) }
walked k n m (x ∷ []) e = go (holds true x) (last_holds x) (leb (reach k n x) limit) refl e
  where
    go : (t : Bool) → t ≡ and (ascii (action_text x)) (stays x) → (u : Bool) → leb (reach k n x) limit ≡ u → pick (and t u) (fine (reach k n x)) (fails k) ≡ fine m → Walked k n m (x ∷ [])
    go true h true l f =
        let p = both (ascii (action_text x)) (stays x) (sym h) in
        let g : reach k n x ≡ m = ap bytes_in_lem f in
        record { ascii_all = joins p.0 refl; passed = p.1; sized = sym g; within = λ q. omega (arith, g, leb-true (reach k n x) limit l) }
    go true h false l f = fine_not f
    go false h u l f = fine_not f
walked k n m (x ∷ y ∷ r) e = go (holds false x) (next_holds x) (leb (reach k n x) limit) refl e (λ f. walked (suc k) (reach k n x) m (y ∷ r) f)
  where
    go : (t : Bool) → t ≡ and (ascii (action_text x)) (and (stays x) (clean (nest_past outside (spell x)))) → (u : Bool) → leb (reach k n x) limit ≡ u
        → pick (and t u) (verdict (suc k) (reach k n x) (map shows (y ∷ r))) (fails k) ≡ fine m
        → (verdict (suc k) (reach k n x) (map shows (y ∷ r)) ≡ fine m → Walked (suc k) (reach k n x) m (y ∷ r)) → Walked k n m (x ∷ y ∷ r)
    go true h true l f ih =
        let p = both (ascii (action_text x)) (and (stays x) (clean (nest_past outside (spell x)))) (sym h) in
        let q = both (stays x) (clean (nest_past outside (spell x))) p.1 in
        let w = ih f in
        record {
          ascii_all = joins p.0 w.ascii_all;
          passed = joins q.0 (joins q.1 w.passed);
          sized = w.sized;
          within = λ z. w.within (leb-true (reach k n x) limit l);
        }
    go true h false l f ih = fine_not f
    go false h u l f ih = fine_not f

-- and the other way round
walks : (k n : ℕ) (xs : List Action) → low xs ≡ true → written xs ≡ true → total k n xs ≤ limit → verdict k n (map shows xs) ≡ fine (total k n xs)
unfolding verdict written total low
walks k n [] a h l = refl
walks k n (x ∷ []) a h l = rw (last_holds x, (both (ascii (action_text x)) true a).0, h, le-leb (reach k n x) limit l)
walks k n (x ∷ y ∷ r) a h l =
    let p = both (stays x) (and (clean (nest_past outside (spell x))) (written (y ∷ r))) h in
    let q = both (clean (nest_past outside (spell x))) (written (y ∷ r)) p.1 in
    let b = both (ascii (action_text x)) (low (y ∷ r)) a in
    let m : reach k n x ≤ limit = omega (arith, l, total_low (suc k) (reach k n x) (y ∷ r)) in
    rw (next_holds x, b.0, p.0, q.0, le-leb (reach k n x) limit m) (walks (suc k) (reach k n x) (y ∷ r) b.1 q.1 l)

-- ---- read back

-- a list that passes is read by a call, whatever the room
module _ (xs : List Action) (a : low xs ≡ true) (h : written xs ≡ true) (l : length (spell_all xs) ≤ limit) where
  pub found_back : (ys : List (Sourced Action)) × (actions_of (spell_all xs) ≡ reads ys) × (things ys ≡ xs)
  found_back = (back_is xs).0 (sym (exact xs) ∙ h)

  -- past the gate, with so much text and scratch
  pub gate_back : (text work : ℕ) → length (spell_all xs) ≤ text → length (spell_all xs) ≤ work → actions_gate (spell_all xs) text work ≡ (Ok tt)
  gate_back text work t w =
      let s = spell_all xs in
      let high = ascii_high s (low_spelling xs a) in
      (open_is s (min text work) (length s)).1 (record { within = l; ascii = high_low s (omega (arith, high)); room = omega (arith, t, w) })

  pub read_back : (text work records : ℕ) → length (spell_all xs) ≤ text → length (spell_all xs) ≤ work → length xs ≤ room_for action_words records
      → actions_outcome (spell_all xs) text work records ≡ reads (laid_out found_back.0)
  read_back text work records t w r =
      let b = found_back in
      let c : length b.0 ≤ room_for action_words records = omega (arith, r, length-map b.0 (λ (y : Sourced Action). y.thing), ap length b.2) in
      outcome_by_lem (spell_all xs) text work records (Ok tt) (reads b.0) (gate_back text work t w) b.1 ∙ room_read records b.0 c

  pub reads_as : ReadsAs (spell_all xs) xs
  reads_as =
      let n = length (spell_all xs) in
      record { found = found_back.0; same = found_back.2; read = rw (gate_back n n (omega arith) (omega arith)) found_back.1 }

-- a list that its spelling is read as passes
pub record Backed (xs : List Action) : Type 0 where
  pub all_low : low xs ≡ true
  pub whole_back : written xs ≡ true
  pub small : length (spell_all xs) ≤ limit

pub backed : (xs : List Action) → ReadsAs (spell_all xs) xs → Backed xs
backed xs r = go (actions_gate s (length s) (length s)) refl r.read
  where
    s : List ℕ
    s = spell_all xs

    refused : {f : Refusal} {x : List (Sourced Action)} {A : Type 0} → refuses f ≡ reads x → A
    refused e = absurd (apart refl (ap stopping e))
      where
        stopping : Outcome (List (Sourced Action)) → Bool
        stopping (refuses f) = true
        stopping (reads x) = false

    go : (g : Result Unit GateError) → actions_gate s (length s) (length s) ≡ g → past_gate g (actions_of s) ≡ reads r.found → Backed xs
    go (Err TooLong) e h = refused h
    go (Err (NotAscii p)) e h = refused h
    go (Err Short) e h = refused h
    go (Ok tt) e h =
        let o = (open_is s (min (length s) (length s)) (length s)).0 e in
        record {
          all_low = subst (λ (l : List Action). low l ≡ true) r.same (read_low s r.found h (high_ascii s (low_high s o.ascii)));
          whole_back = exact xs ∙ (back_is xs).1 (r.found, h, r.same);
          small = o.within;
        }

-- ---- the answer

module _ (words text : List ℕ) where
  -- the bytes of the spelling
  pub fine_writable : (n : ℕ) → verdict 0 0 (records_of words text) ≡ fine n → Writable words text × (n ≡ length (spell_all (shown (records_of words text))))
  fine_writable n e =
      let ds = records_of words text in
      let xs = shown ds in
      let s : ds ≡ map shows xs = fine_shown 0 0 n ds e in
      let w = walked 0 0 n xs (ap (verdict 0 0) (sym s) ∙ e) in
      let z : n ≡ length (spell_all xs) = w.sized ∙ total_is xs in
      (record { actions = xs; standing = s; back = reads_as xs w.ascii_all w.passed (omega (arith, z, w.within (omega arith))) }, z)

  pub writable_fine : Writable words text → (n : ℕ) × (verdict 0 0 (records_of words text) ≡ fine n)
  writable_fine w =
      let xs = w.actions in
      let b = backed xs w.back in
      (total 0 0 xs, ap (verdict 0 0) w.standing ∙ walks 0 0 xs b.all_low b.whole_back (omega (arith, total_is xs, b.small)))

-- a list that stands there is the one that is shown
pub shown_back : (xs : List Action) → shown (map shows xs) ≡ xs
unfolding shown
shown_back [] = refl
shown_back (x ∷ xs) = ap (λ (l : List Action). x ∷ l) (shown_back xs)
