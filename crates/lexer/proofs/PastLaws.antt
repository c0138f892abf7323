-- The cursor past a token, from what its run counted: without a line feed by the token's length alone, and else by the
-- bytes since the last one, which also decide the mark.
use mathlib.Core.Path.{◌≡◌, refl, sym, ap, ◌∙◌, subst}
use mathlib.Core.Bool.{Bool, true, false}
use mathlib.Core.List.{List, [], ◌∷◌, ◌++◌, append_assoc}
use Prim.Native.Nat.{ℕ, zero, suc, ◌+◌, ◌-◌, ◌≤◌, ◌<◌}
use native.Mathlib.Omega.{arith}
use lib.ListN.{length, take, drop, get_or, length-append, length-drop}
use lib.Seq.{drop_at}
use lib.Dec.{eqb}
use borrow.Author.Tests.{eqb-true}
use Rattle.ascii.specs.Choice.{pick}
use Rattle.ascii.specs.Classes.{white}
use Rattle.ascii.proofs.ListLaws.{next_byte}
use Rattle.lexer.specs.Cursors.{Cursor, cursor, moves}
use Rattle.lexer.specs.Runs.{Does, Spot, run, took}
use Rattle.lexer.specs.Places.{feeds, since}
use Rattle.lexer.specs.Steps.{part, past_bytes}
use Rattle.lexer.specs.Steps as S
use Rattle.lexer.proofs.MoveLaws.{cursor_is, moved_at, moves_line, moves_flat_line, moves_flat_column, moves_fed_column, moves_mark_clear, moves_mark_set, feeds_append, flat_tail, Blank}
use Rattle.lexer.proofs.RunLaws.{run_took, took_length}
use Rattle.lexer.proofs.WithinLaws.{part_length, past_place}
use Rattle.lexer.proofs.LoopLaws.{part_none}

-- ---- a part, taken apart

-- n bytes from a place on, the first of them apart
take_first : (s : List ℕ) (from n : ℕ) → from < length s → take (suc n) (drop from s) ≡ get_or s from 0 ∷ take n (drop (from + 1) s)
take_first s from n h = rw (next_byte s from)

pub part_first : (s : List ℕ) (from to : ℕ) → from < to → to ≤ length s → part s from to ≡ get_or s from 0 ∷ part s (from + 1) to
part_first s from to h k =
    let e : to - from ≡ suc (to - (from + 1)) = omega arith in
    let l : from < length s = omega arith in
    rw e (take_first s from (to - (from + 1)) l)

-- a part whose first n bytes are apart
part_apart : (n : ℕ) (s : List ℕ) (from to : ℕ) → from + n ≤ to → to ≤ length s → part s from to ≡ part s from (from + n) ++ part s (from + n) to
part_apart zero s from to h k =
    let e : from + 0 ≡ from = omega arith in let z : from - from ≡ 0 = omega arith in rw (e, z)
part_apart (suc n) s from to h k =
    let e : from + suc n ≡ from + 1 + n = omega arith in
    let i : from < to = omega arith in
    let j : from < from + 1 + n = omega arith in
    let l : from + 1 + n ≤ length s = omega arith in
    rw e (part_first s from to i k ∙ ap (λ (l : List ℕ). get_or s from 0 ∷ l) (part_apart n s (from + 1) to (omega arith) k)
    ∙ ap (λ (l : List ℕ). l ++ part s (from + 1 + n) to) (sym (part_first s from (from + 1 + n) j l)))

pub part_split : (s : List ℕ) (from i to : ℕ) → from ≤ i → i ≤ to → to ≤ length s → part s from to ≡ part s from i ++ part s i to
part_split s from i to h j k =
    let e : from + (i - from) ≡ i = omega arith in
    subst (λ (n : ℕ). part s from to ≡ part s from n ++ part s n to) e (part_apart (i - from) s from to (omega arith) k)

-- ---- the last line feed

flat_since : (n : ℕ) (p : List ℕ) → feeds p ≡ 0 → since n p ≡ n + length p
unfolding since feeds
flat_since n [] h = omega arith
flat_since n (b ∷ p) h = go (eqb b 10) (λ n. flat_since n p) h
  where
    go : (t : Bool) → ((n : ℕ) → feeds p ≡ 0 → since n p ≡ n + length p) → pick t 1 0 + feeds p ≡ 0 → since (pick t 0 (suc n)) p ≡ n + suc (length p)
    go true f h = absurd (omega arith)
    go false f h = omega (arith, f (suc n) (omega arith))

-- a list with a line feed, cut behind the last one
pub record Cut (p : List ℕ) : Type 0 where
  pub front : List ℕ
  pub back : List ℕ
  pub list : p ≡ front ++ 10 ∷ back
  pub flat : feeds back ≡ 0
  pub long : (n : ℕ) → since n p ≡ length back

pub cut : (p : List ℕ) → 0 < feeds p → Cut p
unfolding feeds since
cut [] h = absurd (omega arith)
cut (b ∷ p) h = go (feeds p) refl (λ k. cut p k)
  where
    first : (t : Bool) → eqb b 10 ≡ t → feeds p ≡ 0 → 0 < pick t 1 0 + feeds p → Cut (b ∷ p)
    first true e f k =
        record { front = []; back = p; list = ap (λ (x : ℕ). x ∷ p) (eqb-true b 10 e); flat = f; long = λ n. rw e (flat_since 0 p f ∙ omega arith) }
    first false e f k = absurd (omega arith)

    go : (n : ℕ) → feeds p ≡ n → (0 < feeds p → Cut p) → Cut (b ∷ p)
    go zero e f = first (eqb b 10) refl e h
    go (suc n) e f =
        let x = f (omega (arith, e)) in
        record { front = b ∷ x.front; back = x.back; list = ap (λ (l : List ℕ). b ∷ l) x.list; flat = x.flat; long = λ n. x.long _ }

-- whitespace at each place of a part
blank_part : (n : ℕ) (s : List ℕ) (from : ℕ) → from + n ≤ length s → ((i : ℕ) → from ≤ i → i < from + n → white (get_or s i 0) ≡ true) → Blank (take n (drop from s))
blank_part zero s from h w = tt
blank_part (suc n) s from h w =
    let l : from < length s = omega arith in
    subst Blank (sym (take_first s from n l)) (w from (omega arith) (omega arith), blank_part n s (from + 1) (omega arith) (λ i p q. w i (omega arith) (omega arith)))

-- past one byte
pub past_one : (s : List ℕ) (d : Cursor) → d.place < length s → past_bytes s d (d.place + 1) ≡ moved_at s d
unfolding moves
past_one s d h =
    ap (λ (l : List ℕ). moves l d) (part_first s d.place (d.place + 1) (omega arith) (omega arith) ∙ ap (λ (l : List ℕ). get_or s d.place 0 ∷ l) (part_none s (d.place + 1)))

-- ---- the cursor past a token

module _ (s : List ℕ) (c : Cursor) (to : ℕ) (h : c.place < to) (k : to ≤ length s) where
  -- within a line
  pub past_flat : white (get_or s c.place 0) ≡ false → feeds (part s c.place to) ≡ 0 →
      past_bytes s c to ≡ cursor to c.line.0 (c.column.0 + (to - c.place)) false
  past_flat w f =
      let l : c.place ≤ to = omega arith in
      let e = part_first s c.place to h k in
      let t : feeds (part s (c.place + 1) to) ≡ 0 = flat_tail _ _ (ap feeds (sym e) ∙ f) in
      cursor_is (past_bytes s c to) (past_place s c to l k) (moves_flat_line _ c f)
      (moves_flat_column _ c f ∙ ap (λ (n : ℕ). c.column.0 + n) (part_length s c.place to l k))
      (ap (λ (l : List ℕ). (moves l c).mark) e ∙ moves_mark_clear [] (get_or s c.place 0) (part s (c.place + 1) to) c w t)

  module _ (last : ℕ) (f : 0 < feeds (part s c.place to)) (e : last + since 0 (part s c.place to) ≡ to) where
    x : Cut (part s c.place to)
    x = cut (part s c.place to) f

    long : length x.back ≡ to - last
    long = sym (x.long 0) ∙ omega arith

    whole : to - c.place ≡ length x.front + suc (length x.back)
    whole = let l : c.place ≤ to = omega arith in sym (part_length s c.place to l k) ∙ ap length x.list ∙ length-append x.front (10 ∷ x.back)

    after : c.place < last
    after = omega (arith, long, whole)

    -- the bytes behind the last line feed are the part from its line's start
    back_is : x.back ≡ part s last to
    back_is =
        let n = last - c.place in
        let u : length (x.front ++ (10 ∷ [])) ≡ n = length-append x.front (10 ∷ []) ∙ omega (arith, after, long, whole) in
        let v : length (part s c.place last) ≡ n = part_length s c.place last (omega (arith, after)) (omega (arith, after)) in
        sym (drop_at (x.front ++ (10 ∷ [])) x.back n u)
        ∙ ap (drop n) (append_assoc x.front (10 ∷ []) x.back ∙ sym x.list ∙ part_split s c.place last to (omega (arith, after)) (omega arith) k)
        ∙ drop_at (part s c.place last) (part s last to) n v

    mark_is : (mark : Bool) → S.Blank s last to mark → (moves (x.front ++ 10 ∷ x.back) c).mark ≡ mark
    mark_is true b = moves_mark_set x.front x.back c (subst Blank (sym back_is) (blank_part (to - last) s last (omega arith) (λ i p q. b i p (omega (arith, q)))))
    mark_is false b =
        let i = b.0 in
        let apart : x.back ≡ part s last i ++ (get_or s i 0 ∷ part s (i + 1) to) =
        back_is ∙ part_split s last i to b.1 (omega (arith, b.2)) k ∙ ap (λ (l : List ℕ). part s last i ++ l) (part_first s i to b.2 k) in
        let none : feeds (part s (i + 1) to) ≡ 0 =
        flat_tail (get_or s i 0) _ (omega (arith, feeds_append (part s last i) (get_or s i 0 ∷ part s (i + 1) to), ap feeds apart, x.flat)) in
        ap (λ (l : List ℕ). (moves (x.front ++ 10 ∷ l) c).mark) apart
        ∙ ap (λ (l : List ℕ). (moves l c).mark) (sym (append_assoc x.front (10 ∷ part s last i) (get_or s i 0 ∷ part s (i + 1) to)))
        ∙ moves_mark_clear (x.front ++ 10 ∷ part s last i) (get_or s i 0) (part s (i + 1) to) c b.3 none

    -- behind a line feed: all that follows it decides the mark
    pub past_fed : (mark : Bool) → S.Blank s last to mark →
        past_bytes s c to ≡ cursor to (c.line.0 + feeds (part s c.place to)) (to - last + 1) mark
    past_fed mark b =
        let l : c.place ≤ to = omega arith in
        cursor_is (past_bytes s c to) (past_place s c to l k) (moves_line _ c)
        (ap (λ (l : List ℕ). (moves l c).column.0) x.list ∙ moves_fed_column x.front x.back c x.flat ∙ omega (arith, long))
        (ap (λ (l : List ℕ). (moves l c).mark) x.list ∙ mark_is mark b)

-- ---- a run behind a first byte

-- the run behind a token's first byte ends at the cursor past all its bytes
pub run_here : {M : Type 0} (does : M → ℕ → List ℕ → Does M) (m : M) (s : List ℕ) (d : Cursor) (to : ℕ) → d.place < length s →
    to ≡ d.place + 1 + took does m (drop (d.place + 1) s) → (run does m (drop (d.place + 1) s) (moved_at s d)).here ≡ past_bytes s d to
unfolding moves
run_here does m s d to h e =
    let l = drop (d.place + 1) s in
    let j : to ≤ length s = omega (arith, took_length does m l, length-drop (d.place + 1) s) in
    let n : took does m l ≡ to - (d.place + 1) = omega arith in
    ap (λ (a : Spot). a.here) (run_took does m l (moved_at s d))
    ∙ ap (λ (i : ℕ). moves (take i l) (moved_at s d)) n
    ∙ sym (ap (λ (q : List ℕ). moves q d) (part_first s d.place to (omega arith) j))
