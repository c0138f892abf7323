-- Runs that are laid into a buffer one behind another: what stands before them is kept.
use mathlib.Core.Path.{◌≡◌, refl, sym, ap, ◌∙◌}
use mathlib.Core.List.{List, [], ◌++◌, append_assoc, append-nil}
use Prim.Native.Nat.{ℕ, ◌+◌, ◌-◌, ◌≤◌}
use native.Mathlib.Omega.{arith}
use native.Mathlib.Nat.{add-zero}
use lib.ListN.{length, take, drop, length-append, take-append-drop}
use lib.Seq.{take_at, drop_at, take-take, length-take-le}
use Rattle.lent.specs.Buffers.{placed, stored}
use Rattle.lent.proofs.BufferLaws.{Written, stored_fits, stored_length, taken_stored}
use Rattle.lexer.specs.Steps.{part}
use Rattle.directives.specs.Steps.{Laid}

pub laid_none : (old : List ℕ) (at : ℕ) → at ≤ length old → Laid old old at []
laid_none old at h = record { long = refl; fits = omega arith; front = rw add-zero (sym (append-nil (take at old))) }

pub laid_stored : (old : List ℕ) (at : ℕ) (xs : List ℕ) → at + length xs ≤ length old → Laid old (stored old at xs) at xs
laid_stored old at xs h =
    let w : Written old old at = record { fits = omega arith; long = refl; beyond = refl } in
    record { long = stored_length old at xs; fits = h; front = taken_stored w xs h }

pub laid_placed : (old : List ℕ) (at : ℕ) (xs : List ℕ) → at + length xs ≤ length old → Laid old (placed old at xs) at xs
laid_placed old at xs h = rw (sym (stored_fits old at xs h)) (laid_stored old at xs h)

module _ {old mid new : List ℕ} {at : ℕ} {xs ys : List ℕ} (x : Laid old mid at xs) (y : Laid mid new (at + length xs) ys) where
  -- two runs as one
  pub laid_more : Laid old new at (xs ++ ys)
  laid_more =
      let e : at + length (xs ++ ys) ≡ at + length xs + length ys = omega (arith, length-append xs ys) in
      record {
        long = y.long ∙ x.long;
        fits = omega (arith, y.fits, x.long, e);
        front = ap (λ (n : ℕ). take n new) e ∙ y.front ∙ ap (λ (l : List ℕ). l ++ ys) x.front ∙ append_assoc (take at old) xs ys;
      }

-- what stands at the front of a buffer, and behind it anything
pub laid_first : {old new xs : List ℕ} → Laid old new 0 xs → new ≡ xs ++ drop (length xs) new
laid_first {old} {new} {xs} x =
    let n : 0 + length xs ≡ length xs = omega arith in
    sym (take-append-drop (length xs) new) ∙ ap (λ (l : List ℕ). l ++ drop (length xs) new) (ap (λ (k : ℕ). take k new) (sym n) ∙ x.front)

-- a run between two others, by its places
pub part_of : (a b r : List ℕ) {k : List ℕ} {i j : ℕ} → k ≡ a ++ (b ++ r) → i ≡ length a → j ≡ i + length b → part k i j ≡ b
part_of a b r {k} {i} {j} e f g =
    let n : j - i ≡ length b = omega arith in
    ap (λ (l : List ℕ). take (j - i) (drop i l)) e ∙ ap (take (j - i)) (drop_at a (b ++ r) i (sym f)) ∙ take_at b r (j - i) (sym n)

pub front_of : (a r : List ℕ) {k : List ℕ} {i : ℕ} → k ≡ a ++ r → i ≡ length a → take i k ≡ a
front_of a r {k} {i} e f = ap (take i) e ∙ take_at a r i (sym f)

-- a run in another's place
pub laid_over : {old mid new : List ℕ} {at : ℕ} {xs ys : List ℕ} → Laid old mid at xs → Laid mid new at ys → Laid old new at ys
laid_over {old} {mid} {new} {at} {xs} {ys} x y =
    let n : length (take at old) ≡ at = length-take-le at old (omega (arith, x.fits)) in
    let k : take at mid ≡ take at old =
    sym (take-take at (at + length xs) mid (omega arith)) ∙ ap (take at) x.front ∙ take_at (take at old) xs at n in
    record { long = y.long ∙ x.long; fits = omega (arith, y.fits, x.long); front = y.front ∙ ap (λ (l : List ℕ). l ++ ys) k }

-- the first of two runs
pub laid_front : {old new : List ℕ} {at : ℕ} (xs ys : List ℕ) → Laid old new at (xs ++ ys) → Laid old new at xs
laid_front {old} {new} {at} xs ys x =
    let n : length (take at old) ≡ at = length-take-le at old (omega (arith, x.fits)) in
    let m : length (take at old ++ xs) ≡ at + length xs = omega (arith, length-append (take at old) xs) in
    record {
      long = x.long;
      fits = omega (arith, x.fits, length-append xs ys);
      front = sym (take-take (at + length xs) (at + length (xs ++ ys)) new (omega (arith, length-append xs ys)))
          ∙ ap (take (at + length xs)) (x.front ∙ sym (append_assoc (take at old) xs ys)) ∙ take_at (take at old ++ xs) ys (at + length xs) m;
    }
