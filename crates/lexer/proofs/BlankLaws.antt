-- What stands before a token, byte by byte: the loop keeps a cursor from which the same run ends at the same spot.
use mathlib.Core.Path.{◌≡◌, refl, sym, ap, ◌∙◌, subst}
use mathlib.Core.Bool.{true, false}
use mathlib.Core.List.{List, [], ◌∷◌}
use mathlib.Core.Logic.{⊎_elim}
use Prim.Native.Nat.{ℕ, ◌+◌, ◌≤◌, ◌<◌}
use native.Mathlib.Numerals.{add-one}
use native.Mathlib.Omega.{arith}
use lib.ListN.{length, drop, get_or, drop_of_length-le}
use Rattle.ascii.specs.Classes.{white}
use Rattle.ascii.proofs.ListLaws.{next_byte}
use Rattle.lexer.specs.Bytes.{Class, Return, Gap, Slash}
use Rattle.lexer.specs.Cursors.{Cursor, cursor}
use Rattle.lexer.specs.Runs.{ends, takes, Spot, spot, run}
use Rattle.lexer.specs.Rules.{before, before_by, line_end}
use Rattle.lexer.specs.Steps.{Within, Skipped}
use Rattle.lexer.proofs.MoveLaws.{moved_at, moved_place, feed_at, flat_at}
use Rattle.lexer.proofs.RunLaws.{run_by}
use Rattle.lexer.proofs.WithinLaws.{within_past, skipped}
use Rattle.lexer.proofs.PastLaws.{past_one}
use Rattle.lexer.proofs.ClassLaws.{class_at, told_at, before_at}
use Rattle.lexer.proofs.LineEndLaws.{Ending, none, feed, pair}

module _ (s : List ℕ) where
  pub within_moved : (d : Cursor) → Within s d → d.place < length s → Within s (moved_at s d)
  within_moved d x h = subst (Within s) (past_one s d h) (within_past s d (d.place + 1) x (omega arith) (omega arith))

  -- from d on, with m bytes owed, the run ends where it ends from c on
  pub record Skipping (c : Cursor) (m : ℕ) (d : Cursor) : Type 0 where
    pub going : run before m (drop d.place s) d ≡ run before 0 (drop c.place s) c
    pub within : Within s d

  -- one byte is passed over
  pub skip_one : (c d : Cursor) (m m' : ℕ) → Skipping c m d → d.place < length s → before m (get_or s d.place 0) (drop (d.place + 1) s) ≡ takes [] m' →
      Skipping c m' (moved_at s d)
  skip_one c d m m' x h e = record {
    going =
        ap (λ (n : ℕ). run before m' (drop n s) (moved_at s d)) (moved_place d _ ∙ sym (add-one d.place))
        ∙ sym (ap (λ (l : List ℕ). run before m l d) (next_byte s d.place h) ∙ run_by before m _ _ _ e d)
        ∙ x.going;
    within = within_moved d x.within h;
  }

  -- the two bytes of a line end
  skip_feed : (c d : Cursor) → Skipping c 1 d → d.place < length s → get_or s d.place 0 ≡ 10 → Skipping c 0 (cursor (d.place + 1) (d.line.0 + 1) 1 true)
  unfolding before
  skip_feed c d x h e = subst (Skipping c 0) (feed_at s d e) (skip_one c d 1 0 x h refl)

  skip_cr : (c d : Cursor) → Skipping c 2 d → d.place < length s → get_or s d.place 0 ≡ 13 → Skipping c 1 (cursor (d.place + 1) d.line.0 (d.column.0 + 1) d.mark)
  unfolding before white
  skip_cr c d x h e = subst (Skipping c 1) (flat_at s d true (rw e) (λ f. omega (arith, e, f))) (skip_one c d 2 1 x h refl)

  module _ (c d : Cursor) (x : Skipping c 0 d) (h : d.place < length s) where
    abbrev b : ℕ
    b = get_or s d.place 0

    skip_white : white b ≡ true → (b ≡ 10 → ⊥) → before 0 b (drop (d.place + 1) s) ≡ takes [] 0 → Skipping c 0 (cursor (d.place + 1) d.line.0 (d.column.0 + 1) d.mark)
    skip_white w n e = subst (Skipping c 0) (flat_at s d true w n) (skip_one c d 0 0 x h e)

    -- a space, tab or CR
    pub skip_gap : class_at s d.place ≡ Gap → Skipping c 0 (cursor (d.place + 1) d.line.0 (d.column.0 + 1) d.mark)
    unfolding white before_by
    skip_gap e =
        let f = before_at s d.place Gap e in
        ⊎_elim (λ p. skip_white (rw p) (λ q. omega (arith, p, q)) f) (λ p. skip_white (rw p) (λ q. omega (arith, p, q)) f) (told_at s d.place Gap e)

    pub skip_return : class_at s d.place ≡ Return → Skipping c 0 (cursor (d.place + 1) d.line.0 (d.column.0 + 1) d.mark)
    unfolding white before_by
    skip_return e = let p = told_at s d.place Return e in skip_white (rw p) (λ q. omega (arith, p, q)) (before_at s d.place Return e)

    -- a backslash, with the bytes of its line end owed
    slash : (n : ℕ) → class_at s d.place ≡ Slash → line_end (drop (d.place + 1) s) ≡ n → Skipping c n (cursor (d.place + 1) d.line.0 (d.column.0 + 1) false)
    unfolding white before_by
    slash n e f = let p = told_at s d.place Slash e in subst (Skipping c n) (flat_at s d false (rw p) (λ q. omega (arith, p, q))) (skip_one c d 0 n x h (before_at s d.place Slash e ∙ rw f))

    pub skip_slash : class_at s d.place ≡ Slash → line_end (drop (d.place + 1) s) ≡ 0 → Skipping c 0 (cursor (d.place + 1) d.line.0 (d.column.0 + 1) false)
    skip_slash e f = slash 0 e f

    pub skip_end : {n : ℕ} → class_at s d.place ≡ Slash → Ending s (d.place + 1) n → (n ≡ 0 → ⊥) → line_end (drop (d.place + 1) s) ≡ n →
        Skipping c 0 (cursor (d.place + (1 + n)) (d.line.0 + 1) 1 true)
    skip_end e none z f = absurd (z refl)
    skip_end e (feed k g) z f =
        let i : d.place + 1 + 1 ≡ d.place + (1 + 1) = omega arith in
        subst (λ (p : ℕ). Skipping c 0 (cursor p (d.line.0 + 1) 1 true)) i (skip_feed c _ (slash 1 e f) k g)
    skip_end e (pair k g j) z f =
        let i : d.place + 1 + 1 + 1 ≡ d.place + (1 + 2) = omega arith in
        subst (λ (p : ℕ). Skipping c 0 (cursor p (d.line.0 + 1) 1 true)) i (skip_feed c _ (skip_cr c _ (slash 2 e f) (omega arith) g) k j)

    -- the first byte of a token, or one at which reading stops
    pub skip_stop : (k : Class) → class_at s d.place ≡ k → ((r : List ℕ) → before_by k r ≡ ends) → Within s c → Skipped s c d
    skip_stop k e f w =
        let z : before 0 b (drop (d.place + 1) s) ≡ ends = before_at s d.place k e ∙ f _ in
        let g : run before 0 (drop d.place s) d ≡ spot d (b ∷ drop (d.place + 1) s) =
        ap (λ (l : List ℕ). run before 0 l d) (next_byte s d.place h) ∙ run_by before 0 b _ _ z d in
        skipped s c d w (sym (ap (λ (a : Spot). a.here) (sym x.going ∙ g)))

  pub skip_past : (c d : Cursor) → Skipping c 0 d → Within s c → length s ≤ d.place → Skipped s c d
  unfolding run
  skip_past c d x w h =
      let g : run before 0 (drop d.place s) d ≡ spot d [] = rw (drop_of_length-le s h) in
      skipped s c d w (sym (ap (λ (a : Spot). a.here) (sym x.going ∙ g)))
