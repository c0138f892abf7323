-- What the loop of `read_word` keeps: the line feeds, the run to come and the text so far.
use mathlib.Core.Path.{◌≡◌, refl}
use mathlib.Core.List.{List, [], ◌∷◌}
use Prim.Native.Nat.{ℕ, suc, ◌+◌, ◌≤◌, ◌<◌}
use native.Mathlib.Omega.{arith}
use lib.ListN.{length, drop, get_or, set}
use Rattle.lent.proofs.BufferLaws.{written_none}
use Rattle.lexer.specs.Bytes.{Slash}
use Rattle.lexer.specs.Runs.{takes, text, took}
use Rattle.lexer.specs.Rules.{line_end, word}
use Rattle.lexer.specs.Steps.{Ran, Wrote}
use Rattle.lexer.specs.declared.moving.Run.{Run}
use Rattle.lexer.proofs.ClassLaws.{class_at, slash_dark, not_feed, word_cut}
use Rattle.lexer.proofs.LineEndLaws.{Ending, ending, ending_counted, ending_going, ending_writing}
use Rattle.lexer.proofs.LoopLaws.{Counted, counted_none, counted_flat, Going, going_on, Writing, writing_none, writing_one, ran, wrote}

-- the bytes owed give nothing
word_owes : (k b : ℕ) (r : List ℕ) → word (suc k) b r ≡ takes [] k
unfolding word
word_owes k b r = refl

pub record Inv (s : List ℕ) (from : ℕ) (old new : List ℕ) (at n feeds last : ℕ) : Type 0 where
  pub counted : Counted s from at feeds last
  pub going : Going word 0 s from 0 at
  pub writing : Writing word 0 s from 0 at n old new
  pub short : from + n ≤ at
  pub few : feeds ≤ at

pub begun : (s : List ℕ) (from : ℕ) (old : List ℕ) → from ≤ length s → Inv s from old old from 0 0 from
begun s from old h = record {
  counted = counted_none s from h;
  going = refl;
  writing = record { written = written_none old; front = refl };
  short = omega arith;
  few = omega arith;
}

module _ {s : List ℕ} {from : ℕ} {old new : List ℕ} {at n feeds last : ℕ} (i : Inv s from old new at n feeds last) (k : at < length s) where
  -- a byte that stands for itself
  pub kept : length s ≤ from + length old → word 0 (get_or s at 0) (drop (at + 1) s) ≡ takes (get_or s at 0 ∷ []) 0 → (get_or s at 0 ≡ 10 → ⊥)
      → Inv s from old (set new n (get_or s at 0)) (at + 1) (n + 1) feeds last
  kept room e f = record {
    counted = counted_flat i.counted k f;
    going = going_on word 0 s from k e i.going;
    writing = writing_one word 0 s from k e (omega (arith, i.short)) i.writing;
    short = omega (arith, i.short);
    few = omega (arith, i.few);
  }

  -- a backslash with its line end
  pub cut : {owed : ℕ} → class_at s at ≡ Slash → owed ≡ line_end (drop (at + 1) s) → (owed ≡ 0 → ⊥)
      → Inv s from old new (at + (1 + owed)) n (feeds + 1) (at + (1 + owed))
  cut {owed} e f g =
      let j : at + (1 + owed) ≡ at + 1 + owed = omega arith in
      let d : Ending s (at + 1) owed = rw f (ending s (at + 1)) in
      let h = word_cut _ _ e f g in
      rw j (record {
        counted = ending_counted d g (counted_flat i.counted k (not_feed _ (slash_dark _ e)));
        going = ending_going word word_owes s from d (going_on word 0 s from k h i.going);
        writing = ending_writing word word_owes s from d (writing_none word 0 s from k h i.writing);
        short = omega (arith, i.short);
        few = omega (arith, i.few);
      })

-- where the run is over
pub ended : {s : List ℕ} {from : ℕ} {old new : List ℕ} (r : Run) → Inv s from old new r.past r.len r.feeds r.last
    → r.past ≡ from + took word 0 (drop from s) → text word 0 (drop r.past s) ≡ [] → Ran word 0 s from r × Wrote word 0 s from old new r
ended {s} {from} r i e f = (ran word 0 s from r e i.counted, wrote word 0 s from r i.writing f i.short)
