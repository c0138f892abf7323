-- Whitespace and commas counted. A spelling of which the normaliser, the cutter or trimming takes one is not read back.
use mathlib.Core.Path.{◌≡◌, refl}
use mathlib.Core.Bool.{Bool, true, false}
use mathlib.Core.List.{List, [], ◌∷◌, ◌++◌}
use Prim.Native.Nat.{ℕ, suc, ◌+◌, ◌≤◌, ◌<◌}
use native.Mathlib.Omega.{arith}
use lib.Dec.{eqb}
use borrow.Author.Tests.{ne_eqb}
use Rattle.ascii.specs.Choice.{pick, or}
use Rattle.ascii.specs.Classes.{white}
use Rattle.ascii.specs.Trim.{strip_end, strip_ends, before}
use Rattle.ascii.proofs.ByteLaws.{above}
use Rattle.ascii.proofs.TestLaws.{apart}
use Rattle.records.specs.Actions.{Action, action_text}
use Rattle.single_action.specs.Actions.{done, single}
use Rattle.spelled.specs.Spelling.{spell}
use Rattle.spelled.specs.Condition.{last_by}
use Rattle.spelled.proofs.CountLaws.{count, Tidy, count_append, before_count, ends_count}
use Rattle.spelled.proofs.CountReadLaws.{read_count}
use Rattle.spelled.proofs.CountSpellLaws.{spell_count}

-- a byte that trimming or cutting may take: whitespace or a comma
abbrev pub is_loose : ℕ → Bool
is_loose b = or (white b) (eqb b 44)

pub tidy_loose : Tidy is_loose
unfolding white
tidy_loose = record {
  solid = λ b h l. rw (above 9 13 b (omega arith) (omega arith), ne_eqb b 32 (λ e. omega (arith, e)), ne_eqb b 44 (λ e. omega (arith, e)));
  bang = refl;
  double = refl;
  single = refl;
  plus = refl;
}

abbrev pub loose : List ℕ → ℕ
loose = count is_loose

pub loose_append : (a b : List ℕ) → loose (a ++ b) ≡ loose a + loose b
loose_append a b = count_append is_loose a b

pub ends_loose : (by : ℕ → Bool) (s : List ℕ) → loose (strip_ends by s) ≤ loose s
ends_loose by s = ends_count is_loose by s

pub read_loose : (q : List ℕ) (x : Action) → single q ≡ done x → loose (action_text x) ≤ loose q
read_loose q x e = read_count is_loose tidy_loose q x e

pub spell_loose : (x : Action) → loose (spell x) ≤ loose (action_text x)
spell_loose x = spell_count is_loose tidy_loose x

-- whitespace at the end is lost
pub end_lost : (s : List ℕ) → last_by white false s ≡ true → loose (strip_end white s) < loose s
unfolding strip_end last_by count
end_lost [] h = absurd (apart h refl)
end_lost (b ∷ []) h = rw h (omega arith)
end_lost (b ∷ c ∷ r) h = go (end_lost (c ∷ r) h)
  where
    go : loose (strip_end white (c ∷ r)) < loose (c ∷ r) → loose (before white b (strip_end white (c ∷ r))) < loose (b ∷ c ∷ r)
    go ih = omega (arith, before_count is_loose white b (strip_end white (c ∷ r)), strict (strip_end white (c ∷ r)) (c ∷ r) ih)
      where
        strict : (l m : List ℕ) → loose l < loose m → loose (b ∷ l) < loose (b ∷ m)
        strict l m h = pass (is_loose b)
          where
            pass : (t : Bool) → pick t (suc (loose l)) (loose l) < pick t (suc (loose m)) (loose m)
            pass true = omega arith
            pass false = h
