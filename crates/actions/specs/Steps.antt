-- What the functions that normalise and those that write keep to.
use Rattle.std.specs.Prelude.{◌≡◌, List, [], ◌∷◌, ◌++◌, ℕ, ◌+◌, ◌-◌, length, take, drop}
use Rattle.ascii.specs.Splits.{first_of}
use Rattle.lent.specs.Sizes.{span_word}
use Rattle.lent.specs.Buffers.{stored}
use Rattle.single_action.specs.Actions.{Action, action_text}
use Rattle.single_action.specs.declared.plans.Origin.{Origin}
use Rattle.single_action.specs.declared.plans.Origin.TheVariants.{Absent, Copied, Lowered, Tx, One}
use Rattle.actions.specs.Layout.{action_record}
use Rattle.actions.specs.Normal.{Mode, normalised}
use Rattle.actions.specs.declared.normalising.Act.{Act}
use Rattle.actions.specs.declared.normalising.Act.TheVariants.{Vanishes, Gives, Keeps}

-- ---- normalising

-- The text that an act gives.
abbrev pub act_text : Act → List ℕ
act_text (Vanishes m) = []
act_text (Gives x m) = x ∷ []
act_text (Keeps x m) = 92 ∷ x ∷ []

-- And the mode behind it.
abbrev pub act_mode : Act → Mode
act_mode (Vanishes m) = m
act_mode (Gives x m) = m
act_mode (Keeps x m) = m

-- The bytes from i up to the next backslash, stored at n; r is the place behind them.
pub record Passed (s : List ℕ) (i : ℕ) (old new : List ℕ) (n r : ℕ) : Type 0 where
  pub place : r ≡ i + first_of 92 (drop i s)
  pub text : new ≡ stored old n (take (r - i) (drop i s))

-- The normalised text stands first in the buffer, and n is its length.
pub record Normalises (s old new : List ℕ) (n : ℕ) : Type 0 where
  pub text : new ≡ normalised s ++ drop (length (normalised s)) old
  pub count : n ≡ length (normalised s)

-- ---- writing

-- The span word of a text, where it runs from one place of the text buffer up to another.
abbrev pub origin_word : Origin → ℕ → ℕ → ℕ
origin_word Absent at end = 0
origin_word (Copied first past) at end = span_word at (end - at)
origin_word (Lowered first past) at end = span_word at (end - at)
origin_word Tx at end = span_word at (end - at)
origin_word One at end = span_word at (end - at)

-- An action's texts stored at `used`, and its record with its span at `at`; r is the place behind the texts.
pub record Put (x : Action) (span used at : ℕ) (text text' records records' : List ℕ) (r : ℕ) : Type 0 where
  pub texts : text' ≡ stored text used (action_text x)
  pub words : records' ≡ stored records at (action_record used x ++ (span ∷ []))
  pub end : r ≡ used + length (action_text x)
