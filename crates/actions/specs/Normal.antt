-- Line continuations taken out, in one pass with no looking ahead: normalize_line_continuations.
use Rattle.std.specs.Prelude.{ℕ, List, [], ◌∷◌, ◌++◌, eqb}
use Rattle.ascii.specs.Choice.{pick}
use Rattle.places.specs.Tables.{skipped}
pub use Rattle.actions.specs.declared.normalising.Mode.{Mode}
pub use Rattle.actions.specs.declared.normalising.Mode.TheVariants.{Plain as plain, Held as held, AfterCr as after_cr, Margin as margin}

-- The modes are the source's: plain; a backslash held back; behind backslash-CR; in the whitespace behind an escaped line end.

-- The mode behind a byte of the outer loop of normalize_line_continuations: a backslash is held back.
abbrev pub plain_mode : ℕ → Mode
plain_mode b = pick (eqb b 92) held plain

-- And the text that it gives: itself, if it is not held back.
abbrev pub plain_text : ℕ → List ℕ
plain_text b = pick (eqb b 92) [] (b ∷ [])

-- The mode behind a byte at which such a loop may stand.
abbrev pub margin_mode : ℕ → Mode
margin_mode b = pick (skipped b) margin (plain_mode b)

-- And the text that it gives.
abbrev pub margin_text : ℕ → List ℕ
margin_text b = pick (skipped b) [] (plain_text b)

-- The mode behind a byte: the branches of normalize_line_continuations.
unfoldable pub mode_after : Mode → ℕ → Mode
mode_after plain b = plain_mode b
mode_after held b = pick (eqb b 10) margin (pick (eqb b 13) after_cr (plain_mode b))
mode_after after_cr b = pick (eqb b 10) margin (margin_mode b)
mode_after margin b = margin_mode b

-- The text that a byte gives, a backslash that was held back for nothing first: the `push` of normalize_line_continuations.
unfoldable pub text_given : Mode → ℕ → List ℕ
text_given plain b = plain_text b
text_given held b = pick (eqb b 10) [] (pick (eqb b 13) [] (92 ∷ plain_text b))
text_given after_cr b = pick (eqb b 10) [] (margin_text b)
text_given margin b = margin_text b

-- What is still held back: a last backslash stays.
unfoldable pub text_held : Mode → List ℕ
text_held plain = []
text_held held = 92 ∷ []
text_held after_cr = []
text_held margin = []

-- The normalised text of the bytes still to be read.
unfoldable pub normalised_from : Mode → List ℕ → List ℕ
normalised_from m [] = text_held m
normalised_from m (b ∷ r) = text_given m b ++ normalised_from (mode_after m b) r

-- The normalised text: normalize_line_continuations.
unfoldable pub normalised : List ℕ → List ℕ
normalised s = normalised_from plain s
