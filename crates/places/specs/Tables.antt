-- The three tables: line continuations taken out, a word, a quoted text.
use Rattle.std.specs.Prelude.{ℕ, zero, suc, Bool, true, false, List, [], ◌∷◌, eqb}
use Rattle.ascii.specs.Choice.{pick, and, or}
use Rattle.ascii.specs.Classes.{white}
use Rattle.lexer.specs.Rules.{line_end, unescaped}
use Rattle.places.specs.Scans.{Mode, plain, escaped, stayed, after_cr, margin, Act, pass, keep, turn}
pub use Rattle.places.specs.declared.Rule.{Rule}
pub use Rattle.places.specs.declared.Rule.TheVariants.{Joined, Word, Quoted}

-- ---- the normaliser of action lists

-- Whitespace up to the next LF: what the inner loops of normalize_line_continuations skip.
abbrev pub skipped : ℕ → Bool
skipped b = pick (eqb b 10) false (white b)

-- LF or CR comes next: a backslash before it goes.
unfoldable pub line_next : List ℕ → Bool
line_next [] = false
line_next (b ∷ r) = or (eqb b 10) (eqb b 13)

abbrev pub plain_join : ℕ → List ℕ → Act
plain_join b r = pick (and (eqb b 92) (line_next r)) (pass escaped) (keep b plain)

abbrev pub margin_join : ℕ → List ℕ → Act
margin_join b r = pick (skipped b) (pass margin) (plain_join b r)

unfoldable pub joining : Mode → ℕ → List ℕ → Act
joining plain b r = plain_join b r
joining escaped b r = pick (eqb b 10) (pass margin) (pass after_cr)
joining stayed b r = plain_join b r
joining after_cr b r = pick (eqb b 10) (pass margin) (margin_join b r)
joining margin b r = margin_join b r

-- ---- a word

-- A backslash stays, or goes with the one or two bytes of a line end.
abbrev pub slash_in_word : ℕ → Act
slash_in_word zero = keep 92 plain
slash_in_word (suc zero) = pass after_cr
slash_in_word (suc (suc k)) = pass escaped

abbrev pub plain_word : ℕ → List ℕ → Act
plain_word b r = pick (eqb b 92) (slash_in_word (line_end r)) (keep b plain)

unfoldable pub wording : Mode → ℕ → List ℕ → Act
wording plain b r = plain_word b r
wording escaped b r = pass after_cr
wording stayed b r = plain_word b r
wording after_cr b r = pass plain
wording margin b r = plain_word b r

-- ---- a quoted text

-- Two bytes, as those of an escape that keeps its backslash.
abbrev pub two : List ℕ → Bool
two [] = false
two (x ∷ []) = false
two (x ∷ y ∷ t) = true

abbrev pub head_of : List ℕ → ℕ
head_of [] = 0
head_of (x ∷ t) = x

-- An escape of this byte keeps its backslash.
unfoldable pub stays : ℕ → Bool
stays b = pick (eqb b 10) false (pick (eqb b 13) false (two (unescaped b)))

-- Whether a backslash stays, by what follows it; `last` is for one with nothing behind it.
unfoldable pub stays_next : Bool → List ℕ → Bool
stays_next last [] = last
stays_next last (b ∷ r) = stays b

abbrev pub slash_in_quotes : Bool → Act
slash_in_quotes true = keep 92 stayed
slash_in_quotes false = pass escaped

abbrev pub plain_quote : Bool → ℕ → List ℕ → Act
plain_quote last b r = pick (eqb b 92) (slash_in_quotes (stays_next last r)) (keep b plain)

abbrev pub margin_quote : Bool → ℕ → List ℕ → Act
margin_quote last b r = pick (or (eqb b 32) (eqb b 9)) (pass margin) (plain_quote last b r)

-- The closing mark gives itself: it stands behind the text, where no part of it reaches.
unfoldable pub quoting_by : Bool → Mode → ℕ → List ℕ → Act
quoting_by last plain b r = plain_quote last b r
quoting_by last escaped b r = pick (eqb b 10) (pass margin) (pick (eqb b 13) (pass after_cr) (turn (head_of (unescaped b)) plain))
quoting_by last stayed b r = keep b plain
quoting_by last after_cr b r = pick (eqb b 10) (pass margin) (margin_quote last b r)
quoting_by last margin b r = margin_quote last b r

-- ---- all three

abbrev pub act_by : Bool → Rule → Mode → ℕ → List ℕ → Act
act_by last Joined = joining
act_by last Word = wording
act_by last Quoted = quoting_by last

-- In its place, where the lexer drops a backslash at the very end of quotes that nothing closes.
abbrev pub act : Rule → Mode → ℕ → List ℕ → Act
act = act_by false

-- A part read by itself: a backslash at its end stays, since the byte that it was written before stands outside.
abbrev pub alone : Rule → Mode → ℕ → List ℕ → Act
alone = act_by true
