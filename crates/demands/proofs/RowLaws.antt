-- Every reader that fills a text and a record buffer keeps to document 01's table.
-- The idea: their promises share lent's definition of the table, so each is an outcome of it; two rows of it they never come to.
use mathlib.Core.Path.{◌≡◌, refl, ap}
use mathlib.Core.List.{List, ◌∷◌}
use Prim.Native.Nat.{ℕ, ◌*◌}
use lib.ListN.{length}
use Rattle.lent.specs.Table.{Given, given, too_long, not_ascii, short_buffer, no_room, named as naming, unknown_operator, bad_cursor, Outcome, refuses, reads, Filled, given_by, text_by, records_by}
use Rattle.demands.specs.Rows.{Untouched, Row, read, too_long_row, not_ascii_row, short, no_room_row, named}

-- what is read is counted by the values
pub record Counted (width : ℕ) (x : Filled) : Type 0 where
  pub count : ℕ
  pub more : List ℕ
  pub values : x.values ≡ count ∷ length x.texts ∷ more
  pub words : length x.words ≡ count * width

-- what such a reader comes to: every refusal but those of an operator and of a cursor
abbrev pub Filling : ℕ → Outcome Filled → Type 0
Filling width (refuses too_long) = Unit {0}
Filling width (refuses (not_ascii p)) = Unit {0}
Filling width (refuses short_buffer) = Unit {0}
Filling width (refuses (no_room n)) = Unit {0}
Filling width (refuses (naming why k name x)) = Unit {0}
Filling width (refuses (unknown_operator p n x)) = ⊥
Filling width (refuses bad_cursor) = ⊥
Filling width (reads x) = Counted width x

module _ (width : ℕ) (text records : List ℕ) where
  kept : (g : Given) → Untouched width g text text records records
  kept g = record { text_kept = refl; records_kept = refl }

  row_by : (o : Outcome Filled) → Filling width o → Row width (given_by o) text (text_by o text) records (records_by o records)
  row_by (refuses too_long) f = too_long_row refl (kept _)
  row_by (refuses (not_ascii p)) f = not_ascii_row p refl (kept _)
  row_by (refuses short_buffer) f = short refl (kept _)
  row_by (refuses (no_room n)) f = no_room_row n refl refl refl
  row_by (refuses (naming why k name x)) f = named why k name x refl refl refl
  row_by (refuses (unknown_operator p n x)) f = absurd f
  row_by (refuses bad_cursor) f = absurd f
  row_by (reads x) f = read f.count f.more x.texts x.words (ap (λ (v : List ℕ). given 0 v) f.values) f.words refl refl

-- the row of a call, by what it is promised to come to
pub row_of : (width : ℕ) {text text' records records' : List ℕ} {g : Given} (o : Outcome Filled) → Filling width o
    → g ≡ given_by o → text' ≡ text_by o text → records' ≡ records_by o records → Row width g text text' records records'
row_of width {text} {records = records} o f a t w = rw (a, t, w) (row_by width text records o f)
