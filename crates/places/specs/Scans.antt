-- One pass over bytes as a table says: each gives one byte of the text or none.
use Rattle.std.specs.Prelude.{ℕ, suc, ◌-◌, List, [], ◌∷◌}
use Rattle.places.specs.Cells.{Cell, cell}
pub use Rattle.places.specs.declared.acting.Mode.{Mode}
pub use Rattle.places.specs.declared.acting.Mode.TheVariants.{Plain as plain, Escaped as escaped, Stayed as stayed, AfterCr as after_cr, Margin as margin}

-- The modes are the source's: plain; behind a backslash that gives nothing by itself; behind one that stays; behind an escaped CR;
-- in the blanks behind an escaped line end.

-- What a byte gives, and the mode behind it.
pub data Act : Type 0 where
  pass : Mode → Act  -- nothing
  keep : ℕ → Mode → Act  -- this byte, from its own place
  turn : ℕ → Mode → Act  -- this byte, from the place before and its own: an escape

abbrev pub scan_by : Act → ℕ → (Mode → List Cell) → List Cell
scan_by (pass m) k go = go m
scan_by (keep x m) k go = cell x k (suc k) ∷ go m
scan_by (turn x m) k go = cell x (k - 1) (suc k) ∷ go m

abbrev pub spell_by : Act → (Mode → List ℕ) → List ℕ
spell_by (pass m) go = go m
spell_by (keep x m) go = x ∷ go m
spell_by (turn x m) go = x ∷ go m

module _ (act : Mode → ℕ → List ℕ → Act) where
  -- The text of bytes that stand from the place k on, read from the mode m. The table sees the byte and what follows it.
  unfoldable pub scan : Mode → ℕ → List ℕ → List Cell
  scan m k [] = []
  scan m k (b ∷ r) = scan_by (act m b r) k (λ m. scan m (suc k) r)

  -- Its bytes alone.
  unfoldable pub spell : Mode → List ℕ → List ℕ
  spell m [] = []
  spell m (b ∷ r) = spell_by (act m b r) (λ m. spell m r)
