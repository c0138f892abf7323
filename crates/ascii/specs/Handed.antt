-- A text where it stands in memory, and a part of it that is handed back.
use Rattle.std.specs.Prelude.{ℕ, ◌+◌, List}
use Rattle.std.specs.Borrow.{Bor}

-- A block of memory, how far into it, and the bytes there.
pub record Standing : Type 0 where
  pub block : ℕ
  pub offset : ℕ
  pub bytes : List ℕ

-- What a reference points at.
abbrev pub standing : Bor (List ℕ) → Standing
standing r = record { block = r.ref_ptr.0; offset = r.ref_ptr.1; bytes = r.now }

abbrev pub bytes_of : Standing → List ℕ
bytes_of s = s.bytes

-- The part that begins `place` bytes behind a text's front, and holds xs.
abbrev pub part_at : Standing → ℕ → List ℕ → Standing
part_at s place xs = record { block = s.block; offset = place + s.offset; bytes = xs }
