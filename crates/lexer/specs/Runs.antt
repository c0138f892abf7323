-- Reading on, byte by byte, as a table says: one scanner for every loop of the Rust's lexer.
use Rattle.std.specs.Prelude.{ℕ, suc, List, [], ◌∷◌, ◌++◌}
use Rattle.lexer.specs.Cursors.{Cursor, moved}

-- What a byte does to the run that it stands in, whose modes are M.
pub data Does (M : Type 0) : Type 0 where
  ends : Does M  -- the run ends before it
  closes : Does M  -- the run ends with it, and it gives no text
  takes : List ℕ → M → Does M  -- it belongs to the run, gives this text, and the run goes on in this mode

-- Where reading stands: the cursor, and the bytes still to be read there.
pub record Spot : Type 0 where
  pub here : Cursor
  pub rest : List ℕ

-- The spot with this cursor and these bytes.
abbrev pub spot : Cursor → List ℕ → Spot
spot c r = record { here = c; rest = r }

module _ {M : Type 0} where
  -- Where one turn of the loop leads at the byte b, before r: the run is over, or `go` says where it ends.
  abbrev pub onward : Does M → ℕ → List ℕ → Cursor → (M → Spot) → Spot
  onward ends b r c go = spot c (b ∷ r)
  onward closes b r c go = spot (moved c b) r
  onward (takes t m) b r c go = go m

  -- The text that one turn gives, and that of the turns after it.
  abbrev pub gives : Does M → (M → List ℕ) → List ℕ
  gives ends go = []
  gives closes go = []
  gives (takes t m) go = t ++ go m

  -- The bytes that one turn takes, and those of the turns after it.
  abbrev pub counts : Does M → (M → ℕ) → ℕ
  counts ends go = 0
  counts closes go = 1
  counts (takes t m) go = suc (go m)

  module _ (does : M → ℕ → List ℕ → Does M) where
    -- Where the run ends that goes on in the mode m. The table `does` sees the byte and what follows it.
    unfoldable pub run : M → List ℕ → Cursor → Spot
    run m [] c = spot c []
    run m (b ∷ r) c = onward (does m b r) b r c (λ m. run m r (moved c b))

    -- Its text.
    unfoldable pub text : M → List ℕ → List ℕ
    text m [] = []
    text m (b ∷ r) = gives (does m b r) (λ m. text m r)

    -- How many bytes it takes.
    unfoldable pub took : M → List ℕ → ℕ
    took m [] = 0
    took m (b ∷ r) = counts (does m b r) (λ m. took m r)
