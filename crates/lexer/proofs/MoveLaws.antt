-- The cursor past a list of bytes, field by field: later code keeps places only, and makes the cursor at a run's end by these.
-- All go by induction over the list, from what one byte does.
use mathlib.Core.Path.{◌≡◌, refl, sym, ap, ap₂, ◌∙◌}
use Prim.Native.Nat.{ℕ, suc, ◌+◌, ◌≤◌, ◌<◌}
use native.Mathlib.Nat.{add-suc}
use native.Mathlib.Numerals.{add-one}
use native.Mathlib.Omega.{arith}
use mathlib.Core.Bool.{Bool, true, false}
use mathlib.Core.List.{List, [], ◌∷◌, ◌++◌}
use lib.ListN.{length, get_or}
use lib.Dec.{eqb}
use borrow.Author.Tests.{ne_eqb}
use store.Seg.{eqb→≡}
use Rattle.ascii.specs.Choice.{pick, and}
use Rattle.ascii.specs.Classes.{white}
use Rattle.lexer.specs.Cursors.{Cursor, cursor, fresh, moved, moves}
use Rattle.lexer.specs.Places.{feeds, since}
use Rattle.lexer.specs.Parts.{EndsLf, raise}

-- a cursor is its four fields
pub cursor_is : (c : Cursor) {p l k : ℕ} {m : Bool} → c.place ≡ p → c.line.0 ≡ l → c.column.0 ≡ k → c.mark ≡ m → c ≡ cursor p l k m
cursor_is c p l k m = λ i. cursor (p i) (l i) (k i) (m i)

-- ---- one byte

-- past a line feed, and past another byte
abbrev pub fed : Cursor → Cursor
fed c = cursor (suc c.place) (suc c.line.0) 1 true

abbrev pub flat : Cursor → ℕ → Cursor
flat c b = cursor (suc c.place) c.line.0 (suc c.column.0) (and (white b) c.mark)

-- what holds of both holds past any byte
pub by_byte : (P : Bool → Cursor → Type 0) (c : Cursor) (b : ℕ) → P true (fed c) → P false (flat c b) → P (eqb b 10) (moved c b)
unfolding moved
by_byte P c b f g = go (eqb b 10)
  where
    go : (x : Bool) → P x (pick x (fed c) (flat c b))
    go true = f
    go false = g

-- past the byte at its place in a text
abbrev pub moved_at : List ℕ → Cursor → Cursor
moved_at s c = moved c (get_or s c.place 0)

pub moved_feed : (c : Cursor) → moved c 10 ≡ fed c
unfolding moved
moved_feed c = refl

pub moved_flat : (c : Cursor) (b : ℕ) → eqb b 10 ≡ false → moved c b ≡ flat c b
unfolding moved
moved_flat c b e = rw e refl

pub moved_place : (c : Cursor) (b : ℕ) → (moved c b).place ≡ suc c.place
moved_place c b = by_byte (λ x s. s.place ≡ suc c.place) c b refl refl

pub moved_line : (c : Cursor) (b : ℕ) → (moved c b).line.0 ≡ pick (eqb b 10) 1 0 + c.line.0
moved_line c b = by_byte (λ x s. s.line.0 ≡ pick x 1 0 + c.line.0) c b (omega arith) (omega arith)

-- past a byte at its place, field by field: a line feed, and another
pub feed_at : (s : List ℕ) (c : Cursor) → get_or s c.place 0 ≡ 10 → moved_at s c ≡ cursor (c.place + 1) (c.line.0 + 1) 1 true
feed_at s c e = ap (moved c) e ∙ moved_feed c ∙ rw (add-one c.place, add-one c.line.0)

pub flat_at : (s : List ℕ) (c : Cursor) (w : Bool) → white (get_or s c.place 0) ≡ w → (get_or s c.place 0 ≡ 10 → ⊥)
    → moved_at s c ≡ cursor (c.place + 1) c.line.0 (c.column.0 + 1) (and w c.mark)
flat_at s c w e n = moved_flat c _ (ne_eqb _ 10 n) ∙ rw (e, add-one c.place, add-one c.column.0)

-- a byte moves a raised cursor as it moves the cursor
pub moved_raise : (d l : ℕ) (c : Cursor) (b : ℕ) → moved (raise d l c) b ≡ raise d l (moved c b)
unfolding moved
moved_raise d l c b = by_byte (λ x s. pick x (fed (raise d l c)) (flat (raise d l c) b) ≡ raise d l s) c b (simp add-suc) (simp add-suc)

-- ---- a list of bytes

pub moves_append : (p q : List ℕ) (c : Cursor) → moves (p ++ q) c ≡ moves q (moves p c)
unfolding moves
moves_append [] q c = refl
moves_append (b ∷ p) q c = moves_append p q (moved c b)

pub moves_place : (p : List ℕ) (c : Cursor) → (moves p c).place ≡ c.place + length p
unfolding moves
moves_place [] c = omega arith
moves_place (b ∷ p) c = omega (arith, moves_place p (moved c b), moved_place c b)

pub moves_line : (p : List ℕ) (c : Cursor) → (moves p c).line.0 ≡ c.line.0 + feeds p
unfolding moves feeds
moves_line [] c = omega arith
moves_line (b ∷ p) c = omega (arith, moves_line p (moved c b), moved_line c b)

pub feeds_append : (p q : List ℕ) → feeds (p ++ q) ≡ feeds p + feeds q
unfolding feeds
feeds_append [] q = omega arith
feeds_append (b ∷ p) q = omega (arith, feeds_append p q)

pub since_append : (n : ℕ) (p q : List ℕ) → since n (p ++ q) ≡ since (since n p) q
unfolding since
since_append n [] q = refl
since_append n (b ∷ p) q = since_append (pick (eqb b 10) 0 (suc n)) p q

-- no line feed stands first, and none behind it
pub flat_head : (b : ℕ) (r : List ℕ) → feeds (b ∷ r) ≡ 0 → eqb b 10 ≡ false
unfolding feeds
flat_head b r h = go (eqb b 10) h
  where
    go : (x : Bool) → pick x 1 0 + feeds r ≡ 0 → x ≡ false
    go true h = absurd (omega arith)
    go false h = refl

pub flat_tail : (b : ℕ) (r : List ℕ) → feeds (b ∷ r) ≡ 0 → feeds r ≡ 0
unfolding feeds
flat_tail b r h = omega arith

-- where no line feed stands, the line stays and the column counts on
pub moves_flat_line : (p : List ℕ) (c : Cursor) → feeds p ≡ 0 → (moves p c).line.0 ≡ c.line.0
moves_flat_line p c h = omega (arith, moves_line p c)

pub moves_flat_column : (p : List ℕ) (c : Cursor) → feeds p ≡ 0 → (moves p c).column.0 ≡ c.column.0 + length p
unfolding moves
moves_flat_column [] c h = omega arith
moves_flat_column (b ∷ p) c h =
    moves_flat_column p (moved c b) (flat_tail b p h) ∙ rw (moved_flat c b (flat_head b p h)) (omega arith)

-- behind the last line feed the column counts from one
pub moves_fed_column : (q r : List ℕ) (c : Cursor) → feeds r ≡ 0 → (moves (q ++ 10 ∷ r) c).column.0 ≡ 1 + length r
unfolding moves
moves_fed_column q r c h =
    rw moves_append (moves_flat_column r (moved (moves q c) 10) h ∙ ap (λ (s : Cursor). s.column.0 + length r) (moved_feed (moves q c)))

-- the column, for every list: one more than the bytes since the last line feed
pub moves_column : (p : List ℕ) (c : Cursor) (n : ℕ) → c.column.0 ≡ suc n → (moves p c).column.0 ≡ suc (since n p)
unfolding moves since
moves_column [] c n h = h
moves_column (b ∷ p) c n h =
    moves_column p (moved c b) (pick (eqb b 10) 0 (suc n)) (by_byte (λ x s. s.column.0 ≡ suc (pick x 0 (suc n))) c b refl (ap suc h))

-- line and column grow by one a byte at most
abbrev pub Bounded : ℕ → Cursor → Type 0
Bounded m c = (c.line.0 ≤ m + c.place) × (c.column.0 ≤ m + c.place)

pub moves_bounded : (m : ℕ) → 0 < m → (p : List ℕ) (c : Cursor) → Bounded m c → Bounded m (moves p c)
unfolding moves
moves_bounded m h [] c x = x
moves_bounded m h (b ∷ p) c x = moves_bounded m h p (moved c b) (by_byte (λ t d. Bounded m d) c b (omega arith) (omega arith))

-- ---- the mark: the last byte that is no blank within a line decides it

-- every byte is whitespace
abbrev pub Blank : List ℕ → Type 0
Blank [] = Unit {0}
Blank (b ∷ r) = (white b ≡ true) × Blank r

-- whitespace within a line keeps it
pub moves_mark_keep : (p : List ℕ) (c : Cursor) → Blank p → feeds p ≡ 0 → (moves p c).mark ≡ c.mark
unfolding moves
moves_mark_keep [] c w h = refl
moves_mark_keep (b ∷ p) c w h = moves_mark_keep p (moved c b) w.1 (flat_tail b p h) ∙ rw (moved_flat c b (flat_head b p h), w.0) refl

-- a line feed sets it, and it stays set over whitespace
moves_mark_on : (p : List ℕ) (c : Cursor) → Blank p → c.mark ≡ true → (moves p c).mark ≡ true
unfolding moves
moves_mark_on [] c w h = h
moves_mark_on (b ∷ p) c w h = moves_mark_on p (moved c b) w.1 (by_byte (λ x s. s.mark ≡ true) c b refl (rw w.0 h))

pub moves_mark_set : (q r : List ℕ) (c : Cursor) → Blank r → (moves (q ++ 10 ∷ r) c).mark ≡ true
unfolding moves
moves_mark_set q r c w = rw moves_append (moves_mark_on r (moved (moves q c) 10) w (rw moved_feed))

-- a byte that is no whitespace clears it, and it stays clear within the line
and_false : (x : Bool) → and x false ≡ false
and_false true = refl
and_false false = refl

moves_mark_off : (p : List ℕ) (c : Cursor) → feeds p ≡ 0 → c.mark ≡ false → (moves p c).mark ≡ false
unfolding moves
moves_mark_off [] c f h = h
moves_mark_off (b ∷ p) c f h = moves_mark_off p (moved c b) (flat_tail b p f) (rw (moved_flat c b (flat_head b p f), h) (and_false (white b)))

pub dark_flat : (b : ℕ) → white b ≡ false → eqb b 10 ≡ false
unfolding white
dark_flat b h = go (eqb b 10) refl
  where
    go : (x : Bool) → eqb b 10 ≡ x → x ≡ false
    go true e = let z : ◌≡◌ {A = Bool} true false = ap white (sym (eqb→≡ b 10 e)) ∙ h in cc
    go false e = refl

pub moves_mark_clear : (q : List ℕ) (b : ℕ) (r : List ℕ) (c : Cursor) → white b ≡ false → feeds r ≡ 0 → (moves (q ++ b ∷ r) c).mark ≡ false
unfolding moves
moves_mark_clear q b r c h f = rw moves_append (moves_mark_off r (moved (moves q c) b) f (rw (moved_flat (moves q c) b (dark_flat b h), h)))

-- ---- a text that ends in a line feed

-- past a line feed a line starts
pub moves_feed : (b : ℕ) (r : List ℕ) (c : Cursor) → EndsLf (b ∷ r)
    → moves (b ∷ r) c ≡ cursor (length (b ∷ r) + c.place) (feeds (b ∷ r) + c.line.0) 1 true
unfolding moves feeds
moves_feed b [] c h = rw h (moved_feed c ∙ ap₂ (λ (x y : ℕ). cursor x y 1 true) (omega arith) (omega arith))
moves_feed b (d ∷ r) c h =
    moves_feed d r (moved c b) h ∙ ap₂ (λ (x y : ℕ). cursor x y 1 true) (omega (arith, moved_place c b)) (omega (arith, moved_line c b))

-- from a text's start, it starts as many lines further on
pub moves_fresh : (xs : List ℕ) → EndsLf xs → moves xs fresh ≡ raise (length xs) (feeds xs) fresh
unfolding fresh
moves_fresh [] h = unfold moves feeds in refl
moves_fresh (b ∷ r) h = moves_feed b r fresh h
