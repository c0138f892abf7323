-- The last step of every reader, at any width: what `finish` leaves, and that it is what the table states for what was read.
use mathlib.Core.Path.{◌≡◌, ◌∙◌, refl, sym, ap}
use mathlib.Core.Bool.{Bool, true, false}
use mathlib.Core.List.{List, append-nil}
use Prim.Native.Nat.{ℕ, zero, suc, ◌-◌, ◌*◌, ◌≤◌, ◌<◌}
use native.Mathlib.Omega.{arith}
use native.Mathlib.Nat.{sub_self}
use lib.ListN.{length, take, drop, take-append-drop}
use lib.Seq.{length-take-le, take_all}
use lib.Dec.{ltb}
use borrow.Author.Tests.{lt-ltb, le-ltb, ltb-false}
use borrow.Rule.Slice.PartMut.{mid_of, put_mid}
use Rattle.ascii.specs.Choice.{pick}
use Rattle.lent.specs.Sizes.{room_for}
use Rattle.lent.specs.Buffers.{zeros, padded, stored}
use Rattle.lent.specs.Endings.{overfull, Finished}
use Rattle.lent.specs.Table.{no_room, Outcome, refuses, reads, Filled, text_by, records_by}
use Rattle.lent.proofs.BufferLaws.{cleared, stored_cleared}
use Rattle.lent.proofs.SpanLaws.{room_is}

-- as many records as there is room for are inside the buffer
pub words_fit : (width count words : ℕ) → count ≤ room_for width words → count * width ≤ words
unfolding room_for
words_fit zero count words h = omega arith
words_fit (suc width) count words h = (room_is (suc width) words count (omega arith)).0 h

module _ (text : List ℕ) (used : ℕ) where
  -- what stands from `used` on was lent and cleared
  pub beyond_cleared : used ≤ length text → {zeroed : List ℕ} → zeroed ≡ zeros (length (mid_of used (length text - used) text))
      → put_mid used (length text - used) text zeroed ≡ padded (length text) (take used text)
  beyond_cleared h f = cleared text text (take used text) (drop used text) used refl (sym (take-append-drop used text)) (sym (length-take-le used text h)) f

  -- or nothing stands there
  pub none_beyond : length text ≤ used → text ≡ padded (length text) (take used text)
  none_beyond h = sym (rw (take_all used text h, sub_self) (append-nil text))

module _ (used count width : ℕ) (text records : List ℕ) {room : ℕ} (e : room ≡ room_for width (length records)) where
  pub finish_full : room < count → {text' records' : List ℕ} → text' ≡ zeros (length text) → records' ≡ zeros (length records)
      → Finished used count width text text' records records' true
  finish_full h f g =
      let o : overfull width count records ≡ true = lt-ltb _ _ (rw e at h) in
      record { told = sym o; texts = rw o f; words = rw o g }

  pub finish_fits : count ≤ room → count * width ≤ length records
  finish_fits h = words_fit width count (length records) (rw e at h)

  pub finish_left : count ≤ room → {text' blank : List ℕ} → text' ≡ padded (length text) (take used text)
      → blank ≡ zeros (length (mid_of (count * width) (length records - count * width) records))
      → Finished used count width text text' records (put_mid (count * width) (length records - count * width) records blank) false
  finish_left h f g =
      let o : overfull width count records ≡ false = le-ltb _ _ (rw e at h) in
      record { told = sym o; texts = rw o f; words = rw o (beyond_cleared records (count * width) (finish_fits h) g) }

-- what a reader comes to that wrote `f`, whose records are so many of that width, into buffers with m words
abbrev pub ended : ℕ → ℕ → ℕ → Filled → Outcome Filled
ended width count m f = pick (ltb (room_for width m) count) (refuses (no_room count)) (reads f)

-- both buffers then, where `f` stands at their fronts before the last step, its records where they fit
module _ {used count width : ℕ} {text₁ text' records₁ records' : List ℕ} {full : Bool} (x : Finished used count width text₁ text' records₁ records' full)
    (text records : List ℕ) (f : Filled) (long : length text₁ ≡ length text) (wide : length records₁ ≡ length records) where
  pub ended_told : full ≡ ltb (room_for width (length records)) count
  ended_told = x.told ∙ rw wide

  pub ended_text : take used text₁ ≡ f.texts → text' ≡ text_by (ended width count (length records) f) text
  ended_text t = x.texts ∙ rw (wide, long, t) (go (ltb (room_for width (length records)) count))
    where
      go : (b : Bool) → pick b (zeros (length text)) (padded (length text) f.texts) ≡ text_by (pick b (refuses (no_room count)) (reads f)) text
      go true = refl
      go false = refl

  pub ended_records : (count * width ≤ length records → take (count * width) records₁ ≡ f.words) → records' ≡ records_by (ended width count (length records) f) records
  ended_records w = x.words ∙ rw wide (go (ltb (room_for width (length records)) count) refl)
    where
      go : (b : Bool) → ltb (room_for width (length records)) count ≡ b
          → pick b (zeros (length records)) (padded (length records) (take (count * width) records₁)) ≡ records_by (pick b (refuses (no_room count)) (reads f)) records
      go true z = refl
      go false z = ap (padded (length records)) (w (words_fit width count (length records) (ltb-false (room_for width (length records)) count z)))

-- a refusal that names a piece, where the name fits
pub refused_text_lem : (old name : List ℕ) {new : List ℕ} → new ≡ stored (zeros (length old)) 0 name → length name ≤ length old → new ≡ padded (length old) name
refused_text_lem old name e h = e ∙ stored_cleared (length old) name h
