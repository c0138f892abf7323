-- Records read one after another: a whole one and those after it, or none where less than one is left.
use mathlib.Core.Path.{◌≡◌, ◌∙◌}
use mathlib.Core.List.{List, [], ◌∷◌, ◌++◌}
use Prim.Native.Nat.{ℕ, suc, ◌-◌, ◌≤◌, ◌<◌}
use native.Mathlib.Omega.{arith}
use lib.ListN.{length, drop, length-drop, length-append, get_or-append}
use lib.Seq.{drop-append_seam}
use Rattle.lent.specs.Sizes.{action_words, room_for}
use Rattle.rules.specs.Entries.{first, entries_of, entries}

room_more : (n : ℕ) → action_words ≤ n → room_for action_words n ≡ suc (room_for action_words (n - action_words))
unfolding room_for
room_more n h = omega arith

room_none : (n : ℕ) → n < action_words → room_for action_words n ≡ 0
unfolding room_for
room_none n h = omega arith

entries_more : (w : List ℕ) → action_words ≤ length w → entries w ≡ first w ∷ entries (drop action_words w)
unfolding entries entries_of
entries_more w h = rw (room_more (length w) h, length-drop)

pub entries_none : (w : List ℕ) → length w < action_words → entries w ≡ []
unfolding entries entries_of
entries_none w h = rw (room_none (length w) h)

-- a record, and what is behind it
pub entries_joined : (x r : List ℕ) → length x ≡ action_words → entries (x ++ r) ≡ first x ∷ entries r
entries_joined x r h =
    let l : action_words ≤ length (x ++ r) = omega (arith, length-append x r) in
    let d : drop action_words (x ++ r) ≡ r = rw h at (drop-append_seam x r) in
    entries_more (x ++ r) l ∙ rw (d, get_or-append x r 0 0 (omega arith), get_or-append x r 0 1 (omega arith))
