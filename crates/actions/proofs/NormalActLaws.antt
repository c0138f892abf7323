-- The loop that normalises, by acts: what the act of a byte leads to, and how the loop ends.
use mathlib.Core.Path.{◌≡◌, refl, sym, ap, ◌∙◌}
use mathlib.Core.Logic.{⊎_elim}
use mathlib.Core.List.{List, [], ◌∷◌}
use Prim.Native.Nat.{ℕ, ◌+◌, ◌≤◌, ◌<◌}
use native.Mathlib.Omega.{arith}
use lib.ListN.{length, get_or, set}
use types.Run.{OneOf}
use denote.Enum.Declared.{tag_of}
use borrow.Author.Tests.{lt-ltb, le-ltb}
use Rattle.lent.proofs.BufferLaws.{written_all, written_length}
use Rattle.actions.specs.Normal.{Mode, plain, held, after_cr, margin, mode_after, text_given, text_held}
use Rattle.actions.specs.Steps.{act_text, act_mode, Normalises}
use Rattle.actions.specs.Cores.{Normalise}
use Rattle.actions.specs.declared.normalising.Act.{Act}
use Rattle.actions.specs.declared.normalising.Act.TheVariants.{Vanishes, Gives, Keeps}
use Rattle.std.specs.Prelude.{Some, None}
use Rattle.actions.specs.contracts.normalising.Mode.{the_type}
use Rattle.actions.proofs.NormalLoop.{Normalising, turn_none, turn_one, turn_two, ended, held_written, held_ended}

module _ {s old new : List ℕ} {m : Mode} {i n : ℕ} (room : length s ≤ length old) (x : Normalising s old new m i n) where
  -- the act a of the next byte
  module _ (k : i < length s) {a : Act} (d : (act_text a ≡ text_given m (get_or s i 0)) × (act_mode a ≡ mode_after m (get_or s i 0))) {m' : Mode} where
    pub acted_none : a ≡ Vanishes m' → Normalising s old new m' (i + 1) n
    acted_none e = turn_none x room k (sym d.1 ∙ ap act_mode e) (sym d.0 ∙ ap act_text e)

    module _ {b : ℕ} where
      pub acted_one : a ≡ Gives b m' → Normalising s old (set new n b) m' (i + 1) (n + 1)
      acted_one e = turn_one x room k (sym d.1 ∙ ap act_mode e) b (sym d.0 ∙ ap act_text e)

      pub room_one : a ≡ Gives b m' → n < length new
      room_one e = omega (arith, (acted_one e).written.fits, x.written.long)

      pub acted_two : a ≡ Keeps b m' → Normalising s old (set (set new n 92) (n + 1) b) m' (i + 1) (n + 2)
      acted_two e = turn_two x room k (sym d.1 ∙ ap act_mode e) 92 b (sym d.0 ∙ ap act_text e)

      pub room_two : a ≡ Keeps b m' → n + 1 < length new
      room_two e = omega (arith, (acted_two e).written.fits, x.written.long)

  -- all is read, and a backslash is held back
  module _ (k : length s ≤ i) (e : m ≡ held) where
    kept : text_held m ≡ 92 ∷ []
    unfolding text_held
    kept = rw e

    pub held_room : n < length new
    held_room = omega (arith, (held_written x room k kept).fits, x.written.long)

    pub held_all : Normalises s old (set new n 92) (n + 1)
    held_all =
        let w = held_written x room k kept in
        let t = held_ended x room k kept in
        record { text = written_all w t; count = written_length w t }

  -- or none is
  pub ended_all : length s ≤ i → OneOf (0 ∷ 2 ∷ 3 ∷ []) (tag_of the_type m) → Normalises s old new n
  ended_all k t =
      let e = ended x room k (none m t) in
      record { text = written_all x.written e; count = written_length x.written e }
    where
      none : (m : Mode) → OneOf (0 ∷ 2 ∷ 3 ∷ []) (tag_of the_type m) → text_held m ≡ []
      none plain t = unfold text_held in refl
      none held t = absurd (⊎_elim (λ e. omega arith) (λ l. ⊎_elim (λ e. omega arith) (λ e. omega arith) l) t)
      none after_cr t = unfold text_held in refl
      none margin t = unfold text_held in refl

-- ---- by the lengths

-- on any buffer: nothing is touched, or the text stands first
pub normal_short : (s out : List ℕ) → length out < length s → Normalise s out out None
normal_short s out h = let e = lt-ltb (length out) (length s) h in record { answer = rw e; text = rw e }

pub normal_text : (s out : List ℕ) {out' : List ℕ} {n : ℕ} → length s ≤ length out → Normalises s out out' n → Normalise s out out' (Some n)
normal_text s out h x = let e = le-ltb (length out) (length s) h in record { answer = rw e (ap Some x.count); text = rw e x.text }
