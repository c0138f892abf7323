-- What parse_actions and parse_setvar come to on each path of the code.
use Rattle.lent.specs.declared.gating.GateError.{GateError}
use Rattle.std.specs.Prelude.{Result}
use mathlib.Core.Path.{◌≡◌}
use mathlib.Core.List.{List}
use Prim.Native.Nat.{ℕ, ◌+◌, ◌≤◌, ◌<◌}
use lib.ListN.{length}
use borrow.Author.Tests.{lt-ltb, le-ltb}
use Rattle.lent.specs.Sizes.{action_words, room_for}
use Rattle.lent.specs.Gates.{gate_of}
use Rattle.lent.specs.Sources.{Sourced}
use Rattle.lent.specs.Table.{no_room, Outcome, refuses, reads, past_gate}
use Rattle.single_action.specs.Actions.{Action}
use Rattle.actions.specs.Lists.{actions_of}
use Rattle.actions.specs.Promises.{laid_out, roomed, actions_gate, actions_outcome, setvar_alone, setvar_outcome}

-- records that fit, and records that do not
pub room_read : (m : ℕ) (xs : List (Sourced Action)) → length xs ≤ room_for action_words m → roomed m (reads xs) ≡ reads (laid_out xs)
room_read m xs h = rw (le-ltb (room_for action_words m) (length xs) h)

pub room_none : (m : ℕ) (xs : List (Sourced Action)) → room_for action_words m < length xs → roomed m (reads xs) ≡ refuses (no_room (length xs))
room_none m xs h = rw (lt-ltb (room_for action_words m) (length xs) h)

module _ (s : List ℕ) (n k m : ℕ) where
  -- by the gate's answer and what the pieces come to
  pub outcome_by_lem : (g : Result Unit GateError) (o : Outcome (List (Sourced Action))) → actions_gate s n k ≡ g → actions_of s ≡ o → actions_outcome s n k m ≡ past_gate g (roomed m o)
  unfolding actions_outcome
  outcome_by_lem g o e f = rw (e, f)

module _ (s : List ℕ) (n m : ℕ) where
  pub setvar_by : (g : Result Unit GateError) → gate_of s n (length s + 3) ≡ g → setvar_outcome s n m ≡ past_gate g (roomed m (reads (setvar_alone s)))
  unfolding setvar_outcome
  setvar_by g e = rw e
