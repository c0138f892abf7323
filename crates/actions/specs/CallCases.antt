-- The order of checks in worked calls: 3 before any piece, 5 and 10 to 12 before 4, and room for exactly the records.
use Rattle.std.specs.Prelude.{◌≡◌, refl, ℕ, [], ◌∷◌}
use Prim.Native.String.{String}
use Rattle.ascii.specs.Text.{bytes}
use Rattle.lent.specs.Sizes.{room_for, span_word}
use Rattle.lent.specs.Gates.{first_high, gate_of}
use Rattle.lent.specs.Table.{Given, given, given_by}
use Rattle.lent.specs.Layout.{texts_of}
use Rattle.single_action.specs.Actions.{action_text}
use Rattle.actions.specs.Promises.{actions_outcome, setvar_outcome}
use Rattle.actions.specs.Cases.{Comes}

-- What a call of parse_actions gives, with so many bytes of text and of scratch and words of records lent.
unfoldable pub Gives : String → ℕ → ℕ → ℕ → Given → Type 0
unfolding Comes room_for span_word first_high gate_of action_text texts_of actions_outcome
Gives s n k m g = given_by (actions_outcome (bytes s) n k m) ≡ g

-- What a call of parse_setvar alone gives, with so many bytes of text and words of records lent.
unfoldable pub GivesAlone : String → ℕ → ℕ → Given → Type 0
unfolding Gives setvar_outcome
GivesAlone s n m g = given_by (setvar_outcome (bytes s) n m) ≡ g

-- room for exactly the records, and for one fewer
pub room_exact : Gives "deny,t:x" 8 8 14 (given 0 (2 ∷ 1 ∷ []))
unfolding Gives
room_exact = refl

pub room_fewer : Gives "deny,t:x" 8 8 13 (given 4 (2 ∷ []))
unfolding Gives
room_fewer = refl

-- scratch is asked for like text, and before any piece is read
pub scratch_short : Gives "bogus" 5 4 0 (given 3 (0 ∷ []))
unfolding Gives
scratch_short = refl

-- a bad piece comes before the room
pub room_last : Gives "deny,bogus" 10 10 0 (given 5 (1 ∷ 5 ∷ span_word 5 5 ∷ []))
unfolding Gives
room_last = refl

-- and so does a bad argument: the piece, the length of the action's name, and the piece's span
pub absent_last : Gives "deny,SKIPAFTER" 14 14 0 (given 10 (1 ∷ 9 ∷ span_word 5 9 ∷ []))
unfolding Gives
absent_last = refl

pub unreadable_last : Gives "deny,id:" 8 8 0 (given 11 (1 ∷ 2 ∷ span_word 5 3 ∷ []))
unfolding Gives
unreadable_last = refl

pub large_last : Gives "deny,phase:256" 14 14 0 (given 12 (1 ∷ 5 ∷ span_word 5 9 ∷ []))
unfolding Gives
large_last = refl

-- a setvar alone asks for 3 bytes more than the input
pub alone_exact : GivesAlone "a" 4 7 (given 0 (1 ∷ 4 ∷ []))
unfolding GivesAlone
alone_exact = refl

pub alone_short : GivesAlone "a" 3 7 (given 3 (0 ∷ []))
unfolding GivesAlone
alone_short = refl

pub alone_fewer : GivesAlone "a" 4 6 (given 4 (1 ∷ []))
unfolding GivesAlone
alone_fewer = refl
