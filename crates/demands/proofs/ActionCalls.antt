-- The promises of parse_actions and parse_setvar, of normalise and read_actions are total and have no second answer; the first two keep to document 01's table.
-- The idea: a list is refused at a piece with 5 or 6 or not at all, and past it only for its room, so that there is an answer for each.
use Rattle.actions.specs.declared.ActionsError.TheVariants as ActionsError
use Rattle.lent.specs.declared.gating.GateError.TheVariants as GateError
use Rattle.std.specs.Prelude.{Result, Option, Ok, Err}
use mathlib.Core.Path.{refl, ap₂}
use mathlib.Core.Bool.{Bool, true, false}
use mathlib.Core.List.{List, [], ◌∷◌}
use Prim.Native.Nat.{ℕ, suc, ◌+◌}
use lib.ListN.{length}
use lib.Dec.{ltb}
use Rattle.ascii.specs.Choice.{pick}
use Rattle.lent.specs.Sizes.{action_words, room_for}
use Rattle.lent.specs.Gates.{gate_of}
use Rattle.lent.specs.Sources.{Part, part_word, Sourced, sourced, sited_all}
use Rattle.lent.specs.Table.{no_room, Outcome, refuses, reads, resited, sited_outcome, Filled, text_by, records_by}
use Rattle.actions.specs.Normal.{normalised}
use Rattle.actions.specs.Pieces.{Piece, pieces}
use Rattle.single_action.specs.Actions.{Action, Single, done, bad, unknown, single}
use Rattle.actions.specs.Lists.{action_then, single_then, actions_from, listed, normal_site, actions_of}
use Rattle.actions.specs.Promises as A
use Rattle.actions.specs.declared.Read.{Read as ActionsRead}
use Rattle.actions.specs.declared.ActionsError.{ActionsError}
use Rattle.actions.specs.declared.Reached.{Reached as ActionsReached}
use Rattle.actions.specs.declared.PieceError.{PieceError}
use Rattle.actions.proofs.GivenLaws.{parse_actions_once, setvar_once}
use Rattle.records.proofs.LayoutLaws.{words_length}
use Rattle.ascii.proofs.OneAnswer.{one_answer}
use Rattle.demands.specs.Fixed.{Fixed}
use Rattle.demands.specs.Calls.{Lent, Left, Wrote, parse_actions_promise, normalise_promise, read_actions_promise, parse_setvar_promise}
use Rattle.demands.specs.Rows.{Row}
use Rattle.demands.proofs.FixedLaws.{left_same, wrote_same}
use Rattle.demands.proofs.RowLaws.{row_of}
use Rattle.demands.proofs.AnswerLaws.{Answered, Gated, past_gate_lem}

abbrev AnsweredActions : Outcome Filled → Type 0
AnsweredActions = Answered action_words A.answer_given

-- a list's refusal has an answer, wherever its piece stands
abbrev Told : Outcome (List (Sourced Action)) → Type 0
Told (refuses f) = (g : Part → Part) → AnsweredActions (refuses (resited g f))
Told (reads xs) = Unit {0}

then_told : (x : Sourced Action) (o : Outcome (List (Sourced Action))) → Told o → Told (action_then x o)
then_told x (refuses f) t = t
then_told x (reads xs) t = tt

single_told : (k : ℕ) (y : Part) (x : Single) (o : Outcome (List (Sourced Action))) → Told o → Told (single_then k y x o)
single_told k y (done x) o t = then_told (sourced x y) o t
single_told k y (bad flaw name) o t = λ g. record { answer = Err (ActionsError.BadArgument flaw k (length name) (part_word (g y))); is = refl; filling = tt }
single_told k y (unknown name) o t = λ g. record { answer = Err (ActionsError.UnknownAction k (length name) (part_word (g y))); is = refl; filling = tt }

from_told : (k : ℕ) (ps : List Piece) → Told (actions_from k ps)
unfolding actions_from
from_told k [] = tt
from_told k (p ∷ ps) = single_told k p.place (single p.text) (actions_from (suc k) ps) (from_told (suc k) ps)

read_told : (m : ℕ) (xs : List (Sourced Action)) → AnsweredActions (A.roomed m (reads xs))
read_told m xs = go (ltb (room_for action_words m) (length xs))
  where
    go : (b : Bool) → AnsweredActions (pick b (refuses (no_room (length xs))) (reads (A.laid_out xs)))
    go true = record { answer = Err (ActionsError.NoRoom (length xs)); is = refl; filling = tt }
    go false =
        record { answer = Ok (record { count = length xs; text = _ }); is = refl; filling = record { count = _; more = _; values = refl; words = words_length 0 xs } }

room_told : (m : ℕ) (g : Part → Part) (o : Outcome (List (Sourced Action))) → Told o → AnsweredActions (A.roomed m (sited_outcome g o))
room_told m g (refuses f) t = t g
room_told m g (reads xs) t = read_told m (sited_all g xs)

gated : Gated action_words A.answer_given
gated = record { long = (Err (ActionsError.Gate GateError.TooLong), refl); high = λ p. (Err (ActionsError.Gate (GateError.NotAscii p)), refl); short = (Err (ActionsError.Gate GateError.Short), refl) }

-- ---- a list

abbrev list_outcome : Lent × List ℕ → Outcome Filled
list_outcome i = A.actions_outcome i.0.input (length i.0.text) (length i.1) (length i.0.records)

list_answered : (i : Lent × List ℕ) → AnsweredActions (list_outcome i)
unfolding A.actions_outcome actions_of
list_answered i =
    past_gate_lem action_words A.answer_given gated (A.actions_gate i.0.input (length i.0.text) (length i.1)) _
    (room_told (length i.0.records) (normal_site i.0.input) (listed (normalised i.0.input)) (from_told 0 (pieces (normalised i.0.input))))

pub parse_actions_fixed : Fixed (Lent × List ℕ) (Left (Result ActionsRead ActionsError) × List ℕ) parse_actions_promise
parse_actions_fixed = record {
  total = λ i.
      let o = list_outcome i in
      let a = list_answered i in
      let scratch = A.scratch_by (A.actions_gate i.0.input (length i.0.text) (length i.1)) i.0.input i.1 in (
        (record { answer = a.answer; text = text_by o i.0.text; records = records_by o i.0.records }, scratch),
        record { answer = a.is; texts = refl; words = refl; scratch = refl },
      );
  once = λ i o p x y.
      let e = parse_actions_once x y in
      ap₂ (λ (a : Left (Result ActionsRead ActionsError)) (b : List ℕ). (a, b)) (left_same o.0 p.0 (e.0, e.1, e.2)) e.3;
}

pub parse_actions_row : (i : Lent × List ℕ) (o : Left (Result ActionsRead ActionsError) × List ℕ) → parse_actions_promise i o
    → Row action_words (A.answer_given o.0.answer) i.0.text o.0.text i.0.records o.0.records
parse_actions_row i o x = row_of action_words (list_outcome i) (list_answered i).filling x.answer x.texts x.words

-- ---- between a gate and an ending

pub normalise_fixed : Fixed (List ℕ × List ℕ) (Wrote (Option ℕ)) normalise_promise
normalise_fixed = record {
  total = λ i. (record { answer = _; buffer = _ }, record { answer = refl; text = refl });
  once = λ i o p x y. wrote_same o p (one_answer x.answer y.answer, one_answer x.text y.text);
}

pub read_actions_fixed : Fixed (Lent × (ℕ × ℕ)) (Left (Result ActionsReached PieceError)) read_actions_promise
read_actions_fixed = record {
  total = λ i. (record { answer = _; text = _; records = _ }, record { answer = refl; texts = refl; words = refl });
  once = λ i o p x y. left_same o p (one_answer x.answer y.answer, one_answer x.texts y.texts, one_answer x.words y.words);
}

-- ---- a setvar alone

abbrev alone_outcome : Lent → Outcome Filled
alone_outcome i = A.setvar_outcome i.input (length i.text) (length i.records)

alone_answered : (i : Lent) → AnsweredActions (alone_outcome i)
unfolding A.setvar_outcome
alone_answered i =
    past_gate_lem action_words A.answer_given gated (gate_of i.input (length i.text) (length i.input + 3)) _
    (read_told (length i.records) (A.setvar_alone i.input))

pub parse_setvar_fixed : Fixed Lent (Left (Result ActionsRead ActionsError)) parse_setvar_promise
parse_setvar_fixed = record {
  total = λ i.
      let o = alone_outcome i in
      let a = alone_answered i in
      (record { answer = a.answer; text = text_by o i.text; records = records_by o i.records }, record { answer = a.is; texts = refl; words = refl });
  once = λ i o p x y. left_same o p (setvar_once x y);
}

pub parse_setvar_row : (i : Lent) (o : Left (Result ActionsRead ActionsError)) → parse_setvar_promise i o → Row action_words (A.answer_given o.answer) i.text o.text i.records o.records
parse_setvar_row i o x = row_of action_words (alone_outcome i) (alone_answered i).filling x.answer x.texts x.words
