-- The promise can be met, and by one answer only.
-- The idea: `answerFrom` reads an answer back from its number and values; and every outcome's number and values are an answer's.
use Rattle.directives.specs.declared.DirectivesError.TheVariants.{Gate, Refused, NoRoom}
use Rattle.lent.specs.declared.gating.GateError.TheVariants.{TooLong, Short, NotAscii}
use Rattle.lent.specs.declared.gating.GateError.{GateError}
use Rattle.std.specs.Prelude.{Ok, Err, Result}
use mathlib.Core.Path.{◌≡◌, ◌∙◌, refl, sym, ap}
use mathlib.Core.Bool.{Bool, true, false}
use mathlib.Core.List.{List}
use Prim.Native.Nat.{ℕ, min}
use lib.ListN.{length, get_or}
use lib.Dec.{eqb}
use Rattle.ascii.specs.Choice.{pick}
use Rattle.ascii.proofs.OneAnswer.{one_answer}
use Rattle.lent.specs.Gates.{gate_of}
use Rattle.lent.specs.Sources.{part_word}
use Rattle.lent.specs.Table.{Given, flaw_of, too_long, not_ascii, short_buffer, no_room, named, no_action, no_argument, no_variable, unknown_operator, bad_cursor}
use Rattle.lent.specs.declared.refusing.Flaw.TheVariants as Flaw
use Rattle.directives.specs.Directives.{Directive, Fault, wrong_count, untaken, stopped, id_missing, within}
use Rattle.directives.specs.Versions.{Version, directives_for}
use Rattle.directives.specs.Layout.{texts, listed_counts, action_counts}
use Rattle.directives.specs.Table.{overfull, filled, past_gate, fault_given, given_by}
use Rattle.directives.specs.Promises.{Answer, answer_given, laid_out, lacks, roomed, directives_outcome, Lent, rooms_of, outcome_on, left_by, Directives, read_as}
use Rattle.directives.specs.declared.LineFault.TheVariants.{IdMissing, Stopped, Untaken, WrongCount}
use Rattle.directives.specs.declared.ArgumentFault.TheVariants.{BadArgument, UnknownAction, UnknownOperator, UnknownVariable}
use Rattle.directives.specs.declared.Fault.TheVariants as Fault
use Rattle.directives.proofs.NumberLaws.{KnownFault, known_for}

-- ---- back from what is given

answer_from : Given → Answer
answer_from g =
    let v : ℕ → ℕ = λ i. get_or g.values i 0 in
    pick (eqb g.number 0) (Ok (read_as (v 0) (v 1) (v 2) (v 3)))
    (pick (eqb g.number 1) (Err (Gate TooLong))
    (pick (eqb g.number 2) (Err (Gate (NotAscii (v 0))))
    (pick (eqb g.number 3) (Err (Gate Short))
    (pick (eqb g.number 4) (Err (NoRoom (v 0) (v 1) (v 2)))
    (pick (eqb g.number 5) (Err (Refused (Fault.Argument UnknownAction (v 0) (v 1) (v 2) (v 3))))
    (pick (eqb g.number 7) (Err (Refused (Fault.Argument UnknownVariable (v 0) (v 1) (v 2) (v 3))))
    (pick (eqb g.number 8) (Err (Refused (Fault.Argument UnknownOperator (v 0) (v 1) (v 2) (v 3))))
    (pick (eqb g.number 13) (Err (Refused (Fault.Line WrongCount (v 0))))
    (pick (eqb g.number 14) (Err (Refused (Fault.Line Untaken (v 0))))
    (pick (eqb g.number 15) (Err (Refused (Fault.Line Stopped (v 0))))
    (pick (eqb g.number 18) (Err (Refused (Fault.Line IdMissing (v 0))))
    (Err (Refused (Fault.Argument (BadArgument (flaw_of g.number)) (v 0) (v 1) (v 2) (v 3)))))))))))))))

answer_back : (r : Answer) → answer_from (answer_given r) ≡ r
unfolding answer_from
answer_back (Ok r) = refl
answer_back (Err (Gate TooLong)) = refl
answer_back (Err (Gate (NotAscii place))) = refl
answer_back (Err (Gate Short)) = refl
answer_back (Err (Refused (Fault.Line WrongCount line))) = refl
answer_back (Err (Refused (Fault.Line Untaken line))) = refl
answer_back (Err (Refused (Fault.Line Stopped line))) = refl
answer_back (Err (Refused (Fault.Line IdMissing line))) = refl
answer_back (Err (Refused (Fault.Argument UnknownVariable line piece name span))) = refl
answer_back (Err (Refused (Fault.Argument UnknownAction line piece name span))) = refl
answer_back (Err (Refused (Fault.Argument (BadArgument Flaw.Absent) line piece name span))) = refl
answer_back (Err (Refused (Fault.Argument (BadArgument Flaw.Unreadable) line piece name span))) = refl
answer_back (Err (Refused (Fault.Argument (BadArgument Flaw.TooLarge) line piece name span))) = refl
answer_back (Err (Refused (Fault.Argument UnknownOperator line place len span))) = refl
answer_back (Err (NoRoom d v a)) = refl

-- Two answers that give the same back are the same.
pub answer_told : (r v : Answer) → answer_given r ≡ answer_given v → r ≡ v
answer_told r v e = sym (answer_back r) ∙ ap answer_from e ∙ answer_back v

-- ---- no second answer

-- all that meets the promise is one answer, and one content of each buffer
pub record Same (m n : Lent) (r v : Answer) : Type 0 where
  pub answer : r ≡ v
  pub text : m.text ≡ n.text
  pub scratch : m.scratch ≡ n.scratch
  pub directives : m.directives ≡ n.directives
  pub variables : m.variables ≡ n.variables
  pub actions : m.actions ≡ n.actions

pub directives_once : {w : Version} {s : List ℕ} {m m' m'' : Lent} {r v : Answer} → Directives w s m m' r → Directives w s m m'' v → Same m' m'' r v
directives_once {r = r} {v = v} x y = record {
  answer = answer_told r v (one_answer x.answer y.answer);
  text = one_answer x.text y.text;
  scratch = one_answer x.scratch y.scratch;
  directives = one_answer x.directives y.directives;
  variables = one_answer x.variables y.variables;
  actions = one_answer x.actions y.actions;
}

-- ---- total

-- an answer that gives this back
pub record Told (g : Given) : Type 0 where
  pub reply : Answer
  pub is : answer_given reply ≡ g

pub fault_told_lem : (f : Fault) → KnownFault f → Told (fault_given f)
fault_told_lem (wrong_count l) h = record { reply = Err (Refused (Fault.Line WrongCount l)); is = refl }
fault_told_lem (untaken l) h = record { reply = Err (Refused (Fault.Line Untaken l)); is = refl }
fault_told_lem (stopped l) h = record { reply = Err (Refused (Fault.Line Stopped l)); is = refl }
fault_told_lem (id_missing l) h = record { reply = Err (Refused (Fault.Line IdMissing l)); is = refl }
fault_told_lem (within l (named no_action p name x)) h = record { reply = Err (Refused (Fault.Argument UnknownAction l p (length name) (part_word x))); is = refl }
fault_told_lem (within l (named (no_argument flaw) p name x)) h = record { reply = Err (Refused (Fault.Argument (BadArgument flaw) l p (length name) (part_word x))); is = refl }
fault_told_lem (within l (named no_variable p name x)) h = record { reply = Err (Refused (Fault.Argument UnknownVariable l p (length name) (part_word x))); is = refl }
fault_told_lem (within l (unknown_operator p n x)) h = record { reply = Err (Refused (Fault.Argument UnknownOperator l p n (part_word x))); is = refl }
fault_told_lem (within l too_long) h = absurd h
fault_told_lem (within l (not_ascii p)) h = absurd h
fault_told_lem (within l short_buffer) h = absurd h
fault_told_lem (within l (no_room n)) h = absurd h
fault_told_lem (within l bad_cursor) h = absurd h

-- every outcome is some answer's
pub outcome_told : (v : Version) (s : List ℕ) (m : Lent) → Told (given_by (outcome_on v s m))
unfolding directives_outcome
outcome_told v s m = gate (gate_of s (min (length m.text) (length m.scratch)) (length s))
  where
    room : (ds : List Directive) (t : Bool) → Told (given_by (pick t (overfull (length ds) (listed_counts ds) (action_counts ds)) (filled (laid_out ds))))
    room ds true = record { reply = Err (NoRoom (length ds) (listed_counts ds) (action_counts ds)); is = refl }
    room ds false = record { reply = Ok (read_as (length ds) (listed_counts ds) (action_counts ds) (length (texts ds))); is = refl }

    past : (r : Result (List Directive) Fault) → directives_for v s ≡ r → Told (given_by (roomed (rooms_of m) r))
    past (Err f) e = fault_told_lem f (known_for v s f e)
    past (Ok ds) e = room ds (lacks (rooms_of m) ds)

    gate : (g : Result Unit GateError) → Told (given_by (past_gate g (roomed (rooms_of m) (directives_for v s))))
    gate (Ok tt) = past (directives_for v s) refl
    gate (Err TooLong) = record { reply = Err (Gate TooLong); is = refl }
    gate (Err (NotAscii p)) = record { reply = Err (Gate (NotAscii p)); is = refl }
    gate (Err Short) = record { reply = Err (Gate Short); is = refl }

-- whatever goes in, something may come out
pub directives_total : (v : Version) (s : List ℕ) (m : Lent) → Directives v s m (left_by (outcome_on v s m) m) (outcome_told v s m).reply
directives_total v s m = record { answer = (outcome_told v s m).is; text = refl; scratch = refl; directives = refl; variables = refl; actions = refl }
