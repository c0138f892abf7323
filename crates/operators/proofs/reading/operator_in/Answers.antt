-- By whether a name is written, and then by its lookup; each way is one law of FoundLaws.
use mathlib.Core.Path.{◌∙◌, sym}
use Rattle.operators.proofs.FoundLaws.{argument_ordered, name_ordered, name_within, answer_plain, answer_known, answer_unknown}
use Rattle.operators.proofs.reading.operator_in.Goals as goal
use Rattle.operators.proofs.reading.operator_in.Goals.{in-None, in-Some+in-Some-operator_code}

pub slice_bounds-operator_code-count : goal.slice_bounds-operator_code-count
slice_bounds-operator_code-count c = name_ordered c.args.s.now _ c.find-found.ensures _ c.in-Some.is

pub slice_bounds-operator_code-start : goal.slice_bounds-operator_code-start
slice_bounds-operator_code-start c = name_ordered c.args.s.now _ c.find-found.ensures _ c.in-Some.is

pub slice_bounds-operator_code-end : goal.slice_bounds-operator_code-end
slice_bounds-operator_code-end c = name_within c.args.s.now _ c.find-found.ensures _ c.in-Some.is

pub overflow_sub-result : goal.overflow_sub-result
overflow_sub-result c = name_ordered c.args.s.now _ c.find-found.ensures _ c.in-Some.is

pub returns-in-None-operator_code : goal.returns-in-None-operator_code
returns-in-None-operator_code c =
    record { answer = answer_unknown c.args.s.now _ c.find-found.ensures _ c.in-Some.is (sym c.operator_code.ensures ∙ c.in-None-operator_code.is) }

pub overflow_sub-result-2 : goal.overflow_sub-result-2
overflow_sub-result-2 c = argument_ordered c.args.s.now _ c.find-found.ensures

pub returns : goal.returns
returns c =
    elim c.match-found.branch [
      | in-None w ↦ rw w.name-is (record { answer = answer_plain c.args.s.now _ c.find-found.ensures w.in-None.is })
      | in-Some+in-Some-operator_code w ↦
          rw w.name-is (record { answer = answer_known c.args.s.now _ c.find-found.ensures _ w.in-Some.is _ (sym w.operator_code.ensures ∙ w.in-Some-operator_code.is) })
    ]
