-- What is given back tells the answer: the paper's number and values lose nothing of it, so a promise is met by one answer only.
-- The idea: `answerFrom` reads an answer back from its number and values.
use mathlib.Core.Path.{◌≡◌, ◌∙◌, refl, sym, ap}
use mathlib.Core.List.{List}
use Prim.Native.Nat.{ℕ}
use lib.ListN.{get_or}
use lib.Dec.{eqb}
use Rattle.ascii.specs.Choice.{pick}
use Rattle.ascii.proofs.OneAnswer.{one_answer}
use Rattle.lent.specs.Table.{Given, Outcome, Filled}
use Rattle.variables.specs.Promises.{answer_given, Meets, ParseVariables, ParseUpdateTargets}
use Rattle.variables.specs.declared.Read.{Read}
use Rattle.variables.specs.declared.VariablesError.{VariablesError}
use Rattle.variables.specs.declared.VariablesError.TheVariants.{Gate, Unknown, NoRoom}
use Rattle.lent.specs.declared.gating.GateError.TheVariants.{TooLong, NotAscii, Short}
use Rattle.std.specs.Prelude.{Result, Ok, Err}

answer_from : Given → Result Read VariablesError
answer_from g =
    let v : ℕ → ℕ = λ i. get_or g.values i 0 in
    pick (eqb g.number 0) (Ok (record { count = v 0; text = v 1 }))
    (pick (eqb g.number 1) (Err (Gate TooLong))
    (pick (eqb g.number 2) (Err (Gate (NotAscii (v 0))))
    (pick (eqb g.number 3) (Err (Gate Short))
    (pick (eqb g.number 7) (Err (Unknown (v 0) (v 1) (v 2)))
    (Err (NoRoom (v 0)))))))

answer_back : (r : Result Read VariablesError) → answer_from (answer_given r) ≡ r
unfolding answer_from
answer_back (Ok x) = refl
answer_back (Err (Gate TooLong)) = refl
answer_back (Err (Gate (NotAscii place))) = refl
answer_back (Err (Gate Short)) = refl
answer_back (Err (Unknown piece name span)) = refl
answer_back (Err (NoRoom needed)) = refl

-- Two answers that give the same back are the same.
pub answer_told : (r v : Result Read VariablesError) → answer_given r ≡ answer_given v → r ≡ v
answer_told r v e = sym (answer_back r) ∙ ap answer_from e ∙ answer_back v

-- One outcome is met by one answer, one text and one list of records.
pub meets_once : {o : Outcome Filled} {text text' text'' records records' records'' : List ℕ} {r v : Result Read VariablesError}
    → Meets o text text' records records' r → Meets o text text'' records records'' v → (r ≡ v) × (text' ≡ text'') × (records' ≡ records'')
meets_once {r = r} {v = v} x y = (answer_told r v (one_answer x.answer y.answer), one_answer x.texts y.texts, one_answer x.words y.words)

-- No second answer of parse_variables, and none of parse_update_targets.
pub parse_variables_once : (s : List ℕ) {text text' text'' records records' records'' : List ℕ} {r v : Result Read VariablesError}
    → ParseVariables s text text' records records' r → ParseVariables s text text'' records records'' v → (r ≡ v) × (text' ≡ text'') × (records' ≡ records'')
parse_variables_once s x y = meets_once x y

pub parse_update_targets_once : (s : List ℕ) {text text' text'' records records' records'' : List ℕ} {r v : Result Read VariablesError}
    → ParseUpdateTargets s text text' records records' r → ParseUpdateTargets s text text'' records records'' v → (r ≡ v) × (text' ≡ text'') × (records' ≡ records'')
parse_update_targets_once s x y = meets_once x y
