-- What is given back tells the answer, so a promise is met by one answer only.
-- The idea: `answerFrom` reads an answer back from its number and values.
use mathlib.Core.Path.{◌≡◌, ◌∙◌, refl, sym, ap}
use mathlib.Core.List.{List}
use Prim.Native.Nat.{ℕ}
use lib.ListN.{get_or}
use lib.Dec.{eqb}
use Rattle.ascii.specs.Choice.{pick}
use Rattle.ascii.proofs.OneAnswer.{one_answer}
use Rattle.lent.specs.Table.{Given, flaw_of}
use Rattle.lent.specs.declared.refusing.Flaw.TheVariants as Flaw
use Rattle.actions.specs.Promises.{answer_given, ParseActions, SetvarAlone}
use Rattle.actions.specs.declared.Read.{Read}
use Rattle.actions.specs.declared.ActionsError.{ActionsError}
use Rattle.actions.specs.declared.ActionsError.TheVariants.{Gate, UnknownAction, BadArgument, NoRoom}
use Rattle.lent.specs.declared.gating.GateError.TheVariants.{TooLong, NotAscii, Short}
use Rattle.std.specs.Prelude.{Result, Ok, Err}

answer_from : Given → Result Read ActionsError
answer_from g =
    let v : ℕ → ℕ = λ i. get_or g.values i 0 in
    pick (eqb g.number 0) (Ok (record { count = v 0; text = v 1 }))
    (pick (eqb g.number 1) (Err (Gate TooLong))
    (pick (eqb g.number 2) (Err (Gate (NotAscii (v 0))))
    (pick (eqb g.number 3) (Err (Gate Short))
    (pick (eqb g.number 4) (Err (NoRoom (v 0)))
    (pick (eqb g.number 5) (Err (UnknownAction (v 0) (v 1) (v 2)))
    (Err (BadArgument (flaw_of g.number) (v 0) (v 1) (v 2))))))))

answer_back : (r : Result Read ActionsError) → answer_from (answer_given r) ≡ r
unfolding answer_from
answer_back (Ok x) = refl
answer_back (Err (Gate TooLong)) = refl
answer_back (Err (Gate (NotAscii place))) = refl
answer_back (Err (Gate Short)) = refl
answer_back (Err (UnknownAction piece name span)) = refl
answer_back (Err (BadArgument Flaw.Absent piece name span)) = refl
answer_back (Err (BadArgument Flaw.Unreadable piece name span)) = refl
answer_back (Err (BadArgument Flaw.TooLarge piece name span)) = refl
answer_back (Err (NoRoom needed)) = refl

-- Two answers that give the same back are the same.
pub answer_told : (r v : Result Read ActionsError) → answer_given r ≡ answer_given v → r ≡ v
answer_told r v e = sym (answer_back r) ∙ ap answer_from e ∙ answer_back v

-- No second answer of parse_actions: all that meets its promise is one answer, one text, one list of records and one scratch.
pub parse_actions_once : {s text text' text'' work work' work'' records records' records'' : List ℕ} {r r' : Result Read ActionsError}
    → ParseActions s text text' work work' records records' r → ParseActions s text text'' work work'' records records'' r'
    → (r ≡ r') × (text' ≡ text'') × (records' ≡ records'') × (work' ≡ work'')
parse_actions_once {r = r} {r' = r'} x y =
    (answer_told r r' (one_answer x.answer y.answer), one_answer x.texts y.texts, one_answer x.words y.words, one_answer x.scratch y.scratch)

-- No second answer of parse_setvar alone.
pub setvar_once : {s text text' text'' records records' records'' : List ℕ} {r r' : Result Read ActionsError}
    → SetvarAlone s text text' records records' r → SetvarAlone s text text'' records records'' r' → (r ≡ r') × (text' ≡ text'') × (records' ≡ records'')
setvar_once {r = r} {r' = r'} x y =
    (answer_told r r' (one_answer x.answer y.answer), one_answer x.texts y.texts, one_answer x.words y.words)
