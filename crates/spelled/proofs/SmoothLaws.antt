-- An accepted list whose texts have no quotation mark, backslash, comma or round bracket passes the condition.
use mathlib.Core.Path.{◌≡◌, ◌∙◌, refl, ap, subst}
use mathlib.Core.Bool.{true}
use mathlib.Core.List.{List, [], ◌∷◌}
use Prim.Native.Nat.{ℕ}
use Rattle.ascii.specs.Classes.{white}
use Rattle.ascii.specs.Trim.{strip_start, trim_ends}
use Rattle.ascii.proofs.TestLaws.{both, joins}
use Rattle.lent.specs.Sources.{Sourced}
use Rattle.lent.specs.Table.{reads}
use Rattle.records.specs.Actions.{Action, action_text}
use Rattle.single_action.specs.Actions.{done, single}
use Rattle.actions.specs.Normal.{normalised}
use Rattle.actions.specs.Pieces.{outside, parts_from}
use Rattle.actions.specs.Lists.{actions_of}
use Rattle.spelled.specs.Spelling.{spell}
use Rattle.spelled.specs.Condition.{nest_past, clean, stays, written, smooth, smooth_texts}
use Rattle.spelled.specs.Back.{things}
use Rattle.spelled.proofs.TestLaws.{deny}
use Rattle.spelled.proofs.BareLaws.{keep_text, texts_of, piece_texts, Read, pieces_read}
use Rattle.spelled.proofs.PartLaws.{end_last}
use Rattle.spelled.proofs.MadeLaws.{made}
use Rattle.spelled.proofs.CalmLaws.{calm_spelling}
use Rattle.spelled.proofs.EndLaws.{Ending, Ended, spelling_last, single_ended}

record Settled (x : Action) : Type 0 where
  staying : stays x ≡ true
  closing : clean (nest_past outside (spell x)) ≡ true

settled : (q : List ℕ) (x : Action) → Ending q → single q ≡ done x → smooth (action_text x) ≡ true → Settled x
unfolding stays
settled q x t e h =
    let c = calm_spelling x h in
    let n = spelling_last x ∙ subst Ended e (single_ended q t) in
    record { staying = joins (made q x e) (joins c.steadily (joins (deny n) c.whole_is)); closing = ap clean c.closed }

abbrev AllSettled : List Action → Type 0
AllSettled [] = Unit {0}
AllSettled (x ∷ xs) = Settled x × AllSettled xs

abbrev AllEnding : List (List ℕ) → Type 0
AllEnding [] = Unit {0}
AllEnding (p ∷ ps) = Ending p × AllEnding ps

-- pieces are trimmed
texts_ending : (ps : List (List ℕ)) → AllEnding (texts_of ps)
unfolding texts_of
texts_ending [] = tt
texts_ending (p ∷ ps) = go (trim_ends p) (end_last white (strip_start white p)) (texts_ending ps)
  where
    go : (t : List ℕ) → Ending t → AllEnding (texts_of ps) → AllEnding (keep_text t (texts_of ps))
    go [] h ih = ih
    go (b ∷ r) h ih = (h, ih)

all_settled : (ps : List (List ℕ)) (xs : List Action) → AllEnding ps → Read ps xs → smooth_texts xs ≡ true → AllSettled xs
unfolding smooth_texts
all_settled [] [] t e h = tt
all_settled [] (x ∷ xs) t e h = absurd e
all_settled (p ∷ ps) [] t e h = absurd e
all_settled (p ∷ ps) (x ∷ xs) t e h =
    let g = both (smooth (action_text x)) (smooth_texts xs) h in
    (settled p x t.0 e.0 g.0, all_settled ps xs t.1 e.1 g.1)

settled_written : (xs : List Action) → AllSettled xs → written xs ≡ true
unfolding written
settled_written [] h = refl
settled_written (x ∷ []) h = h.0.staying
settled_written (x ∷ y ∷ r) h = joins h.0.staying (joins h.0.closing (settled_written (y ∷ r) h.1))

-- such an accepted list passes the condition
pub smooth_written : (s : List ℕ) (ys : List (Sourced Action)) → actions_of s ≡ reads ys → smooth_texts (things ys) ≡ true → written (things ys) ≡ true
smooth_written s ys e h =
    settled_written (things ys) (all_settled (piece_texts (normalised s)) (things ys) (texts_ending (parts_from outside (normalised s))) (pieces_read s ys e) h)
