-- Records and texts of a list of actions, by lent's laws.
use mathlib.Core.Path.{◌≡◌, ◌∙◌, refl, sym, ap}
use mathlib.Core.List.{List, [], ◌∷◌, ◌++◌}
use Prim.Native.Nat.{ℕ, ◌+◌, ◌*◌}
use lib.ListN.{length, length-append}
use Rattle.lent.specs.Sizes.{action_words}
use Rattle.lent.specs.Buffers.{stored, stored_each, joined}
use Rattle.lent.proofs.BufferLaws.{each_more}
use Rattle.lent.proofs.LayoutLaws as Lent
use Rattle.lent.specs.Sources.{Sourced}
use Rattle.records.specs.Actions.{Action}
use Rattle.records.specs.Layout.{action_record, full_record, full_text, records_from, words_from, texts}

pub texts_more : (xs : List (Sourced Action)) (x : Sourced Action) → texts (xs ++ (x ∷ [])) ≡ texts xs ++ full_text x
texts_more = Lent.texts_more full_text

pub texts_length : (xs : List (Sourced Action)) (x : Sourced Action) → length (texts (xs ++ (x ∷ []))) ≡ length (texts xs) + length (full_text x)
texts_length xs x = ap length (texts_more xs x) ∙ length-append (texts xs) (full_text x)

pub record_length : (o : ℕ) (x : Sourced Action) → length (full_record o x) ≡ action_words
unfolding action_record
record_length o x = refl

pub words_length : (o : ℕ) (xs : List (Sourced Action)) → length (words_from o xs) ≡ length xs * action_words
words_length = Lent.words_length full_text full_record action_words record_length

pub words_joined : (o : ℕ) (xs : List (Sourced Action)) → joined (records_from o xs) ≡ words_from o xs
words_joined = Lent.records_joined full_text full_record

-- one record more, behind those before it
pub each_record : (old : List ℕ) (i o : ℕ) (xs : List (Sourced Action)) (x : Sourced Action)
    → stored (stored_each old i (records_from o xs)) (i + length xs * action_words) (full_record (o + length (texts xs)) x) ≡ stored_each old i (records_from o (xs ++ (x ∷ [])))
each_record old i o xs x =
    let r = full_record (o + length (texts xs)) x in
    let e : length (joined (records_from o xs)) ≡ length xs * action_words = ap length (words_joined o xs) ∙ words_length o xs in
    ap (λ (n : ℕ). stored (stored_each old i (records_from o xs)) (i + n) r) (sym e)
    ∙ sym (each_more old i (records_from o xs) r)
    ∙ ap (stored_each old i) (sym (Lent.records_more full_text full_record o xs x))
