-- What every fixed promise is made of.
use Rattle.std.specs.Prelude.{Result}
use mathlib.Core.Path.{◌≡◌, ◌∙◌, refl, ap, ap₂}
use mathlib.Core.Bool.{Bool}
use mathlib.Core.List.{List}
use Rattle.lent.specs.Endings.{overfull}
use Prim.Native.Nat.{ℕ}
use denote.Ref.{Bor}
use Rattle.ascii.proofs.OneAnswer.{one_answer}
use Rattle.lent.specs.Sizes.{token_words}
use Rattle.lexer.specs.Promises.{ended_by}
use Rattle.lexer.specs.declared.Cursor.{Cursor}
use Rattle.lexer.specs.declared.writing.Read.{Read as TokensRead}
use Rattle.lexer.specs.declared.writing.TokensError.{TokensError}
use Rattle.reader.specs.declared.Reader.{Reader}
use Rattle.demands.specs.Fixed.{Fixed, Gives}
use Rattle.demands.specs.Calls.{Left, Wrote, Filling, finish_promise, Placing, site_word_promise, Replacing, resite_promise, Ending, end_reading_promise}

-- An equation with a definition is total, and no second answer meets it.
pub gives : {In Out : Type 0} (f : In → Out) → Gives f
gives f = record { total = λ i. (f i, refl); once = λ i o p x y. one_answer x y }

-- two equations at once
pub both_given : {In A B : Type 0} (f : In → A) (g : In → B) → Fixed In (A × B) (λ i o. (o.0 ≡ f i) × (o.1 ≡ g i))
both_given {In} {A} {B} f g = record {
  total = λ i. ((f i, g i), (refl, refl));
  once = λ i o p x y. ap₂ (λ (a : A) (b : B). (a, b)) (one_answer x.0 y.0) (one_answer x.1 y.1);
}

-- two outcomes with equal parts are equal
pub left_same : {A : Type 0} (o p : Left A) → (o.answer ≡ p.answer) × (o.text ≡ p.text) × (o.records ≡ p.records) → o ≡ p
left_same {A} o p e =
    ap (λ (x : A). record { answer = x; text = o.text; records = o.records }) e.0
    ∙ ap (λ (x : List ℕ). record { answer = p.answer; text = x; records = o.records }) e.1
    ∙ ap (λ (x : List ℕ). record { answer = p.answer; text = p.text; records = x }) e.2

pub wrote_same : {A : Type 0} (o p : Wrote A) → (o.answer ≡ p.answer) × (o.buffer ≡ p.buffer) → o ≡ p
wrote_same {A} o p e =
    ap (λ (x : A). record { answer = x; buffer = o.buffer }) e.0 ∙ ap (λ (x : List ℕ). record { answer = p.answer; buffer = x }) e.1

-- a reader is its text and its cursor
pub reader_fixed : {In : Type 0} (text : In → Bor (List ℕ)) (from : In → Cursor) → Fixed In Reader (λ i r. (r.text ≡ text i) × (r.cursor ≡ from i))
reader_fixed text from = record {
  total = λ i. (record { text = text i; cursor = from i }, (refl, refl));
  once = λ i o p x y.
      ap₂ (λ (t : Bor (List ℕ)) (c : Cursor). record { text = t; cursor = c }) (one_answer x.0 y.0) (one_answer x.1 y.1);
}

-- the last step of a reader
pub finish_fixed : Fixed Filling (Left Bool) finish_promise
finish_fixed = record {
  total = λ i. (record { answer = overfull i.width i.count i.records; text = _; records = _ }, record { told = refl; texts = refl; words = refl });
  once = λ i o p x y. left_same o p (one_answer x.told y.told, one_answer x.texts y.texts, one_answer x.words y.words);
}

-- spans put where their text was read from
pub site_word_fixed : Fixed Placing ℕ site_word_promise
site_word_fixed = record { total = λ i. (_, record { is = refl }); once = λ i o p x y. one_answer x.is y.is }

pub resite_fixed : Fixed Replacing (List ℕ) resite_promise
resite_fixed = record { total = λ i. (_, record { words = refl }); once = λ i o p x y. one_answer x.words y.words }

-- and of a lexer
pub end_reading_fixed : Fixed Ending (Left (Result TokensRead TokensError)) end_reading_promise
end_reading_fixed = record {
  total = λ i. (record { answer = ended_by (overfull token_words i.read.count i.records) i.read; text = _; records = _ }, record { answer = refl; left = record { told = refl; texts = refl; words = refl } });
  once = λ i o p x y. left_same o p (one_answer x.answer y.answer, one_answer x.left.texts y.left.texts, one_answer x.left.words y.left.words);
}
