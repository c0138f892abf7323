-- The promises of the calls that write a listing or an action list are total, and have no second answer.
use Rattle.listing.specs.declared.ListingError.TheVariants as ListingError
use Rattle.std.specs.Prelude.{Result, Ok, Err}
use mathlib.Core.Path.{◌≡◌, ◌∙◌, refl, ap, ap₂}
use mathlib.Core.List.{List, [], ◌∷◌, ◌++◌}
use Prim.Native.Nat.{ℕ}
use lib.ListN.{length, take}
use lib.Dec.{ltb}
use Rattle.ascii.specs.Choice.{pick}
use Rattle.ascii.proofs.OneAnswer.{one_answer}
use Rattle.lent.specs.Table as Table
use Rattle.lexer.specs.Promises.{tokens_outcome}
use Rattle.listing.specs.Json.{onto}
use Rattle.listing.specs.Listings.{refusal, line_of}
use Rattle.listing.specs.Promises as P
use Rattle.listing.specs.declared.ListingError.{ListingError}
use Rattle.listing.proofs.GivenLaws.{leaves_once, list_text_once}
use Rattle.spelled.specs.Promises.{written_outcome}
use Rattle.demands.specs.Fixed.{Fixed}
use Rattle.demands.specs.Calls.{Lent, Left, Wrote, Records, Refusal, write_listing_promise, write_refusal_promise, write_refusal_line_promise, list_text_promise, finish_listing_promise, digits_into_promise, ActionRecords, write_actions_promise}
use Rattle.demands.proofs.FixedLaws.{left_same, wrote_same}

told : (o : P.Outcome) → (r : Result ℕ ListingError) × (P.answer_given r ≡ P.given_by o)
told (P.writes xs) = (Ok (length xs), refl)
told (P.no_room n) = (Err (ListingError.NoRoom n), refl)
told (P.no_token n) = (Err (ListingError.NoToken n), refl)

-- those that write into one buffer, by what a call comes to
leaves_fixed : {In : Type 0} (buffer : In → List ℕ) (o : In → P.Outcome) → Fixed In (Wrote (Result ℕ ListingError)) (λ i w. P.Leaves (o i) (buffer i) w.buffer w.answer)
leaves_fixed buffer o = record {
  total = λ i. (record { answer = (told (o i)).0; buffer = P.buffer_by (o i) (length (buffer i)) }, record { answer = (told (o i)).1; buffer = refl });
  once = λ i w v x y. wrote_same w v (leaves_once x y);
}

pub write_listing_fixed : Fixed Records (Wrote (Result ℕ ListingError)) write_listing_promise
write_listing_fixed = leaves_fixed (λ i. i.buffer) (λ i. P.listing_outcome i.words i.texts i.stop (length i.buffer))

pub write_refusal_fixed : Fixed Refusal (Wrote (Result ℕ ListingError)) write_refusal_promise
write_refusal_fixed = leaves_fixed (λ i. i.buffer) (λ i. P.fitted (length i.buffer) (refusal i.number i.place))

pub write_refusal_line_fixed : Fixed Refusal (Wrote (Result ℕ ListingError)) write_refusal_line_promise
write_refusal_line_fixed = leaves_fixed (λ i. i.buffer) (λ i. P.fitted (length i.buffer) (refusal i.number i.place ++ (10 ∷ [])))

pub list_text_fixed : Fixed (Lent × List ℕ) (Left (Result ℕ ListingError) × List ℕ) list_text_promise
list_text_fixed = record {
  total = λ i.
      let t = tokens_outcome i.0.input (length i.0.text) (length i.0.records) in
      let o = P.fitted (length i.1) (line_of i.0.input (Table.given_by t)) in (
        (record { answer = (told o).0; text = Table.text_by t i.0.text; records = Table.records_by t i.0.records }, P.buffer_by o (length i.1)),
        record { texts = refl; words = refl; line = record { answer = (told o).1; buffer = refl } },
      );
  once = λ i o p x y.
      let e = list_text_once x y in
      ap₂ (λ (a : Left (Result ℕ ListingError)) (b : List ℕ). (a, b)) (left_same o.0 p.0 (e.0, e.1.1.0, e.1.1.1)) e.1.0;
}

pub finish_listing_fixed : Fixed (List ℕ × ℕ) (Wrote (Result ℕ ListingError)) finish_listing_promise
finish_listing_fixed = record {
  total = λ i. (record { answer = pick (ltb (length i.0) i.1) (Err (ListingError.NoRoom i.1)) (Ok i.1); buffer = _ }, record { answer = refl; buffer = refl });
  once = λ i w v x y. wrote_same w v (one_answer x.answer y.answer, one_answer x.buffer y.buffer);
}

pub digits_into_fixed : Fixed (ℕ × List ℕ) (Wrote ℕ) digits_into_promise
digits_into_fixed = record {
  total = λ i. (record { answer = _; buffer = _ }, record { first_is = refl; digits_are = refl });
  once = λ i w v x y. wrote_same w v (one_answer x.first_is y.first_is, one_answer x.digits_are (y.digits_are ∙ ap (λ (f : ℕ). take f i.1 ++ onto (length i.1) i.0 []) (one_answer y.first_is x.first_is)));
}

pub write_actions_fixed : Fixed ActionRecords (Wrote (Result ℕ ListingError)) write_actions_promise
write_actions_fixed = leaves_fixed (λ i. i.buffer) (λ i. written_outcome i.words i.texts (length i.buffer))
