-- What write_actions promises: the answer, and every byte of the lent buffer, on every path.
use Rattle.std.specs.Prelude.{ℕ, List, length, Result}
use Rattle.listing.specs.Promises.{Outcome, no_token, fitted, Leaves}
use Rattle.listing.specs.declared.ListingError.{ListingError}
use Rattle.spelled.specs.Spelling.{spell_all}
use Rattle.spelled.specs.Records.{shown, records_of}
use Rattle.spelled.specs.Writing.{Verdict, fine, fails, verdict}

-- xs in a buffer of n bytes, or 19 with the record that fails.
abbrev pub outcome_by : ℕ → List ℕ → Verdict → Outcome
outcome_by n xs (fine m) = fitted n xs
outcome_by n xs (fails k) = no_token k

-- What a call comes to, with records, texts and a buffer of n bytes lent: 19 comes before 4.
unfoldable pub written_outcome : List ℕ → List ℕ → ℕ → Outcome
written_outcome words text n = outcome_by n (spell_all (shown (records_of words text))) (verdict 0 0 (records_of words text))

abbrev pub WriteActions : List ℕ → List ℕ → List ℕ → List ℕ → Result ℕ ListingError → Type 0
WriteActions words text old new r = Leaves (written_outcome words text (length old)) old new r
