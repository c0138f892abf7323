-- What a list of records is written as: the bytes of its spelling, or the first record that is not written.
use Rattle.std.specs.Prelude.{ℕ, suc, ◌+◌, Bool, true, false, List, [], ◌∷◌, length, leb, ltb}
use Rattle.ascii.specs.Choice.{pick, and}
use Rattle.lent.specs.Sizes.{limit}
use Rattle.listing.specs.Steps.{comma}
use Rattle.records.specs.Codes.{deny_code}
use Rattle.records.specs.Actions.{Action, action_text}
use Rattle.records.specs.Decoding.{Decoded, none, shows}
use Rattle.single_action.specs.Actions.{numbered}
use Rattle.spelled.specs.Spelling.{spell}
use Rattle.spelled.specs.Back.{reads_back}

-- No byte is past ASCII.
unfoldable pub ascii : List ℕ → Bool
ascii [] = true
ascii (b ∷ r) = and (ltb b 128) (ascii r)

-- Another action behind it, where it is not the last: one that nothing can go wrong with.
abbrev pub followed : Bool → Action → List Action
followed true x = x ∷ []
followed false x = x ∷ numbered deny_code 0 ∷ []

-- A record that is written: its texts are ASCII, and its spelling reads back to it, with the comma and what follows too.
unfoldable pub holds : Bool → Action → Bool
holds last x = and (ascii (action_text x)) (reads_back (followed last x))

abbrev pub is_last : List Decoded → Bool
is_last [] = true
is_last (d ∷ r) = false

-- The bytes up to its end, where it has the number k and n stand before it.
abbrev pub reach : ℕ → ℕ → Action → ℕ
reach k n x = n + length (comma k) + length (spell x)

pub data Verdict : Type 0 where
  fine : ℕ → Verdict
  fails : ℕ → Verdict

-- Records from the number k on, with n bytes before them: the first that is none of a reader, is not written, or passes the limit, fails.
unfoldable pub verdict : ℕ → ℕ → List Decoded → Verdict
verdict k n [] = fine n
verdict k n (none ∷ r) = fails k
verdict k n (shows x ∷ r) = pick (and (holds (is_last r) x) (leb (reach k n x) limit)) (verdict (suc k) (reach k n x) r) (fails k)
