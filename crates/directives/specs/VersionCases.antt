-- Worked packages of M-108, for both versions: what a rule, an id and a chain are, and the order of faults.
use Rattle.std.specs.Prelude.{◌≡◌, refl, ℕ, List, [], ◌∷◌, Result, Ok, Err}
use Prim.Native.String.{String}
use Rattle.ascii.specs.Text.{bytes}
use Rattle.lent.specs.Sizes.{span_word}
use Rattle.lent.specs.Table.{Given, given}
use Rattle.actions.specs.Having.{has}
use Rattle.directives.specs.Directives.{Directive, over, Fault}
use Rattle.directives.specs.Versions.{TwoSix, TwoSeven, asked, leading, directives_for}
use Rattle.directives.specs.Table.{fault_given}
use Rattle.directives.specs.Promises.{laid_out}
use Rattle.directives.specs.Cases.{Comes}

-- number and values, all room being there
abbrev answered : Result (List Directive) Fault → Given
answered (Err f) = fault_given f
answered (Ok ds) = given 0 (laid_out ds).values

-- What a text comes to for 2.6 and for 2.7.
unfoldable pub Answers : String → Given → Given → Type 0
unfolding Comes over has asked leading directives_for
Answers s older newer = (answered (directives_for TwoSix (bytes s)) ≡ older) × (answered (directives_for TwoSeven (bytes s)) ≡ newer)

abbrev missing : ℕ → Given
missing line = given 18 (line ∷ [])

pub no_id : Answers "SecAction deny" (given 0 (1 ∷ 0 ∷ 1 ∷ 0 ∷ [])) (missing 1)
unfolding Answers
no_id = (refl, refl)

-- in text order: before a later stray, a later wrong count and an early stop
pub before_a_stray : Answers "SecAction deny\nx" (given 14 (2 ∷ [])) (missing 1)
unfolding Answers
before_a_stray = (refl, refl)

pub before_a_count : Answers "SecAction deny\nSecRule ARGS" (given 13 (2 ∷ [])) (missing 1)
unfolding Answers
before_a_count = (refl, refl)

pub before_the_stop : Answers "\nSecAction deny\u{c}" (given 15 (2 ∷ [])) (missing 2)
unfolding Answers
before_the_stop = (refl, refl)

-- behind a fault before it
pub behind_a_stray : Answers "x\nSecAction deny" (given 14 (1 ∷ [])) (given 14 (1 ∷ []))
unfolding Answers
behind_a_stray = (refl, refl)

-- the directive's own faults come first, and its count
pub own_count : Answers "SecAction deny log" (given 13 (1 ∷ [])) (given 13 (1 ∷ []))
unfolding Answers
own_count = (refl, refl)

pub own_action : Answers "SecAction bogus" (given 5 (1 ∷ 0 ∷ 5 ∷ span_word 10 5 ∷ [])) (given 5 (1 ∷ 0 ∷ 5 ∷ span_word 10 5 ∷ []))
unfolding Answers
own_action = (refl, refl)

-- 0 is an id
pub zero_id : Answers "SecAction id:0" (given 0 (1 ∷ 0 ∷ 1 ∷ 0 ∷ [])) (given 0 (1 ∷ 0 ∷ 1 ∷ 0 ∷ []))
unfolding Answers
zero_id = (refl, refl)

-- a rule of two arguments has none
pub bare_rule : Answers "SecRule ARGS a" (given 0 (1 ∷ 1 ∷ 0 ∷ 1 ∷ [])) (missing 1)
unfolding Answers
bare_rule = (refl, refl)

-- a marker between does not break the chain
pub over_a_marker : Answers "SecAction chain,id:1\nSecMarker a\nSecAction deny" (given 0 (3 ∷ 0 ∷ 3 ∷ 1 ∷ [])) (given 0 (3 ∷ 0 ∷ 3 ∷ 1 ∷ []))
unfolding Answers
over_a_marker = (refl, refl)

-- nor do default actions, which are no rule and hand nothing on
pub over_defaults : Answers "SecAction chain,id:1\nSecDefaultAction deny\nSecAction deny" (given 0 (3 ∷ 0 ∷ 4 ∷ 0 ∷ [])) (given 0 (3 ∷ 0 ∷ 4 ∷ 0 ∷ []))
unfolding Answers
over_defaults = (refl, refl)

pub defaults_chain : Answers "SecDefaultAction chain\nSecAction deny" (given 0 (2 ∷ 0 ∷ 2 ∷ 0 ∷ [])) (missing 2)
unfolding Answers
defaults_chain = (refl, refl)

-- a rule of a chain hands it on with a `chain` of its own, and not without
pub handed_on : Answers "SecAction chain,id:1\nSecAction chain\nSecAction deny" (given 0 (3 ∷ 0 ∷ 4 ∷ 0 ∷ [])) (given 0 (3 ∷ 0 ∷ 4 ∷ 0 ∷ []))
unfolding Answers
handed_on = (refl, refl)

pub not_handed_on : Answers "SecAction chain,id:1\nSecAction log\nSecAction deny" (given 0 (3 ∷ 0 ∷ 4 ∷ 0 ∷ [])) (missing 3)
unfolding Answers
not_handed_on = (refl, refl)

-- nothing follows: no fault
pub open_chain : Answers "SecAction id:1,chain" (given 0 (1 ∷ 0 ∷ 2 ∷ 0 ∷ [])) (given 0 (1 ∷ 0 ∷ 2 ∷ 0 ∷ []))
unfolding Answers
open_chain = (refl, refl)
