-- The worked lists of document 01, and a few more at the edges.
use Rattle.std.specs.Prelude.{◌≡◌, refl, ℕ, List, [], ◌∷◌}
use Prim.Native.String.{String}
use Rattle.ascii.specs.Text.{bytes}
use Rattle.ascii.specs.Trim.{leading}
use Rattle.lent.specs.Sources.{part, Sourced, sourced}
use Rattle.lent.specs.Table.{Refusal, unknown_action, bad_argument, Outcome, refuses, reads}
use Rattle.lent.specs.declared.refusing.Flaw.TheVariants as Flaw
use Rattle.single_action.specs.Actions.{absent, present, Action, action, numbered, worded}
use Rattle.single_action.specs.Cases.{Says}
use Rattle.places.specs.Cells.{bytes_of, standing, first_of, past_of}
use Rattle.places.specs.Scans.{scan}
use Rattle.places.specs.Tables.{line_next, joining}
use Rattle.places.specs.Sites.{site_in}
use Rattle.actions.specs.Normal.{mode_after, text_given, text_held, normalised_from, normalised}
use Rattle.actions.specs.Pieces.{nest_bare, nest_quoted, nest_after, cuts, parts_from, pieces_of, pieces_from}
use Rattle.actions.specs.Lists.{actions_from, actions_of}

-- A list's actions or its refusal, with their sources. To unfold it is to unfold every definition that a list is read by.
unfoldable pub Comes : String → Outcome (List (Sourced Action)) → Type 0
unfolding Says mode_after text_given text_held normalised_from normalised nest_bare nest_quoted nest_after cuts parts_from pieces_of pieces_from actions_from actions_of leading bytes_of standing first_of past_of scan line_next joining site_in
Comes s o = actions_of (bytes s) ≡ o

-- A list that is accepted.
abbrev pub Reads : String → List (Sourced Action) → Type 0
Reads s xs = Comes s (reads xs)

-- A list that is refused.
abbrev pub Refuses : String → Refusal → Type 0
Refuses s f = Comes s (refuses f)

-- an action that was read from this part of the list
abbrev at : ℕ → ℕ → Action → Sourced Action
at first past x = sourced x (part first past)

-- ---- document 01

-- P: a number keeps its marks, and is none
pub phase_marked : Refuses "phase:'2'" (bad_argument Flaw.Unreadable 0 (bytes "phase") (part 0 9))
unfolding Comes
phase_marked = refl

-- P: only a small `t:` is a transformation
pub large_t : Refuses "T:none" (unknown_action 0 (bytes "t") (part 0 6))
unfolding Comes
large_t = refl

-- P: any number of the width u8 is a severity
pub severity_most : Reads "severity:255" (at 0 12 (numbered 13 255) ∷ [])
unfolding Comes
severity_most = refl

-- P: an empty part is no piece, and the first bad piece is the answer
pub second_piece : Refuses "deny,,bogus,phase:x" (unknown_action 1 (bytes "bogus") (part 6 11))
unfolding Comes
second_piece = refl

-- ids have the width u64
pub id_most : Reads "id:18446744073709551615" (at 0 23 (numbered 11 18446744073709551615) ∷ [])
unfolding Comes
id_most = refl

pub id_absent : Refuses "log,id" (bad_argument Flaw.Absent 1 (bytes "id") (part 4 6))
unfolding Comes
id_absent = refl

pub id_over : Refuses "id:18446744073709551616" (bad_argument Flaw.TooLarge 0 (bytes "id") (part 0 23))
unfolding Comes
id_over = refl

-- ---- edges

-- one pass: the backslash before a continuation stays, and so does the second line feed
pub one_pass : Refuses "\\\\\n\n" (unknown_action 0 (bytes "\\") (part 0 1))
unfolding Comes
one_pass = refl

-- a continuation goes with the whitespace up to the next line feed, and the part that is left is no piece
pub continued : Refuses "deny,\\\r\r\n \t,x" (unknown_action 1 (bytes "x") (part 12 13))
unfolding Comes
continued = refl

-- a bracket or a mark that stays open swallows the rest
pub swallowed : Refuses "(,deny" (unknown_action 0 (bytes "(,deny") (part 0 6))
unfolding Comes
swallowed = refl

pub apostrophe : Reads "msg:it's,deny" (at 0 13 (worded 14 (bytes "it's,deny")) ∷ [])
unfolding Comes
apostrophe = refl

-- square brackets protect nothing
pub square : Reads "msg:[a,deny" (at 0 6 (worded 14 (bytes "[a")) ∷ at 7 11 (numbered 1 0) ∷ [])
unfolding Comes
square = refl

-- marks of both kinds go at both ends, and blanks inside them stay
pub all_marks : Reads "tag: '',severity:'+5',msg:'\"x'\"" (at 0 7 (worded 15 (bytes " ")) ∷ at 8 21 (numbered 13 5) ∷ at 22 31 (worded 14 (bytes "x")) ∷ [])
unfolding Comes
all_marks = refl

-- an argument that is absent, and one that is empty
pub empty_texts : Reads "msg,expirevar,redirect:,ctl:,t:"
    (at 0 3 (worded 14 []) ∷ at 4 13 (action 25 0 (present []) absent) ∷ at 14 23 (worded 6 []) ∷ at 24 28 (action 31 0 (present []) (present [])) ∷ at 29 31 (worded 32 []) ∷ [])
unfolding Comes
empty_texts = refl

-- ---- M-104: where in the list each piece stands

-- over what was taken out in its midst, and without what was taken out or trimmed at its ends
pub over_continuations : Reads " de\\\n  ny ,\\\n log,," (at 1 9 (numbered 1 0) ∷ at 14 17 (numbered 26 0) ∷ [])
unfolding Comes
over_continuations = refl

-- two backslashes and a line feed: the first stays, the second goes
pub over_two_slashes : Reads "msg:a\\\\\nb" (at 0 9 (worded 14 (bytes "a\\b")) ∷ [])
unfolding Comes
over_two_slashes = refl

-- a bad piece is underlined by its place in the list, too
pub bad_place : Refuses "\\\r\n \tdeny , x\\\n\ty" (unknown_action 1 (bytes "xy") (part 12 17))
unfolding Comes
bad_place = refl
