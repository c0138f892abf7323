-- What parse_actions promises, in plain words: every number exactly when it is given, and what is given and left with it.
-- The idea: lent's RowLaws has numbers 1 to 3 and one law for all; the first refused piece and the room tell 5, 10 to 12, 4 and 0 apart.
use Rattle.std.specs.Prelude.{Result}
use mathlib.Core.Path.{◌≡◌, ◌∙◌, refl, ap}
use mathlib.Core.Bool.{Bool, true, false}
use mathlib.Core.List.{List, [], ◌∷◌, ◌++◌}
use mathlib.Core.Logic.{◌↔◌, inl, inr}
use Prim.Native.Nat.{ℕ, suc, ◌+◌, ◌≤◌, ◌<◌, min}
use native.Mathlib.Nat.{zero-add}
use native.Mathlib.Omega.{arith}
use lib.ListN.{length, length-map}
use lib.Dec.{ltb}
use borrow.Author.Tests.{lt-ltb, le-ltb, ltb-true, ltb-false}
use Rattle.lent.specs.Sizes.{limit, action_words, room_for}
use Rattle.lent.specs.Table.{Given, flaw_number, Refusal, no_room, unknown_action, bad_argument, Outcome, refuses, reads, Filled, sited_outcome}
use Rattle.lent.specs.Sources.{Part, Sourced, sourced, sited_by, sited_all}
use Rattle.lent.specs.Admission.{FirstAt, Opened, Shortened}
use Rattle.lent.specs.declared.refusing.Flaw.{Flaw}
use Rattle.lent.proofs.OutcomeLaws.{number_of, given_number}
use Rattle.lent.proofs.RowLaws as Rows
use Rattle.lent.proofs.RowLaws.{row, OneOf, Numbered, Exactly, absent, differ, behind, gated, exactly_gated}
use Rattle.single_action.specs.Actions.{Action, Single, done, bad, unknown, single}
use Rattle.actions.specs.Normal.{normalised}
use Rattle.actions.specs.Pieces.{Piece, pieces}
use Rattle.actions.specs.Lists.{action_then, single_then, actions_from, normal_site, actions_of}
use Rattle.actions.specs.Calls.{AllDone, FirstRefused}
use Rattle.actions.specs.Promises.{answer_given, laid_out, roomed, actions_outcome, ParseActions}
use Rattle.actions.specs.declared.Read.{Read}
use Rattle.actions.specs.declared.ActionsError.{ActionsError}

-- ---- the pieces

-- the actions of pieces that all give one
pub given : (ps : List Piece) → AllDone ps → List (Sourced Action)
unfolding AllDone
given [] a = []
given (p ∷ ps) a = sourced a.0.0 p.place ∷ given ps a.1

pub given_count : (ps : List Piece) (a : AllDone ps) → length (given ps a) ≡ length ps
unfolding AllDone given
given_count [] a = refl
given_count (p ∷ ps) a = ap suc (given_count ps a.1)

pub given_read : (k : ℕ) (ps : List Piece) (a : AllDone ps) → actions_from k ps ≡ reads (given ps a)
unfolding AllDone given actions_from
given_read k [] a = refl
given_read k (p ∷ ps) a = rw (a.0.1, given_read (suc k) ps a.1)

-- a way to be refused, and the refusal that it comes to
pub record Way (way : List ℕ → Single) (refusal : ℕ → List ℕ → Part → Refusal) : Type 0 where
  pub stops : (k : ℕ) (x : Part) (name : List ℕ) (o : Outcome (List (Sourced Action))) → single_then k x (way name) o ≡ refuses (refusal k name x)

pub bad_way : (flaw : Flaw) → Way (bad flaw) (bad_argument flaw)
bad_way flaw = record { stops = λ k x name o. refl }

pub unknown_way : Way unknown unknown_action
unknown_way = record { stops = λ k x name o. refl }

module _ {way : List ℕ → Single} {refusal : ℕ → List ℕ → Part → Refusal} (w : Way way refusal) where
  refused_from : (k : ℕ) (passed : List Piece) (piece : Piece) (others : List Piece) (name : List ℕ)
      → AllDone passed → single piece.text ≡ way name → actions_from k (passed ++ piece ∷ others) ≡ refuses (refusal (k + length passed) name piece.place)
  unfolding AllDone actions_from
  refused_from k [] piece others name a e =
      let z : k ≡ k + 0 = omega arith in
      ap (λ (v : Single). single_then k piece.place v (actions_from (suc k) others)) e ∙ w.stops k piece.place name _ ∙ ap (λ (n : ℕ). refuses (refusal n name piece.place)) z
  refused_from k (p ∷ ps) piece others name a e =
      let z : suc k + length ps ≡ k + suc (length ps) = omega arith in
      ap (λ (v : Single). single_then k p.place v (actions_from (suc k) (ps ++ piece ∷ others))) a.0.1
      ∙ ap (action_then (sourced a.0.0 p.place)) (refused_from (suc k) ps piece others name a.1 e)
      ∙ ap (λ (n : ℕ). refuses (refusal n name piece.place)) z

  pub first_refused : (ps : List Piece) (x : FirstRefused way ps) → actions_from 0 ps ≡ refuses (refusal (length x.passed) x.name x.piece.place)
  first_refused ps x =
      ap (actions_from 0) x.parted ∙ refused_from 0 x.passed x.piece x.others x.name x.before x.refused
      ∙ rw zero-add

-- one of three
pub data Pieces (ps : List Piece) : Type 0 where
  all : AllDone ps → Pieces ps
  stray : FirstRefused unknown ps → Pieces ps
  spoilt : (flaw : Flaw) → FirstRefused (bad flaw) ps → Pieces ps

ahead : {way : List ℕ → Single} (p : Piece) (ps : List Piece) → (x : Action) × (single p.text ≡ done x) → FirstRefused way ps → FirstRefused way (p ∷ ps)
unfolding AllDone
ahead p ps d x = record {
  passed = p ∷ x.passed;
  piece = x.piece;
  others = x.others;
  parted = ap (λ (l : List Piece). p ∷ l) x.parted;
  before = (d, x.before);
  name = x.name;
  refused = x.refused;
}

here : {way : List ℕ → Single} (p : Piece) (ps : List Piece) (name : List ℕ) → single p.text ≡ way name → FirstRefused way (p ∷ ps)
unfolding AllDone
here p ps name e = record { passed = []; piece = p; others = ps; parted = refl; before = tt; name = name; refused = e }

pub which : (ps : List Piece) → Pieces ps
unfolding AllDone
which [] = all tt
which (p ∷ ps) = go (single p.text) refl (which ps)
  where
    go : (v : Single) → single p.text ≡ v → Pieces ps → Pieces (p ∷ ps)
    go (bad flaw name) e x = spoilt flaw (here p ps name e)
    go (unknown name) e x = stray (here p ps name e)
    go (done y) e (all a) = all ((y, e), a)
    go (done y) e (stray x) = stray (ahead p ps (y, e) x)
    go (done y) e (spoilt flaw x) = spoilt flaw (ahead p ps (y, e) x)

-- ---- past the gate

module _ (s : List ℕ) (m : ℕ) where
  abbrev parts : List Piece
  parts = pieces (normalised s)

  abbrev past : Outcome Filled
  past = roomed m (actions_of s)

  pub stray_is : (x : FirstRefused unknown (pieces (normalised s))) → roomed m (actions_of s) ≡ refuses (unknown_action (length x.passed) x.name (normal_site s x.piece.place))
  unfolding actions_of
  stray_is x = rw (first_refused unknown_way parts x)

  pub spoilt_is : (flaw : Flaw) (x : FirstRefused (bad flaw) (pieces (normalised s))) → roomed m (actions_of s) ≡ refuses (bad_argument flaw (length x.passed) x.name (normal_site s x.piece.place))
  unfolding actions_of
  spoilt_is flaw x = rw (first_refused (bad_way flaw) parts x)

  -- the actions that they give, where they stand in the input
  abbrev pub given_in : AllDone (pieces (normalised s)) → List (Sourced Action)
  given_in a = sited_all (normal_site s) (given (pieces (normalised s)) a)

  pub given_long : (a : AllDone (pieces (normalised s))) → length (given_in a) ≡ length (pieces (normalised s))
  given_long a = length-map (given parts a) (sited_by (normal_site s)) ∙ given_count parts a

  read_is : (a : AllDone (pieces (normalised s))) → roomed m (actions_of s) ≡ roomed m (reads (given_in a))
  unfolding actions_of
  read_is a = ap (λ (o : Outcome (List (Sourced Action))). roomed m (sited_outcome (normal_site s) o)) (given_read 0 parts a)

  pub crowded_is : AllDone (pieces (normalised s)) → room_for action_words m < length (pieces (normalised s)) → roomed m (actions_of s) ≡ refuses (no_room (length (pieces (normalised s))))
  crowded_is a h = read_is a ∙ rw (given_long a, lt-ltb (room_for action_words m) (length parts) h)

  pub roomy_is : (a : AllDone (pieces (normalised s))) → length (pieces (normalised s)) ≤ room_for action_words m → roomed m (actions_of s) ≡ reads (laid_out (given_in a))
  roomy_is a h = read_is a ∙ rw (le-ltb (room_for action_words m) (length (given_in a)) (omega (arith, given_long a)))

  -- one of six, and the number of each
  abbrev rows : List Rows.Row
  rows =
      row 5 (FirstRefused unknown parts)
      ∷ row 10 (FirstRefused (bad Flaw.Absent) parts)
      ∷ row 11 (FirstRefused (bad Flaw.Unreadable) parts)
      ∷ row 12 (FirstRefused (bad Flaw.TooLarge) parts)
      ∷ row 4 (AllDone parts × (room_for action_words m < length parts))
      ∷ row 0 (AllDone parts × (length parts ≤ room_for action_words m))
      ∷ []

  one : OneOf rows
  unfolding OneOf
  one = go (which parts)
    where
      by : AllDone parts → (t : Bool) → ltb (room_for action_words m) (length parts) ≡ t → OneOf rows
      by a true e = inr (inr (inr (inr (inl (a, ltb-true (room_for action_words m) (length parts) e)))))
      by a false e = inr (inr (inr (inr (inr (inl (a, ltb-false (room_for action_words m) (length parts) e))))))

      go : Pieces parts → OneOf rows
      go (all a) = by a (ltb (room_for action_words m) (length parts)) refl
      go (stray x) = inl x
      go (spoilt Flaw.Absent x) = inr (inl x)
      go (spoilt Flaw.Unreadable x) = inr (inr (inl x))
      go (spoilt Flaw.TooLarge x) = inr (inr (inr (inl x)))

  numbered : Numbered (number_of past) rows
  unfolding Numbered
  numbered =
      let bad-is : (flaw : Flaw) → FirstRefused (bad flaw) parts → number_of past ≡ flaw_number flaw = λ flaw x. ap number_of (spoilt_is flaw x) in (
        λ x. ap number_of (stray_is x),
        (bad-is Flaw.Absent, (bad-is Flaw.Unreadable, (bad-is Flaw.TooLarge, (λ p. ap number_of (crowded_is p.0 p.1), (λ p. ap number_of (roomy_is p.0 p.1), tt))))),
      )

  exact : (n k : ℕ) → Exactly (number_of (actions_outcome s n k m)) (gated s (min n k) (length s) rows)
  unfolding actions_outcome differ absent behind
  exact n k = exactly_gated s (min n k) (length s) past rows refl one numbered

-- ---- the whole call

-- Every number exactly when it is given, for a call with these buffers before and after it. What each leaves behind: `stray-is`, `spoilt-is`, `crowded-is`, `roomy-is`.
pub record Numbers (s text text' work work' records records' : List ℕ) (r : Result Read ActionsError) : Type 0 where
  -- 1: the input is over the limit.
  pub number_1 : ((answer_given r).number ≡ 1) ↔ (limit < length s)
  -- 2: it is not, and a byte is 128 or more.
  pub number_2 : ((answer_given r).number ≡ 2) ↔ ((length s ≤ limit) × ((p : ℕ) × FirstAt s p))
  -- 3: none is, and the text or the scratch buffer is shorter than the input.
  pub number_3 : ((answer_given r).number ≡ 3) ↔ Shortened s (min (length text) (length work)) (length s)
  -- 5: none is, and the first piece that gives no action has a name that is none.
  pub number_5 : ((answer_given r).number ≡ 5) ↔ (Opened s (min (length text) (length work)) (length s) × FirstRefused unknown (pieces (normalised s)))
  -- 10, 11 and 12: the same, with an argument that is not there, that says no number, or that says one past its width.
  pub number_10 : ((answer_given r).number ≡ 10) ↔ (Opened s (min (length text) (length work)) (length s) × FirstRefused (bad Flaw.Absent) (pieces (normalised s)))
  pub number_11 : ((answer_given r).number ≡ 11) ↔ (Opened s (min (length text) (length work)) (length s) × FirstRefused (bad Flaw.Unreadable) (pieces (normalised s)))
  pub number_12 : ((answer_given r).number ≡ 12) ↔ (Opened s (min (length text) (length work)) (length s) × FirstRefused (bad Flaw.TooLarge) (pieces (normalised s)))
  -- 4: every piece gives an action, and there are more than records fit.
  pub number_4 : ((answer_given r).number ≡ 4)
      ↔ (Opened s (min (length text) (length work)) (length s) × (AllDone (pieces (normalised s)) × (room_for action_words (length records) < length (pieces (normalised s)))))
  -- 0: none of these.
  pub number_0 : ((answer_given r).number ≡ 0)
      ↔ (Opened s (min (length text) (length work)) (length s) × (AllDone (pieces (normalised s)) × (length (pieces (normalised s)) ≤ room_for action_words (length records))))

module _ {s text text' work work' records records' : List ℕ} {r : Result Read ActionsError} (x : ParseActions s text text' work work' records records' r) where
  number_is : (answer_given r).number ≡ number_of (actions_outcome s (length text) (length work) (length records))
  number_is = ap (λ (g : Given). g.number) x.answer ∙ given_number (actions_outcome s (length text) (length work) (length records))

  pub parse_actions_numbers : Numbers s text text' work work' records records' r
  unfolding Exactly behind
  parse_actions_numbers =
      let e = exact s (length records) (length text) (length work) in
      record {
        number_1 = rw number_is e.0;
        number_2 = rw number_is e.1.0;
        number_3 = rw number_is e.1.1.0;
        number_5 = rw number_is e.1.1.1.0;
        number_10 = rw number_is e.1.1.1.1.0;
        number_11 = rw number_is e.1.1.1.1.1.0;
        number_12 = rw number_is e.1.1.1.1.1.1.0;
        number_4 = rw number_is e.1.1.1.1.1.1.1.0;
        number_0 = rw number_is e.1.1.1.1.1.1.1.1.0;
      }
