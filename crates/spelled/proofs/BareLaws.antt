-- What is read, without where: a text is read as a list exactly when each of its pieces is read as the action beside it.
-- The places stand beside the pieces and are handed on, so that every other law follows the pieces' texts alone.
use mathlib.Core.Path.{◌≡◌, ◌∙◌, refl, sym, ap, subst}
use mathlib.Core.List.{List, [], ◌∷◌, map}
use Prim.Native.Nat.{ℕ, suc, ◌+◌}
use lib.ListN.{length}
use Rattle.ascii.specs.Trim.{trim_ends}
use Rattle.lent.specs.Sources.{Part, Sourced, sited_all}
use Rattle.lent.specs.Table.{Outcome, refuses, reads, sited_outcome}
use Rattle.records.specs.Actions.{Action}
use Rattle.single_action.specs.Actions.{Single, done, bad, unknown, single}
use Rattle.actions.specs.Normal.{normalised}
use Rattle.actions.specs.Pieces.{Piece, outside, parts_from, place_of, keep, pieces_of, pieces_from, pieces}
use Rattle.actions.specs.Lists.{single_then, actions_from, listed, normal_site, actions_of}
use Rattle.spelled.specs.Back.{things}

-- ---- the texts of pieces

abbrev pub keep_text : List ℕ → List (List ℕ) → List (List ℕ)
keep_text [] ps = ps
keep_text (b ∷ r) ps = (b ∷ r) ∷ ps

-- parts trimmed, empty ones gone
unfoldable pub texts_of : List (List ℕ) → List (List ℕ)
texts_of [] = []
texts_of (p ∷ ps) = keep_text (trim_ends p) (texts_of ps)

abbrev text_of : Piece → List ℕ
text_of p = p.text

texts_are : (k : ℕ) (ps : List (List ℕ)) → map text_of (pieces_of k ps) ≡ texts_of ps
unfolding pieces_of texts_of
texts_are k [] = refl
texts_are k (p ∷ ps) = go (trim_ends p) (texts_are (k + length p + 1) ps)
  where
    go : (t : List ℕ) → map text_of (pieces_of (k + length p + 1) ps) ≡ texts_of ps
        → map text_of (keep t (place_of k p) (pieces_of (k + length p + 1) ps)) ≡ keep_text t (texts_of ps)
    go [] e = e
    go (b ∷ r) e = ap (λ (l : List (List ℕ)). (b ∷ r) ∷ l) e

-- of a normalised text
abbrev pub piece_texts : List ℕ → List (List ℕ)
piece_texts s = texts_of (parts_from outside s)

pieces_are : (s : List ℕ) → map text_of (pieces s) ≡ piece_texts s
unfolding pieces_from
pieces_are s = texts_are 0 (parts_from outside s)

-- ---- each read as the action beside it

abbrev pub Read : List (List ℕ) → List Action → Type 0
Read [] [] = Unit {0}
Read [] (x ∷ xs) = ⊥
Read (p ∷ ps) [] = ⊥
Read (p ∷ ps) (x ∷ xs) = (single p ≡ done x) × Read ps xs

-- what an outcome says of the pieces, if it reads them
abbrev Says : List (List ℕ) → Outcome (List (Sourced Action)) → Type 0
Says ps (refuses f) = Unit {0}
Says ps (reads ys) = Read ps (things ys)

-- it reads, and gives these actions
abbrev pub Gives : List Action → Outcome (List (Sourced Action)) → Type 0
Gives xs (refuses f) = ⊥
Gives xs (reads ys) = things ys ≡ xs

things_sited : (g : Part → Part) (ys : List (Sourced Action)) → things (sited_all g ys) ≡ things ys
things_sited g [] = refl
things_sited g (y ∷ ys) = ap (λ (l : List Action). y.thing ∷ l) (things_sited g ys)

-- ---- from what is read to the pieces

first_says : (p : List ℕ) (ps : List (List ℕ)) (k : ℕ) (x : Part) (v : Single) (o : Outcome (List (Sourced Action))) → single p ≡ v → Says ps o
    → Says (p ∷ ps) (single_then k x v o)
first_says p ps k x (done a) (refuses f) e h = tt
first_says p ps k x (done a) (reads ys) e h = (e, h)
first_says p ps k x (bad flaw name) o e h = tt
first_says p ps k x (unknown name) o e h = tt

from_says : (k : ℕ) (ps : List Piece) → Says (map text_of ps) (actions_from k ps)
unfolding actions_from
from_says k [] = tt
from_says k (p ∷ ps) = first_says p.text (map text_of ps) k p.place (single p.text) (actions_from (suc k) ps) refl (from_says (suc k) ps)

sited_says : (ps : List (List ℕ)) (g : Part → Part) (o : Outcome (List (Sourced Action))) → Says ps o → Says ps (sited_outcome g o)
sited_says ps g (refuses f) h = tt
sited_says ps g (reads ys) h = subst (Read ps) (sym (things_sited g ys)) h

-- an accepted text is read piece by piece
pub pieces_read : (s : List ℕ) (ys : List (Sourced Action)) → actions_of s ≡ reads ys → Read (piece_texts (normalised s)) (things ys)
unfolding actions_of
pieces_read s ys e =
    let h = sited_says (map text_of (pieces (normalised s))) (normal_site s) (listed (normalised s)) (from_says 0 (pieces (normalised s))) in
    subst (λ (ps : List (List ℕ)). Read ps (things ys)) (pieces_are (normalised s)) (subst (Says (map text_of (pieces (normalised s)))) e h)

-- ---- and back

first_gives : (x : Action) (xs : List Action) (k : ℕ) (z : Part) (v : Single) (o : Outcome (List (Sourced Action))) → v ≡ done x → Gives xs o
    → Gives (x ∷ xs) (single_then k z v o)
first_gives x xs k z v (refuses f) e h = absurd h
first_gives x xs k z v (reads ys) e h = rw e (ap (λ (l : List Action). x ∷ l) h)

from_gives : (k : ℕ) (ps : List Piece) (xs : List Action) → Read (map text_of ps) xs → Gives xs (actions_from k ps)
unfolding actions_from
from_gives k [] [] h = refl
from_gives k [] (x ∷ xs) h = absurd h
from_gives k (p ∷ ps) [] h = absurd h
from_gives k (p ∷ ps) (x ∷ xs) h = first_gives x xs k p.place (single p.text) (actions_from (suc k) ps) h.0 (from_gives (suc k) ps xs h.1)

sited_gives : (xs : List Action) (g : Part → Part) (o : Outcome (List (Sourced Action))) → Gives xs o → Gives xs (sited_outcome g o)
sited_gives xs g (refuses f) h = absurd h
sited_gives xs g (reads ys) h = things_sited g ys ∙ h

-- a text is accepted, as these actions
abbrev pub Accepted : List ℕ → List Action → Type 0
Accepted s xs = (ys : List (Sourced Action)) × (actions_of s ≡ reads ys) × (things ys ≡ xs)

given : (s : List ℕ) (xs : List Action) → Gives xs (actions_of s) → Accepted s xs
given s xs h = go (actions_of s) refl h
  where
    go : (o : Outcome (List (Sourced Action))) → actions_of s ≡ o → Gives xs o → Accepted s xs
    go (refuses f) e h = absurd h
    go (reads ys) e h = (ys, e, h)

-- a text whose pieces are read is accepted
pub read_accepted : (s : List ℕ) (xs : List Action) → Read (piece_texts (normalised s)) xs → Accepted s xs
unfolding actions_of
read_accepted s xs h =
    let r = subst (λ (ps : List (List ℕ)). Read ps xs) (sym (pieces_are (normalised s))) h in
    given s xs (sited_gives xs (normal_site s) (listed (normalised s)) (from_gives 0 (pieces (normalised s)) xs r))

pub accepted_read : (s : List ℕ) (xs : List Action) → Accepted s xs → Read (piece_texts (normalised s)) xs
accepted_read s xs a = subst (Read (piece_texts (normalised s))) a.2 (pieces_read s a.0 a.1)
