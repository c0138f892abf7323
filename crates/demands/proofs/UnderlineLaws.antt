-- What is underlined for the pieces of a list is what is underlined for all that is read from them.
-- The idea: a site that carries every part of a text to bytes that read as that part carries every piece, and each record has its piece's place.
use Rattle.std.specs.Prelude.{Option, Some, None}
use mathlib.Core.Path.{◌≡◌, ◌∙◌, refl, sym, ap}
use mathlib.Core.Bool.{Bool, true, false}
use mathlib.Core.List.{List, [], ◌∷◌, ◌++◌}
use Prim.Native.Nat.{ℕ, suc, ◌+◌, ◌-◌, ◌≤◌, ◌<◌}
use native.Mathlib.Omega.{arith}
use lib.ListN.{length, take, drop, length-append, length-drop}
use lib.Seq.{drop-drop, length-take-le, take-append-le, drop-append-le}
use lib.Dec.{eqb}
use Rattle.ascii.specs.Choice.{pick}
use Rattle.lent.specs.Sources.{Part, part, Sourced, sourced, sited_by, sited_all}
use Rattle.lent.specs.Table.{Outcome, refuses, reads, sited_outcome}
use Rattle.names.specs.Variables.{variable_code}
use Rattle.places.specs.declared.Rule.{Rule}
use Rattle.places.specs.Sites.{text_of, read_alone, site_of}
use Rattle.places.proofs.SiteLaws.{site_bounds, site_some}
use Rattle.places.proofs.UnderlineLaws.{underlined_reads}
use Rattle.single_action.specs.Actions.{Action, Single, done, bad, unknown, single}
use Rattle.actions.specs.Normal.{normalised}
use Rattle.actions.specs.Pieces as Act
use Rattle.actions.specs.Lists as Lists
use Rattle.actions.specs.Lists.{action_then, single_then, actions_from, normal_site}
use Rattle.actions.proofs.JoinLaws.{bytes_joined}
use Rattle.actions.proofs.PlaceLaws as Acts
use Rattle.variables.specs.Parts as Var
use Rattle.variables.specs.Variables as Of
use Rattle.variables.specs.Steps.{excluding_of, hanging}
use Rattle.variables.specs.declared.singles.Exclusions.{Exclusions}
use Rattle.variables.specs.declared.singles.Exclusions.TheVariants.{AsWritten, LookedUp}
use Rattle.variables.proofs.PlaceLaws.{inner}
use Rattle.variables.proofs.SourceLaws as Vars
use Rattle.directives.specs.Directives.{between}
use Rattle.demands.specs.Underline.{bytes_in, whole, Underlined, as_they_are, ActionThere, ActionsThere, alone, TargetsThere}

-- ---- parts

-- every part of a text that is not empty is underlined where the site says
pub record Carries (read : List ℕ → List ℕ) (s : List ℕ) (around : Part) (g : Part → Part) (text : List ℕ) : Type 0 where
  pub carry : (y : Part) → y.first < y.past → y.past ≤ length text → Underlined read s around (g y) (bytes_in text y)

-- where it stands itself
pub plain_carries : (s : List ℕ) → Carries as_they_are s (whole s) (λ x. x) s
plain_carries s = record { carry = λ y h l. record { some = h; from = omega arith; upto = l; reads = refl } }

-- a text without its line continuations
pub normal_carries : (s : List ℕ) → Carries normalised s (whole s) (normal_site s) (normalised s)
normal_carries s = record { carry = go }
  where
    go : (y : Part) → y.first < y.past → y.past ≤ length (normalised s) → Underlined normalised s (whole s) (normal_site s y) (bytes_in (normalised s) y)
    go y h l =
        let z : Part = normal_site s y in
        let k : y.past ≤ length (text_of Rule.Joined s) = omega (arith, l, ap length (bytes_joined s)) in
        let b = site_bounds Rule.Joined 0 s y in
        let e : z.first ≡ z.first - 0 = omega arith in
        record {
          some = site_some Rule.Joined 0 s y h k;
          from = omega arith;
          upto = omega (arith, b.high);
          reads = sym (bytes_joined (bytes_in s z)) ∙ ap (λ (i : ℕ). read_alone Rule.Joined (take (z.past - z.first) (drop i s))) e
              ∙ underlined_reads Rule.Joined 0 s y h k
              ∙ ap (λ (t : List ℕ). bytes_in t y) (bytes_joined s);
        }

-- a part of the front of a text
front_bytes : (text close : List ℕ) (y : Part) → y.first < y.past → y.past ≤ length text → bytes_in (text ++ close) y ≡ bytes_in text y
front_bytes text close y h l =
    ap (take (y.past - y.first)) (drop-append-le y.first text close (omega (arith, h, l)))
    ∙ take-append-le (y.past - y.first) (drop y.first text) close (omega (arith, length-drop y.first text, h, l))

-- the bytes between two places, read by a rule, give a text and perhaps a mark behind it
pub site_carries : (rule : Rule) (s : List ℕ) (from past : ℕ) (text close : List ℕ) → from ≤ past → past ≤ length s → text_of rule (between s from past) ≡ text ++ close
    → (y : Part) → y.first < y.past → y.past ≤ length text
    → Underlined (read_alone rule) s (part from past) (site_of rule from (between s from past) y) (bytes_in text y)
site_carries rule s from past text close o i e y h l =
    let r : List ℕ = between s from past in
    let z : Part = site_of rule from r y in
    let k : y.past ≤ length (text_of rule r) = omega (arith, l, ap length e, length-append text close) in
    let b = site_bounds rule from r y in
    let low = b.low in
    let order = b.order in
    let n : length r ≡ past - from = length-take-le (past - from) (drop from s) (omega (arith, length-drop from s, i)) in
    let high : z.past ≤ past = omega (arith, b.high, n, o) in
    let a : from + (z.first - from) ≡ z.first = omega (arith, low) in
    let bytes : take (z.past - z.first) (drop (z.first - from) r) ≡ bytes_in s z =
    inner (z.first - from) (z.past - z.first) (past - from) (drop from s) (omega (arith, low, order, high)) (omega (arith, length-drop from s, low, order, high, i))
    ∙ ap (take (z.past - z.first)) (drop-drop (z.first - from) from s ∙ ap (λ (j : ℕ). drop j s) a) in
    record {
      some = site_some rule from r y h k;
      from = low;
      upto = high;
      reads = ap (read_alone rule) (sym bytes) ∙ underlined_reads rule from r y h k ∙ ap (λ (t : List ℕ). bytes_in t y) e ∙ front_bytes text close y h l;
    }

-- a text whose line continuations are taken out then
pub both_carries : {read : List ℕ → List ℕ} {s : List ℕ} {around : Part} {g : Part → Part} {text : List ℕ} → Carries read s around g text
    → Carries (λ u. normalised (read u)) s around (λ x. g (normal_site text x)) (normalised text)
both_carries {read} {s} {around} {g} {text} c = record { carry = go }
  where
    go : (y : Part) → y.first < y.past → y.past ≤ length (normalised text)
        → Underlined (λ u. normalised (read u)) s around (g (normal_site text y)) (bytes_in (normalised text) y)
    go y h l =
        let m = (normal_carries text).carry y h l in
        let u = c.carry (normal_site text y) m.some m.upto in
        record { some = u.some; from = u.from; upto = u.upto; reads = ap normalised u.reads ∙ m.reads }

-- ---- actions

module _ {read : List ℕ → List ℕ} {s : List ℕ} {around : Part} {g : Part → Part} {text : List ℕ} (c : Carries read s around g text) where
  piece_told : (p : Act.Piece) → Acts.Stands text p → Underlined read s around (g p.place) p.text
  piece_told p h =
      let u = c.carry p.place h.some h.inside in
      record { some = u.some; from = u.from; upto = u.upto; reads = u.reads ∙ h.bytes }

  abbrev Found : Outcome (List (Sourced Action)) → Type 0
  Found o = ActionsThere read s around (sited_outcome g o)

  then_there : (a : Sourced Action) (o : Outcome (List (Sourced Action))) → ActionThere read s around (sited_by g a) → Found o → Found (action_then a o)
  then_there a (refuses f) h w = w
  then_there a (reads xs) h w = (h, w)

  from_there : (k : ℕ) (ps : List Act.Piece) → Acts.AllStand text ps → Found (actions_from k ps)
  unfolding actions_from
  from_there k [] Acts.none = tt
  from_there k (p ∷ ps) (Acts.also h a) = go (single p.text) refl (from_there (suc k) ps a)
    where
      go : (v : Single) → single p.text ≡ v → Found (actions_from (suc k) ps) → Found (single_then k p.place v (actions_from (suc k) ps))
      go (done x) e w = then_there (sourced x p.place) (actions_from (suc k) ps) (p.text, (piece_told p h, e)) w
      go (bad flaw name) e w = (p.text, (piece_told p h, e))
      go (unknown name) e w = (p.text, (piece_told p h, e))

  -- a normalised list of actions
  pub list_there_lem : ActionsThere read s around (sited_outcome g (Lists.listed text))
  list_there_lem = from_there 0 (Act.pieces text) (Acts.pieces_stand text)

-- ---- variables

-- each put where a site says
abbrev pub sited_targets : (Part → Part) → Of.Targets → Of.Targets
sited_targets g (Of.targets vs es) = Of.targets (sited_all g vs) (sited_all g es)
sited_targets g (Of.refused i name x) = Of.refused i name (g x)

module _ {read : List ℕ → List ℕ} {s : List ℕ} {around : Part} {g : Part → Part} {text : List ℕ} (c : Carries read s around g text) (n : Exclusions) where
  abbrev Met : Of.Targets → Type 0
  Met ts = TargetsThere read s around n (sited_targets g ts)

  -- one piece t that stands at x
  module _ (x : Part) (t : List ℕ) (u : Underlined read s around (g x) t) where
    variable_there : (v : Of.Single) → ((y : Part) → alone read s around n y t ≡ Of.with_variable y v (Of.targets [] [])) → (ts : Of.Targets) → Met ts → Met (Of.with_variable x v ts)
    variable_there (Of.variable v) f (Of.targets vs es) w = (((t, (u, f (g x))), w.0), w.1)
    variable_there (Of.variable v) f (Of.refused i m z) w = w
    variable_there (Of.unknown m) f (Of.targets vs es) w = (t, (u, f (g x)))
    variable_there (Of.unknown m) f (Of.refused i k z) w = (t, (u, f (g x)))

    exclusion_there : (e : List ℕ) → ((y : Part) → alone read s around n y t ≡ Of.with_exclusion y e (Of.targets [] [])) → (ts : Of.Targets) → Met ts → Met (Of.with_exclusion x e ts)
    exclusion_there e f (Of.targets vs es) w = (w.0, ((t, (u, f (g x))), w.1))
    exclusion_there e f (Of.refused i m z) w = w

    known_there : (l : Option ℕ) (e : List ℕ)
        → ((y : Part) → alone read s around n y t ≡ Of.if_known y l (Of.front_of (Of.at_colon e)) (Of.with_exclusion y e (Of.targets [] [])))
        → (ts : Of.Targets) → Met ts → Met (Of.if_known x l (Of.front_of (Of.at_colon e)) (Of.with_exclusion x e ts))
    known_there (Some k) e f ts w = exclusion_there e f ts w
    known_there None e f ts w = (t, (u, f (g x)))

  marked_there : (m : Exclusions) → m ≡ n → (x : Part) (b : ℕ) (r : List ℕ) → eqb b 33 ≡ true → Underlined read s around (g x) (b ∷ r)
      → (ts : Of.Targets) → Met ts → Met (excluding_of m x r ts)
  marked_there AsWritten q x b r e u ts w = exclusion_there x (b ∷ r) u r (λ y. rw (e, sym q)) ts w
  marked_there LookedUp q x b r e u ts w = known_there x (b ∷ r) u (variable_code (Of.front_of (Of.at_colon r))) r (λ y. rw (e, sym q)) ts w

  piece_there : (x : Part) (t : List ℕ) → Underlined read s around (g x) t → (ts : Of.Targets) → Met ts → Met (Of.piece (excluding_of n) x t ts)
  piece_there x [] u ts w = variable_there x [] u (Of.single []) (λ y. refl) ts w
  piece_there x (b ∷ r) u ts w = go (eqb b 33) refl
    where
      go : (v : Bool) → eqb b 33 ≡ v → Met (pick v (excluding_of n x r ts) (Of.with_variable x (Of.single (b ∷ r)) ts))
      go true e = marked_there n refl x b r e u ts w
      go false e = variable_there x (b ∷ r) u (Of.single (b ∷ r)) (λ y. rw e) ts w

  all_there : {ps : List Var.Piece} → Vars.EveryPiece (Vars.Stands text) ps → Met (Of.read_all (excluding_of n) ps)
  unfolding Of.read_all
  all_there Vars.no_piece = (tt, tt)
  all_there (Vars.and_piece {p} {ps} h w) =
      let u = c.carry p.place h.inside.some h.inside.within in
      piece_there p.place p.text (record { some = u.some; from = u.from; upto = u.upto; reads = u.reads ∙ h.bytes }) (Of.read_all (excluding_of n) ps) (all_there w)

  -- a list of variables, and what is kept of its exclusions
  pub targets_there : TargetsThere read s around n (sited_targets g (Of.read_all (excluding_of n) (Var.pieces text)))
  targets_there = all_there (Vars.pieces_stand text)

  pub hanging_there : (m : Exclusions) (ts : Of.Targets) → TargetsThere read s around n (sited_targets g ts) → TargetsThere read s around n (sited_targets g (hanging m ts))
  hanging_there AsWritten (Of.targets [] es) w = (tt, tt)
  hanging_there AsWritten (Of.targets (v ∷ vs) es) w = w
  hanging_there AsWritten (Of.refused i name x) w = w
  hanging_there LookedUp ts w = w

-- put where they are
all_still : {A : Type 0} (xs : List (Sourced A)) → sited_all (λ x. x) xs ≡ xs
all_still [] = refl
all_still {A} (x ∷ xs) = ap (λ (l : List (Sourced A)). x ∷ l) (all_still xs)

pub targets_still : (ts : Of.Targets) → sited_targets (λ x. x) ts ≡ ts
targets_still (Of.targets vs es) =
    ap (λ (l : List (Sourced Of.Variable)). Of.targets l (sited_all (λ x. x) es)) (all_still vs) ∙ ap (Of.targets vs) (all_still es)
targets_still (Of.refused i name x) = refl
