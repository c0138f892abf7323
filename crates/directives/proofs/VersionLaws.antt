-- What a text comes to for a version: what it comes to for 2.6, or that an id is missing.
use Rattle.std.specs.Prelude.{Result, Ok, Err}
use mathlib.Core.Path.{◌≡◌, refl, sym, ap, ◌∙◌}
use Prim.Native.Nat.{ℕ}
use native.Mathlib.Omega.{arith}
use mathlib.Core.Bool.{Bool, true, false}
use mathlib.Core.List.{List, [], ◌∷◌, ◌++◌}
use Rattle.ascii.specs.Choice.{pick, bit}
use Rattle.records.specs.Codes.{id_code, chain_code}
use Rattle.directives.specs.Directives.{Body, rule, act, marker, defaults, unknown, Directive, id_missing, directives, Fault}
use Rattle.directives.specs.Layout.{shape_in}
use Rattle.directives.specs.Versions.{Version, TwoSix, TwoSeven, is_rule, chained_on, lacks_id, asked, asked_for, leading, directives_for}
use Rattle.directives.specs.Steps.{reached_by, entry_of, rule_shape, chain_behind, lacks_by, chained_by}
use Rattle.directives.specs.declared.parts.Tally.{Tally}
use Rattle.directives.proofs.SitedLaws.{SameBody}

module _ {A : Type 0} (P : Result A Fault → Type 0) (missing : (l : ℕ) → P (Err (id_missing l))) (o : Result A Fault) (h : P o) where
  asked_holds : (chained : Bool) (ds : List Directive) → P (asked chained ds o)
  unfolding asked
  asked_holds chained [] = h
  asked_holds chained (d ∷ ds) = go (lacks_id chained d.body) (asked_holds (chained_on chained d.body) ds)
    where
      go : (t : Bool) → P (asked (chained_on chained d.body) ds o) → P (pick t (Err (id_missing d.line)) (asked (chained_on chained d.body) ds o))
      go true k = missing d.line
      go false k = k

  asked_for_holds : (v : Version) (chained : Bool) (ds : List Directive) → P (asked_for v chained ds o)
  asked_for_holds TwoSix chained ds = h
  asked_for_holds TwoSeven chained ds = asked_holds chained ds

-- what holds of a text's directives, and of a missing id, holds for every version
pub for_holds : (P : Result (List Directive) Fault → Type 0) → ((l : ℕ) → P (Err (id_missing l))) → (v : Version) (s : List ℕ) → P (directives s) → P (directives_for v s)
unfolding directives_for
for_holds P missing v s h = asked_for_holds P missing (directives s) h v false (leading s)

-- accepted for a version, so for 2.6 with the same directives
pub for_good : (v : Version) (s : List ℕ) (ds : List Directive) → directives_for v s ≡ Ok ds → directives s ≡ Ok ds
for_good v s ds e = for_holds (λ r. r ≡ Ok ds → directives s ≡ Ok ds) (λ l q. absurd (apart q)) v s (λ q. q) e
  where
    apart : {l : ℕ} → ◌≡◌ {A = Result (List Directive) Fault} (Err (id_missing l)) (Ok ds) → ⊥
    apart q = let z : ◌≡◌ {A = ℕ} 0 1 = cc in absurd (omega arith)

-- ---- directives asked for their ids, one by one

abbrev pub lacks_id_for : Version → Bool → Body → Bool
lacks_id_for TwoSix chained x = false
lacks_id_for TwoSeven chained x = lacks_id chained x

module _ {A : Type 0} where
  pub asked_none : (v : Version) (chained : Bool) (o : Result A Fault) → asked_for v chained [] o ≡ o
  unfolding asked
  asked_none TwoSix chained o = refl
  asked_none TwoSeven chained o = refl

  -- one that has its id, or needs none, is passed
  pub asked_passed : (v : Version) (chained : Bool) (d : Directive) (ds : List Directive) (o : Result A Fault) → lacks_id_for v chained d.body ≡ false
      → asked_for v chained (d ∷ ds) o ≡ asked_for v (chained_on chained d.body) ds o
  unfolding asked
  asked_passed TwoSix chained d ds o e = refl
  asked_passed TwoSeven chained d ds o e = rw e

  -- and the first that lacks it is the answer
  pub asked_lacks : (v : Version) (chained : Bool) (d : Directive) (ds : List Directive) (o : Result A Fault) → lacks_id_for v chained d.body ≡ true → asked_for v chained (d ∷ ds) o ≡ Err (id_missing d.line)
  unfolding asked
  asked_lacks TwoSix chained d ds o e = absurd (omega (arith, ap bit e))
  asked_lacks TwoSeven chained d ds o e = rw e

pub chained_more : (chained : Bool) (ds : List Directive) (d : Directive) → chained_by chained (ds ++ d ∷ []) ≡ chained_on (chained_by chained ds) d.body
unfolding chained_by
chained_more chained [] d = refl
chained_more chained (e ∷ ds) d = chained_more (chained_on chained e.body) ds d

-- ---- by an entry

rule_shape_lem : (x : Body) → rule_shape (shape_in x) ≡ is_rule x
rule_shape_lem (rule vs o xs) = refl
rule_shape_lem (act xs) = refl
rule_shape_lem (marker m) = refl
rule_shape_lem (defaults xs) = refl
rule_shape_lem (unknown n) = refl

-- where a body's parts were read from is not asked
module _ (chained : Bool) {x y : Body} (m : SameBody x y) where
  same_rule : is_rule x ≡ is_rule y
  same_rule = sym (rule_shape_lem x) ∙ ap rule_shape m.kind ∙ rule_shape_lem y

  pub lacks_same : lacks_id chained x ≡ lacks_id chained y
  lacks_same = rw (same_rule, m.has_same id_code)

  pub chained_same : chained_on chained x ≡ chained_on chained y
  chained_same = rw (same_rule, m.has_same chain_code)

module _ (t : Tally) (shrunk : ℕ) (x : Body) where
  pub chain_entry : chain_behind t (entry_of (reached_by t) shrunk x) ≡ chained_on t.chained x
  chain_entry = rw (rule_shape_lem x)

  pub lacks_entry : (v : Version) → lacks_by v t (entry_of (reached_by t) shrunk x) ≡ lacks_id_for v t.chained x
  lacks_entry TwoSix = refl
  lacks_entry TwoSeven = rw (rule_shape_lem x)
