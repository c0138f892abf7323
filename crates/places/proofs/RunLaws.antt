-- Runs that a walk passes at once: an escaped line feed and the spaces behind it give nothing, by every rule that has a margin.
use mathlib.Core.Path.{◌≡◌, ◌∙◌, refl, ap, subst}
use mathlib.Core.List.{List, ◌∷◌}
use Prim.Native.Nat.{ℕ, ◌+◌, ◌-◌, ◌<◌}
use native.Mathlib.Omega.{arith}
use lib.ListN.{drop, get_or}
use Rattle.ascii.specs.Classes.{white}
use Rattle.ascii.proofs.ListLaws.{next_byte}
use Rattle.places.specs.Scans.{plain, escaped, margin, pass}
use Rattle.places.specs.Tables.{Rule, Joined, Quoted, joining, stays, stays_next, quoting_by, line_next, act}
use Rattle.places.specs.Steps.{Stand, Stands, Spaces, Feed, Continued, Blank, Blanks, skip_by}
use Rattle.places.proofs.WalkLaws.{passed, skip_stands}

-- ---- what a margin asks of a rule

pub record Margined (rule : Rule) : Type 0 where
  pub slash : (t : List ℕ) → act rule plain 92 (10 ∷ t) ≡ pass escaped
  pub feed : (t : List ℕ) → act rule escaped 10 t ≡ pass margin
  pub space : (t : List ℕ) → act rule margin 32 t ≡ pass margin

joined : Margined Joined
unfolding joining line_next white
joined = record { slash = λ t. refl; feed = λ t. refl; space = λ t. refl }

quoted : Margined Quoted
unfolding quoting_by stays stays_next
quoted = record { slash = λ t. refl; feed = λ t. refl; space = λ t. refl }

-- ---- what gives nothing

module _ {rule : Rule} (g : Margined rule) {s : List ℕ} where
  spaces_skip : {place r : ℕ} → Spaces s place r → Blank rule s margin place r
  spaces_skip x = record {
    inside = x.inside;
    skips = λ z k w m p y. skip_stands rule s k w y m _ (omega (arith, x.inside, p)) (λ i j t. rw (p, x.all i j) (g.space t));
  }

  feed_skip : {place r : ℕ} → Continued s place r → Blank rule s plain place r
  feed_skip {place} {r} x = record { inside = x.inside; skips = λ z k w m p y. go k w m p y (x.feed z) }
    where
      go : (k : ℕ) (w : Stand) → w.mode ≡ plain → w.place ≡ place → Stands rule s k w → Feed s place r → Stands rule s k (skip_by r w)
      go k w m p y f =
          let u : Stand = record { count = w.count; place = w.place + 1; mode = escaped; first = w.first; last = w.last } in
          let v : Stand = skip_by 2 w in
          let q = f.spaces.inside in
          let b : get_or s w.place 0 ≡ 92 = rw p f.slash in
          let c : get_or s (w.place + 1) 0 ≡ 10 = rw p f.feed in
          let d : drop (w.place + 1) s ≡ 10 ∷ drop (w.place + 1 + 1) s = next_byte s (w.place + 1) (omega (arith, q, p)) ∙ ap (λ (b : ℕ). b ∷ drop (w.place + 1 + 1) s) c in
          let n = passed rule s k w y (omega (arith, q, p)) escaped u (rw (m, b, d) (g.slash _)) refl (omega arith) refl refl refl in
          let o = passed rule s k u n (omega (arith, q, p)) margin v (rw c (g.feed _)) refl (omega arith) refl refl refl in
          let e : w.place + 2 + f.more ≡ w.place + r = omega (arith, f.all) in
          let a : (i : ℕ) → i < f.more → (t : List ℕ) → act rule margin (get_or s (w.place + 2 + i) 0) t ≡ pass margin = λ i j t. rw (p, f.spaces.all i j) (g.space t) in
          subst (λ (p : ℕ). Stands rule s k (record { count = w.count; place = p; mode = margin; first = w.first; last = w.last })) e
          (skip_stands rule s k v o refl f.more (omega (arith, q, p)) a)

pub spaces_blank : {s : List ℕ} {place r : ℕ} → Spaces s place r → Blanks s margin place r
spaces_blank x = (spaces_skip joined x, spaces_skip quoted x)

pub feed_blank : {s : List ℕ} {place r : ℕ} → Continued s place r → Blanks s plain place r
feed_blank x = (feed_skip joined x, feed_skip quoted x)
