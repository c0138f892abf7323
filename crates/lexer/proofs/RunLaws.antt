-- The laws of a run, for every table: where it ends by a number of bytes, how it moves with its cursor,
-- and that it does not change with the bytes behind the line in which it ends. Each is an induction over the bytes,
-- in which `go` takes the three things that a byte can do.
use mathlib.Core.Path.{◌≡◌, refl, sym, ap, ◌∙◌}
use mathlib.Core.Logic.{◌⊎◌, inl, inr}
use Prim.Native.Nat.{ℕ, suc, ◌+◌, ◌-◌, ◌≤◌}
use native.Mathlib.Omega.{arith}
use mathlib.Core.List.{List, [], ◌∷◌, ◌++◌, append_assoc}
use lib.ListN.{length, take, drop, length-append, take-append-drop}
use lib.Seq.{drop_at, length-take-le}
use Rattle.lexer.specs.Cursors.{Cursor, moved, moves}
use Rattle.lexer.specs.Runs.{Does, ends, closes, takes, Spot, spot, onward, gives, counts, run, text, took}
use Rattle.lexer.specs.Parts.{EndsLf, raise}
use Rattle.lexer.specs.Steps.{past_bytes}
use Rattle.lexer.proofs.MoveLaws.{moves_append, moves_place, moved_raise}

-- ---- bytes passed over

-- reading came from xs at c to s
pub record Passed (xs : List ℕ) (c : Cursor) (s : Spot) : Type 0 where
  pub part : List ℕ
  pub list : xs ≡ part ++ s.rest
  pub cursor : s.here ≡ moves part c

pub passed_none : (xs : List ℕ) (c : Cursor) → Passed xs c (spot c xs)
unfolding moves
passed_none xs c = record { part = []; list = refl; cursor = refl }

unfoldable pub passed_trans : {xs : List ℕ} {c : Cursor} {s t : Spot} → Passed xs c s → Passed s.rest s.here t → Passed xs c t
passed_trans {xs} {c} {s} {t} p q =
    record {
      part = p.part ++ q.part;
      list = p.list ∙ ap (λ (l : List ℕ). p.part ++ l) q.list ∙ sym (append_assoc p.part q.part t.rest);
      cursor = q.cursor ∙ ap (moves q.part) p.cursor ∙ sym (moves_append p.part q.part c);
    }

-- from there the same cursor is reached, and the same end
pub passed_moves : {xs : List ℕ} {c : Cursor} {s : Spot} → Passed xs c s → moves s.rest s.here ≡ moves xs c
passed_moves {xs} {c} {s} p =
    ap (moves s.rest) p.cursor ∙ sym (moves_append p.part s.rest c) ∙ ap (λ (l : List ℕ). moves l c) (sym p.list)

pub passed_place : {xs : List ℕ} {c : Cursor} {s : Spot} (p : Passed xs c s) → s.here.place ≡ c.place + length p.part
passed_place {xs} {c} {s} p = ap (λ (a : Cursor). a.place) p.cursor ∙ moves_place p.part c

pub passed_length : {xs : List ℕ} {c : Cursor} {s : Spot} (p : Passed xs c s) → length xs ≡ length p.part + length s.rest
passed_length {xs} {c} {s} p = ap length p.list ∙ length-append p.part s.rest

-- in a whole text, what is left to be read is what stands from the cursor's place on
pub passed_drop : (front : List ℕ) {xs : List ℕ} {c : Cursor} {s : Spot} → length front ≡ c.place → Passed xs c s → drop s.here.place (front ++ xs) ≡ s.rest
passed_drop front {xs} {c} {s} h p =
    ap (λ (l : List ℕ). drop s.here.place (front ++ l)) p.list
    ∙ ap (drop s.here.place) (sym (append_assoc front p.part s.rest))
    ∙ drop_at (front ++ p.part) s.rest s.here.place (omega (arith, length-append front p.part, passed_place p))

-- ---- raised and widened

abbrev pub raise_spot : ℕ → ℕ → Spot → Spot
raise_spot d l s = spot (raise d l s.here) s.rest

abbrev pub widen : List ℕ → Spot → Spot
widen ys s = spot s.here (s.rest ++ ys)

-- s' and t' are s and t with ys still to be read behind
pub record Kept (ys : List ℕ) (s s' : Spot) (t t' : List ℕ) : Type 0 where
  pub spots : s' ≡ widen ys s
  pub texts : t' ≡ t

pub ends_lf_tail : (b : ℕ) (r : List ℕ) → EndsLf (b ∷ r) → EndsLf r
ends_lf_tail b [] h = tt
ends_lf_tail b (d ∷ r) h = h

pub ends_lf_suffix : (p r : List ℕ) → EndsLf (p ++ r) → EndsLf r
ends_lf_suffix [] r h = h
ends_lf_suffix (b ∷ p) r h = ends_lf_suffix p r (ends_lf_tail b (p ++ r) h)

module _ {M : Type 0} (does : M → ℕ → List ℕ → Does M) where
  -- ---- one byte: the equations that a loop over a run goes by

  module _ (m : M) (b : ℕ) (r : List ℕ) (x : Does M) (e : does m b r ≡ x) where
    pub run_by : (c : Cursor) → run does m (b ∷ r) c ≡ onward x b r c (λ m. run does m r (moved c b))
    unfolding run
    run_by c = rw e refl

    pub text_by_lem : text does m (b ∷ r) ≡ gives x (λ m. text does m r)
    unfolding text
    text_by_lem = rw e refl

    pub took_by : took does m (b ∷ r) ≡ counts x (λ m. took does m r)
    unfolding took
    took_by = rw e refl

  -- ---- a run's end by number

  pub took_length : (m : M) (xs : List ℕ) → took does m xs ≤ length xs
  unfolding took
  took_length m [] = omega arith
  took_length m (b ∷ r) = go (does m b r) (λ m. took_length m r)
    where
      go : (x : Does M) → ((m : M) → took does m r ≤ length r) → counts x (λ m. took does m r) ≤ suc (length r)
      go ends h = omega arith
      go closes h = omega arith
      go (takes t m) h = omega (arith, h m)

  pub run_took : (m : M) (xs : List ℕ) (c : Cursor)
      → run does m xs c ≡ spot (moves (take (took does m xs) xs) c) (drop (took does m xs) xs)
  unfolding run took moves
  run_took m [] c = refl
  run_took m (b ∷ r) c = go (does m b r) (λ m. run_took m r (moved c b))
    where
      go : (x : Does M) → ((m : M) → run does m r (moved c b) ≡ spot (moves (take (took does m r) r) (moved c b)) (drop (took does m r) r))
          → onward x b r c (λ m. run does m r (moved c b))
          ≡ spot (moves (take (counts x (λ m. took does m r)) (b ∷ r)) c) (drop (counts x (λ m. took does m r)) (b ∷ r))
      go ends h = refl
      go closes h = refl
      go (takes t m) h = h m

  pub run_passed : (m : M) (xs : List ℕ) (c : Cursor) → Passed xs c (run does m xs c)
  run_passed m xs c =
      rw (run_took m xs c) (record { part = take (took does m xs) xs; list = sym (take-append-drop (took does m xs) xs); cursor = refl })

  -- in a whole text, it is past the bytes from the cursor's place on that the run takes
  pub run_past : (m : M) (s : List ℕ) (c : Cursor) (to : ℕ) → to ≡ c.place + took does m (drop c.place s) → (run does m (drop c.place s) c).here ≡ past_bytes s c to
  run_past m s c to e =
      let n : took does m (drop c.place s) ≡ to - c.place = omega arith in
      ap (λ (a : Spot). a.here) (run_took m (drop c.place s) c) ∙ ap (λ (i : ℕ). moves (take i (drop c.place s)) c) n

  pub run_place : (m : M) (xs : List ℕ) (c : Cursor) → (run does m xs c).here.place ≡ c.place + took does m xs
  run_place m xs c =
      ap (λ (s : Spot). s.here.place) (run_took m xs c)
      ∙ moves_place (take (took does m xs) xs) c
      ∙ ap (λ (n : ℕ). c.place + n) (length-take-le (took does m xs) xs (took_length m xs))

  -- ---- from a cursor further on

  pub run_raise : (d l : ℕ) (m : M) (xs : List ℕ) (c : Cursor) → run does m xs (raise d l c) ≡ raise_spot d l (run does m xs c)
  unfolding run
  run_raise d l m [] c = refl
  run_raise d l m (b ∷ r) c = go (does m b r) (λ m. rw moved_raise (run_raise d l m r (moved c b)))
    where
      go : (x : Does M) {f : M → Spot} → ((m : M) → f m ≡ raise_spot d l (run does m r (moved c b)))
          → onward x b r (raise d l c) f ≡ raise_spot d l (onward x b r c (λ m. run does m r (moved c b)))
      go ends h = refl
      go closes h = rw moved_raise
      go (takes t m) h = h m

  -- ---- with more bytes behind

  -- a run that ends before its text does, ends there whatever follows
  module _ (near : (m : M) (b : ℕ) (r ys : List ℕ) → EndsLf (b ∷ r) → does m b (r ++ ys) ≡ does m b r) (ys : List ℕ) where
    pub run_append : (m : M) (xs : List ℕ) (c : Cursor) → EndsLf xs
        → Kept ys (run does m xs c) (run does m (xs ++ ys) c) (text does m xs) (text does m (xs ++ ys)) ⊎ ((run does m xs c).rest ≡ [])
    unfolding run text
    run_append m [] c h = inr refl
    run_append m (b ∷ r) c h = rw (near m b r ys h) (go (does m b r) (λ m. run_append m r (moved c b) (ends_lf_tail b r h)))
      where
        go : (x : Does M)
            → ((m : M) → Kept ys (run does m r (moved c b)) (run does m (r ++ ys) (moved c b)) (text does m r) (text does m (r ++ ys)) ⊎ ((run does m r (moved c b)).rest ≡ []))
            → Kept ys (onward x b r c (λ m. run does m r (moved c b))) (onward x b (r ++ ys) c (λ m. run does m (r ++ ys) (moved c b)))
            (gives x (λ m. text does m r)) (gives x (λ m. text does m (r ++ ys)))
            ⊎ ((onward x b r c (λ m. run does m r (moved c b))).rest ≡ [])
        go ends k = inl (record { spots = refl; texts = refl })
        go closes k = inl (record { spots = refl; texts = refl })
        go (takes t m) k = elim (k m) [ inl j ↦ inl (record { spots = j.spots; texts = ap (λ (l : List ℕ). t ++ l) j.texts }) | inr j ↦ inr j ]
