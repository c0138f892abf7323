-- The source of a part of the text: from where its first byte came from, and up to where its last one did.
use mathlib.Core.Path.{◌≡◌, ◌∙◌, refl, sym, ap}
use mathlib.Core.List.{List, [], ◌∷◌}
use Prim.Native.Nat.{ℕ, zero, suc, ◌+◌, ◌≤◌, ◌<◌}
use native.Mathlib.Omega.{arith}
use lib.ListN.{length, take, drop}
use lib.Seq.{drop-nil, take-nil}
use Rattle.places.specs.Cells.{first_of, past_of}
use Rattle.places.specs.Scans.{Mode, plain, Act, pass, keep, turn, scan_by, spell_by, scan, spell}

-- Where the n-th byte of the text came from: how many bytes stand before that, of the source with the byte before it.
abbrev pub from_by : Act → ℕ → (ℕ → Mode → ℕ) → ℕ
from_by (pass m) n go = suc (go n m)
from_by (keep x m) zero go = 1
from_by (keep x m) (suc n) go = suc (go n m)
from_by (turn x m) zero go = 0
from_by (turn x m) (suc n) go = suc (go n m)

-- And how many bytes of the source give n bytes of the text.
abbrev pub upto_by : Act → ℕ → (ℕ → Mode → ℕ) → ℕ
upto_by (pass m) n go = suc (go (suc n) m)
upto_by (keep x m) n go = suc (go n m)
upto_by (turn x m) n go = suc (go n m)

module _ (act : Mode → ℕ → List ℕ → Act) where
  unfoldable pub from : Mode → List ℕ → ℕ → ℕ
  from m [] n = 1
  from m (b ∷ r) n = from_by (act m b r) n (λ n m. from m r n)

  unfoldable pub upto : Mode → List ℕ → ℕ → ℕ
  upto m [] n = 0
  upto m (b ∷ r) zero = 0
  upto m (b ∷ r) (suc n) = upto_by (act m b r) n (λ n m. upto m r n)

  pub upto_zero : (m : Mode) (r : List ℕ) → upto m r 0 ≡ 0
  unfolding upto
  upto_zero m [] = refl
  upto_zero m (b ∷ r) = refl

  -- ---- taken up again at a byte that gives one

  -- what is known of a byte behind h, in a mode that knows of both
  abbrev pub Again : (Mode → ℕ → List ℕ → Type 0) → ℕ → Mode → ℕ → List ℕ → Act → Type 0
  Again Prior h m b r (pass m') = Prior m' b r
  Again Prior h m b r (keep x m') = (act plain b r ≡ keep x m') × Prior m' b r
  Again Prior h m b r (turn x m') = (act plain h (b ∷ r) ≡ pass m) × Prior m' b r

  module _ (Prior : Mode → ℕ → List ℕ → Type 0) (again : (m : Mode) (h b : ℕ) (r : List ℕ) → Prior m h (b ∷ r) → Again Prior h m b r (act m b r)) where
    -- read from there on, in the plain mode: the cells are the same
    pub from_cells : (m : Mode) (h k : ℕ) (r : List ℕ) (n j : ℕ) → Prior m h r → suc j ≡ k + from m r n → scan act plain j (drop (from m r n) (h ∷ r)) ≡ drop n (scan act m k r)
    unfolding scan from
    from_cells m h k [] n j p e = sym (drop-nil n)
    from_cells m h k (b ∷ r) n j p e = go (act m b r) refl (again m h b r p) (λ m n. from_cells m b (suc k) r n j) n e
      where
        go : (a : Act) → act m b r ≡ a → Again Prior h m b r a
            → ((m : Mode) (n : ℕ) → Prior m b r → suc j ≡ suc k + from m r n → scan act plain j (drop (from m r n) (b ∷ r)) ≡ drop n (scan act m (suc k) r))
            → (n : ℕ) → suc j ≡ k + from_by a n (λ n m. from m r n)
            → scan act plain j (drop (from_by a n (λ n m. from m r n)) (h ∷ b ∷ r)) ≡ drop n (scan_by a k (λ m. scan act m (suc k) r))
        go (pass m') t q ih n e = ih m' n q (omega (arith, e))
        go (keep x m') t q ih zero e = let o : j ≡ k = omega (arith, e) in rw (o, q.0)
        go (keep x m') t q ih (suc n) e = ih m' n q.1 (omega (arith, e))
        go (turn x m') t q ih zero e = let o : k ≡ suc j = omega (arith, e) in rw (o, q.0, t)
        go (turn x m') t q ih (suc n) e = ih m' n q.1 (omega (arith, e))

  -- and the number is that of its place
  pub from_first : (Loose : Mode → Type 0) → ((m : Mode) (b : ℕ) (r : List ℕ) (x : ℕ) (m' : Mode) → act m b r ≡ turn x m' → Loose m)
      → (d : ℕ) (m : Mode) (k : ℕ) (r : List ℕ) (n : ℕ) → (Loose m → 0 < k) → n < length (scan act m k r) → first_of d (drop n (scan act m k r)) + 1 ≡ k + from m r n
  unfolding scan from first_of
  from_first Loose loose d m k [] n g h = absurd (omega arith)
  from_first Loose loose d m k (b ∷ r) n g h = go (act m b r) refl (λ m n. from_first Loose loose d m (suc k) r n (λ z. omega arith)) n h
    where
      go : (a : Act) → act m b r ≡ a → ((m : Mode) (n : ℕ) → n < length (scan act m (suc k) r) → first_of d (drop n (scan act m (suc k) r)) + 1 ≡ suc k + from m r n)
          → (n : ℕ) → n < length (scan_by a k (λ m. scan act m (suc k) r)) → first_of d (drop n (scan_by a k (λ m. scan act m (suc k) r))) + 1 ≡ k + from_by a n (λ n m. from m r n)
      go (pass m') t ih n h = let e = ih m' n h in omega arith
      go (keep x m') t ih zero h = refl
      go (keep x m') t ih (suc n) h = let e = ih m' n (omega arith) in omega arith
      go (turn x m') t ih zero h = let l = g (loose m b r x m' t) in omega arith
      go (turn x m') t ih (suc n) h = let e = ih m' n (omega arith) in omega arith

  pub upto_past : (d : ℕ) (m : Mode) (k : ℕ) (r : List ℕ) (n : ℕ) → suc n ≤ length (scan act m k r) → past_of d (take (suc n) (scan act m k r)) ≡ k + upto m r (suc n)
  unfolding scan upto past_of
  upto_past d m k [] n h = absurd (omega arith)
  upto_past d m k (b ∷ r) n h = go (act m b r) (λ d m n. upto_past d m (suc k) r n) n h
    where
      one : (m : Mode) → suc k ≡ k + suc (upto m r 0)
      one m = omega (arith, upto_zero m r)

      go : (a : Act) → ((d : ℕ) (m : Mode) (n : ℕ) → suc n ≤ length (scan act m (suc k) r) → past_of d (take (suc n) (scan act m (suc k) r)) ≡ suc k + upto m r (suc n))
          → (n : ℕ) → suc n ≤ length (scan_by a k (λ m. scan act m (suc k) r)) → past_of d (take (suc n) (scan_by a k (λ m. scan act m (suc k) r))) ≡ k + upto_by a n (λ n m. upto m r n)
      go (pass m') ih n h = let e = ih d m' n h in omega arith
      go (keep x m') ih zero h = one m'
      go (keep x m') ih (suc n) h = let e = ih (suc k) m' n (omega arith) in omega arith
      go (turn x m') ih zero h = one m'
      go (turn x m') ih (suc n) h = let e = ih (suc k) m' n (omega arith) in omega arith

  -- ---- a part by itself, read by a table that may differ at its end

  module _ (own : Mode → ℕ → List ℕ → Act) where
    -- what the own table says of a byte before the source of n more
    abbrev pub Same : Mode → ℕ → List ℕ → ℕ → Act → Type 0
    Same m b r n (pass m') = suc n ≤ length (spell act m' r) → own m b (take (upto m' r (suc n)) r) ≡ pass m'
    Same m b r n (keep x m') = own m b (take (upto m' r n) r) ≡ keep x m'
    Same m b r n (turn x m') = own m b (take (upto m' r n) r) ≡ turn x m'

    abbrev pub Steady : Type 0
    Steady = (m : Mode) (b : ℕ) (r : List ℕ) (n : ℕ) → Same m b r n (act m b r)

    pub upto_is : Steady → (m : Mode) (r : List ℕ) (n : ℕ) → n ≤ length (spell act m r) → spell own m (take (upto m r n) r) ≡ take n (spell act m r)
    unfolding spell upto
    upto_is st m [] n h = sym (take-nil n)
    upto_is st m (b ∷ r) zero h = refl
    upto_is st m (b ∷ r) (suc n) h = go (act m b r) (st m b r n) (λ m n. upto_is st m r n) h
      where
        go : (a : Act) → Same m b r n a → ((m : Mode) (n : ℕ) → n ≤ length (spell act m r) → spell own m (take (upto m r n) r) ≡ take n (spell act m r))
            → suc n ≤ length (spell_by a (λ m. spell act m r)) → spell own m (take (upto_by a n (λ n m. upto m r n)) (b ∷ r)) ≡ take (suc n) (spell_by a (λ m. spell act m r))
        go (pass m') s ih h = rw (s h) (ih m' (suc n) h)
        go (keep x m') s ih h = rw s (ap (λ (l : List ℕ). x ∷ l) (ih m' n (omega arith)))
        go (turn x m') s ih h = rw s (ap (λ (l : List ℕ). x ∷ l) (ih m' n (omega arith)))

    -- A table that looks one byte ahead, and keeps what it keeps with nothing behind it.
    pub record Ahead : Type 0 where
      pub same_head : (m : Mode) (b x : ℕ) (r r' : List ℕ) → own m b (x ∷ r') ≡ act m b (x ∷ r)
      pub last_keep : (m : Mode) (b : ℕ) (r : List ℕ) (x : ℕ) (m' : Mode) → act m b r ≡ keep x m' → own m b [] ≡ keep x m'
      pub last_turn : (m : Mode) (b : ℕ) (r : List ℕ) (x : ℕ) (m' : Mode) → act m b r ≡ turn x m' → own m b [] ≡ turn x m'

    module _ (look : Ahead) where
      -- with nothing behind it, or with the same byte
      either_way : (m m' : Mode) (b : ℕ) (r : List ℕ) (n : ℕ) (a : Act) → act m b r ≡ a → own m b [] ≡ a → own m b (take (upto m' r n) r) ≡ a
      unfolding upto
      either_way m m' b [] n a e l = l
      either_way m m' b (c ∷ r) zero a e l = l
      either_way m m' b (c ∷ r) (suc n) a e l = go (act m' c r)
        where
          go : (t : Act) → own m b (take (upto_by t n (λ n m. upto m r n)) (c ∷ r)) ≡ a
          go (pass m'') = look.same_head m b c r (take (upto m'' r (suc n)) r) ∙ e
          go (keep x m'') = look.same_head m b c r (take (upto m'' r n) r) ∙ e
          go (turn x m'') = look.same_head m b c r (take (upto m'' r n) r) ∙ e

      same_way : (m m' : Mode) (b : ℕ) (r : List ℕ) (n : ℕ) → suc n ≤ length (spell act m' r) → own m b (take (upto m' r (suc n)) r) ≡ act m b r
      unfolding upto spell
      same_way m m' b [] n h = absurd (omega arith)
      same_way m m' b (c ∷ r) n h = go (act m' c r)
        where
          go : (t : Act) → own m b (take (upto_by t n (λ n m. upto m r n)) (c ∷ r)) ≡ act m b (c ∷ r)
          go (pass m'') = look.same_head m b c r (take (upto m'' r (suc n)) r)
          go (keep x m'') = look.same_head m b c r (take (upto m'' r n) r)
          go (turn x m'') = look.same_head m b c r (take (upto m'' r n) r)

      pub steady_ahead : Steady
      steady_ahead m b r n = go (act m b r) refl
        where
          go : (a : Act) → act m b r ≡ a → Same m b r n a
          go (pass m') e = λ h. same_way m m' b r n h ∙ e
          go (keep x m') e = either_way m m' b r n (keep x m') e (look.last_keep m b r x m' e)
          go (turn x m') e = either_way m m' b r n (turn x m') e (look.last_turn m b r x m' e)
