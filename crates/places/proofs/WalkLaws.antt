-- Where a walk along the source stands: one byte more, a run of bytes more, the note on its way, and the part that both tell.
use mathlib.Core.Path.{◌≡◌, ◌∙◌, refl, sym, ap, subst}
use mathlib.Core.Bool.{Bool, true, false}
use mathlib.Core.List.{List, [], ◌∷◌}
use Prim.Native.Nat.{ℕ, zero, suc, ◌+◌, ◌-◌, ◌≤◌, ◌<◌}
use native.Mathlib.Numerals.{add-one}
use native.Mathlib.Omega.{arith}
use lib.ListN.{length, take, drop, get_or, length-drop, drop_of_length-le}
use lib.Seq.{take_all, get_or-take, get_or-drop, length-take-le}
use lib.Dec.{eqb, ltb, leb}
use borrow.Author.Tests.{ne_eqb, eqb-true, eqb-false, lt-ltb, le-ltb, leb-true, leb-false, ltb-true}
use Rattle.ascii.specs.Choice.{pick}
use Rattle.ascii.specs.Classes.{white}
use Rattle.ascii.specs.Trim.{leading}
use Rattle.ascii.specs.Splits.{first_of as sought}
use Rattle.ascii.proofs.ListLaws.{next_byte}
use Rattle.ascii.proofs.SplitLaws.{first_fits}
use Rattle.lent.specs.Sources.{part}
use Rattle.places.specs.Cells.{Cell, cell, first_of, past_of}
use Rattle.places.specs.Scans.{Mode, plain, margin, Act, pass, keep, turn, scan_by, scan}
use Rattle.places.specs.Tables.{Rule, Joined, Word, Quoted, joining, wording, quoting_by, act}
use Rattle.places.specs.Sites.{cells_of, behind, site_in}
use Rattle.places.specs.Moves.{Site}
use Rattle.places.specs.Steps.{Step, Pass, Keep, Turn, Stand, step_of, begun, Stands, Paid, Plain, Onward, CameFrom, Moved, Reached, Sites, wanted, Begins, Blank, skip_by}

-- ---- a list of cells at a place

past_at_lem : (d n : ℕ) (cs : List Cell) (c : Cell) (t : List Cell) → drop n cs ≡ c ∷ t → past_of d (take (suc n) cs) ≡ c.past
unfolding past_of
past_at_lem d zero [] c t e = absurd (let l = ap length e in omega arith)
past_at_lem d zero (x ∷ cs) c t e = ap (past_of d) (ap (take 1) e)
past_at_lem d (suc n) [] c t e = absurd (let l = ap length e in omega arith)
past_at_lem d (suc n) (x ∷ cs) c t e = past_at_lem x.past n cs c t e

rest_at : (n : ℕ) (cs : List Cell) (c : Cell) (t : List Cell) → drop n cs ≡ c ∷ t → drop (suc n) cs ≡ t
rest_at zero [] c t e = absurd (let l = ap length e in omega arith)
rest_at zero (x ∷ cs) c t e = ap (drop 1) e
rest_at (suc n) [] c t e = absurd (let l = ap length e in omega arith)
rest_at (suc n) (x ∷ cs) c t e = rest_at n cs c t e

-- ---- one byte

-- what the code makes of a step
abbrev pub next_by : Step → Stand → Stand
next_by (Pass m) w = record { count = w.count; place = w.place + 1; mode = m; first = w.first; last = w.last }
next_by (Keep m) w = record { count = w.count + 1; place = w.place + 1; mode = m; first = w.place; last = w.place + 1 }
next_by (Turn m) w = record { count = w.count + 1; place = w.place + 1; mode = m; first = w.place - 1; last = w.place + 1 }

-- and of a run of plain bytes
abbrev pub jump_by : ℕ → Stand → Stand
jump_by n w = record { count = w.count + n; place = w.place + n; mode = plain; first = w.place + n - 1; last = w.place + n }

-- in the plain mode any byte but a backslash stands for itself, by every rule
pub plain_keeps : (rule : Rule) (b : ℕ) (t : List ℕ) → (b ≡ 92 → ⊥) → act rule plain b t ≡ keep b plain
unfolding joining wording quoting_by
plain_keeps Joined b t n = rw (ne_eqb b 92 n)
plain_keeps Word b t n = rw (ne_eqb b 92 n)
plain_keeps Quoted b t n = rw (ne_eqb b 92 n)

-- and in a margin any that is no white byte either
black : (b w : ℕ) → white b ≡ false → white w ≡ true → eqb b w ≡ false
black b w e f = go (eqb b w) refl
  where
    go : (t : Bool) → eqb b w ≡ t → t ≡ false
    go true g = sym (subst (λ (x : ℕ). white x ≡ true) (sym (eqb-true b w g)) f) ∙ e
    go false g = refl

pub margin_keeps : (rule : Rule) (b : ℕ) (t : List ℕ) → white b ≡ false → (b ≡ 92 → ⊥) → act rule margin b t ≡ keep b plain
unfolding joining wording quoting_by white
margin_keeps Joined b t w n = rw (black b 10 w refl, w, ne_eqb b 92 n)
margin_keeps Word b t w n = rw (ne_eqb b 92 n)
margin_keeps Quoted b t w n = rw (black b 32 w refl, black b 9 w refl, ne_eqb b 92 n)

module _ (rule : Rule) (s : List ℕ) (k : ℕ) where
  abbrev cells : List Cell
  cells = cells_of rule k (drop k s)

  pub begun_stands : Stands rule s k (begun k)
  unfolding past_of
  begun_stands = record { inside = omega arith; rest = refl; ends = refl; starts = λ d p. absurd (omega arith) }

  module _ (w : Stand) (x : Stands rule s k w) (h : w.place < length s) where
    abbrev byte : ℕ
    byte = get_or s w.place 0

    abbrev rest : List ℕ
    rest = drop (w.place + 1) s

    opened : (a : Act) → act rule w.mode byte rest ≡ a → drop w.count cells ≡ scan_by a w.place (λ m. scan (act rule) m (suc w.place) rest)
    unfolding scan
    opened a e =
        sym x.rest ∙ ap (scan (act rule) w.mode w.place) (next_byte s w.place h)
        ∙ ap (λ (a : Act). scan_by a w.place (λ m. scan (act rule) m (suc w.place) rest)) e

    pub passed : (m : Mode) (w' : Stand) → act rule w.mode byte rest ≡ pass m
        → w'.count ≡ w.count → w'.place ≡ suc w.place → w'.mode ≡ m → w'.first ≡ w.first → w'.last ≡ w.last → Stands rule s k w'
    passed m w' e n p o f l =
        let q : rest ≡ drop (suc w.place) s = rw (add-one w.place) in
        record {
          inside = omega (arith, x.inside, n);
          rest = rw (n, p, o) (ap (scan (act rule) m (suc w.place)) (sym q) ∙ sym (opened (pass m) e));
          ends = l ∙ x.ends ∙ ap (behind k cells) (sym n);
          starts = λ d z. rw (n, f) (x.starts d (omega (arith, z, n)));
        }

    -- a byte that gives the cell c
    gave : (c : Cell) (m : Mode) (w' : Stand) → drop w.count cells ≡ c ∷ scan (act rule) m (suc w.place) rest
        → w'.count ≡ suc w.count → w'.place ≡ suc w.place → w'.mode ≡ m → w'.first ≡ c.first → w'.last ≡ c.past → Stands rule s k w'
    unfolding first_of
    gave c m w' e n p o f l =
        let t = scan (act rule) m (suc w.place) rest in
        let long = ap length e in
        let some : w.count < length cells = omega (arith, long, length-drop w.count cells) in
        let q : rest ≡ drop (suc w.place) s = rw (add-one w.place) in
        record {
          inside = omega (arith, some, n);
          rest = rw (n, p, o) (ap (scan (act rule) m (suc w.place)) (sym q) ∙ sym (rest_at w.count cells c t e));
          ends = rw (n, l) (sym (past_at_lem k w.count cells c t e));
          starts = λ d z. let j : w'.count - 1 ≡ w.count = omega (arith, n) in rw (j, f) (ap (first_of d) e);
        }

    kept : (y : ℕ) (m : Mode) (w' : Stand) → act rule w.mode byte rest ≡ keep y m
        → w'.count ≡ suc w.count → w'.place ≡ suc w.place → w'.mode ≡ m → w'.first ≡ w.place → w'.last ≡ suc w.place → Stands rule s k w'
    kept y m w' e = gave (cell y w.place (suc w.place)) m w' (opened (keep y m) e)

    turned : (y : ℕ) (m : Mode) (w' : Stand) → act rule w.mode byte rest ≡ turn y m
        → w'.count ≡ suc w.count → w'.place ≡ suc w.place → w'.mode ≡ m → w'.first ≡ w.place - 1 → w'.last ≡ suc w.place → Stands rule s k w'
    turned y m w' e = gave (cell y (w.place - 1) (suc w.place)) m w' (opened (turn y m) e)

    next_stands : Stands rule s k (next_by (step_of (act rule w.mode byte rest)) w)
    next_stands = go (act rule w.mode byte rest) refl
      where
        go : (a : Act) → act rule w.mode byte rest ≡ a → Stands rule s k (next_by (step_of a) w)
        go (pass m) e = passed m (next_by (Pass m) w) e refl (omega arith) refl refl refl
        go (keep y m) e = kept y m (next_by (Keep m) w) e (omega arith) (omega arith) refl refl (omega arith)
        go (turn y m) e = turned y m (next_by (Turn m) w) e (omega arith) (omega arith) refl refl (omega arith)

  -- a run of bytes that are no backslash, of which the first stands for itself
  jump_stands : (w : Stand) → Stands rule s k w → Begins w.mode (get_or s w.place 0) true → (n : ℕ) → w.place + suc n ≤ length s
      → ((i : ℕ) → i < suc n → get_or s (w.place + i) 0 ≡ 92 → ⊥) → Stands rule s k (jump_by (suc n) w)
  jump_stands w x g zero h z =
      let e : w.place + 0 ≡ w.place = omega arith in
      let b : get_or s w.place 0 ≡ 92 → ⊥ = subst (λ (i : ℕ). get_or s i 0 ≡ 92 → ⊥) e (z 0 (omega arith)) in
      kept w x (omega arith) (get_or s w.place 0) plain (jump_by 1 w) (g refl rule _ b)
      (omega arith) (omega arith) refl (omega arith) (omega arith)
  jump_stands w x g (suc n) h z =
      let v = jump_by (suc n) w in
      let y : Stands rule s k v = jump_stands w x g n (omega arith) (λ i j. z i (omega arith)) in
      kept v y (omega arith) (get_or s (w.place + suc n) 0) plain (jump_by (suc (suc n)) w) (plain_keeps rule _ _ (z (suc n) (omega arith)))
      (omega arith) (omega arith) refl (omega arith) (omega arith)

  pub skip_stands : (w : Stand) → Stands rule s k w → w.mode ≡ margin → (n : ℕ) → w.place + n ≤ length s
      → ((i : ℕ) → i < n → (t : List ℕ) → act rule margin (get_or s (w.place + i) 0) t ≡ pass margin) → Stands rule s k (skip_by n w)
  skip_stands w x o zero h z =
      let e : w.place + 0 ≡ w.place = omega arith in
      record { inside = x.inside; rest = rw e (rw (sym o) x.rest); ends = x.ends; starts = x.starts }
  skip_stands w x o (suc n) h z =
      let v = skip_by n w in
      let y : Stands rule s k v = skip_stands w x o n (omega arith) (λ i j. z i (omega arith)) in
      passed v y (omega arith) margin (skip_by (suc n) w) (z n (omega arith) _) refl (omega arith) refl refl refl

  -- ---- a part

  module _ (w : Stand) (x : Stands rule s k w) where
    exhausted : length s ≤ w.place → length cells ≤ w.count
    unfolding scan
    exhausted h =
        let e : [] ≡ drop w.count cells = sym (rw (drop_of_length-le s h)) ∙ x.rest in
        let l = ap length e in
        omega (arith, l, length-drop w.count cells)

    behind_is : (past : ℕ) → w.count ≤ past → (w.count < past → length s ≤ w.place) → behind k cells past ≡ w.last
    behind_is past h e = go (leb past w.count) refl
      where
        go : (t : Bool) → leb past w.count ≡ t → behind k cells past ≡ w.last
        go true f = let g = leb-true past w.count f in let q : past ≡ w.count = omega arith in rw q (sym x.ends)
        go false f =
            let g = leb-false past w.count f in
            let l = exhausted (e g) in
            let p : take past cells ≡ take w.count cells = take_all past cells (omega arith) ∙ sym (take_all w.count cells l) in
            ap (past_of k) p ∙ sym x.ends

  module _ (first past : ℕ) (z : Stand) (y : Stands rule s k z) (few : z.count ≤ past) (ended : z.count < past → length s ≤ z.place) where
    pub site_full : (f : ℕ) → first < past → CameFrom rule s k (first + 1) f → Site s k rule first past (part f z.last)
    unfolding site_in
    site_full f h g =
        let i : first + 1 - 1 ≡ first = omega arith in
        let b = behind_is z y past few ended in
        let e : first_of (behind k cells past) (drop first cells) ≡ f = ap (λ (n : ℕ). first_of (behind k cells past) (drop n cells)) (sym i) ∙ g (behind k cells past) in
        sym (rw (lt-ltb first past h, e, b))

    pub site_none : first < past → z.count ≤ first → Site s k rule first past (part z.last z.last)
    unfolding site_in first_of
    site_none h e =
        let l = exhausted z y (ended (omega arith)) in
        let b = behind_is z y past few ended in
        sym (rw (lt-ltb first past h, drop_of_length-le cells {i = first} (omega arith), b))

    pub site_empty : past ≤ first → Site s k rule first past (part z.last z.last)
    unfolding site_in
    site_empty h = sym (rw (le-ltb first past h, behind_is z y past few ended))

-- ---- what the code's functions promise

module _ (rule : Rule) (s : List ℕ) (w : Stand) (h : w.place < length s) (p : Paid w) where
  -- what follows the byte, as the code cuts it
  rest_is : take (length s - (w.place + 1)) (drop (w.place + 1) s) ≡ drop (w.place + 1) s
  rest_is = take_all _ _ (omega (arith, length-drop (w.place + 1) s))

  pub onward_as : {a : Step} (b : Step) → a ≡ step_of (act rule w.mode (get_or s w.place 0) (take (length s - (w.place + 1)) (drop (w.place + 1) s))) → a ≡ b
      → Onward rule s w (next_by b w)
  onward_as b e f = go b (λ k x. subst (λ (a : Step). Stands rule s k (next_by a w)) (sym (rw rest_is at e) ∙ f) (next_stands rule s k w x h))
    where
      go : (b : Step) → ((k : ℕ) → Stands rule s k w → Stands rule s k (next_by b w)) → Onward rule s w (next_by b w)
      go (Pass m) g = record { stands = g; paid = omega arith; onward = omega arith; few = omega arith }
      go (Keep m) g = record { stands = g; paid = omega arith; onward = omega arith; few = omega arith }
      go (Turn m) g = record { stands = g; paid = omega arith; onward = omega arith; few = omega arith }

  pub moved_one : {n : ℕ} {r : Stand} → w.count < n → Onward rule s w r → Moved rule s w n r
  moved_one {r = r} l x = record {
    stands = x.stands;
    paid = x.paid;
    onward = x.onward;
    few = omega (arith, x.few, l);
    low = omega (arith, x.few);
    each = λ k y j a b d.
        let e : j ≡ r.count = omega (arith, a, b, x.few) in
        let f : r.first - (r.count - j) ≡ r.first = omega arith in
        rw e ((x.stands k y).starts d (omega arith)) ∙ sym f;
  }

  -- of a run each byte came from its own place
  run_each : (k : ℕ) → Stands rule s k w → Begins w.mode (get_or s w.place 0) true → (i m : ℕ) → i ≤ m → w.place + suc m ≤ length s
      → ((i : ℕ) → i < suc m → get_or s (w.place + i) 0 ≡ 92 → ⊥) → CameFrom rule s k (w.count + suc i) (w.place + suc m - 1 - (w.count + suc m - (w.count + suc i)))
  run_each k y g i m l h z d =
      let e : w.place + suc i - 1 ≡ w.place + suc m - 1 - (w.count + suc m - (w.count + suc i)) = omega arith in
      (jump_stands rule s k w y g i (omega arith) (λ t u. z t (omega arith))).starts d (omega arith) ∙ e

  pub moved_run : (n run : ℕ) → w.count < n → Begins w.mode (get_or s w.place 0) true → Plain s w.place (n - w.count) run → 0 < run → Moved rule s w n (jump_by run w)
  moved_run n zero l g x z = absurd (omega arith)
  moved_run n (suc m) l g x z = record {
    stands = λ k y. jump_stands rule s k w y g m x.inside x.none;
    paid = omega arith;
    onward = omega arith;
    few = omega (arith, x.few, l);
    low = omega arith;
    each = λ k y j a b.
        let i = j - w.count - 1 in
        let e : w.count + suc i ≡ j = omega (arith, a) in
        subst (λ (j : ℕ). CameFrom rule s k j (w.place + suc m - 1 - (w.count + suc m - j))) e (run_each k y g i m (omega (arith, b, e)) x.inside x.none);
  }

  pub moved_blank : (n run : ℕ) → w.count < n → Blank rule s w.mode w.place run → 0 < run → Moved rule s w n (skip_by run w)
  moved_blank n run l x z = record {
    stands = λ k y. x.skips z k w refl refl y;
    paid = omega arith;
    onward = omega arith;
    few = omega (arith, l);
    low = omega arith;
    each = λ k y j a b d. absurd (omega (arith, a, b));
  }

-- the bytes before the first one sought are others
before_first : (m : ℕ) (l : List ℕ) (i : ℕ) → i < sought m l → get_or l i 0 ≡ m → ⊥
unfolding leading
before_first m [] i h e = omega arith
before_first m (b ∷ l) i h e = go (eqb b m) refl (before_first m l) i h e
  where
    go : (t : Bool) → eqb b m ≡ t → ((i : ℕ) → i < sought m l → get_or l i 0 ≡ m → ⊥) → (i : ℕ) → i < pick (pick t false true) (1 + sought m l) 0 → get_or (b ∷ l) i 0 ≡ m → ⊥
    go true f ih i h e = omega arith
    go false f ih zero h e = eqb-false b m f e
    go false f ih (suc i) h e = ih i (omega arith) e

pub run_plain : (s : List ℕ) (place most n r : ℕ) → place + n ≤ length s → n ≤ most → r ≡ sought 92 (take n (drop place s)) → Plain s place most r
run_plain s place most n r h k e =
    let l = take n (drop place s) in
    let f : r ≤ n = omega (arith, e, first_fits 92 l, length-take-le n (drop place s) (omega (arith, length-drop place s))) in
    record {
      few = omega arith;
      inside = omega arith;
      none = λ i j g. before_first 92 l i (omega (arith, e, j)) (get_or-take n (drop place s) i 0 (omega arith) ∙ get_or-drop place s i 0 ∙ g);
    }

-- what a walk to n bytes keeps
pub record Reaching (rule : Rule) (s : List ℕ) (w : Stand) (stop n noted : ℕ) (r : Stand) : Type 0 where
  pub stands : (k : ℕ) → Stands rule s k w → Stands rule s k r
  pub paid : Paid r
  pub few : r.count ≤ n
  pub note : (k : ℕ) → Stands rule s k w → 0 < stop → stop ≤ r.count → CameFrom rule s k stop noted

-- and goes on keeping
pub reaching_on : {rule : Rule} {s : List ℕ} {w : Stand} {stop n noted : ℕ} {at r : Stand} → Reaching rule s w stop n noted at → Moved rule s at n r
    → Reaching rule s w stop n (pick (leb stop at.count) noted (pick (ltb r.count stop) noted (r.first - (r.count - stop)))) r
reaching_on {rule} {s} {w} {stop} {n} {noted} {at} {r} x y = record {
  stands = λ k z. y.stands k (x.stands k z);
  paid = y.paid;
  few = y.few;
  note = λ k z o l. go (leb stop at.count) refl (ltb r.count stop) refl k z o l;
}
  where
    go : (t : Bool) → leb stop at.count ≡ t → (u : Bool) → ltb r.count stop ≡ u → (k : ℕ) → Stands rule s k w → 0 < stop → stop ≤ r.count
        → CameFrom rule s k stop (pick t noted (pick u noted (r.first - (r.count - stop))))
    go true e u f k z o l = x.note k z o (leb-true stop at.count e)
    go false e true f k z o l = absurd (omega (arith, l, ltb-true r.count stop f))
    go false e false f k z o l = y.each k (x.stands k z) stop (leb-false stop at.count e) l

-- a walk at the start
pub start_stands : (rule : Rule) (s : List ℕ) (k : ℕ) {w : Stand} → w ≡ begun k → Stands rule s k w × Paid w
start_stands rule s k e = rw e (begun_stands rule s k, omega arith)

-- a walk from `from` up to the part's last byte, with a note of its first
module _ {rule : Rule} {s : List ℕ} {k : ℕ} (first past : ℕ) {stop : ℕ} {from r : Stand} {noted : ℕ} (o : Stands rule s k from) (w : stop ≡ wanted first past)
    (x : Reached rule s from stop past r noted) where
  abbrev stands : Stands rule s k r
  stands = x.stands k o

  pub sites_full : first < past → first < r.count → Sites s k rule first past r (part noted r.last)
  sites_full h e =
      let f : stop ≡ first + 1 = w ∙ rw (lt-ltb first past h) in
      let g : CameFrom rule s k (first + 1) noted = subst (λ (j : ℕ). CameFrom rule s k j noted) f (x.note k o (omega (arith, f)) (omega (arith, f, e))) in
      record { site = site_full rule s k first past r stands x.few x.ended noted h g; stands = stands; paid = x.paid }

  pub sites_none : first < past → r.count ≤ first → Sites s k rule first past r (part r.last r.last)
  sites_none h e = record { site = site_none rule s k first past r stands x.few x.ended h e; stands = stands; paid = x.paid }

  pub sites_empty : past ≤ first → Sites s k rule first past r (part r.last r.last)
  sites_empty h = record { site = site_empty rule s k first past r stands x.few x.ended h; stands = stands; paid = x.paid }
