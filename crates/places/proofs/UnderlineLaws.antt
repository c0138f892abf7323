-- The underlined bytes, read by themselves, are the part that they are underlined for.
use mathlib.Core.Path.{◌≡◌, ◌∙◌, refl, sym, ap, subst}
use mathlib.Core.Logic.{◌⊎◌, inl, inr}
use mathlib.Core.Bool.{Bool, true, false}
use mathlib.Core.List.{List, [], ◌∷◌, ◌++◌}
use Prim.Native.Nat.{ℕ, zero, suc, ◌+◌, ◌-◌, ◌≤◌, ◌<◌}
use native.Mathlib.Omega.{arith}
use lib.ListN.{length, take, drop, length-drop}
use lib.Seq.{take-add}
use lib.Dec.{eqb}
use borrow.Author.Tests.{eqb-true, lt-ltb}
use Rattle.ascii.specs.Choice.{pick, or}
use Rattle.lent.specs.Sources.{Part}
use Rattle.places.specs.Cells.{Cell, bytes_of, past_of}
use Rattle.places.specs.Scans.{Mode, plain, escaped, stayed, after_cr, margin, Act, pass, keep, turn, spell_by, scan, spell}
use Rattle.places.specs.Tables.{Rule, Joined, Word, Quoted, stays_next, plain_quote, margin_quote, quoting_by, act, alone}
use Rattle.places.specs.Sites.{cells_of, text_of, read_alone, behind, site_in, site_of}
use Rattle.places.proofs.SiteLaws.{bytes_scan, cells_length, Loose, Tight, tight, site_bounds}
use Rattle.places.proofs.SourceLaws.{from, upto, from_cells, from_first, upto_past, upto_is}
use Rattle.places.proofs.AgainLaws.{Prior, prior_first, again, steady, quote_head}

-- ---- lists of cells

bytes_drop : (n : ℕ) (cs : List Cell) → bytes_of (drop n cs) ≡ drop n (bytes_of cs)
unfolding bytes_of
bytes_drop zero cs = refl
bytes_drop (suc n) [] = refl
bytes_drop (suc n) (c ∷ cs) = bytes_drop n cs

past_append : (d : ℕ) (cs bs : List Cell) → past_of d (cs ++ bs) ≡ past_of (past_of d cs) bs
unfolding past_of
past_append d [] bs = refl
past_append d (c ∷ cs) bs = past_append c.past cs bs

-- a turn is by an escape
turn_loose : (rule : Rule) (m : Mode) (b : ℕ) (r : List ℕ) (x : ℕ) (m' : Mode) → act rule m b r ≡ turn x m' → Loose m
turn_loose rule m b r x m' e = (subst (Tight m) e (tight false rule m b r)).0

-- ---- the theorem

module _ (rule : Rule) (k : ℕ) (r : List ℕ) (x : Part) (some : x.first < x.past) (inside : x.past ≤ length (text_of rule r)) where
  abbrev cells : List Cell
  cells = cells_of rule k r

  abbrev site : Part
  site = site_of rule k r x

  -- how many bytes stand before it, with one before the source
  abbrev before : ℕ
  before = from (act rule) plain r x.first

  long : length cells ≡ length (text_of rule r)
  long = cells_length rule k r

  first_is : site.first + 1 ≡ k + before
  unfolding site_in
  first_is =
      rw (lt-ltb x.first x.past some)
      (from_first (act rule) Loose (turn_loose rule) (behind k cells x.past) plain k r x.first (λ z. absurd z) (omega (arith, long, some, inside)))

  -- the source from there on
  abbrev rest : List ℕ
  rest = drop (site.first - k) r

  rest_is : drop before (0 ∷ r) ≡ rest
  rest_is =
      let e : before ≡ suc (site.first - k) = omega (arith, first_is, (site_bounds rule k r x).low) in
      rw e

  rest_cells : scan (act rule) plain site.first rest ≡ drop x.first cells
  rest_cells =
      ap (scan (act rule) plain site.first) (sym rest_is)
      ∙ from_cells (act rule) (Prior rule) (again rule) plain 0 k r x.first site.first (prior_first rule 0 r) (omega (arith, first_is))

  rest_text : spell (act rule) plain rest ≡ drop x.first (text_of rule r)
  rest_text =
      sym (bytes_scan (act rule) plain site.first rest) ∙ ap bytes_of rest_cells ∙ bytes_drop x.first cells
      ∙ ap (drop x.first) (bytes_scan (act rule) plain k r)

  -- and so many bytes of it
  abbrev count : ℕ
  count = x.past - x.first

  enough : count ≤ length (spell (act rule) plain rest)
  enough = omega (arith, ap length rest_text, length-drop x.first (text_of rule r), inside)

  past_is : site.past ≡ site.first + upto (act rule) plain rest count
  unfolding site_in
  past_is = go count refl
    where
      go : (n : ℕ) → count ≡ n → behind k cells x.past ≡ site.first + upto (act rule) plain rest n
      go zero e = absurd (omega (arith, e, some))
      go (suc n) e =
          let s : x.past ≡ x.first + suc n = omega (arith, e, some) in
          let l : suc n ≤ length (scan (act rule) plain site.first rest) = omega (arith, ap length rest_cells, length-drop x.first cells, long, inside, s) in
          ap (λ (p : ℕ). past_of k (take p cells)) s
          ∙ ap (past_of k) (take-add x.first (suc n) cells)
          ∙ past_append k (take x.first cells) (take (suc n) (drop x.first cells))
          ∙ ap (λ (cs : List Cell). past_of (past_of k (take x.first cells)) (take (suc n) cs)) (sym rest_cells)
          ∙ upto_past (act rule) (past_of k (take x.first cells)) plain site.first rest n l

  -- The underlined bytes read alone are the part.
  pub underlined_reads : read_alone rule (take (site.past - site.first) (drop (site.first - k) r)) ≡ take (x.past - x.first) (drop x.first (text_of rule r))
  underlined_reads =
      let e : site.past - site.first ≡ upto (act rule) plain rest count = omega (arith, past_is) in
      ap (λ (n : ℕ). spell (alone rule) plain (take n rest)) e
      ∙ upto_is (act rule) (alone rule) (steady rule) plain rest count enough
      ∙ ap (take count) rest_text

-- ---- the reading alone differs in a backslash at the end alone

-- a text that ends in a backslash, which the first reading leaves out
pub record Dangling (u lexed own : List ℕ) : Type 0 where
  pub begun : List ℕ
  pub last : u ≡ begun ++ (92 ∷ [])
  pub more : own ≡ lexed ++ (92 ∷ [])

abbrev pub Near : List ℕ → List ℕ → List ℕ → Type 0
Near u own lexed = (own ≡ lexed) ⊎ Dangling u lexed own

near_on : (b : ℕ) (u own lexed : List ℕ) → Near u own lexed → Near (b ∷ u) own lexed
near_on b u own lexed (inl e) = inl e
near_on b u own lexed (inr d) = inr (record { begun = b ∷ d.begun; last = ap (λ (l : List ℕ). b ∷ l) d.last; more = d.more })

near_more : (x : ℕ) (u own lexed : List ℕ) → Near u own lexed → Near u (x ∷ own) (x ∷ lexed)
near_more x u own lexed (inl e) = inl (ap (λ (l : List ℕ). x ∷ l) e)
near_more x u own lexed (inr d) = inr (record { begun = d.begun; last = d.last; more = ap (λ (l : List ℕ). x ∷ l) d.more })

abbrev ended : Act → List ℕ
ended a = spell_by a (λ (m : Mode). [])

module _ (b : ℕ) where
  near_plain : Near (b ∷ []) (ended (plain_quote true b [])) (ended (plain_quote false b []))
  unfolding stays_next
  near_plain = go (eqb b 92) refl
    where
      go : (t : Bool) → eqb b 92 ≡ t → Near (b ∷ []) (ended (pick t (keep 92 stayed) (keep b plain))) (ended (pick t (pass escaped) (keep b plain)))
      go true e = inr (record { begun = []; last = ap (λ (x : ℕ). x ∷ []) (eqb-true b 92 e); more = refl })
      go false e = inl refl

  near_skip : (t : Bool) (m : Mode) (a l : Act) → Near (b ∷ []) (ended a) (ended l) → Near (b ∷ []) (ended (pick t (pass m) a)) (ended (pick t (pass m) l))
  near_skip true m a l h = inl refl
  near_skip false m a l h = h

  near_margin : Near (b ∷ []) (ended (margin_quote true b [])) (ended (margin_quote false b []))
  near_margin = near_skip (or (eqb b 32) (eqb b 9)) margin (plain_quote true b []) (plain_quote false b []) near_plain

  near_last : (m : Mode) → Near (b ∷ []) (ended (quoting_by true m b [])) (ended (quoting_by false m b []))
  unfolding quoting_by
  near_last plain = near_plain
  near_last escaped = inl refl
  near_last stayed = inl refl
  near_last after_cr = near_skip (eqb b 10) margin (margin_quote true b []) (margin_quote false b []) near_margin
  near_last margin = near_margin

near_quoted : (m : Mode) (u : List ℕ) → Near u (spell (quoting_by true) m u) (spell (quoting_by false) m u)
unfolding spell
near_quoted m [] = inl refl
near_quoted m (b ∷ []) = near_last b m
near_quoted m (b ∷ x ∷ r) =
    subst (λ (a : Act). Near (b ∷ x ∷ r) (spell_by a (λ m. spell (quoting_by true) m (x ∷ r))) (spell_by (quoting_by false m b (x ∷ r)) (λ m. spell (quoting_by false) m (x ∷ r))))
    (sym (quote_head m b x r r)) (go (quoting_by false m b (x ∷ r)) (λ m. near_quoted m (x ∷ r)))
  where
    go : (a : Act) → ((m : Mode) → Near (x ∷ r) (spell (quoting_by true) m (x ∷ r)) (spell (quoting_by false) m (x ∷ r)))
        → Near (b ∷ x ∷ r) (spell_by a (λ m. spell (quoting_by true) m (x ∷ r))) (spell_by a (λ m. spell (quoting_by false) m (x ∷ r)))
    go (pass m) ih = near_on b (x ∷ r) (spell (quoting_by true) m (x ∷ r)) (spell (quoting_by false) m (x ∷ r)) (ih m)
    go (keep y m) ih = near_more y (b ∷ x ∷ r) (spell (quoting_by true) m (x ∷ r)) (spell (quoting_by false) m (x ∷ r)) (near_on b (x ∷ r) (spell (quoting_by true) m (x ∷ r)) (spell (quoting_by false) m (x ∷ r)) (ih m))
    go (turn y m) ih = near_more y (b ∷ x ∷ r) (spell (quoting_by true) m (x ∷ r)) (spell (quoting_by false) m (x ∷ r)) (near_on b (x ∷ r) (spell (quoting_by true) m (x ∷ r)) (spell (quoting_by false) m (x ∷ r)) (ih m))

-- Read alone and read as in its place: the same, or only the first has the backslash that the bytes end in.
pub alone_reads : (rule : Rule) (u : List ℕ) → Near u (read_alone rule u) (text_of rule u)
alone_reads Joined u = inl refl
alone_reads Word u = inl refl
alone_reads Quoted u = near_quoted plain u
