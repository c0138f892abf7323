-- By every rule a text may be taken up again at a byte that gives one, and a part by itself is read as it was in its place.
use mathlib.Core.Path.{◌≡◌, ◌∙◌, refl, sym, subst}
use mathlib.Core.Bool.{Bool, true, false, false≢true}
use mathlib.Core.List.{List, [], ◌∷◌}
use Prim.Native.Nat.{ℕ, zero, suc}
use native.Mathlib.Omega.{arith}
use lib.ListN.{take}
use lib.Dec.{eqb}
use borrow.Author.Tests.{eqb-true}
use Rattle.ascii.specs.Choice.{pick, and, or}
use Rattle.lexer.specs.Rules.{feed_next, line_end, unescaped}
use Rattle.places.specs.Scans.{Mode, plain, escaped, stayed, after_cr, margin, Act, pass, keep, turn}
use Rattle.places.specs.Tables.{Rule, Joined, Word, Quoted, skipped, line_next, plain_join, margin_join, joining, slash_in_word, plain_word, wording, head_of, stays, stays_next, slash_in_quotes, plain_quote, margin_quote, quoting_by, act, alone}
use Rattle.places.proofs.TokenLaws.{none_taken}
use Rattle.places.proofs.SourceLaws.{Again, upto, Same, Steady, Ahead, steady_ahead}

-- ---- what is known behind the byte h and before r

abbrev QuotedPrior : Mode → ℕ → List ℕ → Type 0
QuotedPrior plain h r = Unit {0}
QuotedPrior escaped h r = (h ≡ 92) × (stays_next false r ≡ false)
QuotedPrior stayed h r = stays_next false r ≡ true
QuotedPrior after_cr h r = Unit {0}
QuotedPrior margin h r = Unit {0}

abbrev pub Prior : Rule → Mode → ℕ → List ℕ → Type 0
Prior Joined m h r = Unit {0}
Prior Word m h r = Unit {0}
Prior Quoted m h r = QuotedPrior m h r

pub prior_first : (rule : Rule) (h : ℕ) (r : List ℕ) → Prior rule plain h r
prior_first Joined h r = tt
prior_first Word h r = tt
prior_first Quoted h r = tt

-- ---- line continuations taken out

module _ (h : ℕ) (m : Mode) (b : ℕ) (r : List ℕ) where
  join_plain : Again (act Joined) (Prior Joined) h m b r (plain_join b r)
  unfolding joining
  join_plain = go (and (eqb b 92) (line_next r)) refl
    where
      go : (t : Bool) → and (eqb b 92) (line_next r) ≡ t → Again (act Joined) (Prior Joined) h m b r (pick t (pass escaped) (keep b plain))
      go true e = tt
      go false e = (rw e, tt)

  join_margin : Again (act Joined) (Prior Joined) h m b r (margin_join b r)
  join_margin = go (skipped b)
    where
      go : (t : Bool) → Again (act Joined) (Prior Joined) h m b r (pick t (pass margin) (plain_join b r))
      go true = tt
      go false = join_plain

join_again : (m : Mode) (h b : ℕ) (r : List ℕ) → Again (act Joined) (Prior Joined) h m b r (joining m b r)
unfolding joining
join_again plain h b r = join_plain h plain b r
join_again escaped h b r = go (eqb b 10)
  where
    go : (t : Bool) → Again (act Joined) (Prior Joined) h escaped b r (pick t (pass margin) (pass after_cr))
    go true = tt
    go false = tt
join_again stayed h b r = join_plain h stayed b r
join_again after_cr h b r = go (eqb b 10)
  where
    go : (t : Bool) → Again (act Joined) (Prior Joined) h after_cr b r (pick t (pass margin) (margin_join b r))
    go true = tt
    go false = join_margin h after_cr b r
join_again margin h b r = join_margin h margin b r

-- ---- a word

word_plain : (h : ℕ) (m : Mode) (b : ℕ) (r : List ℕ) → Again (act Word) (Prior Word) h m b r (plain_word b r)
unfolding wording
word_plain h m b r = go (eqb b 92) refl
  where
    slash : eqb b 92 ≡ true → (l : ℕ) → line_end r ≡ l → Again (act Word) (Prior Word) h m b r (slash_in_word l)
    slash e zero f = (rw (e, f), tt)
    slash e (suc zero) f = tt
    slash e (suc (suc l)) f = tt

    go : (t : Bool) → eqb b 92 ≡ t → Again (act Word) (Prior Word) h m b r (pick t (slash_in_word (line_end r)) (keep b plain))
    go true e = slash e (line_end r) refl
    go false e = (rw e, tt)

word_again : (m : Mode) (h b : ℕ) (r : List ℕ) → Again (act Word) (Prior Word) h m b r (wording m b r)
unfolding wording
word_again plain h b r = word_plain h plain b r
word_again escaped h b r = tt
word_again stayed h b r = word_plain h stayed b r
word_again after_cr h b r = tt
word_again margin h b r = word_plain h margin b r

-- ---- a quoted text

module _ (h : ℕ) (m : Mode) (b : ℕ) (r : List ℕ) where
  quote_plain : Again (act Quoted) (Prior Quoted) h m b r (plain_quote false b r)
  unfolding quoting_by
  quote_plain = go (eqb b 92) refl (stays_next false r) refl
    where
      go : (t : Bool) → eqb b 92 ≡ t → (u : Bool) → stays_next false r ≡ u → Again (act Quoted) (Prior Quoted) h m b r (pick t (slash_in_quotes u) (keep b plain))
      go true e true f = (rw (e, f), f)
      go true e false f = (eqb-true b 92 e, f)
      go false e u f = (rw e, tt)

  quote_margin : Again (act Quoted) (Prior Quoted) h m b r (margin_quote false b r)
  quote_margin = go (or (eqb b 32) (eqb b 9))
    where
      go : (t : Bool) → Again (act Quoted) (Prior Quoted) h m b r (pick t (pass margin) (plain_quote false b r))
      go true = tt
      go false = quote_plain

-- an escape that keeps its backslash is none of a backslash
stays_plain : (b : ℕ) → stays b ≡ true → eqb b 92 ≡ false
unfolding stays unescaped
stays_plain b e = go (eqb b 92) refl
  where
    go : (t : Bool) → eqb b 92 ≡ t → t ≡ false
    go true f = absurd (false≢true (sym (rw (eqb-true b 92 f)) ∙ e))
    go false f = refl

quote_again : (m : Mode) (h b : ℕ) (r : List ℕ) → QuotedPrior m h (b ∷ r) → Again (act Quoted) (Prior Quoted) h m b r (quoting_by false m b r)
unfolding quoting_by stays_next
quote_again plain h b r p = quote_plain h plain b r
quote_again escaped h b r p = go (eqb b 10) (eqb b 13)
  where
    go : (t u : Bool) → Again (act Quoted) (Prior Quoted) h escaped b r (pick t (pass margin) (pick u (pass after_cr) (turn (head_of (unescaped b)) plain)))
    go true u = tt
    go false true = tt
    go false false = (rw (p.0, p.1), tt)
quote_again stayed h b r p = (rw (stays_plain b p), tt)
quote_again after_cr h b r p = go (eqb b 10)
  where
    go : (t : Bool) → Again (act Quoted) (Prior Quoted) h after_cr b r (pick t (pass margin) (margin_quote false b r))
    go true = tt
    go false = quote_margin h after_cr b r
quote_again margin h b r p = quote_margin h margin b r

pub again : (rule : Rule) (m : Mode) (h b : ℕ) (r : List ℕ) → Prior rule m h (b ∷ r) → Again (act rule) (Prior rule) h m b r (act rule m b r)
again Joined m h b r p = join_again m h b r
again Word m h b r p = word_again m h b r
again Quoted m h b r p = quote_again m h b r p

-- ---- a part by itself: what a table keeps, it keeps with nothing behind it

abbrev Last : (Mode → ℕ → List ℕ → Act) → Mode → ℕ → Act → Type 0
Last own m b (pass m') = Unit {0}
Last own m b (keep x m') = own m b [] ≡ keep x m'
Last own m b (turn x m') = own m b [] ≡ turn x m'

-- where a test makes the byte vanish
picked : (own : Mode → ℕ → List ℕ → Act) (m : Mode) (b : ℕ) (t : Bool) (m' : Mode) (a : Act) → (t ≡ false → Last own m b a) → Last own m b (pick t (pass m') a)
picked own m b true m' a f = tt
picked own m b false m' a f = f refl

-- so that a table that looks one byte ahead is read alone as in its place
lasts_ahead : (does own : Mode → ℕ → List ℕ → Act) → ((m : Mode) (b x : ℕ) (r r' : List ℕ) → own m b (x ∷ r') ≡ does m b (x ∷ r))
    → ((m : Mode) (b : ℕ) (r : List ℕ) → Last own m b (does m b r)) → Ahead does own
lasts_ahead does own heads lasts = record {
  same_head = heads;
  last_keep = λ m b r x m' e. subst (Last own m b) e (lasts m b r);
  last_turn = λ m b r x m' e. subst (Last own m b) e (lasts m b r);
}

module _ (m : Mode) (b : ℕ) (r : List ℕ) where
  none_ahead : (t u : Bool) → and t u ≡ false → and t false ≡ false
  none_ahead true u e = refl
  none_ahead false u e = refl

  join_last : joining m b [] ≡ plain_join b [] → Last joining m b (plain_join b r)
  unfolding line_next
  join_last same =
      picked joining m b (and (eqb b 92) (line_next r)) escaped (keep b plain) (λ e. same ∙ rw (none_ahead (eqb b 92) (line_next r) e))

  join_last_margin : joining m b [] ≡ margin_join b [] → Last joining m b (margin_join b r)
  join_last_margin same = picked joining m b (skipped b) margin (plain_join b r) (λ e. join_last (same ∙ rw e))

join_lasts : (m : Mode) (b : ℕ) (r : List ℕ) → Last joining m b (joining m b r)
unfolding joining
join_lasts plain b r = join_last plain b r refl
join_lasts escaped b r = picked joining escaped b (eqb b 10) margin (pass after_cr) (λ e. tt)
join_lasts stayed b r = join_last stayed b r refl
join_lasts after_cr b r = picked joining after_cr b (eqb b 10) margin (margin_join b r) (λ e. join_last_margin after_cr b r (rw e))
join_lasts margin b r = join_last_margin margin b r refl

join_head : (m : Mode) (b x : ℕ) (r r' : List ℕ) → joining m b (x ∷ r') ≡ joining m b (x ∷ r)
unfolding joining line_next
join_head plain b x r r' = refl
join_head escaped b x r r' = refl
join_head stayed b x r r' = refl
join_head after_cr b x r r' = refl
join_head margin b x r r' = refl

join_ahead : Ahead (act Joined) (alone Joined)
join_ahead = lasts_ahead (act Joined) (alone Joined) join_head join_lasts

module _ (m : Mode) (b : ℕ) (r : List ℕ) where
  quote_last : quoting_by true m b [] ≡ plain_quote true b [] → Last (quoting_by true) m b (plain_quote false b r)
  unfolding stays_next
  quote_last same = go (eqb b 92) refl (stays_next false r)
    where
      go : (t : Bool) → eqb b 92 ≡ t → (u : Bool) → Last (quoting_by true) m b (pick t (slash_in_quotes u) (keep b plain))
      go true e true = same ∙ rw e
      go true e false = tt
      go false e u = same ∙ rw e

  quote_last_margin : quoting_by true m b [] ≡ margin_quote true b [] → Last (quoting_by true) m b (margin_quote false b r)
  quote_last_margin same = picked (quoting_by true) m b (or (eqb b 32) (eqb b 9)) margin (plain_quote false b r) (λ e. quote_last (same ∙ rw e))

quote_lasts : (m : Mode) (b : ℕ) (r : List ℕ) → Last (quoting_by true) m b (quoting_by false m b r)
unfolding quoting_by
quote_lasts plain b r = quote_last plain b r refl
quote_lasts escaped b r =
    picked (quoting_by true) escaped b (eqb b 10) margin (pick (eqb b 13) (pass after_cr) (turn (head_of (unescaped b)) plain))
    (λ e. picked (quoting_by true) escaped b (eqb b 13) after_cr (turn (head_of (unescaped b)) plain) (λ f. rw (e, f)))
quote_lasts stayed b r = refl
quote_lasts after_cr b r = picked (quoting_by true) after_cr b (eqb b 10) margin (margin_quote false b r) (λ e. quote_last_margin after_cr b r (rw e))
quote_lasts margin b r = quote_last_margin margin b r refl

pub quote_head : (m : Mode) (b x : ℕ) (r r' : List ℕ) → quoting_by true m b (x ∷ r') ≡ quoting_by false m b (x ∷ r)
unfolding quoting_by stays_next
quote_head plain b x r r' = refl
quote_head escaped b x r r' = refl
quote_head stayed b x r r' = refl
quote_head after_cr b x r r' = refl
quote_head margin b x r r' = refl

quote_ahead : Ahead (act Quoted) (alone Quoted)
quote_ahead = lasts_ahead (act Quoted) (alone Quoted) quote_head quote_lasts

-- a word looks two bytes ahead: the bytes of a line end come with its backslash
one_owed : (r : List ℕ) (n : ℕ) → line_end r ≡ 1 → line_end (take (upto wording after_cr r (suc n)) r) ≡ 1
unfolding upto wording line_end feed_next
one_owed [] n e = e
one_owed (b ∷ r) n e = go (eqb b 10) (eqb b 13) e
  where
    feed : (r : List ℕ) → feed_next r ≡ 1 → ⊥
    feed [] e = omega arith
    feed (c ∷ r) e = two (eqb c 10) e
      where
        two : (t : Bool) → pick {X = ℕ} t 2 0 ≡ 1 → ⊥
        two true e = omega arith
        two false e = omega arith

    go : (t u : Bool) → pick t 1 (pick u (feed_next r) 0) ≡ 1 → pick t 1 (pick u (feed_next (take (upto wording plain r (suc n)) r)) 0) ≡ 1
    go true u e = refl
    go false true e = absurd (feed r e)
    go false false e = absurd (omega arith)

two_owed : (r : List ℕ) (n l : ℕ) → line_end r ≡ suc (suc l) → line_end (take (upto wording escaped r (suc n)) r) ≡ suc (suc l)
unfolding upto wording line_end feed_next
two_owed [] n l e = e
two_owed (b ∷ r) n l e = go (eqb b 10) (eqb b 13) e
  where
    feed : (r : List ℕ) → feed_next r ≡ suc (suc l) → feed_next (take (upto wording after_cr r (suc n)) r) ≡ suc (suc l)
    feed [] e = e
    feed (c ∷ r) e = e

    go : (t u : Bool) → pick t 1 (pick u (feed_next r) 0) ≡ suc (suc l) → pick t 1 (pick u (feed_next (take (upto wording after_cr r (suc n)) r)) 0) ≡ suc (suc l)
    go true u e = absurd (omega arith)
    go false true e = feed r e
    go false false e = absurd (omega arith)

word_same : (m : Mode) (b : ℕ) (r : List ℕ) (n : ℕ) → ((t : List ℕ) → wording m b t ≡ plain_word b t) → Same wording wording m b r n (plain_word b r)
word_same m b r n same = go (eqb b 92) refl
  where
    slash : eqb b 92 ≡ true → (l : ℕ) → line_end r ≡ l → Same wording wording m b r n (slash_in_word l)
    slash e zero f = same (take (upto wording plain r n) r) ∙ rw (e, none_taken (upto wording plain r n) r f)
    slash e (suc zero) f = λ h. same (take (upto wording after_cr r (suc n)) r) ∙ rw (e, one_owed r n f)
    slash e (suc (suc l)) f = λ h. same (take (upto wording escaped r (suc n)) r) ∙ rw (e, two_owed r n l f)

    go : (t : Bool) → eqb b 92 ≡ t → Same wording wording m b r n (pick t (slash_in_word (line_end r)) (keep b plain))
    go true e = slash e (line_end r) refl
    go false e = same (take (upto wording plain r n) r) ∙ rw e

word_steady : Steady wording wording
unfolding wording
word_steady plain b r n = word_same plain b r n (λ t. refl)
word_steady escaped b r n = λ h. refl
word_steady stayed b r n = word_same stayed b r n (λ t. refl)
word_steady after_cr b r n = λ h. refl
word_steady margin b r n = word_same margin b r n (λ t. refl)

pub steady : (rule : Rule) → Steady (act rule) (alone rule)
steady Joined = steady_ahead (act Joined) (alone Joined) join_ahead
steady Word = word_steady
steady Quoted = steady_ahead (act Quoted) (alone Quoted) quote_ahead
