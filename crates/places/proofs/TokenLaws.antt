-- The lexer's tokens: read by a rule, the bytes that one takes give its text.
use mathlib.Core.Path.{◌≡◌, ◌∙◌, refl, sym, ap}
use mathlib.Core.Logic.{◌⊎◌, inl, inr}
use mathlib.Core.Bool.{Bool, true, false, true≢false, false≢true}
use mathlib.Core.List.{List, [], ◌∷◌, ◌++◌, append_assoc}
use Prim.Native.Nat.{ℕ, zero, suc, ◌≤◌}
use native.Mathlib.Omega.{arith}
use lib.ListN.{take}
use lib.Dec.{eqb}
use borrow.Author.Tests.{eqb-true, eq-eqb}
use Rattle.ascii.specs.Choice.{pick}
use Rattle.lexer.specs.declared.bytes.Class.{Class}
use Rattle.lexer.specs.declared.bytes.Class.TheVariants.{Feed, Return, Gap, Upright, Hash, Quote, Slash, Other}
use Rattle.lexer.specs.Bytes.{class}
use Rattle.lexer.specs.Runs.{Does, ends, closes, takes, gives, counts, text, took}
use Rattle.lexer.specs.Rules.{feed_next, line_end, word_slash, word_by, word, unescaped, quoted_plain, quoted_margin, quoted}
use Rattle.lexer.specs.declared.quotes.Mode.{Mode as LexMode}
use Rattle.lexer.specs.declared.quotes.Mode.TheVariants.{Plain, Escaped, AfterCr, Margin}
use Rattle.lexer.proofs.ClassLaws.{told}
use Rattle.places.specs.Scans.{Mode, plain, escaped, stayed, after_cr, margin, Act, spell_by, spell}
use Rattle.places.specs.Tables.{Word, Quoted, plain_word, wording, two, head_of, stays, stays_next, plain_quote, margin_quote, quoting_by}
use Rattle.places.specs.Sites.{text_of}

-- ---- a word

-- the line end that a word owes, by mode
abbrev debt_of : Mode → ℕ
debt_of plain = 0
debt_of escaped = 2
debt_of stayed = 0
debt_of after_cr = 1
debt_of margin = 0

-- the look for a line end sees the same in the bytes that a word takes
pub none_taken : (n : ℕ) (r : List ℕ) → line_end r ≡ 0 → line_end (take n r) ≡ 0
unfolding line_end feed_next
none_taken zero r e = refl
none_taken (suc n) [] e = refl
none_taken (suc n) (b ∷ r) e = go (eqb b 10) (eqb b 13) e
  where
    feed : (n : ℕ) (r : List ℕ) → feed_next r ≡ 0 → feed_next (take n r) ≡ 0
    feed zero r e = refl
    feed (suc n) [] e = refl
    feed (suc n) (c ∷ r) e = e

    go : (t u : Bool) → pick t 1 (pick u (feed_next r) 0) ≡ 0 → pick t 1 (pick u (feed_next (take n r)) 0) ≡ 0
    go true u e = e
    go false true e = feed n r e
    go false false e = refl

owed_taken : (k : ℕ) (r : List ℕ) → line_end r ≡ suc k → line_end (take (took word (suc k) r) r) ≡ suc k
unfolding line_end feed_next took word
owed_taken k [] e = e
owed_taken k (b ∷ r) e = go (eqb b 10) (eqb b 13) e
  where
    feed : (k : ℕ) (r : List ℕ) → feed_next r ≡ suc k → feed_next (take (took word k r) r) ≡ suc k
    feed k [] e = e
    feed zero (c ∷ r) e = two (eqb c 10) e
      where
        two : (t : Bool) → pick {X = ℕ} t 2 0 ≡ 1 → feed_next (take (took word 0 (c ∷ r)) (c ∷ r)) ≡ 1
        two true e = absurd (omega arith)
        two false e = absurd (omega arith)
    feed (suc k) (c ∷ r) e = e

    go : (t u : Bool) → pick t 1 (pick u (feed_next r) 0) ≡ suc k → pick t 1 (pick u (feed_next (take (took word k r) r)) 0) ≡ suc k
    go true u e = e
    go false true e = feed k r e
    go false false e = e

end_short : (r : List ℕ) → line_end r ≤ 2
unfolding line_end feed_next
end_short [] = omega arith
end_short (b ∷ r) = go (eqb b 10) (eqb b 13)
  where
    feed : (r : List ℕ) → feed_next r ≤ 2
    feed [] = omega arith
    feed (c ∷ r) = one (eqb c 10)
      where
        one : (t : Bool) → pick {X = ℕ} t 2 0 ≤ 2
        one true = omega arith
        one false = omega arith

    go : (t u : Bool) → pick t 1 (pick u (feed_next r) 0) ≤ 2
    go true u = omega arith
    go false true = feed r
    go false false = omega arith

-- a byte that starts or goes on a word is no backslash
abbrev is_slash : Class → ℕ
is_slash Feed = 0
is_slash Return = 0
is_slash Gap = 0
is_slash Upright = 0
is_slash Hash = 0
is_slash Quote = 0
is_slash Slash = 1
is_slash Other = 0

other_plain : (b : ℕ) → class b ≡ Other → eqb b 92 ≡ false
unfolding class
other_plain b e = go (eqb b 92) refl
  where
    slash : b ≡ 92 → ⊥
    slash f = let g : ◌≡◌ {A = ℕ} 1 0 = ap (λ (b : ℕ). is_slash (class b)) (sym f) ∙ ap is_slash e in omega arith

    go : (t : Bool) → eqb b 92 ≡ t → t ≡ false
    go true f = absurd (slash (eqb-true b 92 f))
    go false f = refl

module _ (b : ℕ) (r : List ℕ) (ih : (m : Mode) → spell wording m (take (took word (debt_of m) r) r) ≡ text word (debt_of m) r) where
  -- in the plain mode, and in those that no word has
  word_step : (m : Mode) → ((t : List ℕ) → wording m b t ≡ plain_word b t) → spell wording m (take (took word 0 (b ∷ r)) (b ∷ r)) ≡ text word 0 (b ∷ r)
  unfolding spell took text word word_by word_slash
  word_step m p = go (class b) refl
    where
      after : (t : List ℕ) → spell wording m (b ∷ t) ≡ spell_by (plain_word b t) (λ m. spell wording m t)
      after t = ap (λ (a : Act). spell_by a (λ m. spell wording m t)) (p t)

      slash : (l : ℕ) → line_end r ≡ l → eqb b 92 ≡ true
          → spell wording m (take (counts (word_slash l) (λ k. took word k r)) (b ∷ r)) ≡ gives (word_slash l) (λ k. text word k r)
      slash zero e f = after (take (took word 0 r) r) ∙ rw (f, none_taken (took word 0 r) r e) (ap (λ (l : List ℕ). 92 ∷ l) (ih plain))
      slash (suc zero) e f = after (take (took word 1 r) r) ∙ rw (f, owed_taken 0 r e) (ih after_cr)
      slash (suc (suc zero)) e f = after (take (took word 2 r) r) ∙ rw (f, owed_taken 1 r e) (ih escaped)
      slash (suc (suc (suc j))) e f = absurd (omega (arith, e, end_short r))

      go : (k : Class) → class b ≡ k → spell wording m (take (counts (word_by k b r) (λ k. took word k r)) (b ∷ r)) ≡ gives (word_by k b r) (λ k. text word k r)
      go Feed e = refl
      go Return e = refl
      go Gap e = refl
      go Upright e = refl
      go Hash e = refl
      go Quote e = refl
      go Slash e = slash (line_end r) refl (eq-eqb b 92 (told b Slash e))
      go Other e = after (take (took word 0 r) r) ∙ rw (other_plain b e) (ap (λ (l : List ℕ). b ∷ l) (ih plain))

word_from : (m : Mode) (r : List ℕ) → spell wording m (take (took word (debt_of m) r) r) ≡ text word (debt_of m) r
unfolding spell took text word wording
word_from plain [] = refl
word_from escaped [] = refl
word_from stayed [] = refl
word_from after_cr [] = refl
word_from margin [] = refl
word_from plain (b ∷ r) = word_step b r (λ m. word_from m r) plain (λ t. refl)
word_from escaped (b ∷ r) = word_from after_cr r
word_from stayed (b ∷ r) = word_step b r (λ m. word_from m r) stayed (λ t. refl)
word_from after_cr (b ∷ r) = word_from plain r
word_from margin (b ∷ r) = word_step b r (λ m. word_from m r) margin (λ t. refl)

-- The bytes that a word takes give its text.
pub word_text : (r : List ℕ) → text_of Word (take (took word 0 r) r) ≡ text word 0 r
word_text r = word_from plain r

-- And with the byte that it starts with.
pub word_token : (b : ℕ) (r : List ℕ) → class b ≡ Other → text_of Word (b ∷ take (took word 0 r) r) ≡ b ∷ text word 0 r
unfolding spell wording
word_token b r e = rw (other_plain b e) (ap (λ (l : List ℕ). b ∷ l) (word_text r))

-- ---- one escape

-- it gives one byte, or a backslash and itself
abbrev Gives : ℕ → List ℕ → Type 0
Gives b [] = ⊥
Gives b (x ∷ []) = Unit {0}
Gives b (x ∷ y ∷ []) = (x ≡ 92) × (y ≡ b)
Gives b (x ∷ y ∷ z ∷ t) = ⊥

gives_so : (b : ℕ) → Gives b (unescaped b)
unfolding unescaped
gives_so b = go (eqb b 110) (eqb b 116) (eqb b 114) (eqb b 92) (eqb b 34) (eqb b 39)
  where
    go : (n t r s d q : Bool) → Gives b (pick n (10 ∷ []) (pick t (9 ∷ []) (pick r (13 ∷ []) (pick s (b ∷ []) (pick d (b ∷ []) (pick q (b ∷ []) (92 ∷ b ∷ [])))))))
    go true t r s d q = tt
    go false true r s d q = tt
    go false false true s d q = tt
    go false false false true d q = tt
    go false false false false true q = tt
    go false false false false false true = tt
    go false false false false false false = (refl, refl)

one_given : (b : ℕ) (l t : List ℕ) → Gives b l → two l ≡ false → head_of l ∷ t ≡ l ++ t
one_given b [] t g e = absurd g
one_given b (x ∷ []) t g e = refl
one_given b (x ∷ y ∷ l) t g e = absurd (true≢false e)

two_given : (b : ℕ) (l t : List ℕ) → Gives b l → two l ≡ true → 92 ∷ b ∷ t ≡ l ++ t
two_given b [] t g e = absurd g
two_given b (x ∷ []) t g e = absurd (false≢true e)
two_given b (x ∷ y ∷ []) t g e = rw (g.0, g.1)
two_given b (x ∷ y ∷ z ∷ l) t g e = absurd g

-- an escape that keeps its backslash is none of a line end
stays_true : (b : ℕ) → stays b ≡ true → (eqb b 10 ≡ false) × (eqb b 13 ≡ false) × (two (unescaped b) ≡ true)
unfolding stays
stays_true b e = go (eqb b 10) (eqb b 13) (two (unescaped b)) refl refl refl e
  where
    go : (t u v : Bool) → eqb b 10 ≡ t → eqb b 13 ≡ u → two (unescaped b) ≡ v → pick t false (pick u false v) ≡ true
        → (eqb b 10 ≡ false) × (eqb b 13 ≡ false) × (two (unescaped b) ≡ true)
    go true u v f g k e = absurd (false≢true e)
    go false true v f g k e = absurd (false≢true e)
    go false false v f g k e = (f, g, k ∙ e)

stays_false : (b : ℕ) → eqb b 10 ≡ false → eqb b 13 ≡ false → stays b ≡ false → two (unescaped b) ≡ false
unfolding stays
stays_false b f g e = sym (rw (f, g)) ∙ e

-- ---- a quoted text

abbrev mode_of : Mode → LexMode
mode_of plain = Plain
mode_of escaped = Escaped
mode_of stayed = Escaped
mode_of after_cr = AfterCr
mode_of margin = Margin

-- behind a backslash the look ahead has told which of the two it is
abbrev Fit : Mode → List ℕ → Type 0
Fit plain s = Unit {0}
Fit escaped s = stays_next false s ≡ false
Fit stayed s = stays_next false s ≡ true
Fit after_cr s = Unit {0}
Fit margin s = Unit {0}

-- a backslash that stayed is given already, and in the lexer's text comes with its byte
abbrev pre : Mode → List ℕ → List ℕ
pre plain l = l
pre escaped l = l
pre stayed l = 92 ∷ l
pre after_cr l = l
pre margin l = l

-- the closing mark, where there is one
module _ (q : ℕ) where
  abbrev pub end_by : Does LexMode → (LexMode → List ℕ) → List ℕ
  end_by ends go = []
  end_by closes go = q ∷ []
  end_by (takes t m) go = go m

  unfoldable pub end_from : LexMode → List ℕ → List ℕ
  end_from m [] = []
  end_from m (b ∷ r) = end_by (quoted q m b r) (λ m. end_from m r)

  abbrev taken : LexMode → List ℕ → List ℕ
  taken m r = take (took (quoted q) m r) r

  abbrev Agree : Mode → List ℕ → Type 0
  Agree m r = pre m (spell (quoting_by false) m (taken (mode_of m) r)) ≡ text (quoted q) (mode_of m) r ++ end_from (mode_of m) r

  -- behind a backslash no byte ends the quotes
  same_head : (r : List ℕ) → stays_next false (taken Escaped r) ≡ stays_next false r
  unfolding took quoted stays_next
  same_head [] = refl
  same_head (b ∷ r) = go (eqb b 10) (eqb b 13)
    where
      go : (t u : Bool) → stays_next false (take (counts (pick t (takes [] Margin) (pick u (takes [] AfterCr) (takes (unescaped b) Plain))) (λ m. took (quoted q) m r)) (b ∷ r)) ≡ stays b
      go true u = refl
      go false true = refl
      go false false = refl

  module _ (b : ℕ) (r : List ℕ) (ih : (m : Mode) → Fit m r → Agree m r) where
    -- what the byte does by the lexer's table and by ours; the bytes that are taken behind it are ours to look at
    abbrev Step : Mode → Does LexMode → Type 0
    Step m d = pre m (spell (quoting_by false) m (take (counts d (λ m. took (quoted q) m r)) (b ∷ r))) ≡ gives d (λ m. text (quoted q) m r) ++ end_by d (λ m. end_from m r)

    -- modes in which the byte does what it does in the plain one
    plain_step : (m : Mode) → ((l : List ℕ) → pre m l ≡ l) → ((t : List ℕ) → quoting_by false m b t ≡ plain_quote false b t) → Step m (quoted_plain q b)
    unfolding spell quoted_plain
    plain_step m p o = go (eqb b 92) refl (eqb b q) refl
      where
        after : (t : List ℕ) → pre m (spell (quoting_by false) m (b ∷ t)) ≡ spell_by (plain_quote false b t) (λ m. spell (quoting_by false) m t)
        after t = p _ ∙ ap (λ (a : Act). spell_by a (λ m. spell (quoting_by false) m t)) (o t)

        slash : eqb b 92 ≡ true → (u : Bool) → stays_next false r ≡ u → pre m (spell (quoting_by false) m (b ∷ taken Escaped r)) ≡ text (quoted q) Escaped r ++ end_from Escaped r
        slash f true e = after (taken Escaped r) ∙ rw (f, same_head r ∙ e) (ih stayed e)
        slash f false e = after (taken Escaped r) ∙ rw (f, same_head r ∙ e) (ih escaped e)

        go : (t : Bool) → eqb b 92 ≡ t → (v : Bool) → eqb b q ≡ v → Step m (pick t (takes [] Escaped) (pick v closes (takes (b ∷ []) Plain)))
        go true e v f = slash e (stays_next false r) refl
        go false e true f = after [] ∙ rw (e, eqb-true b q f)
        go false e false f = after (taken Plain r) ∙ rw e (ap (λ (l : List ℕ). b ∷ l) (ih plain tt))

    margin_step : (m : Mode) → ((l : List ℕ) → pre m l ≡ l) → ((t : List ℕ) → quoting_by false m b t ≡ margin_quote false b t) → Step m (quoted_margin q b)
    unfolding spell quoted_margin
    margin_step m p o = go (eqb b 32) refl (eqb b 9) refl
      where
        after : (t : List ℕ) → pre m (spell (quoting_by false) m (b ∷ t)) ≡ spell_by (margin_quote false b t) (λ m. spell (quoting_by false) m t)
        after t = p _ ∙ ap (λ (a : Act). spell_by a (λ m. spell (quoting_by false) m t)) (o t)

        go : (t : Bool) → eqb b 32 ≡ t → (u : Bool) → eqb b 9 ≡ u → Step m (pick t (takes [] Margin) (pick u (takes [] Margin) (quoted_plain q b)))
        go true e u f = after (taken Margin r) ∙ rw e (ih margin tt)
        go false e true f = after (taken Margin r) ∙ rw (e, f) (ih margin tt)
        go false e false f = plain_step m p (λ t. o t ∙ rw (e, f))

    cr_step : Step after_cr (quoted q AfterCr b r)
    unfolding spell quoting_by quoted
    cr_step = go (eqb b 10) refl
      where
        go : (t : Bool) → eqb b 10 ≡ t → Step after_cr (pick t (takes [] Margin) (quoted_margin q b))
        go true e = rw e (ih margin tt)
        go false e = margin_step after_cr (λ l. refl) (λ t. rw e)

    escaped_step : stays b ≡ false → Step escaped (quoted q Escaped b r)
    unfolding spell quoting_by quoted
    escaped_step s = go (eqb b 10) refl (eqb b 13) refl
      where
        go : (t : Bool) → eqb b 10 ≡ t → (u : Bool) → eqb b 13 ≡ u → Step escaped (pick t (takes [] Margin) (pick u (takes [] AfterCr) (takes (unescaped b) Plain)))
        go true e u f = rw e (ih margin tt)
        go false e true f = rw (e, f) (ih after_cr tt)
        go false e false f =
            rw (e, f) (ap (λ (l : List ℕ). head_of (unescaped b) ∷ l) (ih plain tt)
            ∙ one_given b (unescaped b) (text (quoted q) Plain r ++ end_from Plain r) (gives_so b) (stays_false b e f s)
            ∙ sym (append_assoc (unescaped b) (text (quoted q) Plain r) (end_from Plain r)))

    stayed_step : stays b ≡ true → Step stayed (quoted q Escaped b r)
    unfolding spell quoting_by quoted
    stayed_step s =
        let x = stays_true b s in
        rw (x.0, x.1) (ap (λ (l : List ℕ). 92 ∷ b ∷ l) (ih plain tt)
        ∙ two_given b (unescaped b) (text (quoted q) Plain r ++ end_from Plain r) (gives_so b) x.2
        ∙ sym (append_assoc (unescaped b) (text (quoted q) Plain r) (end_from Plain r)))

  quoted_from : (m : Mode) (r : List ℕ) → Fit m r → Agree m r
  unfolding spell took text end_from stays_next quoted quoting_by
  quoted_from plain [] f = refl
  quoted_from escaped [] f = refl
  quoted_from stayed [] f = absurd (false≢true f)
  quoted_from after_cr [] f = refl
  quoted_from margin [] f = refl
  quoted_from plain (b ∷ r) f = plain_step b r (λ m. quoted_from m r) plain (λ l. refl) (λ t. refl)
  quoted_from escaped (b ∷ r) f = escaped_step b r (λ m. quoted_from m r) f
  quoted_from stayed (b ∷ r) f = stayed_step b r (λ m. quoted_from m r) f
  quoted_from after_cr (b ∷ r) f = cr_step b r (λ m. quoted_from m r)
  quoted_from margin (b ∷ r) f = margin_step b r (λ m. quoted_from m r) margin (λ l. refl) (λ t. refl)

  -- that is the closing mark or nothing
  pub end_mark : (m : LexMode) (r : List ℕ) → (end_from m r ≡ []) ⊎ (end_from m r ≡ q ∷ [])
  unfolding end_from
  end_mark m [] = inl refl
  end_mark m (b ∷ r) = go (quoted q m b r) (λ m. end_mark m r)
    where
      go : (d : Does LexMode) → ((m : LexMode) → (end_from m r ≡ []) ⊎ (end_from m r ≡ q ∷ [])) → (end_by d (λ m. end_from m r) ≡ []) ⊎ (end_by d (λ m. end_from m r) ≡ q ∷ [])
      go ends ih = inl refl
      go closes ih = inr refl
      go (takes t m) ih = ih m

  -- The bytes that a quoted text takes behind its mark give its text, and behind it the closing mark, where there is one.
  pub quoted_text : (r : List ℕ) → text_of Quoted (take (took (quoted q) Plain r) r) ≡ text (quoted q) Plain r ++ end_from Plain r
  quoted_text r = quoted_from plain r tt
