-- What is known of a byte by its class_of: which byte it is, or that it is none of those that rules tell apart.
use mathlib.Core.Path.{◌≡◌, refl, sym, ◌∙◌, subst}
use mathlib.Core.Bool.{Bool, true, false}
use Prim.Native.Nat.{ℕ, suc}
use lib.Dec.{eqb, ltb}
use borrow.Author.Tests.{eqb-true, eq-eqb, ne_eqb}
use Rattle.ascii.specs.Choice.{and}
use Rattle.ascii.specs.Classes.{white}
use Rattle.lexer.specs.Bytes.{class}
use Rattle.lexer.specs.declared.Cursor.{Cursor}
use Rattle.lexer.specs.Cursors.{cursor, moved}
use Rattle.lexer.specs.declared.bytes.Class.TheVariants.{Other}
use Rattle.lexer.proofs.TestLaws.{either}
use Rattle.lexer.proofs.ClassLaws.{other_dark}
use Rattle.plain.specs.Table.{Class, feed, return, blank, stop, slash, double, single, hash, letter, other, class_of}
use Rattle.plain.specs.Coding.{class_code}

-- none of the bytes that rules tell apart
pub record Unlike (b : ℕ) : Type 0 where
  pub n10 : eqb b 10 ≡ false
  pub n13 : eqb b 13 ≡ false
  pub n32 : eqb b 32 ≡ false
  pub n9 : eqb b 9 ≡ false
  pub n11 : eqb b 11 ≡ false
  pub n12 : eqb b 12 ≡ false
  pub n92 : eqb b 92 ≡ false
  pub n34 : eqb b 34 ≡ false
  pub n39 : eqb b 39 ≡ false
  pub n35 : eqb b 35 ≡ false
  pub n110 : eqb b 110 ≡ false
  pub n116 : eqb b 116 ≡ false
  pub n114 : eqb b 114 ≡ false

pub data Known : ℕ → Class → Type 0 where
  is10 : Known 10 feed
  is13 : Known 13 return
  is32 : Known 32 blank
  is9 : Known 9 blank
  is11 : Known 11 stop
  is12 : Known 12 stop
  is92 : Known 92 slash
  is34 : Known 34 double
  is39 : Known 39 single
  is35 : Known 35 hash
  is110 : Known 110 letter
  is116 : Known 116 letter
  is114 : Known 114 letter
  none : {b : ℕ} → Unlike b → Known b other

-- the byte's class_of tells it
pub known : (b : ℕ) → Known b (class_of b)
unfolding class_of
known b =
    let P : Class → Type 0 = Known b in
    let at : (n : ℕ) (k : Class) → Known n k → eqb b n ≡ true → Known b k = λ n k x e. subst (λ (i : ℕ). Known i k) (sym (eqb-true b n e)) x in
    either P (eqb b 10) (at 10 feed is10) (λ n10. either P (eqb b 13) (at 13 return is13) (λ n13.
    either P (eqb b 32) (at 32 blank is32) (λ n32. either P (eqb b 9) (at 9 blank is9) (λ n9.
    either P (eqb b 11) (at 11 stop is11) (λ n11. either P (eqb b 12) (at 12 stop is12) (λ n12.
    either P (eqb b 92) (at 92 slash is92) (λ n92. either P (eqb b 34) (at 34 double is34) (λ n34.
    either P (eqb b 39) (at 39 single is39) (λ n39. either P (eqb b 35) (at 35 hash is35) (λ n35.
    either P (eqb b 110) (at 110 letter is110) (λ n110. either P (eqb b 116) (at 116 letter is116) (λ n116.
    either P (eqb b 114) (at 114 letter is114) (λ n114. none (record {
      n10 = n10;
      n13 = n13;
      n32 = n32;
      n9 = n9;
      n11 = n11;
      n12 = n12;
      n92 = n92;
      n34 = n34;
      n39 = n39;
      n35 = n35;
      n110 = n110;
      n116 = n116;
      n114 = n114;
    }))))))))))))))

-- such a byte to the first lexer
pub class_other : {b : ℕ} → Unlike b → class b ≡ Other
unfolding class
class_other u = rw (u.n10, u.n13, u.n32, u.n9, u.n11, u.n12, u.n35, u.n34, u.n39, u.n92)

-- what the cursor asks of a byte, by its column: whether it is a line feed, and whether it is white
record Asked (b n : ℕ) : Type 0 where
  pub feed_is : eqb n 0 ≡ eqb b 10
  pub white_is : ltb n 4 ≡ white b

asked : {b : ℕ} {k : Class} → Known b k → Asked b (class_code k)
unfolding white
asked is10 = record { feed_is = refl; white_is = refl }
asked is13 = record { feed_is = refl; white_is = refl }
asked is32 = record { feed_is = refl; white_is = refl }
asked is9 = record { feed_is = refl; white_is = refl }
asked is11 = record { feed_is = refl; white_is = refl }
asked is12 = record { feed_is = refl; white_is = refl }
asked is92 = record { feed_is = refl; white_is = refl }
asked is34 = record { feed_is = refl; white_is = refl }
asked is39 = record { feed_is = refl; white_is = refl }
asked is35 = record { feed_is = refl; white_is = refl }
asked is110 = record { feed_is = refl; white_is = refl }
asked is116 = record { feed_is = refl; white_is = refl }
asked is114 = record { feed_is = refl; white_is = refl }
asked {b} (none u) = record { feed_is = sym u.n10; white_is = sym (other_dark b (class_other u)) }

-- the cursor past a byte of a column
module _ (c : Cursor) (n b : ℕ) (e : n ≡ class_code (class_of b)) where
  a : Asked b n
  a = subst (Asked b) (sym e) (asked (known b))

  pub past_feed : n ≡ 0 → moved c b ≡ cursor (suc c.place) (suc c.line.0) 1 true
  unfolding moved
  past_feed h = rw (sym a.feed_is ∙ eq-eqb n 0 h)

  pub past_flat : (n ≡ 0 → ⊥) → (t : Bool) → ltb n 4 ≡ t → moved c b ≡ cursor (suc c.place) c.line.0 (suc c.column.0) (and t c.mark)
  unfolding moved
  past_flat h t i = rw (sym a.feed_is ∙ ne_eqb n 0 h, sym a.white_is ∙ i)
