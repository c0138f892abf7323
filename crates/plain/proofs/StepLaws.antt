-- The acts of a step one after another: what each leaves of the registers' bounds, so that the next can be done.
use mathlib.Core.Path.{◌≡◌, refl, ap, ◌∙◌}
use mathlib.Core.Bool.{Bool, true, false}
use mathlib.Core.List.{List}
use Prim.Native.Nat.{ℕ, ◌+◌, ◌/◌, ◌%◌, ◌≤◌, ◌<◌}
use native.Mathlib.Omega.{arith}
use lib.ListN.{length, length-set}
use Rattle.ascii.specs.Choice.{bit}
use Rattle.lent.specs.Sizes.{limit}
use Rattle.lent.specs.Buffers.{stored}
use Rattle.lent.proofs.BufferLaws.{stored_length}
use Rattle.lexer.specs.declared.Cursor.{Cursor}
use Rattle.lexer.specs.declared.Kind.{Kind}
use Rattle.lexer.specs.declared.stepping.Lexeme.{Lexeme}
use Rattle.lexer.specs.Promises.{token_stored}
use Rattle.lexer.proofs.NarrowLaws.{stored_narrow}
use Rattle.plain.specs.Table.{Ends, stays, here, earlier, with_it, Joins, nothing, itself, control}
use Rattle.plain.specs.Coding.{joins_by, joins_in}
use Rattle.plain.specs.Steps.{words, Adds, Kept, Joined, Tells, Ended, Fed, joins_width, Acted, Stepped}
use Rattle.plain.specs.declared.acting.Held.{Held}

-- the record of a token whose numbers go into span words is stored
abbrev lexeme_of : Kind → Cursor → ℕ → ℕ → Lexeme
lexeme_of k d p n =
    record { kind = k; line = d.line; column = d.column; first = d.place; len = n; next = record { place = p; line = d.line; column = d.column; mark = false } }

pub put_is : (k : Kind) (d : Cursor) (p o n : ℕ) → (d.place ≤ p) × (p ≤ limit) × (o ≤ limit) × (n ≤ limit) → (old : List ℕ) (at : ℕ)
    → token_stored old at o (lexeme_of k d p n) ≡ stored old at (words k d p o n)
put_is k d p o n h old at = stored_narrow {o = o} {t = lexeme_of k d p n} (record { forward = h.0; near = h.1; offset = h.2; short = h.3 }) old at

-- what the first act leaves
pub record Wider (n : ℕ) (h : Held) (old new : List ℕ) (r : Held) : Type 0 where
  pub from_is : r.from ≡ h.from
  pub start_is : r.start ≡ h.start
  pub used_is : r.used ≡ h.used + n
  pub count_is : r.count ≡ h.count
  pub long : length new ≡ length old

same_wider : (h : Held) (old new : List ℕ) (r : Held) → (new ≡ old) × (r ≡ h) → Wider 0 h old new r
same_wider h old new r e = record {
  from_is = ap (λ (a : Held). a.from) e.1;
  start_is = ap (λ (a : Held). a.start) e.1;
  used_is = omega (arith, ap (λ (a : Held). a.used) e.1);
  count_is = ap (λ (a : Held). a.count) e.1;
  long = ap length e.0;
}

adds_wider : (b : ℕ) (h : Held) (old new : List ℕ) (r : Held) → Adds b h old new r → Wider 1 h old new r
adds_wider b h old new r e = record {
  from_is = ap (λ (a : Held). a.from) e.1;
  start_is = ap (λ (a : Held). a.start) e.1;
  used_is = ap (λ (a : Held). a.used) e.1;
  count_is = ap (λ (a : Held). a.count) e.1;
  long = ap length e.0 ∙ length-set old h.used b;
}

pub kept_wider : (k : Bool) (h : Held) (old new : List ℕ) (r : Held) → Kept k h old new r → Wider (bit k) h old new r
kept_wider true h old new r e = adds_wider 92 h old new r e
kept_wider false h old new r e = same_wider h old new r e

pub joined_wider : (j : Joins) (b : ℕ) (h : Held) (old new : List ℕ) (r : Held) → Joined j b h old new r → Wider (joins_width j) h old new r
joined_wider nothing b h old new r e = same_wider h old new r e
joined_wider itself b h old new r e = adds_wider b h old new r e
joined_wider control b h old new r e = adds_wider _ h old new r e

-- what the end of a token and a Newline leave
pub record Onward (h : Held) (old new : List ℕ) (r : Held) : Type 0 where
  pub from_is : r.from ≡ h.from
  pub used_is : r.used ≡ h.used
  pub start_low : h.start ≤ h.used → r.start ≤ r.used
  pub count_low : r.count ≤ h.count + 1
  pub long : length new ≡ length old

same_onward : (h : Held) (old new : List ℕ) (r : Held) → (new ≡ old) × (r ≡ h) → Onward h old new r
same_onward h old new r e = record {
  from_is = ap (λ (a : Held). a.from) e.1;
  used_is = ap (λ (a : Held). a.used) e.1;
  start_low = λ l. omega (arith, ap (λ (a : Held). a.used) e.1, ap (λ (a : Held). a.start) e.1);
  count_low = omega (arith, ap (λ (a : Held). a.count) e.1);
  long = ap length e.0;
}

tells_onward : (state p : ℕ) (text : List ℕ) (h : Held) (old new : List ℕ) (r : Held) → Tells state p text h old new r → Onward h old new r
tells_onward state p text h old new r e = record {
  from_is = ap (λ (a : Held). a.from) e.1;
  used_is = ap (λ (a : Held). a.used) e.1;
  start_low = λ l. omega (arith, ap (λ (a : Held). a.used) e.1, ap (λ (a : Held). a.start) e.1);
  count_low = omega (arith, ap (λ (a : Held). a.count) e.1);
  long = ap length e.0 ∙ stored_length old _ _;
}

pub ended_onward : (e : Ends) (state p : ℕ) (text : List ℕ) (h : Held) (old new : List ℕ) (r : Held) → Ended e state p text h old new r → Onward h old new r
ended_onward stays state p text h old new r e = same_onward h old new r e
ended_onward here state p text h old new r e = tells_onward state p text h old new r e
ended_onward earlier state p text h old new r e = tells_onward state _ text h old new r e
ended_onward with_it state p text h old new r e = tells_onward state _ text h old new r e

pub fed_onward : (f : Bool) (c : Cursor) (h : Held) (old new : List ℕ) (r : Held) → Fed f c h old new r → Onward h old new r
fed_onward false c h old new r e = same_onward h old new r e
fed_onward true c h old new r e = record {
  from_is = ap (λ (a : Held). a.from) e.1;
  used_is = ap (λ (a : Held). a.used) e.1;
  start_low = λ l. omega (arith, ap (λ (a : Held). a.used) e.1, ap (λ (a : Held). a.start) e.1);
  count_low = omega (arith, ap (λ (a : Held). a.count) e.1);
  long = ap length e.0 ∙ stored_length old _ _;
}

-- where the byte gives nothing to the text, the acts are all
pub closing : {x state : ℕ} {c : Cursor} {h : Held} {text text' records records' : List ℕ} {r : Held} (b : ℕ) → joins_in x ≡ nothing → Acted x state c h text text' records records' r
    → Stepped x state b c h text text' records records' r
closing b e a = record { text₁ = _; begun = _; acted = a; joined_is = rw e (refl, refl) }

-- ---- the cells that most bytes come to

-- no act but that the byte may join the text
record Alone (x j : ℕ) : Type 0 where
  pub keeps_not : x / 1024 % 2 ≡ 0
  pub ends_not : x / 2048 % 4 ≡ 0
  pub feeds_not : x / 8192 % 2 ≡ 0
  pub begins_not : x / 16384 % 2 ≡ 0
  pub joins_is : x / 256 % 4 ≡ j

quiet : (x : ℕ) → x < 256 → Alone x 0
quiet x h = record { keeps_not = omega arith; ends_not = omega arith; feeds_not = omega arith; begins_not = omega arith; joins_is = omega arith }

adding : (x : ℕ) → 256 ≤ x → x < 512 → Alone x 1
adding x l h = record { keeps_not = omega arith; ends_not = omega arith; feeds_not = omega arith; begins_not = omega arith; joins_is = omega arith }

module _ (x state b : ℕ) (c : Cursor) (h : Held) (text records : List ℕ) where
  alone : {j : ℕ} → Alone x j → (text' : List ℕ) (r : Held) → Joined (joins_by j) b h text text' r → Stepped x state b c h text text' records records r
  alone p text' r e = record {
    text₁ = text;
    begun = h;
    acted = record {
      records₁ = records;
      held₁ = h;
      held₂ = h;
      held₃ = h;
      kept_is = rw p.keeps_not (refl, refl);
      ended_is = rw p.ends_not (refl, refl);
      fed_is = rw p.feeds_not (refl, refl);
      begun_is = rw p.begins_not;
    };
    joined_is = rw p.joins_is e;
  }

  -- no act
  pub step_none : x < 256 → Stepped x state b c h text text records records h
  step_none l = alone (quiet x l) text h (refl, refl)

  -- the byte joins the text
  pub step_add : 256 ≤ x → x < 512 → (text' : List ℕ) (r : Held) → Adds b h text text' r → Stepped x state b c h text text' records records r
  step_add m l text' r e = alone (adding x m l) text' r e
