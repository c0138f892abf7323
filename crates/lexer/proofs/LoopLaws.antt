-- A loop over a run: what it keeps, and how each thing that a byte can do keeps it. One set of laws for comments, words and quotes.
use mathlib.Core.Path.{◌≡◌, sym, ap, ◌∙◌}
use mathlib.Core.List.{List, [], ◌∷◌, ◌++◌, append-nil}
use Prim.Native.Nat.{ℕ, suc, ◌+◌, ◌-◌, ◌≤◌, ◌<◌}
use native.Mathlib.Omega.{arith}
use lib.ListN.{length, take, drop, get_or, set, drop_of_length-le, length-drop, length-take}
use lib.Dec.{eqb}
use lib.Seq.{take-suc, take_at, get_or-drop}
use borrow.Author.Tests.{ne_eqb}
use Rattle.ascii.proofs.ListLaws.{next_byte}
use Rattle.lent.proofs.BufferLaws.{Written, written_one, front_one, written_length, written_all, front_fits}
use Rattle.lexer.specs.Runs.{Does, ends, closes, takes, text, took}
use Rattle.lexer.specs.Places.{feeds, since}
use Rattle.lexer.specs.Steps.{part, Ran, Wrote}
use Rattle.lexer.specs.declared.moving.Run.{Run}
use Rattle.lexer.proofs.TestLaws.{either}
use Rattle.lexer.proofs.MoveLaws.{feeds_append, since_append}
use Rattle.lexer.proofs.RunLaws.{text_by_lem, took_by}

-- ---- the bytes passed, one byte longer

pub part_none : (s : List ℕ) (from : ℕ) → part s from from ≡ []
part_none s from = let e : from - from ≡ 0 = omega arith in rw e

pub part_more : (s : List ℕ) (from at : ℕ) → from ≤ at → at < length s → part s from (at + 1) ≡ part s from at ++ (get_or s at 0 ∷ [])
part_more s from at h k =
    let e : at + 1 - from ≡ suc (at - from) = omega arith in
    let f : from + (at - from) ≡ at = omega arith in
    let l : at - from < length (drop from s) = rw length-drop (omega arith) in
    rw (e, take-suc (drop from s) (at - from) 0 l, get_or-drop, f)

pub feeds_more : (s : List ℕ) (from at : ℕ) → from ≤ at → at < length s → (get_or s at 0 ≡ 10 → ⊥) → feeds (part s from (at + 1)) ≡ feeds (part s from at)
unfolding feeds
feeds_more s from at h k n = rw (part_more s from at h k, feeds_append, ne_eqb _ _ n) (omega arith)

-- the bytes since the last line feed, one byte on
since_more : (s : List ℕ) (from at : ℕ) → from ≤ at → at < length s → (get_or s at 0 ≡ 10 → ⊥) → since 0 (part s from (at + 1)) ≡ suc (since 0 (part s from at))
unfolding since
since_more s from at h k n = rw (part_more s from at h k, since_append, ne_eqb _ _ n)

feeds_fed : (s : List ℕ) (from at : ℕ) → from ≤ at → at < length s → get_or s at 0 ≡ 10 → feeds (part s from (at + 1)) ≡ feeds (part s from at) + 1
unfolding feeds
feeds_fed s from at h k e = rw (part_more s from at h k, feeds_append, e) (omega arith)

since_fed : (s : List ℕ) (from at : ℕ) → from ≤ at → at < length s → get_or s at 0 ≡ 10 → since 0 (part s from (at + 1)) ≡ 0
unfolding since
since_fed s from at h k e = rw (part_more s from at h k, since_append, e)

-- the line feeds counted, and where the last line starts
pub record Counted (s : List ℕ) (from at feed last : ℕ) : Type 0 where
  pub forward : from ≤ at
  pub inside : at ≤ length s
  pub feeds_are : feed ≡ feeds (part s from at)
  pub last_is : last + since 0 (part s from at) ≡ at

pub counted_none : (s : List ℕ) (from : ℕ) → from ≤ length s → Counted s from from 0 from
unfolding feeds since
counted_none s from h = record { forward = omega arith; inside = h; feeds_are = rw part_none; last_is = rw part_none (omega arith) }

module _ {s : List ℕ} {from at feed last : ℕ} (x : Counted s from at feed last) (k : at < length s) where
  pub counted_flat : (get_or s at 0 ≡ 10 → ⊥) → Counted s from (at + 1) feed last
  counted_flat n = record {
    forward = omega (arith, x.forward);
    inside = omega arith;
    feeds_are = x.feeds_are ∙ sym (feeds_more s from at x.forward k n);
    last_is = omega (arith, since_more s from at x.forward k n, x.last_is);
  }

  pub counted_feed : get_or s at 0 ≡ 10 → Counted s from (at + 1) (feed + 1) (at + 1)
  counted_feed e = record {
    forward = omega (arith, x.forward);
    inside = omega arith;
    feeds_are = omega (arith, x.feeds_are, feeds_fed s from at x.forward k e);
    last_is = omega (arith, since_fed s from at x.forward k e);
  }

-- a list has no more line feeds than bytes
pub feeds_few : (p : List ℕ) → feeds p ≤ length p
unfolding feeds
feeds_few [] = omega arith
feeds_few (b ∷ r) = either (λ n. n + feeds r ≤ suc (length r)) (eqb b 10) (λ e. omega (arith, feeds_few r)) (λ e. omega (arith, feeds_few r))

pub since_few : (n : ℕ) (p : List ℕ) → since n p ≤ n + length p
unfolding since
since_few n [] = omega arith
since_few n (b ∷ r) = either (λ k. since k r ≤ n + suc (length r)) (eqb b 10) (λ e. omega (arith, since_few 0 r)) (λ e. omega (arith, since_few (suc n) r))

-- the line feeds counted are no more than the bytes passed
pub counted_few : {s : List ℕ} {from at feed last : ℕ} → Counted s from at feed last → feed ≤ at
counted_few {s} {from} {at} x = omega (arith, x.feeds_are, feeds_few (part s from at), length-take (at - from) (drop from s))

-- ---- the run still to come

module _ {M : Type 0} (does : M → ℕ → List ℕ → Does M) (m₀ : M) (s : List ℕ) (from : ℕ) where
  -- the run from `from` on goes on at `at` in the mode m
  abbrev pub Going : M → ℕ → Type 0
  Going m at = at + took does m (drop at s) ≡ from + took does m₀ (drop from s)

  -- its text is the n bytes written, and what is still to come
  pub record Writing (m : M) (at n : ℕ) (old new : List ℕ) : Type 0 where
    pub written : Written old new n
    pub front : take n new ++ text does m (drop at s) ≡ text does m₀ (drop from s)

  module _ {m : M} {at : ℕ} (k : at < length s) where
    module _ {t : List ℕ} {m' : M} (e : does m (get_or s at 0) (drop (at + 1) s) ≡ takes t m') where
      pub going_on : Going m at → Going m' (at + 1)
      going_on g = omega (arith, ap (took does m) (next_byte s at k) ∙ took_by does m _ _ _ e, g)

      text_on : text does m (drop at s) ≡ t ++ text does m' (drop (at + 1) s)
      text_on = ap (text does m) (next_byte s at k) ∙ text_by_lem does m _ _ _ e

    -- a byte that gives no text
    pub writing_none : {m' : M} {n : ℕ} {old new : List ℕ} → does m (get_or s at 0) (drop (at + 1) s) ≡ takes [] m' → Writing m at n old new → Writing m' (at + 1) n old new
    writing_none {m'} {n} {old} {new} e w = record { written = w.written; front = ap (λ (l : List ℕ). take n new ++ l) (sym (text_on e)) ∙ w.front }

    -- a byte that gives one
    pub writing_one : {m' : M} {n b : ℕ} {old new : List ℕ} → does m (get_or s at 0) (drop (at + 1) s) ≡ takes (b ∷ []) m' → n < length old → Writing m at n old new → Writing m' (at + 1) (n + 1) old (set new n b)
    writing_one {m'} {n} {b} {old} {new} e h w = record {
      written = written_one w.written b h;
      front = front_one w.written b (text does m' (drop (at + 1) s)) h ∙ ap (λ (l : List ℕ). take n new ++ l) (sym (text_on e)) ∙ w.front;
    }

    -- a byte that gives two
    pub writing_two : {m' : M} {n a b : ℕ} {old new : List ℕ} → does m (get_or s at 0) (drop (at + 1) s) ≡ takes (a ∷ b ∷ []) m' → n + 1 < length old → Writing m at n old new → Writing m' (at + 1) (n + 2) old (set (set new n a) (n + 1) b)
    writing_two {m'} {n} {a} {b} {old} {new} e h w =
        let j : n + 2 ≡ n + 1 + 1 = omega arith in
        let v = written_one w.written a (omega arith) in
        let r = text does m' (drop (at + 1) s) in
        rw j (record {
          written = written_one v b h;
          front = front_one v b r h ∙ front_one w.written a (b ∷ r) (omega arith) ∙ ap (λ (l : List ℕ). take n new ++ l) (sym (text_on e)) ∙ w.front;
        })

    pub going_stop : does m (get_or s at 0) (drop (at + 1) s) ≡ ends → Going m at → at ≡ from + took does m₀ (drop from s)
    going_stop e g = omega (arith, ap (took does m) (next_byte s at k) ∙ took_by does m _ _ _ e, g)

    pub going_close : does m (get_or s at 0) (drop (at + 1) s) ≡ closes → Going m at → at + 1 ≡ from + took does m₀ (drop from s)
    going_close e g = omega (arith, ap (took does m) (next_byte s at k) ∙ took_by does m _ _ _ e, g)

    pub text_stop : does m (get_or s at 0) (drop (at + 1) s) ≡ ends → text does m (drop at s) ≡ []
    text_stop e = ap (text does m) (next_byte s at k) ∙ text_by_lem does m _ _ _ e

    pub text_close : does m (get_or s at 0) (drop (at + 1) s) ≡ closes → text does m (drop at s) ≡ []
    text_close e = ap (text does m) (next_byte s at k) ∙ text_by_lem does m _ _ _ e

  -- past the end nothing is to come
  took_end : (m : M) (at : ℕ) → length s ≤ at → took does m (drop at s) ≡ 0
  unfolding took
  took_end m at h = rw (drop_of_length-le s h)

  pub going_end : (m : M) (at : ℕ) → length s ≤ at → Going m at → at ≡ from + took does m₀ (drop from s)
  going_end m at h g = omega (arith, took_end m at h, g)

  pub text_end_lem : (m : M) (at : ℕ) → length s ≤ at → text does m (drop at s) ≡ []
  unfolding text
  text_end_lem m at h = rw (drop_of_length-le s h)

  -- ---- what the loop's end promises

  pub ran : (r : Run) → r.past ≡ from + took does m₀ (drop from s) → Counted s from r.past r.feeds r.last → Ran does m₀ s from r
  ran r e x = record { past_is = e; inside = x.inside; feeds_are = x.feeds_are; last_is = x.last_is }

  pub wrote : {m : M} {at : ℕ} {old new : List ℕ} (r : Run) → Writing m at r.len old new → text does m (drop at s) ≡ [] → from + r.len ≤ r.past → Wrote does m₀ s from old new r
  wrote {m} {at} {old} {new} r w e h =
      let f : take r.len new ≡ text does m₀ (drop from s) = sym (append-nil (take r.len new)) ∙ ap (λ (l : List ℕ). take r.len new ++ l) (sym e) ∙ w.front in
      record { length_is = written_length w.written f; text_is = written_all w.written f; short = h }

  -- the text as a caller finds it
  pub wrote_fits : {old new : List ℕ} {r : Run} → Wrote does m₀ s from old new r → r.len ≤ length new
  wrote_fits {old} {new} {r} w = omega (arith, w.length_is, front_fits new (text does m₀ (drop from s)) _ w.text_is)

  pub wrote_front : {old new : List ℕ} {r : Run} → Wrote does m₀ s from old new r → take r.len new ≡ text does m₀ (drop from s)
  wrote_front {old} {new} {r} w = ap (take r.len) w.text_is ∙ take_at (text does m₀ (drop from s)) _ r.len (sym w.length_is)
