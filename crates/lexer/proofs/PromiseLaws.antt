-- What step_in and next_token promise, in plain words: every number exactly when it is given, and what is given and written with it.
-- The idea: lent's OutcomeLaws has numbers 1 to 3, and the check of the cursor tells the others apart.
use Rattle.lent.specs.declared.gating.GateError.TheVariants.{TooLong, Short, NotAscii}
use Rattle.lent.specs.declared.gating.GateError.{GateError}
use Rattle.std.specs.Prelude.{Result, Ok, Err}
use mathlib.Core.Path.{◌≡◌, ◌∙◌, refl, ap}
use mathlib.Core.Bool.{Bool, true, false}
use mathlib.Core.List.{List, [], ◌∷◌, ◌++◌}
use mathlib.Core.Logic.{◌↔◌, inl, inr}
use Prim.Native.Nat.{ℕ, ◌-◌, ◌≤◌, ◌<◌}
use native.Mathlib.Omega.{arith}
use lib.ListN.{length, drop}
use lib.Dec.{ltb, leb, eqb}
use borrow.Author.Tests.{lt-ltb, le-ltb, ltb-true, ltb-false, leb-true, leb-false, eqb-true, eqb-false}
use Rattle.ascii.specs.Choice.{pick}
use Rattle.lent.specs.Sizes.{limit, cursor_most}
use Rattle.lent.specs.Gates.{gate_of}
use Rattle.lent.specs.Table.{Given, given, too_long, short_buffer, bad_cursor, Outcome, refuses, reads, past_gate}
use Rattle.lent.specs.Admission.{FirstAt, Opened, Shortened}
use Rattle.lent.proofs.GateLaws as Gates
use Rattle.lent.proofs.RowLaws.{Row, row, OneOf, Numbered, Exactly, absent, differ, exactly}
use Rattle.lent.proofs.OutcomeLaws.{number_of, Later, past_row, number_1, number_2, number_3, checked_later, number_refused, number_read}
use Rattle.lexer.specs.Cursors.{Cursor}
use Rattle.lexer.specs.Tokens.{next}
use Rattle.lexer.specs.Tokens as T
use Rattle.lexer.specs.Promises.{counted, cursor_refused, step_given, step_values, step_text, step_outcome, next_outcome, next_given_by, next_text_by, StepIn, NextToken}
use Rattle.lexer.specs.Calls.{Counted, Uncounted, nought, above, Fit, Astray, far, off_line, off_column}
use Rattle.lexer.specs.declared.stepping.Found.{Found}
use Rattle.lexer.specs.declared.stepping.StepError.{StepError}
use Rattle.lexer.proofs.TestLaws.{either, told_is}
use Rattle.lexer.proofs.GivenLaws.{step_told}

-- ---- number 9

-- what the test of a line or a column tells
abbrev CountedBy : ℕ → Bool → Type 0
CountedBy n true = Counted n
CountedBy n false = Uncounted n

counted_tells : (n : ℕ) → CountedBy n (counted n)
counted_tells n = either (CountedBy n) (eqb n 0) (λ e. nought (eqb-true n 0 e)) (λ e. go (leb n cursor_most) refl (eqb-false n 0 e))
  where
    go : (t : Bool) → leb n cursor_most ≡ t → (n ≡ 0 → ⊥) → CountedBy n t
    go true e h = record { some = omega arith; most = leb-true n cursor_most e }
    go false e h = above (leb-false n cursor_most e)

never_counted : {n : ℕ} → Counted n → Uncounted n → ⊥
never_counted k (nought h) = omega (arith, k.some)
never_counted k (above h) = omega (arith, k.most)

module _ (s : List ℕ) (c : Cursor) where
  -- what the test of a cursor tells
  abbrev CursorBy : Bool → Type 0
  CursorBy true = Astray s c
  CursorBy false = Fit s c

  cursor_tells : CursorBy (cursor_refused s c)
  cursor_tells = go (ltb (length s) c.place) (counted c.line.0) (counted c.column.0) refl (counted_tells c.line.0) (counted_tells c.column.0)
    where
      go : (x y z : Bool) → ltb (length s) c.place ≡ x → CountedBy c.line.0 y → CountedBy c.column.0 z
          → CursorBy (pick x true (pick y (pick z false true) true))
      go true y z e l k = far (ltb-true (length s) c.place e)
      go false false z e l k = off_line l
      go false true false e l k = off_column k
      go false true true e l k = record { inside = ltb-false (length s) c.place e; lined = l; columned = k }

  never_both : Astray s c → Fit s c → ⊥
  never_both (far h) f = omega (arith, f.inside)
  never_both (off_line u) f = never_counted f.lined u
  never_both (off_column u) f = never_counted f.columned u

  -- A cursor is refused exactly when it is astray, and taken exactly when it fits.
  pub cursor_is : (t : Bool) → (cursor_refused s c ≡ t) ↔ CursorBy t
  cursor_is = told_is CursorBy never_both (cursor_refused s c) cursor_tells

-- ---- a step in a text that was admitted

next_number : (o : Outcome T.Step) → (next_given_by o).number ≡ number_of o
next_number (refuses f) = refl
next_number (reads x) = refl

module _ {s : List ℕ} {c : Cursor} {old new : List ℕ} {r : Result Found StepError} (x : StepIn s c old new r) where
  -- the text is within the limit, the cursor fits it, and so much of it is left as P says
  abbrev Left : (ℕ → Type 0) → Type 0
  Left P = (length s ≤ limit) × Fit s c × P (length s - c.place)

  -- Number 1: the text is over the limit. 9: it is not, and the cursor is one that it has not. 3: the cursor is one, and the text buffer is
  -- shorter than what is left behind its place. 0: none of these.
  abbrev pub step_rows : List Row
  step_rows =
      row 1 (limit < length s)
      ∷ row 9 ((length s ≤ limit) × Astray s c)
      ∷ row 3 (Left (λ n. length old < n))
      ∷ row 0 (Left (λ n. n ≤ length old))
      ∷ []

  one_row : OneOf step_rows
  unfolding OneOf
  one_row = go (ltb limit (length s)) refl (cursor_refused s c) (cursor_tells s c) (ltb (length old) (length s - c.place)) refl
    where
      go : (t : Bool) → ltb limit (length s) ≡ t → (u : Bool) → CursorBy s c u → (v : Bool) → ltb (length old) (length s - c.place) ≡ v → OneOf step_rows
      go true e u k v f = inl (ltb-true limit (length s) e)
      go false e true k v f = inr (inl (ltb-false limit (length s) e, k))
      go false e false k true f = inr (inr (inl (ltb-false limit (length s) e, k, ltb-true (length old) (length s - c.place) f)))
      go false e false k false f = inr (inr (inr (inl (ltb-false limit (length s) e, k, ltb-false (length old) (length s - c.place) f))))

  -- what the call comes to where nothing is refused
  comes_to : Left (λ n. n ≤ length old) → step_outcome s c (length old) ≡ reads (next (drop c.place s) c)
  unfolding step_outcome
  comes_to p = rw (le-ltb limit (length s) p.0, (cursor_is s c false).1 p.1, le-ltb (length old) (length s - c.place) p.2)

  by_outcome : (o : Outcome T.Step) → step_outcome s c (length old) ≡ o → (step_given r).number ≡ number_of o
  by_outcome o e = ap (λ (g : Given). g.number) x.answer ∙ next_number (step_outcome s c (length old)) ∙ ap number_of e

  pub step_in_numbers : Exactly (step_given r).number step_rows
  unfolding Numbered absent differ step_outcome
  step_in_numbers =
      exactly (step_given r).number step_rows refl one_row (
        λ h. by_outcome (refuses too_long) (rw (lt-ltb limit (length s) h)),
        (
          λ p. by_outcome (refuses bad_cursor) (rw (le-ltb limit (length s) p.0, (cursor_is s c true).1 p.1)),
          (
            λ p. by_outcome (refuses short_buffer) (rw (le-ltb limit (length s) p.0, (cursor_is s c false).1 p.1, lt-ltb (length old) (length s - c.place) p.2)),
            (λ p. by_outcome (reads (next (drop c.place s) c)) (comes_to p), tt),
          ),
        ),
      )

  -- Number 0 in full: the step at the cursor, whose text stands at the buffer's front, with nothing beyond touched.
  pub step_in_reads : Left (λ n. n ≤ length old)
      → (step_given r ≡ given 0 (step_values (next (drop c.place s) c)))
      × (new ≡ step_text (next (drop c.place s) c) ++ drop (length (step_text (next (drop c.place s) c))) old)
  step_in_reads p = (x.answer ∙ ap next_given_by (comes_to p), x.text ∙ ap (λ (o : Outcome T.Step). next_text_by o old) (comes_to p))

-- ---- one token

-- what next_token comes to past the gate
abbrev next_past : List ℕ → Cursor → Outcome T.Step
next_past s c = pick (cursor_refused s c) (refuses bad_cursor) (reads (next (drop c.place s) c))

module _ {s : List ℕ} {c : Cursor} {old new : List ℕ} {r : Result Found StepError} (x : NextToken s c old new r) where
  number_is : (step_given r).number ≡ number_of (past_gate (gate_of s (length old) (length s)) (next_past s c))
  unfolding next_outcome
  number_is = ap (λ (g : Given). g.number) x.answer ∙ next_number (next_outcome s c (length old))

  late : Later (number_of (next_past s c))
  late = checked_later bad_cursor (next (drop c.place s) c) (omega arith) (cursor_refused s c)

  -- Number 1: the input is over the limit.
  pub next_token_1 : ((step_given r).number ≡ 1) ↔ (limit < length s)
  next_token_1 = rw number_is (number_1 s (length old) (length s) (next_past s c) late)

  -- Number 2: it is not, and a byte is 128 or more.
  pub next_token_2 : ((step_given r).number ≡ 2) ↔ ((length s ≤ limit) × ((p : ℕ) × FirstAt s p))
  next_token_2 = rw number_is (number_2 s (length old) (length s) (next_past s c) late)

  -- Number 3: none is, and the text buffer is shorter than the input.
  pub next_token_3 : ((step_given r).number ≡ 3) ↔ Shortened s (length old) (length s)
  next_token_3 = rw number_is (number_3 s (length old) (length s) (next_past s c) late)

  -- Number 9: it is not, and the cursor's place is past the end, or its line or column is 0 or above the largest.
  pub next_token_9 : ((step_given r).number ≡ 9) ↔ (Opened s (length old) (length s) × Astray s c)
  next_token_9 = rw number_is (number_refused bad_cursor (next (drop c.place s) c) (omega arith) s (length old) (length s) (cursor_refused s c) (cursor_is s c true))

  -- Number 0: none of these.
  pub next_token_0 : ((step_given r).number ≡ 0) ↔ (Opened s (length old) (length s) × Fit s c)
  next_token_0 = rw number_is (number_read bad_cursor (next (drop c.place s) c) (omega arith) s (length old) (length s) (cursor_refused s c) (cursor_is s c false))

  -- what is given back and written, by the gate's answer
  by_gate : (g : Result Unit GateError) → Gates.Row s (length old) (length s) g
      → (step_given r ≡ next_given_by (past_gate g (next_past s c))) × (new ≡ next_text_by (past_gate g (next_past s c)) old)
  unfolding next_outcome
  by_gate g h =
      let e : next_outcome s c (length old) ≡ past_gate g (next_past s c) = past_row s (length old) (length s) (next_past s c) g h in
      (x.answer ∙ ap next_given_by e, x.text ∙ ap (λ (o : Outcome T.Step). next_text_by o old) e)

  -- Each refusal in full: the answer, for number 2 with the first such byte's place, and a buffer that is untouched.
  pub next_token_long : limit < length s → (r ≡ Err (StepError.Gate TooLong)) × (new ≡ old)
  next_token_long h = (step_told r (Err (StepError.Gate TooLong)) (by_gate (Err TooLong) h).0, (by_gate (Err TooLong) h).1)

  pub next_token_high : (p : ℕ) → (length s ≤ limit) × FirstAt s p → (r ≡ Err (StepError.Gate (NotAscii p))) × (new ≡ old)
  next_token_high p h = (step_told r (Err (StepError.Gate (NotAscii p))) (by_gate (Err (NotAscii p)) h).0, (by_gate (Err (NotAscii p)) h).1)

  pub next_token_short : Shortened s (length old) (length s) → (r ≡ Err (StepError.Gate Short)) × (new ≡ old)
  next_token_short h = (step_told r (Err (StepError.Gate Short)) (by_gate (Err Short) h).0, (by_gate (Err Short) h).1)

  pub next_token_astray : Opened s (length old) (length s) → Astray s c → (r ≡ Err StepError.BadCursor) × (new ≡ old)
  next_token_astray o a =
      let e : next_past s c ≡ refuses bad_cursor = rw ((cursor_is s c true).1 a) in
      (step_told r (Err StepError.BadCursor) ((by_gate (Ok tt) o).0 ∙ ap next_given_by e), (by_gate (Ok tt) o).1 ∙ ap (λ (o : Outcome T.Step). next_text_by o old) e)

  -- Else the step at the cursor, whose text stands at the buffer's front, with nothing beyond touched.
  pub next_token_reads : Opened s (length old) (length s) → Fit s c
      → (step_given r ≡ given 0 (step_values (next (drop c.place s) c)))
      × (new ≡ step_text (next (drop c.place s) c) ++ drop (length (step_text (next (drop c.place s) c))) old)
  next_token_reads o f =
      let e : next_past s c ≡ reads (next (drop c.place s) c) = rw ((cursor_is s c false).1 f) in
      ((by_gate (Ok tt) o).0 ∙ ap next_given_by e, (by_gate (Ok tt) o).1 ∙ ap (λ (o : Outcome T.Step). next_text_by o old) e)
