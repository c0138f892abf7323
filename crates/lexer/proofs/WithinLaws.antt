-- A cursor stays within its text and its bounds: line and column grow by one a byte at most.
use mathlib.Core.Path.{◌≡◌, sym, ap, ◌∙◌, subst}
use mathlib.Core.List.{List}
use Prim.Native.Nat.{ℕ, ◌+◌, ◌-◌, ◌≤◌}
use native.Mathlib.Omega.{arith}
use lib.ListN.{length, drop, length-drop}
use lib.Seq.{length-take-le}
use Rattle.lent.specs.Sizes.{limit, cursor_most}
use Rattle.lexer.specs.Cursors.{Cursor, fresh}
use Rattle.lexer.specs.Runs.{run, took}
use Rattle.lexer.specs.Rules.{before}
use Rattle.lexer.specs.Steps.{Within, part, past_bytes, Skipped}
use Rattle.lexer.proofs.MoveLaws.{moves_place, moves_bounded}
use Rattle.lexer.proofs.RunLaws.{run_past, run_place, took_length}

-- ---- parts of a text

pub part_length : (s : List ℕ) (from to : ℕ) → from ≤ to → to ≤ length s → length (part s from to) ≡ to - from
part_length s from to h k = length-take-le (to - from) (drop from s) (rw length-drop (omega arith))

pub past_place : (s : List ℕ) (c : Cursor) (to : ℕ) → c.place ≤ to → to ≤ length s → (past_bytes s c to).place ≡ to
past_place s c to h k = omega (arith, moves_place (part s c.place to) c, part_length s c.place to h k)

pub within_past : (s : List ℕ) (c : Cursor) (to : ℕ) → Within s c → c.place ≤ to → to ≤ length s → Within s (past_bytes s c to)
within_past s c to x h k =
    let b = moves_bounded cursor_most (omega arith) (part s c.place to) c (x.lined, x.columned) in
    record { short = x.short; inside = omega (arith, past_place s c to h k); lined = b.0; columned = b.1 }

pub within_fresh : (s : List ℕ) → length s ≤ limit → Within s fresh
unfolding fresh
within_fresh s h = record { short = h; inside = omega arith; lined = omega arith; columned = omega arith }

-- ---- what stands before a token

-- where the run before a token ends is all that skipping says
pub skipped : (s : List ℕ) (c r : Cursor) → Within s c → r ≡ (run before 0 (drop c.place s) c).here → Skipped s c r
skipped s c r x e =
    let k = took before 0 (drop c.place s) in
    let p : r.place ≡ c.place + k = ap (λ (d : Cursor). d.place) e ∙ run_place before 0 (drop c.place s) c in
    let l : c.place + k ≤ length s = omega (arith, took_length before 0 (drop c.place s), length-drop c.place s, x.inside) in
    let m : r ≡ past_bytes s c r.place = e ∙ run_past before 0 s c r.place p in
    record { stop_is = e; moved_is = m; onward = omega arith; within = subst (Within s) (sym m) (within_past s c r.place x (omega arith) (omega arith)) }
