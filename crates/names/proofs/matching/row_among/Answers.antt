use Rattle.std.specs.Prelude.{Some}
use mathlib.Core.List.{[]}
use mathlib.Core.Path.{◌≡◌, ◌∙◌, sym, ap}
use native.Mathlib.Omega.{arith}
use lib.ListN.{length, get_or, take, length-map}
use Rattle.ascii.specs.Fold.{same, lower, lowered}
use Rattle.names.specs.Runs.{fronts}
use Rattle.names.proofs.RunLaws.{found, passed, none_left, row_fits, fronts_width, fronts_length, front_at}
use Rattle.names.proofs.matching.row_among.Goals as goal
use Rattle.names.proofs.matching.row_among.Goals.{After-spells}

pub in_words-sought-requires-clause-some : goal.in_words-sought-requires-clause-some
in_words-sought-requires-clause-some c =
    let s = c.args in
    let w = fronts_width s.n (length s.rows.now) s.listed.now c.requires.fits.fit in
    (w.0, omega arith)

pub offset_bounds-rows-row : goal.offset_bounds-rows-row
offset_bounds-rows-row c =
    let s = c.args in
    omega (arith, row_fits s.n (length s.rows.now) s.listed.now c.requires.fits.fit c.loop-row.row-index (omega arith))

pub bounds-rows-row : goal.bounds-rows-row
bounds-rows-row c =
    let s = c.args in
    row_fits s.n (length s.rows.now) s.listed.now c.requires.fits.fit c.loop-row.row-index (omega arith)

pub spells-requires-clause-here : goal.spells-requires-clause-here
spells-requires-clause-here c =
    let s = c.args in
    let w = fronts_width s.n (length s.rows.now) s.listed.now c.requires.fits.fit in
    omega arith

pub spells-requires-clause-some : goal.spells-requires-clause-some
spells-requires-clause-some c =
    let s = c.args in
    let w = fronts_width s.n (length s.rows.now) s.listed.now c.requires.fits.fit in
    (w.0, omega arith)

-- what it found
told : (c : After-spells) → c.spells.result ≡ same (take c.args.n (get_or c.args.rows.now (get_or c.args.listed.now c.loop-row.row-index 0) [])) (lowered c.args.name.now)
told c =
    let s = c.args in
    c.spells.ensures.tells (lowered s.name.now) (length-map s.name.now lower ∙ sym c.requires.here) c.in_words-sought.ensures

pub returns-then-spells : goal.returns-then-spells
returns-then-spells c =
    let s = c.args in
    let l = c.loop-row in
    let q = front_at s.n s.rows.now s.listed.now l.row-index (omega arith) in
    record {
      found = sym (ap Some q.1)
          ∙ found (fronts s.n s.rows.now s.listed.now) (lowered s.name.now) l.row-index (rw (fronts_length s.n s.rows.now s.listed.now) (omega arith))
          (rw q.0 (sym (told (goal.at.returns-then-spells c).After-spells) ∙ c.if-spells.true))
          ∙ l.invariant;
    }

pub loop-row-preserved : goal.loop-row-preserved
loop-row-preserved c =
    let s = c.args in
    let l = c.loop-row in
    let q = front_at s.n s.rows.now s.listed.now l.row-index (omega arith) in
    passed (fronts s.n s.rows.now s.listed.now) (lowered s.name.now) l.row-index (rw (fronts_length s.n s.rows.now s.listed.now) (omega arith))
    (rw q.0 (sym (told (goal.at.loop-row-preserved c).After-spells) ∙ c.if-spells.false))
    ∙ l.invariant

pub returns : goal.returns
returns c =
    let s = c.args in
    let l = c.loop-row in
    record {
      found = none_left (fronts s.n s.rows.now s.listed.now) (lowered s.name.now) l.row-index (rw (fronts_length s.n s.rows.now s.listed.now) c.loop-row-test.false)
          ∙ l.invariant;
    }
