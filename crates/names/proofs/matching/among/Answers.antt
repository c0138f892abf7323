use Rattle.std.specs.Prelude.{Some}
use mathlib.Core.Path.{◌≡◌, ◌∙◌, sym, ap}
use native.Mathlib.Omega.{arith}
use lib.ListN.{length, get_or, take, drop, length-map}
use Rattle.ascii.specs.Fold.{same, upper, uppered}
use Rattle.names.specs.Runs.{parts}
use Rattle.names.proofs.RunLaws.{found, passed, none_left, part_at, part_fits, parts_length, parts_width}
use Rattle.names.proofs.matching.among.Goals as goal
use Rattle.names.proofs.matching.among.Goals.{After-spells}

pub in_words-sought-requires-clause-some : goal.in_words-sought-requires-clause-some
in_words-sought-requires-clause-some c =
    let s = c.args in
    parts_width s.n (length s.run.now) s.parts.now c.requires.fits.fit

pub spells-requires-clause-here : goal.spells-requires-clause-here
spells-requires-clause-here c =
    let s = c.args in
    part_fits s.n (length s.run.now) s.parts.now c.requires.fits.fit c.loop-at.at-index (omega arith)

pub spells-requires-clause-some : goal.spells-requires-clause-some
spells-requires-clause-some c =
    let s = c.args in
    parts_width s.n (length s.run.now) s.parts.now c.requires.fits.fit

-- what a turn found
told : (c : After-spells) → c.spells.result ≡ same (take c.args.n (drop (get_or c.args.parts.now c.loop-at.at-index (0, 0)).0 c.args.run.now)) (uppered c.args.name.now)
told c =
    let s = c.args in
    c.spells.ensures.tells (uppered s.name.now) (length-map s.name.now upper ∙ sym c.requires.here) c.in_words-sought.ensures

pub returns-then-spells : goal.returns-then-spells
returns-then-spells c =
    let s = c.args in
    let l = c.loop-at in
    let q = part_at s.n s.run.now s.parts.now l.at-index (omega arith) in
    record {
      found = sym (ap Some q.1)
          ∙ found (parts s.n s.run.now s.parts.now) (uppered s.name.now) l.at-index (rw (parts_length s.n s.run.now s.parts.now) (omega arith))
          (rw q.0 (sym (told (goal.at.returns-then-spells c).After-spells) ∙ c.if-spells.true))
          ∙ l.invariant;
    }

pub loop-at-preserved : goal.loop-at-preserved
loop-at-preserved c =
    let s = c.args in
    let l = c.loop-at in
    let q = part_at s.n s.run.now s.parts.now l.at-index (omega arith) in
    passed (parts s.n s.run.now s.parts.now) (uppered s.name.now) l.at-index (rw (parts_length s.n s.run.now s.parts.now) (omega arith))
    (rw q.0 (sym (told (goal.at.loop-at-preserved c).After-spells) ∙ c.if-spells.false))
    ∙ l.invariant

pub returns : goal.returns
returns c =
    let s = c.args in
    let l = c.loop-at in
    record {
      found = none_left (parts s.n s.run.now s.parts.now) (uppered s.name.now) l.at-index (rw (parts_length s.n s.run.now s.parts.now) c.loop-at-test.false)
          ∙ l.invariant;
    }
