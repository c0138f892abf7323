-- The span is taken apart, found and made again, within the limit.
use mathlib.Core.Path.{◌∙◌}
use Prim.Native.Nat.{◌≤◌}
use native.Mathlib.Omega.{arith}
use Rattle.lent.specs.Sizes.{limit}
use Rattle.places.proofs.MoveLaws.{halves_low, sited_bounds, word_is}
use Rattle.places.proofs.moving.word_site.Goals as goal
use Rattle.places.proofs.moving.word_site.Goals.{After-site_from-part}

bounds : (c : After-site_from-part) → let p = c.site_from-part.result in (p.first ≤ p.past) × (p.past ≤ limit)
bounds c = let p = c.requires in sited_bounds p.0 p.1 c.site_from-part.ensures

pub overflow_add-past : goal.overflow_add-past
overflow_add-past c = omega (arith, c.span_offset-first.ensures, c.span_length.ensures, halves_low c.args.word, c.ranges.word.fits)

pub overflow_cast-part : goal.overflow_cast-part
overflow_cast-part c = let b = bounds (goal.at.overflow_cast-part c).After-site_from-part in let lo = b.0 in let hi = b.1 in omega arith

pub overflow_sub-part : goal.overflow_sub-part
overflow_sub-part c = (bounds (goal.at.overflow_sub-part c).After-site_from-part).0

pub overflow_cast-part-2 : goal.overflow_cast-part-2
overflow_cast-part-2 c = let b = bounds (goal.at.overflow_cast-part-2 c).After-site_from-part in let lo = b.0 in let hi = b.1 in omega arith

pub returns : goal.returns
returns c =
    let d = c in
    let p = c.requires in
    record {
      site = c.span.ensures ∙ word_is p.0 p.1 d.site_from-part.ensures c.args.word c.span_offset-first.ensures (omega (arith, c.span_offset-first.ensures, c.span_length.ensures));
      stands = d.site_from-part.ensures.stands;
      paid = d.site_from-part.ensures.paid;
    }
