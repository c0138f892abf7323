-- A walk to the part's last byte, on or anew, with a note of its first.
use mathlib.Core.Path.{◌∙◌}
use Rattle.places.specs.Steps.{Stands}
use Rattle.places.proofs.WalkLaws.{start_stands, sites_full, sites_none, sites_empty}
use Rattle.places.proofs.walking.site_from.Goals as goal
use Rattle.places.proofs.walking.site_from.Goals.{then-stop-w, else-stop-w, else-first-past-via-then-first-past+else-first-w, else-first-past-via-else-first-past}

pub returns-then-first-w : goal.returns-then-first-w
returns-then-first-w c =
    let a = c.args in
    let o : Stands a.rule a.s.now a.k c.if-stop-w.w =
    elim c.if-stop-w.branch [ then-stop-w w ↦ (start_stands a.rule a.s.now a.k (w.w-is ∙ w.start.ensures)).0 | else-stop-w w ↦ rw w.w-is c.requires.0 ] in
    sites_full a.first a.past o c.first_stop-stop.ensures c.pass_to-noted.ensures c.if-first-past.true c.if-first-w.true

pub returns : goal.returns
returns c =
    let a = c.args in
    let o : Stands a.rule a.s.now a.k c.if-stop-w.w =
    elim c.if-stop-w.branch [ then-stop-w w ↦ (start_stands a.rule a.s.now a.k (w.w-is ∙ w.start.ensures)).0 | else-stop-w w ↦ rw w.w-is c.requires.0 ] in
    let x = c.pass_to-noted.ensures in
    elim c.else-first-past.branch [
      | else-first-past-via-then-first-past+else-first-w w ↦ sites_none a.first a.past o c.first_stop-stop.ensures x w.if-first-past.true w.if-first-w.false
      | else-first-past-via-else-first-past w ↦ sites_empty a.first a.past o c.first_stop-stop.ensures x w.if-first-past.false
    ]
