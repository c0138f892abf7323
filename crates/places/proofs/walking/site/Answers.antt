use Rattle.places.proofs.WalkLaws.{start_stands}
use Rattle.places.proofs.walking.site.Goals as goal

pub site_from-requires : goal.site_from-requires
site_from-requires c = start_stands c.args.rule c.args.s.now c.args.k c.start.ensures
