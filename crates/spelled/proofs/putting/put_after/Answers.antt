-- The byte where the place is inside, and the run behind it.
use mathlib.Core.Logic.{⊎_elim}
use mathlib.Core.Path.{◌∙◌}
use mathlib.Core.List.{[], ◌∷◌}
use lib.ListN.{length-set}
use Rattle.listing.proofs.PutLaws.{put_more, put_set, put_past}
use Rattle.spelled.proofs.putting.put_after.Goals as goal

pub shape_of-out : goal.shape_of-out
shape_of-out c = c.put_bytes.ensures.long ∙ ⊎_elim (λ w. rw w.out-is (simp length-set)) (λ w. rw w.out-is) c.if-at-out.branch-raw

pub returns : goal.returns
returns c = put_more {xs = c.args.b ∷ []} (⊎_elim (λ w. rw w.out-is (put_set _ _ _ w.if-at-out.true)) (λ w. rw w.out-is (put_past _ _ _ w.if-at-out.false)) c.if-at-out.branch-raw) c.put_bytes.ensures
