-- Where the list was shorter it is taken into scratch once more, and its records go through the normaliser first.
use mathlib.Core.Path.{◌≡◌, ap, ◌∙◌}
use Prim.Native.Nat.{◌*◌}
use lib.Dec.{ltb}
use borrow.Author.Tests.{lt-ltb, le-ltb}
use Rattle.ascii.specs.Choice.{pick}
use Rattle.lent.specs.Sizes.{action_words}
use Rattle.places.specs.declared.Rule.TheVariants.{Joined}
use Rattle.places.specs.Sites.{site_word}
use Rattle.places.specs.Moves.{last_changed}
use Rattle.directives.specs.Settling.{list_text, token_word}
use Rattle.directives.proofs.SettleLaws.{listed_at, list_records}
use Rattle.directives.proofs.settling.settle_list.Goals as goal
use Rattle.directives.proofs.settling.settle_list.Goals.{Joined-shrunk-gt0, then-shrunk-gt0, else-shrunk-gt0}

pub slice_bounds-resite-count : goal.slice_bounds-resite-count
slice_bounds-resite-count c = (listed_at c.requires.0 c.requires.1 c.take_arguments.ensures).order

pub slice_bounds-resite-start : goal.slice_bounds-resite-start
slice_bounds-resite-start c = (listed_at c.requires.0 c.requires.1 c.take_arguments.ensures).order

pub slice_bounds-resite-end : goal.slice_bounds-resite-end
slice_bounds-resite-end c = (listed_at c.requires.0 c.requires.1 c.take_arguments.ensures).inside

-- the records before the last step
joined : (c : Joined-shrunk-gt0) → let a = c.args in c.if-shrunk-gt0.records ≡ pick (ltb 0 a.shrunk) (last_changed (site_word Joined 0 (list_text a.s.now a.from)) action_words a.count (a.place * action_words) a.records.now) a.records.now
joined c =
    elim c.if-shrunk-gt0.branch [
      | then-shrunk-gt0 w ↦ w.records-is ∙ rw (lt-ltb 0 c.args.shrunk w.if-shrunk-gt0.true) (list_records c.requires.0 c.requires.1 w.take_arguments.ensures w.resite.ensures)
      | else-shrunk-gt0 w ↦ w.records-is ∙ rw (le-ltb 0 c.args.shrunk w.if-shrunk-gt0.false)
    ]

pub returns : goal.returns
returns c = let a = c.args in c.site_records.ensures ∙ ap (last_changed (token_word a.s.now a.list.token) action_words a.count (a.place * action_words)) (joined (goal.at.returns c).Joined-shrunk-gt0)
