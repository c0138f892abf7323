-- Both buffers are cleared, and the name stored at the front of the text.
use mathlib.Core.Path.{◌∙◌, refl, ap}
use mathlib.Core.List.{List}
use Prim.Native.Nat.{ℕ}
use native.Mathlib.Omega.{arith}
use lib.ListN.{length-map}
use Rattle.ascii.specs.Fold.{lower, lowered}
use Rattle.lent.specs.Buffers.{stored}
use Rattle.lent.proofs.EndLaws.{refused_text_lem}
use Rattle.actions.proofs.lists.refuse_name.Goals as goal

pub returns : goal.returns
returns c =
    let name = lowered c.args.name.now in
    let e = c.store_lowered.ensures ∙ ap (λ (l : List ℕ). stored l 0 name) (c.fill-2.ensures.after (λ y e. e)) in
    record { text_after = refused_text_lem c.args.text.now name e (omega (arith, c.requires, length-map c.args.name.now lower)); records_after = c.fill.ensures.after (λ y e. e); value = refl }
