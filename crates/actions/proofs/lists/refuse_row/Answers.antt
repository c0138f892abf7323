-- Both buffers are cleared, and the name stored at the front of the text.
use mathlib.Core.Path.{◌∙◌, ap}
use mathlib.Core.List.{List}
use Prim.Native.Nat.{ℕ}
use Rattle.lent.specs.Buffers.{stored}
use Rattle.lent.proofs.EndLaws.{refused_text_lem}
use Rattle.single_action.specs.Table.{row_at}
use Rattle.actions.specs.Listing.{badly}
use Rattle.actions.proofs.lists.refuse_row.Goals as goal

pub returns : goal.returns
returns c =
    let name = (row_at c.args.row).name in
    let e = c.put_name-name.ensures in
    record { text_after = refused_text_lem c.args.text.now name (e.0 ∙ ap (λ (l : List ℕ). stored l 0 name) (c.fill-2.ensures.after (λ y e. e))) c.requires; records_after = c.fill.ensures.after (λ y e. e); value = ap (λ (n : ℕ). badly c.args.flaw c.args.piece n c.args.span) e.1 }
