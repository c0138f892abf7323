-- By the number, then by the text where it is listed.
use mathlib.Core.Path.{◌∙◌, sym}
use Rattle.listing.proofs.RecordLaws.{made_none, made_strange, made_plain, made_hidden}
use Rattle.listing.proofs.records.made_kind.Goals as goal
use Rattle.listing.proofs.records.made_kind.Goals.{else-shows_text-via-then-shows_text+else-is_strange_text, else-shows_text-via-else-shows_text}

pub returns-then-is_strange_text : goal.returns-then-is_strange_text
returns-then-is_strange_text c =
    made_strange c.args.code c.args.span c.args.text.now c.in-Ok.kind c.in-Ok.ensures (sym c.shows_text.ensures ∙ c.if-shows_text.true) (sym c.is_strange_text.ensures ∙ c.if-is_strange_text.true)

pub returns-in_default : goal.returns-in_default
returns-in_default c = made_none c.args.code c.args.span c.args.text.now c.in_default.field-0 c.in_default.ensures

pub returns : goal.returns
returns c =
    elim c.else-shows_text.branch [
      | else-shows_text-via-then-shows_text+else-is_strange_text w ↦ made_plain c.args.code c.args.span c.args.text.now c.in-Ok.kind c.in-Ok.ensures (sym c.shows_text.ensures ∙ w.if-shows_text.true) (sym w.is_strange_text.ensures ∙ w.if-is_strange_text.false)
      | else-shows_text-via-else-shows_text w ↦ made_hidden c.args.code c.args.span c.args.text.now c.in-Ok.kind c.in-Ok.ensures (sym c.shows_text.ensures ∙ w.if-shows_text.false)
    ]
