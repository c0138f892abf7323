-- Each kind is the text that it stands for.
use Rattle.ascii.specs.Text.{bytes}
use Rattle.listing.specs.Json.{escapes, escaped}
use Rattle.listing.proofs.elements.put_kind.Goals as goal

pub returns-in-Directive : goal.returns-in-Directive
unfolding bytes escapes escaped
returns-in-Directive c = rw c.in-Directive.is c.put_bytes.ensures

pub returns-in-Word : goal.returns-in-Word
unfolding bytes escapes escaped
returns-in-Word c = rw c.in-Word.is c.put_bytes-in-Word.ensures

pub returns-in-QuotedString : goal.returns-in-QuotedString
unfolding bytes escapes escaped
returns-in-QuotedString c = rw c.in-QuotedString.is c.put_bytes-in-QuotedString.ensures

pub returns-in-Comment : goal.returns-in-Comment
unfolding bytes escapes escaped
returns-in-Comment c = rw c.in-Comment.is c.put_bytes-in-Comment.ensures

pub returns-in-Newline : goal.returns-in-Newline
unfolding bytes escapes escaped
returns-in-Newline c = rw c.in-Newline.is c.put_bytes-in-Newline.ensures
