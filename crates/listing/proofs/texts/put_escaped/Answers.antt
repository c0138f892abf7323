-- By the tests on the byte; each is a law of TextLaws.
use Rattle.listing.proofs.TextLaws.{escaped_mark, escaped_slash, escaped_control, escaped_plain}
use Rattle.listing.proofs.texts.put_escaped.Goals as goal

pub returns-then-b-eq34 : goal.returns-then-b-eq34
returns-then-b-eq34 c = rw (escaped_mark c.args.b c.if-b-eq34.true) c.put_bytes.ensures

pub returns-then-b-eq92 : goal.returns-then-b-eq92
returns-then-b-eq92 c = rw (escaped_slash c.args.b c.if-b-eq34.false c.if-b-eq92.true) c.put_bytes-then-b-eq92.ensures

pub returns-then-b-lt32 : goal.returns-then-b-lt32
returns-then-b-lt32 c = rw (escaped_control c.args.b c.if-b-eq34.false c.if-b-eq92.false c.if-b-lt32.true, ← c.hex_digit.ensures, ← c.hex_digit-then-b-lt32.ensures) c.put_bytes-then-b-lt32.ensures

pub returns : goal.returns
returns c = rw (escaped_plain c.args.b c.if-b-eq34.false c.if-b-eq92.false c.if-b-lt32.false) c.put_byte.ensures
