-- By the reader's answer; each way is one law of LineLaws.
use mathlib.Core.Path.{sym}
use Prim.Native.Nat.{◌*◌}
use native.Mathlib.Omega.{arith}
use lib.Seq.{length-take-le}
use Rattle.listing.proofs.LineLaws.{refused_line, read_fits, read_within, read_line}
use Rattle.listing.proofs.writing.list_text.Goals as goal

pub overflow_mul-words : goal.overflow_mul-words
overflow_mul-words c = omega (arith, read_fits c.tokens.ensures c.in-Ok.read c.in-Ok.is)

pub slice_bounds-put_listing-end : goal.slice_bounds-put_listing-end
slice_bounds-put_listing-end c = read_within c.tokens.ensures c.in-Ok.read c.in-Ok.is

pub slice_bounds-put_listing-end-in-Ok : goal.slice_bounds-put_listing-end-in-Ok
slice_bounds-put_listing-end-in-Ok c = sym (length-take-le (c.in-Ok.read.count * 5) c.tokens.new.records (read_within c.tokens.ensures c.in-Ok.read c.in-Ok.is))

pub put_byte-end-requires : goal.put_byte-end-requires
put_byte-end-requires c = c.put_listing-rows.ensures.near

pub returns-in-Ok : goal.returns-in-Ok
returns-in-Ok c = read_line c.tokens.ensures c.in-Ok.read c.in-Ok.is c.stop_at-stop.ensures c.put_listing-rows.ensures c.put_byte-end.ensures c.finish.ensures

pub returns-in-Err-Gate-TooLong : goal.returns-in-Err-Gate-TooLong
returns-in-Err-Gate-TooLong c = refused_line c.tokens.ensures 1 _ (omega arith) (rw (c.in-Err-Gate-TooLong.is, c.in-Err-Gate-TooLong.field-0-is, c.in-Err-Gate-TooLong.field-0-0-is)) c.write_refusal_line.ensures

pub returns-in-Err-Gate-NotAscii : goal.returns-in-Err-Gate-NotAscii
returns-in-Err-Gate-NotAscii c = refused_line c.tokens.ensures 2 _ (omega arith) (rw (c.in-Err-Gate-NotAscii.is, c.in-Err-Gate-NotAscii.field-0-is, c.in-Err-Gate-NotAscii.field-0-0-is)) c.write_refusal_line-in-Err-Gate-NotAscii.ensures

pub returns-in-Err-Gate-Short : goal.returns-in-Err-Gate-Short
returns-in-Err-Gate-Short c = refused_line c.tokens.ensures 3 _ (omega arith) (rw (c.in-Err-Gate-Short.is, c.in-Err-Gate-Short.field-0-is, c.in-Err-Gate-Short.field-0-0-is)) c.write_refusal_line-in-Err-Gate-Short.ensures

pub returns-in-Err-NoRoom : goal.returns-in-Err-NoRoom
returns-in-Err-NoRoom c = refused_line c.tokens.ensures 4 _ (omega arith) (rw (c.in-Err-NoRoom.is, c.in-Err-NoRoom.field-0-is)) c.write_refusal_line-in-Err-NoRoom.ensures
