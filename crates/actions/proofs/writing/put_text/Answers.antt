-- Each kind of text is stored by itself; its length is known by its places.
use mathlib.Core.Path.{sym}
use native.Mathlib.Omega.{arith}
use Rattle.ascii.specs.Text.{bytes}
use Rattle.lent.proofs.BufferLaws.{stored_none}
use Rattle.actions.proofs.WritingLaws.{copied_put, lowered_put}
use Rattle.actions.proofs.writing.put_text.Goals as goal

pub returns-in-Absent : goal.returns-in-Absent
returns-in-Absent c = record { text_after = rw c.in-Absent.is (sym (stored_none _ _)); value = rw c.in-Absent.is (omega arith) }

pub returns-in-Copied : goal.returns-in-Copied
returns-in-Copied c = let whole = copied_put c.args.s.now _ _ _ c.requires.lies c.in-Copied.is _ _ c.store.ensures in record { text_after = whole.0; value = whole.1 }

pub returns-in-Lowered : goal.returns-in-Lowered
returns-in-Lowered c = let whole = lowered_put c.args.s.now _ _ _ c.requires.lies c.in-Lowered.is _ _ c.store_lowered.ensures in record { text_after = whole.0; value = whole.1 }

pub returns-in-Tx : goal.returns-in-Tx
unfolding bytes
returns-in-Tx c = record { text_after = rw c.in-Tx.is c.store-in-Tx.ensures; value = rw c.in-Tx.is (omega arith) }

pub returns-in-One : goal.returns-in-One
unfolding bytes
returns-in-One c = record { text_after = rw c.in-One.is c.store-in-One.ensures; value = rw c.in-One.is (omega arith) }
