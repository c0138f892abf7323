-- By the laws of a record's words; its places are those that the calls give.
use mathlib.Core.Path.{◌∙◌, sym}
use Prim.Native.Nat.{◌+◌}
use Rattle.spelled.proofs.EntryLaws.{reads_unknown, reads_past, reads_stands}
use Rattle.spelled.proofs.entries.read_entry.Goals as goal

pub returns-then-not-is_known : goal.returns-then-not-is_known
returns-then-not-is_known c = reads_unknown _ _ _ _ c.requires.action_words_in_bounds (sym c.is_known.ensures ∙ c.if-not-is_known.true)

pub returns-then-n-past : goal.returns-then-n-past
returns-then-n-past c = reads_past _ _ _ _ c.requires.action_words_in_bounds c.requires.first_in_bounds.0 c.requires.first_in_bounds.1 c.is_text.ensures c.is_text-2.ensures c.is_text-3.ensures c.text_end-second.ensures c.text_end-third.ensures c.text_end-past.ensures c.if-n-past.true

pub returns : goal.returns
returns c = reads_stands _ _ _ _ c.requires.action_words_in_bounds c.requires.first_in_bounds.0 c.requires.first_in_bounds.1 c.is_text.ensures c.is_text-2.ensures c.is_text-3.ensures c.text_end-second.ensures c.text_end-third.ensures c.text_end-past.ensures (sym c.is_known.ensures ∙ c.if-not-is_known.false) (c.shared_slice_known-8-1.given (c.args.at + 1)).fits c.if-n-past.false
