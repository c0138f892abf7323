-- How actions become words and texts in lent memory.
pub use Rattle.records.specs.Layout.{slot_word, slot_end, full_record, full_text, records_from, words_from, texts}
unfoldable pub use Rattle.records.specs.Layout.{action_record}
