-- Records and texts of a list of actions: the laws of `records`, and how long the buffers are that hold them.
use mathlib.Core.Path.{◌≡◌, ◌∙◌, ap}
use mathlib.Core.List.{List}
use Prim.Native.Nat.{ℕ, ◌*◌}
use lib.ListN.{length}
use Rattle.lent.specs.Sizes.{action_words}
use Rattle.lent.specs.Sources.{Sourced}
use Rattle.lent.proofs.BufferLaws.{stored_length, each_length}
use Rattle.single_action.specs.Actions.{Action}
use Rattle.actions.specs.Layout.{records_from, texts}
use Rattle.actions.specs.Listing.{Laid}
pub use Rattle.records.proofs.LayoutLaws.{texts_more, texts_length, record_length, words_length, words_joined, each_record}

-- both buffers are as long as they were
module _ {xs : List (Sourced Action)} {offset place : ℕ} {text text' records records' : List ℕ} {count used : ℕ} (x : Laid xs offset place text text' records records' count used) where
  pub text_long : length text' ≡ length text
  text_long = ap length x.written ∙ stored_length text offset (texts xs)

  pub records_long : length records' ≡ length records
  records_long = ap length x.recorded ∙ each_length records (place * action_words) (records_from offset xs)
