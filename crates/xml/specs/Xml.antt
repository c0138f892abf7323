-- What an `XML:` selection asks for: XmlTarget::from_selection.
use Rattle.std.specs.Prelude.{ℕ, List, Option, Some, None, eqb}
use Rattle.ascii.specs.Choice.{pick}
use Rattle.ascii.specs.Text.{bytes}
use Rattle.ascii.specs.Fold.{same}
use Rattle.ascii.specs.Trim.{trim_ends}
pub use Rattle.xml.specs.declared.XmlTarget.{XmlTarget}
pub use Rattle.xml.specs.declared.XmlTarget.TheVariants.{Elements, Attributes, All}

-- A key's trimmed text: the inner `match` of from_selection.
unfoldable pub key_target : List ℕ → Option XmlTarget
key_target t = pick (same t (bytes "/*")) (Some Elements) (pick (same t (bytes "//@*")) (Some Attributes) None)

-- By the number of the selection's kind: 0 is none and 1 a Key; a Regex, 2, and a number that names no kind give no target.
unfoldable pub xml_target : ℕ → List ℕ → Option XmlTarget
xml_target selection t = pick (eqb selection 0) (Some All) (pick (eqb selection 1) (key_target (trim_ends t)) None)
