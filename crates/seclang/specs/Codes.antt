-- Lookups and tests by a number that says which, and the library's own number.
use Rattle.std.specs.Prelude.{ℕ, Bool, false, List, eqb, Option, Some, None}
use Rattle.ascii.specs.Choice.{pick}
use Rattle.names.specs.Variables.{variable_code, is_collection, is_implemented}
use Rattle.names.specs.Operators.{operator_code, requires_argument}
use Rattle.names.specs.Severities.{severity_code}
use Rattle.xml.specs.declared.XmlTarget.{XmlTarget}
use Rattle.xml.specs.declared.XmlTarget.TheVariants.{Elements, Attributes, All}
use Rattle.rules.specs.declared.selecting.RuleIdSelector.{RuleIdSelector}
use Rattle.rules.specs.declared.selecting.RuleIdSelector.TheVariants.{Single, Range}
use Rattle.directives.specs.declared.Version.{Version}
use Rattle.directives.specs.declared.Version.TheVariants.{TwoSix, TwoSeven}

-- what no name has for a code
abbrev pub no_code : ℕ
no_code = 18446744073709551615

abbrev pub code_of : Option ℕ → ℕ
code_of (Some code) = code
code_of None = no_code

-- 0 variables, 1 operators, 2 severity words; in any other table nothing is found
unfoldable pub lookup_in : ℕ → List ℕ → Option ℕ
lookup_in table name =
    pick (eqb table 0) (variable_code name)
    (pick (eqb table 1) (operator_code name)
    (pick (eqb table 2) (severity_code name)
    None))

-- 0 is_collection, 1 is_implemented, 2 requires_argument; any other test answers no
unfoldable pub test_of : ℕ → ℕ → Bool
test_of test code =
    pick (eqb test 0) (is_collection code)
    (pick (eqb test 1) (is_implemented code)
    (pick (eqb test 2) (requires_argument code)
    false))

-- the places of the Rust's enum, and 3 where there is no target
abbrev pub target_of : Option XmlTarget → ℕ
target_of (Some Elements) = 0
target_of (Some Attributes) = 1
target_of (Some All) = 2
target_of None = 3

-- a range of ids, or the first alone
abbrev pub selector_of : Bool → ℕ → ℕ → RuleIdSelector
selector_of ranged start end = pick ranged (Range start end) (Single start)

-- the version that a package is written for: 2.7 or 2.6
abbrev pub version_of : Bool → Version
version_of from27 = pick from27 TwoSeven TwoSix

-- SECLANG_VERSION of the header that says what this library does
abbrev pub version : ℕ
version = 5
