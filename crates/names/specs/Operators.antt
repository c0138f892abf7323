-- The operator names (operator.rs): OPERATOR_MAP, and which operators need an argument.
use Rattle.std.specs.Prelude.{ℕ, Bool, true, false, List, [], ◌∷◌, get_or, Option}
use Rattle.ascii.specs.Fold.{lowered}
use Rattle.names.specs.Tables.{Row, row, find}

-- OPERATOR_MAP in the Rust's own order, which is that of the enum OperatorName
unfoldable pub operators : List Row
operators =
    row "rx" 0 ∷
    row "pm" 1 ∷
    row "pmfromfile" 2 ∷
    row "pmf" 3 ∷
    row "streq" 4 ∷
    row "contains" 5 ∷
    row "containsword" 6 ∷
    row "beginswith" 7 ∷
    row "endswith" 8 ∷
    row "within" 9 ∷
    row "strmatch" 10 ∷
    row "eq" 11 ∷
    row "ne" 12 ∷
    row "gt" 13 ∷
    row "ge" 14 ∷
    row "lt" 15 ∷
    row "le" 16 ∷
    row "detectsqli" 17 ∷
    row "detectxss" 18 ∷
    row "validateurlencoding" 19 ∷
    row "validateutf8encoding" 20 ∷
    row "validatebyterange" 21 ∷
    row "validatehash" 22 ∷
    row "validatedtd" 23 ∷
    row "validateschema" 24 ∷
    row "verifycc" 25 ∷
    row "verifyssn" 26 ∷
    row "verifycpf" 27 ∷
    row "ipmatch" 28 ∷
    row "ipmatchfromfile" 29 ∷
    row "ipmatchf" 30 ∷
    row "rbl" 31 ∷
    row "geolookup" 32 ∷
    row "gsblookup" 33 ∷
    row "inspectfile" 34 ∷
    row "fuzzyhash" 35 ∷
    row "nomatch" 36 ∷
    row "unconditionalmatch" 37 ∷
    row "rsub" 38 ∷
    []

-- OperatorName::from_str: letter case ignored in ASCII
unfoldable pub operator_code : List ℕ → Option ℕ
operator_code name = find operators (lowered name)

-- whether each operator needs an argument, in the enum's order
unfoldable pub argument_needed : List Bool
argument_needed =
    true ∷  -- Rx
    true ∷  -- Pm
    true ∷  -- PmFromFile
    true ∷  -- Pmf
    true ∷  -- StreQ
    true ∷  -- Contains
    true ∷  -- ContainsWord
    true ∷  -- BeginsWith
    true ∷  -- EndsWith
    true ∷  -- Within
    true ∷  -- StrMatch
    true ∷  -- Eq
    true ∷  -- Ne
    true ∷  -- Gt
    true ∷  -- Ge
    true ∷  -- Lt
    true ∷  -- Le
    false ∷  -- DetectSqli
    false ∷  -- DetectXss
    false ∷  -- ValidateUrlEncoding
    false ∷  -- ValidateUtf8Encoding
    true ∷  -- ValidateByteRange
    true ∷  -- ValidateHash
    true ∷  -- ValidateDtd
    true ∷  -- ValidateSchema
    true ∷  -- VerifyCc
    true ∷  -- VerifySsn
    true ∷  -- VerifyCpf
    true ∷  -- IpMatch
    true ∷  -- IpMatchFromFile
    true ∷  -- IpMatchF
    true ∷  -- Rbl
    false ∷  -- GeoLookup
    true ∷  -- GsbLookup
    true ∷  -- InspectFile
    true ∷  -- FuzzyHash
    false ∷  -- NoMatch
    false ∷  -- UnconditionalMatch
    true ∷  -- Rsub
    []

-- OperatorName::requires_argument; a code past the enum answers no, where the Rust has none
unfoldable pub requires_argument : ℕ → Bool
requires_argument code = get_or argument_needed code false
