-- The action codes and value kinds of document 01, each said here alone, and which texts an action of each code has.
use Rattle.std.specs.Prelude.{ℕ, Bool, true, false, List, [], ◌∷◌, get_or, eqb, leb}
use Rattle.ascii.specs.Choice.{and, or}
pub use Rattle.records.specs.declared.marking.Shape.{Shape}
pub use Rattle.records.specs.declared.marking.Shape.TheVariants.{NoCode as no_code, Bare as bare, One as one, Two as two, Setting as setting}

-- The codes.
abbrev pub deny_code : ℕ
deny_code = 1

abbrev pub block_code : ℕ
block_code = 2

abbrev pub pass_code : ℕ
pass_code = 3

abbrev pub allow_code : ℕ
allow_code = 4

abbrev pub drop_code : ℕ
drop_code = 5

abbrev pub redirect_code : ℕ
redirect_code = 6

abbrev pub chain_code : ℕ
chain_code = 7

abbrev pub skip_code : ℕ
skip_code = 8

abbrev pub skip_after_code : ℕ
skip_after_code = 9

abbrev pub multi_match_code : ℕ
multi_match_code = 10

abbrev pub id_code : ℕ
id_code = 11

abbrev pub phase_code : ℕ
phase_code = 12

abbrev pub severity_code : ℕ
severity_code = 13

abbrev pub msg_code : ℕ
msg_code = 14

abbrev pub tag_code : ℕ
tag_code = 15

abbrev pub rev_code : ℕ
rev_code = 16

abbrev pub ver_code : ℕ
ver_code = 17

abbrev pub maturity_code : ℕ
maturity_code = 18

abbrev pub accuracy_code : ℕ
accuracy_code = 19

abbrev pub log_data_code : ℕ
log_data_code = 20

abbrev pub status_code : ℕ
status_code = 21

abbrev pub set_var_code : ℕ
set_var_code = 22

abbrev pub capture_code : ℕ
capture_code = 23

abbrev pub init_col_code : ℕ
init_col_code = 24

abbrev pub expire_var_code : ℕ
expire_var_code = 25

abbrev pub log_code : ℕ
log_code = 26

abbrev pub no_log_code : ℕ
no_log_code = 27

abbrev pub audit_log_code : ℕ
audit_log_code = 28

abbrev pub no_audit_log_code : ℕ
no_audit_log_code = 29

abbrev pub sanitise_matched_code : ℕ
sanitise_matched_code = 30

abbrev pub control_code : ℕ
control_code = 31

abbrev pub transformation_code : ℕ
transformation_code = 32

-- The value kinds.
abbrev pub string_kind : ℕ
string_kind = 1

abbrev pub int_kind : ℕ
int_kind = 2

abbrev pub increment_kind : ℕ
increment_kind = 3

abbrev pub decrement_kind : ℕ
decrement_kind = 4

abbrev pub delete_kind : ℕ
delete_kind = 5

abbrev pub macro_kind : ℕ
macro_kind = 6

-- What each code says of the words a, b and c, from 0.
unfoldable pub shapes : List Shape
shapes =
    no_code ∷
    bare ∷  -- Deny
    bare ∷  -- Block
    bare ∷  -- Pass
    bare ∷  -- Allow
    bare ∷  -- Drop
    one ∷  -- Redirect(a)
    bare ∷  -- Chain
    bare ∷  -- Skip(number)
    one ∷  -- SkipAfter(a)
    bare ∷  -- MultiMatch
    bare ∷  -- Id(number)
    bare ∷  -- Phase(number)
    bare ∷  -- Severity(number)
    one ∷  -- Msg(a)
    one ∷  -- Tag(a)
    one ∷  -- Rev(a)
    one ∷  -- Ver(a)
    bare ∷  -- Maturity(number)
    bare ∷  -- Accuracy(number)
    one ∷  -- LogData(a)
    bare ∷  -- Status(number)
    setting ∷  -- SetVar(a, b, and number or c)
    bare ∷  -- Capture
    two ∷  -- InitCol(a, b)
    one ∷  -- ExpireVar(a, number)
    bare ∷  -- Log
    bare ∷  -- NoLog
    bare ∷  -- AuditLog
    bare ∷  -- NoAuditLog
    bare ∷  -- SanitiseMatched
    two ∷  -- Control(a, b)
    one ∷  -- Transformation(a)
    []

unfoldable pub shape_of : ℕ → Shape
shape_of code = get_or shapes code no_code

-- A value kind of document 01.
abbrev pub is_kind : ℕ → Bool
is_kind k = and (leb string_kind k) (leb k macro_kind)

-- A value kind with a text.
abbrev pub text_kind : ℕ → Bool
text_kind k = or (eqb k string_kind) (eqb k macro_kind)

-- There is such a code and, for SetVar, such a value kind.
abbrev pub known_by : Shape → ℕ → Bool
known_by no_code k = false
known_by bare k = true
known_by one k = true
known_by two k = true
known_by setting k = is_kind k

-- Whether the words a, b and c are texts.
abbrev pub has_a : Shape → Bool
has_a no_code = false
has_a bare = false
has_a one = true
has_a two = true
has_a setting = true

abbrev pub has_b : Shape → Bool
has_b no_code = false
has_b bare = false
has_b one = false
has_b two = true
has_b setting = true

abbrev pub has_c : Shape → ℕ → Bool
has_c no_code k = false
has_c bare k = false
has_c one k = false
has_c two k = false
has_c setting k = text_kind k
