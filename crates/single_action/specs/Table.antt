-- The action names and their rules: the arms of parse_single_action as rows.
use Rattle.std.specs.Prelude.{◌≡◌, ℕ, ◌-◌, ◌^◌, ◌<◌, List, [], ◌∷◌, get_or, eqb, Option, Some, None}
use Prim.Native.String.{String}
use Rattle.ascii.specs.Choice.{pick}
use Rattle.ascii.specs.Text.{bytes}
use Rattle.ascii.specs.Fold.{lowered, same_lowered}
use Rattle.records.specs.Codes as K
pub use Rattle.single_action.specs.declared.naming.Rule.{Rule}
pub use Rattle.single_action.specs.declared.naming.Rule.TheVariants.{Plain as plain, Wanted as wanted, Unmarked as unmarked, UpTo as up_to, Severity as severity, Equation as equation, Expiry as expiry, Setting as setting}

-- A name as the Rust spells it in an error, the action's code, and its rule.
pub record Row : Type 0 where
  pub name : List ℕ
  pub code : ℕ
  pub rule : Rule

-- The row with this name, code and rule.
abbrev pub row : String → ℕ → Rule → Row
row n c r = record { name = bytes n; code = c; rule = r }

-- The largest number of so many bits.
abbrev pub largest : ℕ → ℕ
largest bits = 2 ^ bits - 1

-- The rows in the order of the arms of parse_single_action.
unfoldable pub rows : List Row
rows =
    row "deny" K.deny_code plain ∷
    row "block" K.block_code plain ∷
    row "pass" K.pass_code plain ∷
    row "allow" K.allow_code plain ∷
    row "drop" K.drop_code plain ∷
    row "redirect" K.redirect_code wanted ∷
    row "chain" K.chain_code plain ∷
    row "skip" K.skip_code (up_to (largest 32)) ∷
    row "skipAfter" K.skip_after_code wanted ∷
    row "id" K.id_code (up_to (largest 64)) ∷
    row "phase" K.phase_code (up_to (largest 8)) ∷
    row "severity" K.severity_code severity ∷
    row "msg" K.msg_code unmarked ∷
    row "tag" K.tag_code unmarked ∷
    row "rev" K.rev_code unmarked ∷
    row "ver" K.ver_code unmarked ∷
    row "maturity" K.maturity_code (up_to (largest 8)) ∷
    row "accuracy" K.accuracy_code (up_to (largest 8)) ∷
    row "logdata" K.log_data_code unmarked ∷
    row "status" K.status_code (up_to (largest 16)) ∷
    row "setvar" K.set_var_code setting ∷
    row "capture" K.capture_code plain ∷
    row "log" K.log_code plain ∷
    row "nolog" K.no_log_code plain ∷
    row "auditlog" K.audit_log_code plain ∷
    row "noauditlog" K.no_audit_log_code plain ∷
    row "sanitisematched" K.sanitise_matched_code plain ∷
    row "sanitizematched" K.sanitise_matched_code plain ∷
    row "ctl" K.control_code equation ∷
    row "initcol" K.init_col_code equation ∷
    row "setsid" K.no_audit_log_code plain ∷
    row "setuid" K.no_audit_log_code plain ∷
    row "deprecatevar" K.no_audit_log_code plain ∷
    row "expirevar" K.expire_var_code expiry ∷
    row "multimatch" K.multi_match_code plain ∷
    row "exec" K.no_audit_log_code plain ∷
    row "append" K.no_audit_log_code plain ∷
    row "prepend" K.no_audit_log_code plain ∷
    row "proxy" K.no_audit_log_code plain ∷
    row "pause" K.no_audit_log_code plain ∷
    row "xmlns" K.no_audit_log_code plain ∷
    []

-- A row, or that there is none.
pub data Found : Type 0 where
  found : Row → Found
  missing : Found

-- The row of a lower-cased name: the `match` of parse_single_action.
unfoldable pub find : List Row → List ℕ → Found
find [] name = missing
find (r ∷ rs) name = pick (same_lowered r.name name) (found r) (find rs name)

-- ---- by places

-- The row at a place.
abbrev pub row_at : ℕ → Row
row_at k = get_or rows k (row "" 0 plain)

-- r is the place of a name's row, or that it has none.
abbrev pub Placed : List ℕ → Option ℕ → Type 0
Placed name (Some r) = (r < 41) × (find rows (lowered name) ≡ found (row_at r))
Placed name None = find rows (lowered name) ≡ missing

-- None of the rows at these places has the name.
abbrev pub NoneOf : List ℕ → List ℕ → Type 0
NoneOf [] name = Unit {0}
NoneOf (k ∷ ks) name = (lowered (row_at k).name ≡ lowered name → ⊥) × NoneOf ks name

-- r is the place of a row with the name, or that none at these places has it.
abbrev pub Among : List ℕ → List ℕ → Option ℕ → Type 0
Among ks name (Some r) = (r < 41) × (lowered (row_at r).name ≡ lowered name)
Among ks name None = NoneOf ks name

-- The rules by number, as the code's table holds them.
unfoldable pub rule_of : ℕ → Rule
rule_of n =
    pick (eqb n 1) wanted
    (pick (eqb n 2) unmarked
    (pick (eqb n 3) (up_to (largest 8))
    (pick (eqb n 4) (up_to (largest 16))
    (pick (eqb n 5) (up_to (largest 32))
    (pick (eqb n 6) (up_to (largest 64))
    (pick (eqb n 7) severity
    (pick (eqb n 8) equation
    (pick (eqb n 9) expiry
    (pick (eqb n 10) setting plain)))))))))
