-- Single actions and setvars worked out, at the edges.
use Rattle.std.specs.Prelude.{◌≡◌, refl, Bool, true, false, List, [], ◌∷◌, ℕ, ◌^◌, ◌-◌}
use Prim.Native.String.{String}
use Rattle.ascii.specs.Choice.{pick}
use Rattle.ascii.specs.Text.{bytes}
use Rattle.ascii.specs.Classes.{white, digit}
use Rattle.ascii.specs.Fold.{lower, same}
use Rattle.ascii.specs.Trim.{strip_start, strip_end}
use Rattle.ascii.specs.Numbers.{value, all_digits, digits_by, unsigned_by, signed_word}
use Rattle.ascii.specs.Splits.{split}
use Rattle.lent.specs.declared.refusing.Flaw.TheVariants as Flaw
use Rattle.names.specs.Tables as N
use Rattle.names.specs.Severities.{severities, severity_code}
use Rattle.single_action.specs.Marks.{quotation, paired, unpaired}
use Rattle.single_action.specs.Setvar.{SetValue, text, increment, decrement, delete, macro, setvar_of, var_name, name_of, has_macro, plain_value, value_of, setvar_bare, setvar}
use Rattle.single_action.specs.Table.{Rule, plain, wanted, unmarked, up_to, severity, equation, expiry, setting, Row, rows, find}
use Rattle.single_action.specs.Actions.{absent, present, action, Single, done, bad, unknown, severity_number, with_text, with_none, named, single}

-- What a piece comes to. To unfold it is to unfold every definition that a piece is read by.
unfoldable pub Says : String → Single → Type 0
unfolding bytes white digit lower same strip_start strip_end value all_digits digits_by unsigned_by signed_word N.find severities severity_code quotation paired unpaired split name_of has_macro plain_value value_of setvar_bare setvar rows find severity_number with_text with_none named single
Says s x = single (bytes s) ≡ x

-- What a setvar alone says: collection, key, value.
unfoldable pub Sets : String → String → String → SetValue → Type 0
unfolding Says
Sets s c k v = setvar (bytes s) ≡ setvar_of (var_name (bytes c) (bytes k)) v

-- ---- who wants an argument

abbrev pub wants : Rule → Bool
wants plain = false
wants wanted = true
wants unmarked = false
wants (up_to most) = true
wants severity = true
wants equation = true
wants expiry = false
wants setting = true

unfoldable pub wanting : List Row → List (List ℕ)
wanting [] = []
wanting (r ∷ rs) = pick (wants r.rule) (r.name ∷ wanting rs) (wanting rs)

-- the twelve actions of document 02: seven that read a number, and five that take a text
pub twelve : wanting rows
    ≡ bytes "redirect" ∷ bytes "skip" ∷ bytes "skipAfter" ∷ bytes "id" ∷ bytes "phase" ∷ bytes "severity" ∷ bytes "maturity" ∷ bytes "accuracy" ∷ bytes "status" ∷ bytes "setvar" ∷ bytes "ctl" ∷ bytes "initcol" ∷ []
unfolding wanting rows bytes
twelve = refl

-- ---- a piece

-- the name is not trimmed
pub blank_name : Says "deny :x" (unknown (bytes "deny "))
unfolding Says
blank_name = refl

-- the one spelling with a capital
pub spelled : Says "SKIPAFTER" (bad Flaw.Absent (bytes "skipAfter"))
unfolding Says
spelled = refl

-- an argument, the empty one
pub empty : Says "id:" (bad Flaw.Unreadable (bytes "id"))
unfolding Says
empty = refl

pub sign_alone : Says "skip:+" (bad Flaw.Unreadable (bytes "skip"))
unfolding Says
sign_alone = refl

-- a byte that is no digit, however large the digits are
pub spoilt : Says "id:99999999999999999999x" (bad Flaw.Unreadable (bytes "id"))
unfolding Says
spoilt = refl

-- a `-` is never read
pub below : Says "status:-99999999999999999999" (bad Flaw.Unreadable (bytes "status"))
unfolding Says
below = refl

-- and a `+` is no obstacle
pub past_word : Says "id:+99999999999999999999" (bad Flaw.TooLarge (bytes "id"))
unfolding Says
past_word = refl

pub past_width : Says "phase:256" (bad Flaw.TooLarge (bytes "phase"))
unfolding Says
past_width = refl

-- marks are stripped first
pub severity_large : Says "severity:'300'" (bad Flaw.TooLarge (bytes "severity"))
unfolding Says
severity_large = refl

pub severity_empty : Says "severity:''" (bad Flaw.Unreadable (bytes "severity"))
unfolding Says
severity_empty = refl

-- a word that is not in the table
pub severity_none : Says "severity:fatal" (bad Flaw.Unreadable (bytes "severity"))
unfolding Says
severity_none = refl

-- marks are kept before and behind `=`, and the seconds are unreadable
pub expiry_marked : Says "expirevar:'a=5'" (done (action 25 0 (present (bytes "'a")) absent))
unfolding Says
expiry_marked = refl

-- ---- setvar

pub step_twice : Sets "a=--5" "tx" "a" (decrement (2 ^ 64 - 5))
unfolding Sets
step_twice = refl

pub step_unread : Sets "'TX.aB=+abc'" "tx" "aB" (increment 1)
unfolding Sets
step_unread = refl

pub step_large : Sets "a=-9223372036854775808" "tx" "a" (decrement 1)
unfolding Sets
step_large = refl

pub word_large : Sets "a=9223372036854775808" "tx" "a" (text (bytes "9223372036854775808"))
unfolding Sets
word_large = refl

pub deleted : Sets " \"!A=b.c\" " "a=b" "c" delete
unfolding Sets
deleted = refl

pub later_macro : Sets ".a=-1%{" "" "a" (macro (bytes "-1%{"))
unfolding Sets
later_macro = refl

pub no_value : Sets "" "tx" "" (text (bytes "1"))
unfolding Sets
no_value = refl
