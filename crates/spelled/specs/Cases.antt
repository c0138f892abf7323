-- Lists written back, at the edges: each input with its spelling, or with none.
use Rattle.std.specs.Prelude.{◌≡◌, refl, Bool, true, false, List, [], ◌∷◌, ℕ, ◌^◌, ◌-◌}
use Prim.Native.String.{String}
use Rattle.ascii.specs.Choice.{pick}
use Rattle.ascii.specs.Text.{bytes}
use Rattle.lent.specs.Table.{Outcome, refuses, reads}
use Rattle.lent.specs.Sources.{Sourced}
use Rattle.records.specs.Codes as K
use Rattle.records.specs.Actions.{absent, present, Action}
use Rattle.single_action.specs.Actions.{action, numbered, worded, setvar_action}
use Rattle.single_action.specs.Setvar.{SetValue, text, int, delete, macro, setvar_of, var_name}
use Rattle.actions.specs.Lists.{actions_of}
use Rattle.actions.specs.Cases.{Comes}
use Rattle.listing.specs.Json as J
use Rattle.spelled.specs.Spelling.{coded, has, marked, signed, value_in, setvar_text, argument, spell, spell_all}
use Rattle.spelled.specs.Condition.{same_slot, same_action, canon, last_by, textual, name_fits, setvar_fits, texts_fit, fits, steady, uncut, nest_past, stays, written}
use Rattle.spelled.specs.Back.{things, same_all, reads_back}

-- A list's spelling, 19, or that the text is no list.
pub data Back : Type 0 where
  back : List ℕ → Back
  nineteen : Back
  refused : Back

abbrev pub back_by : (List Action → Bool) → Outcome (List (Sourced Action)) → Back
back_by test (refuses f) = refused
back_by test (reads xs) = pick (test (things xs)) (back (spell_all (things xs))) nineteen

-- What a text is written back as, by the reader and by the condition. To unfold it is to unfold all that it is read and written by.
unfoldable pub Back_of : String → Back → Type 0
unfolding Comes J.onto J.decimal J.trail J.joined coded has marked signed value_in setvar_text argument spell spell_all same_slot same_action canon last_by textual name_fits setvar_fits texts_fit fits steady uncut nest_past stays written same_all reads_back
Back_of s b = (back_by reads_back (actions_of (bytes s)) ≡ b) × (back_by written (actions_of (bytes s)) ≡ b)

abbrev pub Writes : String → String → Type 0
Writes s t = Back_of s (back (bytes t))

abbrev pub Same : String → Type 0
Same s = Writes s s

-- ---- written

-- no records
pub none : Same ""
unfolding Back_of
none = (refl, refl)

-- no argument is the empty text, and is written
pub no_text : Writes "msg" "msg:''"
unfolding Back_of
no_text = (refl, refl)

pub no_variable_lem : Writes "expirevar" "expirevar:=0"
unfolding Back_of
no_variable_lem = (refl, refl)

pub empty_text : Writes "redirect:" "redirect:"
unfolding Back_of
empty_text = (refl, refl)

-- both texts are empty
pub no_equals : Writes "ctl:" "ctl:="
unfolding Back_of
no_equals = (refl, refl)

pub empty_transformation : Writes "t:" "t:"
unfolding Back_of
empty_transformation = (refl, refl)

-- ten names have the code of noauditlog, and the first of them is written
pub first_name : Writes "exec:(a,b)" "noauditlog"
unfolding Back_of
first_name = (refl, refl)

pub pause_name : Writes "pause" "noauditlog"
unfolding Back_of
pause_name = (refl, refl)

-- an argument that says nothing is not written
pub argument_gone : Writes "setsid:x" "noauditlog"
unfolding Back_of
argument_gone = (refl, refl)

pub either_spelling : Writes "SanitizeMatched" "sanitisematched"
unfolding Back_of
either_spelling = (refl, refl)

pub small_name : Writes "skipAfter:x" "skipafter:x"
unfolding Back_of
small_name = (refl, refl)

-- the collection is written out, and the text 1 is not
pub default_collection : Writes "setvar:A" "setvar:'tx.A'"
unfolding Back_of
default_collection = (refl, refl)

-- the number 1 is not the text 1
pub int_one : Writes "setvar:a=1" "setvar:'tx.a=1'"
unfolding Back_of
int_one = (refl, refl)

pub empty_value : Writes "setvar:a=" "setvar:'tx.a='"
unfolding Back_of
empty_value = (refl, refl)

pub empty_key : Writes "setvar:" "setvar:'tx.'"
unfolding Back_of
empty_key = (refl, refl)

pub step_twice : Writes "setvar:a=--5" "setvar:'tx.a=--5'"
unfolding Back_of
step_twice = (refl, refl)

pub unread_step : Writes "setvar:a=+x" "setvar:'tx.a=+1'"
unfolding Back_of
unread_step = (refl, refl)

pub least_step : Writes "setvar:a=+-9223372036854775808" "setvar:'tx.a=+-9223372036854775808'"
unfolding Back_of
least_step = (refl, refl)

-- a name that is deleted may hold `=`
pub delete_equals : Writes "setvar:'!a=B.c=d'" "setvar:'!a=b.c=d'"
unfolding Back_of
delete_equals = (refl, refl)

pub empty_collection : Writes "setvar:." "setvar:'.'"
unfolding Back_of
empty_collection = (refl, refl)

pub blanks_inside : Writes "setvar:' a = '" "setvar:'tx. a = '"
unfolding Back_of
blanks_inside = (refl, refl)

-- double marks where a single one is inside
pub single_inside : Writes "setvar:a='x'" "setvar:\"tx.a='x'\""
unfolding Back_of
single_inside = (refl, refl)

pub apostrophe : Writes "msg:\"it's\",log" "msg:\"it's\",log"
unfolding Back_of
apostrophe = (refl, refl)

-- line ends and blanks between marks stay
pub line_ends : Writes "msg:'\n\r '" "msg:'\n\r '"
unfolding Back_of
line_ends = (refl, refl)

-- brackets that close
pub brackets : Writes "ctl:(a,b),log" "ctl:(a,b)=,log"
unfolding Back_of
brackets = (refl, refl)

-- marks of a text that is not stripped
pub marks_kept : Writes "redirect:'a,b',log" "redirect:'a,b',log"
unfolding Back_of
marks_kept = (refl, refl)

-- both marks, and each pair closes
pub both_marks : Writes "setvar:\"a\"'b',log" "setvar:\"tx.\"a\"'b'\",log"
unfolding Back_of
both_marks = (refl, refl)

-- a backslash protects no mark
pub last_slash : Writes "msg:'a\\',log" "msg:'a\\',log"
unfolding Back_of
last_slash = (refl, refl)

-- the last may leave a mark open
pub open_last : Writes "log,expirevar:'a=5'" "log,expirevar:'a=0"
unfolding Back_of
open_last = (refl, refl)

-- blanks around pieces go, and a severity's word becomes its number
pub many : Writes "id:7, phase:2 ,severity:CRITICAL,t:none,initcol:ip=%{REMOTE_ADDR}" "id:7,phase:2,severity:2,t:none,initcol:ip=%{REMOTE_ADDR}"
unfolding Back_of
many = (refl, refl)

pub macro_value : Writes "setvar:tx.s=%{tx.a}" "setvar:'tx.s=%{tx.a}'"
unfolding Back_of
macro_value = (refl, refl)

-- ---- 19, of accepted lists

-- a mark that is left open takes the next piece in
pub torn_mark : Back_of "msg:a'\"'b,log" nineteen
unfolding Back_of
torn_mark = (refl, refl)

-- and one that its partner was cut from
pub torn_variable : Back_of "expirevar:'a=5',log" nineteen
unfolding Back_of
torn_variable = (refl, refl)

pub torn_bracket : Back_of "expirevar:(a=5),log" nineteen
unfolding Back_of
torn_bracket = (refl, refl)

-- a backslash before a line end would be taken for a continuation
pub line_continued : Back_of "t:\\\\\n\na" nineteen
unfolding Back_of
line_continued = (refl, refl)

-- ---- records by themselves, of which a reader makes only some

-- Whether a record is written alone, by the reader and by the condition.
unfoldable pub Alone : Action → Bool → Type 0
unfolding Back_of
Alone x b = (reads_back (x ∷ []) ≡ b) × (written (x ∷ []) ≡ b)

-- A setvar of a collection, a key and a value.
abbrev set : String → String → SetValue → Action
set c k v = setvar_action K.set_var_code (setvar_of (var_name (bytes c) (bytes k)) v)

-- a blank at the end is trimmed
pub blank_last : Alone (worded K.redirect_code (bytes "x ")) false
unfolding Alone
blank_last = (refl, refl)

-- a mark at an end is stripped
pub mark_last : Alone (worded K.msg_code (bytes "x'")) false
unfolding Alone
mark_last = (refl, refl)

-- the first text ends at the first `=`
pub equals_first : Alone (action K.control_code 0 (present (bytes "a=")) (present (bytes "b"))) false
unfolding Alone
equals_first = (refl, refl)

-- a number behind `=` has no sign
pub int_negative : Alone (set "tx" "a" (int (2 ^ 64 - 5))) false
unfolding Alone
int_negative = (refl, refl)

-- texts that are read as a number, a step or a macro
pub text_number_lem : Alone (set "tx" "a" (text (bytes "5"))) false
unfolding Alone
text_number_lem = (refl, refl)

pub text_zeros : Alone (set "tx" "a" (text (bytes "01"))) false
unfolding Alone
text_zeros = (refl, refl)

pub text_sign : Alone (set "tx" "a" (text (bytes "+"))) false
unfolding Alone
text_sign = (refl, refl)

pub text_macro : Alone (set "tx" "a" (text (bytes "%{"))) false
unfolding Alone
text_macro = (refl, refl)

pub no_macro : Alone (set "tx" "a" (macro (bytes "x"))) false
unfolding Alone
no_macro = (refl, refl)

-- a collection is made small, and ends at the first dot
pub capital_collection : Alone (set "Tx" "a" (int 1)) false
unfolding Alone
capital_collection = (refl, refl)

pub dotted_collection : Alone (set "t.x" "a" delete) false
unfolding Alone
dotted_collection = (refl, refl)

-- a first `!` deletes
pub bang_set : Alone (set "!tx" "a" (int 1)) false
unfolding Alone
bang_set = (refl, refl)

pub bang_deleted : Alone (set "!tx" "a" delete) true
unfolding Alone
bang_deleted = (refl, refl)

-- a name ends at the first `=`, unless it is deleted
pub equals_set : Alone (set "tx" "a=b" (int 1)) false
unfolding Alone
equals_set = (refl, refl)

pub equals_deleted : Alone (set "tx" "a=b" delete) true
unfolding Alone
equals_deleted = (refl, refl)

-- numbers past their widths
pub past_byte : Alone (numbered K.phase_code 256) false
unfolding Alone
past_byte = (refl, refl)

pub past_four : Alone (numbered K.skip_code 4294967296) false
unfolding Alone
past_four = (refl, refl)

pub most_of_four : Alone (numbered K.skip_code 4294967295) true
unfolding Alone
most_of_four = (refl, refl)

-- the text 1 is written as no value
pub text_one : Alone (set "tx" "a" (text (bytes "1"))) true
unfolding Alone
text_one = (refl, refl)

pub number_one : Alone (set "tx" "a" (int 1)) true
unfolding Alone
number_one = (refl, refl)

pub text_empty : Alone (set "tx" "a" (text [])) true
unfolding Alone
text_empty = (refl, refl)

-- words that the action does not use
pub number_unused : Alone (numbered K.deny_code 1) false
unfolding Alone
number_unused = (refl, refl)

pub kind_unused : Alone (record { code = K.deny_code; number = 0; a = absent; b = absent; kind = K.string_kind; c = absent }) false
unfolding Alone
kind_unused = (refl, refl)

pub amount_unused : Alone (record { code = K.set_var_code; number = 1; a = present []; b = present []; kind = K.delete_kind; c = absent }) false
unfolding Alone
amount_unused = (refl, refl)

-- no such code
pub code_none : Alone (numbered 0 0) false
unfolding Alone
code_none = (refl, refl)

pub code_past : Alone (numbered 33 0) false
unfolding Alone
code_past = (refl, refl)

-- no such kind
pub kind_none : Alone (record { code = K.set_var_code; number = 0; a = present []; b = present []; kind = 0; c = absent }) false
unfolding Alone
kind_none = (refl, refl)

pub kind_past : Alone (record { code = K.set_var_code; number = 0; a = present []; b = present []; kind = 7; c = absent }) false
unfolding Alone
kind_past = (refl, refl)
