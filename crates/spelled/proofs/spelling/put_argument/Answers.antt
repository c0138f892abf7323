-- By the rule: its runs, one after another.
use mathlib.Core.Path.{◌∙◌, sym}
use native.Mathlib.Omega.{arith}
use Rattle.listing.proofs.PutLaws.{put_none, put_more}
use Rattle.spelled.proofs.SettingLaws.{setvar_length_lem}
use Rattle.spelled.proofs.SpellLaws.{setting_kind}
use Rattle.spelled.proofs.ArgumentLaws.{behind_plain, behind_wanted, behind_unmarked, behind_up_to, behind_severity, behind_equation, behind_expiry, behind_setting}
use Rattle.spelled.proofs.spelling.put_argument.Goals as goal

pub put_setvar-past-requires : goal.put_setvar-past-requires
put_setvar-past-requires c =
    let t = c in
    let s = t in
    record {
      placed = s.requires.placed;
      kind_value = setting_kind s.args.e.code s.args.e.kind (sym s.requires.rule_value ∙ t.in-Setting.is) s.requires.placed.known;
      broad_bound = omega (arith, s.requires.broad_bound, c.put_byte-open-in-Setting.ensures.next_is, c.put_byte-inside.ensures.next_is);
    }

pub put_byte-requires-in-Setting : goal.put_byte-requires-in-Setting
put_byte-requires-in-Setting c =
    let s = c in
    omega (arith, s.requires.broad_bound, setvar_length_lem s.requires.placed, c.put_byte-open-in-Setting.ensures.next_is, c.put_byte-inside.ensures.next_is, c.put_setvar-past.ensures.next_is)

pub returns-in-Plain : goal.returns-in-Plain
returns-in-Plain c =
    let s = c in
    rw (c.in-Plain.is, behind_plain s.requires.placed s.args.mark) (put_none _ _)

pub returns-in-Wanted : goal.returns-in-Wanted
returns-in-Wanted c =
    let s = c in
    rw (c.in-Wanted.is, behind_wanted s.requires.placed s.args.mark) c.put_after.ensures

pub returns-in-Unmarked : goal.returns-in-Unmarked
returns-in-Unmarked c =
    let s = c in
    rw (c.in-Unmarked.is, behind_unmarked s.requires.placed s.args.mark) (put_more c.put_byte-open.ensures (put_more c.put_after-past.ensures c.put_byte.ensures))

pub returns-in-UpTo : goal.returns-in-UpTo
returns-in-UpTo c =
    let s = c in
    rw (c.in-UpTo.is, behind_up_to s.requires.placed s.args.mark _) c.put_number.ensures

pub returns-in-Severity : goal.returns-in-Severity
returns-in-Severity c =
    let s = c in
    rw (c.in-Severity.is, behind_severity s.requires.placed s.args.mark) c.put_number-in-Severity.ensures

pub returns-in-Equation : goal.returns-in-Equation
returns-in-Equation c =
    let s = c in
    rw (c.in-Equation.is, behind_equation s.requires.placed s.args.mark) (put_more c.put_after-past-in-Equation.ensures c.put_after-in-Equation.ensures)

pub returns-in-Expiry : goal.returns-in-Expiry
returns-in-Expiry c =
    let s = c in
    rw (c.in-Expiry.is, behind_expiry s.requires.placed s.args.mark) (put_more c.put_after-past-in-Expiry.ensures c.put_number-in-Expiry.ensures)

pub returns-in-Setting : goal.returns-in-Setting
returns-in-Setting c =
    let s = c in
    rw (c.in-Setting.is, behind_setting s.requires.placed s.args.mark) (put_more c.put_byte-open-in-Setting.ensures (put_more c.put_byte-inside.ensures (put_more c.put_setvar-past.ensures c.put_byte-in-Setting.ensures)))
