-- By whether it may start, then by what the list was read to; each way out is one law of CoreLaws.
use mathlib.Core.Path.{◌∙◌, sym}
use native.Mathlib.Omega.{arith}
use lib.ListN.{length}
use Rattle.lent.proofs.StartLaws.{starts_is}
use Rattle.variables.specs.Parts.{pieces}
use Rattle.variables.specs.Steps.{excluded_of}
use Rattle.variables.proofs.CoreLaws.{all_or_none, used_fits, core_unknown, core_read}
use Rattle.variables.proofs.parsing.read_targets.Goals as goal

pub scan-requires : goal.scan-requires
scan-requires c =
    let a = c.args in
    let b = (starts_is (length a.s.now) (length a.text.now) a.offset a.place).0 (sym c.starts.ensures ∙ c.if-not-starts.false) in
    record { s_len_bound = b.within; offset_le_limit = (b.offset_low, b.count_low) }

pub returns-in-Err : goal.returns-in-Err
returns-in-Err c =
    let a = c.args in
    core_unknown a.exclusions a.s.now a.offset a.place a.text.now a.records.now (sym c.starts.ensures ∙ c.if-not-starts.false) c.in-Err.ensures c.scan.new.text c.scan.new.records c.scan.auto.text c.scan.auto.records c.refuse_piece.ensures.0 c.refuse_piece.ensures.1

pub overflow_add-place : goal.overflow_add-place
overflow_add-place c =
    let a = c.args in
    let b = (starts_is (length a.s.now) (length a.text.now) a.offset a.place).0 (sym c.starts.ensures ∙ c.if-not-starts.false) in
    let x = c.in-Ok.ensures in
    omega (arith, x.few, b.count_low)

pub add_exclusions-past-requires : goal.add_exclusions-past-requires
add_exclusions-past-requires c =
    let a = c.args in
    let b = (starts_is (length a.s.now) (length a.text.now) a.offset a.place).0 (sym c.starts.ensures ∙ c.if-not-starts.false) in
    let x = c.in-Ok.ensures in
    record {
      s_len_bound = b.within;
      offset_bound = (omega (arith, used_fits x, b.offset_low, b.within), omega (arith, x.few, b.count_low));
      all_or_none = all_or_none a.exclusions _ _ _ (excluded_of (pieces a.s.now)) c.kept-kept.ensures x.excluded_are;
    }

pub returns-in-Ok : goal.returns-in-Ok
returns-in-Ok c =
    let a = c.args in
    core_read a.exclusions a.s.now a.offset a.place a.text.now a.records.now (sym c.starts.ensures ∙ c.if-not-starts.false) c.in-Ok.ensures _ c.kept-kept.ensures c.add_exclusions-past.ensures
