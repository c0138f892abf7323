use native.Mathlib.Omega.{arith}
use Rattle.variables.proofs.ScanLaws.{begun, ended, used_low, some_low, this_long, this_some, stopped, passed, entry_lies, turned}
use Rattle.variables.proofs.writing.scan.Goals as goal

pub loop-first-init : goal.loop-first-init
loop-first-init c =
    let a = c.args in
    begun a.exclusions a.s.now a.text.now a.records.now a.offset a.place

pub returns-in_default : goal.returns-in_default
returns-in_default c = ended c.loop-first.invariant c.requires.s_len_bound c.requires.offset_le_limit (rw c.in_default.is at c.next_piece.ensures)

pub read_piece-requires : goal.read_piece-requires
read_piece-requires c = this_some c.loop-first.invariant c.requires.s_len_bound c.requires.offset_le_limit _ _ _ c.in-Some.ensures

pub returns-in-Err : goal.returns-in-Err
returns-in-Err c =
    stopped c.loop-first.invariant c.requires.s_len_bound c.requires.offset_le_limit _ _ _ c.in-Some.ensures _ _ c.in-Err.ensures

pub loop-first-preserved-in-Ok-Exclusion : goal.loop-first-preserved-in-Ok-Exclusion
loop-first-preserved-in-Ok-Exclusion c =
    passed c.loop-first.invariant c.requires.s_len_bound c.requires.offset_le_limit _ _ _ c.in-Some.ensures (rw c.in-Ok-Exclusion.field-0-is at c.in-Ok-Exclusion.ensures)

pub put-used-requires : goal.put-used-requires
put-used-requires c =
    let p = c.in-Some.ensures in
    record {
      lies = entry_lies c.loop-first.invariant c.requires.s_len_bound c.requires.offset_le_limit _ _ _ p _ (rw c.in-Ok-Variable.field-0-is at c.in-Ok-Variable.ensures);
      used_bound = (omega (arith, used_low c.loop-first.invariant c.requires.s_len_bound c.requires.offset_le_limit), omega (arith, some_low c.loop-first.invariant c.requires.s_len_bound c.requires.offset_le_limit, c.requires.offset_le_limit));
      at_le_limit = (omega (arith, c.requires.s_len_bound, p.begun, p.some, p.before, p.inside), omega (arith, c.requires.s_len_bound, this_long c.loop-first.invariant c.requires.s_len_bound c.requires.offset_le_limit _ _ _ p, p.before, p.inside));
    }

pub loop-first-preserved : goal.loop-first-preserved
loop-first-preserved c =
    turned c.loop-first.invariant c.requires.s_len_bound c.requires.offset_le_limit _ _ _ c.in-Some.ensures _ (rw c.in-Ok-Variable.field-0-is at c.in-Ok-Variable.ensures) _ _ c.put-used.ensures.text_after c.put-used.ensures.records_after c.put-used.ensures.value
