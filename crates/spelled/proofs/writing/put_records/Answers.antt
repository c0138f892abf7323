use mathlib.Core.Path.{◌≡◌, ap}
use Prim.Native.Nat.{ℕ, ◌+◌, ◌*◌}
use native.Mathlib.Omega.{arith}
use lib.ListN.{length}
use lib.Dec.{leb}
use Rattle.lent.specs.Sizes.{action_words, room_for}
use Rattle.spelled.proofs.StartLaws.{start_near}
use Rattle.spelled.proofs.EachLaws.{begun, fits_record, halted, turned, ended}
use Rattle.spelled.proofs.writing.put_records.Goals as goal

pub loop-count-init : goal.loop-count-init
loop-count-init c = begun _ _ _ c.first_offset-offset.ensures (omega (arith, c.first_offset-offset.ensures, start_near (room_for action_words (length c.args.words.now)) c.args.words.now (λ i. (c.shared_slice_known-1.given i).fits)))

pub put_record-requires : goal.put_record-requires
put_record-requires c = record {
  action_words_in_bounds = fits_record c.loop-count.invariant (omega (arith, c.loop-count-test.true, c.room-most.ensures));
  offset_in_bounds = c.loop-count.invariant.inside;
  to_le_limit = c.loop-count.invariant.near;
}

pub shape_of-out-in-None : goal.shape_of-out-in-None
shape_of-out-in-None c = (halted c.loop-count.invariant (omega (arith, c.loop-count-test.true, c.room-most.ensures)) (ap (λ (n : ℕ). leb n (c.loop-count.count + 1)) c.room-most.ensures) c.put_record.ensures c.in-None.is).long

pub returns-in-None : goal.returns-in-None
returns-in-None c = halted c.loop-count.invariant (omega (arith, c.loop-count-test.true, c.room-most.ensures)) (ap (λ (n : ℕ). leb n (c.loop-count.count + 1)) c.room-most.ensures) c.put_record.ensures c.in-None.is

pub overflow_mul-at : goal.overflow_mul-at
overflow_mul-at c = omega (arith, fits_record c.loop-count.invariant (omega (arith, c.loop-count-test.true, c.room-most.ensures)), c.well_formed)

pub loop-count-preserved : goal.loop-count-preserved
loop-count-preserved c =
    let l = c.loop-count in
    let a : (l.count + 1) * action_words ≡ l.count * action_words + action_words = omega arith in
    rw a (turned l.invariant (omega (arith, c.loop-count-test.true, c.room-most.ensures)) (ap (λ (n : ℕ). leb n (l.count + 1)) c.room-most.ensures) c.put_record.ensures c.in-Some.is)

pub shape_of-out : goal.shape_of-out
shape_of-out c = c.loop-count.invariant.put.long

pub returns : goal.returns
returns c = ended c.loop-count.invariant (omega (arith, c.loop-count-test.false, c.room-most.ensures))
