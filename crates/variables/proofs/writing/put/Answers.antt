-- The six words are the record's, and both stores are the definition's.
use mathlib.Core.Path.{◌≡◌, ◌∙◌, sym, ap}
use Prim.Native.Nat.{ℕ, ◌+◌, ◌*◌}
use native.Mathlib.Omega.{arith}
use lib.ListN.{length}
use Rattle.std.specs.Prelude.{Some, None}
use Rattle.lent.specs.Sizes.{variable_words}
use Rattle.lent.specs.Buffers.{stored}
use Rattle.lent.proofs.BufferLaws.{stored_none}
use Rattle.variables.specs.Steps.{entry_part, whole_words}
use Rattle.variables.proofs.PlaceLaws.{part_length}
use Rattle.variables.proofs.writing.put.Goals as goal
use Rattle.variables.proofs.writing.put.Goals.{Joined-e, in-Variable, in-Exclusion}

words_are : (c : Joined-e) → let a = c.args in c.match-e.record ≡ whole_words a.used a.e a.at (length a.p.now)
words_are c =
    let s = c.span_of-span.ensures in
    let t = c.text_of-part.ensures in
    let z = c.span-source.ensures in
    elim c.match-e.branch [
      | in-Variable w ↦ rw (w.record-is, s, t, z, w.selection_number-selection.ensures, w.from.ensures, w.in-Variable.is)
      | in-Exclusion w ↦ rw (w.record-is, s, t, z, w.in-Exclusion.is)
    ]

pub returns-in-None : goal.returns-in-None
returns-in-None c =
    let a = c.args in
    let e : entry_part a.e ≡ None = sym c.text_of-part.ensures ∙ c.in-None.is in
    record {
      text_after = rw e (sym (stored_none _ _));
      records_after = c.store.ensures ∙ ap (stored a.records.now (a.count * variable_words)) (words_are (goal.at.returns-in-None c).Joined-e);
      value = rw e (omega arith);
    }

pub returns-in-Some : goal.returns-in-Some
returns-in-Some c =
    let a = c.args in
    let x = c.in-Some.part in
    let e : entry_part a.e ≡ Some x = sym c.text_of-part.ensures ∙ c.in-Some.is in
    let l = rw e at c.requires.lies in
    record {
      text_after = rw e c.store-in-Some.ensures;
      records_after = c.store.ensures ∙ ap (stored a.records.now (a.count * variable_words)) (words_are (goal.at.returns-in-Some c).Joined-e);
      value = rw e (ap (λ (n : ℕ). a.used + n) (sym (part_length a.p.now x.first x.past l.1)));
    }
