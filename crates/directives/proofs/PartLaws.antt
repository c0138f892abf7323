-- Each part of a directive, from the promise of its parser's core: what is laid, or the first fault.
use Rattle.std.specs.Prelude.{Ok, Err, Result}
use mathlib.Core.Path.{◌≡◌, refl, sym, ap, ◌∙◌}
use mathlib.Core.Bool.{Bool, true, false}
use mathlib.Core.List.{List, [], ◌∷◌}
use Prim.Native.Nat.{ℕ, ◌+◌, ◌-◌, ◌≤◌}
use native.Mathlib.Omega.{arith}
use lib.ListN.{length, get_or, length-append}
use Rattle.std.specs.Int.{from_bool}
use Rattle.ascii.specs.Choice.{bit}
use Rattle.ascii.specs.Classes.{white}
use Rattle.ascii.proofs.TrimLaws.{ends_fit}
use Rattle.lent.specs.Sizes.{span_word}
use Rattle.lent.specs.Buffers.{stored}
use Rattle.lent.specs.Endings.{starts}
use Rattle.lent.specs.Layout.{texts_of}
use Rattle.lent.specs.Table.{Given, given, reads}
use Rattle.lent.proofs.BufferLaws.{padded_none}
use Rattle.lent.proofs.StartLaws.{starts_is}
use Rattle.variables.specs.Variables.{Targets, targets, refused}
use Rattle.variables.specs.Layout as Listed
use Rattle.variables.specs.Steps.{targets_of}
use Rattle.variables.specs.Cores.{reached_by, ReadTargets}
use Rattle.variables.specs.declared.singles.Exclusions.TheVariants.{AsWritten}
use Rattle.variables.specs.declared.Reached.{Reached}
use Rattle.variables.specs.declared.TargetsError.{TargetsError}
use Rattle.variables.specs.declared.TargetsError.TheVariants as T
use Rattle.variables.proofs.FitLaws.{Within, targets_within}
use Rattle.variables.proofs.SourceLaws.{Inside, EachIn, targets_inside}
use Rattle.lexer.specs.Steps.{part}
use Rattle.operators.specs.Operators.{Spec, Reading, accepted, unknown, operator}
use Rattle.operators.specs.Places.{is_named, name_place, argument_place}
use Rattle.operators.specs.Promises.{in_given, outcome_of, given_by, OperatorIn}
use Rattle.operators.specs.declared.Operator.{Operator}
use Rattle.operators.specs.declared.UnknownOperator.{UnknownOperator as Unnamed}
use Rattle.operators.proofs.PlaceLaws.{argument_text, argument_ends, argument_at}
use Rattle.operators.proofs.AnswerLaws.{Argued, gate_argued}
use Rattle.operators.proofs.PromiseLaws.{refused_inside}
use Rattle.directives.specs.Directives.{variables_read, listed_by, operator_read}
use Rattle.directives.specs.Steps.{with_variables, with_operator, AddsVariables, AddsOperator}
use Rattle.directives.specs.declared.ArgumentFault.TheVariants.{UnknownOperator, UnknownVariable}
use Rattle.directives.specs.declared.Fault.{Fault as Told}
use Rattle.directives.specs.declared.Fault.TheVariants as Fault
use Rattle.directives.specs.declared.parts.Entry.{Entry}
use Rattle.directives.proofs.LaidLaws.{laid_stored}

-- ---- variables

module _ (e : Entry) (line place : ℕ) (s text text' records records' : List ℕ) (r : Result Reached TargetsError)
    (h : starts (length s) (length text) e.text place ≡ true) (x : ReadTargets AsWritten s e.text place text text' records records' r) where
  variables_are : r ≡ reached_by e.text (targets_of AsWritten s)
  variables_are = x.answer ∙ rw h

  pub variables_unfit : r ≡ Err T.Unfit → ⊥
  variables_unfit q = go (targets_of AsWritten s) (sym q ∙ variables_are)
    where
      go : (ts : Targets) → Err T.Unfit ≡ reached_by e.text ts → ⊥
      go (targets vs es) p = cc
      go (refused i name y) p = cc

  pub variables_read_lem : (got : Reached) → r ≡ Ok got → AddsVariables e line place text text' records records' (variables_read s) (Ok (with_variables e got.count got.offset))
  variables_read_lem got q = go (targets_of AsWritten s) refl (sym q ∙ variables_are) (targets_within AsWritten s)
    where
      go : (ts : Targets) → targets_of AsWritten s ≡ ts → Ok got ≡ reached_by e.text ts → Within (length s) (length s) ts
          → AddsVariables e line place text text' records records' (listed_by ts) (Ok (with_variables e got.count got.offset))
      go (targets vs es) z p w =
          let y : got ≡ record { count = length vs + length es; offset = e.text + length (Listed.texts vs es) } = cc in
          let k : e.text + length (Listed.texts vs es) ≤ length text =
          omega (arith, w.0, ((starts_is (length s) (length text) e.text place).0 h).room, length-append (Listed.selection_texts vs) (texts_of Listed.exclusion_text es)) in
          record {
            is = rw y;
            laid = rw (x.texts, h, z) (laid_stored text e.text (Listed.texts vs es) k);
            records_are = x.words ∙ rw (h, z);
          }
      go (refused i name y') z p w = absurd cc

  module _ (piece name first past : ℕ) (q : r ≡ Err (T.Unknown piece name first past)) where
    -- the piece stands in the list
    pub unknown_inside : (first ≤ past) × (past ≤ length s)
    unknown_inside = go (targets_of AsWritten s) (sym q ∙ variables_are) (targets_inside AsWritten s)
      where
        go : (ts : Targets) → Err (T.Unknown piece name first past) ≡ reached_by e.text ts → EachIn (Inside (length s)) ts → (first ≤ past) × (past ≤ length s)
        go (targets vs es) p w = absurd cc
        go (refused i written y) p w =
            let a : first ≡ y.first = cc in
            let b : past ≡ y.past = cc in
            (omega (arith, w.some, a, b), omega (arith, w.within, b))

    pub variables_unknown : (span : ℕ) → span ≡ span_word first (past - first)
        → AddsVariables e line place text text' records records' (variables_read s) (Err (Fault.Argument UnknownVariable line piece name span))
    variables_unknown span k = go (targets_of AsWritten s) refl (sym q ∙ variables_are)
      where
        go : (ts : Targets) → targets_of AsWritten s ≡ ts → Err (T.Unknown piece name first past) ≡ reached_by e.text ts
            → AddsVariables e line place text text' records records' (listed_by ts) (Err (Fault.Argument UnknownVariable line piece name span))
        go (targets vs es) z p = absurd cc
        go (refused i written y) z p =
            let m : piece ≡ i = cc in
            let n : name ≡ length written = cc in
            let a : first ≡ y.first = cc in
            let b : past ≡ y.past = cc in
            record {
              told = Fault.Argument UnknownVariable line piece name span;
              is = refl;
              faulted = record { given = rw (m, n, k, a, b); left = x.texts ∙ rw (h, z) };
            }

-- ---- the operator

abbrev value : ℕ → Given → ℕ
value i g = get_or g.values i 0

abbrev number : Given → ℕ
number g = g.number

-- a flag's word
pub bit_of : (b : Bool) → from_bool b ≡ bit b
bit_of true = refl
bit_of false = refl

same_operator : (e : Entry) {f f' n n' w w' t t' : ℕ} → f ≡ f' → n ≡ n' → w ≡ w' → t ≡ t' → ◌≡◌ {A = Result Entry Told} (Ok (with_operator e f n w t)) (Ok (with_operator e f' n' w' t'))
same_operator e a b c d = rw (a, b, c, d)

module _ (e : Entry) (line : ℕ) (s text : List ℕ) (r : Result Operator Unnamed) (x : OperatorIn s r) where
  module _ (o : Operator) (q : r ≡ Ok o) where
    told : given 0 (bit o.negated ∷ o.name ∷ o.place ∷ o.len ∷ []) ≡ given_by s (operator_read s)
    told = sym (ap in_given q) ∙ x.answer

    argued : Argued s (operator_read s)
    argued = gate_argued s (Ok tt) (sym (ap number told))

    row : given 0 (bit o.negated ∷ o.name ∷ o.place ∷ o.len ∷ []) ≡ given_by s (reads argued.found)
    row = told ∙ ap (given_by s) argued.is_read

    place_is : o.place ≡ argument_place s
    place_is = ap (value 2) row

    len_is : o.len ≡ length argued.found.argument
    len_is = ap (value 3) row

    -- the argument stands in the text
    pub operator_in_text : o.place + o.len ≤ length s
    operator_in_text = omega (arith, place_is, len_is, ap length argued.text_is, argument_ends s, ends_fit white s)

    argument_is : (end : ℕ) → end ≡ o.place + o.len → part s o.place end ≡ argued.found.argument
    argument_is end f =
        let n : end - o.place ≡ length (argument_text s (is_named s)) = omega (arith, len_is, ap length argued.text_is) in
        rw (n, place_is) (argument_at s) ∙ sym argued.text_is

    pub operator_read_lem : (flag word end : ℕ) → flag ≡ bit o.negated → word ≡ span_word e.text o.len → end ≡ o.place + o.len → e.text + length s ≤ length text → {text' : List ℕ}
        → text' ≡ stored text e.text (part s o.place end)
        → AddsOperator e line text text' (operator_read s) (Ok (with_operator e flag o.name word (e.text + o.len)))
    operator_read_lem flag word end f w g h {text'} t = rw argued.is_read grown
      where
        found : Spec
        found = argued.found

        arg_is : part s o.place end ≡ found.argument
        arg_is = argument_is end g

        room : e.text + length found.argument ≤ length text
        room = omega (arith, len_is, operator_in_text)

        grown : AddsOperator e line text text' (reads found) (Ok (with_operator e flag o.name word (e.text + o.len)))
        grown =
            record {
              is = same_operator e (f ∙ ap (value 0) row) (ap (value 1) row) (w ∙ ap (span_word e.text) len_is) (ap (λ (n : ℕ). e.text + n) len_is);
              laid = rw (t, arg_is) (laid_stored text e.text found.argument room);
              records_are = refl;
            }

  module _ (u : Unnamed) (q : r ≡ Err u) where
    -- the name stands in the text
    pub name_inside : u.place + u.len ≤ length s
    name_inside = go (operator s) refl (sym (ap in_given q) ∙ x.answer)
      where
        go : (o : Reading) → operator s ≡ o → given 8 (u.place ∷ u.len ∷ span_word u.place (u.place + u.len - u.place) ∷ []) ≡ given_by s (outcome_of s o) → u.place + u.len ≤ length s
        go (accepted f) z p = let y : ◌≡◌ {A = ℕ} 8 0 = ap number p in absurd (omega arith)
        go (unknown name) z p =
            let a : u.place ≡ name_place s = ap (value 0) p in
            let b : u.len ≡ length name = ap (value 1) p in
            omega (arith, a, b, refused_inside s name z)

    pub operator_unknown : (span : ℕ) → span ≡ span_word u.place u.len → AddsOperator e line text text (operator_read s) (Err (Fault.Argument UnknownOperator line u.place u.len span))
    operator_unknown span k = go (operator s) (sym (ap in_given q) ∙ x.answer)
      where
        go : (o : Reading) → given 8 (u.place ∷ u.len ∷ span_word u.place (u.place + u.len - u.place) ∷ []) ≡ given_by s (outcome_of s o)
            → AddsOperator e line text text (outcome_of s o) (Err (Fault.Argument UnknownOperator line u.place u.len span))
        go (accepted f) p = let z : ◌≡◌ {A = ℕ} 8 0 = ap number p in absurd (omega arith)
        go (unknown name) p =
            let a : u.place ≡ name_place s = ap (value 0) p in
            let b : u.len ≡ length name = ap (value 1) p in
            let c : span ≡ span_word (name_place s) (name_place s + length name - name_place s) =
            k ∙ ap (λ (n : ℕ). span_word u.place n) (let z : u.len ≡ u.place + u.len - u.place = omega arith in z) ∙ ap (value 2) p in
            record {
              told = Fault.Argument UnknownOperator line u.place u.len span;
              is = refl;
              faulted = record { given = rw (a, b, c); left = sym (padded_none (length text)) };
            }
