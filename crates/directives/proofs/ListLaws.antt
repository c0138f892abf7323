-- An action list that stands in scratch: set down behind the texts, normalised into scratch, and read from there.
use Rattle.directives.specs.declared.Fault.{Fault as Told}
use Rattle.std.specs.Prelude.{Result, Ok, Err, Option, Some}
use mathlib.Core.Path.{◌≡◌, refl, sym, ap, ◌∙◌, subst}
use mathlib.Core.Bool.{true, false}
use mathlib.Core.List.{List, ◌++◌}
use Prim.Native.Nat.{ℕ, ◌+◌, ◌-◌, ◌≤◌}
use native.Mathlib.Omega.{arith}
use lib.ListN.{length, take, drop, length-drop}
use lib.Seq.{length-take-le, take_at}
use borrow.Author.Tests.{le-ltb}
use Rattle.lent.specs.Buffers.{padded, stored}
use Rattle.lent.specs.Sources.{part_word, Sourced}
use Rattle.lent.specs.Endings.{starts}
use Rattle.lent.specs.Table.{too_long, not_ascii, short_buffer, no_room, named, no_action, no_argument, no_variable, unknown_operator, bad_cursor, Outcome, refuses, reads}
use Rattle.lent.proofs.BufferLaws.{stored_fits, stored_length}
use Rattle.lent.proofs.StartLaws.{Started, starts_is}
use Rattle.lexer.specs.Steps.{part}
use Rattle.records.specs.Actions.{Action}
use Rattle.records.specs.Layout.{texts}
use Rattle.actions.specs.Normal.{normalised}
use Rattle.actions.specs.Pieces.{pieces}
use Rattle.actions.specs.Cores.{tight, Normalise, core_outcome, core_reached, core_text, core_records, ReadActions}
use Rattle.actions.specs.declared.Reached.{Reached}
use Rattle.actions.specs.declared.PieceError.{PieceError}
use Rattle.actions.specs.declared.PieceError.TheVariants.{Bad, Unknown, Unfit}
use Rattle.actions.proofs.NormalLaws.{normalised_length}
use Rattle.actions.proofs.CountLaws.{Counted, from_counted}
use Rattle.actions.proofs.CoreLaws.{bad_back}
use Rattle.directives.specs.Directives.{actions_read}
use Rattle.directives.specs.Steps.{Laid, with_actions, shrunk_by, AddsActions, ListLeft, ListRead, with_shrunk}
use Rattle.directives.specs.declared.ArgumentFault.TheVariants.{BadArgument, UnknownAction}
use Rattle.directives.specs.declared.Fault.TheVariants as Fault
use Rattle.directives.specs.declared.parts.Entry.{Entry}
use Rattle.directives.specs.declared.parts.List.{List as ListAnswer}
use Rattle.directives.proofs.FitLaws.{ActionsFit, actions_fit}
use Rattle.directives.proofs.LaidLaws.{laid_stored, laid_over, part_of}

-- ---- where it stands

module _ (scratch : List ℕ) (first past used place : ℕ) (text : List ℕ) (ends : past ≤ length scratch) (h : starts (past - first) (length text) used place ≡ true) where
  abbrev s : List ℕ
  s = part scratch first past

  begun : Started (past - first) (length text) used place
  begun = (starts_is (past - first) (length text) used place).0 h

  -- it is as long as its places say
  list_long : length s ≡ past - first
  list_long = length-take-le (past - first) (drop first scratch) (omega (arith, length-drop first scratch))

  room : used + length s ≤ length text
  room = omega (arith, list_long, begun.room)

  module _ {text₁ : List ℕ} (e : text₁ ≡ stored text used s) where
    set_long : length text₁ ≡ length text
    set_long = ap length e ∙ stored_length text used s

    pub set_inside : used + (past - first) ≤ length text₁
    set_inside = omega (arith, set_long, begun.room)

    -- it is read back from there
    set_down : part text₁ used (used + (past - first)) ≡ s
    set_down = part_of (take used text) s (drop (used + length s) text) (e ∙ stored_fits text used s room) (sym (length-take-le used text (omega (arith, room)))) (omega (arith, list_long))

    laid_there : Laid text text₁ used s
    laid_there = subst (λ (l : List ℕ). Laid text l used s) (sym e) (laid_stored text used s room)

    -- ---- normalised

    module _ (scratch₁ : List ℕ) (r : Option ℕ) (y : Normalise (part text₁ used (used + (past - first))) scratch scratch₁ r) where
      loose : tight s scratch ≡ false
      loose = le-ltb (length scratch) (length s) (omega (arith, list_long))

      answer_is : r ≡ Some (length (normalised s))
      answer_is = y.answer ∙ rw (set_down, loose)

      scratch_is : scratch₁ ≡ normalised s ++ drop (length (normalised s)) scratch
      scratch_is = y.text ∙ rw (set_down, loose)

      module _ {n : ℕ} (q : r ≡ Some n) where
        count_is : n ≡ length (normalised s)
        count_is = cc (q, answer_is)

        pub normal_count : n ≡ length (normalised (part scratch first past))
        normal_count = count_is

        pub count_fits : n ≤ past - first
        count_fits = omega (arith, count_is, normalised_length s, list_long)

        pub normal_is : take n scratch₁ ≡ normalised s
        normal_is = ap (take n) scratch_is ∙ take_at (normalised s) (drop (length (normalised s)) scratch) n (sym count_is)

    -- ---- read

    module _ {records text₂ records₂ : List ℕ} {r : Result Reached PieceError} (x : ReadActions (normalised s) used place text₁ text₂ records records₂ r) where
      comes_to : core_outcome (normalised s) (length text₁) used place ≡ actions_read s
      unfolding core_outcome
      comes_to =
          let b : starts (length (normalised s)) (length text₁) used place ≡ true =
          (starts_is (length (normalised s)) (length text₁) used place).1 (record {
            within = omega (arith, normalised_length s, begun.within, list_long);
            offset_low = begun.offset_low;
            count_low = begun.count_low;
            room = omega (arith, normalised_length s, set_inside, list_long);
          }) in
          rw b

      left_is : (o : Outcome (List (Sourced Action))) → Counted 0 (length (pieces (normalised s))) o → ActionsFit (length s) o → text₂ ≡ core_text used text₁ o → ListLeft o used text text₂
      left_is (reads xs) k f t = laid_over laid_there (subst (λ (l : List ℕ). Laid text₁ l used (texts xs)) (sym t) (laid_stored text₁ used (texts xs) (omega (arith, f.0, set_inside, list_long))))
      left_is (refuses (named no_action p name y')) k f t = t ∙ ap (λ (i : ℕ). padded i name) set_long
      left_is (refuses (named (no_argument flaw) p name y')) k f t = t ∙ ap (λ (i : ℕ). padded i name) set_long
      left_is (refuses (named no_variable p name y')) k f t = absurd k
      left_is (refuses too_long) k f t = absurd k
      left_is (refuses (not_ascii p)) k f t = absurd k
      left_is (refuses short_buffer) k f t = absurd k
      left_is (refuses (no_room p)) k f t = absurd k
      left_is (refuses (unknown_operator p l y')) k f t = absurd k
      left_is (refuses bad_cursor) k f t = absurd k

      pub list_read : {n : ℕ} → n ≡ length (normalised s) → ListRead (part scratch first past) used place text text₂ records records₂ (with_shrunk (past - first - n) r)
      list_read {n} e =
          let k : past - first - n ≡ shrunk_by s = omega (arith, e, list_long) in
          record {
            answer = ap (with_shrunk (past - first - n)) (x.answer ∙ rw comes_to) ∙ ap (λ (i : ℕ). with_shrunk i (core_reached used (actions_read s))) k;
            left = left_is (actions_read s) (from_counted 0 (pieces (normalised s))) (actions_fit s) (x.texts ∙ rw comes_to);
            words = x.words ∙ rw comes_to;
          }

-- ---- as a part of a directive

-- what is judged of it, but that it does not start there
abbrev pub judged_by : Entry → ℕ → Result ListAnswer PieceError → Result Entry Told
judged_by e line (Ok l) = Ok (with_actions e l.reached.count l.reached.offset l.shrunk l.reached.id l.reached.chain)
judged_by e line (Err (Unknown piece name span)) = Err (Fault.Argument UnknownAction line piece name span)
judged_by e line (Err (Bad flaw piece name span)) = Err (Fault.Argument (BadArgument flaw) line piece name span)
judged_by e line (Err Unfit) = Ok e

module _ (e : Entry) (line place : ℕ) (s text text' records records' : List ℕ) (r : Result ListAnswer PieceError) (x : ListRead s e.text place text text' records records' r) where
  abbrev n : ℕ
  n = shrunk_by s

  abbrev Adds : Outcome (List (Sourced Action)) → Result Entry Told → Type 0
  Adds o j = AddsActions e line place text text' records records' o n j

  pub actions_fitted : r ≡ Err Unfit → ⊥
  actions_fitted q = go (actions_read s) (from_counted 0 (pieces (normalised s))) (sym q ∙ x.answer)
    where
      go : (o : Outcome (List (Sourced Action))) → Counted 0 (length (pieces (normalised s))) o → Err Unfit ≡ with_shrunk n (core_reached e.text o) → ⊥
      go (reads xs) k p = cc
      go (refuses (named no_action i name y')) k p = cc
      go (refuses (named (no_argument flaw) i name y')) k p = let z = ap (with_shrunk n) (bad_back false false flaw i (length name) (part_word y')) in cc
      go (refuses (named no_variable i name y')) k p = absurd k
      go (refuses too_long) k p = absurd k
      go (refuses (not_ascii i)) k p = absurd k
      go (refuses short_buffer) k p = absurd k
      go (refuses (no_room i)) k p = absurd k
      go (refuses (unknown_operator i j y')) k p = absurd k
      go (refuses bad_cursor) k p = absurd k

  pub actions_judged : AddsActions e line place text text' records records' (actions_read s) n (judged_by e line r)
  actions_judged = rw x.answer (go (actions_read s) (from_counted 0 (pieces (normalised s))) x.left x.words)
    where
      go : (o : Outcome (List (Sourced Action))) → Counted 0 (length (pieces (normalised s))) o → ListLeft o e.text text text'
          → records' ≡ core_records e.text place records o → Adds o (judged_by e line (with_shrunk n (core_reached e.text o)))
      go (reads xs) k l w = record { is = refl; laid = l; records_are = w }
      go (refuses (named no_action i name y')) k l w = record { told = _; is = refl; faulted = record { given = refl; left = l } }
      go (refuses (named (no_argument flaw) i name y')) k l w =
          subst (λ (b : Result Reached PieceError). Adds (refuses (named (no_argument flaw) i name y')) (judged_by e line (with_shrunk n b))) (bad_back false false flaw i (length name) (part_word y')) (record { told = _; is = refl; faulted = record { given = refl; left = l } })
      go (refuses (named no_variable i name y')) k l w = absurd k
      go (refuses too_long) k l w = absurd k
      go (refuses (not_ascii i)) k l w = absurd k
      go (refuses short_buffer) k l w = absurd k
      go (refuses (no_room i)) k l w = absurd k
      go (refuses (unknown_operator i j y')) k l w = absurd k
      go (refuses bad_cursor) k l w = absurd k
