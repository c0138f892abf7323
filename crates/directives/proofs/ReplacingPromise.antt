-- M-100's theorem over what the public call promises: two calls, on texts that differ in an idle line, and on buffers of the same lengths.
use Rattle.lent.specs.declared.gating.GateError.TheVariants.{TooLong, NotAscii, Short}
use Rattle.directives.specs.declared.DirectivesError.TheVariants.{Gate, Refused, NoRoom}
use Rattle.lent.specs.declared.gating.GateError.{GateError}
use Rattle.std.specs.Prelude.{Ok, Err, Result}
use mathlib.Core.Path.{◌≡◌, refl, sym, ap, ap₂, ◌∙◌, subst}
use Prim.Native.Nat.{ℕ, min}
use native.Mathlib.Omega.{arith}
use mathlib.Core.Bool.{Bool, true, false}
use mathlib.Core.List.{List, [], ◌∷◌, ◌++◌}
use lib.ListN.{length}
use lib.Dec.{eqb}
use Rattle.ascii.specs.Choice.{pick}
use Rattle.lent.specs.Sizes.{span_word}
use Rattle.lent.specs.Table.{Given, given, too_long, not_ascii, short_buffer, no_room, named, no_action, no_argument, no_variable, unknown_operator, bad_cursor}
use Rattle.lent.specs.declared.refusing.Flaw.TheVariants as Flaw
use Rattle.lent.proofs.GateLaws.{row_gate}
use Rattle.lexer.specs.Parts.{Closed}
use Rattle.directives.specs.Directives.{Directive, Fault, wrong_count, untaken, stopped, id_missing, within}
use Rattle.directives.specs.Versions.{Version, directives_for}
use Rattle.directives.specs.Layout.{listed_counts, action_counts}
use Rattle.directives.specs.Table.{Filled, Outcome, shut, faulty, overfull, filled, past_gate, fault_given, given_by, text_by, records_by, scratch_by}
use Rattle.directives.specs.Promises.{Answer, answer_given, Rooms, rooms_of, Lent, outcome_on, directives_outcome, laid_out, lacks, roomed}
use Rattle.directives.specs.Parts.{Idle, erased_fault, erased_all, unspanned, unsourced_variables, unsourced_actions, unspanned_outcome, unspanned_reply, Fits, Called, Alike, SameTold}
use Rattle.directives.specs.declared.LineFault.TheVariants.{WrongCount, Untaken, Stopped, IdMissing}
use Rattle.directives.specs.declared.ArgumentFault.TheVariants.{UnknownVariable, UnknownOperator, UnknownAction, BadArgument}
use Rattle.directives.specs.declared.Fault.{Fault as Told}
use Rattle.directives.proofs.GivenLaws.{answer_told}
use Rattle.directives.proofs.EraseLaws.{outcome_erased, text_unspanned, scratch_unspanned, variables_unspanned, actions_unspanned, directives_unspanned}
use Rattle.directives.proofs.Replacing.{replaced_remark}

-- ---- past the gate

open_outcome : (v : Version) (s : List ℕ) (m : Lent) → Fits s m → outcome_on v s m ≡ roomed (rooms_of m) (directives_for v s)
unfolding directives_outcome
open_outcome v s m h =
    ap (λ (g : Result Unit GateError). past_gate g (roomed (rooms_of m) (directives_for v s)))
    (row_gate s (min (length m.text) (length m.scratch)) (length s) (Ok tt) (record { within = h.short; ascii = h.ascii; room = omega (arith, h.texts_fit_lem, h.scratch_fits) }))

-- an outcome past 1 to 3
abbrev Past : Outcome → Type 0
Past (shut f) = ⊥
Past (faulty f) = Unit {0}
Past (overfull d v a) = Unit {0}
Past (filled x) = Unit {0}

roomed_past : (m : Rooms) (o : Result (List Directive) Fault) → Past (roomed m o)
roomed_past m (Err f) = tt
roomed_past m (Ok ds) = go (lacks m ds)
  where
    go : (t : Bool) → Past (pick t (overfull (length ds) (listed_counts ds) (action_counts ds)) (filled (laid_out ds)))
    go true = tt
    go false = tt

-- it leaves the same in buffers of the same length
module _ (old new : List ℕ) (e : length old ≡ length new) where
  text_alike : (o : Outcome) → Past o → text_by o old ≡ text_by o new
  text_alike (shut f) h = absurd h
  text_alike (faulty f) h = rw e
  text_alike (overfull d v a) h = rw e
  text_alike (filled x) h = rw e

  scratch_alike : (o : Outcome) → Past o → scratch_by o old ≡ scratch_by o new
  scratch_alike (shut f) h = absurd h
  scratch_alike (faulty f) h = rw e
  scratch_alike (overfull d v a) h = rw e
  scratch_alike (filled x) h = rw e

  records_alike : (words : Filled → List ℕ) (o : Outcome) → Past o → records_by words o old ≡ records_by words o new
  records_alike words (shut f) h = absurd h
  records_alike words (faulty f) h = rw e
  records_alike words (overfull d v a) h = rw e
  records_alike words (filled x) h = rw e

-- ---- number and values without a span

-- The fourth value of a refusal is the span of its piece; of row 0 it is the length of the texts.
abbrev spanless : List ℕ → List ℕ
spanless [] = []
spanless (a ∷ []) = a ∷ []
spanless (a ∷ b ∷ []) = a ∷ b ∷ []
spanless (a ∷ b ∷ c ∷ []) = a ∷ b ∷ c ∷ []
spanless (a ∷ b ∷ c ∷ d ∷ r) = a ∷ b ∷ c ∷ 0 ∷ r

abbrev unspanned_given : Given → Given
unspanned_given g = given g.number (pick (eqb g.number 0) g.values (spanless g.values))

told_unspanned : (f : Told) → answer_given (unspanned_reply (Err (Refused f))) ≡ unspanned_given (answer_given (Err (Refused f)))
told_unspanned (Told.Line WrongCount line) = refl
told_unspanned (Told.Line Untaken line) = refl
told_unspanned (Told.Line Stopped line) = refl
told_unspanned (Told.Line IdMissing line) = refl
told_unspanned (Told.Argument UnknownVariable line piece name span) = refl
told_unspanned (Told.Argument UnknownOperator line place len span) = refl
told_unspanned (Told.Argument UnknownAction line piece name span) = refl
told_unspanned (Told.Argument (BadArgument Flaw.Absent) line piece name span) = refl
told_unspanned (Told.Argument (BadArgument Flaw.Unreadable) line piece name span) = refl
told_unspanned (Told.Argument (BadArgument Flaw.TooLarge) line piece name span) = refl

reply_unspanned : (r : Answer) → answer_given (unspanned_reply r) ≡ unspanned_given (answer_given r)
reply_unspanned (Ok r) = refl
reply_unspanned (Err (Gate TooLong)) = refl
reply_unspanned (Err (Gate (NotAscii place))) = refl
reply_unspanned (Err (Gate Short)) = refl
reply_unspanned (Err (Refused f)) = told_unspanned f
reply_unspanned (Err (NoRoom d v a)) = refl

fault_unspanned : (f : Fault) → fault_given (erased_fault f) ≡ unspanned_given (fault_given f)
unfolding span_word
fault_unspanned (wrong_count l) = refl
fault_unspanned (untaken l) = refl
fault_unspanned (stopped l) = refl
fault_unspanned (id_missing l) = refl
fault_unspanned (within l too_long) = refl
fault_unspanned (within l (not_ascii p)) = refl
fault_unspanned (within l short_buffer) = refl
fault_unspanned (within l (no_room n)) = refl
fault_unspanned (within l (named no_action p name x)) = refl
fault_unspanned (within l (named (no_argument Flaw.Absent) p name x)) = refl
fault_unspanned (within l (named (no_argument Flaw.Unreadable) p name x)) = refl
fault_unspanned (within l (named (no_argument Flaw.TooLarge) p name x)) = refl
fault_unspanned (within l (named no_variable p name x)) = refl
fault_unspanned (within l (unknown_operator p n x)) = refl
fault_unspanned (within l bad_cursor) = refl

given_unspanned : (o : Outcome) → Past o → given_by (unspanned_outcome o) ≡ unspanned_given (given_by o)
given_unspanned (shut f) h = absurd h
given_unspanned (faulty f) h = fault_unspanned f
given_unspanned (overfull d v a) h = refl
given_unspanned (filled x) h = refl

-- ---- two calls

module _ (v : Version) (s s' : List ℕ) (m n : Lent) (z : Alike m n) (same : erased_all (directives_for v s) ≡ erased_all (directives_for v s')) (k : Called v s m) (k' : Called v s' n) where
  abbrev one : Outcome
  one = outcome_on v s m

  abbrev two : Outcome
  two = outcome_on v s' n

  rooms_same : rooms_of m ≡ rooms_of n
  rooms_same = rw (z.directives, z.variables, z.actions)

  told_same : unspanned_outcome one ≡ unspanned_outcome two
  told_same =
      ap unspanned_outcome (open_outcome v s m k.fits)
      ∙ sym (outcome_erased (rooms_of m) (directives_for v s))
      ∙ ap₂ (λ (r : Rooms) (o : Result (List Directive) Fault). roomed r o) rooms_same same
      ∙ outcome_erased (rooms_of n) (directives_for v s')
      ∙ sym (ap unspanned_outcome (open_outcome v s' n k'.fits))

  one_past : Past one
  one_past = subst Past (sym (open_outcome v s m k.fits)) (roomed_past (rooms_of m) (directives_for v s))

  two_past : Past two
  two_past = subst Past (sym (open_outcome v s' n k'.fits)) (roomed_past (rooms_of n) (directives_for v s'))

  calls_same : SameTold k k'
  calls_same = record {
    answer = answer_told (unspanned_reply k.reply) (unspanned_reply k'.reply)
        (reply_unspanned k.reply ∙ ap unspanned_given k.promise.answer ∙ sym (given_unspanned one one_past) ∙ ap given_by told_same
        ∙ given_unspanned two two_past ∙ ap unspanned_given (sym k'.promise.answer) ∙ sym (reply_unspanned k'.reply));
    text = k.promise.text
        ∙ text_unspanned m.text one ∙ ap (λ (o : Outcome). text_by o m.text) told_same ∙ sym (text_unspanned m.text two)
        ∙ text_alike m.text n.text z.text two two_past ∙ sym k'.promise.text;
    scratch = k.promise.scratch
        ∙ scratch_unspanned m.scratch one ∙ ap (λ (o : Outcome). scratch_by o m.scratch) told_same ∙ sym (scratch_unspanned m.scratch two)
        ∙ scratch_alike m.scratch n.scratch z.scratch two two_past ∙ sym k'.promise.scratch;
    directives = ap unspanned k.promise.directives
        ∙ directives_unspanned m.directives one ∙ ap (λ (o : Outcome). unspanned (records_by (λ x. x.directives) o m.directives)) told_same
        ∙ sym (directives_unspanned m.directives two)
        ∙ ap unspanned (records_alike m.directives n.directives z.directives (λ x. x.directives) two two_past ∙ sym k'.promise.directives);
    variables = ap unsourced_variables k.promise.variables
        ∙ variables_unspanned m.variables one ∙ ap (λ (o : Outcome). unsourced_variables (records_by (λ x. x.variables) o m.variables)) told_same
        ∙ sym (variables_unspanned m.variables two)
        ∙ ap unsourced_variables (records_alike m.variables n.variables z.variables (λ x. x.variables) two two_past ∙ sym k'.promise.variables);
    actions = ap unsourced_actions k.promise.actions
        ∙ actions_unspanned m.actions one ∙ ap (λ (o : Outcome). unsourced_actions (records_by (λ x. x.actions) o m.actions)) told_same
        ∙ sym (actions_unspanned m.actions two)
        ∙ ap unsourced_actions (records_alike m.actions n.actions z.actions (λ x. x.actions) two two_past ∙ sym k'.promise.actions);
  }

-- Another idle line in an idle line's place: two calls give the same number and values, refusals included, and leave the same in all lent
-- memory, but for spans in the input.
pub replaced_promise : (front line line' rest : List ℕ) → Closed front → Idle line → Idle line' → {v : Version} {m n : Lent} → Alike m n
    → (k : Called v (front ++ line ++ rest) m) (k' : Called v (front ++ line' ++ rest) n) → SameTold k k'
replaced_promise front line line' rest f i i' {v = v} {m = m} {n = n} z k k' =
    calls_same v (front ++ line ++ rest) (front ++ line' ++ rest) m n z ((replaced_remark front line line' rest i i' f).same v) k k'
