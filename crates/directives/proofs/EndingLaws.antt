-- How a call ends: what the two endings leave, and from what was read to what `directives` promises, one law for each way out.
use Rattle.directives.specs.declared.DirectivesError.TheVariants.{Gate, Refused, NoRoom}
use Rattle.lent.specs.declared.gating.GateError.{GateError}
use Rattle.lent.specs.declared.gating.GateError.TheVariants.{TooLong, Short, NotAscii}
use Rattle.std.specs.Prelude.{Ok, Err, Result}
use mathlib.Core.Path.{◌≡◌, refl, sym, ap, subst, ◌∙◌}
use mathlib.Core.Bool.{Bool, true, false}
use mathlib.Core.List.{List}
use Prim.Native.Nat.{ℕ, ◌+◌, ◌-◌, ◌*◌, ◌≤◌, min}
use native.Mathlib.Omega.{arith}
use lib.ListN.{length, take}
use borrow.Rule.Slice.PartMut.{mid_of, put_mid}
use Rattle.ascii.specs.Choice.{pick}
use Rattle.lent.specs.Sizes.{limit, variable_words, action_words, directive_words, room_for}
use Rattle.lent.specs.Buffers.{zeros, padded, stored, stored_each, joined}
use Rattle.lent.specs.Gates.{gate_of}
use Rattle.lent.specs.Table.{Refusal, refused as refused_given}
use Rattle.lent.proofs.GateLaws.{open_is}
use Rattle.lent.proofs.BufferLaws.{taken_first, each_fits, each_length}
use Rattle.lent.proofs.EndLaws.{words_fit, beyond_cleared}
use Rattle.directives.specs.Directives.{Directive, Fault as Cause}
use Rattle.directives.specs.Versions.{Version, directives_for}
use Rattle.directives.specs.Layout.{reached, listed_counts, action_counts, directives_from, variables_from, actions_from}
use Rattle.directives.specs.Table.{shut, overfull, filled, past_gate}
use Rattle.directives.specs.Promises.{Answer, Lent, lent_of, rooms_of, lacks, roomed, laid_out, directives_outcome, outcome_on, answer_given, naming, Directives, read_as}
use Rattle.directives.specs.Steps.{Laid, directive_each, each_from, listed_each, acted_each, tally_of, Written, AllRead, FirstFault, lacks_for, cleared_from, Refuses, EndsBy, Finishes}
use Rattle.directives.specs.declared.Fault.{Fault}
use Rattle.directives.specs.declared.parts.Tally.{Tally}
use Rattle.directives.proofs.RoomLaws.{under_is}
use Rattle.directives.proofs.LayoutLaws.{directives_long, variables_long, actions_long}
use Rattle.directives.proofs.EachLaws.{directives_joined, variables_joined, actions_joined}

-- ---- the last step

-- the records are inside three buffers of so many words
abbrev pub Inside : ℕ → ℕ → ℕ → Tally → Type 0
Inside d v a t = (t.directives * directive_words ≤ d) × ((t.variables * variable_words ≤ v) × (t.actions * action_words ≤ a))

-- where none of them lacks room
pub rooms_fit : (d v a : ℕ) (t : Tally) → lacks_for d v a t ≡ false → Inside d v a t
rooms_fit d v a t e =
    let h = (under_is (room_for directive_words d) t.directives (room_for variable_words v) t.variables (room_for action_words a) t.actions).0 e in
    (words_fit directive_words t.directives d h.0, (words_fit variable_words t.variables v h.1.0, words_fit action_words t.actions a h.1.1))

module _ (t : Tally) (text records variables actions : List ℕ) {full : Bool} (e : full ≡ lacks_for (length records) (length variables) (length actions) t) where
  pub ends_full : full ≡ true → {text' records' variables' actions' : List ℕ}
      → text' ≡ zeros (length text) → records' ≡ zeros (length records) → variables' ≡ zeros (length variables) → actions' ≡ zeros (length actions)
      → Finishes t text text' records records' variables variables' actions actions' (Err (NoRoom t.directives t.variables t.actions))
  ends_full h x r v a = let z = sym e ∙ h in record { answer = rw z; texts = rw z x; recorded = rw z r; listed = rw z v; acted = rw z a }

  pub ends_fit : full ≡ false → Inside (length records) (length variables) (length actions) t
  ends_fit h = rooms_fit (length records) (length variables) (length actions) t (sym e ∙ h)

  -- each buffer was lent from what was written on, and cleared
  pub ends_left : full ≡ false → {text' r v a : List ℕ} → text' ≡ cleared_from t.text text
      → r ≡ zeros (length (mid_of (t.directives * directive_words) (length records - t.directives * directive_words) records))
      → v ≡ zeros (length (mid_of (t.variables * variable_words) (length variables - t.variables * variable_words) variables))
      → a ≡ zeros (length (mid_of (t.actions * action_words) (length actions - t.actions * action_words) actions))
      → Finishes t text text'
      records (put_mid (t.directives * directive_words) (length records - t.directives * directive_words) records r)
      variables (put_mid (t.variables * variable_words) (length variables - t.variables * variable_words) variables v)
      actions (put_mid (t.actions * action_words) (length actions - t.actions * action_words) actions a)
      (Ok (read_as t.directives t.variables t.actions t.text))
  ends_left h x r v a =
      let z = sym e ∙ h in
      let f = ends_fit h in
      record {
        answer = rw z;
        texts = rw z x;
        recorded = rw z (beyond_cleared records (t.directives * directive_words) f.0 r);
        listed = rw z (beyond_cleared variables (t.variables * variable_words) f.1.0 v);
        acted = rw z (beyond_cleared actions (t.actions * action_words) f.1.1 a);
      }

-- a fault clears all, but for a name
module _ (f : Fault) (text : List ℕ) {records records' variables variables' actions actions' : List ℕ} {named : Bool} (e : named ≡ naming f)
    (r : records' ≡ zeros (length records)) (v : variables' ≡ zeros (length variables)) (a : actions' ≡ zeros (length actions)) where
  pub refuses_bare : named ≡ false → {text' : List ℕ} → text' ≡ zeros (length text) → Refuses f text text' records records' variables variables' actions actions'
  refuses_bare h x = let z = sym e ∙ h in record { texts = rw z x; recorded = r; listed = v; acted = a }

  pub refuses_named : named ≡ true → Refuses f text text records records' variables variables' actions actions'
  refuses_named h = let z = sym e ∙ h in record { texts = rw z; recorded = r; listed = v; acted = a }

-- ---- what was written, with zeros beyond

-- a text at the front
pub text_front : {old new xs : List ℕ} → Laid old new 0 xs → cleared_from (length xs) new ≡ padded (length old) xs
text_front {old} {new} {xs} x =
    let n : 0 + length xs ≡ length xs = omega arith in
    let f : take (length xs) new ≡ xs = ap (λ (k : ℕ). take k new) (sym n) ∙ x.front in
    rw (f, x.long)

-- records at the front that all fit
pub words_front : (old : List ℕ) (rs : List (List ℕ)) (w : List ℕ) {n : ℕ} {new : List ℕ} → new ≡ stored_each old 0 rs → joined rs ≡ w → length w ≡ n → n ≤ length old
    → cleared_from n new ≡ padded (length old) w
words_front old rs w {n} {new} e j l h =
    let s : stored_each old 0 rs ≡ stored old 0 w = each_fits old 0 rs (rw j (omega (arith, l))) ∙ ap (stored old 0) j in
    let f : take n new ≡ w = ap (take n) (e ∙ s) ∙ ap (λ (k : ℕ). take k (stored old 0 w)) (sym l) ∙ taken_first old w (omega (arith, l)) in
    let k : length new ≡ length old = ap length e ∙ each_length old 0 rs in
    rw (f, k)

-- ---- the ways out

module _ (version : Version) (s text scratch records variables actions : List ℕ) {least : ℕ} {g : (Result Unit GateError)} (m : least ≡ min (length text) (length scratch)) (e : g ≡ gate_of s least (length s)) where
  abbrev lent : Lent
  lent = lent_of text scratch records variables actions

  outcome_by_lem : (h : Result Unit GateError) (o : Result (List Directive) Cause) → g ≡ h → directives_for version s ≡ o → outcome_on version s lent ≡ past_gate h (roomed (rooms_of lent) o)
  unfolding directives_outcome
  outcome_by_lem h o f d = rw (← m, ← e, f, d)

  -- past the checks both byte buffers have room for the input
  pub open_rooms : g ≡ (Ok tt) → (length s ≤ limit) × ((length s ≤ length text) × (length s ≤ length scratch))
  open_rooms f =
      let o = (open_is s least (length s)).0 (sym e ∙ f) in
      (o.within, (omega (arith, o.room, m), omega (arith, o.room, m)))

  -- the checks: nothing is touched
  untouched : (x : Refusal) (r : Answer) → outcome_on version s lent ≡ shut x → answer_given r ≡ refused_given x → Directives version s lent lent r
  untouched x r z a = record { answer = rw z a; text = rw z; scratch = rw z; directives = rw z; variables = rw z; actions = rw z }

  pub gated : (x : GateError) → g ≡ Err x → Directives version s lent lent (Err (Gate x))
  gated TooLong f = untouched _ _ (outcome_by_lem (Err TooLong) (directives_for version s) f refl) refl
  gated (NotAscii p) f = untouched _ _ (outcome_by_lem (Err (NotAscii p)) (directives_for version s) f refl) refl
  gated Short f = untouched _ _ (outcome_by_lem (Err Short) (directives_for version s) f refl) refl

  -- past them scratch is cleared
  module _ (f : g ≡ (Ok tt)) {scratch' : List ℕ} (k : scratch' ≡ zeros (length scratch)) where
    pub refused : {text₁ text' records₁ records' variables₁ variables' actions₁ actions' : List ℕ} {r : Fault} → FirstFault version s text text₁ r
        → length text₁ ≡ length text → length records₁ ≡ length records → length variables₁ ≡ length variables → length actions₁ ≡ length actions
        → Refuses r text₁ text' records₁ records' variables₁ variables' actions₁ actions' → Directives version s lent (lent_of text' scratch' records' variables' actions') (Err (Refused r))
    refused {text₁ = text₁} {r = r} x lt lr lv la y =
        let z = outcome_by_lem (Ok tt) (Err x.fault) f x.read in
        record {
          answer = rw z x.faulted.given;
          text = rw z (y.texts ∙ ap (λ (n : ℕ). pick (naming r) text₁ (zeros n)) lt ∙ x.faulted.left);
          scratch = rw z k;
          directives = rw z (y.recorded ∙ ap zeros lr);
          variables = rw z (y.listed ∙ ap zeros lv);
          actions = rw z (y.acted ∙ ap zeros la);
        }

    pub finished : {text₁ text' records₁ records' variables₁ variables' actions₁ actions' : List ℕ} {t : Tally} {r : Answer}
        → AllRead version s text text₁ records records₁ variables variables₁ actions actions₁ t
        → Finishes t text₁ text' records₁ records' variables₁ variables' actions₁ actions' r → Directives version s lent (lent_of text' scratch' records' variables' actions') r
    finished {text₁} {text'} {records₁} {records'} {variables₁} {variables'} {actions₁} {actions'} {t} {r} x y =
        go (lacks (rooms_of lent) ds) refl
        (subst (λ (b : Bool). EndsBy b (tally_of ds) text₁ text' records₁ records' variables₁ variables' actions₁ actions' r) same
        (subst (λ (t : Tally). Finishes t text₁ text' records₁ records' variables₁ variables' actions₁ actions' r) x.tally_is y))
      where
        ds : List Directive
        ds = x.ds

        w : Written ds text text₁ records records₁ variables variables₁ actions actions₁
        w = x.written

        lr : length records₁ ≡ length records
        lr = ap length w.recorded ∙ each_length records 0 (directive_each (reached 0 0 0) ds)

        lv : length variables₁ ≡ length variables
        lv = ap length w.listed ∙ each_length variables 0 (each_from listed_each 0 ds)

        la : length actions₁ ≡ length actions
        la = ap length w.acted ∙ each_length actions 0 (each_from acted_each 0 ds)

        same : lacks_for (length records₁) (length variables₁) (length actions₁) (tally_of ds) ≡ lacks (rooms_of lent) ds
        same = rw (lr, lv, la)

        go : (b : Bool) → lacks (rooms_of lent) ds ≡ b → EndsBy b (tally_of ds) text₁ text' records₁ records' variables₁ variables' actions₁ actions' r → Directives version s lent (lent_of text' scratch' records' variables' actions') r
        go true q y =
            let z : outcome_on version s lent ≡ overfull (length ds) (listed_counts ds) (action_counts ds) = outcome_by_lem (Ok tt) (Ok ds) f x.read ∙ rw q in
            record {
              answer = rw (z, y.answer);
              text = rw z (y.texts ∙ ap zeros w.laid.long);
              scratch = rw z k;
              directives = rw z (y.recorded ∙ ap zeros lr);
              variables = rw z (y.listed ∙ ap zeros lv);
              actions = rw z (y.acted ∙ ap zeros la);
            }
        go false q y =
            let z : outcome_on version s lent ≡ filled (laid_out ds) = outcome_by_lem (Ok tt) (Ok ds) f x.read ∙ rw q in
            let h = rooms_fit (length records) (length variables) (length actions) (tally_of ds) q in
            record {
              answer = rw (z, y.answer);
              text = rw z (y.texts ∙ text_front w.laid);
              scratch = rw z k;
              directives = rw z (y.recorded ∙ words_front records (directive_each (reached 0 0 0) ds) (directives_from (reached 0 0 0) ds) w.recorded (directives_joined (reached 0 0 0) ds) (directives_long (reached 0 0 0) ds) h.0);
              variables = rw z (y.listed ∙ words_front variables (each_from listed_each 0 ds) (variables_from 0 ds) w.listed (variables_joined 0 ds) (variables_long 0 ds) h.1.0);
              actions = rw z (y.acted ∙ words_front actions (each_from acted_each 0 ds) (actions_from 0 ds) w.acted (actions_joined 0 ds) (actions_long 0 ds) h.1.1);
            }
