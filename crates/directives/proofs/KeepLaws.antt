-- What the promise asks keeps the length of every buffer, so that a call can meet it: texts and names fit where 3 is not given, and
-- records where 4 is not.
use Rattle.lent.specs.declared.gating.GateError.TheVariants.{TooLong, Short, NotAscii}
use Rattle.lent.specs.declared.gating.GateError.{GateError}
use Rattle.std.specs.Prelude.{Ok, Err, Result}
use mathlib.Core.Path.{◌≡◌, refl, sym}
use Prim.Native.Nat.{ℕ, ◌≤◌, min}
use native.Mathlib.Omega.{arith}
use mathlib.Core.Bool.{Bool, true, false}
use mathlib.Core.List.{List}
use lib.ListN.{length, length-replicate}
use Rattle.ascii.specs.Choice.{pick}
use Rattle.lent.specs.Sizes.{room_for}
use Rattle.lent.specs.Gates.{gate_of}
use Rattle.lent.proofs.GateLaws.{Row, gate_row}
use Rattle.lent.proofs.BufferLaws.{padded_length}
use Rattle.directives.specs.Directives.{Directive, directives, Fault}
use Rattle.directives.specs.Layout.{reached, listed_counts, action_counts}
use Rattle.directives.specs.Versions.{Version, directives_for}
use Rattle.directives.specs.Table.{Outcome, shut, faulty, overfull, filled, past_gate, fault_name}
use Rattle.directives.specs.Promises.{Lent, rooms_of, outcome_on, directives_outcome, left_by, laid_out, lacks, roomed}
use Rattle.directives.specs.Parts.{Alike}
use Rattle.directives.proofs.VersionLaws.{for_holds}
use Rattle.directives.proofs.RoomLaws.{roomy_is}
use Rattle.directives.proofs.LayoutLaws.{directives_long, variables_long, actions_long}
use Rattle.directives.proofs.FitLaws.{ResultFits, result_more, directives_fit}

-- what an outcome writes has room in what is lent
abbrev Roomy : Lent → Outcome → Type 0
Roomy m (shut f) = Unit {0}
Roomy m (faulty f) = length (fault_name f) ≤ length m.text
Roomy m (overfull d v a) = Unit {0}
Roomy m (filled x) =
    (length x.texts ≤ length m.text) × ((length x.directives ≤ length m.directives) × ((length x.variables ≤ length m.variables) × (length x.actions ≤ length m.actions)))

keeps : (m : Lent) (o : Outcome) → Roomy m o → Alike m (left_by o m)
keeps m (shut f) h = record { text = refl; scratch = refl; directives = refl; variables = refl; actions = refl }
keeps m (faulty f) h = record {
  text = sym (padded_length (length m.text) (fault_name f) h);
  scratch = rw length-replicate;
  directives = rw length-replicate;
  variables = rw length-replicate;
  actions = rw length-replicate;
}
keeps m (overfull d v a) h = record {
  text = rw length-replicate;
  scratch = rw length-replicate;
  directives = rw length-replicate;
  variables = rw length-replicate;
  actions = rw length-replicate;
}
keeps m (filled x) h = record {
  text = sym (padded_length (length m.text) x.texts h.0);
  scratch = rw length-replicate;
  directives = sym (padded_length (length m.directives) x.directives h.1.0);
  variables = sym (padded_length (length m.variables) x.variables h.1.1.0);
  actions = sym (padded_length (length m.actions) x.actions h.1.1.1);
}

-- ---- records, where none lacks room

module _ (m : Lent) (ds : List Directive) where
  laid_roomy : length (laid_out ds).texts ≤ length m.text → lacks (rooms_of m) ds ≡ false → Roomy m (filled (laid_out ds))
  unfolding room_for
  laid_roomy h e =
      let k = (roomy_is m ds).0 e in
      (h, (omega (arith, k.0, directives_long (reached 0 0 0) ds), (omega (arith, k.1.0, variables_long 0 ds), omega (arith, k.1.1, actions_long 0 ds))))

roomed_roomy : (m : Lent) (r : Result (List Directive) Fault) → ResultFits (length m.text) r → Roomy m (roomed (rooms_of m) r)
roomed_roomy m (Err f) h = h
roomed_roomy m (Ok ds) h = go (lacks (rooms_of m) ds) refl
  where
    go : (t : Bool) → lacks (rooms_of m) ds ≡ t → Roomy m (pick t (overfull (length ds) (listed_counts ds) (action_counts ds)) (filled (laid_out ds)))
    go true e = tt
    go false e = laid_roomy m ds h.0 e

-- ---- a call

pub buffers_kept : (v : Version) (s : List ℕ) (m : Lent) → Alike m (left_by (outcome_on v s m) m)
unfolding directives_outcome
buffers_kept v s m = keeps m (outcome_on v s m) (go (gate_of s least (length s)) (gate_row s least (length s)))
  where
    least : ℕ
    least = min (length m.text) (length m.scratch)

    go : (g : Result Unit GateError) → Row s least (length s) g → Roomy m (past_gate g (roomed (rooms_of m) (directives_for v s)))
    go (Ok tt) r =
        roomed_roomy m (directives_for v s)
        (for_holds (ResultFits (length m.text)) (λ l. omega arith) v s (result_more (length s) (length m.text) (directives s) (omega (arith, r.room)) (directives_fit s)))
    go (Err TooLong) r = tt
    go (Err (NotAscii p)) r = tt
    go (Err Short) r = tt
