-- Functions that are generic: one promise, the same at every type, and their own code, which meets it at every type that they take: at one that
-- is copied `store`, and so at bytes and words; at one with a test `leading` and `kept_len`.
use Rattle.std.specs.Prelude.{◌≡◌, ℕ, Bool, List, length}
use seplogic.Ra.Ura.{Ura}
use base.Logic.{SProp}
use prog.Memory.{Memory}
use prog.Routine.{Routine}
use types.Logic.{Logic}
use contract.BorrowLft.{◌⊑◌}
use contract.Lifetimes.{lft_at}
use contract.Monad.{Fun}
use contract.Notation.{connectives}
use mir.Syntax.{Dict}
use denote.RattleType.{RattleType}
use denote.Triple.Clauses.{Clauses, closing}
use Rattle.std.specs.declared.clone.Clone as Clone
use Rattle.demands.specs.Fixed.{Gives}
use Rattle.ascii.specs.Trim.{leading, strip_end}
use Rattle.ascii.specs.declared.trimming.ByteTest as ByteTest
use Rattle.ascii.specs.contracts.leading as Leading
use Rattle.ascii.proofs.leading.Statement as LeadingMet
use Rattle.ascii.specs.contracts.kept_len as KeptLen
use Rattle.ascii.proofs.kept_len.Statement as KeptLenMet
use Rattle.lent.specs.Buffers.{stored}
use Rattle.lent.specs.contracts.store as Store
use Rattle.lent.proofs.store.Statement as StoreMet

-- Their clauses at a type T. They ask nothing but what the language asks of every generic call, that T lives as long as the call.

-- How many bytes that pass T's test stand first.
abbrev pub leads : (T : RattleType) (G : ByteTest.Ghosts T.Denot) (d : Dict) {M : Type 1} (𝓤 : Ura M) → Clauses 𝓤 (Leading.ended T G d)
leads T G d 𝓤 κs a = record {
  ghost = Unit {0};
  requires = λ g. (connectives 𝓤).◌∗◌ ((connectives 𝓤).⌜◌⌝ (lft_at 2 1 tt κs ⊑ T.lives)) (connectives 𝓤).⊤ₛ;
  ensures = λ g r e. (connectives 𝓤).⌜◌⌝ (r ≡ leading G.test a.0.now);
}

-- The length up to the last byte that does not pass it.
abbrev pub keeps : (T : RattleType) (G : ByteTest.Ghosts T.Denot) (d : Dict) {M : Type 1} (𝓤 : Ura M) → Clauses 𝓤 (KeptLen.ended T G d)
keeps T G d 𝓤 κs a = record {
  ghost = Unit {0};
  requires = λ g. (connectives 𝓤).◌∗◌ ((connectives 𝓤).⌜◌⌝ (lft_at 2 1 tt κs ⊑ T.lives)) (connectives 𝓤).⊤ₛ;
  ensures = λ g r e. (connectives 𝓤).⌜◌⌝ (r ≡ length (strip_end G.test a.0.now));
}

-- A run of T's at a place of a slice, where it fits whole; else nothing has changed. Texts are stored by it, and records.
abbrev pub stores : (T : RattleType) (G : Clone.Ghosts T.Denot) (d : Dict) {M : Type 1} (𝓤 : Ura M) → Clauses 𝓤 (Store.ended T G d)
stores T G d 𝓤 κs a = record {
  ghost = Unit {0};
  requires = λ g. (connectives 𝓤).◌∗◌ ((connectives 𝓤).⌜◌⌝ (lft_at 3 2 tt κs ⊑ T.lives)) (connectives 𝓤).⊤ₛ;
  ensures = λ g r e. (connectives 𝓤).⌜◌⌝ (e.0.now ≡ stored a.0.now a.1.0 a.1.1.0.now);
}

-- At every type the contract is these clauses, the code meets it, and so ends, and what is promised is total and has no second answer.
pub record LeadingEach : Type 3 where
  pub tied : (T : RattleType) (G : ByteTest.Ghosts T.Denot) (d : Dict) (M : Type 1) (𝓤 : Ura M) (𝓛 : Logic 𝓤) (mem : Memory → SProp 𝓤) (run : Routine → Fun 𝓤)
      → Leading.spec T G d 𝓛 mem run ≡ closing 𝓛 (Leading.ended T G d) (leads T G d 𝓤)
  pub met : (M : Type 1) → LeadingMet.statement M
  pub fixed : (test : ℕ → Bool) → Gives (leading test)

pub record KeptLenEach : Type 3 where
  pub tied : (T : RattleType) (G : ByteTest.Ghosts T.Denot) (d : Dict) (M : Type 1) (𝓤 : Ura M) (𝓛 : Logic 𝓤) (mem : Memory → SProp 𝓤) (run : Routine → Fun 𝓤)
      → KeptLen.spec T G d 𝓛 mem run ≡ closing 𝓛 (KeptLen.ended T G d) (keeps T G d 𝓤)
  pub met : (M : Type 1) → KeptLenMet.statement M
  pub fixed : (test : ℕ → Bool) → Gives (λ (s : List ℕ). length (strip_end test s))

pub record StoreEach : Type 3 where
  pub tied : (T : RattleType) (G : Clone.Ghosts T.Denot) (d : Dict) (M : Type 1) (𝓤 : Ura M) (𝓛 : Logic 𝓤) (mem : Memory → SProp 𝓤) (run : Routine → Fun 𝓤)
      → Store.spec T G d 𝓛 mem run ≡ closing 𝓛 (Store.ended T G d) (stores T G d 𝓤)
  pub met : (M : Type 1) → StoreMet.statement M
  pub fixed : (A : Type 0) → Gives (λ (i : List A × ℕ × List A). stored i.0 i.1 i.2)
