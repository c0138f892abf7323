-- A public function as the kit has it: its signature, its contract, which is made of its `requires` and `ensures`, and its code.
-- What a function promises is said of these themselves, and not of a copy.
use Rattle.std.specs.Prelude.{◌≡◌}
use seplogic.Ra.Ura.{Ura}
use base.Logic.{SProp}
use prog.Memory.{Memory}
use prog.Model.{Model}
use prog.Routine.{Routine, Callee}
use prog.Wired.{Code, Wired}
use types.Logic.{Logic}
use contract.Lifetimes.{Lfts}
use contract.Monad.{Fun}
use contract.Notation.{connectives}
use contract.Running.{Running}
use denote.Triple.Entry.{Args, Res}
use denote.Triple.Spec.{Spec, Meets}
use denote.Triple.Clauses.{Ended, Clauses, AtExit, closing}
use Rattle.demands.specs.Fixed.{Fixed}

-- A contract at a signature, in whatever model of memory and of runs.
abbrev pub Contract : Ended → Type 2
Contract ended = (M : Type 1) (𝓤 : Ura M) → (𝓛 : Logic 𝓤) → (Memory → SProp 𝓤) → (Routine → Fun 𝓤) → Spec 𝓤 ended.signature

module _ (ended : Ended) (contract : Contract ended) (code : Code) (name : Callee) where
  abbrev pub Lifetimes : Type 0
  Lifetimes = Lfts ended.signature.lifetimes

  -- what is passed: the first is `a.0`, the second `a.1.0`, and so on; of a slice, `now` is what it holds
  abbrev pub Passed : Lifetimes → Type 0
  Passed = Args ended.signature

  abbrev pub Result : Lifetimes → Type 0
  Result = Res ended.signature

  -- the same parameters at exit
  abbrev pub AtEnd : Lifetimes → Type 0
  AtEnd = AtExit ended

  abbrev pub Promise : Type 1
  Promise = (κs : Lifetimes) → Passed κs → Result κs → AtEnd κs → Type 0

  -- The clauses of a contract that asks nothing and promises this.
  abbrev pub promising : Promise → {M : Type 1} (𝓤 : Ura M) → Clauses 𝓤 ended
  promising P 𝓤 κs a = record {
    ghost = Unit {0};
    requires = λ g. (connectives 𝓤).⊤ₛ;
    ensures = λ g r e. (connectives 𝓤).⌜◌⌝ (P κs a r e);
  }

  -- The function's contract asks nothing and promises this; and its code meets its contract, and so ends, whatever is passed:
  -- wherever calls mean what the code says, a call by the function's name meets it.
  pub record Promises (P : Promise) : Type 3 where
    pub tied : (M : Type 1) (𝓤 : Ura M) (𝓛 : Logic 𝓤) (mem : Memory → SProp 𝓤) (run : Routine → Fun 𝓤)
        → contract M 𝓤 𝓛 mem run ≡ closing 𝓛 ended (promising P 𝓤)
    pub met : (M : Type 1) (𝓤 : Ura M) (𝓛 : Logic 𝓤) (𝓜 : Model 𝓤 𝓛.H) (𝓡 : Running 𝓤 𝓛.H 𝓜) → Wired 𝓡.env code
        → Meets 𝓛 ended.signature (𝓡.run (𝓡.env name)) (contract M 𝓤 𝓛 𝓜.mem 𝓡.returns)

  -- It promises this of its answer, which is total and has no second answer.
  pub record Decides (P : (κs : Lifetimes) → Passed κs → Result κs → Type 0) : Type 3 where
    pub promises : Promises (λ κs a r e. P κs a r)
    pub fixed : (κs : Lifetimes) → Fixed (Passed κs) (Result κs) (P κs)

  -- Its answer is what a definition says of what is passed.
  abbrev pub Answers : ((κs : Lifetimes) → Passed κs → Result κs) → Type 3
  Answers g = Decides (λ κs a r. r ≡ g κs a)

  -- It promises this of what goes in and what comes out, lent memory with it, which is total and has no second answer.
  pub record Keeps (In Out : Type 0) (P : In → Out → Type 0) (taken : (κs : Lifetimes) → Passed κs → In)
      (left : (κs : Lifetimes) → Result κs → AtEnd κs → Out) : Type 3 where
    pub promises : Promises (λ κs a r e. P (taken κs a) (left κs r e))
    pub fixed : Fixed In Out P
