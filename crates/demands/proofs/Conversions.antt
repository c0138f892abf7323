-- Demand 1 of conversions: each contract is its one clause, and the code meets it.
use Rattle.std.specs.Prelude.{◌≡◌, ℕ, zero, suc, ◌≤◌, Result, Ok, Err}
use mathlib.Core.Path.{◌∙◌, refl, sym, ap}
use mathlib.Core.Logic.{⊎_elim, inl, inr}
use native.Mathlib.Omega.{arith}
use Rattle.lexer.specs.declared.Kind.{Kind}
use Rattle.lexer.specs.declared.Kind.TheVariants.{Directive, Word, QuotedString, Comment, Newline}
use Rattle.lexer.specs.declared.UnknownKind.{UnknownKind}
use Rattle.lexer.specs.Layout.{kind_code, Decodes}
use Rattle.lexer.specs.Decoding.{kind_of}
use Rattle.lexer.proofs.GivenLaws.{kind_back}
use Rattle.lexer.proofs.KindTryFromU64.try_from as NumberKind
use Rattle.lexer.proofs.U64FromKind.from as KindNumber
use Rattle.lexer.proofs.stepping.StepErrorFromGateError.from as StepGate
use Rattle.lexer.proofs.writing.TokensErrorFromGateError.from as TokensGate
use Rattle.actions.proofs.ActionsErrorFromGateError.from as ActionsGate
use Rattle.variables.proofs.VariablesErrorFromGateError.from as VariablesGate
use Rattle.operators.proofs.OperatorErrorFromGateError.from as OperatorGate
use Rattle.operators.proofs.OperatorErrorFromUnknownOperator.from as OperatorUnknown
use Rattle.directives.proofs.DirectivesErrorFromGateError.from as DirectivesGate
use Rattle.directives.proofs.DirectivesErrorFromFault.from as DirectivesFault
use Rattle.directives.proofs.U64FromLineFault.from as LineNumber
use Rattle.directives.proofs.U64FromArgumentFault.from as ArgumentNumber
use Rattle.demands.proofs.FixedLaws.{gives}
use Rattle.demands.specs.Conversions.{OfConversions}

kind_low : (k : Kind) → (1 ≤ kind_code k) × (kind_code k ≤ 5)
kind_low Directive = (omega arith, omega arith)
kind_low Word = (omega arith, omega arith)
kind_low QuotedString = (omega arith, omega arith)
kind_low Comment = (omega arith, omega arith)
kind_low Newline = (omega arith, omega arith)

decoded : (code : ℕ) → (r : Result Kind UnknownKind) × Decodes code r
decoded zero = (Err (record { 0 = 0 }), (refl, inl refl))
decoded (suc zero) = (Ok Directive, refl)
decoded (suc (suc zero)) = (Ok Word, refl)
decoded (suc (suc (suc zero))) = (Ok QuotedString, refl)
decoded (suc (suc (suc (suc zero)))) = (Ok Comment, refl)
decoded (suc (suc (suc (suc (suc zero))))) = (Ok Newline, refl)
decoded (suc (suc (suc (suc (suc (suc n)))))) = (Err (record { 0 = suc (suc (suc (suc (suc (suc n))))) }), (refl, inr (omega arith)))

decodes_once : (code : ℕ) (r p : Result Kind UnknownKind) → Decodes code r → Decodes code p → r ≡ p
decodes_once code (Ok k) (Ok j) x y = ap Ok (sym (kind_back k) ∙ ap kind_of (x ∙ sym y) ∙ kind_back j)
decodes_once code (Ok k) (Err e) x y = let l = kind_low k in absurd (⊎_elim (λ z. omega (arith, x, z, l.0)) (λ h. omega (arith, x, h, l.1)) y.1)
decodes_once code (Err e) (Ok j) x y = let l = kind_low j in absurd (⊎_elim (λ z. omega (arith, y, z, l.0)) (λ h. omega (arith, y, h, l.1)) x.1)
decodes_once code (Err e) (Err f) x y = ap (λ (n : ℕ). Err (record { 0 = n })) (x.0 ∙ sym y.0)

pub of_conversions : OfConversions
of_conversions = record {
  kind_number = record { promises = record { tied = λ M 𝓤 𝓛 mem run. refl; met = λ M 𝓤. KindNumber.Met.met 𝓤 }; fixed = λ κs. gives _ };
  number_kind = record {
    promises = record { tied = λ M 𝓤 𝓛 mem run. refl; met = λ M 𝓤. NumberKind.Met.met 𝓤 };
    fixed = λ κs. record { total = λ a. decoded a.0; once = λ a r p x y. decodes_once a.0 r p x y };
  };
  line_number_lem = record { promises = record { tied = λ M 𝓤 𝓛 mem run. refl; met = λ M 𝓤. LineNumber.Met.met 𝓤 }; fixed = λ κs. gives _ };
  argument_number_lem = record { promises = record { tied = λ M 𝓤 𝓛 mem run. refl; met = λ M 𝓤. ArgumentNumber.Met.met 𝓤 }; fixed = λ κs. gives _ };
  step_gate = record { promises = record { tied = λ M 𝓤 𝓛 mem run. refl; met = λ M 𝓤. StepGate.Met.met 𝓤 }; fixed = λ κs. gives _ };
  tokens_gate = record { promises = record { tied = λ M 𝓤 𝓛 mem run. refl; met = λ M 𝓤. TokensGate.Met.met 𝓤 }; fixed = λ κs. gives _ };
  actions_gate = record { promises = record { tied = λ M 𝓤 𝓛 mem run. refl; met = λ M 𝓤. ActionsGate.Met.met 𝓤 }; fixed = λ κs. gives _ };
  variables_gate = record { promises = record { tied = λ M 𝓤 𝓛 mem run. refl; met = λ M 𝓤. VariablesGate.Met.met 𝓤 }; fixed = λ κs. gives _ };
  operator_gate = record { promises = record { tied = λ M 𝓤 𝓛 mem run. refl; met = λ M 𝓤. OperatorGate.Met.met 𝓤 }; fixed = λ κs. gives _ };
  operator_unknown = record { promises = record { tied = λ M 𝓤 𝓛 mem run. refl; met = λ M 𝓤. OperatorUnknown.Met.met 𝓤 }; fixed = λ κs. gives _ };
  directives_gate = record { promises = record { tied = λ M 𝓤 𝓛 mem run. refl; met = λ M 𝓤. DirectivesGate.Met.met 𝓤 }; fixed = λ κs. gives _ };
  directives_fault = record { promises = record { tied = λ M 𝓤 𝓛 mem run. refl; met = λ M 𝓤. DirectivesFault.Met.met 𝓤 }; fixed = λ κs. gives _ };
}
