-- Conversions, which `?` and `From` call: each answers on anything, and its answer is what a definition says.
use Rattle.std.specs.Prelude.{◌≡◌}
use Rattle.lexer.specs.Layout.{kind_code, Decodes}
use Rattle.lexer.specs.declared.stepping.StepError.TheVariants as Step
use Rattle.lexer.specs.declared.writing.TokensError.TheVariants as Tokens
use Rattle.actions.specs.declared.ActionsError.TheVariants as Actions
use Rattle.variables.specs.declared.VariablesError.TheVariants as Variables
use Rattle.operators.specs.declared.OperatorError.TheVariants as Operators
use Rattle.directives.specs.declared.DirectivesError.TheVariants as Directives
use Rattle.lexer.specs.contracts.U64FromKind.from as KindNumber
use Rattle.lexer.proofs.U64FromKind.from.Symbol as KindNumberCode
use Rattle.lexer.specs.contracts.KindTryFromU64.try_from as NumberKind
use Rattle.lexer.proofs.KindTryFromU64.try_from.Symbol as NumberKindCode
use Rattle.lexer.specs.contracts.stepping.StepErrorFromGateError.from as StepGate
use Rattle.lexer.proofs.stepping.StepErrorFromGateError.from.Symbol as StepGateCode
use Rattle.lexer.specs.contracts.writing.TokensErrorFromGateError.from as TokensGate
use Rattle.lexer.proofs.writing.TokensErrorFromGateError.from.Symbol as TokensGateCode
use Rattle.actions.specs.contracts.ActionsErrorFromGateError.from as ActionsGate
use Rattle.actions.proofs.ActionsErrorFromGateError.from.Symbol as ActionsGateCode
use Rattle.variables.specs.contracts.VariablesErrorFromGateError.from as VariablesGate
use Rattle.variables.proofs.VariablesErrorFromGateError.from.Symbol as VariablesGateCode
use Rattle.operators.specs.contracts.OperatorErrorFromGateError.from as OperatorGate
use Rattle.operators.proofs.OperatorErrorFromGateError.from.Symbol as OperatorGateCode
use Rattle.operators.specs.contracts.OperatorErrorFromUnknownOperator.from as OperatorUnknown
use Rattle.operators.proofs.OperatorErrorFromUnknownOperator.from.Symbol as OperatorUnknownCode
use Rattle.directives.specs.contracts.DirectivesErrorFromGateError.from as DirectivesGate
use Rattle.directives.proofs.DirectivesErrorFromGateError.from.Symbol as DirectivesGateCode
use Rattle.directives.specs.contracts.DirectivesErrorFromFault.from as DirectivesFault
use Rattle.directives.proofs.DirectivesErrorFromFault.from.Symbol as DirectivesFaultCode
use Rattle.directives.specs.Promises.{line_number, argument_number}
use Rattle.directives.specs.contracts.U64FromLineFault.from as LineNumber
use Rattle.directives.proofs.U64FromLineFault.from.Symbol as LineNumberCode
use Rattle.directives.specs.contracts.U64FromArgumentFault.from as ArgumentNumber
use Rattle.directives.proofs.U64FromArgumentFault.from.Symbol as ArgumentNumberCode
use Rattle.demands.specs.Contracts.{Decides, Answers}

pub record OfConversions : Type 3 where
  -- the number of a kind of token
  pub kind_number : Answers KindNumber.ended (λ M 𝓤 𝓛. KindNumber.spec 𝓛) KindNumberCode.code KindNumberCode.name (λ _ a. kind_code a.0)
  -- and the kind of a number, or that it has none
  pub number_kind : Decides NumberKind.ended (λ M 𝓤 𝓛. NumberKind.spec 𝓛) NumberKindCode.code NumberKindCode.name (λ _ a r. Decodes a.0 r)
  -- the number of what refuses a line of a package, or an argument in it
  pub line_number_lem : Answers LineNumber.ended (λ M 𝓤 𝓛. LineNumber.spec 𝓛) LineNumberCode.code LineNumberCode.name (λ _ a. line_number a.0)
  pub argument_number_lem : Answers ArgumentNumber.ended (λ M 𝓤 𝓛. ArgumentNumber.spec 𝓛) ArgumentNumberCode.code ArgumentNumberCode.name (λ _ a. argument_number a.0)
  -- what the gate refuses with, in each reader's own errors
  pub step_gate : Answers StepGate.ended (λ M 𝓤 𝓛. StepGate.spec 𝓛) StepGateCode.code StepGateCode.name (λ _ a. Step.Gate a.0)
  pub tokens_gate : Answers TokensGate.ended (λ M 𝓤 𝓛. TokensGate.spec 𝓛) TokensGateCode.code TokensGateCode.name (λ _ a. Tokens.Gate a.0)
  pub actions_gate : Answers ActionsGate.ended (λ M 𝓤 𝓛. ActionsGate.spec 𝓛) ActionsGateCode.code ActionsGateCode.name (λ _ a. Actions.Gate a.0)
  pub variables_gate : Answers VariablesGate.ended (λ M 𝓤 𝓛. VariablesGate.spec 𝓛) VariablesGateCode.code VariablesGateCode.name (λ _ a. Variables.Gate a.0)
  pub operator_gate : Answers OperatorGate.ended (λ M 𝓤 𝓛. OperatorGate.spec 𝓛) OperatorGateCode.code OperatorGateCode.name (λ _ a. Operators.Gate a.0)
  pub operator_unknown : Answers OperatorUnknown.ended (λ M 𝓤 𝓛. OperatorUnknown.spec 𝓛) OperatorUnknownCode.code OperatorUnknownCode.name (λ _ a. Operators.Unknown a.0)
  pub directives_gate : Answers DirectivesGate.ended (λ M 𝓤 𝓛. DirectivesGate.spec 𝓛) DirectivesGateCode.code DirectivesGateCode.name (λ _ a. Directives.Gate a.0)
  -- a fault of a package
  pub directives_fault : Answers DirectivesFault.ended (λ M 𝓤 𝓛. DirectivesFault.spec 𝓛) DirectivesFaultCode.code DirectivesFaultCode.name (λ _ a. Directives.Refused a.0)
