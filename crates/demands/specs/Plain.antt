-- M-103. A second lexer, driven by a table of classes and states: the same records, text and stop place as the first on every input.
-- Demand 3 holds for both.
use Rattle.std.specs.Prelude.{◌≡◌, List, ℕ, length, Result}
use Rattle.lexer.specs.Tokens.{reading}
use Rattle.lexer.specs.Promises.{tokens_outcome}
use Rattle.lexer.specs.Calls.{Roomy, Called}
use Rattle.lexer.specs.declared.writing.Read.{Read as TokensRead}
use Rattle.lexer.specs.declared.writing.TokensError.{TokensError}
use Rattle.lexer.specs.contracts.tokens as TokensOf
use Rattle.lexer.proofs.tokens.Symbol as TokensOfCode
use Rattle.plain.specs.Automaton.{plain_reading}
use Rattle.plain.specs.contracts.plain_tokens as PlainTokens
use Rattle.plain.proofs.plain_tokens.Symbol as PlainTokensCode
use Rattle.demands.specs.Contracts.{Keeps}
use Rattle.demands.specs.Calls.{Lent, lent, Left, left, tokens_promise}
use Rattle.demands.specs.Library.{With, fills_promise}
use Rattle.demands.specs.Demand3.{Demand3}

-- What the C functions of both lexers promise.
abbrev pub lexer_promise : With Lent → With (Left ℕ) → Type 0
lexer_promise = fills_promise (λ i. tokens_outcome i.input (length i.text) (length i.records))

pub record TwoLexers : Type 3 where
  -- of each function's own contract and code: the contract asks nothing and promises one and the same
  pub first : Keeps TokensOf.ended (λ M 𝓤 𝓛. TokensOf.spec 𝓛) TokensOfCode.code TokensOfCode.name Lent (Left (Result TokensRead TokensError)) tokens_promise
      (λ _ a. lent a.0.now a.1.0.now a.1.1.0.now) (λ _ r e. left r e.1.0.now e.1.1.0.now)
  pub plain : Keeps PlainTokens.ended (λ M 𝓤 𝓛. PlainTokens.spec 𝓛) PlainTokensCode.code PlainTokensCode.name Lent (Left (Result TokensRead TokensError)) tokens_promise
      (λ _ a. lent a.0.now a.1.0.now a.1.1.0.now) (λ _ r e. left r e.1.0.now e.1.1.0.now)
  -- so over two calls, one of each, with the same lent: the same answer, with its stop place, and the same text and records to the last element
  pub same : (i : Lent) (by_first by_plain : Left (Result TokensRead TokensError)) → tokens_promise i by_first → tokens_promise i by_plain → by_first ≡ by_plain
  -- and over a call of each C function: the number, the words for values and both buffers
  pub same_in_c : (i : With Lent) (by_first by_plain : With (Left ℕ)) → lexer_promise i by_first → lexer_promise i by_plain → by_first ≡ by_plain
  -- over the definitions: the automaton, byte by byte as its table says, reads a text as the first lexer's rules do
  pub same_reading : (s : List ℕ) → plain_reading s ≡ reading s
  -- demand 3 knows of a call nothing but its promise, so that it is about a call of either, also where the whole is read by one and a part by the other
  pub called : (i : Lent) (o : Left (Result TokensRead TokensError)) → tokens_promise i o → Roomy i.input i.text i.records → Called i.input
  pub of_both : Demand3
