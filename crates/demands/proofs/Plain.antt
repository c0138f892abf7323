-- Two functions with one promise that has no second answer give the same; the lexers' own theorem is the crate's.
use Rattle.plain.proofs.SameLaws.{plain_is}
use Rattle.demands.specs.Plain.{TwoLexers}
use Rattle.demands.proofs.TokenCalls.{tokens_fixed}
use Rattle.demands.proofs.Library.{of_library}
use Rattle.demands.proofs.Demand1.{demand1}
use Rattle.demands.proofs.Demand3.{demand3}

pub two_lexers : TwoLexers
two_lexers = record {
  first = demand1.of_lexer.tokens;
  plain = demand1.of_lexer.plain_tokens;
  same = tokens_fixed.once;
  same_in_c = of_library.plain_tokens.fixed.once;
  same_reading = plain_is;
  called = λ i o x r.
      record { buffer = i.text; buffer' = o.text; words = i.records; words' = o.records; answer = o.answer; roomy = r; promise = x };
  of_both = demand3;
}
