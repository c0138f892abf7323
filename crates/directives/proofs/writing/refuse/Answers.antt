-- All is cleared, but for a name.
use Rattle.directives.proofs.EndingLaws.{refuses_bare, refuses_named}
use Rattle.directives.proofs.writing.refuse.Goals as goal

pub returns-then-not-is_named : goal.returns-then-not-is_named
returns-then-not-is_named c = refuses_bare c.args.f c.args.text.now c.is_named.ensures (c.fill.ensures.after (λ y e. e)) (c.fill-2.ensures.after (λ y e. e)) (c.fill-3.ensures.after (λ y e. e)) c.if-not-is_named.true (c.fill-then-not-is_named.ensures.after (λ y e. e))

pub returns-else-not-is_named : goal.returns-else-not-is_named
returns-else-not-is_named c = refuses_named c.args.f c.args.text.now c.is_named.ensures (c.fill.ensures.after (λ y e. e)) (c.fill-2.ensures.after (λ y e. e)) (c.fill-3.ensures.after (λ y e. e)) c.if-not-is_named.false
