use mathlib.Core.Path.{◌∙◌, sym, ap, refl}
use native.Mathlib.Omega.{arith}
use Rattle.lexer.specs.declared.stepping.Lexeme.{Lexeme}
use Rattle.directives.proofs.TextLaws.{begun, ended, passed, not_taken, ready, heard, stand, tally_low, faulty, lacking, put_fits, count_fits, turned}
use Rattle.directives.proofs.reading.read_all.Goals as goal

pub loop-stop-init : goal.loop-stop-init
loop-stop-init c = (rw c.nothing_yet-t.ensures (begun c.args.version c.args.s.now c.args.text.now c.args.records.now c.args.variables.now c.args.actions.now c.requires.0 c.requires.1.0 _ c.start-here.ensures), refl)

pub token_from-requires : goal.token_from-requires
token_from-requires c = record { s_len_bound = c.requires.0; reached = c.loop-stop.invariant.0.arrived; s_in_bounds = (omega (arith, c.loop-stop.invariant.1, c.requires.1.1), omega arith) }

pub returns-in-Nothing : goal.returns-in-Nothing
returns-in-Nothing c = rw c.at_end.ensures (ended c.args.version c.args.s.now c.args.text.now c.args.records.now c.args.variables.now c.args.actions.now c.requires.0 c.requires.1.0 c.loop-stop.invariant.0 (rw c.in-Nothing.is at c.token_from.ensures))

pub returns-in-Argues : goal.returns-in-Argues
returns-in-Argues c = rw c.at_line.ensures (not_taken c.args.version c.args.s.now c.args.text.now c.args.records.now c.args.variables.now c.args.actions.now c.requires.0 c.requires.1.0 c.loop-stop.invariant.0 (rw c.in-Token.is at c.token_from.ensures) (sym c.role_of.ensures ∙ c.in-Argues.is))

pub loop-stop-smaller-in-Closes : goal.loop-stop-smaller-in-Closes
loop-stop-smaller-in-Closes c = let x = (rw c.in-Token.is at c.token_from.ensures) in omega (arith, x.ahead, x.arrived.inside)

pub loop-stop-preserved-in-Closes : goal.loop-stop-preserved-in-Closes
loop-stop-preserved-in-Closes c = (passed c.args.version c.args.s.now c.args.text.now c.args.records.now c.args.variables.now c.args.actions.now c.requires.0 c.requires.1.0 c.loop-stop.invariant.0 (rw c.in-Token.is at c.token_from.ensures) (sym c.role_of.ensures ∙ c.in-Closes.is), c.token_from.auto.scratch ∙ c.loop-stop.invariant.1)

pub take_arguments-taken-requires : goal.take_arguments-taken-requires
take_arguments-taken-requires c = let x = (rw c.in-Token.is at c.token_from.ensures) in record { s_len_bound = c.requires.0; reached = x.arrived; s_in_bounds = (omega (arith, c.token_from.auto.scratch, c.loop-stop.invariant.1, c.requires.1.1), (omega (arith, x.short, ap (λ (m : Lexeme). m.len) x.is), omega arith)) }

pub read_body-requires : goal.read_body-requires
read_body-requires c = ready c.args.version c.args.s.now c.args.text.now c.args.records.now c.args.variables.now c.args.actions.now c.requires.0 c.requires.1.0 c.loop-stop.invariant.0 (rw c.in-Token.is at c.token_from.ensures) (omega (arith, c.loop-stop.invariant.1, c.requires.1.1)) (sym c.role_of.ensures ∙ c.in-Opens.is) c.take_arguments-taken.ensures

pub settle_fault-requires : goal.settle_fault-requires
settle_fault-requires c = (heard c.args.version c.args.s.now c.args.text.now c.args.records.now c.args.variables.now c.args.actions.now c.requires.0 c.requires.1.0 c.loop-stop.invariant.0 (rw c.in-Token.is at c.token_from.ensures) (omega (arith, c.loop-stop.invariant.1, c.requires.1.1)) (sym c.role_of.ensures ∙ c.in-Opens.is) c.take_arguments-taken.ensures _ c.read_body.auto.scratch, c.take_arguments-taken.ensures.arguments_are, stand c.args.version c.args.s.now c.args.text.now c.args.records.now c.args.variables.now c.args.actions.now c.requires.0 c.requires.1.0 c.loop-stop.invariant.0 (rw c.in-Token.is at c.token_from.ensures) (omega (arith, c.loop-stop.invariant.1, c.requires.1.1)) (sym c.role_of.ensures ∙ c.in-Opens.is) c.take_arguments-taken.ensures)

pub returns-in-Err : goal.returns-in-Err
returns-in-Err c = rw c.settle_fault.ensures (faulty c.args.version c.args.s.now c.args.text.now c.args.records.now c.args.variables.now c.args.actions.now c.requires.0 c.requires.1.0 c.loop-stop.invariant.0 (rw c.in-Token.is at c.token_from.ensures) (omega (arith, c.loop-stop.invariant.1, c.requires.1.1)) (sym c.role_of.ensures ∙ c.in-Opens.is) c.take_arguments-taken.ensures _ refl _ _ _ _ (rw c.in-Err.is at c.read_body.ensures))

pub settle-requires : goal.settle-requires
settle-requires c = record { heard = (heard c.args.version c.args.s.now c.args.text.now c.args.records.now c.args.variables.now c.args.actions.now c.requires.0 c.requires.1.0 c.loop-stop.invariant.0 (rw c.in-Token.is at c.token_from.ensures) (omega (arith, c.loop-stop.invariant.1, c.requires.1.1)) (sym c.role_of.ensures ∙ c.in-Opens.is) c.take_arguments-taken.ensures _ c.read_body.auto.scratch, c.take_arguments-taken.ensures.arguments_are, stand c.args.version c.args.s.now c.args.text.now c.args.records.now c.args.variables.now c.args.actions.now c.requires.0 c.requires.1.0 c.loop-stop.invariant.0 (rw c.in-Token.is at c.token_from.ensures) (omega (arith, c.loop-stop.invariant.1, c.requires.1.1)) (sym c.role_of.ensures ∙ c.in-Opens.is) c.take_arguments-taken.ensures); variables_le_limit = tally_low c.args.version c.args.s.now c.args.text.now c.args.records.now c.args.variables.now c.args.actions.now c.requires.0 c.requires.1.0 c.loop-stop.invariant.0 (rw c.in-Token.is at c.token_from.ensures) (omega (arith, c.loop-stop.invariant.1, c.requires.1.1)) (sym c.role_of.ensures ∙ c.in-Opens.is) c.take_arguments-taken.ensures }

pub returns-then-lacks_id : goal.returns-then-lacks_id
returns-then-lacks_id c = rw c.at_line-then-lacks_id.ensures (lacking c.args.version c.args.s.now c.args.text.now c.args.records.now c.args.variables.now c.args.actions.now c.requires.0 c.requires.1.0 c.loop-stop.invariant.0 (rw c.in-Token.is at c.token_from.ensures) (omega (arith, c.loop-stop.invariant.1, c.requires.1.1)) (sym c.role_of.ensures ∙ c.in-Opens.is) c.take_arguments-taken.ensures _ refl _ _ _ c.in-Ok.e (rw c.in-Ok.is at c.read_body.ensures) _ _ c.settle.ensures (sym c.lacks_id.ensures ∙ c.if-lacks_id.true))

pub put_directive-requires : goal.put_directive-requires
put_directive-requires c = put_fits c.args.version c.args.s.now c.args.text.now c.args.records.now c.args.variables.now c.args.actions.now c.requires.0 c.requires.1.0 c.loop-stop.invariant.0 (rw c.in-Token.is at c.token_from.ensures) (omega (arith, c.loop-stop.invariant.1, c.requires.1.1)) (sym c.role_of.ensures ∙ c.in-Opens.is) c.take_arguments-taken.ensures _ refl _ _ _ c.in-Ok.e (rw c.in-Ok.is at c.read_body.ensures) _ _ c.settle.ensures

pub counted-t-requires : goal.counted-t-requires
counted-t-requires c = count_fits c.args.version c.args.s.now c.args.text.now c.args.records.now c.args.variables.now c.args.actions.now c.requires.0 c.requires.1.0 c.loop-stop.invariant.0 (rw c.in-Token.is at c.token_from.ensures) (omega (arith, c.loop-stop.invariant.1, c.requires.1.1)) (sym c.role_of.ensures ∙ c.in-Opens.is) c.take_arguments-taken.ensures _ refl _ _ _ c.in-Ok.e (rw c.in-Ok.is at c.read_body.ensures) _ _ c.settle.ensures

pub loop-stop-smaller : goal.loop-stop-smaller
loop-stop-smaller c = let x = (rw c.in-Token.is at c.token_from.ensures) in let y = c.take_arguments-taken.ensures in omega (arith, x.ahead, y.short, y.arrived.inside)

pub loop-stop-preserved : goal.loop-stop-preserved
loop-stop-preserved c = (turned c.args.version c.args.s.now c.args.text.now c.args.records.now c.args.variables.now c.args.actions.now c.requires.0 c.requires.1.0 c.loop-stop.invariant.0 (rw c.in-Token.is at c.token_from.ensures) (omega (arith, c.loop-stop.invariant.1, c.requires.1.1)) (sym c.role_of.ensures ∙ c.in-Opens.is) c.take_arguments-taken.ensures _ refl _ _ _ c.in-Ok.e (rw c.in-Ok.is at c.read_body.ensures) _ _ c.settle.ensures (sym c.lacks_id.ensures ∙ c.if-lacks_id.false) _ c.put_directive.ensures _ c.counted-t.ensures, c.settle.auto.scratch ∙ c.read_body.auto.scratch ∙ c.take_arguments-taken.auto.scratch ∙ c.token_from.auto.scratch ∙ c.loop-stop.invariant.1)
