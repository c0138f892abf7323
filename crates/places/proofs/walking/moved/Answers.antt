-- A run of bytes that give nothing, one of plain bytes, or one step.
use Rattle.places.proofs.WalkLaws.{moved_one, moved_run, moved_blank}
use Rattle.places.proofs.walking.moved.Goals as goal

pub returns-then-blank-gt0 : goal.returns-then-blank-gt0
returns-then-blank-gt0 c =
    let a = c in
    moved_blank _ a.args.s.now a.args.w a.requires.0 a.requires.1 a.args.n _ a.requires.2 c.blank_run-blank.ensures c.if-blank-gt0.true

pub returns-then-run-gt0 : goal.returns-then-run-gt0
returns-then-run-gt0 c =
    let a = c in
    let g = c.begins.ensures c.if-begins.true in
    moved_run _ a.args.s.now a.args.w a.requires.0 a.requires.1 a.args.n _ a.requires.2 (λ e. g) c.plain_run-run.ensures c.if-run-gt0.true

pub returns : goal.returns
returns c = let a = c in moved_one _ a.args.s.now a.args.w a.requires.0 a.requires.1 a.requires.2 c.stepped.ensures
