-- Any text but none has its span.
use mathlib.Core.Path.{◌≡◌, ◌∙◌, refl}
use Prim.Native.Nat.{ℕ, ◌-◌}
use Rattle.lent.specs.Sizes.{span_word}
use Rattle.single_action.specs.declared.plans.Origin.{Origin}
use Rattle.single_action.specs.declared.plans.Origin.TheVariants.{Absent, Copied, Lowered, Tx, One}
use Rattle.actions.specs.Steps.{origin_word}
use Rattle.actions.proofs.writing.word_of.Goals as goal

some : (o : Origin) (at end : ℕ) → (o ≡ Absent → ⊥) → span_word at (end - at) ≡ origin_word o at end
some Absent at end h = absurd (h refl)
some (Copied first past) at end h = refl
some (Lowered first past) at end h = refl
some Tx at end h = refl
some One at end h = refl

pub returns-in_default : goal.returns-in_default
returns-in_default c = c.span-span.ensures ∙ some c.args.origin c.args.at c.args.end c.in_default.not-Absent
