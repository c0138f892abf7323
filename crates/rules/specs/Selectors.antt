-- Which ids a selector takes: RuleIdSelector::matches (directive.rs).
use Rattle.std.specs.Prelude.{ℕ, Bool, eqb, leb}
use Rattle.ascii.specs.Choice.{and}
pub use Rattle.rules.specs.declared.selecting.RuleIdSelector.{RuleIdSelector}
pub use Rattle.rules.specs.declared.selecting.RuleIdSelector.TheVariants.{Single, Range}

-- RuleIdSelector::matches: a range holds both its ends
abbrev pub matched : RuleIdSelector → ℕ → Bool
matched (Single s) id = eqb id s
matched (Range start end) id = and (leb start id) (leb id end)
