-- The source's lists are those of the definitions.
use mathlib.Core.Path.{refl}
use Rattle.plain.specs.Coding.{column_digits, cell_numbers}
use Rattle.plain.proofs.running.run.Goals as goal

pub run_by-requires : goal.run_by-requires
unfolding column_digits cell_numbers
run_by-requires c = record { columns_value = (refl, refl); s_len_bound = (c.requires.s_len_bound, c.requires.s_in_bounds) }
