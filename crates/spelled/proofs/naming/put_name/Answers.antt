-- The code's part of the shelves is its name.
use mathlib.Core.Path.{subst}
use mathlib.Core.List.{List}
use Prim.Native.Nat.{ℕ}
use native.Mathlib.Omega.{arith}
use Rattle.ascii.specs.Text.{bytes}
use Rattle.ascii.specs.Fold.{lower}
use Rattle.listing.specs.Steps.{Puts}
use Rattle.single_action.specs.Table.{rows}
use Rattle.spelled.specs.Spelling.{coded}
use Rattle.spelled.specs.Steps.{name_for}
use Rattle.spelled.proofs.NamingLaws.{codes, shelves_of, lengths, length_fits, end_fits, end_inside, part_name, name_short}
use Rattle.spelled.proofs.naming.put_name.Goals as goal

pub overflow_cast-n : goal.overflow_cast-n
unfolding lengths
overflow_cast-n c = length_fits c.args.code c.requires.code_bound

pub overflow_add-first : goal.overflow_add-first
unfolding lengths
overflow_add-first c = end_fits c.args.code c.requires.code_bound

pub slice_bounds-put_bytes-end : goal.slice_bounds-put_bytes-end
unfolding codes shelves_of lengths name_for coded rows bytes lower
slice_bounds-put_bytes-end c = end_inside c.args.code c.requires.code_bound

pub put_bytes-requires : goal.put_bytes-requires
unfolding codes shelves_of lengths name_for coded rows bytes lower
put_bytes-requires c =
    let s = c in
    rw (part_name s.args.code s.requires.code_bound) (omega (arith, s.requires.at_bound, name_short s.args.code s.requires.code_bound))

pub returns : goal.returns
unfolding codes shelves_of lengths name_for coded rows bytes lower
returns c =
    let s = c in
    subst (λ (t : List ℕ). Puts s.args.out.now c.put_bytes.new.out s.args.at c.put_bytes.result t) (part_name s.args.code s.requires.code_bound) c.put_bytes.ensures
