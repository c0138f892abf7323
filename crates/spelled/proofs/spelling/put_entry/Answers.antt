-- The name, and what stands behind it.
use native.Mathlib.Omega.{arith}
use Rattle.listing.proofs.PutLaws.{put_more}
use Rattle.spelled.proofs.NamingLaws.{name_short}
use Rattle.spelled.proofs.SpellLaws.{entry_spelled}
use Rattle.spelled.proofs.spelling.put_entry.Goals as goal

pub put_argument-requires : goal.put_argument-requires
put_argument-requires c =
    let s = c in
    record {
      placed = s.requires.placed;
      rule_value = s.requires.code_bound.1;
      broad_bound = omega (arith, s.requires.at_bound, c.put_name-named.ensures.next_is, name_short s.args.e.code s.requires.code_bound.0);
    }

pub returns : goal.returns
returns c =
    let s = c in
    rw (entry_spelled s.args.text.now s.args.e s.args.rule s.args.mark s.requires.code_bound.1 s.requires.mark_value) (put_more c.put_name-named.ensures c.put_argument.ensures)
