use Rattle.std.proofs.Common.{rules, arith, ◌+◌}
use Rattle.crn_fraction.specs.Rational.{min_ℚ}
use Rattle.crn_gates.specs.Gates.{stamped, min_table}
use Rattle.crn_gates.specs.Pairs.{rails_of_pairs, pair_after}
use Rattle.crn_gates.proofs.BuildingLaws.{min_stamps}
use Rattle.crn_gates.proofs.InRun.{min_in_run}
use Rattle.crn_gates.proofs.GateCalls.{sound_of, sound_seen, two_move, two_make}
use Rattle.crn_gates.proofs.Builder.min.Goals as goal

pub stamped-requires : goal.stamped-requires
stamped-requires c = (
  omega arith,
  sound_of (stamped (rails_of_pairs c.args.a c.args.b) 4 min_table c.args.self.built) _
      (min_stamps c.args.self.built c.args.a.plus c.args.a.minus c.args.b.plus c.args.b.minus (sound_seen _ _ c.self.invariant.1 c.self.view_is) c.requires).sound (search rules),
)

pub returns-clause-rails : goal.returns-clause-rails
returns-clause-rails c =
    two_move 4 6 7 min_table c.args.self c.args.a c.args.b (pair_after (c.args.self.built.species + 2)) c.stamped.result (sound_seen _ _ c.self.invariant.1 c.self.view_is) c.requires
    (omega arith) (omega arith) (search rules) (search rules) min_stamps (omega arith) (omega arith)

pub returns-clause-value : goal.returns-clause-value
returns-clause-value c =
    two_make 4 6 7 min_table c.args.self c.args.a c.args.b (pair_after (c.args.self.built.species + 2)) c.stamped.result (sound_seen _ _ c.self.invariant.1 c.self.view_is) c.requires
    (omega arith) (omega arith) (search rules) (search rules) min_ℚ min_in_run
