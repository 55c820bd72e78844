use Rattle.std.proofs.Common.{rules, arith}
use Rattle.crn_fraction.specs.Rational.{◌+ℚ◌}
use Rattle.crn_gates.specs.Gates.{stamped, add_table}
use Rattle.crn_gates.specs.Pairs.{rails_of_pairs, pair_after}
use Rattle.crn_gates.proofs.BuildingLaws.{add_stamps}
use Rattle.crn_gates.proofs.InRun.{add_in_run}
use Rattle.crn_gates.proofs.GateCalls.{sound_of, sound_seen, two_move, two_make}
use Rattle.crn_gates.proofs.Builder.add.Goals as goal

pub stamped-requires : goal.stamped-requires
stamped-requires c = (
  omega arith,
  sound_of (stamped (rails_of_pairs c.args.a c.args.b) 2 add_table c.args.self.built) _
      (add_stamps c.args.self.built c.args.a.plus c.args.a.minus c.args.b.plus c.args.b.minus (sound_seen _ _ c.self.invariant.1 c.self.view_is) c.requires).sound (search rules),
)

pub returns-clause-rails : goal.returns-clause-rails
returns-clause-rails c =
    two_move 2 4 5 add_table c.args.self c.args.a c.args.b (pair_after c.args.self.built.species) c.stamped.result (sound_seen _ _ c.self.invariant.1 c.self.view_is) c.requires
    (omega arith) (omega arith) (search rules) (search rules) add_stamps (omega arith) (omega arith)

pub returns-clause-value : goal.returns-clause-value
returns-clause-value c =
    two_make 2 4 5 add_table c.args.self c.args.a c.args.b (pair_after c.args.self.built.species) c.stamped.result (sound_seen _ _ c.self.invariant.1 c.self.view_is) c.requires
    (omega arith) (omega arith) (search rules) (search rules) (λ u v. u +ℚ v) add_in_run
