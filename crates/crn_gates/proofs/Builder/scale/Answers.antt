use Rattle.std.proofs.Common.{rules}
use Rattle.crn_gates.specs.Gates.{stamped, factor_of, scale_table}
use Rattle.crn_gates.specs.Pairs.{rails_of_pair}
use Rattle.crn_gates.proofs.BuildingLaws.{scale_stamps}
use Rattle.crn_gates.proofs.Factors.{factor_is}
use Rattle.crn_gates.proofs.GateCalls.{sound_of, sound_seen, scaled, next_pair, scale_moves, scale_makes}
use Rattle.crn_gates.proofs.Builder.scale.Goals as goal

pub invariant_of-builder : goal.invariant_of-builder
invariant_of-builder c = (
  c.self.invariant.0,
  record {
    sound = sound_of (stamped (rails_of_pair c.args.a) 2 (scale_table (factor_of c.args.factor)) c.args.self.built) _
        (scale_stamps (factor_of c.args.factor) (factor_is c.args.factor) c.args.self.built c.args.a.plus c.args.a.minus (sound_seen _ _ c.self.invariant.1 c.self.view_is) c.requires).sound
        (scaled c.args.self.built c.args.a (factor_of c.args.factor) _ _ (search rules) (search rules));
    few_species = search rules;
    begins = search rules;
    some_variable = c.self.invariant.1.some_variable;
    few_variables = c.self.invariant.1.few_variables;
  },
)

pub returns-clause-rails : goal.returns-clause-rails
returns-clause-rails c =
    scale_moves c.args.factor c.args.self.built _ c.args.a c.of.result (sound_seen _ _ c.self.invariant.1 c.self.view_is) c.requires
    (scaled c.args.self.built c.args.a (factor_of c.args.factor) _ _ (search rules) (search rules)) (next_pair c.args.self.built.species c.in_ok-species.species _ (search rules) c.of.ensures)

pub returns-clause-value : goal.returns-clause-value
returns-clause-value c =
    scale_makes c.args.factor c.args.self.built _ c.args.a c.of.result (sound_seen _ _ c.self.invariant.1 c.self.view_is) c.requires
    (scaled c.args.self.built c.args.a (factor_of c.args.factor) _ _ (search rules) (search rules)) (next_pair c.args.self.built.species c.in_ok-species.species _ (search rules) c.of.ensures)
