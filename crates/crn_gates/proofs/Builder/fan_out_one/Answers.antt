use Rattle.std.proofs.Common.{rules, subst}
use Rattle.crn_net.specs.Views.{reactions_of}
use Rattle.crn_gates.specs.Building.{IsSound}
use Rattle.crn_gates.proofs.FanLaws.{fanned_sound}
use Rattle.crn_gates.proofs.RailCalls.{fan_one_moves, fan_one_makes, width_direct, uses_within}
use Rattle.crn_gates.proofs.Builder.fan_out_one.Goals as goal

pub invariant_of-builder : goal.invariant_of-builder
invariant_of-builder c = (
  c.self.invariant.0,
  record {
    sound = subst IsSound (search rules) (fanned_sound c.args.self.built.species c.args.uses.now);
    few_species = c.in_ok-last.ensures.value.1;
    begins = search rules;
    some_variable = c.self.invariant.1.some_variable;
    few_variables = c.self.invariant.1.few_variables;
  },
)

pub returns-clause-rails : goal.returns-clause-rails
returns-clause-rails c =
    fan_one_moves c.args.self.built (record { species = c.in_ok-last.last; reactions = reactions_of c.in_ok-reactions.reactions.items }) c.args.uses.now c.in_ok-copies.copies.items (search rules) (search rules)

pub returns-clause-value : goal.returns-clause-value
returns-clause-value c =
    fan_one_makes c.args.self.built (record { species = c.in_ok-last.last; reactions = reactions_of c.in_ok-reactions.reactions.items }) c.args.uses.now c.in_ok-copies.copies.items (search rules) (search rules)
    (uses_within c.args.self.variables c.args.self.built.species c.args.uses.now (width_direct c.args.self c.requires.direct c.requires.first) c.requires.uses)
