use Rattle.std.proofs.Common.{rules, subst}
use Rattle.crn_net.specs.Views.{reactions_of}
use Rattle.crn_gates.specs.Building.{IsSound}
use Rattle.crn_gates.specs.Pairs.{rails_of_uses}
use Rattle.crn_gates.proofs.FanLaws.{fanned_sound}
use Rattle.crn_gates.proofs.FanCalls.{fan_moves, fan_makes, width_dual, width_context}
use Rattle.crn_gates.proofs.Builder.fan_out.Goals as goal

pub invariant_of-builder : goal.invariant_of-builder
invariant_of-builder c = (
  c.self.invariant.0,
  record {
    sound = subst IsSound (search rules) (fanned_sound c.args.self.built.species (rails_of_uses c.args.self.variables c.args.uses.now));
    few_species = c.in_ok-last.ensures.value.1;
    begins = search rules;
    some_variable = c.self.invariant.1.some_variable;
    few_variables = c.self.invariant.1.few_variables;
  },
)

pub returns-clause-rails : goal.returns-clause-rails
returns-clause-rails c =
    fan_moves c.args.self.built (record { species = c.in_ok-last.last; reactions = reactions_of c.in_ok-reactions.reactions.items }) c.args.self.variables c.args.uses.now c.in_ok-copies.copies.items (search rules) (search rules)

pub returns-clause-value : goal.returns-clause-value
returns-clause-value c =
    fan_makes c.args.self.built (record { species = c.in_ok-last.last; reactions = reactions_of c.in_ok-reactions.reactions.items }) c.args.self.variables c.args.uses.now c.in_ok-copies.copies.items (search rules) (search rules)
    c.args.self.context (width_dual c.args.self c.requires.dual c.requires.first) (width_context c.args.self c.requires.dual c.requires.first) c.requires.uses
