use Rattle.std.proofs.Common.{suc, refl, rules}
use Rattle.crn_gates.proofs.GateCalls.{sound_seen, goes_on}
use Rattle.crn_gates.proofs.RailCalls.{leafed_one, leaf_one_sound, leaf_one_moves, leaf_one_makes}
use Rattle.crn_gates.proofs.Builder.leaf_one.Goals as goal

pub invariant_of-builder : goal.invariant_of-builder
invariant_of-builder c = (
  c.self.invariant.0,
  record {
    sound = leaf_one_sound c.args.self.built c.args.terms.items _ (suc c.args.self.built.species) c.requires.factors (sound_seen _ _ c.self.invariant.1 c.self.view_is) c.requires.free
        (leafed_one c.args.self.built c.args.terms.items _ _ (search rules) (search rules)) refl;
    few_species = search rules;
    begins = search rules;
    some_variable = c.self.invariant.1.some_variable;
    few_variables = c.self.invariant.1.few_variables;
  },
)

pub returns-clause-network : goal.returns-clause-network
returns-clause-network c = goes_on _ _ _ _ c.self.view_is (leafed_one c.args.self.built c.args.terms.items _ _ (search rules) (search rules))

pub returns-clause-rails : goal.returns-clause-rails
returns-clause-rails c =
    leaf_one_moves c.args.self.built c.args.terms.items _ c.in_ok-species.species c.requires.factors (sound_seen _ _ c.self.invariant.1 c.self.view_is) c.requires.free
    (leafed_one c.args.self.built c.args.terms.items _ _ (search rules) (search rules)) (search rules)

pub returns-clause-value : goal.returns-clause-value
returns-clause-value c =
    leaf_one_makes c.args.self.built c.args.terms.items _ c.in_ok-species.species c.requires.factors (sound_seen _ _ c.self.invariant.1 c.self.view_is) c.requires.free
    (leafed_one c.args.self.built c.args.terms.items _ _ (search rules) (search rules)) (search rules)
