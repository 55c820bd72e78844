use Rattle.std.proofs.Common.{rules}
use Rattle.crn_gates.proofs.GateCalls.{sound_seen, goes_on, next_pair, leafed, leaf_sound, leaf_moves, leaf_makes}
use Rattle.crn_gates.proofs.Builder.leaf.Goals as goal

pub invariant_of-builder : goal.invariant_of-builder
invariant_of-builder c = (
  c.self.invariant.0,
  record {
    sound = leaf_sound c.args.self.built c.args.terms.items _ (sound_seen _ _ c.self.invariant.1 c.self.view_is) c.requires.free
        (leafed c.args.self.built c.args.terms.items _ _ (search rules) (search rules));
    few_species = search rules;
    begins = search rules;
    some_variable = c.self.invariant.1.some_variable;
    few_variables = c.self.invariant.1.few_variables;
  },
)

pub returns-clause-network : goal.returns-clause-network
returns-clause-network c = goes_on _ _ _ _ c.self.view_is (leafed c.args.self.built c.args.terms.items _ _ (search rules) (search rules))

pub returns-clause-rails : goal.returns-clause-rails
returns-clause-rails c =
    leaf_moves c.args.self.built c.args.terms.items _ (sound_seen _ _ c.self.invariant.1 c.self.view_is) c.requires.free
    (leafed c.args.self.built c.args.terms.items _ _ (search rules) (search rules)) c.of.result (next_pair c.args.self.built.species c.in_ok-species.species _ (search rules) c.of.ensures)

pub returns-clause-value : goal.returns-clause-value
returns-clause-value c =
    leaf_makes c.args.self.built c.args.terms.items _ (sound_seen _ _ c.self.invariant.1 c.self.view_is) c.requires.free
    (leafed c.args.self.built c.args.terms.items _ _ (search rules) (search rules)) c.of.result (next_pair c.args.self.built.species c.in_ok-species.species _ (search rules) c.of.ensures)
