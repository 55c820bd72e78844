use Rattle.std.proofs.Common.{suc, refl, rules, arith}
use Rattle.crn_gates.proofs.GateCalls.{sound_seen}
use Rattle.crn_gates.proofs.RailCalls.{min_one_sound, min_one_moves, min_one_makes}
use Rattle.crn_gates.proofs.Builder.min_one.Goals as goal

pub with_table-requires : goal.with_table-requires
with_table-requires c = (
  omega arith,
  min_one_sound c.args.self.built _ c.args.a c.args.b (suc c.args.self.built.species) (sound_seen _ _ c.self.invariant.1 c.self.view_is) c.requires (search rules) refl,
)

pub returns-clause-rails : goal.returns-clause-rails
returns-clause-rails c = min_one_moves c.args.self.built c.in_ok-builder.builder.built c.args.a c.args.b _ (sound_seen _ _ c.self.invariant.1 c.self.view_is) c.requires (search rules) (search rules)

pub returns-clause-value : goal.returns-clause-value
returns-clause-value c = min_one_makes c.args.self.built c.in_ok-builder.builder.built c.args.a c.args.b _ (sound_seen _ _ c.self.invariant.1 c.self.view_is) c.requires (search rules) (search rules)
