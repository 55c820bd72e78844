use Rattle.std.proofs.Common.{rules, ap, ◌∙◌, length}
use Rattle.crn_gates.proofs.Drafting.{length-inputs_after, draft_of, draft_kept, inputs_seen}
use Rattle.crn_gates.proofs.Builder.new.Goals as goal

pub invariant_of-result : goal.invariant_of-result
invariant_of-result c = (
  inputs_seen c.args.rails c.args.variables _ c.in_ok-inputs.ensures,
  draft_kept c.args.rails c.args.variables _ c.args.context _ _ c.requires.low c.requires.high (ap length c.in_ok-inputs.ensures ∙ length-inputs_after c.args.rails 0 c.args.variables)
      c.width_before.ensures (search rules),
)

pub returns-clause-begun : goal.returns-clause-begun
returns-clause-begun c =
    draft_of c.args.rails c.args.variables _ c.args.context _ _ (ap length c.in_ok-inputs.ensures ∙ length-inputs_after c.args.rails 0 c.args.variables) c.width_before.ensures (search rules)
