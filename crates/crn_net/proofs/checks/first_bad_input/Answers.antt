use Rattle.std.proofs.Common.{◌+◌, ◌∙◌, sym, below_more, arith}
use Rattle.crn_net.specs.Causes.{AreInputsTo}
use Rattle.crn_net.proofs.InputLists.{inputs_more, input_is_new}
use Rattle.crn_net.proofs.checks.first_bad_input.Goals as goal

pub returns-then-not-is_input : goal.returns-then-not-is_input
returns-then-not-is_input c = record {
  low = omega arith;
  high = omega (arith, c.loop-index-test.true);
  earlier = λ j l h. c.loop-index.invariant j h;
  here = λ k. absurd (cc (sym c.if-not-is_input.true ∙ c.is_input.ensures.1 (input_is_new c.args.rails c.args.species c.args.inputs.now c.loop-index.index _ c.loop-index-test.true k)));
}

pub loop-index-preserved : goal.loop-index-preserved
loop-index-preserved c =
    below_more (AreInputsTo c.args.rails c.args.species c.args.inputs.now) (c.loop-index.index + 1) c.loop-index.invariant
    (inputs_more c.args.rails c.args.species c.args.inputs.now c.loop-index.index _ c.loop-index-test.true (c.loop-index.invariant c.loop-index.index (omega arith)) (c.is_input.ensures.0 c.if-not-is_input.false))
