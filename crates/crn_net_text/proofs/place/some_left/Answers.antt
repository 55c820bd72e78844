use Rattle.std.proofs.Common.{◌∙◌, sym, arith}
use Rattle.crn_net_text.proofs.Left.{left_here, none_left, named_next}
use Rattle.crn_net_text.proofs.place.some_left.Goals as goal

pub loop-s-preserved : goal.loop-s-preserved
loop-s-preserved c = named_next c.args.inputs.now c.loop-s.s c.loop-s.invariant (sym c.is_named.ensures ∙ c.if-not-is_named.false)

pub returns-then-not-is_named : goal.returns-then-not-is_named
returns-then-not-is_named c = sym (left_here c.args.inputs.now c.args.species c.loop-s.s (omega arith) (omega arith) (sym c.is_named.ensures ∙ c.if-not-is_named.true))

pub returns : goal.returns
returns c = sym (none_left c.args.inputs.now c.args.species (λ k low high. c.loop-s.invariant k low (omega arith)))
