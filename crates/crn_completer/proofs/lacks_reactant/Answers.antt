use Rattle.std.proofs.Common.{length, sym, ◌∙◌, ap, arith}
use Rattle.crn_net.specs.Network.{amount}
use Rattle.crn_net.specs.Views.{parts_of}
use Rattle.crn_net.proofs.Sides.{read}
use Rattle.crn_completer.specs.Refusal.{lacks}
use Rattle.crn_completer.proofs.Quotients.{present_here, absent_here, read_is, read_in_range, test_zero}
use Rattle.crn_completer.proofs.lacks_reactant.Goals as goal

pub amount-requires-clause-low : goal.amount-requires-clause-low
amount-requires-clause-low c =
    let r = read_in_range (length c.args.state.now) c.loop-part.part-index c.args.reaction.now.takes.items c.deref-part-items.result.now c.deref-part-items.ensures.value c.requires.takes c.loop-part-test.true in
    omega (arith, r.0)

pub amount-requires-clause-high : goal.amount-requires-clause-high
amount-requires-clause-high c =
    (read_in_range (length c.args.state.now) c.loop-part.part-index c.args.reaction.now.takes.items c.deref-part-items.result.now c.deref-part-items.ensures.value c.requires.takes c.loop-part-test.true).1

pub returns-then-is_zero : goal.returns-then-is_zero
returns-then-is_zero c =
    sym (ap (λ x. lacks (amount c.args.state.now) (parts_of x)) (sym c.deref-part-items.ensures.value)
    ∙ absent_here (amount c.args.state.now) c.deref-part-items.result.now c.loop-part.part-index (read c.deref-part-items.result.now c.loop-part.part-index) c.loop-part-test.true
    (read_is c.deref-part-items.result.now c.loop-part.part-index c.loop-part-test.true)
    (test_zero c.amount.result _ c.is_zero.result c.is_zero.ensures c.amount.ensures.value ∙ c.if-is_zero.true) c.loop-part.invariant)

pub loop-part-preserved : goal.loop-part-preserved
loop-part-preserved c =
    present_here (amount c.args.state.now) c.deref-part-items.result.now c.loop-part.part-index (read c.deref-part-items.result.now c.loop-part.part-index) c.loop-part-test.true
    (read_is c.deref-part-items.result.now c.loop-part.part-index c.loop-part-test.true)
    (test_zero c.amount.result _ c.is_zero.result c.is_zero.ensures c.amount.ensures.value ∙ c.if-is_zero.false) c.loop-part.invariant
