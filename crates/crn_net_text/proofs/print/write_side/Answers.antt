use Rattle.std.proofs.Common.{string_bytes, arith, sym, ap, subst, append-nil, take_all}
use Rattle.std.specs.Prelude.{All}
use Rattle.crn_net.specs.Views.{parts_of}
use Rattle.crn_net_text.specs.NetworkText.{IsSmall}
use Rattle.crn_net_text.proofs.Printing.{side_step, small_step}
use Rattle.crn_net_text.proofs.print.write_side.Goals as goal

pub loop-index-init : goal.loop-index-init
loop-index-init c = (sym (append-nil (string_bytes c.args.out.now)), λ i d within. absurd (omega arith))

pub loop-index-preserved : goal.loop-index-preserved
loop-index-preserved c = (
  side_step (string_bytes c.args.out.now) (string_bytes c.loop-index.out) (string_bytes c.write_next.new.out) c.args.parts.now c.loop-index.index _
      c.loop-index-test.true c.loop-index.invariant.0 c.in_ok-write_next.ensures.text,
  small_step c.args.parts.now c.loop-index.index _ c.loop-index-test.true c.loop-index.invariant.1 c.write_next.ensures.small,
)

pub returns-clause-small : goal.returns-clause-small
returns-clause-small c = subst (All IsSmall) (ap parts_of (take_all c.loop-index.index c.args.parts.now (omega (arith, c.loop-index-test.false)))) c.loop-index.invariant.1
