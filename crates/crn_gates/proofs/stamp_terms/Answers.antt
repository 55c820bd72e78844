use Rattle.std.proofs.Common.{arith, rules}
use Rattle.crn_gates.proofs.GateCalls.{more_both, more_single}
use Rattle.crn_gates.proofs.stamp_terms.Goals as goal
use Rattle.crn_gates.proofs.stamp_terms.Goals.{in-Both+in_ok-stamp_pair-in-Both, in-Single+in_ok-stamp_single-in-Single}

pub loop-factor-preserved : goal.loop-factor-preserved
loop-factor-preserved c =
    elim c.match-copied.branch [
      | in-Both+in_ok-stamp_pair-in-Both w ↦ more_both c.args.made.0 c.args.made.1 c.args.terms.now c.loop-factor.factor-index c.loop-factor-item.result _ _ _ (omega arith) c.loop-factor-item.is c.loop-factor.invariant w.in-Both.pair w.in-Both.is (search rules)
      | in-Single+in_ok-stamp_single-in-Single w ↦ more_single c.args.made.0 c.args.made.1 c.args.terms.now c.loop-factor.factor-index c.loop-factor-item.result _ _ _ (omega arith) c.loop-factor-item.is c.loop-factor.invariant w.in-Single.rail w.in-Single.is (search rules)
    ]
