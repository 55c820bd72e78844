use Rattle.crn_net.specs.Network.{amount}
use Rattle.crn_completer.proofs.Quotients.{SoFar}
use Rattle.crn_completer.proofs.least_quotient.Given as goal

abbrev pub invariant-loop-part : goal.invariant-loop-part
invariant-loop-part l = SoFar (amount l.state) l.part-items l.part-index l.least
