use Rattle.crn_net.proofs.Sides.{RestIsSide}
use Rattle.crn_net.proofs.checks.is_side.Given as goal

abbrev pub invariant-loop-part : goal.invariant-loop-part
invariant-loop-part l = RestIsSide l.species l.parts l.part-index l.last
