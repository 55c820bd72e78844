use Rattle.std.proofs.Common.{◌≡◌, drop}
use Rattle.crn_net.specs.Network.{amount}
use Rattle.crn_net.specs.Views.{parts_of}
use Rattle.crn_segments.specs.Step.{first_absent}
use Rattle.crn_segments.proofs.check_flow.Given as goal

abbrev pub invariant-loop-part : goal.invariant-loop-part
invariant-loop-part l =
    first_absent (amount l.state) (parts_of l.part-items) ≡ first_absent (amount l.state) (parts_of (drop l.part-index l.part-items))
