use Rattle.std.proofs.Common.{◌≡◌, drop}
use Rattle.crn_net.specs.Network.{amount}
use Rattle.crn_net.specs.Views.{parts_of}
use Rattle.crn_completer.specs.Refusal.{lacks}
use Rattle.crn_completer.proofs.lacks_reactant.Given as goal

abbrev pub invariant-loop-part : goal.invariant-loop-part
invariant-loop-part l = lacks (amount l.state) (parts_of l.part-items) ≡ lacks (amount l.state) (parts_of (drop l.part-index l.part-items))
