use Rattle.std.proofs.Common.{length}
use Rattle.crn_bulk.proofs.+tree.Given as goal

abbrev pub decreases-tree : goal.decreases-tree
decreases-tree l = length l.forms.now
