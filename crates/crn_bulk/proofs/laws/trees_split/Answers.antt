use Rattle.crn_bulk.proofs.TreeLaws.{tree-one, tree-halves, halves_are}
use Rattle.crn_bulk.proofs.laws.trees_split.Goals as goal

pub returns : goal.returns
returns c = record { one = tree-one; more = tree-halves; halves = halves_are }
