use Rattle.crn_bulk.proofs.BulkLaws.{leaves_long, formula_leaves, formula_nodes, formula_depth}
use Rattle.crn_bulk.proofs.laws.formulas_of_leaves.Goals as goal

pub returns : goal.returns
returns c = record { count = leaves_long; leaves = formula_leaves; nodes = formula_nodes; depth = formula_depth }
