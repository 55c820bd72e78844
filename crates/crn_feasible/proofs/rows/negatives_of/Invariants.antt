use Rattle.std.proofs.Common.{◌≡◌, map, take}
use Rattle.std.specs.List.{filter}
use Rattle.crn_feasible.specs.Steps.{is_negative_at}
use Rattle.crn_feasible.proofs.rows.negatives_of.Given as goal

abbrev pub invariant-loop-row : goal.invariant-loop-row
invariant-loop-row l = map (λ r. r.now) l.found.items ≡ filter (is_negative_at l.v) (take l.row-index l.rows)
