use Rattle.std.proofs.Common.{◌≡◌, take}
use Rattle.std.specs.Prelude.{min, sum_by}
use Rattle.crn_formula.specs.Functions.{condition_count}
use Rattle.crn_formula.specs.Views.{piece_of}
use Rattle.crn_formula.proofs.function.count_conditions.Given as goal

abbrev pub invariant-loop-piece : goal.invariant-loop-piece
invariant-loop-piece l = l.count ≡ min (sum_by (λ p. condition_count (piece_of p)) (take l.piece-index l.pieces)) 18446744073709551615
