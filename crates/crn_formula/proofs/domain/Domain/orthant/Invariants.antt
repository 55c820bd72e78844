use Rattle.std.proofs.Common.{◌≡◌, take, length}
use Rattle.crn_formula.specs.Domains.{orthant_rows}
use Rattle.crn_formula.proofs.domain.Domain.orthant.Given as goal

abbrev pub invariant-loop-i : goal.invariant-loop-i
invariant-loop-i l = record { eight : length l.rows ≡ 8; rows : take l.i l.rows ≡ orthant_rows l.columns l.i }
