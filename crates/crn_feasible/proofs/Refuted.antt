-- Elimination refutes a short system of two columns that has no point: it meets no limit.
use Rattle.std.proofs.Common.{◌≡◌, ◌≤◌, ◌^◌, ◌*◌, List, length, Result, Ok, Err, refl, arith}
use Rattle.std.specs.Prelude.{ℤ}
use Rattle.crn_farkas.specs.Systems.{System, IsRectangular, IsWholePoint, HasNoPoint}
use Rattle.crn_farkas.proofs.Motzkin.{no_point}
use Rattle.crn_feasible.specs.Elimination.{Stop, refuted, passes, too_many, elimination, AreWithin}
use Rattle.crn_feasible.specs.Answers.{IsRefuted}
use Rattle.crn_feasible.proofs.Points.{full_rows, elimination_meets}
use Rattle.crn_feasible.proofs.Certificates.{elimination_refutes}
use Rattle.crn_feasible.proofs.Fits.{two_columns_pass, each_within}
use Rattle.crn_feasible.proofs.FewRows.{few_rows}

short_fits : 8 * ((2 ^ 14 * 2 ^ 14) * (2 ^ 14 * 2 ^ 14)) ≤ 2 ^ 59
short_fits = omega arith

pub refuted_short : (s : System) → IsRectangular s → s.columns ≡ 2 → length s.rows ≤ 128 → AreWithin (2 ^ 14) s → ((p : List ℤ) → IsWholePoint s p → ⊥) → IsRefuted s
refuted_short s even two few short none = go (elimination s) refl
  where
    go : (r : Result (List ℤ) Stop) → elimination s ≡ r → IsRefuted s
    go (Ok p) e = absurd (none p (elimination_meets s p (full_rows s even) e))
    go (Err (refuted c)) e = (c, e)
    go (Err passes) e = absurd (two_columns_pass s (2 ^ 14) (omega arith) two (each_within (2 ^ 14) s.rows short) short_fits e)
    go (Err too_many) e = absurd (few_rows s (full_rows s even) (omega (arith, two)) few e)

pub refuted_excludes : (s : System) → IsRectangular s → IsRefuted s → HasNoPoint s
refuted_excludes s even h = no_point s h.0 even (elimination_refutes s h.0 h.1)
