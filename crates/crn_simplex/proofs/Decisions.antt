-- What elimination says of a system: it has a point, or refutes it, or meets a limit. And walks, each of whose steps may be the last.
use Rattle.std.proofs.Common.{◌≡◌, ◌⊎◌, inl, inr, ⊎_elim, ℕ, zero, suc, ◌+◌, ◌<◌, List, length, Result, Ok, Err, refl, subst, arith}
use Rattle.std.specs.Prelude.{ℤ}
use Rattle.crn_farkas.specs.Systems.{System, IsRectangular, IsWholePoint, HasNoPoint}
use Rattle.crn_farkas.proofs.Motzkin.{no_point}
use Rattle.crn_feasible.specs.Elimination.{Stop, refuted, passes, too_many, elimination}
use Rattle.crn_feasible.proofs.Points.{full_rows, elimination_meets}
use Rattle.crn_feasible.proofs.Certificates.{elimination_refutes}
use Rattle.crn_feasible.proofs.Long.{elimination-long}

-- elimination of the system meets a limit
abbrev pub Stops : System → Type 0
Stops s = (elimination s ≡ Err passes) ⊎ (elimination s ≡ Err too_many)

-- that of some system of these does
abbrev pub StopsAt : (System → Type 0) → Type 0
StopsAt Asked = (s : System) × Asked s × Stops s

pub data Decision (s : System) : Type 0 where
  has_point : (p : List ℤ) → elimination s ≡ Ok p → IsWholePoint s p → length p ≡ s.columns → Decision s
  has_none : HasNoPoint s → Decision s
  has_limit : Stops s → Decision s

pub decision : (s : System) → IsRectangular s → Decision s
decision s even = go (elimination s) refl
  where
    go : (r : Result (List ℤ) Stop) → elimination s ≡ r → Decision s
    go (Ok p) e = has_point p e (elimination_meets s p (full_rows s even) e) (elimination-long s p e)
    go (Err (refuted c)) e = has_none (no_point s c even (elimination_refutes s c e))
    go (Err passes) e = has_limit (inl e)
    go (Err too_many) e = has_limit (inr e)

-- so many steps, unless one of them is the last
pub walk : (State : ℕ → Type 0) (End : Type 0) (n : ℕ) → ((i : ℕ) → i < n → State i → State (i + 1) ⊎ End) → State 0 → State n ⊎ End
walk State End zero step begin = inl begin
walk State End (suc n) step begin =
    let e : n + 1 ≡ suc n = omega arith in
    ⊎_elim (λ (s : State n). subst (λ k. State k ⊎ End) e (step n (omega arith) s)) (λ (end : End). inr end) (walk State End n (λ i l. step i (omega (arith, l))) begin)
