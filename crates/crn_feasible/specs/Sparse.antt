-- Multipliers that are kept with the places of their rows, counted from 0, in ascending order of these. Where a row has none it is 0.
use Rattle.std.specs.Prelude.{◌≡◌, ℕ, zero, suc, ◌==◌, ◌<◌, ◌≤◌, cond, ℤ, pos, ◌+ℤ◌, ◌*ℤ◌, int_div, List, [], ◌∷◌}
use Rattle.std.specs.List.{All}
use Rattle.crn_linear.specs.Rows.{IsSmall}
use Rattle.crn_farkas.specs.Mixtures as mixtures

-- the multipliers of n rows from a place on, one for each
abbrev pub spread : (from n : ℕ) → List (ℕ × ℤ) → List ℤ
spread from zero ms = []
spread from (suc n) [] = pos 0 ∷ spread (suc from) n []
spread from (suc n) (m ∷ ms) = cond (m.0 == from) (m.1 ∷ spread (suc from) n ms) (pos 0 ∷ spread (suc from) n (m ∷ ms))

-- places that strictly ascend, from one on and below another
abbrev pub Ascend : (from to : ℕ) → List (ℕ × ℤ) → Type 0
Ascend from to [] = Unit {0}
Ascend from to (m ∷ ms) = (from ≤ m.0) × (m.0 < to) × Ascend (suc m.0) to ms

-- a times a multiplier, plus b times another of the same row, and a multiplier over g
abbrev pub scaled : ℤ → ℕ × ℤ → ℕ × ℤ
scaled a m = (m.0, a *ℤ m.1)

abbrev pub sum_of : ℤ → ℕ × ℤ → ℤ → ℕ × ℤ → ℕ × ℤ
sum_of a x b y = (x.0, a *ℤ x.1 +ℤ b *ℤ y.1)

abbrev pub divided : ℕ → ℕ × ℤ → ℕ × ℤ
divided g m = (m.0, int_div m.1 (pos g))

-- each is at most 2^59 in size
abbrev pub AreSmallAt : List (ℕ × ℤ) → Type 0
AreSmallAt ms = All (λ m. IsSmall m.1) ms

-- small multipliers of so many rows
pub record IsSparse (rows : ℕ) (ms : List (ℕ × ℤ)) : Type 0 where
  pub ascend : Ascend 0 rows ms
  pub small : AreSmallAt ms

-- a times the first multipliers plus b times the second, whatever the number of rows
pub record Mixes (a : ℤ) (p : List (ℕ × ℤ)) (b : ℤ) (q out : List (ℕ × ℤ)) : Type 0 where
  pub mixed : (rows : ℕ) → Ascend 0 rows p → Ascend 0 rows q → spread 0 rows out ≡ mixtures.mixed a (spread 0 rows p) b (spread 0 rows q)
  pub ascend : (rows : ℕ) → Ascend 0 rows p → Ascend 0 rows q → Ascend 0 rows out
