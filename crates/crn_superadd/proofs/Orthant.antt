-- The orthant: its columns, that it is a domain, and that the unit points are in it.
use Rattle.std.proofs.Common.{◌≡◌, ℕ, zero, suc, ◌≤◌, ◌+◌, ◌-◌, List, [], ◌∷◌, ◌++◌, length, take, refl, ap, ◌∙◌, arith, subst}
use Rattle.std.specs.Prelude.{pos, false, replicate}
use Rattle.std.proofs.lemmas.List.{length-map, length-replicate, length-append, length_push, take-append-le}
use Rattle.std.proofs.lemmas.List.Elements.{All-set, All-replicate, All-map}
use Rattle.crn_fraction.specs.Rational.{whole, 0ℚ, ◌≤ℚ◌}
use Rattle.crn_fraction.proofs.Products.{whole_nonneg}
use Rattle.crn_linear.specs.Forms.{wholes}
use Rattle.crn_linear.specs.Rows.{Row}
use Rattle.crn_formula.specs.Pieces.{IsIn, IsDomain, columns_of}
use Rattle.crn_formula.specs.Domains.{unit, orthant_rows, orthant}
use Rattle.crn_formula.proofs.Units.{length-unit, kept_orthant}
use Rattle.crn_formula.proofs.Points.{in_orthant}

-- as many columns as were asked
pub columns_of_orthant : (n : ℕ) → columns_of (orthant n) ≡ n
columns_of_orthant n = length-replicate n (pos 1)

length-orthant_rows : (n m : ℕ) → length (orthant_rows n m) ≡ m
length-orthant_rows n zero = refl
length-orthant_rows n (suc m) = length_push (orthant_rows n m) (record { entries = unit n m; strict = false }) ∙ ap (λ t. t + 1) (length-orthant_rows n m) ∙ omega arith

take_all : {X : Type 0} (xs : List X) (n : ℕ) → length xs ≡ n → take n xs ≡ xs
take_all [] zero e = refl
take_all [] (suc n) e = absurd (omega (arith, e))
take_all (x ∷ xs) zero e = absurd (omega (arith, e))
take_all (x ∷ xs) (suc n) e = ap (λ l. x ∷ l) (take_all xs n (omega (arith, e)))

-- it is a domain
pub orthant_is_domain : (n : ℕ) → 1 ≤ n → n ≤ 8 → IsDomain (orthant n)
orthant_is_domain n some few =
    let rows = orthant_rows n n in
    let long = length-orthant_rows n n in
    let none : Row = record { entries = []; strict = false } in
    let rest = replicate (8 - n) none in
    let taken : take n (rows ++ rest) ≡ rows = take-append-le n rows rest (omega (arith, long)) ∙ take_all rows n long in
    let eight : length (rows ++ rest) ≡ 8 = omega (arith, length-append rows rest, long, length-replicate (8 - n) none, few) in
    let kept = kept_orthant n (rows ++ rest) (replicate n (pos 1)) some few eight taken refl in
    subst (λ rs. IsDomain (record { rows = rs; inside = replicate n (pos 1) })) taken kept.domain

-- the unit points are in it
pub unit_in_orthant : (k i : ℕ) → IsIn (orthant k) (wholes (unit k i))
unit_in_orthant k i =
    (in_orthant k (wholes (unit k i))).1 (
      length-map (unit k i) whole ∙ length-unit k i,
      All-map (λ t. 0ℚ ≤ℚ t) whole (unit k i)
          (All-set (λ z. 0ℚ ≤ℚ whole z) (replicate k (pos 0)) i (pos 1) (whole_nonneg 1) (All-replicate (λ z. 0ℚ ≤ℚ whole z) k (pos 0) (whole_nonneg 0))),
    )
