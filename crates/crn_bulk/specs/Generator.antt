-- The generator of `bulk`: a function of four variables and amounts of its inputs, by draws from a number on.
use Rattle.std.specs.Prelude.{ℕ, zero, suc, ◌+◌, ◌-◌, ◌*◌, ◌/◌, ◌%◌, ℤ, pos, ◌-ℤ◌, List, [], ◌∷◌, ◌++◌, length, take, drop, replicate, slice_set}
use Rattle.crn_fraction.specs.Rational.{ℚ, whole, 0ℚ}
use Rattle.crn_formula.specs.Formulas.{Formula, Lin, Add, Sub, Min, Max}
use Rattle.crn_formula.specs.Functions.{ByFormula}
use Rattle.crn_job.specs.Grammar.{PlainJob}

-- the number that is drawn after z
abbrev pub next : ℕ → ℕ
next z = (75 * z + 74) % 65537

-- what draws made, and the number that was drawn last
pub record Drawn (X : Type 0) : Type 0 where
  pub made : X
  pub number : ℕ

abbrev pub drawn : {X : Type 0} → X → ℕ → Drawn X
drawn x z = record { made = x; number = z }

-- ---- leaves

-- 1 in place of 0
abbrev pub not_zero : ℤ → ℤ
not_zero (pos zero) = pos 1
not_zero c = c

-- the coefficient for a number: from -3 to 3, and not 0
abbrev pub coefficient : ℕ → ℚ
coefficient z = whole (not_zero (pos (z % 7) -ℤ pos 3))

-- the form over four variables with one coefficient, for the numbers drawn for its variable and for the coefficient
abbrev pub form : (variable z : ℕ) → List ℚ
form variable z = slice_set (replicate 4 0ℚ) (variable % 4) (coefficient z)

-- the leaf that is drawn after z
abbrev pub leaf : ℕ → Drawn (List ℚ)
leaf z = drawn (form (next z) (next (next z))) (next (next z))

-- so many leaves
abbrev pub leaves : (count z : ℕ) → Drawn (List (List ℚ))
leaves zero z = drawn [] z
leaves (suc n) z = let before = leaves n z in let last = leaf before.number in drawn (before.made ++ last.made ∷ []) last.number

-- ---- the tree over leaves

-- the operator for a number
abbrev pub operator : ℕ → Formula → Formula → Formula
operator zero = Add
operator (suc zero) = Sub
operator (suc (suc zero)) = Min
operator (suc (suc (suc n))) = Max

-- The leaves up to the middle one, and those after it. Counted from 0, the middle one of leaves 0 to n has the place n / 2.
abbrev pub middle : List (List ℚ) → ℕ
middle forms = (length forms - 1) / 2

abbrev pub left_of : List (List ℚ) → List (List ℚ)
left_of forms = take (middle forms + 1) forms

abbrev pub right_of : List (List ℚ) → List (List ℚ)
right_of forms = drop (middle forms + 1) forms

-- an operator over two trees, which is drawn after both
abbrev pub over : Drawn Formula → Drawn Formula → Drawn Formula
over left right = let z = next right.number in drawn (operator (z % 4) left.made right.made) z

-- The tree over leaves with at most so many levels of operators: one leaf, or an operator over the tree up to the middle leaf and the tree after it.
abbrev pub tree_within : (levels : ℕ) → List (List ℚ) → ℕ → Drawn Formula
tree_within levels [] z = drawn (Lin []) z
tree_within levels (form ∷ []) z = drawn (Lin form) z
tree_within zero (form ∷ more ∷ forms) z = drawn (Lin form) z
tree_within (suc levels) (form ∷ more ∷ forms) z =
    let all = form ∷ more ∷ forms in
    let left = tree_within levels (left_of all) z in
    over left (tree_within levels (right_of all) left.number)

-- the tree over leaves, which has fewer levels of operators than leaves
abbrev pub tree : List (List ℚ) → ℕ → Drawn Formula
tree forms z = tree_within (length forms) forms z

-- ---- amounts

-- the amount for a number
abbrev pub amount : ℕ → ℚ
amount z = whole (pos (z % 100))

-- the plus amount and the minus amount that are drawn after z
abbrev pub pair : ℕ → Drawn (List ℚ)
pair z = drawn (amount (next z) ∷ amount (next (next z)) ∷ []) (next (next z))

-- the amounts of so many inputs
abbrev pub amounts : (inputs z : ℕ) → Drawn (List ℚ)
amounts zero z = drawn [] z
amounts (suc n) z = let before = amounts n z in let last = pair before.number in drawn (before.made ++ last.made) last.number

-- ---- the job

-- the formula of n leaves
unfoldable pub bulk_formula : ℕ → Drawn Formula
bulk_formula n = let forms = leaves n n in tree forms.made forms.number

-- the amounts of the four inputs, drawn after the formula
unfoldable pub bulk_amounts : ℕ → Drawn (List ℚ)
bulk_amounts n = amounts 4 (bulk_formula n).number

-- the job of n leaves: its function and its amounts, with no segment
abbrev pub bulk_job : ℕ → PlainJob
bulk_job n = record {
  function = record { variables = 4; kind = ByFormula (bulk_formula n).made };
  amounts = (bulk_amounts n).made;
  segments = [];
}

-- the number that was drawn last for it
abbrev pub bulk_number : ℕ → ℕ
bulk_number n = (bulk_amounts n).number
