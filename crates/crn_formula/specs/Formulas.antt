-- Formulas over linear forms: their values, their sizes, and which numbers are formed on the way to a value.
use Rattle.std.specs.Prelude.{◌≡◌, ℕ, ◌+◌, max, Bool, ◌||◌, not, List, length}
use Rattle.crn_fraction.specs.Rational.{ℚ, ◌+ℚ◌, ◌-ℚ◌, ◌*ℚ◌, min_ℚ, max_ℚ, is_zero_ℚ}
use Rattle.crn_fraction.specs.Frac.{IsFrac}
use Rattle.crn_linear.specs.Forms.{at, entry_of, IsValueInReach}

-- a tree of operators, with linear forms as its leaves
pub data Formula : Type 0 where
  Lin : List ℚ → Formula
  Add : Formula → Formula → Formula
  Sub : Formula → Formula → Formula
  Scale : ℚ → Formula → Formula
  Min : Formula → Formula → Formula
  Max : Formula → Formula → Formula

-- the value at a point
abbrev pub formula_value : Formula → List ℚ → ℚ
formula_value (Lin form) x = at form x
formula_value (Add a b) x = formula_value a x +ℚ formula_value b x
formula_value (Sub a b) x = formula_value a x -ℚ formula_value b x
formula_value (Scale q a) x = q *ℚ formula_value a x
formula_value (Min a b) x = min_ℚ (formula_value a x) (formula_value b x)
formula_value (Max a b) x = max_ℚ (formula_value a x) (formula_value b x)

-- the value of each node, and each product and partial sum of a leaf, is a fraction that fits
abbrev pub IsFormulaInReach : Formula → List ℚ → Type 0
IsFormulaInReach (Lin form) x = IsValueInReach form x
IsFormulaInReach (Add a b) x = IsFormulaInReach a x × IsFormulaInReach b x × IsFrac (formula_value a x +ℚ formula_value b x)
IsFormulaInReach (Sub a b) x = IsFormulaInReach a x × IsFormulaInReach b x × IsFrac (formula_value a x -ℚ formula_value b x)
IsFormulaInReach (Scale q a) x = IsFormulaInReach a x × IsFrac (q *ℚ formula_value a x)
IsFormulaInReach (Min a b) x = IsFormulaInReach a x × IsFormulaInReach b x
IsFormulaInReach (Max a b) x = IsFormulaInReach a x × IsFormulaInReach b x

-- an operator is one node, and so is a leaf
abbrev pub node_count : Formula → ℕ
node_count (Lin form) = 1
node_count (Add a b) = 1 + (node_count a + node_count b)
node_count (Sub a b) = 1 + (node_count a + node_count b)
node_count (Scale q a) = 1 + node_count a
node_count (Min a b) = 1 + (node_count a + node_count b)
node_count (Max a b) = 1 + (node_count a + node_count b)

-- a leaf has the depth 1, and an operator one more than its deepest operand
abbrev pub depth_of : Formula → ℕ
depth_of (Lin form) = 1
depth_of (Add a b) = 1 + max (depth_of a) (depth_of b)
depth_of (Sub a b) = 1 + max (depth_of a) (depth_of b)
depth_of (Scale q a) = 1 + depth_of a
depth_of (Min a b) = 1 + max (depth_of a) (depth_of b)
depth_of (Max a b) = 1 + max (depth_of a) (depth_of b)

-- each leaf has n columns
abbrev pub IsOver : ℕ → Formula → Type 0
IsOver n (Lin form) = length form ≡ n
IsOver n (Add a b) = IsOver n a × IsOver n b
IsOver n (Sub a b) = IsOver n a × IsOver n b
IsOver n (Scale q a) = IsOver n a
IsOver n (Min a b) = IsOver n a × IsOver n b
IsOver n (Max a b) = IsOver n a × IsOver n b

-- a form over k variables has a constant, past their coefficients, that is not 0
abbrev pub has_constant : ℕ → List ℚ → Bool
has_constant k form = not (is_zero_ℚ (entry_of form k))

-- some leaf has one
abbrev pub formula_has_constant : ℕ → Formula → Bool
formula_has_constant k (Lin form) = has_constant k form
formula_has_constant k (Add a b) = formula_has_constant k a || formula_has_constant k b
formula_has_constant k (Sub a b) = formula_has_constant k a || formula_has_constant k b
formula_has_constant k (Scale q a) = formula_has_constant k a
formula_has_constant k (Min a b) = formula_has_constant k a || formula_has_constant k b
formula_has_constant k (Max a b) = formula_has_constant k a || formula_has_constant k b
