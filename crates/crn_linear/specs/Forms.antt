-- Linear forms, their values at a point, and the distinct ones of a list.
use Rattle.std.specs.Prelude.{ℕ, ◌<◌, ◌≤◌, ℤ, List, [], ◌∷◌, map, take, length, slice_index_or, Bool, true, false, cond}
use Rattle.std.specs.List.{filter}
use Rattle.std.specs.Cmp.Lexicographic.{pointwise}
use Rattle.crn_fraction.specs.Rational.{ℚ, whole, 0ℚ, ◌+ℚ◌, ◌-ℚ◌, ◌*ℚ◌}
use Rattle.crn_fraction.specs.Frac.{IsFrac}
use Rattle.crn_fraction.specs.Equality.{eq_fractions}

-- the value of a form at a point: the sum of the products, up to the end of the shorter list
abbrev pub at : List ℚ → List ℚ → ℚ
at [] x = 0ℚ
at (c ∷ form) [] = 0ℚ
at (c ∷ form) (t ∷ x) = c *ℚ t +ℚ at form x

-- whole numbers as rational ones
abbrev pub wholes : List ℤ → List ℚ
wholes p = map whole p

-- the difference, entry by entry, up to the end of the shorter list
abbrev pub minus : List ℚ → List ℚ → List ℚ
minus [] b = []
minus (x ∷ a) [] = []
minus (x ∷ a) (y ∷ b) = (x -ℚ y) ∷ minus a b

-- the sum, entry by entry; a list stands for 0 past its end
abbrev pub plus : List ℚ → List ℚ → List ℚ
plus [] b = b
plus (x ∷ a) [] = x ∷ a
plus (x ∷ a) (y ∷ b) = (x +ℚ y) ∷ plus a b

-- the entry of a form in a column
abbrev pub entry_of : List ℚ → ℕ → ℚ
entry_of form i = slice_index_or form i 0ℚ

-- each product of the value, and each sum of the first few of them, is a fraction that fits
pub record IsValueInReach (form x : List ℚ) : Type 0 where
  pub products : (i : ℕ) → i < length form → IsFrac (entry_of form i *ℚ entry_of x i)
  pub sums : (i : ℕ) → i ≤ length form → IsFrac (at (take i form) (take i x))

-- each element once, where it appears first
abbrev pub distinct : {X : Type 0} → (X → X → Bool) → List X → List X
distinct same [] = []
distinct same (x ∷ xs) = x ∷ filter (λ y. cond (same x y) false true) (distinct same xs)

-- the distinct forms of a list, by first appearance
abbrev pub distinct_forms : List (List ℚ) → List (List ℚ)
distinct_forms forms = distinct (pointwise eq_fractions) forms
