-- The network of the minimum of two variables as gates, one after another.
use Rattle.std.specs.Prelude.{List, [], ◌∷◌}
use Rattle.crn_gates.specs.Gates.{Built, Operand, OfPair, Up, stamped, leaf_table, min_table}
use Rattle.crn_gates.specs.FanOut.{fanned}

-- one variable with the coefficient 1
abbrev pub once : List Operand
once = OfPair (Up 1 1) ∷ []

-- species 1 to 4 are the inputs, and 5 to 8 their copies
abbrev pub copied : Built
copied = fanned 4 (1 ∷ 2 ∷ 3 ∷ 4 ∷ [])

-- the first variable is the pair of 9 and 10
abbrev pub with_first : Built
with_first = stamped (5 ∷ 6 ∷ []) 2 (leaf_table once) copied

-- the second is the pair of 11 and 12
abbrev pub with_both : Built
with_both = stamped (7 ∷ 8 ∷ []) 2 (leaf_table once) with_first

-- their minimum is the pair of 15 and 16
abbrev pub with_minimum : Built
with_minimum = stamped (9 ∷ 10 ∷ 11 ∷ 12 ∷ []) 4 min_table with_both
