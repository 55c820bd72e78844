-- Single rails: terms of them, copies of them, and two of them in order.
use Rattle.std.specs.Prelude.{ℕ, zero, suc, min, max, List, [], ◌∷◌, ◌++◌, map}
use Rattle.crn_fraction.specs.Rational.{ℚ, 0ℚ, ◌+ℚ◌, ◌*ℚ◌}
use Rattle.crn_net.specs.Network.{Reaction}
use Rattle.crn_gates.specs.Gates.{Factor, factor_of, transfer_one}

-- the rails of terms, each of a factor and a rail
abbrev pub rails_of_singles : List (ℚ × ℕ) → List ℕ
rails_of_singles ts = map (λ t. t.1) ts

-- their factors
abbrev pub factors_of_singles : List (ℚ × ℕ) → List Factor
factors_of_singles ts = map (λ t. factor_of t.0) ts

-- the sum of each factor times the amount m of its rail
abbrev pub value_of_singles : List (ℚ × ℕ) → (ℕ → ℚ) → ℚ
value_of_singles [] m = 0ℚ
value_of_singles (t ∷ ts) m = t.0 *ℚ m t.1 +ℚ value_of_singles ts m

-- the reactions of a leaf of the terms, into the species y
abbrev pub reactions_of_singles : ℕ → List (ℚ × ℕ) → List Reaction
reactions_of_singles y [] = []
reactions_of_singles y (t ∷ ts) = transfer_one (factor_of t.0) t.1 y ++ reactions_of_singles y ts

-- the k species after n
abbrev pub rails_after : ℕ → ℕ → List ℕ
rails_after n zero = []
rails_after n (suc k) = suc n ∷ rails_after (suc n) k

-- two rails, the lower before the higher
abbrev pub ascending : ℕ → ℕ → List ℕ
ascending a b = min a b ∷ max a b ∷ []
