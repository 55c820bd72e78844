-- Pairs, copies and uses: the species that they name, and the values made of them.
use Rattle.std.specs.Prelude.{◌≡◌, ℕ, zero, suc, ◌+◌, ◌≤◌, IsTrue, Bool, List, [], ◌∷◌, ◌++◌}
use Rattle.crn_fraction.specs.Rational.{ℚ, 0ℚ, ◌+ℚ◌, ◌-ℚ◌, ◌*ℚ◌}
use Rattle.crn_gates.specs.declared.Pair.{Pair}
use Rattle.crn_gates.specs.declared.Use.{Use}
use Rattle.crn_gates.specs.declared.Use.TheVariants.{Variable, Context}
use Rattle.crn_gates.specs.declared.Copied.{Copied}
use Rattle.crn_gates.specs.declared.Copied.TheVariants.{Both, Single}
use Rattle.crn_net.specs.Network.{Reaction}
use Rattle.crn_gates.specs.Gates.{Operand, OfPair, OfRail, factor_of, transfer, transfer_single}

-- ---- species

abbrev pub rails_of_pair : Pair → List ℕ
rails_of_pair p = p.plus ∷ p.minus ∷ []

-- of two operands, the first before the second
abbrev pub rails_of_pairs : Pair → Pair → List ℕ
rails_of_pairs a b = a.plus ∷ a.minus ∷ b.plus ∷ b.minus ∷ []

abbrev pub rails_of_copies : List Copied → List ℕ
rails_of_copies [] = []
rails_of_copies (Both p ∷ cs) = p.plus ∷ p.minus ∷ rails_of_copies cs
rails_of_copies (Single r ∷ cs) = r ∷ rails_of_copies cs

-- the copies of terms, each of a factor and a copy
abbrev pub rails_of_terms : List (ℚ × Copied) → List ℕ
rails_of_terms [] = []
rails_of_terms ((q, Both p) ∷ ts) = p.plus ∷ p.minus ∷ rails_of_terms ts
rails_of_terms ((q, Single r) ∷ ts) = r ∷ rails_of_terms ts

-- the terms as operands of a leaf's table
abbrev pub operands_of : List (ℚ × Copied) → List Operand
operands_of [] = []
operands_of ((q, Both p) ∷ ts) = OfPair (factor_of q) ∷ operands_of ts
operands_of ((q, Single r) ∷ ts) = OfRail (factor_of q) ∷ operands_of ts

-- the two species after n
abbrev pub pair_after : ℕ → Pair
pair_after n = record { plus = suc n; minus = suc (suc n) }

-- the reactions of a leaf of the terms, into the species y and y'
abbrev pub reactions_of_terms : ℕ → ℕ → List (ℚ × Copied) → List Reaction
reactions_of_terms y y' [] = []
reactions_of_terms y y' ((q, Both p) ∷ ts) = transfer (factor_of q) p.plus p.minus y y' ++ reactions_of_terms y y' ts
reactions_of_terms y y' ((q, Single r) ∷ ts) = transfer_single (factor_of q) r y y' ++ reactions_of_terms y y' ts

-- ---- uses

-- the species plus and minus of a variable, numbered from 1
abbrev pub plus_of : ℕ → ℕ
plus_of zero = 0
plus_of (suc v) = suc (v + v)

abbrev pub minus_of : ℕ → ℕ
minus_of zero = 0
minus_of (suc v) = suc (suc (v + v))

-- the rails of uses in order, where there are k variables; of a variable, plus before minus
abbrev pub rails_of_uses : ℕ → List Use → List ℕ
rails_of_uses k [] = []
rails_of_uses k (Variable v ∷ us) = plus_of v ∷ minus_of v ∷ rails_of_uses k us
rails_of_uses k (Context ∷ us) = suc (k + k) ∷ rails_of_uses k us

-- how many rails a copy has
abbrev pub use_width : Use → ℕ
use_width (Variable v) = 2
use_width Context = 1

-- one copy a use, numbered after n in the order of uses
abbrev pub copies_after : ℕ → List Use → List Copied
copies_after n [] = []
copies_after n (Variable v ∷ us) = Both (pair_after n) ∷ copies_after (suc (suc n)) us
copies_after n (Context ∷ us) = Single (suc n) ∷ copies_after (suc n) us

-- each use is one of k variables, or of the context where there is one
abbrev pub AreUses : ℕ → Bool → List Use → Type 0
AreUses k context [] = Unit {0}
AreUses k context (Variable v ∷ us) = (1 ≤ v) × (v ≤ k) × AreUses k context us
AreUses k context (Context ∷ us) = IsTrue context × AreUses k context us

-- ---- values

-- of a pair, by the amounts m of species
abbrev pub value_of : Pair → (ℕ → ℚ) → ℚ
value_of p m = m p.plus -ℚ m p.minus

-- the sum of each factor times the value of its copy
abbrev pub value_of_factored : List (ℚ × Copied) → (ℕ → ℚ) → ℚ
value_of_factored [] m = 0ℚ
value_of_factored ((q, Both p) ∷ ts) m = q *ℚ value_of p m +ℚ value_of_factored ts m
value_of_factored ((q, Single r) ∷ ts) m = q *ℚ m r +ℚ value_of_factored ts m

-- each copy has the amounts x of the rails that it is of, where there are k variables
abbrev pub AreCopies : ℕ → (ℕ → ℚ) → List Use → List Copied → (ℕ → ℚ) → Type 0
AreCopies k x [] [] m = Unit {0}
AreCopies k x (Variable v ∷ us) (Both p ∷ cs) m = (m p.plus ≡ x (plus_of v)) × (m p.minus ≡ x (minus_of v)) × AreCopies k x us cs m
AreCopies k x (Context ∷ us) (Single r ∷ cs) m = (m r ≡ x (suc (k + k))) × AreCopies k x us cs m
AreCopies k x _ _ m = ⊥
