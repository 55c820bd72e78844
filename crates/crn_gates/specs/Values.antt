-- What the laws of gates say: of every network that a gate is stamped into, and of every run to a state at which it has done its work.
use Rattle.std.specs.Prelude.{◌≡◌, ℕ, suc, List, [], ◌∷◌, length}
use Rattle.crn_fraction.specs.Rational.{ℚ, ◌-ℚ◌}
use Rattle.crn_net.specs.Network.{Network, Reaction}
use Rattle.crn_net.specs.declared.Flow.{Flow}
use Rattle.crn_net.specs.Totals.{made_in}
use Rattle.crn_gates.specs.Gates.{Built, Factor, Operand, slot_species, width_of, leaf_table, terms_at, leaf_one_table, ones_at}
use Rattle.crn_gates.specs.Building.{IsSound, AllFree, Stamps, IsDone}

-- the value that a run to c has made of the pair p, q
abbrev pub made_value : Network → List (List Flow) → List ℚ → ℕ → ℕ → ℚ
made_value net us c p q = made_in net us c p -ℚ made_in net us c q

-- ---- stamping

-- on two free pairs the table keeps a network sound, and its slots p and q are a free pair
abbrev pub StampsOnTwo : ℕ → List Reaction → ℕ → ℕ → Type 0
StampsOnTwo new t p q = (b : Built) (x x' y y' : ℕ) → IsSound b → AllFree b (x ∷ x' ∷ y ∷ y' ∷ []) → Stamps b (x ∷ x' ∷ y ∷ y' ∷ []) new p q t

-- on one free pair
abbrev pub StampsOnOne : ℕ → List Reaction → ℕ → ℕ → Type 0
StampsOnOne new t p q = (b : Built) (x x' : ℕ) → IsSound b → AllFree b (x ∷ x' ∷ []) → Stamps b (x ∷ x' ∷ []) new p q t

-- ---- values

-- the value made of the slots p and q is that of op at the values made of the two pairs
abbrev pub MakesOfTwo : ℕ → List Reaction → ℕ → ℕ → (ℚ → ℚ → ℚ) → Type 0
MakesOfTwo new t p q op =
    (net : Network) (b : Built) (x x' y y' : ℕ) (later : List Reaction) (a : List ℚ) (us : List (List Flow)) (c : List ℚ) → IsDone net b (x ∷ x' ∷ y ∷ y' ∷ []) new t later a us c →
    made_value net us c (slot_species (x ∷ x' ∷ y ∷ y' ∷ []) b.species p) (slot_species (x ∷ x' ∷ y ∷ y' ∷ []) b.species q)
    ≡ op (made_value net us c x x') (made_value net us c y y')

-- the value made of the slots p and q is that of f at the value made of the pair
abbrev pub MakesOfOne : ℕ → List Reaction → ℕ → ℕ → (ℚ → ℚ) → Type 0
MakesOfOne new t p q f =
    (net : Network) (b : Built) (x x' : ℕ) (later : List Reaction) (a : List ℚ) (us : List (List Flow)) (c : List ℚ) → IsDone net b (x ∷ x' ∷ []) new t later a us c →
    made_value net us c (slot_species (x ∷ x' ∷ []) b.species p) (slot_species (x ∷ x' ∷ []) b.species q) ≡ f (made_value net us c x x')

-- the value made by a leaf is the sum of the values made of its operands, each times its factor
abbrev pub MakesTerms : List Operand → Type 0
MakesTerms ts =
    (net : Network) (b : Built) (xs : List ℕ) (later : List Reaction) (a : List ℚ) (us : List (List Flow)) (c : List ℚ) → length xs ≡ width_of ts → IsDone net b xs 2 (leaf_table ts) later a us c →
    made_value net us c (slot_species xs b.species (width_of ts)) (slot_species xs b.species (suc (width_of ts)))
    ≡ terms_at 0 ts (λ j. made_in net us c (slot_species xs b.species j))

-- what a leaf of single rails makes is the sum of what was made of its rails, each times its factor
abbrev pub MakesOnes : List Factor → Type 0
MakesOnes fs =
    (net : Network) (b : Built) (xs : List ℕ) (later : List Reaction) (a : List ℚ) (us : List (List Flow)) (c : List ℚ) → length xs ≡ length fs → IsDone net b xs 1 (leaf_one_table fs) later a us c →
    made_in net us c (slot_species xs b.species (length fs)) ≡ ones_at 0 fs (λ j. made_in net us c (slot_species xs b.species j))

-- what a table of two rails makes at its slot p is op of what was made of the two rails
abbrev pub MakesOfRails : ℕ → List Reaction → ℕ → (ℚ → ℚ → ℚ) → Type 0
MakesOfRails new t p op =
    (net : Network) (b : Built) (x y : ℕ) (later : List Reaction) (a : List ℚ) (us : List (List Flow)) (c : List ℚ) → IsDone net b (x ∷ y ∷ []) new t later a us c →
    made_in net us c (slot_species (x ∷ y ∷ []) b.species p) ≡ op (made_in net us c x) (made_in net us c y)
