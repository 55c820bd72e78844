-- Reactions that feed forward are no more than the species: each takes one that no other takes.
use Rattle.std.proofs.Common.{◌≡◌, ◌≢◌, ℕ, suc, ◌<◌, ◌≤◌, ◌==◌, if◌then◌else◌, eqb, Bool, true, false, List, [], ◌∷◌, length, refl, sym, ◌∙◌, ap, subst, ⊎_elim, arith}
use Rattle.std.specs.List.{list_any, AllByRecursion, IsDistinct}
use Rattle.std.proofs.lemmas.Bool.Decides.{nat_tests}
use Rattle.std.proofs.lemmas.Map.Steps.{length-le_from_distinct_below}
use Rattle.std.proofs.lemmas.Bool.{cases_eq}
use Rattle.crn_net.specs.Network.{Part, Reaction, count_of, IsApart, AreDifferent, AreParts, IsReaction}
use Rattle.crn_net.specs.Reactions.{taken_all, Each, IsLeftAlone, EachReaction, FeedsForward, AreAtMost}

-- ---- different numbers of a range

test_other : (a b : ℕ) → a ≢ b → eqb a b ≡ false
test_other a b h = grind (arith, nat_tests)

apart_tests : (x : ℕ) (xs : List ℕ) → IsApart x xs → AllByRecursion (λ y. eqb x y ≡ false) xs
apart_tests x [] h = tt
apart_tests x (y ∷ ys) h = (test_other x y h.0, apart_tests x ys h.1)

different_tests : (xs : List ℕ) → AreDifferent xs → IsDistinct eqb xs
unfolding IsDistinct
different_tests [] h = tt
different_tests (x ∷ xs) h = (apart_tests x xs h.0, different_tests xs h.1)

member_at_most : (n q : ℕ) (xs : List ℕ) → AreAtMost n xs → list_any (eqb q) xs ≡ true → q ≤ n
member_at_most n q [] h e = absurd (cc e)
member_at_most n q (x ∷ xs) h e =
    ⊎_elim (λ (same : q ≡ x). subst (λ v. v ≤ n) (sym same) h.0)
    (λ (other : q ≢ x). member_at_most n q xs h.1 (sym (ap (λ b. or b (list_any (eqb q) xs)) (test_other q x other)) ∙ e)) (cases_eq q x)
  where
    or : Bool → Bool → Bool
    or true b = true
    or false b = b

-- different numbers, of which each is from 1 to n, are at most n
few_numbers : (n : ℕ) (xs : List ℕ) → AreDifferent (0 ∷ xs) → AreAtMost n xs → length xs ≤ n
few_numbers n xs h k =
    let bound : length (0 ∷ xs) ≤ suc n = length-le_from_distinct_below (0 ∷ xs) (suc n) (different_tests (0 ∷ xs) h)
    (λ q e. let l : q ≤ n = member_at_most n q (0 ∷ xs) (omega arith, k) e in omega arith) in
    omega arith

-- ---- the first reactants

abbrev first : List Part → ℕ
first [] = 0
first (p ∷ ps) = p.species

abbrev firsts : List Reaction → List ℕ
firsts [] = []
firsts (r ∷ rs) = first r.takes ∷ firsts rs

length-firsts : (rs : List Reaction) → length (firsts rs) ≡ length rs
length-firsts [] = refl
length-firsts (r ∷ rs) = ap suc (length-firsts rs)

-- it is a species of the network
first_range : (n : ℕ) (r : Reaction) → IsReaction n r → (0 < first r.takes) × (first r.takes ≤ n)
first_range n r h = go r.takes h.some_reactant h.takes
  where
    go : (ps : List Part) → 0 < length ps → AreParts 0 n ps → (0 < first ps) × (first ps ≤ n)
    go [] l k = absurd (omega arith)
    go (p ∷ ps) l k = (k.0, k.1)

-- what a reaction does not take is not its first reactant
first_other : (n s : ℕ) (r : Reaction) → IsReaction n r → count_of r.takes s ≡ 0 → s ≢ first r.takes
first_other n s r h = go r.takes h.some_reactant h.takes
  where
    counted : (a b k : ℕ) → b ≡ a → 0 < k → (if a == b then k else 0) ≡ 0 → ⊥
    counted a b k e l h = grind (arith, nat_tests)

    go : (ps : List Part) → 0 < length ps → AreParts 0 n ps → count_of ps s ≡ 0 → s ≢ first ps
    go [] l k none = absurd (omega arith)
    go (p ∷ ps) l k none = λ e. counted p.species s p.count e k.2 (omega (arith, none))

apart_firsts : (n s : ℕ) (rs : List Reaction) → EachReaction n rs → taken_all rs s ≡ 0 → IsApart s (firsts rs)
apart_firsts n s [] h k = tt
apart_firsts n s (r ∷ rs) h k = (first_other n s r h.0 (omega arith), apart_firsts n s rs h.1 (omega arith))

first_alone : (n : ℕ) (r : Reaction) (rs : List Reaction) → IsReaction n r → Each (IsLeftAlone rs) r.takes → taken_all rs (first r.takes) ≡ 0
first_alone n r rs h = go r.takes h.some_reactant
  where
    go : (ps : List Part) → 0 < length ps → Each (IsLeftAlone rs) ps → taken_all rs (first ps) ≡ 0
    go [] l k = absurd (omega arith)
    go (p ∷ ps) l k = k.0.0

firsts_different : (n : ℕ) (rs : List Reaction) → FeedsForward rs → EachReaction n rs → AreDifferent (firsts rs)
firsts_different n [] h k = tt
firsts_different n (r ∷ rs) h k = (apart_firsts n (first r.takes) rs k.1 (first_alone n r rs k.0 h.1), firsts_different n rs h.2 k.1)

firsts_positive : (n : ℕ) (rs : List Reaction) → EachReaction n rs → IsApart 0 (firsts rs)
firsts_positive n [] h = tt
firsts_positive n (r ∷ rs) h = (let low : 0 < first r.takes = (first_range n r h.0).0 in omega arith, firsts_positive n rs h.1)

firsts_high : (n : ℕ) (rs : List Reaction) → EachReaction n rs → AreAtMost n (firsts rs)
firsts_high n [] h = tt
firsts_high n (r ∷ rs) h = ((first_range n r h.0).1, firsts_high n rs h.1)

-- there are no more reactions than species
pub few_reactions : (n : ℕ) (rs : List Reaction) → FeedsForward rs → EachReaction n rs → length rs ≤ n
few_reactions n rs h k =
    let few : length (firsts rs) ≤ n = few_numbers n (firsts rs) (firsts_positive n rs k, firsts_different n rs h k) (firsts_high n rs k) in
    omega (arith, length-firsts rs)
