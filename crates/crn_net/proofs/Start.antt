-- The amounts of a start. None is negative.
use Rattle.std.proofs.Common.{◌≡◌, ◌≢◌, ◌==◌, refl, ap, sym, ◌∙◌, ℕ, zero, suc, ◌<◌, ◌≤◌, if◌then◌else◌, Bool, true, false, List, [], ◌∷◌, subst, ⊎_elim, arith, ◌++◌}
use Rattle.std.specs.Prelude.{Option, None, Some, pos}
use Rattle.std.proofs.lemmas.List.FromFn.{get_or-map-range_with_len, length-map-range_with_len}
use Rattle.std.proofs.lemmas.List.{get_or_past}
use Rattle.std.proofs.lemmas.Bool.{eq-eqb, ne_eqb}
use Rattle.crn_fraction.proofs.Order.{≤ℚ_refl}
use Rattle.crn_fraction.proofs.Products.{whole_nonneg}
use Rattle.crn_fraction.specs.Rational.{ℚ, 0ℚ, ◌≤ℚ◌, whole}
use Rattle.crn_net.specs.Network.{Network, IsContext, IsNetwork, IsState, amount, given_to, or_context, input_species, start, IsNotNegative, AreNotNegative}

-- ---- a choice by equal numbers

pub pick_yes : (a b : ℕ) (x y : ℚ) → a ≡ b → (if a == b then x else y) ≡ x
pick_yes a b x y e = ap (λ t. if t then x else y) (eq-eqb a b e)

pub pick_no : (a b : ℕ) (x y : ℚ) → a ≢ b → (if a == b then x else y) ≡ y
pick_no a b x y h = ap (λ t. if t then x else y) (ne_eqb a b h)

-- the numbers of two lists are not negative where those of each are
pub AreNotNegative-append : (xs ys : List ℚ) → AreNotNegative xs → AreNotNegative ys → AreNotNegative (xs ++ ys)
AreNotNegative-append [] ys h k = k
AreNotNegative-append (x ∷ xs) ys h k = (h.0, AreNotNegative-append xs ys h.1 k)

-- the one of two numbers that a test picks is not negative where neither is
pub pick_nonnegative : (b : Bool) (x y : ℚ) → 0ℚ ≤ℚ x → 0ℚ ≤ℚ y → 0ℚ ≤ℚ (if b then x else y)
pick_nonnegative true x y h k = h
pick_nonnegative false x y h k = k

-- ---- the amount of a species

-- the amount that a start has of species s
abbrev pub start_amount : Network → List ℚ → ℕ → ℚ
start_amount net xs s = or_context net.context s (given_to (input_species net.inputs) xs s)

-- a species of the network
pub amount-start : (net : Network) (xs : List ℚ) (s : ℕ) → 1 ≤ s → s ≤ net.species → amount (start net xs) s ≡ start_amount net xs s
unfolding start
amount-start net xs zero l h = absurd (omega arith)
amount-start net xs (suc i) l h = get_or-map-range_with_len (start_amount net xs) 1 net.species i (suc i) 0ℚ (omega arith) (omega arith)

pub amount-start-past : (net : Network) (xs : List ℚ) (s : ℕ) → net.species < s → amount (start net xs) s ≡ 0ℚ
unfolding start
amount-start-past net xs zero h = refl
amount-start-past net xs (suc i) h = get_or_past _ i 0ℚ (simp length-map-range_with_len (omega arith))

-- the context species has the amount 1
pub amount-context : (net : Network) (xs : List ℚ) (k : ℕ) → net.context ≡ Some k → 1 ≤ k → k ≤ net.species → amount (start net xs) k ≡ whole (pos 1)
amount-context net xs k is low high =
    amount-start net xs k low high ∙ ap (λ o. or_context o k (given_to (input_species net.inputs) xs k)) is ∙ pick_yes k k _ _ refl

-- ---- no amount is negative

given_to_not_negative : (is : List ℕ) (xs : List ℚ) (s : ℕ) → AreNotNegative xs → 0ℚ ≤ℚ given_to is xs s
given_to_not_negative [] xs s h = ≤ℚ_refl 0ℚ
given_to_not_negative (i ∷ is) [] s h = ≤ℚ_refl 0ℚ
given_to_not_negative (i ∷ is) (x ∷ xs) s h = pick_nonnegative _ x _ h.0 (given_to_not_negative is xs s h.1)

or_context_not_negative : (o : Option ℕ) (s : ℕ) (x : ℚ) → 0ℚ ≤ℚ x → 0ℚ ≤ℚ or_context o s x
or_context_not_negative None s x h = h
or_context_not_negative (Some k) s x h = pick_nonnegative (k == s) (whole (pos 1)) x (whole_nonneg 1) h

pub start_not_negative : (net : Network) (xs : List ℚ) → AreNotNegative xs → IsNotNegative (start net xs)
start_not_negative net xs h zero = ≤ℚ_refl 0ℚ
start_not_negative net xs h (suc i) =
    ⊎_elim (λ (l : i < net.species). subst (λ x. 0ℚ ≤ℚ x) (sym (amount-start net xs (suc i) (omega arith) (omega arith))) (or_context_not_negative net.context (suc i) _ (given_to_not_negative _ xs (suc i) h)))
    (λ (l : net.species ≤ i). subst (λ x. 0ℚ ≤ℚ x) (sym (amount-start-past net xs (suc i) (omega arith))) (≤ℚ_refl 0ℚ))
    (grind arith)

-- ---- a start is a state

pub start_is_state : (net : Network) (xs : List ℚ) → AreNotNegative xs → IsState net (start net xs)
unfolding start
start_is_state net xs h = record {
  long = length-map-range_with_len (start_amount net xs) 1 net.species;
  not_negative = start_not_negative net xs h;
}

pub context_amount : (net : Network) → IsNetwork net → (xs : List ℚ) (k : ℕ) → net.context ≡ Some k → amount (start net xs) k ≡ whole (pos 1)
context_amount net ok xs k is =
    let in_range : IsContext net.species net.inputs (Some k) = subst (IsContext net.species net.inputs) is ok.context in
    amount-context net xs k is in_range.0 in_range.1
