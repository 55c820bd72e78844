-- How many species a direct layout has at most.
use Rattle.std.proofs.Common.{◌≡◌, ℕ, suc, Bool, true, false, cond, not, ◌+◌, ◌*◌, ◌≤◌, List, [], ◌∷◌, length, drop, arith, length-append}
use Rattle.std.specs.List.{All}
use Rattle.std.proofs.lemmas.List.Elements.{All-head, All-tail}
use Rattle.crn_fraction.specs.Rational.{ℚ, is_zero_ℚ}
use Rattle.crn_gates.specs.FanOut.{fanned}
use Rattle.crn_gates.specs.Terms.{nonzero}
use Rattle.crn_direct.specs.Layout.{variables_from, uses_of, copies_for, Laid, leaf_on, minimum_with, least_on, direct_layout}
use Rattle.crn_direct.proofs.Leaves.{count_variables}

-- a form has a nonzero coefficient for each of its columns at most
pub few_nonzero : (form : List ℚ) → length (nonzero form) ≤ length form
few_nonzero [] = omega arith
few_nonzero (q ∷ qs) = step (is_zero_ℚ q) (few_nonzero qs)
  where
    step : (z : Bool) → length (nonzero qs) ≤ length qs → length (cond (not z) (q ∷ nonzero qs) (nonzero qs)) ≤ suc (length qs)
    step true h = omega (arith, h)
    step false h = omega (arith, h)

-- so there are at most eight copies for each
few_uses : (k : ℕ) (forms : List (List ℚ)) → k ≤ 8 → All (λ f. length f ≡ k) forms → length (uses_of forms) ≤ 8 * length forms
few_uses k [] few long = omega arith
few_uses k (form ∷ forms) few long =
    omega (
      arith,
      length-append (variables_from 1 form) (uses_of forms),
      count_variables 1 form,
      few_nonzero form,
      All-head (λ f. length f ≡ k) form forms long,
      few_uses k forms few (All-tail (λ f. length f ≡ k) form forms long),
    )

-- a later form makes two species
pub least_grows : (forms : List (List ℚ)) (l : Laid) (copies : List ℕ) → (least_on l forms copies).built.species ≡ l.built.species + 2 * length forms
unfolding least_on
least_grows [] l copies = omega arith
least_grows (form ∷ forms) l copies =
    omega (arith, least_grows forms (minimum_with l.rail (leaf_on form copies l.built)) (drop (length (nonzero form)) copies))

-- the inputs have 8 species at most, and each form 8 copies and 2 more
pub few_species : (k : ℕ) (forms : List (List ℚ)) → k ≤ 8 → All (λ f. length f ≡ k) forms → (direct_layout k forms).species ≤ 8 + 10 * length forms
few_species k [] few long = omega arith
few_species k (form ∷ forms) few long =
    omega (
      arith,
      few_uses k (form ∷ forms) few long,
      least_grows forms (leaf_on form (copies_for k (form ∷ forms)) (fanned k (uses_of (form ∷ forms)))) (drop (length (nonzero form)) (copies_for k (form ∷ forms))),
    )
