-- How many species a layout has at most.
use Rattle.std.proofs.Common.{ℕ, suc, ◌+◌, ◌*◌, ◌≤◌, ⊎_elim, Bool, true, false, if◌then◌else◌, List, [], ◌∷◌, length, arith}
use Rattle.crn_fraction.specs.Rational.{ℚ, is_zero_ℚ}
use Rattle.crn_gates.specs.Gates.{Built, width_of, factor_of}
use Rattle.crn_gates.specs.Drafts.{width_before}
use Rattle.crn_gates.specs.FanOut.{fanned}
use Rattle.crn_gates.specs.Terms.{Term, terms_of, terms_from}
use Rattle.crn_gates.specs.declared.Use.{Use}
use Rattle.crn_gates.specs.declared.Use.TheVariants.{Variable, Context}
use Rattle.crn_net.specs.declared.Rails.TheVariants.{Dual}
use Rattle.crn_formula.specs.Formulas.{Formula, Lin, Add, Sub, Scale, Min, Max, node_count, IsOver}
use Rattle.crn_dual.specs.Columns.{IsOverVariables, has_context}
use Rattle.crn_dual.specs.Layout.{use_of, operand_for, operands_of, rails_of, copy_count, nodes, layout}
use Rattle.crn_dual.proofs.Laying.{length-rails}

-- a form has a term for each of its columns at most
few_terms : (v : ℕ) (qs : List ℚ) → length (terms_from v qs) ≤ length qs
few_terms v [] = omega arith
few_terms v (q ∷ qs) = pick (is_zero_ℚ q) v (factor_of q) (few_terms (suc v) qs)
  where
    pick : (b : Bool) (v : ℕ) (f : _) → length (terms_from (suc v) qs) ≤ length qs → length (if b then terms_from (suc v) qs else record { variable = v; factor = f } ∷ terms_from (suc v) qs) ≤ suc (length qs)
    pick true v f h = omega (arith, h)
    pick false v f h = omega (arith, h)

-- and each term two copies at most
few_copies : (k : ℕ) (ts : List Term) → width_of (operands_of k ts) ≤ 2 * length ts
few_copies k [] = omega arith
few_copies k (t ∷ ts) = pick (use_of k t) (few_copies k ts)
  where
    pick : (u : Use) → width_of (operands_of k ts) ≤ 2 * length ts → width_of (operand_for u t.factor ∷ operands_of k ts) ≤ 2 * suc (length ts)
    pick (Variable v) h = omega (arith, h)
    pick Context h = omega (arith, h)

copies_of_nodes : (k n : ℕ) (e : Formula) → n ≤ 9 → IsOver n e → copy_count k e ≤ 18 * node_count e
copies_of_nodes k n (Lin form) few over = omega (arith, few_copies k (terms_of form), few_terms 0 form, over)
copies_of_nodes k n (Add e f) few over = omega (arith, copies_of_nodes k n e few over.0, copies_of_nodes k n f few over.1)
copies_of_nodes k n (Sub e f) few over = omega (arith, copies_of_nodes k n e few over.0, copies_of_nodes k n f few over.1)
copies_of_nodes k n (Scale q e) few over = omega (arith, copies_of_nodes k n e few over)
copies_of_nodes k n (Min e f) few over = omega (arith, copies_of_nodes k n e few over.0, copies_of_nodes k n f few over.1)
copies_of_nodes k n (Max e f) few over = omega (arith, copies_of_nodes k n e few over.0, copies_of_nodes k n f few over.1)

-- a node makes four species at most
species_of_nodes : (k : ℕ) (e : Formula) (n : ℕ) (b : Built) → (nodes k e n b).built.species ≤ b.species + 4 * node_count e
unfolding nodes
species_of_nodes k (Lin form) n b = omega arith
species_of_nodes k (Scale q e) n b = omega (arith, species_of_nodes k e n b)
species_of_nodes k (Add e f) n b = omega (arith, species_of_nodes k e n b, species_of_nodes k f (n + copy_count k e) (nodes k e n b).built)
species_of_nodes k (Sub e f) n b = omega (arith, species_of_nodes k e n b, species_of_nodes k f (n + copy_count k e) (nodes k e n b).built)
species_of_nodes k (Min e f) n b = omega (arith, species_of_nodes k e n b, species_of_nodes k f (n + copy_count k e) (nodes k e n b).built)
species_of_nodes k (Max e f) n b = omega (arith, species_of_nodes k e n b, species_of_nodes k f (n + copy_count k e) (nodes k e n b).built)

few_before : (k : ℕ) (context : Bool) → k ≤ 8 → width_before Dual k context ≤ 17
few_before k true few = omega arith
few_before k false few = omega arith

few_columns : (k : ℕ) (e : Formula) → k ≤ 8 → IsOverVariables k e → copy_count k e ≤ 18 * node_count e
few_columns k e few over = ⊎_elim (λ (h : IsOver k e). copies_of_nodes k k e (omega arith) h) (λ (h : IsOver (k + 1) e). copies_of_nodes k (k + 1) e (omega arith) h) over

-- the inputs and the context have 17 species at most, and each node 18 copies and 4 more
pub few_species : (k : ℕ) (e : Formula) → k ≤ 8 → IsOverVariables k e → (layout k e).species ≤ 17 + 22 * node_count e
few_species k e few over =
    let width = width_before Dual k (has_context k e) in
    omega (arith, few_before k (has_context k e) few, few_columns k e few over, length-rails k e, species_of_nodes k e width (fanned width (rails_of k e)))
