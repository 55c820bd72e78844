-- The direct layout: the least of forms without negative coefficients, by single rails.
use Rattle.std.specs.Prelude.{ℕ, suc, false, if◌then◌else◌, List, [], ◌∷◌, ◌++◌, length, drop}
use Rattle.std.specs.List.{zip}
use Rattle.crn_fraction.specs.Rational.{ℚ, is_zero_ℚ}
use Rattle.crn_net.specs.Network.{Network}
use Rattle.crn_net.specs.declared.Rails.TheVariants.{Direct}
use Rattle.crn_net.specs.declared.Ends.TheVariants.{One}
use Rattle.crn_gates.specs.Gates.{Built, stamped, leaf_one_table, min_one_table}
use Rattle.crn_gates.specs.Terms.{nonzero}
use Rattle.crn_gates.specs.FanOut.{fanned}
use Rattle.crn_gates.specs.Singles.{rails_of_singles, factors_of_singles, rails_after, ascending}
use Rattle.crn_gates.specs.Drafts.{network_of_draft}

-- how many columns the first form has
abbrev pub column_count : List (List ℚ) → ℕ
column_count [] = 0
column_count (form ∷ forms) = length form

-- ---- copies

-- the variables whose coefficients are not 0, ascending, where the first coefficient is of variable v
abbrev pub variables_from : ℕ → List ℚ → List ℕ
variables_from v [] = []
variables_from v (q ∷ qs) = if is_zero_ℚ q then variables_from (suc v) qs else v ∷ variables_from (suc v) qs

-- the variables that copies are of: form after form, those of its nonzero coefficients
abbrev pub uses_of : List (List ℚ) → List ℕ
uses_of [] = []
uses_of (form ∷ forms) = variables_from 1 form ++ uses_of forms

-- ---- forms and minima

-- a network so far, and the rail that was made last
pub record Laid : Type 0 where
  pub built : Built
  pub rail : ℕ

-- a form: a new species that the first of the copies give, one for each nonzero coefficient
abbrev pub leaf_on : List ℚ → List ℕ → Built → Laid
leaf_on form copies b = record {
  built = stamped (rails_of_singles (zip (nonzero form) copies)) 1 (leaf_one_table (factors_of_singles (zip (nonzero form) copies))) b;
  rail = suc b.species;
}

-- the minimum of the rail x and of what was made last: a new species
abbrev pub minimum_with : ℕ → Laid → Laid
minimum_with x l = record { built = stamped (ascending x l.rail) 1 min_one_table l.built; rail = suc l.built.species }

-- further forms on the copies that are left: each form, and after it the minimum of it and of what was made before
unfoldable pub least_on : Laid → List (List ℚ) → List ℕ → Laid
least_on l [] copies = l
least_on l (form ∷ forms) copies = least_on (minimum_with l.rail (leaf_on form copies l.built)) forms (drop (length (nonzero form)) copies)

-- ---- the network

-- the copies of k inputs
abbrev pub copies_for : ℕ → List (List ℚ) → List ℕ
copies_for k forms = rails_after k (length (uses_of forms))

-- the fan-out of k inputs, and the forms on the copies
abbrev pub laid_out : ℕ → List (List ℚ) → Laid
laid_out k [] = record { built = fanned k []; rail = 0 }
laid_out k (form ∷ forms) =
    least_on (leaf_on form (copies_for k (form ∷ forms)) (fanned k (uses_of (form ∷ forms)))) forms (drop (length (nonzero form)) (copies_for k (form ∷ forms)))

-- the direct layout of forms over k variables; the output is the last minimum, or the one form
abbrev pub direct_layout : ℕ → List (List ℚ) → Network
direct_layout k forms = network_of_draft (record { rails = Direct; variables = k; context = false; built = (laid_out k forms).built }) (One (laid_out k forms).rail)
