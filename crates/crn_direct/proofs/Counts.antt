-- The counts of a direct layout.
use Rattle.std.proofs.Common.{ℕ, ◌<◌, ◌^◌, Bool, true, false, cond, not, List, [], ◌∷◌, length, drop}
use Rattle.std.specs.List.{zip}
use Rattle.crn_fraction.specs.Rational.{ℚ, is_zero_ℚ}
use Rattle.crn_linear.specs.Fracs.{AreFracs, AreFormFracs}
use Rattle.crn_net.specs.Reactions.{EachCountOn}
use Rattle.crn_gates.specs.Gates.{Built, min_one_table, leaf_one_table}
use Rattle.crn_gates.specs.Terms.{nonzero}
use Rattle.crn_gates.specs.Singles.{rails_of_singles, factors_of_singles, ascending}
use Rattle.crn_gates.specs.FanOut.{fanned}
use Rattle.crn_gates.proofs.Counts.{stamped_counts, fanned_counts, factor_counts, AreCounted, leaf_one_counts, min_one_counts}
use Rattle.crn_direct.specs.Layout.{uses_of, copies_for, Laid, leaf_on, minimum_with, least_on, direct_layout}

nonzero_fits : (form : List ℚ) → AreFracs form → AreFracs (nonzero form)
nonzero_fits [] fits = tt
nonzero_fits (q ∷ qs) fits = go (is_zero_ℚ q) (nonzero_fits qs fits.1)
  where
    go : (b : Bool) → AreFracs (nonzero qs) → AreFracs (cond (not b) (q ∷ nonzero qs) (nonzero qs))
    go true rest = rest
    go false rest = (fits.0, rest)

module _ (P : ℕ → Type 0) (small : (n : ℕ) → n < 2 ^ 63 → P n) where
  factors_counts : (qs : List ℚ) (copies : List ℕ) → AreFracs qs → AreCounted P small (factors_of_singles (zip qs copies))
  factors_counts [] copies fits = tt
  factors_counts (q ∷ qs) [] fits = tt
  factors_counts (q ∷ qs) (a ∷ copies) fits = (factor_counts P small q fits.0, factors_counts qs copies fits.1)

  pub leaf_on_counts : (form : List ℚ) (copies : List ℕ) (b : Built) → AreFracs form → EachCountOn P b.reactions → EachCountOn P (leaf_on form copies b).built.reactions
  leaf_on_counts form copies b fits before =
      let terms = zip (nonzero form) copies in
      stamped_counts P small (rails_of_singles terms) 1 (leaf_one_table (factors_of_singles terms)) b
      (leaf_one_counts P small (factors_of_singles terms) (factors_counts (nonzero form) copies (nonzero_fits form fits))) before

  pub minimum_counts : (x : ℕ) (l : Laid) → EachCountOn P l.built.reactions → EachCountOn P (minimum_with x l).built.reactions
  minimum_counts x l before = stamped_counts P small (ascending x l.rail) 1 min_one_table l.built (min_one_counts P small) before

  least_counts : (forms : List (List ℚ)) (l : Laid) (copies : List ℕ) → AreFormFracs forms → EachCountOn P l.built.reactions → EachCountOn P (least_on l forms copies).built.reactions
  unfolding least_on
  least_counts [] l copies fits before = before
  least_counts (form ∷ forms) l copies fits before =
      least_counts forms (minimum_with l.rail (leaf_on form copies l.built)) (drop (length (nonzero form)) copies) fits.1
      (minimum_counts l.rail (leaf_on form copies l.built) (leaf_on_counts form copies l.built fits.0 before))

  pub direct_counts : (k : ℕ) (forms : List (List ℚ)) → AreFormFracs forms → EachCountOn P (direct_layout k forms).reactions
  direct_counts k [] fits = fanned_counts P small k []
  direct_counts k (form ∷ forms) fits =
      let copies = copies_for k (form ∷ forms) in
      let begun = leaf_on form copies (fanned k (uses_of (form ∷ forms))) in
      least_counts forms begun (drop (length (nonzero form)) copies) fits.1 (leaf_on_counts form copies (fanned k (uses_of (form ∷ forms))) fits.0 (fanned_counts P small k (uses_of (form ∷ forms))))
