-- The counts of a layout.
use Rattle.std.proofs.Common.{ℕ, suc, ◌+◌, ◌<◌, ◌^◌, Bool, true, false, if◌then◌else◌, List, [], ◌∷◌}
use Rattle.std.specs.List.{range_with_len}
use Rattle.crn_fraction.specs.Rational.{ℚ, is_zero_ℚ}
use Rattle.crn_net.specs.Reactions.{EachCountOn}
use Rattle.crn_net.specs.declared.Rails.TheVariants.{Dual}
use Rattle.crn_gates.specs.Gates.{Built, factor_of, width_of, leaf_table, scale_table, add_table, sub_table, min_table, max_table}
use Rattle.crn_gates.specs.Terms.{Term, terms_from, terms_of}
use Rattle.crn_gates.specs.Drafts.{width_before}
use Rattle.crn_gates.specs.FanOut.{fanned}
use Rattle.crn_gates.specs.declared.Use.{Use}
use Rattle.crn_gates.specs.declared.Use.TheVariants.{Variable, Context}
use Rattle.crn_gates.proofs.Counts.{stamped_counts, fanned_counts, factor_counts, scale_counts, IsCounted, AreCountedOperands, leaf_counts, add_counts, sub_counts, min_counts, max_counts}
use Rattle.crn_formula.specs.Formulas.{Formula, Lin, Add, Sub, Scale, Min, Max}
use Rattle.crn_dual.specs.Columns.{has_context}
use Rattle.crn_linear.specs.Fracs.{AreFracs}
use Rattle.crn_formula.specs.Numbers.{HasFracs}
use Rattle.crn_dual.specs.Layout.{use_of, operand_for, operands_of, rails_of, copy_count, nodes, layout}

module _ (P : ℕ → Type 0) (small : (n : ℕ) → n < 2 ^ 63 → P n) where
  abbrev AreCountedTerms : List Term → Type 0
  AreCountedTerms [] = Unit {0}
  AreCountedTerms (t ∷ ts) = IsCounted P small t.factor × AreCountedTerms ts

  terms_counts : (v : ℕ) (form : List ℚ) → AreFracs form → AreCountedTerms (terms_from v form)
  terms_counts v [] fits = tt
  terms_counts v (q ∷ qs) fits = go (is_zero_ℚ q) (terms_counts (suc v) qs fits.1)
    where
      go : (b : Bool) → AreCountedTerms (terms_from (suc v) qs) → AreCountedTerms (if b then terms_from (suc v) qs else record { variable = v; factor = factor_of q } ∷ terms_from (suc v) qs)
      go true rest = rest
      go false rest = (factor_counts P small q fits.0, rest)

  operands_counts : (k : ℕ) (ts : List Term) → AreCountedTerms ts → AreCountedOperands P small (operands_of k ts)
  operands_counts k [] counts = tt
  operands_counts k (t ∷ ts) counts = go (use_of k t) (operands_counts k ts counts.1)
    where
      go : (u : Use) → AreCountedOperands P small (operands_of k ts) → AreCountedOperands P small (operand_for u t.factor ∷ operands_of k ts)
      go (Variable v) rest = (counts.0, rest)
      go Context rest = (counts.0, rest)

  nodes_counts : (k : ℕ) (e : Formula) (n : ℕ) (b : Built) → HasFracs e → EachCountOn P b.reactions → EachCountOn P (nodes k e n b).built.reactions
  unfolding nodes
  nodes_counts k (Lin form) n b fits before =
      let ts = operands_of k (terms_of form) in
      stamped_counts P small (range_with_len (suc n) (width_of ts)) 2 (leaf_table ts) b (leaf_counts P small ts (operands_counts k (terms_of form) (terms_counts 0 form fits))) before
  nodes_counts k (Scale q e) n b fits before =
      let a = nodes k e n b in
      stamped_counts P small (a.plus ∷ a.minus ∷ []) 2 (scale_table (factor_of q)) a.built (scale_counts P small (factor_of q) (factor_counts P small q fits.0)) (nodes_counts k e n b fits.1 before)
  nodes_counts k (Add e f) n b fits before =
      let l = nodes k e n b in
      let r = nodes k f (n + copy_count k e) l.built in
      stamped_counts P small (l.plus ∷ l.minus ∷ r.plus ∷ r.minus ∷ []) 2 add_table r.built (add_counts P small) (nodes_counts k f (n + copy_count k e) l.built fits.1 (nodes_counts k e n b fits.0 before))
  nodes_counts k (Sub e f) n b fits before =
      let l = nodes k e n b in
      let r = nodes k f (n + copy_count k e) l.built in
      stamped_counts P small (l.plus ∷ l.minus ∷ r.plus ∷ r.minus ∷ []) 2 sub_table r.built (sub_counts P small) (nodes_counts k f (n + copy_count k e) l.built fits.1 (nodes_counts k e n b fits.0 before))
  nodes_counts k (Min e f) n b fits before =
      let l = nodes k e n b in
      let r = nodes k f (n + copy_count k e) l.built in
      stamped_counts P small (l.plus ∷ l.minus ∷ r.plus ∷ r.minus ∷ []) 4 min_table r.built (min_counts P small) (nodes_counts k f (n + copy_count k e) l.built fits.1 (nodes_counts k e n b fits.0 before))
  nodes_counts k (Max e f) n b fits before =
      let l = nodes k e n b in
      let r = nodes k f (n + copy_count k e) l.built in
      stamped_counts P small (l.plus ∷ l.minus ∷ r.plus ∷ r.minus ∷ []) 4 max_table r.built (max_counts P small) (nodes_counts k f (n + copy_count k e) l.built fits.1 (nodes_counts k e n b fits.0 before))

  pub layout_counts : (k : ℕ) (e : Formula) → HasFracs e → EachCountOn P (layout k e).reactions
  layout_counts k e fits =
      nodes_counts k e (width_before Dual k (has_context k e)) (fanned (width_before Dual k (has_context k e)) (rails_of k e)) fits
      (fanned_counts P small (width_before Dual k (has_context k e)) (rails_of k e))
