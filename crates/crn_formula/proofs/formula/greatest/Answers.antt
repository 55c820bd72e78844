use Rattle.std.proofs.Common.{sym, ◌∙◌, ⊎_elim}
use Rattle.crn_fraction.proofs.Order.{≤ℚ_of_<ℚ, ≤ℚ_or_<ℚ, max_ℚ-left, max_ℚ-right}
use Rattle.crn_fraction.proofs.Products.{cmp_ℚ-Greater}
use Rattle.crn_formula.proofs.formula.greatest.Goals as goal

pub returns-in-Greater : goal.returns-in-Greater
returns-in-Greater c = sym (max_ℚ-left _ _ (≤ℚ_of_<ℚ _ _ ((cmp_ℚ-Greater _ _).0 (sym c.compare.ensures ∙ c.in-Greater.is))))

pub returns-in_default : goal.returns-in_default
returns-in_default c =
    sym (max_ℚ-right _ _ (⊎_elim (λ l. l) (λ g. absurd (c.in_default.not-Greater (c.compare.ensures ∙ (cmp_ℚ-Greater _ _).1 g))) (≤ℚ_or_<ℚ c.args.a c.args.b)))
