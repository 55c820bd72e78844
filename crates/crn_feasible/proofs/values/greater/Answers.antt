use Rattle.std.proofs.Common.{sym, ◌∙◌}
use Rattle.crn_feasible.proofs.Picked.{greater_first, greater_second}
use Rattle.crn_feasible.proofs.values.greater.Goals as goal

pub returns-in-Greater : goal.returns-in-Greater
returns-in-Greater c = greater_first _ _ (sym c.compare.ensures ∙ c.in-Greater.is)

pub returns-in_default : goal.returns-in_default
returns-in_default c = greater_second _ _ (λ e. c.in_default.not-Greater (c.compare.ensures ∙ e))
