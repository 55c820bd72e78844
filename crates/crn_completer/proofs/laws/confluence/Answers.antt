use Rattle.crn_completer.proofs.Confluence.{flux_splits, flux_at_most, ends_same}
use Rattle.crn_completer.proofs.laws.confluence.Goals as goal

pub returns-clause-flux : goal.returns-clause-flux
returns-clause-flux c = flux_splits

pub returns-clause-most : goal.returns-clause-most
returns-clause-most c = flux_at_most

pub returns-clause-end : goal.returns-clause-end
returns-clause-end c = ends_same
