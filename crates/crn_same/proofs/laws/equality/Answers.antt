use Rattle.crn_formula.specs.Formulas.{Sub}
use Rattle.crn_normal.specs.Normal.{norm}
use Rattle.crn_normal.proofs.Members.{Has-from_Contains}
use Rattle.crn_same.proofs.Asking.{differs, equal_is}
use Rattle.crn_same.proofs.laws.equality.Goals as goal

pub returns-clause-equal : goal.returns-clause-equal
returns-clause-equal c = λ domain a b. equal_is domain a b

pub returns-clause-differ : goal.returns-clause-differ
returns-clause-differ c = λ domain a b S x h long p. differs domain a b S x (Has-from_Contains (norm (Sub a b)) S h) long p
