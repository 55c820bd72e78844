use Rattle.crn_fraction.proofs.Values.{product_is, product_small}
use Rattle.crn_fraction.proofs.product.Goals as goal

pub returns-clause-value : goal.returns-clause-value
returns-clause-value c = product_is _ _ c.ranges.a c.ranges.b c.requires.first c.requires.second

pub returns-clause-small : goal.returns-clause-small
returns-clause-small c =
    rw (product_is c.args.a c.args.b c.ranges.a c.ranges.b c.requires.first c.requires.second) (product_small c.args.a c.args.b c.requires.first)
