use Rattle.std.proofs.Common.{subst, sym}
use Rattle.std.specs.List.{All}
use Rattle.std.specs.Vec.Iter.{into_iter_items}
use Rattle.crn_fraction.specs.Rational.{0ℚ, ◌<ℚ◌}
use Rattle.crn_gates.specs.Building.{AllFree}
use Rattle.crn_gates.specs.Singles.{rails_of_singles}
use Rattle.crn_direct.proofs.Leaves.{positive_terms}
use Rattle.crn_direct.proofs.Laying.{terms_free}
use Rattle.crn_direct.proofs.compile.leaf.Goals as goal

pub leaf_one-requires-clause-factors : goal.leaf_one-requires-clause-factors
leaf_one-requires-clause-factors c =
    subst (All (λ t. 0ℚ <ℚ t.0)) (sym c.in_ok-terms.ensures.terms) (positive_terms c.args.form.now (into_iter_items c.args.copies.now) c.requires.nonnegative)

pub leaf_one-requires-clause-free : goal.leaf_one-requires-clause-free
leaf_one-requires-clause-free c =
    subst (λ ts. AllFree c.args.builder.built (rails_of_singles ts)) (sym c.in_ok-terms.ensures.terms)
    (terms_free c.args.form.now (into_iter_items c.args.copies.now) c.args.builder.built c.requires.free c.requires.enough)
