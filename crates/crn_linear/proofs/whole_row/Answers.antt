use Rattle.std.proofs.Common.{◌≡◌, ◌∙◌, ap, sym, subst, length, take}
use Rattle.std.specs.Prelude.{pos}
use Rattle.crn_linear.specs.Rows.{AreSmall}
use Rattle.crn_linear.specs.Strengths.{row_with}
use Rattle.crn_linear.specs.Cleared.{common, over}
use Rattle.crn_linear.proofs.Commons.{length-over}
use Rattle.crn_linear.proofs.Padding.{seen}
use Rattle.crn_linear.proofs.WholeRows.{cleared_wholes, small_over}
use Rattle.crn_linear.proofs.whole_row.Goals as goal
use Rattle.crn_linear.proofs.whole_row.Goals.{After-without_divisor-parts}

-- the places that are kept are the numbers over their common divisor
parts_are : (c : After-without_divisor-parts) → take (length c.args.numbers.now) c.without_divisor-parts.result ≡ over (common c.args.numbers.now) c.args.numbers.now
parts_are c =
    let xs = c.args.numbers.now in
    let g = common xs in
    ap (λ n. take n c.without_divisor-parts.result) (sym (length-over g xs)) ∙ seen (pos 0) (over g xs) c.without_divisor-parts.result c.without_divisor-parts.ensures

pub of-requires-clause-small : goal.of-requires-clause-small
of-requires-clause-small c =
    let shared = (goal.at.of-requires-clause-small c).After-without_divisor-parts in
    subst AreSmall (sym (parts_are shared)) (small_over (common c.args.numbers.now) c.args.numbers.now c.requires.small)

pub returns-clause-small : goal.returns-clause-small
returns-clause-small c =
    subst AreSmall (cleared_wholes c.args.numbers.now) (small_over (common c.args.numbers.now) c.args.numbers.now c.requires.small)

pub returns-clause-value : goal.returns-clause-value
returns-clause-value c =
    let shared = (goal.at.returns-clause-value c).After-without_divisor-parts in
    c.of.ensures ∙ ap (λ ys. row_with ys c.args.strength) (parts_are shared ∙ cleared_wholes c.args.numbers.now)
