use Rattle.std.proofs.Common.{sym, subst, length, ◌≤◌}
use Rattle.std.specs.List.{All}
use Rattle.crn_normal.proofs.Sizes.{difference_few}
use Rattle.crn_same.proofs.differences.not_above.Goals as goal

pub ask_all-requires-clause-few : goal.ask_all-requires-clause-few
ask_all-requires-clause-few c =
    subst (All (λ S. length S ≤ 64)) (sym c.in_ok-difference.ensures.form) (difference_few c.args.first.now c.args.second.now c.in_ok-difference.ensures.passes)
