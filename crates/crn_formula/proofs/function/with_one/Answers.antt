use Rattle.std.proofs.Common.{◌∙◌, ap, take, drop, length, ◌+◌, ◌-◌, ◌++◌, ◌≡◌, arith, suc}
use Rattle.std.specs.Prelude.{pos, replicate}
use Rattle.std.proofs.lemmas.List.{drop-replicate}
use Rattle.crn_fraction.specs.Rational.{whole}
use Rattle.crn_formula.proofs.Lists.{take_one_more}
use Rattle.crn_formula.proofs.function.with_one.Goals as goal

pub returns : goal.returns
returns c =
    let n = length c.args.x.now in
    let one = whole (pos 1) in
    let some : 9 - n ≡ suc (8 - n) = omega (arith, c.requires) in
    ap (λ ys. take (n + 1) (ys ++ drop n (replicate 9 one))) c.copy_from_slice.ensures.after
    ∙ ap (λ ys. take (n + 1) (c.args.x.now ++ ys)) (drop-replicate n 9 one ∙ ap (λ k. replicate k one) some)
    ∙ take_one_more c.args.x.now one (replicate (8 - n) one)
