use Rattle.std.proofs.Common.{rules, ap₂, ◌∙◌, SFits}
use Rattle.std.specs.Prelude.{◌+ℤ◌, ◌*ℤ◌}
use Rattle.std.specs.Int.{w128}
use Rattle.std.proofs.lemmas.Int.{to_z-of_z}
use Rattle.crn_feasible.specs.Signs.{first, second}
use Rattle.crn_feasible.proofs.Turns.{negated, itself}
use Rattle.crn_feasible.proofs.two_columns.without_second.Goals as goal

pub returns : goal.returns
returns c =
    let fits : SFits w128 c.mix.result = search rules in
    to_z-of_z w128 _ fits ∙ c.mix.ensures.value
    ∙ ap₂ (λ x y. x +ℤ y)
    (ap₂ (λ x y. x *ℤ y) (negated c.entry-back.result (second c.args.n.now) c.entry-back.ensures.small c.entry-back.ensures.value)
    (itself c.entry.result (first c.args.p.now.entries) c.entry.ensures.small c.entry.ensures.value))
    (ap₂ (λ x y. x *ℤ y) (itself c.entry-2.result (second c.args.p.now) c.entry-2.ensures.small c.entry-2.ensures.value)
    (itself c.entry-3.result (first c.args.n.now.entries) c.entry-3.ensures.small c.entry-3.ensures.value))
