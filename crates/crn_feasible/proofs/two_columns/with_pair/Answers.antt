use Rattle.std.proofs.Common.{arith, rules, true, false, cond, sym, ap, ◌∙◌, ◌≡◌, SFits}
use Rattle.std.specs.Prelude.{pos, ◌<ℤ◌}
use Rattle.std.specs.Int.{w128}
use Rattle.std.proofs.lemmas.Int.{ints, to_z-of_z}
use Rattle.crn_feasible.specs.Signs.{first, second}
use Rattle.crn_feasible.proofs.Signs.{met_pair, met_with}
use Rattle.crn_feasible.proofs.two_columns.with_pair.Goals.{After-without_second-factor}
use Rattle.crn_feasible.proofs.two_columns.with_pair.Goals as goal

-- the row is below 0 in the second column
below : (c : After-without_second-factor) → second c.args.n.now <ℤ pos 0
below c = let small = c.entry.ensures.small in omega (arith, ints, c.if-entry-ge0.false, c.entry.ensures.value, small.size)

pub returns-then-is_strict : goal.returns-then-is_strict
returns-then-is_strict c = λ x m n k.
    let s = (goal.at.returns-then-is_strict c).After-without_second-factor in
    let fits : SFits w128 c.without_second-factor.result = search rules in
    let strict : c.args.p.now.strict ≡ true = sym c.is_strict.ensures ∙ c.if-is_strict.true in
    c.with.ensures (first x) k
    (met_with true (cond c.args.p.now.strict true c.args.n.now.strict) _ _ (first x) (sym (ap (λ b. cond b true c.args.n.now.strict) strict)) (to_z-of_z w128 _ fits ∙ c.without_second-factor.ensures)
    (met_pair c.args.p.now c.args.n.now x c.requires.p_length c.requires.n_length c.requires.above (below s) m n))

pub returns : goal.returns
returns c = λ x m n k.
    let s = (goal.at.returns c).After-without_second-factor in
    let fits : SFits w128 c.without_second-factor.result = search rules in
    let weak : c.args.p.now.strict ≡ false = sym c.is_strict.ensures ∙ c.if-is_strict.false in
    c.with-2.ensures (first x) k
    (met_with c.is_strict-2.result (cond c.args.p.now.strict true c.args.n.now.strict) _ _ (first x) (c.is_strict-2.ensures ∙ sym (ap (λ b. cond b true c.args.n.now.strict) weak)) (to_z-of_z w128 _ fits ∙ c.without_second-factor.ensures)
    (met_pair c.args.p.now c.args.n.now x c.requires.p_length c.requires.n_length c.requires.above (below s) m n))
