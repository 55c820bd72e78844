use Rattle.std.proofs.Common.{arith, length, sym, subst, ◌≡◌}
use Rattle.std.specs.Prelude.{pos}
use Rattle.std.proofs.lemmas.Int.{ints}
use Rattle.crn_linear.specs.Rows.{Row, MeetsWhole}
use Rattle.crn_feasible.specs.Signs.{first, second}
use Rattle.crn_feasible.proofs.Signs.{met_alone, met_with}
use Rattle.crn_feasible.proofs.two_columns.with_row.Goals as goal

pub returns : goal.returns
returns c = λ p all k.
    let row = c.index-rows-index.result in
    let long : length row.entries ≡ 2 = subst (λ (r : Row). length r.entries ≡ 2) (sym c.index-rows-index.is) (c.requires.lengths c.args.index row c.requires.within) in
    let met : MeetsWhole row p = subst (λ (r : Row). MeetsWhole r p) (sym c.index-rows-index.is) (all c.args.index row c.requires.within) in
    let lead_small = c.entry-lead.ensures.small in
    let none : second row ≡ pos 0 = omega (arith, ints, c.if-lead-lt0.false, c.if-lead-gt0.false, c.entry-lead.ensures.value, lead_small.size) in
    let small = c.entry.ensures.small in
    c.with.ensures (first p) k
    (met_with c.is_strict.result row.strict _ (first row.entries) (first p) c.is_strict.ensures (omega (arith, ints, c.entry.ensures.value, small.size)) (met_alone row p long none met))
