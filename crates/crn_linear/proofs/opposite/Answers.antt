use Rattle.std.proofs.Common.{arith, sym, ap, ◌∙◌, ◌≡◌, subst, to_z, of_z}
use Rattle.std.specs.Prelude.{pos, neg_ℤ, ◌-ℤ◌}
use Rattle.std.specs.Int.{w64}
use Rattle.std.proofs.lemmas.Int.{ints}
use Rattle.crn_linear.specs.Rows.{opposite_of}
use Rattle.crn_linear.specs.Views.{IsSmallPadded}
use Rattle.crn_linear.proofs.Padding.{padding_step, padding_end, IsSmallPadded-padded}
use Rattle.crn_linear.proofs.Signs.{length-opposite_of, get_or-opposite_of, AreSmall-opposite_of, HasColumns-opposite_of}
use Rattle.crn_linear.proofs.opposite.Goals as goal

pub loop-i-preserved : goal.loop-i-preserved
loop-i-preserved c =
    let long = length-opposite_of c.args.row.now.entries in
    let few = c.len-i-end.ensures.columns.few in
    let small = c.entry.ensures.small.size in
    let changed : to_z w64 (of_z w64 (pos 0 -ℤ to_z w64 (of_z w64 c.entry.result))) ≡ neg_ℤ c.entry.result = omega (arith, ints) in
    padding_step (pos 0) _ _ _ _ (omega (arith, c.len-i-end.ensures.value)) (omega arith)
    (changed ∙ ap neg_ℤ c.entry.ensures.value ∙ sym (get_or-opposite_of c.args.row.now.entries c.loop-i.i)) c.loop-i.invariant

pub invariant_of-result : goal.invariant_of-result
invariant_of-result c =
    let xs = opposite_of c.args.row.now.entries in
    let long = length-opposite_of c.args.row.now.entries in
    let places = padding_end (pos 0) xs c.loop-i.entries c.loop-i.i (omega (arith, c.len-i-end.ensures.value)) c.loop-i.invariant in
    subst (λ n. IsSmallPadded n c.loop-i.entries) (long ∙ sym c.len.ensures.value)
    (IsSmallPadded-padded xs c.loop-i.entries (HasColumns-opposite_of _ c.len.ensures.columns) (AreSmall-opposite_of _ c.len.ensures.small) places)
