use Rattle.std.proofs.Common.{arith, rules, sym, ap, ap₂, ◌∙◌, ◌≡◌, ◌≤◌, ◌<◌, ◌^◌, ◌+◌, ◌*◌, ℕ, subst, to_z, of_z, SFits, get_or, length}
use Rattle.std.specs.Prelude.{ℤ, pos, ◌*ℤ◌, unsigned_abs}
use Rattle.std.specs.Int.{w64}
use Rattle.std.proofs.lemmas.Int.{to_z-of_z}
use Rattle.std.proofs.lemmas.List.{length-map, get_or_read}
use Rattle.std.proofs.Math.ListN.{get_or-map}
use Rattle.crn_linear.specs.Rows.{Row}
use Rattle.crn_linear.proofs.Sums.{dot_more, sum_small}
use Rattle.crn_farkas.specs.Systems.{column, no_row}
use Rattle.crn_farkas.proofs.sums_of.Goals as goal

pub loop-i-preserved : goal.loop-i-preserved
loop-i-preserved c =
    let i = c.loop-i.i in
    let rows = c.args.rows.now in
    let multipliers = c.args.multipliers.now in
    let m = get_or multipliers i (pos 0) in
    let in_range : SFits w64 m = search rules in
    let there : c.index-rows-i.result ≡ get_or rows i no_row = get_or_read rows i c.index-rows-i.result c.loop-i-test.true c.index-rows-i.is no_row in
    let wide : length c.index-rows-i.result.entries ≡ c.args.columns = ap (λ (r : Row). length r.entries) there ∙ c.requires.lengths i no_row c.loop-i-test.true in
    let entry : (v : ℕ) → get_or c.index-rows-i.result.entries v (pos 0) ≡ get_or (column v rows) i (pos 0) =
    λ v. ap (λ (r : Row). get_or r.entries v (pos 0)) there ∙ sym (get_or-map (λ (r : Row). get_or r.entries v (pos 0)) rows i no_row) in
    let product : (v : ℕ) → to_z w64 (of_z w64 m) *ℤ get_or c.index-rows-i.result.entries v (pos 0) ≡ m *ℤ get_or (column v rows) i (pos 0) =
    λ v. ap₂ (λ a b. a *ℤ b) (to_z-of_z w64 m in_range) (entry v) in
    let inside : (v : ℕ) → v < c.args.columns → v < length c.index-rows-i.result.entries = λ v l. omega (arith, l, wide) in
    record {
      value = λ v l.
          let long : length multipliers ≡ length (column v rows) = c.requires.one_each ∙ sym (length-map rows (λ (r : Row). get_or r.entries v (pos 0))) in
          dot_more i multipliers (column v rows) (get_or c.loop-i.sums v (pos 0)) _ (get_or c.add_multiple.new.sums v (pos 0)) long (omega (arith, c.requires.one_each, c.loop-i-test.true))
          (c.loop-i.invariant.value v l) (product v) (c.add_multiple.ensures.value v (inside v l));
      small = λ v l.
          subst (λ (t : ℤ). unsigned_abs t ≤ (i + 1) * 2 ^ 118) (sym (c.add_multiple.ensures.value v (inside v l)))
          (sum_small (get_or c.loop-i.sums v (pos 0)) _ i (c.loop-i.invariant.small v l) (c.add_multiple.ensures.small v (inside v l)));
    }
