use Rattle.std.proofs.Common.{below_more, ◌≡◌, ℕ, ◌+◌, ◌<◌, List, ◌∙◌, ap, ap₂, sym, subst, get_or, length, take, set, to_z, of_z, arith}
use Rattle.std.specs.Prelude.{ℤ, pos}
use Rattle.std.specs.Int.{w64}
use Rattle.std.proofs.lemmas.Int.{ints}
use Rattle.std.proofs.lemmas.List.{get_or-set_same, get_or-set_other, get_or-take, length-set, length-take-le, length-map, ext_get_or, get_or-map}
use Rattle.crn_fraction.specs.Rational.{whole, 0ℚ, ◌-ℚ◌}
use Rattle.crn_linear.specs.Forms.{minus, entry_of, wholes}
use Rattle.crn_linear.specs.Rows.{IsSmall}
use Rattle.crn_linear.proofs.Minus.{length-minus, entry-minus, all_of}
use Rattle.crn_linear.proofs.whole_differences.Goals as goal

pub loop-i-preserved : goal.loop-i-preserved
loop-i-preserved c =
    let places = c.loop-i.differences in
    let i = c.loop-i.i in
    let n = c.in_ok-differences.field-0 in
    let few = c.len-i-end.ensures.columns.few in
    let told = c.in_ok-differences.ensures in
    let back : to_z w64 (of_z w64 n) ≡ n = omega (arith, ints, told.0.size) in
    let entry : entry_of (minus c.args.a.now c.args.b.now) i ≡ whole n =
    entry-minus c.args.a.now c.args.b.now i c.requires (omega (arith, c.loop-i-test.true, c.len-i-end.ensures.value))
    ∙ ap₂ (λ x y. x -ℚ y) (sym c.coeff.ensures) (sym c.coeff-in-loop-i.ensures) ∙ told.1 in
    record {
      nine = length-set places i (to_z w64 (of_z w64 n)) ∙ c.loop-i.invariant.nine;
      each = more places i (to_z w64 (of_z w64 n)) (λ k z. IsSmall z × (entry_of (minus c.args.a.now c.args.b.now) k ≡ whole z))
          (omega (arith, c.loop-i.invariant.nine, c.loop-i-test.true, c.len-i-end.ensures.value)) c.loop-i.invariant.each
          (subst (λ z. IsSmall z × (entry_of (minus c.args.a.now c.args.b.now) i ≡ whole z)) (sym back) (told.0, entry));
    }
  where
    more : (xs : List ℤ) (i : ℕ) (x : ℤ) (P : ℕ → ℤ → Type 0) → i < length xs → ((k : ℕ) → k < i → P k (get_or xs k (pos 0))) → P i x
        → (k : ℕ) → k < i + 1 → P k (get_or (set xs i x) k (pos 0))
    more xs i x P l before here =
        below_more _ _
        (λ k h. subst (P k) (sym (get_or-set_other xs i k x (pos 0) (λ e. absurd (omega (arith, e, h))))) (before k h))
        (subst (P i) (sym (get_or-set_same xs i x (pos 0) l)) here)

pub returns : goal.returns
returns c =
    let form = minus c.args.a.now c.args.b.now in
    let places = c.loop-i.differences in
    let len = length c.args.a.now in
    let few = c.len-i-end.ensures.columns.few in
    let long : length (take len places) ≡ len = length-take-le len places (omega (arith, c.loop-i.invariant.nine)) in
    let as_long : length form ≡ len = length-minus c.args.a.now c.args.b.now c.requires in
    let all_long : length (wholes (take len places)) ≡ len = length-map (take len places) whole ∙ long in
    let below : (k : ℕ) → k < len → k < c.loop-i.i = λ k l. omega (arith, c.loop-i-test.false, c.len-i-end.ensures.value) in (
      all_of IsSmall (take len places) (pos 0) (λ k l.
          let under : k < len = omega (arith, long) in
          subst IsSmall (sym (get_or-take len places k (pos 0) under)) (c.loop-i.invariant.each k (below k under)).0),
      ext_get_or 0ℚ form (wholes (take len places)) (as_long ∙ sym all_long) (λ k l.
          let under : k < len = omega (arith, as_long) in
          let taken : k < length (take len places) = omega (arith, long) in
          (c.loop-i.invariant.each k (below k under)).1 ∙ ap whole (sym (get_or-take len places k (pos 0) under)) ∙ sym (get_or-map whole (take len places) k (pos 0) 0ℚ taken)),
    )
