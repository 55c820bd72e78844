use Rattle.std.proofs.Common.{below_more, arith, refl, sym, ap, ◌∙◌, ◌≡◌, ◌≤◌, ◌<◌, ◌+◌, ◌*◌, ◌^◌, ℕ, List, subst, to_z, of_z, get_or, length, set}
use Rattle.std.specs.Prelude.{ℤ, pos, ◌+ℤ◌, ◌*ℤ◌, unsigned_abs}
use Rattle.std.specs.Int.{w64, w128}
use Rattle.std.proofs.lemmas.Int.{ints}
use Rattle.std.proofs.lemmas.List.{length-set, get_or-set_same, get_or-set_other}
use Rattle.crn_linear.proofs.Sums.{product_small}
use Rattle.crn_farkas.proofs.add_multiple.Goals as goal

-- one sum more
added_more : (old now entries : List ℤ) (m x : ℤ) (v : ℕ) → v < length now → x ≡ get_or now v (pos 0) +ℤ m *ℤ get_or entries v (pos 0)
    → ((k : ℕ) → k < v → get_or now k (pos 0) ≡ get_or old k (pos 0) +ℤ m *ℤ get_or entries k (pos 0))
    → ((k : ℕ) → v ≤ k → get_or now k (pos 0) ≡ get_or old k (pos 0))
    → (k : ℕ) → k < v + 1 → get_or (set now v x) k (pos 0) ≡ get_or old k (pos 0) +ℤ m *ℤ get_or entries k (pos 0)
added_more old now entries m x v l e added left =
    below_more _ _
    (λ k h. get_or-set_other now v k x (pos 0) (λ i. absurd (omega (arith, i, h))) ∙ added k h)
    (get_or-set_same now v x (pos 0) l ∙ e ∙ ap (λ t. t +ℤ m *ℤ get_or entries v (pos 0)) (left v (omega arith)))

left_more : (old now : List ℤ) (x : ℤ) (v : ℕ) → ((k : ℕ) → v ≤ k → get_or now k (pos 0) ≡ get_or old k (pos 0))
    → (k : ℕ) → v + 1 ≤ k → get_or (set now v x) k (pos 0) ≡ get_or old k (pos 0)
left_more old now x v left k h = get_or-set_other now v k x (pos 0) (λ i. absurd (omega (arith, i, h))) ∙ left k (omega (arith, h))

small_back : (z : ℤ) → unsigned_abs z ≤ 2 ^ 59 → to_z w64 (of_z w64 z) ≡ z
small_back z h = omega (arith, ints)

-- the sum of two numbers of these sizes fits
sum_is : (s p : ℤ) → unsigned_abs s ≤ 255 * 2 ^ 118 → unsigned_abs p ≤ 2 ^ 118 → to_z w128 (of_z w128 (to_z w128 (of_z w128 s) +ℤ to_z w128 (of_z w128 p))) ≡ s +ℤ p
sum_is s p h k = omega (arith, ints)

pub loop-v-preserved : goal.loop-v-preserved
loop-v-preserved c =
    let old = c.args.sums.now in
    let now = c.loop-v.sums in
    let entries = c.args.row.now.entries in
    let v = c.loop-v.v in
    let m = to_z w64 (of_z w64 c.args.multiplier) in
    let inside : v < length entries = omega (arith, c.loop-v-test.true, c.len-columns.ensures.value) in
    let within : v < length now = omega (arith, inside, c.loop-v.invariant.nine, c.len-columns.ensures.columns.few) in
    let bounded : unsigned_abs (get_or now v (pos 0)) ≤ 255 * 2 ^ 118 =
    subst (λ (t : ℤ). unsigned_abs t ≤ 255 * 2 ^ 118) (sym (c.loop-v.invariant.left v (omega arith))) (c.requires.sums v inside) in
    let entry : to_z w64 (of_z w64 c.entry.result) ≡ get_or entries v (pos 0) = small_back c.entry.result c.entry.ensures.small.size ∙ c.entry.ensures.value in
    let product : c.product.result ≡ m *ℤ get_or entries v (pos 0) = c.product.ensures.value ∙ ap (λ t. m *ℤ t) entry in
    let sum = sum_is (get_or now v (pos 0)) c.product.result bounded c.product.ensures.small ∙ ap (λ t. get_or now v (pos 0) +ℤ t) product in
    record {
      nine = length-set now v _ ∙ c.loop-v.invariant.nine;
      added = added_more old now entries m _ v within sum c.loop-v.invariant.added c.loop-v.invariant.left;
      left = left_more old now _ v c.loop-v.invariant.left;
    }

pub returns-clause-small : goal.returns-clause-small
returns-clause-small c = λ v l. product_small c.args.multiplier (get_or c.args.row.now.entries v (pos 0)) _ c.requires.small (c.len-columns.ensures.small v (pos 0) l) refl
