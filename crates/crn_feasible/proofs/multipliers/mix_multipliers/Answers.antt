use Rattle.std.proofs.Common.{◌≡◌, ◌⊎◌, ◌++◌, ◌∷◌, ◌≤◌, ◌^◌, ℕ, List, [], length, inl, inr, sym, subst, to_z, of_z, arith, refl, Err, Ok, Result}
use Rattle.std.specs.Prelude.{ℤ, pos, unsigned_abs, OnOk}
use Rattle.std.specs.Int.{w64}
use Rattle.std.specs.List.{All}
use Rattle.std.proofs.lemmas.Int.{to_z-of_z}
use Rattle.std.proofs.lemmas.List.Elements.{All-push}
use Rattle.crn_feasible.specs.Sparse.{Mixes}
use Rattle.crn_feasible.proofs.Sparse.{first_next, second_next, both_next, mixes-ended}
use Rattle.crn_feasible.proofs.multipliers.mix_multipliers.Goals.{then-loop-i-test+else-j-n, else-loop-i-test}
use Rattle.crn_feasible.proofs.multipliers.mix_multipliers.Goals as goal

wide_push : (out new : List (ℕ × ℤ)) (m : ℕ × ℤ) → new ≡ out ++ m ∷ [] → All (λ m. unsigned_abs m.1 ≤ 2 ^ 119) out → unsigned_abs m.1 ≤ 2 ^ 119 → All (λ m. unsigned_abs m.1 ≤ 2 ^ 119) new
wide_push out new m e all one = subst (λ (ms : List (ℕ × ℤ)). All (λ m. unsigned_abs m.1 ≤ 2 ^ 119) ms) (sym e) (All-push (λ m. unsigned_abs m.1 ≤ 2 ^ 119) out m all one)

pub loop-i-preserved-then-x-y : goal.loop-i-preserved-then-x-y
loop-i-preserved-then-x-y c = record {
  items = first_next _ _ c.args.p.now c.args.n.now c.loop-i.i c.loop-i.j (0, pos 0) _ _ c.loop-i.out.items _ _ c.scaled.result
      c.loop-i-test.true refl c.if-j-n.true refl c.loop-i.invariant.items c.if-x-y.true c.in_ok-push.ensures.items c.scaled.ensures.value;
  wide = wide_push c.loop-i.out.items _ c.scaled.result c.in_ok-push.ensures.items c.loop-i.invariant.wide c.scaled.ensures.wide;
  first = omega (arith, c.loop-i-test.true);
  second = c.loop-i.invariant.second;
}

pub loop-i-preserved-then-y-x : goal.loop-i-preserved-then-y-x
loop-i-preserved-then-y-x c = record {
  items = second_next _ _ c.args.p.now c.args.n.now c.loop-i.i c.loop-i.j (0, pos 0) _ _ c.loop-i.out.items _ _ c.scaled-then-y-x.result
      c.loop-i-test.true refl c.if-j-n.true refl c.loop-i.invariant.items c.if-y-x.true c.in_ok-push-2.ensures.items c.scaled-then-y-x.ensures.value;
  wide = wide_push c.loop-i.out.items _ c.scaled-then-y-x.result c.in_ok-push-2.ensures.items c.loop-i.invariant.wide c.scaled-then-y-x.ensures.wide;
  first = c.loop-i.invariant.first;
  second = omega (arith, c.if-j-n.true);
}

pub loop-i-preserved : goal.loop-i-preserved
loop-i-preserved c = record {
  items = both_next _ _ c.args.p.now c.args.n.now c.loop-i.i c.loop-i.j (0, pos 0) _ _ c.loop-i.out.items _ _ c.sum_of.result
      c.loop-i-test.true refl c.if-j-n.true refl c.loop-i.invariant.items (omega (arith, c.if-x-y.false, c.if-y-x.false)) c.in_ok-push-3.ensures.items c.sum_of.ensures.value;
  wide = wide_push c.loop-i.out.items _ c.sum_of.result c.in_ok-push-3.ensures.items c.loop-i.invariant.wide c.sum_of.ensures.wide;
  first = omega (arith, c.loop-i-test.true);
  second = omega (arith, c.if-j-n.true);
}

on_ok : {X E P Q : Type 0} (r : Result X E) → OnOk r P → (P → Q) → OnOk r Q
on_ok (Ok x) h f = f h
on_ok (Err e) h f = tt

pub returns-clause-mixes : goal.returns-clause-mixes
returns-clause-mixes c =
    let ended : (length c.args.p.now ≤ c.loop-i.i) ⊎ (length c.args.n.now ≤ c.loop-i.j) =
    elim c.loop-i-test.branch [ then-loop-i-test+else-j-n w ↦ inr w.if-j-n.false | else-loop-i-test w ↦ inl w.loop-i-test.false ] in
    let p = c.args.p.now in
    let n = c.args.n.now in
    let a : ℤ = to_z w64 (of_z w64 c.args.a) in
    let b : ℤ = to_z w64 (of_z w64 c.args.b) in
    on_ok c.append_scaled-2.result c.append_scaled-2.ensures.items
    (λ h. subst (λ s. Mixes s p c.args.b n c.append_scaled-2.new.out.items) (to_z-of_z w64 c.args.a c.ranges.a)
    (subst (λ t. Mixes a p t n c.append_scaled-2.new.out.items) (to_z-of_z w64 c.args.b c.ranges.b)
    (mixes-ended a b p n c.loop-i.i c.loop-i.j c.loop-i.out.items c.append_scaled.new.out.items c.append_scaled-2.new.out.items ended c.loop-i.invariant.items c.in_ok-append_scaled.ensures.items h)))
