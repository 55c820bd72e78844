use Rattle.std.proofs.Common.{arith, rules, refl, ◌≡◌, ◌∙◌, List, length, sym, ap₂, subst, to_z, of_z, SFits, get_or}
use Rattle.std.specs.Prelude.{ℤ, pos, ◌+ℤ◌, ◌*ℤ◌}
use Rattle.std.specs.Int.{w64}
use Rattle.std.proofs.lemmas.Int.{to_z-of_z}
use Rattle.std.proofs.lemmas.List.{take_all}
use Rattle.std.proofs.lemmas.List.Elements.{All-more}
use Rattle.crn_linear.specs.Rows.{IsSmall, AreSmall}
use Rattle.crn_linear.specs.Views.{padded}
use Rattle.crn_linear.proofs.Padding.{padding_step, padding_end}
use Rattle.crn_farkas.specs.Mixtures.{mixed}
use Rattle.crn_farkas.proofs.Mixing.{get_or-mixed}
use Rattle.crn_feasible.proofs.Certificates.{length-mixed}
use Rattle.crn_feasible.proofs.Turns.{itself}
use Rattle.crn_feasible.proofs.rows.short_sums.Goals as goal

pub loop-i-preserved : goal.loop-i-preserved
loop-i-preserved c =
    let i = c.loop-i.i in
    let p = c.args.p.now in
    let n = c.args.n.now in
    let s : ℤ = to_z w64 (of_z w64 c.args.a) in
    let t : ℤ = to_z w64 (of_z w64 c.args.b) in
    let xs : List ℤ = mixed s p t n in
    let long : length xs ≡ length p = length-mixed s p t n (length p) refl (sym c.requires.same) in
    let fp : SFits w64 (get_or p i (pos 0)) = search rules in
    let fn : SFits w64 (get_or n i (pos 0)) = search rules in
    let is : c.short_mix.result ≡ get_or xs i (pos 0) =
    c.short_mix.ensures.value ∙ ap₂ (λ x y. s *ℤ x +ℤ t *ℤ y) (to_z-of_z w64 _ fp) (to_z-of_z w64 _ fn) ∙ sym (get_or-mixed s p t n i) in
    record {
      sums = padding_step (pos 0) xs c.loop-i.sums i _ (omega (arith, long, c.loop-i-test.true)) (omega (arith, long, c.requires.few))
          (itself c.short_mix.result c.short_mix.result c.short_mix.ensures.small refl ∙ is) c.loop-i.invariant.sums;
      small = All-more IsSmall xs i (pos 0) (omega (arith, long, c.loop-i-test.true)) c.loop-i.invariant.small (subst IsSmall is c.short_mix.ensures.small);
    }

pub returns-clause-sums : goal.returns-clause-sums
returns-clause-sums c =
    let p = c.args.p.now in
    let n = c.args.n.now in
    let s : ℤ = to_z w64 (of_z w64 c.args.a) in
    let t : ℤ = to_z w64 (of_z w64 c.args.b) in
    let xs : List ℤ = mixed s p t n in
    let long : length xs ≡ length p = length-mixed s p t n (length p) refl (sym c.requires.same) in
    padding_end (pos 0) xs c.loop-i.sums c.loop-i.i (omega (arith, long, c.loop-i-test.false, c.loop-i.auto.i-end)) c.loop-i.invariant.sums
    ∙ ap₂ (λ x y. padded (pos 0) (mixed x p y n)) (to_z-of_z w64 c.args.a c.ranges.a) (to_z-of_z w64 c.args.b c.ranges.b)

pub returns-clause-small : goal.returns-clause-small
returns-clause-small c =
    let p = c.args.p.now in
    let n = c.args.n.now in
    let s : ℤ = to_z w64 (of_z w64 c.args.a) in
    let t : ℤ = to_z w64 (of_z w64 c.args.b) in
    let xs : List ℤ = mixed s p t n in
    let long : length xs ≡ length p = length-mixed s p t n (length p) refl (sym c.requires.same) in
    subst (λ x. AreSmall (mixed x p c.args.b n)) (to_z-of_z w64 c.args.a c.ranges.a) (subst (λ y. AreSmall (mixed s p y n)) (to_z-of_z w64 c.args.b c.ranges.b)
    (subst AreSmall (take_all c.loop-i.i xs (omega (arith, long, c.loop-i-test.false))) c.loop-i.invariant.small))
