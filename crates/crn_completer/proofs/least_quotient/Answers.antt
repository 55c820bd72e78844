use Rattle.std.proofs.Common.{◌≡◌, ◌+◌, length, sym, ◌∙◌, ap, ap₂, subst, arith, Some, pos, to_z, of_z}
use Rattle.std.proofs.lemmas.Int.{ints}
use Rattle.std.specs.Int.{w64}
use Rattle.std.specs.Prelude.{ℤ, ◌<ℤ◌}
use Rattle.crn_fraction.specs.Frac.{IsFrac}
use Rattle.crn_fraction.specs.Rational.{◌/ℚ◌, whole}
use Rattle.crn_net.specs.Network.{amount}
use Rattle.crn_net.specs.Views.{natural, parts_of}
use Rattle.crn_net.proofs.Sides.{read}
use Rattle.crn_completer.specs.Refusal.{unfit_quotient}
use Rattle.crn_completer.proofs.Quotients.{SoFar, quotient_stops, quotient_first, quotient_more, read_is, read_in_range, read_count, whole_not_zero}
use Rattle.crn_completer.proofs.least_quotient.Goals as goal
use Rattle.crn_completer.proofs.least_quotient.Goals.{After-div, in-None, in-Some}

pub amount-requires-clause-low : goal.amount-requires-clause-low
amount-requires-clause-low c =
    let r = read_in_range (length c.args.state.now) c.loop-part.part-index c.args.reaction.now.takes.items c.deref-part-items.result.now c.deref-part-items.ensures.value c.requires.takes c.loop-part-test.true in
    omega (arith, r.0)

pub amount-requires-clause-high : goal.amount-requires-clause-high
amount-requires-clause-high c =
    (read_in_range (length c.args.state.now) c.loop-part.part-index c.args.reaction.now.takes.items c.deref-part-items.result.now c.deref-part-items.ensures.value c.requires.takes c.loop-part-test.true).1

pub whole-requires : goal.whole-requires
whole-requires c =
    let r = read_count (length c.args.state.now) c.loop-part.part-index c.args.reaction.now.takes.items c.deref-part-items.result.now c.deref-part-items.ensures.value c.requires.takes c.loop-part-test.true in
    omega (arith, ints, r.0)

pub div-requires : goal.div-requires
div-requires c =
    let r = read_count (length c.args.state.now) c.loop-part.part-index c.args.reaction.now.takes.items c.deref-part-items.result.now c.deref-part-items.ensures.value c.requires.takes c.loop-part-test.true in
    let p = read c.deref-part-items.result.now c.loop-part.part-index in
    let k : ℤ = to_z w64 (of_z w64 p.count) in
    let positive : pos 0 <ℤ k = omega (arith, ints, r.0) in
    λ e. whole_not_zero k positive (sym c.whole.ensures ∙ e)

quotient : (c : After-div) → c.amount.result /ℚ c.whole.result ≡
    amount c.args.state.now (read c.deref-part-items.result.now c.loop-part.part-index).species /ℚ whole (pos (natural (read c.deref-part-items.result.now c.loop-part.part-index).count))
quotient c =
    let r = read_count (length c.args.state.now) c.loop-part.part-index c.args.reaction.now.takes.items c.deref-part-items.result.now c.deref-part-items.ensures.value c.requires.takes c.loop-part-test.true in
    let p = read c.deref-part-items.result.now c.loop-part.part-index in
    let same : to_z w64 (of_z w64 p.count) ≡ pos (natural p.count) = omega (arith, ints, r.0, r.1) in
    ap₂ (λ x y. x /ℚ y) c.amount.ensures.value (c.whole.ensures ∙ ap whole same)

pub returns-in_default-clause-fit : goal.returns-in_default-clause-fit
returns-in_default-clause-fit c =
    ap (λ x. unfit_quotient (amount c.args.state.now) (parts_of x)) (sym c.deref-part-items.ensures.value)
    ∙ quotient_stops (amount c.args.state.now) c.deref-part-items.result.now c.loop-part.part-index c.loop-part.least (read c.deref-part-items.result.now c.loop-part.part-index) c.loop-part-test.true
    (read_is c.deref-part-items.result.now c.loop-part.part-index c.loop-part-test.true) c.loop-part.invariant
    (λ k. c.in_default.ensures (subst IsFrac (sym (quotient (goal.at.returns-in_default-clause-fit c).After-div)) k))

pub loop-part-preserved : goal.loop-part-preserved
loop-part-preserved c =
    let e = c.in-Ok.ensures.1 ∙ quotient (goal.at.loop-part-preserved c).After-div in
    let f : IsFrac c.in-Ok.quotient = subst IsFrac (sym c.in-Ok.ensures.1) c.in-Ok.ensures.0 in
    elim c.match-least.branch [
      | in-None w ↦
          subst (λ a. SoFar (amount c.args.state.now) c.deref-part-items.result.now (c.loop-part.part-index + 1) (Some a)) (sym w.least-is)
          (quotient_first (amount c.args.state.now) c.deref-part-items.result.now c.loop-part.part-index c.loop-part.least (read c.deref-part-items.result.now c.loop-part.part-index) c.loop-part-test.true
          (read_is c.deref-part-items.result.now c.loop-part.part-index c.loop-part-test.true) c.loop-part.invariant c.in-Ok.quotient e f w.in-None.is)
      | in-Some w ↦
          subst (λ a. SoFar (amount c.args.state.now) c.deref-part-items.result.now (c.loop-part.part-index + 1) (Some a)) (sym (w.least-is ∙ w.least.ensures))
          (quotient_more (amount c.args.state.now) c.deref-part-items.result.now c.loop-part.part-index c.loop-part.least (read c.deref-part-items.result.now c.loop-part.part-index) c.loop-part-test.true
          (read_is c.deref-part-items.result.now c.loop-part.part-index c.loop-part-test.true) c.loop-part.invariant c.in-Ok.quotient _ e f w.in-Some.is)
    ]
