use Rattle.std.proofs.Common.{arith, refl}
use Rattle.std.proofs.lemmas.Int.{ints}
use Rattle.std.specs.Prelude.{pos, ◌≤ℤ◌}
use Rattle.crn_net.specs.Network.{AreParts}
use Rattle.crn_net.specs.Views.{parts_of}
use Rattle.crn_net.proofs.Sides.{read, side_more, side_stops, side_all, natural_positive, positive_natural}
use Rattle.crn_net.proofs.checks.is_side.Goals as goal
use Rattle.crn_net.proofs.checks.is_side.Goals.{Joined-then-part-last, then-part-last-via-then-part-last, then-part-last-via-else-part-last+then-part-species, then-part-last-via-else-part-last+else-part-species+then-part-lt1}

pub loop-part-init : goal.loop-part-init
loop-part-init c = record { down = λ h. h; up = λ h. h }

pub loop-part-preserved : goal.loop-part-preserved
loop-part-preserved c =
    let p = read c.args.parts.now c.loop-part.part-index in
    let some : pos 1 ≤ℤ p.count = omega (arith, ints, c.if-part-lt1.false) in
    side_more c.args.species c.args.parts.now c.loop-part.part-index c.loop-part.last c.loop-part-test.true c.if-part-last.false c.if-part-species.false (natural_positive p.count some) c.loop-part.invariant

stopped : (c : Joined-then-part-last) → AreParts 0 c.args.species (parts_of c.args.parts.now) → ⊥
stopped c k =
    elim c.then-part-last.branch [
      | then-part-last-via-then-part-last w ↦
          side_stops c.args.species c.args.parts.now c.loop-part.part-index c.loop-part.last c.loop-part-test.true (λ a b d. omega (arith, w.if-part-last.true, a)) c.loop-part.invariant k
      | then-part-last-via-else-part-last+then-part-species w ↦
          side_stops c.args.species c.args.parts.now c.loop-part.part-index c.loop-part.last c.loop-part-test.true (λ a b d. omega (arith, w.if-part-species.true, b)) c.loop-part.invariant k
      | then-part-last-via-else-part-last+else-part-species+then-part-lt1 w ↦
          side_stops c.args.species c.args.parts.now c.loop-part.part-index c.loop-part.last c.loop-part-test.true
          (λ a b d. let some = positive_natural (read c.args.parts.now c.loop-part.part-index).count d in omega (arith, ints, w.if-part-lt1.true, some)) c.loop-part.invariant k
    ]

pub returns-then-part-last : goal.returns-then-part-last
returns-then-part-last c = (λ h. absurd (cc h), λ k. absurd (stopped c k))

pub returns : goal.returns
returns c = (λ _. side_all c.args.species c.args.parts.now c.loop-part.part-index c.loop-part.last c.loop-part-test.false c.loop-part.invariant, λ _. refl)
