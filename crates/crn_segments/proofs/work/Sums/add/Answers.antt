use Rattle.std.proofs.Common.{◌≡◌, ◌≤◌, ◌∙◌, ◌==◌, length, Some, sym, ap, ap₂, subst, arith, to_z, of_z}
use Rattle.std.proofs.lemmas.Int.{ints}
use Rattle.std.specs.Int.{w64}
use Rattle.std.specs.Vec.{vec_capacity}
use Rattle.crn_fraction.specs.Rational.{◌*ℚ◌, whole}
use Rattle.crn_net.specs.Network.{amount}
use Rattle.crn_segments.specs.Sums.{mark_of, sum_with, sum_where}
use Rattle.crn_segments.specs.declared.work.Mark.TheVariants.{Fits}
use Rattle.crn_segments.proofs.Amounts.{amount_read}
use Rattle.crn_segments.proofs.Marks.{mark_read, fits_sums, too_big_room, too_big_sums}
use Rattle.crn_segments.proofs.work.Sums.add.Goals as goal
use Rattle.crn_segments.proofs.work.Sums.add.Goals.{In-Fits, After-sum_with}

fits : (c : In-Fits) → mark_of c.touch.new.self.marks.items c.args.species ≡ Fits
fits c =
    sym (mark_read c.touch.new.self.marks.items c.index.result.now c.args.species c.requires.low (subst (λ k. c.args.species ≤ k) (sym c.touch.ensures.room.marks) c.requires.high) c.index.ensures) ∙ c.in-Fits.is

sum : (c : After-sum_with) → c.index-in-Fits.result.now ≡ amount c.touch.new.self.next.items c.args.species
sum c = amount_read c.touch.new.self.next.items c.index-in-Fits.result.now c.args.species c.requires.low (subst (λ k. c.args.species ≤ k) (sym c.touch.ensures.room.sums) c.requires.high) c.index-in-Fits.ensures

same_gain : (c : After-sum_with) → to_z w64 (of_z w64 c.args.gain) ≡ c.args.gain
same_gain c = omega (arith, ints, c.ranges.gain.sfits)

pub returns-in-Some-clause-sums : goal.returns-in-Some-clause-sums
returns-in-Some-clause-sums c =
    let at = goal.at.returns-in-Some-clause-sums c in
    let p = c.args.flux *ℚ whole c.args.gain in
    λ j. fits_sums (length c.args.state.now) (vec_capacity c.touch.new.self.touched) c.touch.new.self.marks.items c.touch.new.self.next.items c.touch.new.self.touched.items c.touch.ensures.room c.args.species c.requires.low c.requires.high
    c.args.state.now p c.in-Some.sum j (fits at.In-Fits) (ap₂ (λ k x. sum_with (c.args.flux *ℚ whole k) (Some x)) (sym (same_gain at.After-sum_with)) (sym (sum at.After-sum_with)) ∙ sym c.in-Some.ensures)
    ∙ ap (λ o. sum_where (c.args.species == j) p o) (c.touch.ensures.same j)

pub returns-in-None-clause-room : goal.returns-in-None-clause-room
returns-in-None-clause-room c =
    too_big_room (length c.args.state.now) (vec_capacity c.touch.new.self.touched) c.touch.new.self.marks.items c.touch.new.self.next.items c.touch.new.self.touched.items c.touch.ensures.room c.args.species c.requires.low c.requires.high
    (fits (goal.at.returns-in-None-clause-room c).In-Fits)

pub returns-in-None-clause-sums : goal.returns-in-None-clause-sums
returns-in-None-clause-sums c =
    let at = goal.at.returns-in-None-clause-sums c in
    let p = c.args.flux *ℚ whole c.args.gain in
    λ j. too_big_sums (length c.args.state.now) (vec_capacity c.touch.new.self.touched) c.touch.new.self.marks.items c.touch.new.self.next.items c.touch.new.self.touched.items c.touch.ensures.room c.args.species c.requires.low c.requires.high
    c.args.state.now p j (fits at.In-Fits) (ap₂ (λ k x. sum_with (c.args.flux *ℚ whole k) (Some x)) (sym (same_gain at.After-sum_with)) (sym (sum at.After-sum_with)) ∙ sym c.in-None.ensures)
    ∙ ap (λ o. sum_where (c.args.species == j) p o) (c.touch.ensures.same j)
