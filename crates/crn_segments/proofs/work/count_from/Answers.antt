use Rattle.std.proofs.Common.{◌≡◌, ◌<◌, pos, length, ◌∙◌, ap, subst, arith}
use Rattle.std.proofs.lemmas.Int.{ints}
use Rattle.crn_segments.proofs.Counts.{passed_more, passed_found, passed_over}
use Rattle.crn_segments.proofs.work.count_from.Goals as goal
use Rattle.crn_segments.proofs.work.count_from.Goals.{In-Some}
use Rattle.crn_net.proofs.Sides.{read}

inside : (c : In-Some) → c.loop-part.from < length c.args.parts.now
inside c = c.in-Some.ensures.lookup.3.0

part : (c : In-Some) → c.in-Some.part.now ≡ read c.args.parts.now c.loop-part.from
part c = c.in-Some.ensures.lookup.3.1 (record { species = 0; count = pos 0 })

pub returns-then-part-species-clause-count : goal.returns-then-part-species-clause-count
returns-then-part-species-clause-count c =
    let at : In-Some = (goal.at.returns-then-part-species-clause-count c).In-Some in
    passed_over c.args.parts.now c.args.from.now c.loop-part.from c.args.species (inside at) c.loop-part.invariant (subst (λ p. c.args.species < p.species) (part at) c.if-part-species.true)

pub returns-then-part-species-2-clause-count : goal.returns-then-part-species-2-clause-count
returns-then-part-species-2-clause-count c =
    let at : In-Some = (goal.at.returns-then-part-species-2-clause-count c).In-Some in
    let count = ap (λ p. p.count) (part at) ∙ passed_found c.args.parts.now c.args.from.now c.loop-part.from c.args.species (inside at) c.loop-part.invariant (subst (λ p. p.species ≡ c.args.species) (part at) c.if-part-species-2.true) in
    omega (arith, ints, count)

pub loop-part-preserved : goal.loop-part-preserved
loop-part-preserved c =
    let at : In-Some = (goal.at.loop-part-preserved c).In-Some in
    let below : c.in-Some.part.now.species < c.args.species = omega (arith, c.if-part-species.false, c.if-part-species-2.false) in
    passed_more c.args.parts.now c.args.from.now c.loop-part.from c.args.species (inside at) c.loop-part.invariant (subst (λ p. p.species < c.args.species) (part at) below)
