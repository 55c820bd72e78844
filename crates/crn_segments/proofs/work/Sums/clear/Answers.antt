use Rattle.std.proofs.Common.{◌≡◌, ◌≤◌, length, sym, ◌∙◌, arith}
use Rattle.std.proofs.lemmas.List.{append-nil}
use Rattle.std.specs.Vec.{vec_capacity}
use Rattle.crn_segments.proofs.Clearing.{clearing_more, clearing_ends, last_in_range, nothing_left}
use Rattle.crn_segments.proofs.work.Sums.clear.Goals as goal
use Rattle.crn_segments.proofs.work.Sums.clear.Goals.{In-Some}

range : (c : In-Some) → (1 ≤ c.in-Some.species) × (c.in-Some.species ≤ length c.args.self.now.marks.items)
range c =
    last_in_range (length c.args.self.now.marks.items) (vec_capacity c.loop-species.self.touched) c.loop-species.self.marks.items c.loop-species.self.next.items c.loop-species.self.touched.items c.pop.new.self.items c.in-Some.species
    c.loop-species.invariant c.in-Some.ensures.items

pub overflow_sub-species : goal.overflow_sub-species
overflow_sub-species c = (range (goal.at.overflow_sub-species c).In-Some).0

pub index_mut-requires : goal.index_mut-requires
index_mut-requires c =
    let r = range (goal.at.index_mut-requires c).In-Some in
    omega (arith, r.0, r.1, c.loop-species.invariant.marks, c.loop-species.self.marks.ok.0)

pub loop-species-preserved : goal.loop-species-preserved
loop-species-preserved c =
    let r = range (goal.at.loop-species-preserved c).In-Some in
    rw c.pop.ensures.capacity
    (clearing_more (length c.args.self.now.marks.items) (vec_capacity c.loop-species.self.touched) c.loop-species.self.marks.items c.loop-species.self.next.items c.loop-species.self.touched.items c.pop.new.self.items c.in-Some.species
    c.loop-species.invariant c.in-Some.ensures.items r.0 r.1)

pub returns : goal.returns
returns c =
    let same : c.pop.new.self.items ≡ c.loop-species.self.touched.items = sym (c.in_default.ensures.items ∙ append-nil c.pop.new.self.items) in
    rw (same, c.pop.ensures.capacity)
    (clearing_ends (length c.args.self.now.marks.items) (vec_capacity c.loop-species.self.touched) c.loop-species.self.marks.items c.loop-species.self.next.items c.loop-species.self.touched.items c.loop-species.invariant
    (nothing_left c.loop-species.self.touched.items (c.loop-species.self.touched.ok.0) c.in_default.ensures.cases.0))
