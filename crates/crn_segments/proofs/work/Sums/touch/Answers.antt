use Rattle.std.proofs.Common.{◌≡◌, ◌≤◌, ◌∙◌, ◌-◌, length, set, sym, ap, subst, arith}
use Rattle.std.specs.Vec.{vec_capacity}
use Rattle.crn_segments.specs.Sums.{mark_of, sum_at}
use Rattle.crn_segments.specs.declared.work.Mark.TheVariants.{Untouched, Fits}
use Rattle.crn_segments.proofs.Marks.{mark_read, room_left, touched_room, touched_sums}
use Rattle.crn_segments.proofs.work.Sums.touch.Goals as goal
use Rattle.crn_segments.proofs.work.Sums.touch.Goals.{In-Untouched}

untouched : (c : In-Untouched) → mark_of c.args.self.now.marks.items c.args.species ≡ Untouched
untouched c =
    sym (mark_read c.args.self.now.marks.items c.index.result.now c.args.species c.requires.low (subst (λ k. c.args.species ≤ k) (sym c.requires.room.marks) c.requires.high) c.index.ensures) ∙ c.in-Untouched.is

pub push_reserved-requires : goal.push_reserved-requires
push_reserved-requires c =
    let h = room_left (length c.args.state.now) (vec_capacity c.args.self.now.touched) c.args.self.now.marks.items c.args.self.now.next.items c.args.self.now.touched.items c.requires.room c.args.species c.requires.low c.requires.high
    (untouched (goal.at.push_reserved-requires c).In-Untouched) in
    omega (arith, h, c.args.self.now.touched.ok.0)

pub returns-in-Untouched-clause-room : goal.returns-in-Untouched-clause-room
returns-in-Untouched-clause-room c =
    let h = touched_room (length c.args.state.now) (vec_capacity c.args.self.now.touched) c.args.self.now.marks.items c.args.self.now.next.items c.args.self.now.touched.items c.requires.room c.args.species c.requires.low c.requires.high
    c.amount.result (untouched (goal.at.returns-in-Untouched-clause-room c).In-Untouched) in
    rw (c.push_reserved.ensures.items, c.push_reserved.ensures.capacity) h

pub returns-in-Untouched-clause-same : goal.returns-in-Untouched-clause-same
returns-in-Untouched-clause-same c =
    λ j. ap (λ x. sum_at (set c.args.self.now.marks.items (c.args.species - 1) Fits) (set c.args.self.now.next.items (c.args.species - 1) x) c.args.state.now j) c.amount.ensures.value
    ∙ touched_sums (length c.args.state.now) (vec_capacity c.args.self.now.touched) c.args.self.now.marks.items c.args.self.now.next.items c.args.self.now.touched.items c.requires.room c.args.species c.requires.low c.requires.high
    c.args.state.now j (untouched (goal.at.returns-in-Untouched-clause-same c).In-Untouched)
