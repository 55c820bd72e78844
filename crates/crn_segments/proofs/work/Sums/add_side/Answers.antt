use Rattle.std.proofs.Common.{◌≡◌, ◌+◌, ◌<◌, ◌≤◌, ◌==◌, ℕ, List, drop, length, pos, sym, ◌∙◌, refl, ap, subst, arith, to_z, of_z}
use Rattle.std.proofs.lemmas.Int.{ints}
use Rattle.std.specs.Int.{w64}
use Rattle.std.specs.Prelude.{ℤ, ◌-ℤ◌}
use Rattle.crn_fraction.specs.Rational.{◌*ℚ◌, whole}
use Rattle.crn_net.specs.Network.{AreParts, count_of}
use Rattle.crn_net.specs.Views.{parts_of, reaction_of}
use Rattle.crn_net.specs.declared.Part.{Part}
use Rattle.crn_net.proofs.Sides.{read}
use Rattle.crn_segments.specs.Step.{IsSide}
use Rattle.crn_segments.specs.Sums.{sum_in, sum_where}
use Rattle.crn_segments.proofs.Counts.{IsAhead, ahead_stays, ahead_moves}
use Rattle.crn_segments.proofs.SideWalk.{walk_skips, walk_adds}
use Rattle.crn_segments.proofs.work.Sums.add_side.Goals as goal
use Rattle.crn_segments.proofs.work.Sums.add_side.Goals.{then-count_from-eq0, else-count_from-eq0}

-- a side that is read behind a reference
moved : (n : ℕ) (ps qs xs : List Part) (from next i : ℕ) → qs ≡ xs → AreParts 0 n (parts_of ps) → i < length ps → IsAhead ps xs from i → IsSide (parts_of (drop next qs)) →
    ((t : ℕ) → (read ps i).species ≤ t → count_of (parts_of (drop next qs)) t ≡ count_of (parts_of (drop from qs)) t) → IsAhead ps xs next (i + 1)
moved n ps qs xs from next i e ok l a side later =
    subst (λ zs. IsAhead ps zs next (i + 1)) e (ahead_moves n ps qs from next i ok l (subst (λ zs. IsAhead ps zs from i) (sym e) a) side later)

counted : (ps qs xs : List Part) (from i : ℕ) (k : ℤ) → qs ≡ xs → IsAhead ps xs from i → i < length ps → k ≡ pos (count_of (parts_of (drop from qs)) (read ps i).species) →
    k ≡ pos (count_of (parts_of xs) (read ps i).species)
counted ps qs xs from i k e a l h = h ∙ ap (λ zs. pos (count_of (parts_of (drop from zs)) (read ps i).species)) e ∙ ap pos (a.same i (omega arith) l)

pub loop-part-preserved : goal.loop-part-preserved
loop-part-preserved c =
    let n = length c.args.state.now in
    let ps = c.args.parts.now in
    let i = c.loop-part.part-index in
    let s : ℕ = (read ps i).species in
    let l = c.loop-part-test.true in
    let ok = c.loop-part.invariant in
    let of_seen = counted ps c.args.seen.now c.args.seen.now c.loop-part.seen_from i c.count_from.result refl ok.seen l c.count_from.ensures.count in
    let seen = ahead_moves n ps c.args.seen.now c.loop-part.seen_from c.count_from.new.from i c.requires.parts l ok.seen c.count_from.ensures.side c.count_from.ensures.later in
    elim c.if-count_from-eq0.branch [
      | then-count_from-eq0 w ↦
          let none : count_of (parts_of c.args.seen.now) s ≡ 0 = omega (arith, ints, of_seen, w.if-count_from-eq0.true) in
          let given = counted ps w.deref.result.now c.args.reaction.now.gives.items c.loop-part.gives_from i w.count_from-given.result w.deref.ensures.value ok.gives l w.count_from-given.ensures.count in
          let taken = counted ps w.deref-then-count_from-eq0.result.now c.args.reaction.now.takes.items c.loop-part.takes_from i w.count_from-taken.result w.deref-then-count_from-eq0.ensures.value ok.takes l w.count_from-taken.ensures.count in
          let gain : ℤ = pos (count_of (parts_of c.args.reaction.now.gives.items) s) -ℤ pos (count_of (parts_of c.args.reaction.now.takes.items) s) in
          let e : to_z w64 (of_z w64 (to_z w64 (of_z w64 w.count_from-given.result) -ℤ to_z w64 (of_z w64 w.count_from-taken.result))) ≡ gain = omega (arith, ints, given, taken) in
          rw (w.self-is, w.gives_from-is, w.takes_from-is) (record {
            walk = walk_adds n ps (parts_of c.args.seen.now) (reaction_of c.args.reaction.now) c.args.flux c.args.state.now c.args.self.now c.loop-part.self i l ok.walk w.add.new.self none w.add.ensures.room
                (λ t. w.add.ensures.sums t ∙ ap (λ k. sum_where (s == t) (c.args.flux *ℚ whole k) (sum_in c.loop-part.self c.args.state.now t)) e);
            seen = seen;
            gives = moved n ps w.deref.result.now c.args.reaction.now.gives.items c.loop-part.gives_from w.count_from-given.new.from i w.deref.ensures.value c.requires.parts l ok.gives w.count_from-given.ensures.side w.count_from-given.ensures.later;
            takes = moved n ps w.deref-then-count_from-eq0.result.now c.args.reaction.now.takes.items c.loop-part.takes_from w.count_from-taken.new.from i w.deref-then-count_from-eq0.ensures.value c.requires.parts l ok.takes w.count_from-taken.ensures.side w.count_from-taken.ensures.later;
          })
      | else-count_from-eq0 w ↦
          let some : 0 < count_of (parts_of c.args.seen.now) s = omega (arith, ints, of_seen, w.if-count_from-eq0.false) in
          rw (w.self-is, w.gives_from-is, w.takes_from-is) (record {
            walk = walk_skips n ps (parts_of c.args.seen.now) (reaction_of c.args.reaction.now) c.args.flux c.args.state.now c.args.self.now c.loop-part.self i l ok.walk some;
            seen = seen;
            gives = ahead_stays ps c.args.reaction.now.gives.items c.loop-part.gives_from i ok.gives;
            takes = ahead_stays ps c.args.reaction.now.takes.items c.loop-part.takes_from i ok.takes;
          })
    ]
