use Rattle.std.proofs.Common.{◌≡◌, ◌≤◌, length, set, ◌-◌, sym, ◌∙◌, subst, arith}
use Rattle.std.proofs.lemmas.List.{append-nil}
use Rattle.std.specs.Vec.{vec_capacity}
use Rattle.crn_fraction.specs.Rational.{0ℚ, ◌≤ℚ◌}
use Rattle.crn_net.specs.Network.{amount}
use Rattle.crn_segments.proofs.Amounts.{amount_read}
use Rattle.crn_segments.proofs.Clearing.{ClearingOf, settling_range, sum_not_negative, settle_clears, settle_long, settle_fits, settle_other, clearing_ends, nothing_left}
use Rattle.crn_segments.proofs.Marks.{mark_read}
use Rattle.crn_segments.specs.Sums.{mark_of}
use Rattle.crn_segments.specs.declared.work.Mark.TheVariants.{Untouched}
use Rattle.crn_segments.proofs.work.Sums.settle.Goals as goal
use Rattle.crn_segments.proofs.work.Sums.settle.Goals.{In-Some, After-index, in-Fits, in_default-index}

range : (c : In-Some) → (1 ≤ c.in-Some.species) × (c.in-Some.species ≤ length c.args.state.now)
range c = settling_range c.args.self.now c.args.state.now c.loop-species.self c.loop-species.state c.pop.new.self.items c.in-Some.species c.loop-species.invariant c.in-Some.ensures.items

mark : (c : After-index) (low : 1 ≤ c.in-Some.species) → c.in-Some.species ≤ length c.args.state.now → c.index.result.now ≡ mark_of c.loop-species.self.marks.items c.in-Some.species
mark c low high =
    mark_read c.loop-species.self.marks.items c.index.result.now c.in-Some.species low (omega (arith, high, c.loop-species.invariant.clearing.marks)) c.index.ensures

pub overflow_sub-place : goal.overflow_sub-place
overflow_sub-place c = (range (goal.at.overflow_sub-place c).In-Some).0

pub index-requires : goal.index-requires
index-requires c =
    let r = range (goal.at.index-requires c).In-Some in
    omega (arith, r.0, r.1, c.loop-species.invariant.clearing.marks, c.loop-species.self.marks.ok.0)

pub index-requires-in-Fits : goal.index-requires-in-Fits
index-requires-in-Fits c =
    let r = range (goal.at.index-requires-in-Fits c).In-Some in
    omega (arith, r.0, r.1, c.loop-species.invariant.clearing.sums, c.loop-species.self.next.ok.0)

pub set-requires-clause-low : goal.set-requires-clause-low
set-requires-clause-low c = (range (goal.at.set-requires-clause-low c).In-Some).0

pub set-requires-clause-high : goal.set-requires-clause-high
set-requires-clause-high c =
    let r = range (goal.at.set-requires-clause-high c).In-Some in
    omega (arith, r.1, c.loop-species.invariant.long)

pub set-requires-clause-not_negative : goal.set-requires-clause-not_negative
set-requires-clause-not_negative c =
    let at = goal.at.set-requires-clause-not_negative c in
    let r = range at.In-Some in
    let read : c.index-in-Fits.result.now ≡ amount c.loop-species.self.next.items c.in-Some.species =
    amount_read c.loop-species.self.next.items c.index-in-Fits.result.now c.in-Some.species r.0 (omega (arith, r.1, c.loop-species.invariant.clearing.sums)) c.index-in-Fits.ensures in
    subst (λ x. 0ℚ ≤ℚ x) (sym read)
    (sum_not_negative c.args.self.now c.args.state.now c.loop-species.self c.loop-species.state c.pop.new.self.items c.in-Some.species c.loop-species.invariant c.in-Some.ensures.items
    (sym (mark at.After-index r.0 r.1) ∙ c.in-Fits.is) (c.requires.sums c.in-Some.species r.0 r.1))

pub index_mut-requires : goal.index_mut-requires
index_mut-requires c =
    let r = range (goal.at.index_mut-requires c).In-Some in
    elim c.match-index.branch [
      | in-Fits w ↦ rw w.self-is (omega (arith, r.0, r.1, c.loop-species.invariant.clearing.marks, c.loop-species.self.marks.ok.0))
      | in_default-index w ↦ rw w.self-is (omega (arith, r.0, r.1, c.loop-species.invariant.clearing.marks, c.loop-species.self.marks.ok.0))
    ]

pub loop-species-preserved : goal.loop-species-preserved
loop-species-preserved c =
    let at = goal.at.loop-species-preserved c in
    let r = range at.In-Some in
    let s = c.in-Some.species in
    elim c.match-index.branch [
      | in-Fits w ↦
          let read : w.index-in-Fits.result.now ≡ amount c.loop-species.self.next.items s = amount_read c.loop-species.self.next.items w.index-in-Fits.result.now s r.0 (omega (arith, r.1, c.loop-species.invariant.clearing.sums)) w.index-in-Fits.ensures in
          rw (w.self-is, w.state-is, w.set.ensures) (record {
            clearing = subst (λ room. ClearingOf (length c.args.state.now) room (set c.loop-species.self.marks.items (s - 1) Untouched) c.loop-species.self.next.items c.pop.new.self.items) (sym c.pop.ensures.capacity)
                (settle_clears c.args.self.now c.args.state.now c.loop-species.self c.loop-species.state c.pop.new.self.items s c.loop-species.invariant c.in-Some.ensures.items);
            long = settle_long c.args.self.now c.args.state.now c.loop-species.self c.loop-species.state c.pop.new.self.items s c.loop-species.invariant c.in-Some.ensures.items w.index-in-Fits.result.now;
            same = settle_fits c.args.self.now c.args.state.now c.loop-species.self c.loop-species.state c.pop.new.self.items s c.loop-species.invariant c.in-Some.ensures.items w.index-in-Fits.result.now (sym (mark at.After-index r.0 r.1) ∙ w.in-Fits.is) read;
          })
      | in_default-index w ↦
          rw (w.self-is, w.state-is) (record {
            clearing = subst (λ room. ClearingOf (length c.args.state.now) room (set c.loop-species.self.marks.items (s - 1) Untouched) c.loop-species.self.next.items c.pop.new.self.items) (sym c.pop.ensures.capacity)
                (settle_clears c.args.self.now c.args.state.now c.loop-species.self c.loop-species.state c.pop.new.self.items s c.loop-species.invariant c.in-Some.ensures.items);
            long = c.loop-species.invariant.long;
            same = settle_other c.args.self.now c.args.state.now c.loop-species.self c.loop-species.state c.pop.new.self.items s c.loop-species.invariant c.in-Some.ensures.items (λ e. w.in_default-index.not-Fits (mark at.After-index r.0 r.1 ∙ e)) (c.requires.sums s r.0 r.1);
          })
    ]

pub returns-clause-ready : goal.returns-clause-ready
returns-clause-ready c =
    let same : c.pop.new.self.items ≡ c.loop-species.self.touched.items = sym (c.in_default.ensures.items ∙ append-nil c.pop.new.self.items) in
    rw (same, c.pop.ensures.capacity)
    (clearing_ends (length c.args.state.now) (vec_capacity c.loop-species.self.touched) c.loop-species.self.marks.items c.loop-species.self.next.items c.loop-species.self.touched.items c.loop-species.invariant.clearing
    (nothing_left c.loop-species.self.touched.items (c.loop-species.self.touched.ok.0) c.in_default.ensures.cases.0))
