use Rattle.std.proofs.Common.{◌≡◌, ◌≤◌, suc, ◌+◌, ◌-◌, ◌++◌, ◌∷◌, [], ℕ, length, sym, subst, arith}
use Rattle.std.specs.Prelude.{Option, MatchOption, vec_len}
use Rattle.crn_cells.specs.Cells.{IsMet}
use Rattle.crn_cells.specs.Insertion.{put_in, ComesBetween}
use Rattle.crn_cells.specs.Answers.{order_of, IsInserted, AreExtensions}
use Rattle.crn_cells.specs.declared.Cell.{Cell}
use Rattle.crn_cells.proofs.Extensions.{not_zero, refuted_below, pushed_below, rest_below, all_places}
use Rattle.crn_cells.proofs.places.insert_downward.Goals as goal
use Rattle.crn_cells.proofs.places.insert_downward.Goals.{After-insert}

abbrev Answered : After-insert → Option Cell → Type 0
Answered c o =
    let D = c.args.domain.now in
    let F = c.args.differences.now in
    let cell = c.args.cell.now in
    let m = length (order_of cell) in
    MatchOption o (¬ IsMet D F (suc m) (put_in (c.loop-place.place - 1) m (order_of cell))) (IsInserted D F m (c.loop-place.place - 1) cell)

-- the cells that were found by the places from this one on
behind : (c : After-insert) → AreExtensions c.args.domain.now c.args.differences.now c.args.cell.now (ComesBetween (c.loop-place.place - 1 + 1) (suc (length (order_of c.args.cell.now))) (order_of c.args.cell.now)) c.loop-place.found.items
behind c =
    let cell = c.args.cell.now in
    let here : c.loop-place.place ≡ c.loop-place.place - 1 + 1 = omega (arith, c.loop-place-test.true) in
    subst (λ n. AreExtensions c.args.domain.now c.args.differences.now cell (ComesBetween n (suc (length (order_of cell))) (order_of cell)) c.loop-place.found.items) here c.loop-place.invariant

within : (c : After-insert) → c.loop-place.place - 1 ≤ length (order_of c.args.cell.now)
within c = omega (arith, c.loop-place.auto.place, c.requires.start)

pub loop-place-preserved : goal.loop-place-preserved
loop-place-preserved c =
    let s = (goal.at.loop-place-preserved c).After-insert in
    refuted_below c.args.domain.now c.args.differences.now c.args.cell.now c.requires.cell (c.loop-place.place - 1) (within s) c.loop-place.found.items
    (subst (Answered s) c.in-None.is c.in_ok-inserted.ensures) (behind s)

pub loop-place-preserved-in-Continue-branch-3 : goal.loop-place-preserved-in-Continue-branch-3
loop-place-preserved-in-Continue-branch-3 c =
    let s = (goal.at.loop-place-preserved-in-Continue-branch-3 c).After-insert in
    let cell = c.args.cell.now in
    let items : c.push.new.self.items ≡ c.loop-place.found.items ++ c.in-Some.inserted ∷ [] = c.in_ok-push-in-Some.ensures.items in
    subst (AreExtensions c.args.domain.now c.args.differences.now cell (ComesBetween (c.loop-place.place - 1) (suc (length (order_of cell))) (order_of cell))) (sym items)
    (pushed_below c.args.domain.now c.args.differences.now cell c.requires.cell (c.loop-place.place - 1) (within s) c.loop-place.found.items c.in-Some.inserted
    (subst (Answered s) c.in-Some.is c.in_ok-inserted.ensures) (behind s))

pub returns-then-not-is_empty-clause-cells : goal.returns-then-not-is_empty-clause-cells
returns-then-not-is_empty-clause-cells c =
    let s = (goal.at.returns-then-not-is_empty-clause-cells c).After-insert in
    all_places c.args.domain.now c.args.differences.now c.args.cell.now c.requires.cell c.loop-place.found.items
    (rest_below c.args.domain.now c.args.differences.now c.args.cell.now c.requires.cell (c.loop-place.place - 1) (within s) c.loop-place.found.items
    (omega (arith, not_zero (vec_len c.loop-place.found) c.is_empty.result c.is_empty.ensures c.if-not-is_empty.true)) (subst (Answered s) c.in-None.is c.in_ok-inserted.ensures) (behind s))

pub returns-clause-cells : goal.returns-clause-cells
returns-clause-cells c =
    let cell = c.args.cell.now in
    let end : c.loop-place.place ≡ 0 = omega (arith, c.loop-place-test.false) in
    all_places c.args.domain.now c.args.differences.now cell c.requires.cell c.loop-place.found.items
    (subst (λ (n : ℕ). AreExtensions c.args.domain.now c.args.differences.now cell (ComesBetween n (suc (length (order_of cell))) (order_of cell)) c.loop-place.found.items) end c.loop-place.invariant)
