use Rattle.std.proofs.Common.{◌≡◌, ◌≤◌, suc, ◌+◌, ◌++◌, ◌∷◌, [], List, length, sym, subst, arith}
use Rattle.std.specs.Prelude.{Option, MatchOption, vec_len}
use Rattle.crn_cells.specs.Cells.{IsMet}
use Rattle.crn_cells.specs.Insertion.{put_in, ComesBetween}
use Rattle.crn_cells.specs.Answers.{order_of, IsInserted, AreExtensions}
use Rattle.crn_cells.specs.declared.Cell.{Cell}
use Rattle.crn_cells.proofs.Extensions.{not_zero, refuted_above, pushed_above, rest_above}
use Rattle.crn_cells.proofs.places.insert_upward.Goals as goal
use Rattle.crn_cells.proofs.places.insert_upward.Goals.{in-Some+in_ok-push-in-Some, in-None+else-not-is_empty}

pub loop-place-preserved : goal.loop-place-preserved
loop-place-preserved c =
    let D = c.args.domain.now in
    let F = c.args.differences.now in
    let cell = c.args.cell.now in
    let m = length (order_of cell) in
    let place = c.loop-place.place in
    let Answered : Option Cell → Type 0 = λ o. MatchOption o (¬ IsMet D F (suc m) (put_in place m (order_of cell))) (IsInserted D F m place cell) in
    let Found : List Cell → Type 0 = AreExtensions D F cell (ComesBetween c.args.start (place + 1) (order_of cell)) in
    let old = c.loop-place.found.items in
    elim c.match-branch-2.branch [
      | in-Some+in_ok-push-in-Some w ↦
          let h : IsInserted D F m place cell w.in-Some.inserted = subst Answered w.in-Some.is c.in_ok-inserted.ensures in
          let items : w.push.new.self.items ≡ old ++ w.in-Some.inserted ∷ [] = w.in_ok-push-in-Some.ensures.items in
          let last : place ≤ m = omega (arith, c.loop-place-test.true, c.len-place-end.ensures) in
          subst (λ v. Found v.items) (sym w.found-is)
          (subst Found (sym items) (pushed_above D F cell c.requires.cell c.args.start place c.loop-place.auto.place last old w.in-Some.inserted h c.loop-place.invariant))
      | in-None+else-not-is_empty w ↦
          subst (λ v. Found v.items) (sym w.found-is)
          (refuted_above D F cell c.requires.cell c.args.start place c.loop-place.auto.place old (subst Answered w.in-None.is c.in_ok-inserted.ensures) c.loop-place.invariant)
    ]

pub returns-then-not-is_empty-clause-cells : goal.returns-then-not-is_empty-clause-cells
returns-then-not-is_empty-clause-cells c =
    let D = c.args.domain.now in
    let F = c.args.differences.now in
    let cell = c.args.cell.now in
    let m = length (order_of cell) in
    let place = c.loop-place.place in
    let Answered : Option Cell → Type 0 = λ o. MatchOption o (¬ IsMet D F (suc m) (put_in place m (order_of cell))) (IsInserted D F m place cell) in
    rest_above D F cell c.requires.cell c.args.start place (omega (arith, c.loop-place-test.true, c.len-place-end.ensures)) c.loop-place.found.items
    (omega (arith, not_zero (vec_len c.loop-place.found) c.is_empty.result c.is_empty.ensures c.if-not-is_empty.true)) (subst Answered c.in-None.is c.in_ok-inserted.ensures) c.loop-place.invariant

pub returns-clause-cells : goal.returns-clause-cells
returns-clause-cells c =
    let cell = c.args.cell.now in
    let end : c.loop-place.place ≡ suc (length (order_of cell)) = omega (arith, c.loop-place-test.false, c.loop-place.auto.place-end, c.len-place-end.ensures, c.requires.start) in
    subst (λ n. AreExtensions c.args.domain.now c.args.differences.now cell (ComesBetween c.args.start n (order_of cell)) c.loop-place.found.items) end c.loop-place.invariant
