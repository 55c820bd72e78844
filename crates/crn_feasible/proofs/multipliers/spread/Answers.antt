use Rattle.std.proofs.Common.{◌≡◌, ◌++◌, ◌∷◌, ◌∙◌, ◌+◌, ◌-◌, ℕ, refl, [], List, ap, drop, get_or, sym, subst}
use Rattle.std.specs.Prelude.{ℤ, pos}
use Rattle.std.proofs.lemmas.List.Elements.{All-push}
use Rattle.crn_linear.specs.Rows.{IsSmall, AreSmall}
use Rattle.crn_feasible.specs.Sparse.{spread}
use Rattle.crn_feasible.proofs.Turns.{itself}
use Rattle.crn_feasible.proofs.Quotients.{small_zero}
use Rattle.crn_feasible.proofs.Sparse.{spread_taken, spread_skipped, spread_ended}
use Rattle.crn_feasible.proofs.multipliers.spread.Goals.{then-next-multipliers+then-multipliers-next+in_ok-push, else-next-multipliers+in_ok-push-2, else-next-multipliers-via-then-next-multipliers+else-multipliers-next, else-next-multipliers-via-else-next-multipliers}
use Rattle.crn_feasible.proofs.multipliers.spread.Goals as goal

small_push : (all new : List ℤ) (x : ℤ) → new ≡ all ++ x ∷ [] → AreSmall all → IsSmall x → AreSmall new
small_push all new x e are one = subst AreSmall (sym e) (All-push IsSmall all x are one)

pub loop-row-preserved : goal.loop-row-preserved
loop-row-preserved c =
    let ms = c.args.multipliers.now in
    let rows = c.args.rows in
    let row = c.loop-row.row in
    let next = c.loop-row.next in
    let all = c.loop-row.all.items in
    let whole = spread 0 rows ms in
    let d : ℕ × ℤ = (0, pos 0) in
    let Kept : List ℤ → ℕ → Type 0 = λ now k. record { items : now ++ spread (row + 1) (rows - (row + 1)) (drop k ms) ≡ whole; small : AreSmall now } in
    elim c.if-next-multipliers.branch [
      | then-next-multipliers+then-multipliers-next+in_ok-push w ↦
          let m = get_or ms next d in
          let small : IsSmall m.1 = c.requires.small next d w.if-next-multipliers.true in
          let pushed : w.push.new.self.items ≡ all ++ m.1 ∷ [] = w.in_ok-push.ensures.items ∙ ap (λ x. all ++ x ∷ []) (itself m.1 m.1 small refl) in
          subst (λ now. Kept now c.if-next-multipliers.next) (sym (ap (λ v. v.items) w.all-is)) (subst (Kept w.push.new.self.items) (sym w.next-is) (record {
            items = spread_taken row rows next ms d all w.push.new.self.items whole c.loop-row.invariant.items c.loop-row-test.true w.if-next-multipliers.true w.if-multipliers-next.true pushed;
            small = small_push all w.push.new.self.items m.1 pushed c.loop-row.invariant.small small;
          }))
      | else-next-multipliers+in_ok-push-2 w ↦
          let now = w.push-else-next-multipliers.new.self.items in
          let pushed : now ≡ all ++ pos 0 ∷ [] = w.in_ok-push-2.ensures.items in
          let items : now ++ spread (row + 1) (rows - (row + 1)) (drop next ms) ≡ whole =
          elim w.else-next-multipliers.branch [
            | else-next-multipliers-via-then-next-multipliers+else-multipliers-next w' ↦
                spread_skipped row rows next ms d all now whole c.loop-row.invariant.items c.loop-row-test.true w'.if-next-multipliers.true w'.if-multipliers-next.false pushed
            | else-next-multipliers-via-else-next-multipliers w' ↦
                spread_ended row rows next ms d all now whole c.loop-row.invariant.items c.loop-row-test.true w'.if-next-multipliers.false pushed
          ] in
          subst (λ v. Kept v c.if-next-multipliers.next) (sym (ap (λ v. v.items) w.all-is)) (subst (Kept now) (sym w.next-is) (record {
            items = items;
            small = small_push all now (pos 0) pushed c.loop-row.invariant.small small_zero;
          }))
    ]
