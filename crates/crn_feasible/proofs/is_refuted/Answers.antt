use Rattle.std.proofs.Common.{arith, ℕ, ◌<◌, true, false, List, length, sym, ap, subst, ◌∙◌, ◌≡◌, ◌≤◌, ◌^◌}
use Rattle.std.specs.Prelude.{IsTrue, nat_le}
use Rattle.std.proofs.lemmas.Bool.Decides.{nat_tests}
use Rattle.crn_linear.specs.Rows.{Row}
use Rattle.crn_farkas.specs.Systems.{IsWholePoint}
use Rattle.crn_feasible.specs.Elimination.{AreWithin}
use Rattle.crn_feasible.specs.Answers.{IsRefuted}
use Rattle.crn_feasible.proofs.Refuted.{refuted_short, refuted_excludes}
use Rattle.crn_feasible.proofs.is_refuted.Goals.{then-rows-le-MANY_ROWS, else-rows-le-MANY_ROWS, After-excludes_points}
use Rattle.crn_feasible.proofs.is_refuted.Goals as goal

wrong : {P : Type 0} → false ≡ true → P
wrong e = cc

past : (n : ℕ) → 128 < n → nat_le n 128 ≡ false
past n h = grind (arith, nat_tests)

refuted_so : (c : After-excludes_points) → IsTrue c.excludes_points.result → IsRefuted c.args.system.now.system
refuted_so c t =
    let s = c.args.system.now.system in
    let value = c.rows-rows.ensures.value in
    elim c.if-rows-le-MANY_ROWS.branch [
      | then-rows-le-MANY_ROWS w ↦
          let short : AreWithin (2 ^ 14) s = subst (λ (rs : List Row). AreWithin (2 ^ 14) (record { columns = s.columns; rows = rs })) value (w.are_short.ensures (sym w.value-is ∙ c.if-are_short.true)) in
          let few : length s.rows ≤ 128 = omega (arith, w.if-rows-le-MANY_ROWS.true, ap (length {A = Row}) value) in
          refuted_short s c.columns.ensures.valid.rectangular (sym c.columns.ensures.value ∙ c.if-columns-ne2.false) few short
          (λ p met. c.excludes_points.ensures t p (subst (λ (rs : List Row). IsWholePoint (record { columns = s.columns; rows = rs }) p) (sym value) met))
      | else-rows-le-MANY_ROWS w ↦ wrong (sym (past (length c.rows-rows.result.now) w.if-rows-le-MANY_ROWS.false) ∙ sym w.value-is ∙ c.if-are_short.true)
    ]

pub returns-then-are_short-clause-own : goal.returns-then-are_short-clause-own
returns-then-are_short-clause-own c = λ t. refuted_so (goal.at.returns-then-are_short-clause-own c).After-excludes_points t

pub returns-then-are_short-clause-excludes : goal.returns-then-are_short-clause-excludes
returns-then-are_short-clause-excludes c = λ t.
    refuted_excludes c.args.system.now.system c.columns.ensures.valid.rectangular (refuted_so (goal.at.returns-then-are_short-clause-excludes c).After-excludes_points t)
