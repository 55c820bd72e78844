use Rattle.std.proofs.Common.{sym, ap, ◌∙◌, arith, ◌++◌, ◌+◌, drop}
use Rattle.std.proofs.lemmas.Bool.{false≢true}
use Rattle.crn_direct.specs.Layout.{variables_from}
use Rattle.crn_direct.proofs.Loops.{variables_step, variables_stay, variables_end}
use Rattle.crn_direct.proofs.compile.push_variables.Goals as goal
use Rattle.crn_direct.proofs.compile.push_variables.Goals.{then-not-is_zero+in_ok-push, else-not-is_zero}

pub loop-column-preserved : goal.loop-column-preserved
loop-column-preserved c =
    elim c.if-not-is_zero.branch [
      | then-not-is_zero+in_ok-push w ↦
          ap (λ v. v.items ++ variables_from (c.loop-column.column + 1 + 1) (drop (c.loop-column.column + 1) c.args.form.now)) w.uses-is
          ∙ variables_step c.args.form.now c.loop-column.column c.coeff.result (omega arith) c.coeff.ensures c.loop-column.uses.items w.push.new.self.items _
          (λ e. false≢true (sym w.if-not-is_zero.true ∙ c.is_zero.ensures.1 e)) w.in_ok-push.ensures.items c.loop-column.invariant
      | else-not-is_zero w ↦
          ap (λ v. v.items ++ variables_from (c.loop-column.column + 1 + 1) (drop (c.loop-column.column + 1) c.args.form.now)) w.uses-is
          ∙ variables_stay c.args.form.now c.loop-column.column c.coeff.result (omega arith) c.coeff.ensures c.loop-column.uses.items _ (c.is_zero.ensures.0 w.if-not-is_zero.false) c.loop-column.invariant
    ]

pub returns : goal.returns
returns c = variables_end c.args.form.now c.loop-column.column _ c.loop-column.uses.items _ (omega arith) c.loop-column.invariant
