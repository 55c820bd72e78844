use Rattle.std.proofs.Common.{sym, ap, ◌∙◌, arith}
use Rattle.std.proofs.lemmas.Bool.{false≢true}
use Rattle.crn_dual.proofs.Loops.{uses_step, uses_stay}
use Rattle.crn_dual.proofs.compile.push_form.Goals as goal
use Rattle.crn_dual.proofs.compile.push_form.Goals.{then-not-is_zero+in_ok-push, else-not-is_zero}

pub loop-column-preserved : goal.loop-column-preserved
loop-column-preserved c =
    elim c.if-not-is_zero.branch [
      | then-not-is_zero+in_ok-push w ↦
          ap (λ v. v.items) w.uses-is
          ∙ uses_step c.args.variables c.args.form.now c.loop-column.column c.coeff.result c.args.uses.now.items c.loop-column.uses.items w.push.new.self.items w.use_of.result
          (omega arith) c.coeff.ensures (λ e. false≢true (sym w.if-not-is_zero.true ∙ c.is_zero.ensures.1 e)) w.use_of.ensures c.loop-column.invariant w.in_ok-push.ensures.items
      | else-not-is_zero w ↦
          ap (λ v. v.items) w.uses-is
          ∙ uses_stay c.args.variables c.args.form.now c.loop-column.column c.coeff.result c.args.uses.now.items c.loop-column.uses.items
          (omega arith) c.coeff.ensures (c.is_zero.ensures.0 w.if-not-is_zero.false) c.loop-column.invariant
    ]
