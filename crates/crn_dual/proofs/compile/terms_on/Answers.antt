use Rattle.std.proofs.Common.{sym, ap, ◌∙◌, arith}
use Rattle.std.proofs.lemmas.Bool.{false≢true}
use Rattle.std.specs.Vec.Iter.{into_iter_items}
use Rattle.crn_dual.proofs.Loops.{terms_step, terms_stay, copy_left}
use Rattle.crn_dual.proofs.compile.terms_on.Goals as goal
use Rattle.crn_dual.proofs.compile.terms_on.Goals.{then-not-is_zero+in-Some+in_ok-push-in-Some, else-not-is_zero}

pub unreachable-requires : goal.unreachable-requires
unreachable-requires c =
    copy_left c.args.form.now c.loop-column.column c.coeff-coeff.result (into_iter_items c.args.copies.now) (into_iter_items c.loop-column.copies) (omega arith) c.coeff-coeff.ensures
    (λ e. false≢true (sym c.if-not-is_zero.true ∙ c.is_zero.ensures.1 e)) c.requires c.loop-column.invariant.1 (omega (arith, c.loop-column.copies.rest.ok.0, c.in-None.ensures.cases.0))

pub loop-column-preserved : goal.loop-column-preserved
loop-column-preserved c =
    elim c.if-not-is_zero.branch [
      | then-not-is_zero+in-Some+in_ok-push-in-Some w ↦
          let h = terms_step c.args.form.now c.loop-column.column c.coeff-coeff.result (into_iter_items c.args.copies.now) (into_iter_items c.loop-column.copies) (into_iter_items w.next.new.self)
          c.loop-column.terms.items w.push.new.self.items w.in-Some.copy (omega arith) c.coeff-coeff.ensures (λ e. false≢true (sym w.if-not-is_zero.true ∙ c.is_zero.ensures.1 e))
          c.loop-column.invariant.0 c.loop-column.invariant.1 w.in-Some.ensures.items w.in_ok-push-in-Some.ensures.items in
          (ap (λ v. v.items) w.terms-is ∙ h.0, ap (λ v. v.rest.items) w.copies-is ∙ h.1)
      | else-not-is_zero w ↦
          let h = terms_stay c.args.form.now c.loop-column.column c.coeff-coeff.result (into_iter_items c.args.copies.now) (into_iter_items c.loop-column.copies) c.loop-column.terms.items
          (omega arith) c.coeff-coeff.ensures (c.is_zero.ensures.0 w.if-not-is_zero.false) c.loop-column.invariant.0 c.loop-column.invariant.1 in
          (ap (λ v. v.items) w.terms-is ∙ h.0, ap (λ v. v.rest.items) w.copies-is ∙ h.1)
    ]
