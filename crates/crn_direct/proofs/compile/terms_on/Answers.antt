use Rattle.std.proofs.Common.{◌+◌, sym, ap, ◌∙◌, arith}
use Rattle.std.proofs.lemmas.Bool.{false≢true}
use Rattle.std.specs.Vec.Iter.{into_iter_items}
use Rattle.crn_direct.proofs.Loops.{left_as, terms_step, terms_stay, terms_end, copy_left}
use Rattle.crn_direct.proofs.compile.terms_on.Goals as goal
use Rattle.crn_direct.proofs.compile.terms_on.Goals.{then-not-is_zero+in-Some+in_ok-push-in-Some, else-not-is_zero}

pub unreachable-requires : goal.unreachable-requires
unreachable-requires c =
    copy_left c.args.form.now c.loop-column.column c.coeff-coeff.result (omega arith) c.coeff-coeff.ensures (into_iter_items c.loop-column.copies)
    (λ e. false≢true (sym c.if-not-is_zero.true ∙ c.is_zero.ensures.1 e)) c.loop-column.invariant.enough (omega (arith, c.loop-column.copies.rest.ok.0, c.in-None.ensures.cases.0))

pub returns-clause-terms : goal.returns-clause-terms
returns-clause-terms c = (terms_end c.args.form.now c.loop-column.column _ _ _ _ (omega arith) c.loop-column.invariant).0

pub returns-clause-rest : goal.returns-clause-rest
returns-clause-rest c = (terms_end c.args.form.now c.loop-column.column _ _ _ _ (omega arith) c.loop-column.invariant).1

pub loop-column-preserved : goal.loop-column-preserved
loop-column-preserved c =
    elim c.if-not-is_zero.branch [
      | then-not-is_zero+in-Some+in_ok-push-in-Some w ↦
          left_as c.args.form.now (c.loop-column.column + 1) w.push.new.self.items _ _ (into_iter_items w.next.new.self) _ _ (ap (λ v. v.items) w.terms-is) (ap (λ v. v.rest.items) w.copies-is)
          (terms_step c.args.form.now c.loop-column.column c.coeff-coeff.result (omega arith) c.coeff-coeff.ensures c.loop-column.terms.items _ (into_iter_items c.loop-column.copies) _ c.loop-column.invariant
          w.in-Some.copy w.push.new.self.items (into_iter_items w.next.new.self) (λ e. false≢true (sym w.if-not-is_zero.true ∙ c.is_zero.ensures.1 e)) w.in-Some.ensures.items w.in_ok-push-in-Some.ensures.items)
      | else-not-is_zero w ↦
          left_as c.args.form.now (c.loop-column.column + 1) c.loop-column.terms.items _ _ (into_iter_items c.loop-column.copies) _ _ (ap (λ v. v.items) w.terms-is) (ap (λ v. v.rest.items) w.copies-is)
          (terms_stay c.args.form.now c.loop-column.column c.coeff-coeff.result (omega arith) c.coeff-coeff.ensures c.loop-column.terms.items _ (into_iter_items c.loop-column.copies) _ c.loop-column.invariant
          (c.is_zero.ensures.0 w.if-not-is_zero.false))
    ]
