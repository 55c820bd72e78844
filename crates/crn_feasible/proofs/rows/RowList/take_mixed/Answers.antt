use Rattle.std.proofs.Common.{true, cond, sym, ap, ap₂, ◌∙◌, ◌≡◌, subst, to_z, of_z}
use Rattle.std.proofs.lemmas.Result.{err_from_is_err_and}
use Rattle.std.specs.Prelude.{ℤ}
use Rattle.std.specs.Int.{w64}
use Rattle.std.proofs.lemmas.Int.{to_z-of_z}
use Rattle.crn_feasible.specs.Elimination.{kept_with, take_row}
use Rattle.crn_feasible.specs.Steps.{Ends, Takes, kept, kept_of, mixed_rows, list_of}
use Rattle.crn_feasible.proofs.Mixed.{combined_ends, combined_taken}
use Rattle.crn_feasible.proofs.Exits.{ends_takes}
use Rattle.crn_feasible.proofs.rows.RowList.take_mixed.Goals.{then-p, else-p}
use Rattle.crn_feasible.proofs.rows.RowList.take_mixed.Goals as goal

pub returns-in_err-entries-clause-taken : goal.returns-in_err-entries-clause-taken
returns-in_err-entries-clause-taken c =
    let columns = c.args.self.now.columns in
    let sources = c.args.self.now.sources in
    let rows = list_of c.args.self.now in
    let p = kept_of columns sources c.args.p.now in
    let n = kept_of columns sources c.args.n.now in
    let s : ℤ = to_z w64 (of_z w64 c.args.a) in
    let t : ℤ = to_z w64 (of_z w64 c.args.b) in
    let e = c.in_err-entries.field-0.0 in
    let ended : Ends (take_row rows (mixed_rows s p t n)) e = combined_ends rows columns sources (mixed_rows s p t n) c.combine.new.buffers.divided.items e c.in_err-entries.ensures in
    ends_takes c.from_residual.result e _ c.args.self.now (err_from_is_err_and c.from_residual.result c.from_residual.ensures.1)
    (subst (λ x. Ends (take_row rows (mixed_rows x p c.args.b n)) e) (to_z-of_z w64 c.args.a c.ranges.a)
    (subst (λ y. Ends (take_row rows (mixed_rows s p y n)) e) (to_z-of_z w64 c.args.b c.ranges.b) ended))

pub returns-clause-taken : goal.returns-clause-taken
returns-clause-taken c =
    let columns = c.args.self.now.columns in
    let sources = c.args.self.now.sources in
    let rows = list_of c.args.self.now in
    let p = kept_of columns sources c.args.p.now in
    let n = kept_of columns sources c.args.n.now in
    let s : ℤ = to_z w64 (of_z w64 c.args.a) in
    let t : ℤ = to_z w64 (of_z w64 c.args.b) in
    let strict : c.if-p.take ≡ cond c.args.p.now.strict true c.args.n.now.strict =
    elim c.if-p.branch [
      | then-p w ↦ w.take-is ∙ w.if-p.true ∙ ap (λ s. cond s true c.args.n.now.strict) (sym w.if-p.true)
      | else-p w ↦ w.take-is ∙ ap (λ s. cond s true c.args.n.now.strict) (sym w.if-p.false)
    ] in
    subst (λ t. Takes c.take.result t c.take.new.self)
    (ap (λ ms. kept_with rows (kept columns sources c.in_ok-entries.entries ms c.if-p.take)) c.deref.ensures.value
    ∙ combined_taken rows columns sources (mixed_rows s p t n) c.combine.new.buffers.divided.items c.in_ok-entries.entries c.if-p.take strict c.in_ok-entries.ensures.0
    ∙ ap₂ (λ x y. take_row rows (mixed_rows x p y n)) (to_z-of_z w64 c.args.a c.ranges.a) (to_z-of_z w64 c.args.b c.ranges.b))
    c.take.ensures.taken
