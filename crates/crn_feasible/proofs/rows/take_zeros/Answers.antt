use Rattle.std.proofs.Common.{refl, get_or, sym, ◌+◌, ap, ◌∙◌, ◌≡◌, [], ◌∷◌, cond, subst, of_z}
use Rattle.std.specs.Int.{w64}
use Rattle.std.specs.Prelude.{ℤ, pos}
use Rattle.crn_linear.specs.Rows.{IsSmall}
use Rattle.std.proofs.lemmas.Result.{err_from_is_err_and}
use Rattle.crn_feasible.specs.declared.rows.RowList.{RowList}
use Rattle.crn_feasible.specs.Elimination.{Kept, entry, take_rows}
use Rattle.crn_feasible.specs.Steps.{Ends, kept_of, list_of, IsList, HasShape, IsKeptRow}
use Rattle.crn_feasible.proofs.Exits.{ends_takes}
use Rattle.crn_feasible.proofs.Turns.{Taken, step, stop, done, ends_same, entry_there, is_zero_test, not_zero_test, alone_taken, kept_at, small_at, zero_bits}
use Rattle.crn_feasible.proofs.Parts.{zero_part, zero_parts}
use Rattle.crn_feasible.proofs.rows.take_zeros.Goals.{After-row-item, then-row-v-eq0+in_ok-take_mixed, else-row-v-eq0}
use Rattle.crn_feasible.proofs.rows.take_zeros.Goals as goal

abbrev place : After-row-item → ℤ
place c = get_or c.row-item.result.entries c.args.v (pos 0)

row_kept : (c : After-row-item) → IsKeptRow c.args.rest.now.columns c.args.rest.now.sources c.row-item.result
row_kept c = kept_at c.args.rest.now.columns c.args.rest.now.sources c.args.rows.now c.loop-row.row-index c.row-item.result c.requires.rows c.loop-row-test.true c.row-item.is

small : (c : After-row-item) → IsSmall (place c)
small c = small_at c.args.rest.now.columns c.args.rest.now.sources c.args.v c.row-item.result (row_kept c) c.requires.column c.requires.list.few

abbrev now : After-row-item → Kept
now c = kept_of c.args.rest.now.columns c.args.rest.now.sources c.row-item.result

entry_is : (c : After-row-item) → place c ≡ entry c.args.v (now c)
entry_is c = entry_there c.args.rest.now.columns c.args.rest.now.sources c.args.v c.row-item.result c.requires.column

gives : (c : After-row-item) → of_z w64 (place c) ≡ 0 → zero_part c.args.rest.now.columns c.args.rest.now.sources c.args.v c.row-item.result ≡ now c ∷ []
gives c e = ap (λ t. cond t (now c ∷ []) []) (is_zero_test (entry c.args.v (now c)) (sym (entry_is c) ∙ zero_bits (place c) (small c) e))

gives_none : (c : After-row-item) → (of_z w64 (place c) ≡ 0 → ⊥) → zero_part c.args.rest.now.columns c.args.rest.now.sources c.args.v c.row-item.result ≡ []
gives_none c e = ap (λ t. cond t (now c ∷ []) []) (not_zero_test (entry c.args.v (now c)) (λ f. e (ap (of_z w64) (entry_is c ∙ f))))

pub returns-in_err-take_mixed-clause-taken : goal.returns-in_err-take_mixed-clause-taken
returns-in_err-take_mixed-clause-taken c =
    let s = (goal.at.returns-in_err-take_mixed-clause-taken c).After-row-item in
    let columns = c.args.rest.now.columns in
    let sources = c.args.rest.now.sources in
    let list = c.loop-row.rest in
    let e = c.in_err-take_mixed.field-0.0 in
    ends_takes c.from_residual.result e _ c.take_mixed.new.self (err_from_is_err_and c.from_residual.result c.from_residual.ensures.1)
    (subst (λ ks. Ends (take_rows (list_of c.args.rest.now) ks) e) (zero_parts columns sources c.args.v c.args.rows.now)
    (stop (list_of c.args.rest.now) (zero_part columns sources c.args.v) c.args.rows.now c.loop-row.row-index c.row-item.result (list_of list) (now s ∷ []) e
    c.loop-row-test.true c.row-item.is (gives s c.if-row-v-eq0.true) c.loop-row.invariant.taken
    (ends_same _ _ e (alone_taken (list_of list) columns sources list.columns list.sources c.row-item.result c.loop-row.invariant.shape.columns_same c.loop-row.invariant.shape.sources_same)
    c.in_err-take_mixed.ensures.taken)))

pub loop-row-preserved : goal.loop-row-preserved
loop-row-preserved c =
    let s = (goal.at.loop-row-preserved c).After-row-item in
    let columns = c.args.rest.now.columns in
    let sources = c.args.rest.now.sources in
    let list = c.loop-row.rest in
    let start = list_of c.args.rest.now in
    let i = c.loop-row.row-index in
    let r = c.row-item.result in
    let shape = c.loop-row.invariant.shape in
    let Kept : RowList → Type 0 = λ l. record { taken : Taken start (zero_part columns sources c.args.v) c.args.rows.now (i + 1) (list_of l); list : IsList l; shape : HasShape l columns sources } in
    elim c.if-row-v-eq0.branch [
      | then-row-v-eq0+in_ok-take_mixed w ↦
          subst Kept (sym w.rest-is)
          (record {
            taken = step start (zero_part columns sources c.args.v) c.args.rows.now i r (list_of list) (list_of w.take_mixed.new.self) (now s ∷ [])
                c.loop-row-test.true c.row-item.is (gives s w.if-row-v-eq0.true) c.loop-row.invariant.taken
                (sym (alone_taken (list_of list) columns sources list.columns list.sources r shape.columns_same shape.sources_same) ∙ w.in_ok-take_mixed.ensures.taken);
            list = w.in_ok-take_mixed.ensures.list.0;
            shape = record {
              columns_same = w.in_ok-take_mixed.ensures.list.1.columns_same ∙ shape.columns_same;
              sources_same = w.in_ok-take_mixed.ensures.list.1.sources_same ∙ shape.sources_same;
            };
          })
      | else-row-v-eq0 w ↦
          subst Kept (sym w.rest-is)
          (record {
            taken = step start (zero_part columns sources c.args.v) c.args.rows.now i r (list_of list) (list_of list) [] c.loop-row-test.true c.row-item.is (gives_none s w.if-row-v-eq0.false) c.loop-row.invariant.taken refl;
            list = c.loop-row.invariant.list;
            shape = shape;
          })
    ]

pub returns-clause-taken : goal.returns-clause-taken
returns-clause-taken c =
    let columns = c.args.rest.now.columns in
    let sources = c.args.rest.now.sources in
    ap (take_rows (list_of c.args.rest.now)) (sym (zero_parts columns sources c.args.v c.args.rows.now))
    ∙ done (list_of c.args.rest.now) (zero_part columns sources c.args.v) c.args.rows.now c.loop-row.row-index (list_of c.loop-row.rest) c.loop-row-test.false c.loop-row.invariant.taken
