use Rattle.std.proofs.Common.{refl, sym, ap, ◌∙◌, ◌≡◌, ◌+◌, ℕ, Bor, List, [], cond, map, get_or, subst, arith}
use Rattle.std.specs.Prelude.{ℤ, pos, ◌<ℤ◌, ◌≤ℤ◌}
use Rattle.std.specs.List.{All}
use Rattle.std.proofs.lemmas.Int.{ints}
use Rattle.std.proofs.lemmas.Result.{err_from_is_err_and}
use Rattle.crn_linear.specs.Rows.{IsSmall}
use Rattle.crn_feasible.specs.declared.rows.RowList.{RowList}
use Rattle.crn_feasible.specs.declared.rows.KeptRow.{KeptRow}
use Rattle.crn_feasible.specs.Elimination.{Kept, entry, combined, negatives, take_rows}
use Rattle.crn_feasible.specs.Steps.{Ends, kept_of, list_of, IsList, HasShape, IsKeptRow, IsShort}
use Rattle.crn_feasible.proofs.Exits.{ends_takes}
use Rattle.crn_feasible.proofs.Turns.{Taken, step, stop, done, ends_same, entry_there, above_test, not_above_test, kept_at, small_at}
use Rattle.crn_feasible.proofs.Parts.{pairs_part, pairs_parts, pairs_of, among_rows}
use Rattle.crn_feasible.proofs.rows.take_pairs.Goals.{After-row-item, then-row-v-gt0+in_ok-take_pairs_of, else-row-v-gt0}
use Rattle.crn_feasible.proofs.rows.take_pairs.Goals as goal

abbrev place : After-row-item → ℤ
place c = get_or c.row-item.result.entries c.args.v (pos 0)

row_kept : (c : After-row-item) → IsKeptRow c.args.rest.now.columns c.args.rest.now.sources c.row-item.result
row_kept c = kept_at c.args.rest.now.columns c.args.rest.now.sources c.args.rows.now c.loop-row.row-index c.row-item.result c.requires.rows c.loop-row-test.true c.row-item.is

small : (c : After-row-item) → IsSmall (place c)
small c = small_at c.args.rest.now.columns c.args.rest.now.sources c.args.v c.row-item.result (row_kept c) c.requires.column c.requires.list.few

abbrev now : After-row-item → Kept
now c = kept_of c.args.rest.now.columns c.args.rest.now.sources c.row-item.result

entry_is : (c : After-row-item) → place c ≡ entry c.args.v (now c)
entry_is c = entry_there c.args.rest.now.columns c.args.rest.now.sources c.args.v c.row-item.result c.requires.column

abbrev below : After-row-item → List Kept
below c = negatives c.args.v (map (kept_of c.args.rest.now.columns c.args.rest.now.sources) c.args.rows.now)

abbrev all : After-row-item → List Kept
all c = map (combined c.args.v (now c)) (below c)

gives : (c : After-row-item) → pos 0 <ℤ place c → pairs_part c.args.rest.now.columns c.args.rest.now.sources c.args.v (below c) c.row-item.result ≡ all c
gives c h =
    let high : pos 0 <ℤ entry c.args.v (now c) = subst (λ z. pos 0 <ℤ z) (entry_is c) h in
    ap (λ t. cond t (all c) []) (above_test (entry c.args.v (now c)) high)

gives_none : (c : After-row-item) → place c ≤ℤ pos 0 → pairs_part c.args.rest.now.columns c.args.rest.now.sources c.args.v (below c) c.row-item.result ≡ []
gives_none c h =
    let low : entry c.args.v (now c) ≤ℤ pos 0 = subst (λ z. z ≤ℤ pos 0) (entry_is c) h in
    ap (λ t. cond t (all c) []) (not_above_test (entry c.args.v (now c)) low)

-- what the inner call takes, by the shape of the list as it was
same_pairs : (c : After-row-item) → map (λ r. combined c.args.v (kept_of c.loop-row.rest.columns c.loop-row.rest.sources c.row-item.result) (kept_of c.loop-row.rest.columns c.loop-row.rest.sources r.now)) c.in-Ok.negatives.items ≡ all c
same_pairs c =
    pairs_of (λ r. r.now) c.in-Ok.negatives.items c.args.rows.now c.args.rest.now.columns c.args.rest.now.sources c.args.v c.in-Ok.ensures
    c.loop-row.rest.columns c.loop-row.rest.sources c.row-item.result c.loop-row.invariant.shape.columns_same c.loop-row.invariant.shape.sources_same c.requires.column

same_taken : (c : After-row-item) (refs : List (Bor KeptRow)) → refs ≡ c.in-Ok.negatives.items
    → take_rows (list_of c.loop-row.rest) (map (λ r. combined c.args.v (kept_of c.loop-row.rest.columns c.loop-row.rest.sources c.row-item.result) (kept_of c.loop-row.rest.columns c.loop-row.rest.sources r.now)) refs)
    ≡ take_rows (list_of c.loop-row.rest) (all c)
same_taken c refs e =
    ap (λ (ns : List (Bor KeptRow)). take_rows (list_of c.loop-row.rest) (map (λ r. combined c.args.v (kept_of c.loop-row.rest.columns c.loop-row.rest.sources c.row-item.result) (kept_of c.loop-row.rest.columns c.loop-row.rest.sources r.now)) ns)) e
    ∙ ap (take_rows (list_of c.loop-row.rest)) (same_pairs c)

pub take_pairs_of-requires-clause-rows : goal.take_pairs_of-requires-clause-rows
take_pairs_of-requires-clause-rows c =
    let columns = c.args.rest.now.columns in
    let sources = c.args.rest.now.sources in
    let refs = c.in-Ok.negatives.items in
    let shape = c.loop-row.invariant.shape in
    let Are : ℕ → ℕ → List (Bor KeptRow) → Type 0 = λ k n ns. All (λ r. IsKeptRow k n r.now) ns in
    let are : Are columns sources refs = among_rows (λ r. r.now) refs c.args.rows.now columns sources c.args.v c.in-Ok.ensures (IsKeptRow columns sources) c.requires.rows in
    subst (Are c.loop-row.rest.columns c.loop-row.rest.sources) (sym c.deref.ensures.value)
    (subst (λ k. Are k c.loop-row.rest.sources refs) (sym shape.columns_same) (subst (λ n. Are columns n refs) (sym shape.sources_same) are))

pub returns-in_err-take_pairs_of-clause-taken : goal.returns-in_err-take_pairs_of-clause-taken
returns-in_err-take_pairs_of-clause-taken c =
    let s = (goal.at.returns-in_err-take_pairs_of-clause-taken c).After-row-item in
    let columns = c.args.rest.now.columns in
    let sources = c.args.rest.now.sources in
    let e = c.in_err-take_pairs_of.field-0.0 in
    let t = small s in
    let high : pos 0 <ℤ place s = omega (arith, ints, c.if-row-v-gt0.true, t.size) in
    ends_takes c.from_residual.result e _ c.take_pairs_of.new.rest (err_from_is_err_and c.from_residual.result c.from_residual.ensures.1)
    (subst (λ ks. Ends (take_rows (list_of c.args.rest.now) ks) e) (pairs_parts columns sources c.args.v (below s) c.args.rows.now)
    (stop (list_of c.args.rest.now) (pairs_part columns sources c.args.v (below s)) c.args.rows.now c.loop-row.row-index c.row-item.result (list_of c.loop-row.rest) (all s) e
    c.loop-row-test.true c.row-item.is (gives s high) c.loop-row.invariant.taken
    (ends_same _ _ e (same_taken s c.deref.result.now c.deref.ensures.value) c.in_err-take_pairs_of.ensures.taken)))

pub loop-row-preserved : goal.loop-row-preserved
loop-row-preserved c =
    let s = (goal.at.loop-row-preserved c).After-row-item in
    let columns = c.args.rest.now.columns in
    let sources = c.args.rest.now.sources in
    let v = c.args.v in
    let list = c.loop-row.rest in
    let start = list_of c.args.rest.now in
    let rows = c.args.rows.now in
    let i = c.loop-row.row-index in
    let r = c.row-item.result in
    let shape = c.loop-row.invariant.shape in
    let Kept : RowList → Type 0 = λ l. record { taken : Taken start (pairs_part columns sources v (below s)) rows (i + 1) (list_of l); list : IsList l; shape : HasShape l columns sources } in
    elim c.if-row-v-gt0.branch [
      | then-row-v-gt0+in_ok-take_pairs_of w ↦
          let t = small s in
          let high : pos 0 <ℤ place s = omega (arith, ints, w.if-row-v-gt0.true, t.size) in
          subst Kept (sym w.rest-is)
          (record {
            taken = step start (pairs_part columns sources v (below s)) rows i r (list_of list) (list_of w.take_pairs_of.new.rest) (all s)
                c.loop-row-test.true c.row-item.is (gives s high) c.loop-row.invariant.taken (sym (same_taken s w.deref.result.now w.deref.ensures.value) ∙ w.in_ok-take_pairs_of.ensures.taken);
            list = w.in_ok-take_pairs_of.ensures.list.0;
            shape = record {
              columns_same = w.in_ok-take_pairs_of.ensures.list.1.columns_same ∙ shape.columns_same;
              sources_same = w.in_ok-take_pairs_of.ensures.list.1.sources_same ∙ shape.sources_same;
            };
          })
      | else-row-v-gt0 w ↦
          let t = small s in
          let low : place s ≤ℤ pos 0 = omega (arith, ints, w.if-row-v-gt0.false, t.size) in
          subst Kept (sym w.rest-is)
          (record {
            taken = step start (pairs_part columns sources v (below s)) rows i r (list_of list) (list_of list) [] c.loop-row-test.true c.row-item.is (gives_none s low) c.loop-row.invariant.taken refl;
            list = c.loop-row.invariant.list;
            shape = shape;
          })
    ]

pub returns-clause-taken : goal.returns-clause-taken
returns-clause-taken c =
    let columns = c.args.rest.now.columns in
    let sources = c.args.rest.now.sources in
    let below = negatives c.args.v (map (kept_of columns sources) c.args.rows.now) in
    ap (take_rows (list_of c.args.rest.now)) (sym (pairs_parts columns sources c.args.v below c.args.rows.now))
    ∙ done (list_of c.args.rest.now) (pairs_part columns sources c.args.v below) c.args.rows.now c.loop-row.row-index (list_of c.loop-row.rest) c.loop-row-test.false c.loop-row.invariant.taken

pub take_pairs_of-requires-clause-short_rows : goal.take_pairs_of-requires-clause-short_rows
take_pairs_of-requires-clause-short_rows c = λ t.
    let columns = c.args.rest.now.columns in
    let refs = c.in-Ok.negatives.items in
    let Are : ℕ → List (Bor KeptRow) → Type 0 = λ k ns. All (λ r. IsShort k r.now) ns in
    let are : Are columns refs = among_rows (λ r. r.now) refs c.args.rows.now columns c.args.rest.now.sources c.args.v c.in-Ok.ensures (IsShort columns) (c.are_short-short.ensures t) in
    subst (Are c.loop-row.rest.columns) (sym c.deref.ensures.value) (subst (λ k. Are k refs) (sym c.loop-row.invariant.shape.columns_same) are)

pub take_pairs_of-requires-clause-short_row : goal.take_pairs_of-requires-clause-short_row
take_pairs_of-requires-clause-short_row c = λ t.
    subst (λ k. IsShort k c.row-item.result) (sym c.loop-row.invariant.shape.columns_same)
    (subst (IsShort c.args.rest.now.columns) (sym c.row-item.is) (c.are_short-short.ensures t c.loop-row.row-index c.row-item.result c.loop-row-test.true))
