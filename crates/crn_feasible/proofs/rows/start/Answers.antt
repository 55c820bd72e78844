use Rattle.std.proofs.Common.{refl, sym, ap, ◌∙◌, ◌≡◌, ◌+◌, ◌-◌, ◌<◌, length, get_or, List, [], ◌∷◌, subst, arith}
use Rattle.std.proofs.lemmas.Result.{err_from_is_err_and}
use Rattle.crn_linear.specs.Rows.{Row}
use Rattle.crn_feasible.specs.Elimination.{Kept, started, take_row, take_rows, unit}
use Rattle.crn_feasible.specs.Steps.{Ends, first_row, list_of}
use Rattle.crn_feasible.proofs.Exits.{ends_goes}
use Rattle.crn_feasible.proofs.Turns.{step, stop, done, ends_same, take_single, flat_map-same}
use Rattle.crn_feasible.proofs.Parts.{length-started, started-at}
use Rattle.crn_feasible.proofs.rows.start.Goals.{After-index-rows-i}
use Rattle.crn_feasible.proofs.rows.start.Goals as goal

-- the row of this turn has an entry for each column
columns_are : (c : After-index-rows-i) → length c.index-rows-i.result.entries ≡ c.args.system.now.system.columns
columns_are c =
    let row = c.index-rows-i.result in
    let i = c.loop-i.i in
    let value = c.rows-rows.ensures.value in
    let within : i < length c.args.system.now.system.rows = omega (arith, c.loop-i-test.true, ap (length {A = Row}) value) in
    ap (λ (r : Row). length r.entries) (c.index-rows-i.is ∙ ap (λ (rs : List Row). get_or rs i row) value) ∙ c.rows-rows.ensures.valid.rectangular.lengths i row within

abbrev own : After-index-rows-i → Kept
own c = first_row c.index-rows-i.result c.loop-i.i (length c.rows-rows.result.now)

-- and is the next of those that are taken
item : (c : After-index-rows-i) → own c ≡ get_or (started 0 c.rows-rows.result.now) c.loop-i.i (own c)
item c =
    let i = c.loop-i.i in
    let rows = c.rows-rows.result.now in
    let row = c.index-rows-i.result in
    let place : i ≡ 0 + i = omega arith in
    ap (λ n. record { row = row; multipliers = unit n (length rows - i - 1) }) place
    ∙ sym (started-at 0 rows i row (own c) c.loop-i-test.true c.index-rows-i.is)

below : (c : After-index-rows-i) → c.loop-i.i < length (started 0 c.rows-rows.result.now)
below c = omega (arith, c.loop-i-test.true, length-started 0 c.rows-rows.result.now)

-- what the call takes
taken_is : (c : After-index-rows-i) → take_row (list_of c.loop-i.list) (first_row c.index-rows-i.result c.loop-i.i c.loop-i.list.sources) ≡ take_rows (list_of c.loop-i.list) (own c ∷ [])
taken_is c =
    ap (λ n. take_row (list_of c.loop-i.list) (first_row c.index-rows-i.result c.loop-i.i n)) c.loop-i.invariant.shape.sources_same
    ∙ sym (take_single (list_of c.loop-i.list) (own c))

pub take_own-requires-clause-columns : goal.take_own-requires-clause-columns
take_own-requires-clause-columns c =
    let s = (goal.at.take_own-requires-clause-columns c).After-index-rows-i in
    columns_are s ∙ sym c.loop-i.invariant.shape.columns_same

pub take_own-requires-clause-index : goal.take_own-requires-clause-index
take_own-requires-clause-index c = omega (arith, c.loop-i-test.true, c.loop-i.invariant.shape.sources_same)

pub returns-in_err-take_own-clause-taken : goal.returns-in_err-take_own-clause-taken
returns-in_err-take_own-clause-taken c =
    let s = (goal.at.returns-in_err-take_own-clause-taken c).After-index-rows-i in
    let e = c.in_err-take_own.field-0.0 in
    ends_goes c.from_residual.result list_of e _ (err_from_is_err_and c.from_residual.result c.from_residual.ensures.1)
    (subst (λ ks. Ends (take_rows [] ks) e) (flat_map-same (started 0 c.rows-rows.result.now) ∙ ap (started 0) c.rows-rows.ensures.value)
    (stop [] (λ k. k ∷ []) (started 0 c.rows-rows.result.now) c.loop-i.i (own s) (list_of c.loop-i.list) (own s ∷ []) e (below s) (item s) refl c.loop-i.invariant.taken
    (ends_same _ _ e (taken_is s) c.in_err-take_own.ensures.taken)))

pub loop-i-preserved : goal.loop-i-preserved
loop-i-preserved c =
    let s = (goal.at.loop-i-preserved c).After-index-rows-i in
    let shape = c.loop-i.invariant.shape in
    record {
      taken = step [] (λ k. k ∷ []) (started 0 c.rows-rows.result.now) c.loop-i.i (own s) (list_of c.loop-i.list) (list_of c.take_own.new.self) (own s ∷ []) (below s) (item s) refl c.loop-i.invariant.taken
          (sym (taken_is s) ∙ c.in_ok-take_own.ensures.taken);
      list = c.in_ok-take_own.ensures.list.0;
      shape = record {
        columns_same = c.in_ok-take_own.ensures.list.1.columns_same ∙ shape.columns_same;
        sources_same = c.in_ok-take_own.ensures.list.1.sources_same ∙ shape.sources_same;
      };
    }

pub returns-clause-taken : goal.returns-clause-taken
returns-clause-taken c =
    let rows = c.rows-rows.result.now in
    ap (λ rs. take_rows [] (started 0 rs)) (sym c.rows-rows.ensures.value)
    ∙ ap (take_rows []) (sym (flat_map-same (started 0 rows)))
    ∙ done [] (λ k. k ∷ []) (started 0 rows) c.loop-i.i (list_of c.loop-i.list) (omega (arith, c.loop-i-test.false, length-started 0 rows)) c.loop-i.invariant.taken
