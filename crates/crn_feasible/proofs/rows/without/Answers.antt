use Rattle.std.proofs.Common.{sym, ap, ap₂, ◌∙◌, ◌≡◌, ℕ, List, [], map}
use Rattle.std.specs.List.{flat_map}
use Rattle.std.proofs.lemmas.Result.{err_from_is_err_and}
use Rattle.crn_feasible.specs.declared.rows.KeptRow.{KeptRow}
use Rattle.crn_feasible.specs.Elimination.{Kept, after, combined, zeros, positives, negatives, without, take_rows}
use Rattle.crn_feasible.specs.Steps.{kept_of, list_of}
use Rattle.crn_feasible.proofs.Exits.{ends_goes}
use Rattle.crn_feasible.proofs.Turns.{take_rows-append, ends_after, ends_same}
use Rattle.crn_feasible.proofs.rows.without.Goals.{After-take_zeros, After-take_pairs}
use Rattle.crn_feasible.proofs.rows.without.Goals as goal

abbrev pairs : ℕ → List Kept → List Kept
pairs v rows = flat_map (λ p. map (combined v p) (negatives v rows)) (positives v rows)

seen_same : (k columns n sources : ℕ) (xs ys : List KeptRow) → k ≡ columns → n ≡ sources → xs ≡ ys → map (kept_of k n) xs ≡ map (kept_of columns sources) ys
seen_same k columns n sources xs ys e f g = ap₂ (λ a b. map (kept_of a b) xs) e f ∙ ap (map (kept_of columns sources)) g

-- what the first call takes
zeros_are : (c : After-take_zeros) → take_rows (list_of c.new-rest.result) (zeros c.args.v (map (kept_of c.new-rest.result.columns c.new-rest.result.sources) c.deref.result.now)) ≡ take_rows [] (zeros c.args.v (list_of c.args.list.now))
zeros_are c =
    ap (λ l. take_rows l (zeros c.args.v (map (kept_of c.new-rest.result.columns c.new-rest.result.sources) c.deref.result.now))) c.new-rest.ensures.empty
    ∙ ap (λ rows. take_rows [] (zeros c.args.v rows)) (seen_same _ _ _ _ _ _ c.new-rest.ensures.shape.columns_same c.new-rest.ensures.shape.sources_same c.deref.ensures.value)

-- and the second
pairs_are : (c : After-take_pairs) →
    take_rows (list_of c.take_zeros.new.rest) (pairs c.args.v (map (kept_of c.take_zeros.new.rest.columns c.take_zeros.new.rest.sources) c.deref-2.result.now)) ≡ take_rows (list_of c.take_zeros.new.rest) (pairs c.args.v (list_of c.args.list.now))
pairs_are c =
    ap (λ rows. take_rows (list_of c.take_zeros.new.rest) (pairs c.args.v rows))
    (seen_same _ _ _ _ _ _ (c.in_ok-take_zeros.ensures.list.1.columns_same ∙ c.new-rest.ensures.shape.columns_same)
    (c.in_ok-take_zeros.ensures.list.1.sources_same ∙ c.new-rest.ensures.shape.sources_same) c.deref-2.ensures.value)

-- all of them
both : (c : After-take_pairs) → take_rows [] (without c.args.v (list_of c.args.list.now)) ≡ take_rows (list_of c.take_zeros.new.rest) (pairs c.args.v (map (kept_of c.take_zeros.new.rest.columns c.take_zeros.new.rest.sources) c.deref-2.result.now))
both c =
    let rows = list_of c.args.list.now in
    take_rows-append [] (zeros c.args.v rows) (pairs c.args.v rows)
    ∙ ap (λ t. after t (λ more. take_rows more (pairs c.args.v rows))) (sym (zeros_are (goal.at.After-take_pairs c).After-take_zeros) ∙ c.in_ok-take_zeros.ensures.taken)
    ∙ sym (pairs_are c)

pub returns-in_err-take_zeros-clause-taken : goal.returns-in_err-take_zeros-clause-taken
returns-in_err-take_zeros-clause-taken c =
    let s = (goal.at.returns-in_err-take_zeros-clause-taken c).After-take_zeros in
    let rows = list_of c.args.list.now in
    let e = c.in_err-take_zeros.field-0.0 in
    ends_goes c.from_residual.result list_of e _ (err_from_is_err_and c.from_residual.result c.from_residual.ensures.1)
    (ends_same _ _ e (sym (take_rows-append [] (zeros c.args.v rows) (pairs c.args.v rows)))
    (ends_after (take_rows [] (zeros c.args.v rows)) (λ more. take_rows more (pairs c.args.v rows)) e (ends_same _ _ e (zeros_are s) c.in_err-take_zeros.ensures.taken)))

pub returns-in_err-take_pairs-clause-taken : goal.returns-in_err-take_pairs-clause-taken
returns-in_err-take_pairs-clause-taken c =
    let s = (goal.at.returns-in_err-take_pairs-clause-taken c).After-take_pairs in
    let e = c.in_err-take_pairs.field-0.0 in
    ends_goes c.from_residual-in_err-take_pairs.result list_of e _ (err_from_is_err_and c.from_residual-in_err-take_pairs.result c.from_residual-in_err-take_pairs.ensures.1)
    (ends_same _ _ e (sym (both s)) c.in_err-take_pairs.ensures.taken)

pub returns-clause-taken : goal.returns-clause-taken
returns-clause-taken c = both (goal.at.returns-clause-taken c).After-take_pairs ∙ c.in_ok-take_pairs.ensures.taken
