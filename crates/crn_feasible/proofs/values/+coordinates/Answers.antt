use Rattle.std.proofs.Common.{sym, ap, ◌∙◌, ◌≡◌, ◌-◌, List, Result, subst}
use Rattle.std.proofs.lemmas.Result.{err_from_is_err_and}
use Rattle.crn_fraction.specs.Rational.{ℚ}
use Rattle.crn_feasible.specs.declared.values.Values.{Values}
use Rattle.crn_feasible.specs.Elimination.{Stop, after, coordinates, next}
use Rattle.crn_feasible.specs.Steps.{Goes, list_of}
use Rattle.crn_feasible.proofs.Exits.{ends_goes}
use Rattle.crn_feasible.proofs.Turns.{ends_after, ends_same}
use Rattle.crn_feasible.proofs.Nexts.{coordinates-step}
use Rattle.crn_feasible.proofs.values.+coordinates.Goals as goal

pub returns-in_err-values-clause-chosen : goal.returns-in_err-values-clause-chosen
returns-in_err-values-clause-chosen t c =
    let v = c.args.v in
    let rows = list_of c.args.rows.now in
    let rest = list_of c.in_ok-rest.rest in
    let e = c.in_err-values.field-0.0 in
    let is : coordinates v rows ≡ after (coordinates (v - 1) rest) (next (v - 1) rows) =
    coordinates-step v rows c.if-v-eq0.false ∙ ap (λ r. after r (λ more. after (coordinates (v - 1) more) (next (v - 1) rows))) c.in_ok-rest.ensures.taken in
    ends_goes c.from_residual-in_err-values.result (λ (s : Values). s.exact.items) e _ (err_from_is_err_and c.from_residual-in_err-values.result c.from_residual-in_err-values.ensures.1)
    (ends_same _ _ e (sym is) (ends_after (coordinates (v - 1) rest) (next (v - 1) rows) e c.in_err-values.ensures.chosen))

pub returns-clause-chosen : goal.returns-clause-chosen
returns-clause-chosen t c =
    let v = c.args.v in
    let rows = list_of c.args.rows.now in
    let is : coordinates v rows ≡ next (v - 1) rows c.in_ok-values.values.exact.items =
    coordinates-step v rows c.if-v-eq0.false ∙ ap (λ r. after r (λ more. after (coordinates (v - 1) more) (next (v - 1) rows))) c.in_ok-rest.ensures.taken
    ∙ ap (λ r. after r (next (v - 1) rows)) c.in_ok-values.ensures.chosen in
    subst (λ (r : Result (List ℚ) Stop). Goes c.next.result (λ (s : Values). s.exact.items) r) (sym is) c.next.ensures.chosen
