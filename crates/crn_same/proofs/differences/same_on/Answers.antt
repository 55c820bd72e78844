use Rattle.std.proofs.Common.{◌≡◌, ◌∙◌, Err, ap, sym, subst, length}
use Rattle.std.specs.Prelude.{IfErr}
use Rattle.std.specs.List.{All}
use Rattle.std.proofs.lemmas.Result.{err_from_is_err_and}
use Rattle.crn_formula.specs.Pieces.{columns_of}
use Rattle.crn_formula.specs.Views.{plain_of}
use Rattle.crn_normal.specs.Normal.{Sets, neg, sum_of}
use Rattle.crn_same.specs.Answers.{Ends}
use Rattle.crn_same.proofs.Walking.{first_ends, second_ends, true_so, above_so, below_so, none_so, equal_so, difference_over, turned_over}
use Rattle.crn_same.proofs.differences.same_on.Goals as goal

pub returns-in_err-a-clause-refused : goal.returns-in_err-a-clause-refused
returns-in_err-a-clause-refused c =
    let p = err_from_is_err_and c.from_residual.result c.from_residual.ensures.1 in
    subst (λ r. IfErr r (Ends c.args.domain.now (plain_of c.args.first.now) (plain_of c.args.second.now))) (sym (p.1 ∙ ap Err p.2))
    (first_ends c.args.domain.now (plain_of c.args.first.now) (plain_of c.args.second.now) _ c.in_err-a.ensures.refused)

pub returns-in_err-b-clause-refused : goal.returns-in_err-b-clause-refused
returns-in_err-b-clause-refused c =
    let p = err_from_is_err_and c.from_residual-in_err-b.result c.from_residual-in_err-b.ensures.1 in
    subst (λ r. IfErr r (Ends c.args.domain.now (plain_of c.args.first.now) (plain_of c.args.second.now))) (sym (p.1 ∙ ap Err p.2))
    (second_ends c.args.domain.now (plain_of c.args.first.now) (plain_of c.args.second.now) _ c.in_ok-a.ensures.passes c.in_err-b.ensures.refused)

pub not_above-requires-clause-columns : goal.not_above-requires-clause-columns
not_above-requires-clause-columns c =
    subst (λ (p : Sets × Sets). All (All (λ f. length f ≡ columns_of c.args.domain.now)) (sum_of p.0 (neg p.1))) (λ i. (sym c.in_ok-a.ensures.form i, sym c.in_ok-b.ensures.form i))
    (difference_over (columns_of c.args.domain.now) (plain_of c.args.first.now) (plain_of c.args.second.now) c.requires.columns)

pub returns-in_err-not_above-clause-point : goal.returns-in_err-not_above-clause-point
returns-in_err-not_above-clause-point c =
    let p = err_from_is_err_and c.from_residual-in_err-not_above.result c.from_residual-in_err-not_above.ensures.1 in
    true_so c.args.domain.now (plain_of c.args.first.now) (plain_of c.args.second.now) c.from_residual-in_err-not_above.result
    (subst (λ r. IfErr r (Ends c.args.domain.now (plain_of c.args.first.now) (plain_of c.args.second.now))) (sym (p.1 ∙ ap Err p.2))
    (above_so c.args.domain.now (plain_of c.args.first.now) (plain_of c.args.second.now) c.in_ok-a.a c.in_ok-b.b c.in_ok-a.ensures.form c.in_ok-b.ensures.form c.in_ok-a.ensures.passes c.in_ok-b.ensures.passes _ c.in_err-not_above.ensures.refused))

pub returns-in_err-not_above-clause-refused : goal.returns-in_err-not_above-clause-refused
returns-in_err-not_above-clause-refused c =
    let p = err_from_is_err_and c.from_residual-in_err-not_above.result c.from_residual-in_err-not_above.ensures.1 in
    subst (λ r. IfErr r (Ends c.args.domain.now (plain_of c.args.first.now) (plain_of c.args.second.now))) (sym (p.1 ∙ ap Err p.2))
    (above_so c.args.domain.now (plain_of c.args.first.now) (plain_of c.args.second.now) c.in_ok-a.a c.in_ok-b.b c.in_ok-a.ensures.form c.in_ok-b.ensures.form c.in_ok-a.ensures.passes c.in_ok-b.ensures.passes _ c.in_err-not_above.ensures.refused)

pub not_above-requires-2-clause-columns : goal.not_above-requires-2-clause-columns
not_above-requires-2-clause-columns c =
    subst (λ (p : Sets × Sets). All (All (λ f. length f ≡ columns_of c.args.domain.now)) (sum_of p.0 (neg p.1))) (λ i. (sym c.in_ok-b.ensures.form i, sym c.in_ok-a.ensures.form i))
    (difference_over (columns_of c.args.domain.now) (plain_of c.args.second.now) (plain_of c.args.first.now) (turned_over (columns_of c.args.domain.now) (plain_of c.args.first.now) (plain_of c.args.second.now) c.requires.columns))

pub returns-clause-none : goal.returns-clause-none
returns-clause-none c =
    none_so c.args.domain.now (plain_of c.args.first.now) (plain_of c.args.second.now) c.in_ok-a.a c.in_ok-b.b c.in_ok-a.ensures.form c.in_ok-b.ensures.form c.in_ok-a.ensures.passes c.in_ok-b.ensures.passes
    c.in_ok-not_above.ensures.none c.not_above-2.result c.not_above-2.ensures.none

pub returns-clause-equal : goal.returns-clause-equal
returns-clause-equal c = equal_so c.args.domain.now (plain_of c.args.first.now) (plain_of c.args.second.now) c.not_above-2.result (returns-clause-none c)

pub returns-clause-point : goal.returns-clause-point
returns-clause-point c =
    true_so c.args.domain.now (plain_of c.args.first.now) (plain_of c.args.second.now) c.not_above-2.result
    (below_so c.args.domain.now (plain_of c.args.first.now) (plain_of c.args.second.now) c.in_ok-a.a c.in_ok-b.b c.in_ok-a.ensures.form c.in_ok-b.ensures.form c.in_ok-a.ensures.passes c.in_ok-b.ensures.passes
    c.in_ok-not_above.ensures.none c.not_above-2.result c.not_above-2.ensures.refused)

pub returns-clause-refused : goal.returns-clause-refused
returns-clause-refused c =
    below_so c.args.domain.now (plain_of c.args.first.now) (plain_of c.args.second.now) c.in_ok-a.a c.in_ok-b.b c.in_ok-a.ensures.form c.in_ok-b.ensures.form c.in_ok-a.ensures.passes c.in_ok-b.ensures.passes
    c.in_ok-not_above.ensures.none c.not_above-2.result c.not_above-2.ensures.refused
