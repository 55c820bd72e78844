use Rattle.std.proofs.Common.{◌≡◌, ⊎_elim, refl, rules, append_assoc}
use Rattle.std.proofs.lemmas.Result.{IfOk-equal}
use Rattle.crn_token.proofs.Joins.{spelled-append}
use Rattle.crn_formula.specs.Views.{plain_of}
use Rattle.crn_form_text.specs.Printing.{formula_items, call_items}
use Rattle.crn_form_text.specs.Written.{word_of}
use Rattle.crn_form_text.proofs.print.+print_formula.Goals as goal

pub returns-in_ok-print_formula-in-Scale-clause-text :
    goal.returns-in_ok-print_formula-in-Scale-clause-text
returns-in_ok-print_formula-in-Scale-clause-text t c = search (rules, IfOk-equal, append_assoc, spelled-append)

pub returns-in_ok-print_formula-in-Add-2-clause-text :
    goal.returns-in_ok-print_formula-in-Add-2-clause-text
returns-in_ok-print_formula-in-Add-2-clause-text t c =
    let k = c.args.variables in
    let items : formula_items k (plain_of c.args.formula.now) ≡ call_items (word_of (plain_of c.args.formula.now)) (formula_items k (plain_of c.in-Add.a.value)) (formula_items k (plain_of c.in-Add.b.value)) =
    ⊎_elim (λ is. rw is refl) (⊎_elim (λ is. rw is refl) (⊎_elim (λ is. rw is refl) (λ is. rw is refl))) c.in-Add.is in
    rw items (search (rules, IfOk-equal, append_assoc, spelled-append))
