use Rattle.std.proofs.Common.{◌*◌, ◌∙◌, ap, ap₂, sym, subst, length}
use Rattle.crn_formula.specs.Domains.{domain_for}
use Rattle.crn_formula.specs.Functions.{ByFormula, IsFitting}
use Rattle.crn_formula.specs.Views.{kind_of}
use Rattle.crn_job.specs.Grammar.{amounts_of, rails_of}
use Rattle.crn_net.specs.Network.{AreNotNegative}
use Rattle.crn_bulk.proofs.BulkLaws.{bulk_fits, formula_is, amounts_are, job_is, amounts_not_negative}
use Rattle.crn_bulk.proofs.bulk_job.Goals as goal

pub of-requires : goal.of-requires
of-requires c =
    let whole = formula_is c.args.size c.in_ok-forms.z c.as_slice.result.now (c.as_slice.ensures.value ∙ c.in_ok-forms.ensures.forms) c.in_ok-forms.ensures.number in
    subst (λ e. IsFitting 4 (ByFormula e)) (sym (c.in_ok-formula.ensures.formula ∙ ap (λ d. d.made) whole)) (bulk_fits c.args.size c.requires.some c.requires.few)

pub returns-clause-job : goal.returns-clause-job
returns-clause-job c =
    let whole = formula_is c.args.size c.in_ok-forms.z c.as_slice.result.now (c.as_slice.ensures.value ∙ c.in_ok-forms.ensures.forms) c.in_ok-forms.ensures.number in
    let given = amounts_are c.args.size c.in_ok-formula.z (c.in_ok-formula.ensures.number ∙ ap (λ d. d.number) whole) in
    job_is c.args.size _ _ _ _ c.of.ensures.variables
    (ap kind_of c.of.ensures.kind ∙ ap ByFormula (c.in_ok-formula.ensures.formula ∙ ap (λ d. d.made) whole))
    (c.in_ok-amounts.ensures.amounts ∙ ap (λ d. d.made) given) c.new.ensures.items

pub returns-clause-number : goal.returns-clause-number
returns-clause-number c =
    let whole = formula_is c.args.size c.in_ok-forms.z c.as_slice.result.now (c.as_slice.ensures.value ∙ c.in_ok-forms.ensures.forms) c.in_ok-forms.ensures.number in
    let given = amounts_are c.args.size c.in_ok-formula.z (c.in_ok-formula.ensures.number ∙ ap (λ d. d.number) whole) in
    c.in_ok-amounts.ensures.number ∙ ap (λ d. d.number) given

pub returns-clause-domain : goal.returns-clause-domain
returns-clause-domain c = c.of.ensures.domain ∙ ap₂ domain_for (sym c.of.ensures.variables) (ap kind_of (sym c.of.ensures.kind))

pub returns-clause-amounts : goal.returns-clause-amounts
returns-clause-amounts c = (
  ap length c.in_ok-amounts.ensures.amounts ∙ sym (ap₂ (λ k kind. k * amounts_of (rails_of kind)) c.of.ensures.variables (ap kind_of c.of.ensures.kind)),
  subst AreNotNegative (sym c.in_ok-amounts.ensures.amounts) (amounts_not_negative 4 c.in_ok-formula.z),
)
