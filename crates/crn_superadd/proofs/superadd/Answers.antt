use Rattle.std.proofs.Common.{sym, ap, ap₂, ◌∙◌, ◌≡◌, ◌<◌, ◌≤◌, ℕ, List, length, subst}
use Rattle.std.specs.Prelude.{All, Any}
use Rattle.crn_fraction.specs.Rational.{ℚ, 0ℚ, ◌<ℚ◌}
use Rattle.crn_linear.specs.Forms.{entry_of}
use Rattle.crn_formula.specs.Domains.{unit}
use Rattle.crn_maxmin.specs.Marked.{numbered_forms}
use Rattle.crn_superadd.specs.Superadditive.{NoneBelow, used_forms}
use Rattle.crn_superadd.specs.Views.{cells_of}
use Rattle.crn_pieces.specs.Views.{pieces_in}
use Rattle.crn_maxmin.proofs.Prepared.{long_pieces}
use Rattle.crn_superadd.proofs.Answering.{few_marked, columns_on, none_below, used_long, negative, used_serve}
use Rattle.crn_superadd.proofs.superadd.Goals as goal

pub refutation-requires-clause-few : goal.refutation-requires-clause-few
refutation-requires-clause-few c =
    let few = c.variables-columns.ensures.rule.fitting.few in
    subst (λ (n : ℕ). n ≤ 8) (ap (λ f. f.variables) c.function.ensures.value ∙ sym (columns_on c.args.checked.now.domain c.args.checked.now.variables c.requires)) few

pub first_negative-requires : goal.first_negative-requires
first_negative-requires c =
    let D = c.args.checked.now.domain in
    let P = pieces_in c.args.checked.now in
    let cells = cells_of c.in_ok-cells.cells.items in
    let r = c.forms.ensures.checked in
    let same : c.as_slice-3.result.now ≡ used_forms (numbered_forms P) cells =
    c.as_slice-3.ensures.value ∙ c.in_ok-used.ensures ∙ ap₂ used_forms c.forms.ensures.value (ap cells_of c.as_slice-2.ensures.value) in
    let columns : length D.inside ≡ c.variables-columns.result = sym (c.variables-columns.ensures.value ∙ ap (λ f. f.variables) c.function.ensures.value ∙ sym (columns_on D c.args.checked.now.variables c.requires)) in
    subst (λ (n : ℕ). All (λ f. length f ≡ n) c.as_slice-3.result.now) columns
    (subst (All (λ (f : List ℚ). length f ≡ length D.inside)) (sym same) (used_long D P cells r.is_domain (long_pieces D P r.long) r.covers r.agree c.in_ok-cells.ensures.cells (few_marked c.in_ok-cells.cells.items c.in_ok-cells.ensures.few)))

pub returns-in-Some-first_negative-clause-refusal : goal.returns-in-Some-first_negative-clause-refusal
returns-in-Some-first_negative-clause-refusal c =
    let D = c.args.checked.now.domain in
    let P = pieces_in c.args.checked.now in
    let cells = cells_of c.in_ok-cells.cells.items in
    let r = c.forms.ensures.checked in
    let same : c.as_slice-3.result.now ≡ used_forms (numbered_forms P) cells =
    c.as_slice-3.ensures.value ∙ c.in_ok-used.ensures ∙ ap₂ used_forms c.forms.ensures.value (ap cells_of c.as_slice-2.ensures.value) in
    let columns : c.variables-columns.result ≡ length D.inside = c.variables-columns.ensures.value ∙ ap (λ f. f.variables) c.function.ensures.value ∙ sym (columns_on D c.args.checked.now.variables c.requires) in
    let none : NoneBelow cells = subst NoneBelow (ap cells_of c.as_slice.ensures.value) (none_below (cells_of c.as_slice.result.now) c.in_default.ensures) in
    let found = c.in-Some-first_negative.ensures in
    let i = c.in-Some-first_negative.index in
    negative D P cells r.is_domain (long_pieces D P r.long) r.covers r.agree c.in_ok-cells.ensures.cells (few_marked c.in_ok-cells.cells.items c.in_ok-cells.ensures.few) c.args.checked.now.variables c.requires none i
    (subst (λ n. i < n) columns found.0)
    (subst (Any (λ f. entry_of f i <ℚ 0ℚ)) same found.1)
    (λ j l a. found.2 j l (subst (Any (λ f. entry_of f j <ℚ 0ℚ)) (sym same) a))
    c.unit_point-point.result
    (c.unit_point-point.ensures ∙ ap (λ n. unit n i) columns)

pub returns-clause-forms : goal.returns-clause-forms
returns-clause-forms c =
    let D = c.args.checked.now.domain in
    let P = pieces_in c.args.checked.now in
    let cells = cells_of c.in_ok-cells.cells.items in
    let r = c.forms.ensures.checked in
    let same : c.as_slice-3.result.now ≡ used_forms (numbered_forms P) cells =
    c.as_slice-3.ensures.value ∙ c.in_ok-used.ensures ∙ ap₂ used_forms c.forms.ensures.value (ap cells_of c.as_slice-2.ensures.value) in
    let columns : c.variables-columns.result ≡ length D.inside = c.variables-columns.ensures.value ∙ ap (λ f. f.variables) c.function.ensures.value ∙ sym (columns_on D c.args.checked.now.variables c.requires) in
    let none : NoneBelow cells = subst NoneBelow (ap cells_of c.as_slice.ensures.value) (none_below (cells_of c.as_slice.result.now) c.in_default.ensures) in
    used_serve D P cells r.is_domain (long_pieces D P r.long) r.covers r.agree c.in_ok-cells.ensures.cells (few_marked c.in_ok-cells.cells.items c.in_ok-cells.ensures.few) c.args.checked.now.variables c.requires none
    r.prepared.few
    (λ i l a. c.in_default-first_negative.ensures i (subst (λ n. i < n) (sym columns) l) (subst (Any (λ f. entry_of f i <ℚ 0ℚ)) (sym same) a))
    c.in_ok-used.used.items
    (sym c.as_slice-3.ensures.value ∙ same)
