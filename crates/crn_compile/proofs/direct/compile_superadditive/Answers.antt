use Rattle.std.proofs.Common.{◌≡◌, ◌∙◌, List, length, sym, ap, arith, subst}
use Rattle.std.specs.Prelude.{All}
use Rattle.crn_fraction.specs.Rational.{ℚ}
use Rattle.crn_formula.specs.Domains.{orthant}
use Rattle.crn_formula.specs.Views.{Function, kind_of}
use Rattle.crn_direct.specs.Layout.{column_count, direct_layout}
use Rattle.crn_pieces.specs.Answers.{AreChecked}
use Rattle.crn_pieces.specs.Views.{pieces_in}
use Rattle.crn_superadd.specs.Answers.{AreUsedForms}
use Rattle.crn_compile.specs.DirectNetworks.{IsDirectNetworkOf}
use Rattle.crn_compile.proofs.DirectNetworks.{over_variables, columns_are, computes}
use Rattle.crn_compile.proofs.direct.compile_superadditive.Goals as goal
use Rattle.crn_compile.proofs.direct.compile_superadditive.Goals.{After-deref}

on_orthant : (c : After-deref) → c.in_ok-checked.checked ≡ record c.args.function { domain = orthant c.args.function.variables }
on_orthant c = c.in_ok-checked.ensures ∙ c.on_orthant.ensures

used : (c : After-deref) → AreUsedForms (orthant c.args.function.variables) (pieces_in c.args.function) c.deref.result.now
used c =
    subst (AreUsedForms (orthant c.args.function.variables) (pieces_in c.args.function)) (sym c.deref.ensures.value)
    (subst (λ (g : Function). AreUsedForms g.domain (pieces_in g) c.in_ok-forms.forms.items) (on_orthant c) c.in_ok-forms.ensures.forms)

columns : (c : After-deref) → column_count c.deref.result.now ≡ c.args.function.variables
columns c = columns_are c.args.function.variables (pieces_in c.args.function) c.deref.result.now (used c)

pub compile_direct-requires-clause-few : goal.compile_direct-requires-clause-few
compile_direct-requires-clause-few c =
    let few = c.variables-variables.ensures.rule.fitting.few in
    let same = columns (goal.at.compile_direct-requires-clause-few c).After-deref in
    omega (arith, few, same)

pub compile_direct-requires-clause-columns : goal.compile_direct-requires-clause-columns
compile_direct-requires-clause-columns c =
    let at = (goal.at.compile_direct-requires-clause-columns c).After-deref in
    subst (λ n. All (λ (f : List ℚ). length f ≡ n) c.deref.result.now) (sym (columns at)) (over_variables c.args.function.variables (pieces_in c.args.function) c.deref.result.now (used at))

pub returns-clause-network : goal.returns-clause-network
returns-clause-network c =
    let at = (goal.at.returns-clause-network c).After-deref in
    record {
      checked = subst (λ (g : Function). AreChecked g.domain (pieces_in g)) (c.checked.view_is ∙ on_orthant at) c.checked.invariant.checked;
      forms = c.deref.result.now;
      used = used at;
      is_layout = c.in_ok-compile_direct.ensures.layout ∙ ap (λ k. direct_layout k c.deref.result.now) (columns at);
    }

pub returns-clause-computes : goal.returns-clause-computes
returns-clause-computes c =
    let at = (goal.at.returns-clause-computes c).After-deref in
    let f = c.args.function in
    let is : IsDirectNetworkOf f.variables (kind_of f.kind) c.in_ok-compile_direct.field-0 = record {
      checked = subst (λ (g : Function). AreChecked g.domain (pieces_in g)) (c.checked.view_is ∙ on_orthant at) c.checked.invariant.checked;
      forms = c.deref.result.now;
      used = used at;
      is_layout = c.in_ok-compile_direct.ensures.layout ∙ ap (λ k. direct_layout k c.deref.result.now) (columns at);
    } in
    computes f.variables (kind_of f.kind) c.in_ok-compile_direct.field-0 is c.requires.pieces c.requires.linear
