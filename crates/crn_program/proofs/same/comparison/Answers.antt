use Rattle.std.proofs.Common.{◌≡◌, sym, ◌∙◌, refl, rules}
use Rattle.std.specs.Prelude.{◌≢◌}
use Rattle.std.proofs.lemmas.Result.{IfOk-weaker}
use Rattle.crn_function_text.specs.Two.{two_of}
use Rattle.crn_program.specs.Comparing.{AreComparable, IsOutcomeOfTwo}
use Rattle.crn_program.specs.Finding.{OtherVariables, Same, text_of_outcome}
use Rattle.crn_program.proofs.ToldOfPieces.{tells_other, tells_other_variables, tells_same, tells_not_same}
use Rattle.crn_program.proofs.same.comparison.Goals as goal

pub returns-then-not-are_comparable : goal.returns-then-not-are_comparable
returns-then-not-are_comparable c =
    let both = two_of (c.args.first, c.args.second) in
    let other : AreComparable both → ⊥ = λ pair. let yes = c.are_comparable.ensures.1 pair in search (rules, yes) in
    IfOk-weaker c.other_kind.result _ _
    (λ reply is. tells_other (IsOutcomeOfTwo both) reply.status reply.text.items other is.0 is.1)
    c.other_kind.ensures

pub returns-then-variables : goal.returns-then-variables
returns-then-variables c =
    let both = two_of (c.args.first, c.args.second) in
    let pair : AreComparable both = c.are_comparable.ensures.0 (search rules) in
    let other : c.variables-variables.result ≢ c.variables.result = λ same. search (rules, same) in
    IfOk-weaker c.other_variables.result _ _
    (λ reply is. tells_other_variables both c.variables-variables.result c.variables-then-variables.result reply.status reply.text.items pair c.variables-variables.ensures.value c.variables-then-variables.ensures.value
    (λ same. other (same ∙ c.variables-then-variables.ensures.value ∙ sym c.variables.ensures.value)) is)
    c.other_variables.ensures

pub returns-in_ok-format-in-Ok : goal.returns-in_ok-format-in-Ok
returns-in_ok-format-in-Ok c =
    let both = two_of (c.args.first, c.args.second) in
    let pair : AreComparable both = c.are_comparable.ensures.0 (search rules) in
    let numbers : c.variables-variables.result ≡ c.variables.result = search rules in
    let text : c.into_bytes.result.items ≡ text_of_outcome Same = search rules in
    tells_same both c.into_bytes.result.items pair (sym c.variables-variables.ensures.value ∙ numbers ∙ c.variables.ensures.value) c.in-Ok.ensures.same c.in-Ok.ensures.shown text

pub returns-in-Err : goal.returns-in-Err
returns-in-Err c =
    let both = two_of (c.args.first, c.args.second) in
    let pair : AreComparable both = c.are_comparable.ensures.0 (search rules) in
    let numbers : c.variables-variables.result ≡ c.variables.result = search rules in
    IfOk-weaker c.refused_comparison.result _ _
    (λ reply is. tells_not_same both c.variables-variables.result c.in-Err.error reply.status reply.text.items
    (record { comparable = pair; variables = sym c.variables-variables.ensures.value ∙ numbers ∙ c.variables.ensures.value }) c.variables-variables.ensures.value
    c.in-Err.ensures.refusal c.in-Err.ensures.point is)
    c.refused_comparison.ensures
