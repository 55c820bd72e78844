use Rattle.std.proofs.Common.{◌≡◌, sym, subst, rules}
use Rattle.std.proofs.lemmas.Result.{IfOk-weaker}
use Rattle.crn_compile.specs.Refusals.{of_pieces}
use Rattle.crn_formula.specs.Functions.{IsGivenByPieces}
use Rattle.crn_formula.specs.Views.{kind_of}
use Rattle.crn_function_text.specs.Reading.{function_of}
use Rattle.crn_pieces.specs.Views.{pieces_in}
use Rattle.crn_program.specs.Proving.{domain_of, IsUnprovable, IsOutcomeOfProof}
use Rattle.crn_program.proofs.ToldOfPieces.{tells_other, tells_unproved, unprovable}
use Rattle.crn_program.proofs.proving.function_answer.Goals as goal

pub returns-then-not-is_by_pieces : goal.returns-then-not-is_by_pieces
returns-then-not-is_by_pieces c =
    let other : IsGivenByPieces (kind_of c.args.function.kind) → ⊥ = λ given. let yes = c.is_by_pieces.ensures.1 given in search (rules, yes) in
    IfOk-weaker c.other_kind.result _ _
    (λ reply is. tells_other (IsOutcomeOfProof (function_of c.args.function)) reply.status reply.text.items other is.0 is.1)
    c.other_kind.ensures

pub returns-in-Err : goal.returns-in-Err
returns-in-Err c =
    let f = c.args.function in
    let given : IsGivenByPieces (kind_of f.kind) = c.is_by_pieces.ensures.0 (search rules) in
    let refused = unprovable f.domain (pieces_in f) c.in-Err.error c.in-Err.ensures in
    let own = subst (λ d. IsUnprovable d (pieces_in f) (of_pieces c.in-Err.error)) c.requires refused in
    let told = subst (λ e. IsUnprovable (domain_of (function_of f)) (pieces_in f) e) (sym c.from.ensures) own in
    IfOk-weaker c.refused_function.result _ _
    (λ reply is. tells_unproved (function_of f) c.variables-variables.result c.from.result reply.status reply.text.items given c.variables-variables.ensures.value told is)
    c.refused_function.ensures
