use Rattle.std.proofs.Common.{◌≡◌, subst, refl, rules}
use Rattle.std.proofs.lemmas.Result.{IfOk-weaker}
use Rattle.crn_function_text.specs.Reading.{function_of}
use Rattle.crn_grammar.specs.Table.{Read}
use Rattle.crn_program.specs.Directly.{IsLinearPieces, IsOutcomeOfDirect}
use Rattle.crn_program.specs.Finding.{Compiled}
use Rattle.crn_program.specs.Texts.{IsNetworkAnswer}
use Rattle.crn_program.proofs.ToldOfPieces.{tells_other, tells_not_direct}
use Rattle.crn_program.proofs.direct.function_answer.Goals as goal

pub returns-then-not-is_linear_pieces : goal.returns-then-not-is_linear_pieces
returns-then-not-is_linear_pieces c =
    let other : IsLinearPieces (function_of c.args.function) → ⊥ = λ given. let yes = c.is_linear_pieces.ensures.1 given in search (rules, yes) in
    IfOk-weaker c.other_kind.result _ _
    (λ reply is. tells_other (IsOutcomeOfDirect (function_of c.args.function)) reply.status reply.text.items other is.0 is.1)
    c.other_kind.ensures

pub returns-in_ok-print_network-in-Ok : goal.returns-in_ok-print_network-in-Ok
returns-in_ok-print_network-in-Ok c =
    let linear : IsLinearPieces (function_of c.args.function) = c.is_linear_pieces.ensures.0 (search rules) in
    let text = c.in_ok-print_network-in-Ok.ensures.text in
    record {
      what = Compiled c.in-Ok.network;
      found = record {
        linear = linear;
        network = c.in-Ok.ensures.network;
        computes = c.in-Ok.ensures.computes;
        reads_back = subst (λ t. IsNetworkAnswer t (Read c.in-Ok.network)) text (c.in_ok-print_network-in-Ok.ensures.spells, c.in_ok-print_network-in-Ok.ensures.limits);
      };
      status_is = refl;
      text_is = text;
    }

pub returns-in-Err : goal.returns-in-Err
returns-in-Err c =
    let linear : IsLinearPieces (function_of c.args.function) = c.is_linear_pieces.ensures.0 (search rules) in
    IfOk-weaker c.refused_direct.result _ _
    (λ reply is. tells_not_direct (function_of c.args.function) c.variables-variables.result c.in-Err.error reply.status reply.text.items linear c.variables-variables.ensures.value c.in-Err.ensures.refusal is)
    c.refused_direct.ensures
