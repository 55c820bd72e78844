use Rattle.std.proofs.Common.{[], ◌+◌, ap, arith}
use Rattle.std.specs.Option.{option_map}
use Rattle.std.proofs.lemmas.List.{length-map}
use Rattle.crn_token.specs.Plain.{plain_token}
use Rattle.crn_job.specs.Grammar.{flow}
use Rattle.crn_job.proofs.tail.flow_to.Goals as goal

pub overflow_add-result : goal.overflow_add-result
overflow_add-result c = omega (arith, (c.in-Some.ensures.found []).within, length-map c.args.tokens.now (plain_token []))

pub returns-in-Some-clause-value : goal.returns-in-Some-clause-value
returns-in-Some-clause-value c = λ bytes. ap (option_map (λ p. (flow c.args.reaction p.0, 2 + p.1))) (c.in-Some.ensures.value bytes)

pub returns-in-None-clause-value : goal.returns-in-None-clause-value
returns-in-None-clause-value c = λ bytes. ap (option_map (λ p. (flow c.args.reaction p.0, 2 + p.1))) (c.in-None.ensures.value bytes)
