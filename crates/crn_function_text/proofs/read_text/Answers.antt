use Rattle.std.proofs.Common.{subst}
use Rattle.crn_grammar.specs.Reading.{Gives}
use Rattle.crn_function_text.specs.Grammar.{lines_answer}
use Rattle.crn_function_text.specs.Reading.{function_of}
use Rattle.crn_function_text.proofs.read_text.Goals as goal

pub returns-clause-answer : goal.returns-clause-answer
returns-clause-answer c = subst (λ lines. Gives function_of c.read_rest.result (lines_answer c.args.bytes.now lines)) c.in_ok-source.ensures.left c.read_rest.ensures.answer
