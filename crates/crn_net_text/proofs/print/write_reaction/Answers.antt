use Rattle.std.proofs.Common.{rules, append_assoc}
use Rattle.std.proofs.lemmas.Result.{IfOk-equal}
use Rattle.crn_token.proofs.Joins.{spelled-append}
use Rattle.crn_net_text.proofs.print.write_reaction.Goals as goal

pub returns-clause-text : goal.returns-clause-text
returns-clause-text c = search (rules, IfOk-equal, append_assoc, spelled-append)
