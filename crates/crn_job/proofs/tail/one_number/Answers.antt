use Rattle.std.proofs.Common.{[], sym, ◌∙◌, arith, length, ◌<◌, eqb-true, false-eqb}
use Rattle.crn_job.proofs.Numbers.{number_first, number_none, alone_last, alone_more, longest_nonnegative}
use Rattle.crn_job.proofs.tail.one_number.Goals as goal

pub returns-then-is_empty-clause-value : goal.returns-then-is_empty-clause-value
returns-then-is_empty-clause-value c = λ bytes.
    sym (number_first bytes c.args.tokens.now c.after-rest.result.now _ _ (c.in-Some.ensures.value bytes) c.after-rest.ensures
    ∙ alone_last bytes _ c.after-rest.result.now (eqb-true _ 0 (sym c.is_empty.ensures ∙ c.if-is_empty.true)))

pub returns-then-is_empty-clause-not_negative : goal.returns-then-is_empty-clause-not_negative
returns-then-is_empty-clause-not_negative c = longest_nonnegative _ _ _ (c.in-Some.ensures.found [])

pub returns-else-is_empty-clause-value : goal.returns-else-is_empty-clause-value
returns-else-is_empty-clause-value c = λ bytes.
    let some : 0 < length c.after-rest.result.now = omega (arith, false-eqb _ 0 (sym c.if-is_empty.false ∙ c.is_empty.ensures)) in
    sym (number_first bytes c.args.tokens.now c.after-rest.result.now _ _ (c.in-Some.ensures.value bytes) c.after-rest.ensures
    ∙ alone_more bytes _ c.after-rest.result.now some)

pub returns-in-None-clause-value : goal.returns-in-None-clause-value
returns-in-None-clause-value c = λ bytes. sym (number_none bytes c.args.tokens.now (c.in-None.ensures.value bytes))
