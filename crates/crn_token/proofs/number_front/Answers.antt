use Rattle.std.proofs.Common.{arith, sym, ◌∙◌}
use Rattle.std.proofs.lemmas.List.{length-take-le}
use Rattle.std.proofs.lemmas.List.Sums.{prefix_len-le-length}
use Rattle.std.specs.Char.{is_ascii_digit}
use Rattle.crn_token.proofs.Longest.{longest_digits}
use Rattle.crn_token.proofs.Fronts.{token_number, run_some}
use Rattle.crn_token.proofs.number_front.Goals as goal

pub overflow_add-span : goal.overflow_add-span
overflow_add-span c = omega (arith, prefix_len-le-length is_ascii_digit c.args.rest.now, c.number_at-len.ensures.len)

pub digits_front-requires-clause-some : goal.digits_front-requires-clause-some
digits_front-requires-clause-some c =
    let some = run_some is_ascii_digit c.args.rest.now c.requires.some c.requires.digit in
    let within = prefix_len-le-length is_ascii_digit c.args.rest.now in
    omega (arith, some, within, c.number_at-len.ensures.len, length-take-le c.number_at-len.result.0 c.args.rest.now (omega arith))

pub returns-clause-len : goal.returns-clause-len
returns-clause-len c = c.number_at-len.ensures.len ∙ sym (longest_digits c.args.rest.now c.requires.some c.requires.digit)

pub returns-clause-token : goal.returns-clause-token
returns-clause-token c = rw (c.digits_front.ensures, c.number_at-len.ensures.len) (sym (token_number c.args.line c.args.at c.args.rest.now c.requires.some c.requires.digit))
