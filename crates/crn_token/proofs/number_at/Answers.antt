use Rattle.std.proofs.Common.{arith, sym, ap, ◌∙◌, ⊎_elim, take_all}
use Rattle.std.proofs.lemmas.Bool.{cases_lt}
use Rattle.std.specs.List.{prefix_len}
use Rattle.std.specs.Char.{is_ascii_digit}
use Rattle.crn_token.proofs.Longest.{list_all-take, prefix_len-take}
use Rattle.crn_token.proofs.number_at.Goals as goal

pub returns-then-short-lt-SHORT-clause-len : goal.returns-then-short-lt-SHORT-clause-len
returns-then-short-lt-SHORT-clause-len c =
    let few = c.min-few.result in
    c.short_number-short.ensures.len
    ∙ ⊎_elim
    (λ less. sym (prefix_len-take is_ascii_digit c.args.bytes.now few (omega (arith, less, c.short_number-short.ensures.len))))
    (λ whole. ap (λ l. prefix_len is_ascii_digit l) (take_all few c.args.bytes.now (omega (arith, whole, c.min-few.ensures))))
    (cases_lt c.short_number-short.result.0 few)

pub number_of-requires : goal.number_of-requires
number_of-requires c = rw c.digits-len.ensures.value (list_all-take is_ascii_digit c.args.bytes.now)
