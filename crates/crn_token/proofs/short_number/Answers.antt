use Rattle.std.proofs.Common.{◌≡◌, get_or, true, arith, rules, sym, ◌∙◌}
use Rattle.std.proofs.lemmas.Int.Digits.{digits_value_more}
use Rattle.std.proofs.lemmas.List.Sums.{prefix_len_is}
use Rattle.std.specs.Char.{is_ascii_digit}
use borrow.Author.Count.{below_more}
use Rattle.crn_token.proofs.DigitLemmas.{digit_bounds, next_small, few_fit}
use Rattle.crn_token.proofs.short_number.Goals as goal

pub returns-then-not-is_ascii_digit-clause-len : goal.returns-then-not-is_ascii_digit-clause-len
returns-then-not-is_ascii_digit-clause-len c = sym (prefix_len_is is_ascii_digit c.args.bytes.now c.loop-i.i 0 (omega arith) c.loop-i.invariant.passes (search rules))

pub returns-then-not-is_ascii_digit-clause-fits : goal.returns-then-not-is_ascii_digit-clause-fits
returns-then-not-is_ascii_digit-clause-fits c = omega (arith, few_fit c.loop-i.value c.loop-i.i c.loop-i.invariant.small (omega arith))

pub overflow_mul-value : goal.overflow_mul-value
overflow_mul-value c = omega (arith, few_fit c.loop-i.value c.loop-i.i c.loop-i.invariant.small (omega arith))

pub overflow_add-value : goal.overflow_add-value
overflow_add-value c =
    let digit : is_ascii_digit (get_or c.args.bytes.now c.loop-i.i 0) ≡ true = sym c.is_ascii_digit.ensures.value ∙ c.if-not-is_ascii_digit.false in
    let bounds = digit_bounds (get_or c.args.bytes.now c.loop-i.i 0) digit in
    omega (arith, bounds.1, c.from.ensures, few_fit c.loop-i.value c.loop-i.i c.loop-i.invariant.small (omega arith))

pub loop-i-preserved : goal.loop-i-preserved
loop-i-preserved c =
    let bytes = c.args.bytes.now in
    let i = c.loop-i.i in
    let digit : is_ascii_digit (get_or bytes i 0) ≡ true = sym c.is_ascii_digit.ensures.value ∙ c.if-not-is_ascii_digit.false in
    let bounds = digit_bounds (get_or bytes i 0) digit in
    record {
      passes = below_more (λ k. is_ascii_digit (get_or bytes k 0) ≡ true) i c.loop-i.invariant.passes digit;
      value = omega (arith, digits_value_more 10 bytes i c.loop-i-test.true, bounds.2, c.from.ensures, c.loop-i.invariant.value);
      small = next_small c.loop-i.value i c.from.result c.loop-i.invariant.small (omega (arith, bounds.1, c.from.ensures));
    }

pub returns-clause-len : goal.returns-clause-len
returns-clause-len c = sym (prefix_len_is is_ascii_digit c.args.bytes.now _ 0 (omega arith) (search rules) (search rules))

pub returns-clause-fits : goal.returns-clause-fits
returns-clause-fits c = omega (arith, few_fit c.loop-i.value c.loop-i.i c.loop-i.invariant.small (omega arith))
