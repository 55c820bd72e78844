use Rattle.std.proofs.Common.{ℕ, List, Option, Some, None, IfSome, map, sym, ◌∙◌, subst}
use Rattle.std.specs.Prelude.{IfNone}
use Rattle.crn_token.specs.Plain.{Plain, plain_token}
use Rattle.crn_fraction.specs.Rational.{ℚ}
use Rattle.crn_form_text.specs.Grammar.{IsLongestNumber, BeginsNoNumber}
use Rattle.crn_form_text.proofs.Fractions.{fraction_at-bytes}
use Rattle.crn_form_text.proofs.Numbers.{IsNumberFound, number_found}
use Rattle.crn_form_text.proofs.number.read_fraction.Goals as goal

found_is : (ts : List Plain) (r : Option (ℚ × ℕ)) → IsNumberFound ts r → IfSome r (λ p. IsLongestNumber ts p.0 p.1)
found_is ts None found = tt
found_is ts (Some p) found = found

none_is : (ts : List Plain) (r : Option (ℚ × ℕ)) → IsNumberFound ts r → IfNone r (BeginsNoNumber ts)
none_is ts None found = found
none_is ts (Some p) found = tt

pub returns-clause-value : goal.returns-clause-value
returns-clause-value c bytes = c.first_fraction.ensures ∙ sym (fraction_at-bytes bytes c.args.tokens.now)

pub returns-clause-found : goal.returns-clause-found
returns-clause-found c bytes =
    let ts = map (plain_token bytes) c.args.tokens.now in
    found_is ts _ (subst (IsNumberFound ts) (sym (c.first_fraction.ensures ∙ sym (fraction_at-bytes bytes c.args.tokens.now))) (number_found ts))

pub returns-clause-none : goal.returns-clause-none
returns-clause-none c bytes =
    let ts = map (plain_token bytes) c.args.tokens.now in
    none_is ts _ (subst (IsNumberFound ts) (sym (c.first_fraction.ensures ∙ sym (fraction_at-bytes bytes c.args.tokens.now))) (number_found ts))
