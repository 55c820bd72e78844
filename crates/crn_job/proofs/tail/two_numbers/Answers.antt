use Rattle.std.proofs.Common.{◌∷◌, [], sym, ◌∙◌, ap, map}
use Rattle.std.specs.Option.{option_map}
use Rattle.crn_fraction.specs.Rational.{ℚ}
use Rattle.crn_token.specs.Plain.{plain_token}
use Rattle.crn_job.proofs.Numbers.{numbers_first, numbers_none, one_is}
use Rattle.crn_job.proofs.tail.two_numbers.Goals as goal

pub returns-in-Some-one_number : goal.returns-in-Some-one_number
returns-in-Some-one_number c = λ bytes.
    sym (numbers_first 1 bytes c.args.tokens.now c.after-rest.result.now _ _ (c.in-Some.ensures.value bytes) c.after-rest.ensures
    ∙ ap (option_map (λ qs. _ ∷ qs)) (sym (ap (option_map (λ (q : ℚ). q ∷ [])) (c.in-Some-one_number.ensures.value bytes) ∙ one_is (map (plain_token bytes) c.after-rest.result.now))))

pub returns-in-None-one_number : goal.returns-in-None-one_number
returns-in-None-one_number c = λ bytes.
    sym (numbers_first 1 bytes c.args.tokens.now c.after-rest.result.now _ _ (c.in-Some.ensures.value bytes) c.after-rest.ensures
    ∙ ap (option_map (λ qs. _ ∷ qs)) (sym (ap (option_map (λ (q : ℚ). q ∷ [])) (c.in-None-one_number.ensures.value bytes) ∙ one_is (map (plain_token bytes) c.after-rest.result.now))))

pub returns-in-None : goal.returns-in-None
returns-in-None c = λ bytes. sym (numbers_none 1 bytes c.args.tokens.now (c.in-None.ensures.value bytes))
