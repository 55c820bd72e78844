use Rattle.std.proofs.Common.{◌-◌, ◌∷◌, [], List, map, sym, ◌∙◌, ap}
use Rattle.std.specs.Option.{option_map}
use Rattle.crn_fraction.specs.Rational.{ℚ}
use Rattle.crn_token.specs.Plain.{plain_token}
use Rattle.crn_grammar.specs.Table.{Read}
use Rattle.crn_job.specs.Grammar.{with_input, tail_limit}
use Rattle.crn_grammar.specs.Reading.{judged}
use Rattle.crn_job.specs.Reading.{tail_of}
use Rattle.crn_job.proofs.Numbers.{one_is}
use Rattle.crn_job.proofs.Flows.{judged_few}
use Rattle.crn_job.proofs.tail.Tail.direct_input.Goals as goal

pub returns-in_ok-push-in-Some : goal.returns-in_ok-push-in-Some
returns-in_ok-push-in-Some c = λ bytes.
    ap (λ o. judged tail_limit c.args.line (option_map (λ qs. with_input (tail_of c.args.self) (c.args.self.left - 1) qs) o)) (sym (ap (option_map (λ (q : ℚ). q ∷ [])) (c.in-Some.ensures.value bytes) ∙ one_is (map (plain_token bytes) c.args.rest.now)))
    ∙ judged_few c.args.line (with_input (tail_of c.args.self) (c.args.self.left - 1) (c.in-Some.amount ∷ [])) c.requires.few
    ∙ ap (λ (xs : List ℚ). Read (record { rails = c.args.self.rails; left = c.args.self.left - 1; amounts = xs; segments = c.args.self.segments.items }))
    (sym (c.in_ok-push-in-Some.ensures.items))

pub returns-in-None : goal.returns-in-None
returns-in-None c = λ bytes.
    ap (λ o. judged tail_limit c.args.line (option_map (λ qs. with_input (tail_of c.args.self) (c.args.self.left - 1) qs) o)) (sym (ap (option_map (λ (q : ℚ). q ∷ [])) (c.in-None.ensures.value bytes) ∙ one_is (map (plain_token bytes) c.args.rest.now)))
