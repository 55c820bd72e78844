use Rattle.std.proofs.Common.{◌-◌, ◌++◌, ◌∷◌, [], List, sym, ◌∙◌, ap, append_assoc}
use Rattle.std.specs.Option.{option_map}
use Rattle.crn_fraction.specs.Rational.{ℚ}
use Rattle.crn_grammar.specs.Table.{Read}
use Rattle.crn_job.specs.Grammar.{with_input, tail_limit}
use Rattle.crn_grammar.specs.Reading.{judged}
use Rattle.crn_job.specs.Reading.{tail_of}
use Rattle.crn_job.proofs.Flows.{judged_few}
use Rattle.crn_job.proofs.tail.Tail.dual_input.Goals as goal

pub returns-in_ok-push-in-Some-2 : goal.returns-in_ok-push-in-Some-2
returns-in_ok-push-in-Some-2 c = λ bytes.
    ap (λ o. judged tail_limit c.args.line (option_map (λ qs. with_input (tail_of c.args.self) (c.args.self.left - 1) qs) o)) (sym (c.in-Some.ensures bytes))
    ∙ judged_few c.args.line (with_input (tail_of c.args.self) (c.args.self.left - 1) (c.in-Some.pair.0 ∷ c.in-Some.pair.1 ∷ [])) c.requires.few
    ∙ ap (λ (xs : List ℚ). Read (record { rails = c.args.self.rails; left = c.args.self.left - 1; amounts = xs; segments = c.args.self.segments.items }))
    (sym (c.in_ok-push-in-Some-2.ensures.items ∙ ap (λ xs. xs ++ c.in-Some.pair.1 ∷ []) c.in_ok-push-in-Some.ensures.items ∙ append_assoc c.args.self.amounts.items (c.in-Some.pair.0 ∷ []) (c.in-Some.pair.1 ∷ [])))

pub returns-in-None : goal.returns-in-None
returns-in-None c = λ bytes.
    ap (λ o. judged tail_limit c.args.line (option_map (λ qs. with_input (tail_of c.args.self) (c.args.self.left - 1) qs) o)) (sym (c.in-None.ensures bytes))
