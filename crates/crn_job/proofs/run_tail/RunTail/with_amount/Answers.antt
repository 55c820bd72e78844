use Rattle.std.proofs.Common.{◌≡◌, ◌≤◌, ◌-◌, List, length, map, Some, refl, sym, ◌∙◌, ap, ap₂, arith, eqb-true, set, vec_len}
use Rattle.std.specs.Option.{option_map}
use Rattle.crn_fraction.specs.Rational.{ℚ}
use Rattle.crn_token.specs.Plain.{plain_token}
use Rattle.crn_job.specs.RunGrammar.{Given, given_of, last_species, with_amount, run_limit}
use Rattle.crn_grammar.specs.Reading.{judged}
use Rattle.crn_job.proofs.States.{one_given}
use Rattle.crn_job.proofs.RunSteps.{amount_first, judged_amount}
use Rattle.crn_job.proofs.run_tail.RunTail.with_amount.Goals as goal

pub set-requires-clause-high : goal.set-requires-clause-high
set-requires-clause-high c = omega (arith, c.requires, c.in-Some.ensures.found.1)

pub returns-in-Some : goal.returns-in-Some
returns-in-Some c t shows =
    let ts = map (plain_token c.args.bytes.now) c.args.rest.now in
    let g : Given = c.in-Some.given in
    let empty : vec_len c.args.self.segments ≡ 0 = eqb-true (vec_len c.args.self.segments) 0 (sym c.is_empty.ensures ∙ c.if-not-is_empty.false) in
    let none : length t.segments ≡ 0 = omega (arith, empty, ap length shows.segments, c.args.self.segments.ok.0) in
    let read : given_of (last_species t.amounts) t.species ts ≡ Some g = sym (c.in-Some.ensures.value ∙ ap₂ (λ low n. given_of low n ts) shows.last shows.species) in
    let low : 1 ≤ c.in-Some.given.species = omega (arith, c.in-Some.ensures.found.0) in
    let high : c.in-Some.given.species ≤ t.species = omega (arith, c.in-Some.ensures.found.1, shows.species) in (
      with_amount t g,
      ap (judged run_limit c.args.line) (amount_first t t.segments ts none ∙ ap (option_map (with_amount t)) read) ∙ judged_amount c.args.line t g none,
      record {
        species = shows.species;
        last = refl;
        state = c.set.ensures ∙ ap (λ (state : List ℚ). set state (c.in-Some.given.species - 1) c.in-Some.given.amount) shows.state ∙ one_given t.species t.amounts c.in-Some.given.species c.in-Some.given.amount low high;
        segments = shows.segments;
      },
    )
