use Rattle.std.proofs.Common.{◌≡◌, ℕ, ◌<◌, List, ◌∷◌, length, map, sym, subst}
use Rattle.std.specs.List.{All}
use Rattle.std.proofs.lemmas.List.Elements.{All-head, All-tail}
use Rattle.crn_normal.specs.Normal.{neg, opposites}
use Rattle.crn_normal.specs.Steps.{neg_steps}
use Rattle.crn_normal.specs.Codes.{form_at, sets_at, AreSetsAdded}
use Rattle.crn_normal.specs.Goings.{GoesCoded}
use Rattle.crn_normal.proofs.Coding.{within_stays}
use Rattle.crn_normal.proofs.NodeSteps.{neg_goes}
use Rattle.crn_normal.proofs.steps.neg.Goals as goal

pub opposites-requires-clause-within : goal.opposites-requires-clause-within
opposites-requires-clause-within c =
    let parts : c.args.sets.now ≡ c.in-Some.first.now ∷ c.in-Some.rest.now = c.in-Some.ensures.cases.0 in
    subst (All (λ i. i < length c.args.table.now.keys)) (sym c.numbers.ensures)
    (All-head (All (λ i. i < length c.args.table.now.keys)) c.in-Some.first.now c.in-Some.rest.now (subst (All (All (λ i. i < length c.args.table.now.keys))) parts c.requires.within))

pub meet_opposites-requires-clause-second : goal.meet_opposites-requires-clause-second
meet_opposites-requires-clause-second c =
    let parts : c.args.sets.now ≡ c.in-Some.first.now ∷ c.in-Some.rest.now = c.in-Some.ensures.cases.0 in
    within_stays c.args.table.now.keys c.opposites.new.table.keys c.in-Some.rest.now c.in_ok-start-in-Some.ensures.grows
    (All-tail (All (λ i. i < length c.args.table.now.keys)) c.in-Some.first.now c.in-Some.rest.now (subst (All (All (λ i. i < length c.args.table.now.keys))) parts c.requires.within))

pub returns-in_ok-start-in-Some : goal.returns-in_ok-start-in-Some
returns-in_ok-start-in-Some c =
    let parts : c.args.sets.now ≡ c.in-Some.first.now ∷ c.in-Some.rest.now = c.in-Some.ensures.cases.0 in
    subst (λ A. GoesCoded c.meet_opposites.result (neg_steps (sets_at c.args.table.now.keys A)) (neg (sets_at c.args.table.now.keys A)) c.args.table.now.keys c.meet_opposites.new.table.keys) (sym parts)
    (neg_goes c.args.table.now.keys c.opposites.new.table.keys c.meet_opposites.new.table.keys c.in-Some.first.now c.in-Some.rest.now c.in_ok-start-in-Some.start.items c.meet_opposites.result
    (All-tail (All (λ i. i < length c.args.table.now.keys)) c.in-Some.first.now c.in-Some.rest.now (subst (All (All (λ i. i < length c.args.table.now.keys))) parts c.requires.within))
    (subst (λ S. AreSetsAdded c.args.table.now.keys c.opposites.new.table.keys (opposites (map (form_at c.args.table.now.keys) S)) c.in_ok-start-in-Some.start.items) c.numbers.ensures c.in_ok-start-in-Some.ensures)
    c.meet_opposites.ensures)
