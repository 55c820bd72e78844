use Rattle.std.proofs.Common.{◌≡◌, ◌+◌, ◌∙◌, ◌≤◌, length, sym, subst, below_more, arith}
use Rattle.std.proofs.lemmas.List.{length-map}
use Rattle.crn_net.specs.Network.{IsReaction, numbered}
use Rattle.crn_net.specs.Views.{reaction_of, reactions_of}
use Rattle.crn_net.specs.Causes.{IsReactionAt}
use Rattle.crn_net.proofs.ReadBack.{reaction_read}
use Rattle.crn_net.proofs.checks.first_bad_reaction.Goals as goal
use Rattle.crn_net.proofs.checks.first_bad_reaction.Goals.{After-is_reaction}

-- the reaction of this turn, as the list numbers it
this : (c : After-is_reaction) → reaction_of c.index-reactions-index.result ≡ numbered (reactions_of c.args.reactions.now) (c.loop-index.index + 1)
this c = reaction_read c.args.reactions.now c.index-reactions-index.result c.loop-index.index (c.loop-index.index + 1) (omega arith) c.loop-index-test.true c.index-reactions-index.is

pub returns-then-not-is_reaction : goal.returns-then-not-is_reaction
returns-then-not-is_reaction c = record {
  low = omega arith;
  high = omega (arith, c.loop-index-test.true);
  earlier = λ j l h. c.loop-index.invariant j h l;
  here = λ k. absurd (cc (sym c.if-not-is_reaction.true ∙ c.is_reaction.ensures.1 (subst (IsReaction c.args.species) (sym (this (goal.at.returns-then-not-is_reaction c).After-is_reaction)) k)));
}

pub loop-index-preserved : goal.loop-index-preserved
loop-index-preserved c =
    below_more (λ j. 1 ≤ j → IsReactionAt c.args.species (reactions_of c.args.reactions.now) j) (c.loop-index.index + 1) c.loop-index.invariant
    (λ _. subst (IsReaction c.args.species) (this (goal.at.loop-index-preserved c).After-is_reaction) (c.is_reaction.ensures.0 c.if-not-is_reaction.false))

pub returns : goal.returns
returns c = λ r low high.
    c.loop-index.invariant r (let fits : length (reactions_of c.args.reactions.now) ≡ length c.args.reactions.now = length-map c.args.reactions.now reaction_of in omega (arith, c.loop-index-test.false, fits, high)) low
