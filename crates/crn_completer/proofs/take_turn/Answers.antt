use Rattle.std.proofs.Common.{◌≡◌, ℕ, List, [], ◌∷◌, false, None, Some, refl, sym, ◌∙◌, ap, ap₂, subst, arith}
use Rattle.std.specs.Option.{option_map}
use Rattle.crn_fraction.specs.Rational.{ℚ, 0ℚ, ◌<ℚ◌}
use Rattle.crn_net.specs.Network.{Network, Reaction, amount, numbered, alone, after, greatest_flux, with_greatest, Run}
use Rattle.crn_net.specs.Views.{reaction_of}
use Rattle.crn_segments.specs.Step.{sum_of, step_refusal}
use Rattle.crn_segments.specs.declared.StepError.{StepError}
use Rattle.crn_segments.specs.declared.StepError.TheVariants.{TooBig}
use Rattle.crn_completer.specs.Refusal.{lacks, unfit_quotient, unfit_sum}
use Rattle.crn_completer.proofs.Turns.{absent_turn, present_turn, kept_turn, legal_turn, legal_refusal, map_none, map_some, flux_is, turn_of}
use Rattle.crn_completer.proofs.take_turn.Goals as goal
use Rattle.crn_completer.proofs.take_turn.Goals.{After-flow_of, Then-lacks_reactant}

absent : (c : Then-lacks_reactant) → with_greatest c.args.replay.now.network c.args.number c.args.replay.now.state ≡ []
absent c =
    let reaction : reaction_of c.reaction-reaction.result.now ≡ numbered c.args.replay.now.network.reactions c.args.number =
    c.reaction-reaction.ensures.value ∙ ap (λ (n : Network). numbered n.reactions c.args.number) c.network.ensures.value in
    absent_turn c.args.replay.now.network c.network.ensures.valid c.args.number c.requires.low c.requires.high c.args.replay.now.state c.state.ensures.valid
    (sym (ap₂ (λ (d : List ℚ) (q : Reaction). lacks (amount d) q.takes) c.state.ensures.value reaction) ∙ sym c.if-lacks_reactant.ensures)

pub returns-then-lacks_reactant-clause-kept : goal.returns-then-lacks_reactant-clause-kept
returns-then-lacks_reactant-clause-kept c = sym (absent c)

pub returns-then-lacks_reactant-clause-run : goal.returns-then-lacks_reactant-clause-run
returns-then-lacks_reactant-clause-run c =
    subst (λ us. Run c.args.replay.now.network c.args.replay.now.state us c.args.replay.now.state) (sym (absent (goal.at.returns-then-lacks_reactant-clause-run c).Then-lacks_reactant)) refl

the_reaction : (c : After-flow_of) → reaction_of c.reaction-reaction.result.now ≡ numbered c.args.replay.now.network.reactions c.args.number
the_reaction c = c.reaction-reaction.ensures.value ∙ ap (λ (n : Network). numbered n.reactions c.args.number) c.network.ensures.value

present : (c : After-flow_of) → lacks (amount c.args.replay.now.state) (numbered c.args.replay.now.network.reactions c.args.number).takes ≡ false
present c = sym (ap₂ (λ (d : List ℚ) (q : Reaction). lacks (amount d) q.takes) c.state.ensures.value (the_reaction c)) ∙ sym c.if-lacks_reactant.ensures

flux_eq : (c : After-flow_of) → c.in-Ok.flux ≡ greatest_flux c.args.replay.now.network c.args.number (amount c.args.replay.now.state)
flux_eq c =
    flux_is c.args.replay.now.network c.args.number (reaction_of c.reaction-reaction.result.now) c.args.replay.now.state c.state-2.result.now c.in-Ok.flux (the_reaction c) c.state-2.ensures.value c.in-Ok.ensures.least

made : (c : After-flow_of) → (c.flow_of.result ∷ []) ≡ alone c.args.number (greatest_flux c.args.replay.now.network c.args.number (amount c.args.replay.now.state))
made c = ap (λ f. f ∷ []) c.flow_of.ensures ∙ ap (alone c.args.number) (flux_eq c)

positive : (c : After-flow_of) → 0ℚ <ℚ greatest_flux c.args.replay.now.network c.args.number (amount c.args.replay.now.state)
positive c = present_turn c.args.replay.now.network c.network.ensures.valid c.args.number c.requires.low c.requires.high c.args.replay.now.state c.state.ensures.valid (present c)

pub step_one-requires-clause-positive : goal.step_one-requires-clause-positive
step_one-requires-clause-positive c =
    let same : c.flow_of.result.flux ≡ greatest_flux c.args.replay.now.network c.args.number (amount c.args.replay.now.state) = ap (λ f. f.flux) c.flow_of.ensures ∙ flux_eq c in
    subst (λ x. 0ℚ <ℚ x) (sym same) (positive c)

refusal : (c : After-flow_of) → step_refusal c.args.replay.now.network c.args.replay.now.state (c.flow_of.result ∷ []) ≡
    option_map (λ t. TooBig t) (unfit_sum (sum_of c.args.replay.now.network c.args.replay.now.state (alone c.args.number (greatest_flux c.args.replay.now.network c.args.number (amount c.args.replay.now.state)))) 1 c.args.replay.now.network.species)
refusal c =
    let u = alone c.args.number (greatest_flux c.args.replay.now.network c.args.number (amount c.args.replay.now.state)) in
    ap (step_refusal c.args.replay.now.network c.args.replay.now.state) (made c)
    ∙ legal_refusal c.args.replay.now.network c.args.replay.now.state u
    (legal_turn c.args.replay.now.network c.network.ensures.valid c.args.number c.requires.low c.requires.high c.args.replay.now.state c.state.ensures.valid (positive c))
    c.network.ensures.valid (record { some = omega arith; ascending = (c.requires.low, positive c, tt) })

fit : (c : After-flow_of) → unfit_quotient (amount c.args.replay.now.state) (numbered c.args.replay.now.network.reactions c.args.number).takes ≡ None
fit c = sym (ap₂ (λ (d : List ℚ) (q : Reaction). unfit_quotient (amount d) q.takes) c.state-2.ensures.value (the_reaction c)) ∙ c.in-Ok.ensures.fit

which : (c : After-flow_of) (e : StepError) → step_refusal c.args.replay.now.network c.args.replay.now.state (c.flow_of.result ∷ []) ≡ Some e →
    (s : ℕ) × (unfit_sum (sum_of c.args.replay.now.network c.args.replay.now.state (alone c.args.number (greatest_flux c.args.replay.now.network c.args.number (amount c.args.replay.now.state)))) 1 c.args.replay.now.network.species ≡ Some s) × (e ≡ TooBig s)
which c e h = map_some _ e (sym (refusal c) ∙ h)

pub unfit_species-requires : goal.unfit_species-requires
unfit_species-requires c = let w = which (goal.at.unfit_species-requires c).After-flow_of c.in-Err-step_one.error c.in-Err-step_one.ensures.cause in (w.0, w.2)

pub returns-in-Err-step_one-clause-err : goal.returns-in-Err-step_one-clause-err
returns-in-Err-step_one-clause-err c =
    let w = which (goal.at.returns-in-Err-step_one-clause-err c).After-flow_of c.in-Err-step_one.error c.in-Err-step_one.ensures.cause in
    let at : After-flow_of = (goal.at.returns-in-Err-step_one-clause-err c).After-flow_of in
    let e : TooBig w.0 ≡ TooBig c.unfit_species.result = sym w.2 ∙ c.unfit_species.ensures in
    let same : w.0 ≡ c.unfit_species.result = cc e in
    (refl, turn_of c.args.replay.now.network c.args.number c.args.replay.now.state None (Some w.0) (present at) (fit at) w.1 ∙ ap (λ x. Some x) same)

pub returns-in-Ok-step_one-clause-fits : goal.returns-in-Ok-step_one-clause-fits
returns-in-Ok-step_one-clause-fits c =
    let at : After-flow_of = (goal.at.returns-in-Ok-step_one-clause-fits c).After-flow_of in
    turn_of c.args.replay.now.network c.args.number c.args.replay.now.state None None (present at) (fit at) (map_none _ (sym (refusal at) ∙ c.in-Ok-step_one.ensures.cause))

kept : (c : After-flow_of) → with_greatest c.args.replay.now.network c.args.number c.args.replay.now.state ≡
    alone c.args.number (greatest_flux c.args.replay.now.network c.args.number (amount c.args.replay.now.state)) ∷ []
kept c = kept_turn c.args.replay.now.network c.network.ensures.valid c.args.number c.requires.low c.requires.high c.args.replay.now.state c.state.ensures.valid (positive c)

pub returns-in-Ok-step_one-clause-kept : goal.returns-in-Ok-step_one-clause-kept
returns-in-Ok-step_one-clause-kept c =
    let at : After-flow_of = (goal.at.returns-in-Ok-step_one-clause-kept c).After-flow_of in
    ap (λ f. (f ∷ []) ∷ []) c.flow_of-in-Ok-step_one.ensures ∙ ap (λ u. alone c.args.number u ∷ []) (flux_eq at) ∙ sym (kept at)

pub returns-in-Ok-step_one-clause-run : goal.returns-in-Ok-step_one-clause-run
returns-in-Ok-step_one-clause-run c =
    let at : After-flow_of = (goal.at.returns-in-Ok-step_one-clause-run c).After-flow_of in
    subst (λ us. Run c.args.replay.now.network c.args.replay.now.state us c.step_one.new.self.state) (sym (kept at)) (
      legal_turn c.args.replay.now.network c.network.ensures.valid c.args.number c.requires.low c.requires.high c.args.replay.now.state c.state.ensures.valid (positive at),
      ap (λ p. p.state) c.in-Ok-step_one.ensures.after ∙ ap (after c.args.replay.now.network c.args.replay.now.state) (made at),
    )
