use Rattle.std.proofs.Common.{◌≡◌, ℕ, ◌+◌, ◌-◌, ◌++◌, List, length, Option, None, Some, refl, sym, ◌∙◌, ap, subst, arith}
use Rattle.std.proofs.lemmas.List.{append-nil}
use Rattle.std.proofs.lemmas.Result.{err_from_is_err_and}
use Rattle.std.specs.Option.{option_to_list}
use Rattle.std.specs.Vec.{vec_capacity}
use Rattle.crn_fraction.specs.Rational.{ℚ}
use Rattle.crn_segments.specs.Progress.{Progress}
use Rattle.crn_net.specs.Network.{Network, Run}
use Rattle.crn_net.specs.declared.Flow.{Flow}
use Rattle.crn_completer.specs.Refusal.{completion_refusal_to}
use Rattle.crn_completer.proofs.CompletionCauses.{refused_completion}
use Rattle.crn_completer.proofs.Fitting.{completion_fits, fitting_completion}
use Rattle.crn_completer.proofs.InTurn.{Turned, turned_none, turned_next, turned_refuses, all_exhausted, all_settled}
use Rattle.crn_completer.proofs.Completer.complete.Goals as goal
use Rattle.crn_completer.proofs.Completer.complete.Goals.{in-Some, in_default, Then-number-number-end, Else-number-number-end, After-loop-number, In_err-flow}

pub loop-number-init : goal.loop-number-init
loop-number-init c = (
  subst (λ fs. Turned c.args.replay.now.network c.args.replay.now.state fs c.args.replay.now 0) (sym c.clear.ensures.items) (turned_none c.args.replay.now),
  c.clear.ensures.capacity ∙ ap (λ k. k.room) c.self.view_is,
  omega arith,
)

items_Then : (c : Then-number-number-end) → c.match-branch-2.self-inside.flows.items ≡ c.loop-number.self-inside.flows.items ++ option_to_list c.in_ok-flow.field-0
items_Then c =
    elim c.match-branch-2.branch [
      | in-Some w ↦
          ap (λ k. k.flows.items) w.self-inside-is ∙ w.push_reserved.ensures.items ∙ ap (λ (o : Option Flow). c.loop-number.self-inside.flows.items ++ option_to_list o) (sym w.in-Some.is)
      | in_default w ↦
          ap (λ k. k.flows.items) w.self-inside-is ∙ sym (append-nil c.loop-number.self-inside.flows.items)
          ∙ ap (λ (o : Option Flow). c.loop-number.self-inside.flows.items ++ option_to_list o) (sym w.in_default.is)
    ]

turned_Then : (c : Then-number-number-end) → Turned c.args.replay.now.network c.args.replay.now.state c.match-branch-2.self-inside.flows.items c.take_turn.new.replay c.loop-number.number
turned_Then c =
    subst (λ fs. Turned c.args.replay.now.network c.args.replay.now.state fs c.take_turn.new.replay c.loop-number.number) (sym (items_Then c))
    (turned_next c.args.replay.now.network c.args.replay.now.state c.loop-number.self-inside.flows.items c.loop-number.replay c.loop-number.number (omega arith) c.loop-number.invariant.0
    c.take_turn.new.replay c.in_ok-flow.field-0 c.in_ok-flow.ensures.fits c.in_ok-flow.ensures.kept c.in_ok-flow.ensures.run c.in_ok-flow.ensures.network)

items_Else : (c : Else-number-number-end) → c.match-branch-2.self-inside.flows.items ≡ c.loop-number.self-inside.flows.items ++ option_to_list c.in_ok-flow.field-0
items_Else c =
    elim c.match-branch-2.branch [
      | in-Some w ↦
          ap (λ k. k.flows.items) w.self-inside-is ∙ w.push_reserved.ensures.items ∙ ap (λ (o : Option Flow). c.loop-number.self-inside.flows.items ++ option_to_list o) (sym w.in-Some.is)
      | in_default w ↦
          ap (λ k. k.flows.items) w.self-inside-is ∙ sym (append-nil c.loop-number.self-inside.flows.items)
          ∙ ap (λ (o : Option Flow). c.loop-number.self-inside.flows.items ++ option_to_list o) (sym w.in_default.is)
    ]

turned_Else : (c : Else-number-number-end) → Turned c.args.replay.now.network c.args.replay.now.state c.match-branch-2.self-inside.flows.items c.take_turn.new.replay c.loop-number.number
turned_Else c =
    subst (λ fs. Turned c.args.replay.now.network c.args.replay.now.state fs c.take_turn.new.replay c.loop-number.number) (sym (items_Else c))
    (turned_next c.args.replay.now.network c.args.replay.now.state c.loop-number.self-inside.flows.items c.loop-number.replay c.loop-number.number (omega arith) c.loop-number.invariant.0
    c.take_turn.new.replay c.in_ok-flow.field-0 c.in_ok-flow.ensures.fits c.in_ok-flow.ensures.kept c.in_ok-flow.ensures.run c.in_ok-flow.ensures.network)

pub loop-number-preserved : goal.loop-number-preserved
loop-number-preserved c =
    let same : c.loop-number.number ≡ c.loop-number.number + 1 - 1 = omega arith in (
      subst (Turned c.args.replay.now.network c.args.replay.now.state c.match-branch-2.self-inside.flows.items c.take_turn.new.replay) same (turned_Then (goal.at.loop-number-preserved c).Then-number-number-end),
      elim c.match-branch-2.branch [
        | in-Some w ↦ ap (λ k. vec_capacity k.flows) w.self-inside-is ∙ w.push_reserved.ensures.capacity ∙ c.loop-number.invariant.1
        | in_default w ↦ ap (λ k. vec_capacity k.flows) w.self-inside-is ∙ c.loop-number.invariant.1
      ],
      omega (arith, c.reaction_count-number-end.ensures.value, ap (λ (n : Network). length n.reactions) c.network.ensures.value),
    )

-- all turns are done where the loop ends
done : (net : Network) (c : List ℚ) (flows : List Flow) (p : Progress) (r : ℕ) → Turned net c flows p r → r ≡ length net.reactions → Turned net c flows p (length net.reactions)
done net c flows p r t e = subst (Turned net c flows p) e t

none_left : (c : After-loop-number) → Turned c.args.replay.now.network c.args.replay.now.state c.loop-number.self-inside.flows.items c.loop-number.replay (length c.args.replay.now.network.reactions)
none_left c =
    done c.args.replay.now.network c.args.replay.now.state c.loop-number.self-inside.flows.items c.loop-number.replay (c.loop-number.number - 1) c.loop-number.invariant.0
    (omega (arith, c.loop-number.invariant.2, c.loop-number-test.false, c.loop-number.auto.number, c.loop-number.auto.number-end, c.reaction_count-number-end.ensures.value, ap (λ (n : Network). length n.reactions) c.network.ensures.value))

last_done : (c : Else-number-number-end) → Turned c.args.replay.now.network c.args.replay.now.state c.match-branch-2.self-inside.flows.items c.take_turn.new.replay (length c.args.replay.now.network.reactions)
last_done c =
    done c.args.replay.now.network c.args.replay.now.state c.match-branch-2.self-inside.flows.items c.take_turn.new.replay c.loop-number.number (turned_Else c)
    (omega (arith, c.reaction_count-number-end.ensures.value, ap (λ (n : Network). length n.reactions) c.network.ensures.value))

pub returns-clause-cause : goal.returns-clause-cause
returns-clause-cause c = (none_left (goal.at.returns-clause-cause c).After-loop-number).fits

pub returns-clause-ok : goal.returns-clause-ok
returns-clause-ok c = (none_left (goal.at.returns-clause-ok c).After-loop-number).kept

pub returns-after-branch-2-clause-cause : goal.returns-after-branch-2-clause-cause
returns-after-branch-2-clause-cause c = (last_done (goal.at.returns-after-branch-2-clause-cause c).Else-number-number-end).fits

pub returns-after-branch-2-clause-ok : goal.returns-after-branch-2-clause-ok
returns-after-branch-2-clause-ok c = (last_done (goal.at.returns-after-branch-2-clause-ok c).Else-number-number-end).kept

pub returns-after-branch-2-clause-run : goal.returns-after-branch-2-clause-run
returns-after-branch-2-clause-run c =
    let t = turned_Else (goal.at.returns-after-branch-2-clause-run c).Else-number-number-end in
    subst (λ us. Run c.args.replay.now.network c.args.replay.now.state us c.take_turn.new.replay.state) (sym t.kept) t.run

refused : (c : In_err-flow) → completion_refusal_to c.args.replay.now.network (length c.args.replay.now.network.reactions) c.args.replay.now.state ≡ Some c.in_err-flow.field-0.0
refused c =
    turned_refuses c.args.replay.now.network c.args.replay.now.state c.loop-number.self-inside.flows.items c.loop-number.replay c.loop-number.number (omega arith) c.loop-number.invariant.0
    c.in_err-flow.field-0.0 (omega (arith, c.reaction_count-number-end.ensures.value, ap (λ (n : Network). length n.reactions) c.network.ensures.value))
    c.in_err-flow.ensures.err.0 c.in_err-flow.ensures.err.1

pub returns-in_err-flow-clause-cause : goal.returns-in_err-flow-clause-cause
returns-in_err-flow-clause-cause c =
    let p = err_from_is_err_and c.from_residual.result c.from_residual.ensures.1 in
    rw (p.1, p.2) (turned_refuses c.args.replay.now.network c.args.replay.now.state c.loop-number.self-inside.flows.items c.loop-number.replay c.loop-number.number (omega arith) c.loop-number.invariant.0
    c.in_err-flow.field-0.0 (omega (arith, c.reaction_count-number-end.ensures.value, ap (λ (n : Network). length n.reactions) c.network.ensures.value))
    c.in_err-flow.ensures.err.0 c.in_err-flow.ensures.err.1)

pub returns-in_err-flow-clause-refused : goal.returns-in_err-flow-clause-refused
returns-in_err-flow-clause-refused c =
    let p = err_from_is_err_and c.from_residual.result c.from_residual.ensures.1 in
    rw (p.1, p.2) (refused_completion c.args.replay.now.network c.network.ensures.valid c.args.replay.now.state _ (refused (goal.at.returns-in_err-flow-clause-refused c).In_err-flow))

pub returns-clause-fits : goal.returns-clause-fits
returns-clause-fits c =
    (λ _. completion_fits c.args.replay.now.network c.network.ensures.valid.reactions c.args.replay.now.state (none_left (goal.at.returns-clause-fits c).After-loop-number).fits, λ _. refl)

pub returns-clause-exhausted : goal.returns-clause-exhausted
returns-clause-exhausted c =
    all_exhausted c.args.replay.now.network c.network.ensures.valid c.args.replay.now.state c.network.ensures.reached _ _ (none_left (goal.at.returns-clause-exhausted c).After-loop-number)

pub returns-clause-settled : goal.returns-clause-settled
returns-clause-settled c =
    all_settled c.args.replay.now.network c.network.ensures.valid c.args.replay.now.state c.network.ensures.reached _ _ (none_left (goal.at.returns-clause-settled c).After-loop-number)

pub returns-after-branch-2-clause-fits : goal.returns-after-branch-2-clause-fits
returns-after-branch-2-clause-fits c =
    (λ _. completion_fits c.args.replay.now.network c.network.ensures.valid.reactions c.args.replay.now.state (last_done (goal.at.returns-after-branch-2-clause-fits c).Else-number-number-end).fits, λ _. refl)

pub returns-after-branch-2-clause-exhausted : goal.returns-after-branch-2-clause-exhausted
returns-after-branch-2-clause-exhausted c =
    all_exhausted c.args.replay.now.network c.network.ensures.valid c.args.replay.now.state c.network.ensures.reached _ _ (last_done (goal.at.returns-after-branch-2-clause-exhausted c).Else-number-number-end)

pub returns-after-branch-2-clause-settled : goal.returns-after-branch-2-clause-settled
returns-after-branch-2-clause-settled c =
    all_settled c.args.replay.now.network c.network.ensures.valid c.args.replay.now.state c.network.ensures.reached _ _ (last_done (goal.at.returns-after-branch-2-clause-settled c).Else-number-number-end)

pub returns-in_err-flow-clause-fits : goal.returns-in_err-flow-clause-fits
returns-in_err-flow-clause-fits c =
    let p = err_from_is_err_and c.from_residual.result c.from_residual.ensures.1 in
    rw p.1 (
      λ h. absurd (cc h),
      λ k. let e : None ≡ Some c.in_err-flow.field-0.0 = sym (fitting_completion c.args.replay.now.network c.network.ensures.valid.reactions c.args.replay.now.state k) ∙ refused (goal.at.returns-in_err-flow-clause-fits c).In_err-flow in absurd (cc e),
    )
