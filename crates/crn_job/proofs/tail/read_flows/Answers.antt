use Rattle.std.proofs.Common.{◌≡◌, suc, ◌-◌, ◌<◌, length, map, sym, subst, ◌∙◌, ap, arith, eqb-true, false-eqb, length-drop, length-append, ◌++◌, ◌∷◌, []}
use Rattle.std.specs.Option.{option_map}
use Rattle.crn_token.specs.Plain.{plain_token}
use Rattle.crn_job.specs.Grammar.{flows_of}
use Rattle.crn_job.proofs.Flows.{flows_more, flows_none, flows_end}
use Rattle.crn_job.proofs.tail.read_flows.Goals as goal

pub flows-smaller : goal.flows-smaller
flows-smaller c =
    let some : 0 < length c.flows.rest.now = omega (arith, false-eqb _ 0 c.flows-test.ensures) in
    let shorter : length c.after-rest.result.now < length c.flows.rest.now = omega (arith, some, c.in-Some.ensures.taken, ap length c.after-rest.ensures, length-drop c.in-Some.taken c.flows.rest.now) in
    shorter

pub flows-preserved : goal.flows-preserved
flows-preserved c =
    let some : 0 < length c.flows.rest.now = omega (arith, false-eqb _ 0 c.flows-test.ensures) in
    let fs = c.flows.flows.items in
    let f = c.in-Some.flow in
    let ts = c.args.tokens.now in
    let one = length-append fs (f ∷ []) in
    let shorter : length c.after-rest.result.now < length c.flows.rest.now = omega (arith, some, c.in-Some.ensures.taken, ap length c.after-rest.ensures, length-drop c.in-Some.taken c.flows.rest.now) in
    record {
      few = omega (arith, shorter, c.flows.invariant.few, ap length c.in_ok-push-in-Some.ensures.items, one);
      told = λ bytes.
          let fuel : length ts - length fs ≡ suc (length ts - length (fs ++ f ∷ [])) = omega (arith, some, c.flows.invariant.few, one) in
          subst (λ xs. option_map (λ gs. xs ++ gs) (flows_of (length ts - length xs) (map (plain_token bytes) c.after-rest.result.now)) ≡ flows_of (length ts) (map (plain_token bytes) ts)) (sym c.in_ok-push-in-Some.ensures.items)
          (flows_more (length ts - length fs) (length ts - length (fs ++ f ∷ [])) bytes fs f c.in-Some.taken c.flows.rest.now c.after-rest.result.now fuel some (c.in-Some.ensures.value bytes) c.after-rest.ensures
          ∙ c.flows.invariant.told bytes);
    }

pub returns-in-None : goal.returns-in-None
returns-in-None c = λ bytes.
    let some : 0 < length c.flows.rest.now = omega (arith, false-eqb _ 0 c.flows-test.ensures) in
    let fuel : length c.args.tokens.now - length c.flows.flows.items ≡ suc (length c.args.tokens.now - length c.flows.flows.items - 1) = omega (arith, some, c.flows.invariant.few) in
    sym (sym (c.flows.invariant.told bytes) ∙ flows_none _ _ bytes c.flows.flows.items c.flows.rest.now fuel some (c.in-None.ensures.value bytes))

pub returns : goal.returns
returns c = λ bytes.
    let none : length c.flows.rest.now ≡ 0 = eqb-true _ 0 (sym c.flows-test.ensures) in
    sym (sym (c.flows.invariant.told bytes) ∙ flows_end _ bytes c.flows.flows.items c.flows.rest.now none)
