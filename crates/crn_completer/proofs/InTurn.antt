-- The completion, turn by turn.
use Rattle.std.proofs.Common.{◌≡◌, ℕ, zero, suc, ◌+◌, ◌-◌, ◌≤◌, List, [], ◌∷◌, ◌++◌, length, Option, Some, None, refl, sym, ◌∙◌, ap, ap₂, subst, arith, length-append}
use Rattle.std.proofs.lemmas.List.{map-append}
use Rattle.std.specs.Option.{option_or, option_map, option_to_list}
use Rattle.crn_fraction.specs.Rational.{ℚ}
use Rattle.crn_net.proofs.Completion.{run_end, run-append, run_not_negative}
use Rattle.crn_net.proofs.Exhausted.{length-after_all, is_settled}
use Rattle.crn_net.proofs.Settling.{completes}
use Rattle.crn_net.specs.Network.{Network, IsNetwork, IsState, IsFeedForward, IsSettled, Run, after_all, output, with_greatest, completion_to, completion, completed}
use Rattle.crn_net.specs.Totals.{IsExhausted}
use Rattle.crn_net.specs.declared.Flow.{Flow}
use Rattle.crn_segments.specs.Progress.{Progress}
use Rattle.crn_completer.specs.Kept.{each_alone}
use Rattle.crn_completer.specs.Refusal.{turn_refusal, completion_refusal_to}
use Rattle.crn_completer.specs.declared.CompletionTooBig.{CompletionTooBig}

-- the turns of the first r reactions from c have kept these flows, and led to p
pub record Turned (net : Network) (c : List ℚ) (flows : List Flow) (p : Progress) (r : ℕ) : Type 0 where
  pub fits : completion_refusal_to net r c ≡ None
  pub kept : each_alone flows ≡ completion_to net r c
  pub run : Run net c (completion_to net r c) p.state
  pub network : p.network ≡ net
  pub short : length flows ≤ r

pub turned_none : (p : Progress) → Turned p.network p.state [] p 0
unfolding completion_refusal_to completion_to
turned_none p = record { fits = refl; kept = refl; run = refl; network = refl; short = omega arith }

-- what one turn does, seen from the state that the turns before it led to
here : (net : Network) (c : List ℚ) (flows : List Flow) (p : Progress) (r : ℕ) → Turned net c flows p r → (P : Network → List ℚ → Type 0) → P p.network p.state → P net (after_all net c (completion_to net r c))
here net c flows p r t P h =
    subst (λ d. P net d) (run_end net (completion_to net r c) c p.state t.run) (subst (λ n. P n p.state) t.network h)

at_most_one : (o : Option Flow) → length (option_to_list o) ≤ 1
at_most_one None = omega arith
at_most_one (Some x) = omega arith

pub turned_more : (net : Network) (c : List ℚ) (flows : List Flow) (p q : Progress) (r : ℕ) (o : Option Flow) → Turned net c flows p r →
    turn_refusal p.network (suc r) p.state ≡ None → each_alone (option_to_list o) ≡ with_greatest p.network (suc r) p.state →
    Run p.network p.state (with_greatest p.network (suc r) p.state) q.state → q.network ≡ p.network → Turned net c (flows ++ option_to_list o) q (suc r)
unfolding completion_refusal_to completion_to
turned_more net c flows p q r o t fits kept run same =
    let d : List ℚ = after_all net c (completion_to net r c) in
    let ends : p.state ≡ d = run_end net (completion_to net r c) c p.state t.run in
    let fits' : turn_refusal net (suc r) d ≡ None = here net c flows p r t (λ n s. turn_refusal n (suc r) s ≡ None) fits in
    let kept' : each_alone (option_to_list o) ≡ with_greatest net (suc r) d = here net c flows p r t (λ n s. each_alone (option_to_list o) ≡ with_greatest n (suc r) s) kept in
    let run' : Run net d (with_greatest net (suc r) d) q.state = here net c flows p r t (λ n s. Run n s (with_greatest n (suc r) s) q.state) run in
    record {
      fits = ap₂ option_or t.fits (ap (option_map (λ s. let e : CompletionTooBig = record { reaction = suc r; species = s } in e)) fits');
      kept = map-append (λ (f : Flow). f ∷ []) flows (option_to_list o) ∙ ap₂ (λ x y. x ++ y) t.kept kept';
      run = run-append net (completion_to net r c) (with_greatest net (suc r) d) c d q.state (subst (λ s. Run net c (completion_to net r c) s) ends t.run) run';
      network = same ∙ t.network;
      short = omega (arith, t.short, at_most_one o, length-append flows (option_to_list o));
    }

pub turned_stops : (net : Network) (c : List ℚ) (flows : List Flow) (p : Progress) (r s : ℕ) → Turned net c flows p r → turn_refusal p.network (suc r) p.state ≡ Some s →
    completion_refusal_to net (suc r) c ≡ Some (record { reaction = suc r; species = s })
unfolding completion_refusal_to
turned_stops net c flows p r s t h =
    ap₂ option_or t.fits (ap (option_map (λ s. let e : CompletionTooBig = record { reaction = suc r; species = s } in e)) (here net c flows p r t (λ n d. turn_refusal n (suc r) d ≡ Some s) h))

-- a refusal is kept
pub refusal_stays : (net : Network) (c : List ℚ) (e : CompletionTooBig) (r more : ℕ) → completion_refusal_to net r c ≡ Some e → completion_refusal_to net (more + r) c ≡ Some e
unfolding completion_refusal_to
refusal_stays net c e r zero h = subst (λ n. completion_refusal_to net n c ≡ Some e) (let same : r ≡ zero + r = omega arith in same) h
refusal_stays net c e r (suc more) h =
    let same : suc (more + r) ≡ suc more + r = omega arith in
    subst (λ n. completion_refusal_to net n c ≡ Some e) same
    (ap (λ o. option_or o (option_map (λ s. let e : CompletionTooBig = record { reaction = suc (more + r); species = s } in e) (turn_refusal net (suc (more + r)) (after_all net c (completion_to net (more + r) c)))))
    (refusal_stays net c e r more h))

-- by the number of the reaction
module _ (net : Network) (c : List ℚ) (flows : List Flow) (p : Progress) (n : ℕ) (low : 1 ≤ n) (t : Turned net c flows p (n - 1)) where
  number : suc (n - 1) ≡ n
  number = omega arith

  pub turned_next : (q : Progress) (o : Option Flow) → turn_refusal p.network n p.state ≡ None → each_alone (option_to_list o) ≡ with_greatest p.network n p.state →
      Run p.network p.state (with_greatest p.network n p.state) q.state → q.network ≡ p.network → Turned net c (flows ++ option_to_list o) q n
  turned_next q o fits kept run same =
      subst (Turned net c (flows ++ option_to_list o) q) number
      (turned_more net c flows p q (n - 1) o t (subst (λ k. turn_refusal p.network k p.state ≡ None) (sym number) fits)
      (subst (λ k. each_alone (option_to_list o) ≡ with_greatest p.network k p.state) (sym number) kept)
      (subst (λ k. Run p.network p.state (with_greatest p.network k p.state) q.state) (sym number) run) same)

  pub turned_refuses : (e : CompletionTooBig) → n ≤ length net.reactions → e.reaction ≡ n → turn_refusal p.network n p.state ≡ Some e.species → completion_refusal_to net (length net.reactions) c ≡ Some e
  turned_refuses e high at h =
      let same : suc (n - 1) ≡ e.reaction = number ∙ sym at in
      let first : completion_refusal_to net (suc (n - 1)) c ≡ Some (record { reaction = suc (n - 1); species = e.species }) =
      turned_stops net c flows p (n - 1) e.species t (subst (λ k. turn_refusal p.network k p.state ≡ Some e.species) (sym number) h) in
      let all : (length net.reactions - n) + suc (n - 1) ≡ length net.reactions = omega arith in
      subst (λ k. completion_refusal_to net k c ≡ Some e) all
      (refusal_stays net c e (suc (n - 1)) (length net.reactions - n)
      (first ∙ ap (λ r. let e : CompletionTooBig = record { reaction = r; species = e.species } in Some e) same))

-- ---- all turns are done

module _ (net : Network) (ok : IsNetwork net) (c : List ℚ) (state : IsState net c) (flows : List Flow) (p : Progress) (t : Turned net c flows p (length net.reactions)) where
  ends : p.state ≡ completed net c
  ends = run_end net (completion net c) c p.state t.run

  pub all_exhausted : IsFeedForward net → IsExhausted net p.state
  all_exhausted forward = subst (IsExhausted net) (sym ends) (completes net ok forward c state).exhausted

  pub all_settled : IsFeedForward net → IsSettled net p.state (output net p.state)
  all_settled forward =
      let there : IsState net p.state = record {
        long = ap length ends ∙ length-after_all net (completion net c) c state.long;
        not_negative = run_not_negative net (completion net c) c p.state state.not_negative t.run;
      } in
      is_settled net p.state there (all_exhausted forward)
