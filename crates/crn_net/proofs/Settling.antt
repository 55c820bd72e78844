-- Confluence of feed-forward networks, and what settles.
use Rattle.std.proofs.Common.{◌≡◌, ℕ, ◌≤◌, List, [], ◌∷◌, length, sym, ◌∙◌, ap, ap₂, subst, le_refl}
use Rattle.std.specs.Prelude.{pos}
use Rattle.crn_fraction.proofs.Linear.{≤ℚ_trans, +ℚ-≤ℚ_left}
use Rattle.crn_fraction.proofs.Order.{≤ℚ_refl}
use Rattle.crn_fraction.proofs.Products.{≤ℚ_of_whole-*ℚ}
use Rattle.crn_fraction.proofs.Ring.{+ℚ-zero, +ℚ_cancel_right}
use Rattle.crn_fraction.specs.Rational.{ℚ, 0ℚ, ◌+ℚ◌, ◌-ℚ◌, ◌*ℚ◌, ◌≤ℚ◌, whole}
use Rattle.crn_net.proofs.Balance.{flux_not_negative, leads_on, all_lead}
use Rattle.crn_net.proofs.Completion.{run_end, run_not_negative, completion_runs, completion_exhausts}
use Rattle.crn_net.proofs.Exhausted.{SameAmounts, stays, length-after_all, same_states}
use Rattle.crn_net.proofs.Made.{flux_is}
use Rattle.crn_net.proofs.Sums.{sum_cong}
use Rattle.crn_net.proofs.Taken.{greatest_flux_fits, greatest_flux_uses}
use Rattle.crn_net.specs.Network.{Network, Flow, Ends, Pair, One, amount, flux_of, taken, given, after, Run, value_at, output, greatest_flux, completion, completed, start, IsFeedForward, IsNotNegative, AreReactions, IsNetwork, IsState, IsEnds, Rails, Dual, Direct, StablyComputes}
use Rattle.crn_net.specs.Totals.{total, IsConfluent, taken_by, given_by, Leads, IsGreatest, IsComplete}

pub same_output : (net : Network) (c d : List ℚ) → IsEnds net.rails net.species net.output → SameAmounts net c d → output net c ≡ output net d
same_output net c d ok h = go net.rails net.output ok
  where
    go : (r : Rails) (e : Ends) → IsEnds r net.species e → value_at e (amount c) ≡ value_at e (amount d)
    go Dual (Pair a b) k = ap₂ (λ x y. x -ℚ y) (h a k.0 k.1) (h b k.2 k.3)
    go Dual (One a) k = absurd k
    go Direct (Pair a b) k = absurd k
    go Direct (One a) k = h a k.0 k.1

-- ---- confluence

module _ (net : Network) (ok : IsNetwork net) (ff : IsFeedForward net) (a : List ℚ) (nn : IsNotNegative a) (us : List (List Flow)) (c : List ℚ) (run : Run net a us c) where
  leads_through : Leads net a (λ r. total us r +ℚ total (completion net c) r) (completed net c)
  leads_through =
      leads_on net a c (completed net c) (total us) (total (completion net c))
      (subst (λ d. Leads net a (total us) d) (sym (run_end net us a c run)) (all_lead net us a)) (all_lead net (completion net c) c)

  pub confluent_flux : (r : ℕ) → 1 ≤ r → r ≤ length net.reactions → total us r +ℚ total (completion net c) r ≡ total (completion net a) r
  confluent_flux r low high =
      let here : IsNotNegative c = run_not_negative net us a c nn run in
      let m : ℕ = length net.reactions in
      flux_is net ok.reactions ff a (completed net c) (λ r. total us r +ℚ total (completion net c) r) leads_through
      (run_not_negative net (completion net c) c (completed net c) here (completion_runs net ok.reactions ff c here))
      m (le_refl m) (completion_exhausts net ok.reactions ff c here) r low high
      ∙ sym (flux_is net ok.reactions ff a (completed net a) (total (completion net a)) (all_lead net (completion net a) a)
      (run_not_negative net (completion net a) a (completed net a) nn (completion_runs net ok.reactions ff a nn))
      m (le_refl m) (completion_exhausts net ok.reactions ff a nn) r low high)

  pub confluent_amounts : SameAmounts net (completed net c) (completed net a)
  confluent_amounts s low high =
      let t : ℕ → ℚ = λ r. total us r +ℚ total (completion net c) r in
      let w : ℕ → ℚ = total (completion net a) in
      let taken_same : taken_by net t s ≡ taken_by net w s = sum_cong _ _ _ (λ r l k. ap (λ x. whole (pos (taken net r s)) *ℚ x) (confluent_flux r l k)) in
      let given_same : given_by net t s ≡ given_by net w s = sum_cong _ _ _ (λ r l k. ap (λ x. whole (pos (given net r s)) *ℚ x) (confluent_flux r l k)) in
      +ℚ_cancel_right _ _ (taken_by net t s)
      (leads_through s low high ∙ ap (λ x. amount a s +ℚ x) given_same ∙ sym (all_lead net (completion net a) a s low high) ∙ ap (λ x. amount (completed net a) s +ℚ x) (sym taken_same))

-- a feed-forward network stably computes what the completion from the start puts out
pub computes : (net : Network) → IsNetwork net → IsFeedForward net → (xs : List ℚ) (v : ℚ) → IsNotNegative (start net xs) → output net (completed net (start net xs)) ≡ v → StablyComputes net xs v
computes net ok ff xs v nn is = record {
  completes = λ us c run. completion_runs net ok.reactions ff c (run_not_negative net us _ c nn run);
  settles = λ us c run vs d more.
      let here : IsNotNegative c = run_not_negative net us _ c nn run in
      same_output net d (completed net c) ok.output (stays net vs (completed net c) d (completion_exhausts net ok.reactions ff c here) more)
      ∙ same_output net (completed net c) (completed net (start net xs)) ok.output (confluent_amounts net ok ff (start net xs) nn us c run)
      ∙ is;
}

-- ---- the theorems

-- a run has no negative flux
pub total_not_negative : (net : Network) (us : List (List Flow)) (c d : List ℚ) → Run net c us d → (r : ℕ) → 0ℚ ≤ℚ total us r
total_not_negative net [] c d h r = ≤ℚ_refl 0ℚ
total_not_negative net (u ∷ us) c d h r =
    ≤ℚ_trans _ _ _ (flux_not_negative (length net.reactions) u r h.0.flows) (subst (λ x. x ≤ℚ flux_of u r +ℚ total us r) (+ℚ-zero _) (+ℚ-≤ℚ_left 0ℚ (total us r) (flux_of u r) (total_not_negative net us (after net c u) d h.1 r)))

no_more : (x y z : ℚ) → 0ℚ ≤ℚ y → x +ℚ y ≡ z → x ≤ℚ z
no_more x y z h e = subst (λ w. x ≤ℚ w) e (subst (λ w. w ≤ℚ x +ℚ y) (+ℚ-zero x) (+ℚ-≤ℚ_left 0ℚ y x h))

-- the greatest flux is one that the reactants allow, and no smaller than any
pub greatest_flux_is : (net : Network) → AreReactions net → (r : ℕ) → 1 ≤ r → r ≤ length net.reactions → (c : List ℚ) → IsGreatest net r c (greatest_flux net r (amount c))
greatest_flux_is net ok r low high c = record {
  enough = λ s t. greatest_flux_fits net ok r low high (amount c) s t;
  most = λ v h. let (s, t, e) = greatest_flux_uses net ok r low high (amount c) in
      ≤ℚ_of_whole-*ℚ v (greatest_flux net r (amount c)) (taken net r s) t (subst (λ x. whole (pos (taken net r s)) *ℚ v ≤ℚ x) (sym e) (h s t));
}

-- the completion is a run that exhausts
pub completes : (net : Network) → IsNetwork net → IsFeedForward net → (a : List ℚ) → IsState net a → IsComplete net a
completes net ok ff a st = record {
  run = completion_runs net ok.reactions ff a st.not_negative;
  exhausted = completion_exhausts net ok.reactions ff a st.not_negative;
}

pub confluent : (net : Network) → IsNetwork net → IsFeedForward net → (a : List ℚ) → IsState net a → IsConfluent net a
confluent net ok ff a st = record {
  same_flux = λ us c run. confluent_flux net ok ff a st.not_negative us c run;
  at_most = λ us c run r low high.
      no_more _ _ _ (total_not_negative net (completion net c) c _ (completion_runs net ok.reactions ff c (run_not_negative net us a c st.not_negative run)) r)
      (confluent_flux net ok ff a st.not_negative us c run r low high);
  same_end = λ us c run.
      let long : length c ≡ net.species = ap length (run_end net us a c run) ∙ length-after_all net us a st.long in
      same_states net _ _ (length-after_all net (completion net c) c long) (length-after_all net (completion net a) a st.long)
      (confluent_amounts net ok ff a st.not_negative us c run);
  exhausted = completion_exhausts net ok.reactions ff a st.not_negative;
}
