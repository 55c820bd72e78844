-- Confluence, by the flows that a completer keeps.
use Rattle.std.proofs.Common.{◌≡◌, ℕ, ◌≤◌, List, [], ◌∷◌, length, refl, sym, ◌∙◌, ap, ap₂, subst}
use Rattle.crn_fraction.proofs.Ring.{+ℚ-zero}
use Rattle.crn_fraction.specs.Rational.{ℚ, ◌+ℚ◌, ◌≤ℚ◌}
use Rattle.crn_net.proofs.Settling.{confluent}
use Rattle.crn_net.specs.Network.{Network, IsNetwork, IsState, IsFeedForward, Run, flux_of, completion, completed}
use Rattle.crn_net.specs.Totals.{total}
use Rattle.crn_net.specs.declared.Flow.{Flow}
use Rattle.crn_completer.specs.Kept.{each_alone}

total_alone : (fs : List Flow) (r : ℕ) → total (each_alone fs) r ≡ flux_of fs r
total_alone [] r = refl
total_alone (f ∷ fs) r = ap₂ (λ x y. x +ℚ y) (+ℚ-zero _) (total_alone fs r)

module _ (net : Network) (ok : IsNetwork net) (forward : IsFeedForward net) (a : List ℚ) (state : IsState net a) (us : List (List Flow)) (c : List ℚ) (run : Run net a us c) where
  pub flux_splits : (all rest : List Flow) → each_alone all ≡ completion net a → each_alone rest ≡ completion net c → (r : ℕ) → 1 ≤ r → r ≤ length net.reactions → total us r +ℚ flux_of rest r ≡ flux_of all r
  flux_splits all rest h k r low high =
      ap (λ x. total us r +ℚ x) (sym (total_alone rest r) ∙ ap (λ vs. total vs r) k)
      ∙ (confluent net ok forward a state).same_flux us c run r low high
      ∙ sym (ap (λ vs. total vs r) h) ∙ total_alone all r

  pub flux_at_most : (all : List Flow) → each_alone all ≡ completion net a → (r : ℕ) → 1 ≤ r → r ≤ length net.reactions → total us r ≤ℚ flux_of all r
  flux_at_most all h r low high =
      subst (λ x. total us r ≤ℚ x) (sym (ap (λ vs. total vs r) h) ∙ total_alone all r) ((confluent net ok forward a state).at_most us c run r low high)

  pub ends_same : completed net c ≡ completed net a
  ends_same = (confluent net ok forward a state).same_end us c run
