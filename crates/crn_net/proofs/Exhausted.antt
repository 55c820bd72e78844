-- Where each reaction lacks a reactant nothing can happen, so that every run leads nowhere.
use Rattle.std.proofs.Common.{◌≡◌, ℕ, suc, ◌≤◌, List, [], ◌∷◌, length, sym, ◌∙◌, ap, subst, ⊎_elim, arith, ext_get_or}
use Rattle.std.proofs.lemmas.List.FromFn.{length-map-range_with_len}
use Rattle.std.specs.Prelude.{pos}
use Rattle.crn_fraction.proofs.Linear.{not_<ℚ}
use Rattle.crn_fraction.proofs.Order.{≤ℚ_or_<ℚ, ≤ℚ_refl, ≤ℚ_antisymm}
use Rattle.crn_fraction.proofs.Ring.{+ℚ-zero, *ℚ-zero}
use Rattle.crn_fraction.specs.Rational.{ℚ, 0ℚ, ◌+ℚ◌, ◌*ℚ◌, ◌≤ℚ◌, ◌<ℚ◌, whole}
use Rattle.crn_net.proofs.Balance.{amount-outside, flux_not_negative, flux_outside, after-leads}
use Rattle.crn_net.proofs.Completion.{run_end}
use Rattle.crn_net.proofs.Sums.{sum_none}
use Rattle.crn_net.specs.Network.{Network, Flow, amount, sum_to, flux_of, taken, given, after, after_all, output, IsLegal, IsSettled, IsState, Run}
use Rattle.crn_net.specs.Totals.{LacksReactant, IsExhausted}

-- ---- states with the same amounts

abbrev pub SameAmounts : Network → List ℚ → List ℚ → Type 0
SameAmounts net c d = (s : ℕ) → 1 ≤ s → s ≤ net.species → amount c s ≡ amount d s

length-after : (net : Network) (c : List ℚ) (u : List Flow) → length (after net c u) ≡ net.species
unfolding after
length-after net c u = length-map-range_with_len _ 1 net.species

pub length-after_all : (net : Network) (us : List (List Flow)) (c : List ℚ) → length c ≡ net.species → length (after_all net c us) ≡ net.species
length-after_all net [] c h = h
length-after_all net (u ∷ us) c h = length-after_all net us (after net c u) (length-after net c u)

pub same_states : (net : Network) (c d : List ℚ) → length c ≡ net.species → length d ≡ net.species → SameAmounts net c d → c ≡ d
same_states net c d h k same = ext_get_or 0ℚ c d (h ∙ sym k) (λ i l. same (suc i) (omega arith) (omega arith))

-- ---- nothing happens where each reaction lacks a reactant

no_flux_left : (net : Network) (c : List ℚ) (u : List Flow) → IsExhausted net c → IsLegal net c u → (r : ℕ) → flux_of u r ≡ 0ℚ
no_flux_left net c u x h r =
    ⊎_elim (λ (p : flux_of u r ≤ℚ 0ℚ). ≤ℚ_antisymm _ _ p (flux_not_negative (length net.reactions) u r h.flows))
    (λ (p : 0ℚ <ℚ flux_of u r).
    ⊎_elim (λ (there : (1 ≤ r) × (r ≤ length net.reactions)).
    let lack : LacksReactant net r c = x r there.0 there.1 in
    absurd (not_<ℚ _ _ (≤ℚ_refl 0ℚ) (subst (λ y. 0ℚ <ℚ y) lack.2 (h.applicable r p lack.0 lack.1))))
    (λ (out : (1 ≤ r) × (r ≤ length net.reactions) → ⊥). flux_outside (length net.reactions) u r h.flows out) (grind arith))
    (≤ℚ_or_<ℚ (flux_of u r) 0ℚ)

no_sum : (net : Network) (c : List ℚ) (u : List Flow) → IsExhausted net c → IsLegal net c u → (f : ℕ → ℕ) → sum_to (length net.reactions) (λ r. whole (pos (f r)) *ℚ flux_of u r) ≡ 0ℚ
no_sum net c u x h f = sum_none _ _ (λ r _ _. ap (λ y. whole (pos (f r)) *ℚ y) (no_flux_left net c u x h r) ∙ *ℚ-zero _)

nothing_moves : (net : Network) (c : List ℚ) (u : List Flow) → IsExhausted net c → IsLegal net c u → SameAmounts net (after net c u) c
nothing_moves net c u x h s low high =
    sym (+ℚ-zero _) ∙ ap (λ y. amount (after net c u) s +ℚ y) (sym (no_sum net c u x h (λ r. taken net r s))) ∙ after-leads net c u s low high
    ∙ ap (λ y. amount c s +ℚ y) (no_sum net c u x h (λ r. given net r s)) ∙ +ℚ-zero _

still_lacks : (net : Network) (c : List ℚ) (u : List Flow) → IsExhausted net c → IsLegal net c u → IsExhausted net (after net c u)
still_lacks net c u x h r low high =
    let lack : LacksReactant net r c = x r low high in (
      lack.0,
      lack.1,
      ⊎_elim (λ (there : (1 ≤ lack.0) × (lack.0 ≤ net.species)). nothing_moves net c u x h lack.0 there.0 there.1 ∙ lack.2)
          (λ (out : (1 ≤ lack.0) × (lack.0 ≤ net.species) → ⊥). amount-outside net c u lack.0 out) (grind arith),
    )

pub stays : (net : Network) (us : List (List Flow)) (c d : List ℚ) → IsExhausted net c → Run net c us d → SameAmounts net d c
stays net [] c d x h s low high = ap (λ e. amount e s) h
stays net (u ∷ us) c d x h s low high = stays net us (after net c u) d (still_lacks net c u x h.0) h.1 s low high ∙ nothing_moves net c u x h.0 s low high

-- the same state, as a list
pub leads_nowhere : (net : Network) (c : List ℚ) → IsState net c → IsExhausted net c → (us : List (List Flow)) (d : List ℚ) → Run net c us d → d ≡ c
leads_nowhere net c st x us d run =
    same_states net d c (ap length (run_end net us c d run) ∙ length-after_all net us c st.long) st.long (stays net us c d x run)

pub is_settled : (net : Network) (c : List ℚ) → IsState net c → IsExhausted net c → IsSettled net c (output net c)
is_settled net c st x us d run = ap (output net) (leads_nowhere net c st x us d run)
