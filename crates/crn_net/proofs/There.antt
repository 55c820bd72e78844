-- What is there of a species at some time is at most what is made of it in the end.
use Rattle.std.proofs.Common.{◌≡◌, ℕ, zero, suc, ◌≤◌, List, [], ◌∷◌, ◌++◌, length, sym, ◌∙◌, ap, subst}
use Rattle.std.specs.Prelude.{pos}
use Rattle.crn_fraction.proofs.Linear.{≤ℚ_trans, +ℚ-≤ℚ, +ℚ-≤ℚ_left}
use Rattle.crn_fraction.proofs.Order.{≤ℚ_refl}
use Rattle.crn_fraction.proofs.Products.{whole-*ℚ-≤ℚ}
use Rattle.crn_fraction.proofs.Ring.{+ℚ-zero, zero-+ℚ, +ℚ_assoc, +ℚ_left_comm, *ℚ-zero}
use Rattle.crn_fraction.specs.Rational.{ℚ, 0ℚ, ◌+ℚ◌, ◌*ℚ◌, ◌≤ℚ◌, whole}
use Rattle.crn_net.proofs.Balance.{taken-add, all_lead}
use Rattle.crn_net.proofs.Completion.{run_end}
use Rattle.crn_net.proofs.Settling.{total_not_negative}
use Rattle.crn_net.proofs.Sums.{sum_cong}
use Rattle.crn_net.specs.Network.{Network, amount, sum_to, flux_of, taken, given, Run}
use Rattle.crn_net.specs.declared.Flow.{Flow}
use Rattle.crn_net.specs.Totals.{total, taken_by, given_by, Leads, made_in}

-- the total flux of runs one after another
pub total-append : (us vs : List (List Flow)) (r : ℕ) → total (us ++ vs) r ≡ total us r +ℚ total vs r
total-append [] vs r = sym (zero-+ℚ _)
total-append (u ∷ us) vs r = ap (λ x. flux_of u r +ℚ x) (total-append us vs r) ∙ sym (+ℚ_assoc _ _ _)

-- a sum is not negative, and a sum is at least its first part
sum_of_two : (a b : ℚ) → 0ℚ ≤ℚ b → a ≤ℚ a +ℚ b
sum_of_two a b h = subst (λ x. x ≤ℚ a +ℚ b) (+ℚ-zero a) (+ℚ-≤ℚ_left 0ℚ b a h)

counts_not_negative : (n : ℕ) (f : ℕ → ℕ) (u : ℕ → ℚ) → ((r : ℕ) → 0ℚ ≤ℚ u r) → 0ℚ ≤ℚ sum_to n (λ r. whole (pos (f r)) *ℚ u r)
counts_not_negative zero f u h = ≤ℚ_refl 0ℚ
counts_not_negative (suc n) f u h =
    ≤ℚ_trans _ _ _ (counts_not_negative n f u h)
    (sum_of_two _ _ (subst (λ x. x ≤ℚ whole (pos (f (suc n))) *ℚ u (suc n)) (*ℚ-zero (whole (pos (f (suc n))))) (whole-*ℚ-≤ℚ 0ℚ (u (suc n)) (f (suc n)) (h (suc n)))))

pub there_made : (net : Network) (us vs : List (List Flow)) (a c d : List ℚ) → Run net a us c → Run net c vs d → (s : ℕ) → 1 ≤ s → s ≤ net.species → amount c s ≤ℚ made_in net (us ++ vs) d s
there_made net us vs a c d h k s low high =
    let leads : Leads net c (total vs) d = subst (λ e. Leads net c (total vs) e) (sym (run_end net vs c d k)) (all_lead net vs c) in
    let early : 0ℚ ≤ℚ taken_by net (total us) s = counts_not_negative (length net.reactions) (λ r. taken net r s) (total us) (total_not_negative net us a c h) in
    let late : 0ℚ ≤ℚ given_by net (total vs) s = counts_not_negative (length net.reactions) (λ r. given net r s) (total vs) (total_not_negative net vs c d k) in
    let all : made_in net (us ++ vs) d s ≡ taken_by net (total us) s +ℚ (amount c s +ℚ given_by net (total vs) s) =
    ap (λ x. amount d s +ℚ x) (sum_cong (length net.reactions) _ _ (λ r _ _. ap (λ x. whole (pos (taken net r s)) *ℚ x) (total-append us vs r)) ∙ taken-add net (total us) (total vs) s)
    ∙ +ℚ_left_comm (amount d s) (taken_by net (total us) s) (taken_by net (total vs) s)
    ∙ ap (λ x. taken_by net (total us) s +ℚ x) (leads s low high) in
    subst (λ x. amount c s ≤ℚ x) (sym all)
    (≤ℚ_trans _ _ _ (sum_of_two (amount c s) (given_by net (total vs) s) late)
    (subst (λ x. x ≤ℚ taken_by net (total us) s +ℚ (amount c s +ℚ given_by net (total vs) s)) (zero-+ℚ (amount c s +ℚ given_by net (total vs) s))
    (+ℚ-≤ℚ 0ℚ (taken_by net (total us) s) (amount c s +ℚ given_by net (total vs) s) early)))
