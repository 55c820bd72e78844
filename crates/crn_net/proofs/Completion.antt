-- The completion of a feed-forward network is a run, and leaves each reaction without a reactant.
use Rattle.std.proofs.Common.{◌≡◌, ◌≢◌, ℕ, zero, suc, ◌<◌, ◌≤◌, ◌==◌, if◌then◌else◌, true, false, List, [], ◌∷◌, ◌++◌, length, refl, sym, ◌∙◌, ap, subst, ◌⊎◌, inl, inr, ⊎_elim, eq-or-lt_of_le, eq-zero-or-pos, arith, le_refl}
use Rattle.std.proofs.lemmas.Bool.Decides.{nat_tests}
use Rattle.std.specs.Prelude.{pos}
use Rattle.crn_fraction.proofs.Linear.{+ℚ-≤ℚ_left, ≤ℚ_of_+ℚ_left, not_<ℚ, ≤ℚ_trans}
use Rattle.crn_fraction.proofs.Order.{≤ℚ_or_<ℚ, ≤ℚ_of_<ℚ, ≤ℚ_refl}
use Rattle.crn_fraction.proofs.Products.{whole-*ℚ-≤ℚ, ≤ℚ_of_whole-*ℚ, is_zero_ℚ_cases, positive_of_nonneg}
use Rattle.crn_fraction.proofs.Ring.{+ℚ-zero, +ℚ_comm, *ℚ-zero, +ℚ_cancel_right}
use Rattle.crn_fraction.specs.Rational.{ℚ, 0ℚ, ◌+ℚ◌, ◌*ℚ◌, ◌≤ℚ◌, ◌<ℚ◌, whole}
use Rattle.crn_net.proofs.Balance.{amount-outside, after-leads}
use Rattle.crn_net.proofs.Sums.{sum_one}
use Rattle.crn_net.proofs.Taken.{taken_in_range, greatest_flux_fits, greatest_flux_uses}
use Rattle.crn_net.proofs.Unique.{none_of}
use Rattle.crn_net.specs.Network.{Network, Flow, amount, flux_of, taken, given, after, after_all, IsLegal, Run, alone, greatest_flux, with_greatest, completion_to, completion, completed, IsFeedForward, IsNotNegative, AreReactions}
use Rattle.crn_net.specs.Totals.{LacksReactant, IsExhausted, taken_by, given_by}

-- ---- runs end to end

pub after_all-append : (net : Network) (us vs : List (List Flow)) (c : List ℚ) → after_all net c (us ++ vs) ≡ after_all net (after_all net c us) vs
after_all-append net [] vs c = refl
after_all-append net (u ∷ us) vs c = after_all-append net us vs (after net c u)

pub run_end : (net : Network) (us : List (List Flow)) (c d : List ℚ) → Run net c us d → d ≡ after_all net c us
run_end net [] c d h = h
run_end net (u ∷ us) c d h = run_end net us (after net c u) d h.1

pub run-append : (net : Network) (us vs : List (List Flow)) (c d e : List ℚ) → Run net c us d → Run net d vs e → Run net c (us ++ vs) e
run-append net [] vs c d e h k = subst (λ x. Run net x vs e) h k
run-append net (u ∷ us) vs c d e h k = (h.0, run-append net us vs (after net c u) d e h.1 k)

pub run_not_negative : (net : Network) (us : List (List Flow)) (c d : List ℚ) → IsNotNegative c → Run net c us d → IsNotNegative d
run_not_negative net [] c d p h = subst IsNotNegative (sym h) p
run_not_negative net (u ∷ us) c d p h = run_not_negative net us (after net c u) d (λ s. h.0.enough s) h.1

-- ---- a segment of one reaction

pub flux_of_alone : (r : ℕ) (u : ℚ) → flux_of (alone r u) r ≡ u
flux_of_alone r u = ap (λ b. (if b then u else 0ℚ) +ℚ 0ℚ) same ∙ +ℚ-zero u
  where
    same : (r == r) ≡ true
    same = grind (arith, nat_tests)

pub flux_of_alone_other : (r q : ℕ) (u : ℚ) → q ≢ r → flux_of (alone r u) q ≡ 0ℚ
flux_of_alone_other r q u h = ap (λ b. (if b then u else 0ℚ) +ℚ 0ℚ) other ∙ +ℚ-zero 0ℚ
  where
    other : (r == q) ≡ false
    other = grind (arith, nat_tests)

pub taken_alone : (net : Network) (r s : ℕ) (u : ℚ) → 1 ≤ r → r ≤ length net.reactions → taken_by net (flux_of (alone r u)) s ≡ whole (pos (taken net r s)) *ℚ u
taken_alone net r s u low high =
    sum_one (length net.reactions) r (λ q. whole (pos (taken net q s)) *ℚ flux_of (alone r u) q) low high (λ q h. ap (λ x. whole (pos (taken net q s)) *ℚ x) (flux_of_alone_other r q u h) ∙ *ℚ-zero _)
    ∙ ap (λ x. whole (pos (taken net r s)) *ℚ x) (flux_of_alone r u)

pub given_alone : (net : Network) (r s : ℕ) (u : ℚ) → 1 ≤ r → r ≤ length net.reactions → given_by net (flux_of (alone r u)) s ≡ whole (pos (given net r s)) *ℚ u
given_alone net r s u low high =
    sum_one (length net.reactions) r (λ q. whole (pos (given net q s)) *ℚ flux_of (alone r u) q) low high (λ q h. ap (λ x. whole (pos (given net q s)) *ℚ x) (flux_of_alone_other r q u h) ∙ *ℚ-zero _)
    ∙ ap (λ x. whole (pos (given net r s)) *ℚ x) (flux_of_alone r u)

-- what is there afterwards of a species
pub amount_alone : (net : Network) (c : List ℚ) (r s : ℕ) (u : ℚ) → 1 ≤ r → r ≤ length net.reactions → 1 ≤ s → s ≤ net.species →
    amount (after net c (alone r u)) s +ℚ whole (pos (taken net r s)) *ℚ u ≡ amount c s +ℚ whole (pos (given net r s)) *ℚ u
amount_alone net c r s u low high lows highs =
    ap (λ x. amount (after net c (alone r u)) s +ℚ x) (sym (taken_alone net r s u low high))
    ∙ after-leads net c (alone r u) s lows highs
    ∙ ap (λ x. amount c s +ℚ x) (given_alone net r s u low high)

-- ---- one reaction with its greatest flux

not_less : (a : ℚ) → a <ℚ a → ⊥
not_less a h = not_<ℚ _ _ (≤ℚ_refl a) h

whole_mul_not_negative : (k : ℕ) (u : ℚ) → 0ℚ ≤ℚ u → 0ℚ ≤ℚ whole (pos k) *ℚ u
whole_mul_not_negative k u h = subst (λ x. x ≤ℚ whole (pos k) *ℚ u) (*ℚ-zero (whole (pos k))) (whole-*ℚ-≤ℚ 0ℚ u k h)

-- d + t = c + g, and t at most c: so d is not negative
enough_left : (d t c g : ℚ) → d +ℚ t ≡ c +ℚ g → 0ℚ ≤ℚ g → t ≤ℚ c → 0ℚ ≤ℚ d
enough_left d t c g e p h =
    let more : c +ℚ 0ℚ ≤ℚ c +ℚ g = +ℚ-≤ℚ_left 0ℚ g c p in
    let all : t ≤ℚ c +ℚ g = ≤ℚ_trans _ _ _ h (subst (λ x. x ≤ℚ c +ℚ g) (+ℚ-zero c) more) in
    ≤ℚ_of_+ℚ_left 0ℚ d t (subst (λ x. x ≤ℚ t +ℚ d) (sym (+ℚ-zero t)) (subst (λ x. t ≤ℚ x) (sym e ∙ +ℚ_comm d t) all))

module _ (net : Network) (ok : AreReactions net) (r : ℕ) (low : 1 ≤ r) (high : r ≤ length net.reactions) (c : List ℚ) (nn : IsNotNegative c) where
  -- with a flux that each reactant allows
  pub legal_alone : (u : ℚ) → 0ℚ <ℚ u → ((s : ℕ) → 0 < taken net r s → whole (pos (taken net r s)) *ℚ u ≤ℚ amount c s) → IsLegal net c (alone r u)
  legal_alone u positive fits =
      let this : (q : ℕ) → 0ℚ <ℚ flux_of (alone r u) q → q ≡ r =
      λ q h. ⊎_elim (λ (e : q ≡ r). e) (λ (other : q ≢ r). absurd (not_less 0ℚ (subst (λ x. 0ℚ <ℚ x) (flux_of_alone_other r q u other) h))) (grind arith) in
      record {
        flows = (low, high, ≤ℚ_of_<ℚ _ _ positive, tt);
        applicable = λ q h s t. let e : q ≡ r = this q h in present s (subst (λ x. 0 < taken net x s) e t);
        enough = λ s. rest s;
      }
    where
      present : (s : ℕ) → 0 < taken net r s → 0ℚ <ℚ amount c s
      present s t =
          ⊎_elim (λ (h : amount c s ≤ℚ 0ℚ).
          absurd (not_<ℚ _ _ (≤ℚ_of_whole-*ℚ u 0ℚ (taken net r s) t (subst (λ x. whole (pos (taken net r s)) *ℚ u ≤ℚ x) (sym (*ℚ-zero _)) (≤ℚ_trans _ _ _ (fits s t) h))) positive))
          (λ (h : 0ℚ <ℚ amount c s). h)
          (≤ℚ_or_<ℚ (amount c s) 0ℚ)

      rest_inside : (s : ℕ) → 1 ≤ s → s ≤ net.species → 0ℚ ≤ℚ amount (after net c (alone r u)) s
      rest_inside s l h =
          enough_left _ _ _ _ (amount_alone net c r s u low high l h) (whole_mul_not_negative _ u (≤ℚ_of_<ℚ _ _ positive))
          (⊎_elim (λ (e : taken net r s ≡ 0). subst (λ x. x ≤ℚ amount c s) (sym (none_of _ u e)) (nn s)) (λ (t : 0 < taken net r s). fits s t) (eq-zero-or-pos (taken net r s)))

      rest : (s : ℕ) → 0ℚ ≤ℚ amount (after net c (alone r u)) s
      rest s =
          ⊎_elim (λ (h : (1 ≤ s) × (s ≤ net.species)). rest_inside s h.0 h.1)
          (λ (h : ((1 ≤ s) × (s ≤ net.species)) → ⊥). subst (λ x. 0ℚ ≤ℚ x) (sym (amount-outside net c (alone r u) s h)) (≤ℚ_refl 0ℚ))
          (grind arith)

-- the segment that the completion makes of reaction r: with its greatest flux, or none
with_greatest_cases : (net : Network) (r : ℕ) (c : List ℚ) →
    ((greatest_flux net r (amount c) ≡ 0ℚ) × (with_greatest net r c ≡ []))
    ⊎ ((greatest_flux net r (amount c) ≢ 0ℚ) × (with_greatest net r c ≡ alone r (greatest_flux net r (amount c)) ∷ []))
with_greatest_cases net r c =
    let u : ℚ = greatest_flux net r (amount c) in
    ⊎_elim (λ h. inl (h.0, ap (λ b. if b then [] else alone r u ∷ []) h.1)) (λ h. inr (h.0, ap (λ b. if b then [] else alone r u ∷ []) h.1)) (is_zero_ℚ_cases u)

-- what one turn of the completion does
record Turn (net : Network) (r : ℕ) (c : List ℚ) (us : List (List Flow)) : Type 0 where
  runs : Run net c us (after_all net c us)
  lacks : LacksReactant net r (after_all net c us)
  keeps : (q : ℕ) → q < r → LacksReactant net q c → LacksReactant net q (after_all net c us)

module _ (net : Network) (ok : AreReactions net) (ff : IsFeedForward net) (r : ℕ) (low : 1 ≤ r) (high : r ≤ length net.reactions) (c : List ℚ) (nn : IsNotNegative c) where
  -- what r uses up is not there afterwards, since r does not give what it takes
  lacks_after : (u : ℚ) (s : ℕ) → 0 < taken net r s → whole (pos (taken net r s)) *ℚ u ≡ amount c s → amount (after net c (alone r u)) s ≡ 0ℚ
  lacks_after u s t used =
      let range : (1 ≤ s) × (s ≤ net.species) = taken_in_range net ok r s t in
      let none : given net r s ≡ 0 = ⊎_elim (λ (e : given net r s ≡ 0). e) (λ (p : 0 < given net r s). let l : r < r = ff.givers_first r r s p t in absurd (omega arith)) (eq-zero-or-pos (given net r s)) in
      let d : ℚ = amount (after net c (alone r u)) s in
      let e : d +ℚ amount c s ≡ 0ℚ +ℚ amount c s =
      ap (λ x. d +ℚ x) (sym used) ∙ amount_alone net c r s u low high range.0 range.1 ∙ ap (λ x. amount c s +ℚ x) (none_of _ u none) ∙ +ℚ_comm _ _ in
      +ℚ_cancel_right d 0ℚ (amount c s) e

  -- what an earlier reaction lacks is not given by r
  keeps_lack : (u : ℚ) (q : ℕ) → q < r → LacksReactant net q c → LacksReactant net q (after net c (alone r u))
  keeps_lack u q earlier (s, t, none) =
      let range : (1 ≤ s) × (s ≤ net.species) = taken_in_range net ok q s t in
      let not_given : given net r s ≡ 0 = ⊎_elim (λ (e : given net r s ≡ 0). e) (λ (p : 0 < given net r s). let l : r < q = ff.givers_first r q s p t in absurd (omega arith)) (eq-zero-or-pos (given net r s)) in
      let not_taken : taken net r s ≡ 0 = ⊎_elim (λ (e : taken net r s ≡ 0). e) (λ (p : 0 < taken net r s). let l : q ≡ r = ff.one_taker q r s t p in absurd (omega arith)) (eq-zero-or-pos (taken net r s)) in
      let d : ℚ = amount (after net c (alone r u)) s in (
        s,
        t,
        sym (+ℚ-zero d) ∙ ap (λ x. d +ℚ x) (sym (none_of _ u not_taken)) ∙ amount_alone net c r s u low high range.0 range.1
            ∙ ap (λ x. amount c s +ℚ x) (none_of _ u not_given) ∙ +ℚ-zero _ ∙ none,
      )

  turn : Turn net r c (with_greatest net r c)
  turn =
      let u : ℚ = greatest_flux net r (amount c) in
      let used : (s : ℕ) × (0 < taken net r s) × (whole (pos (taken net r s)) *ℚ u ≡ amount c s) = greatest_flux_uses net ok r low high (amount c) in
      let not_negative : 0ℚ ≤ℚ u =
      ≤ℚ_of_whole-*ℚ 0ℚ u (taken net r used.0) used.1 (subst (λ x. x ≤ℚ whole (pos (taken net r used.0)) *ℚ u) (sym (*ℚ-zero _)) (subst (λ x. 0ℚ ≤ℚ x) (sym used.2) (nn used.0))) in
      ⊎_elim
      (λ (h : (u ≡ 0ℚ) × (with_greatest net r c ≡ [])). subst (Turn net r c) (sym h.1) (record {
        runs = refl;
        lacks = (used.0, used.1, sym used.2 ∙ ap (λ x. whole (pos (taken net r used.0)) *ℚ x) h.0 ∙ *ℚ-zero _);
        keeps = λ q l k. k;
      }))
      (λ (h : (u ≢ 0ℚ) × (with_greatest net r c ≡ alone r u ∷ [])). subst (Turn net r c) (sym h.1) (record {
        runs = (legal_alone net ok r low high c nn u (positive_of_nonneg u not_negative h.0) (λ s t. greatest_flux_fits net ok r low high (amount c) s t), refl);
        lacks = (used.0, used.1, lacks_after u used.0 used.1 used.2);
        keeps = λ q l k. keeps_lack u q l k;
      }))
      (with_greatest_cases net r c)

-- after the first n reactions
record Turns (net : Network) (n : ℕ) (c : List ℚ) (us : List (List Flow)) : Type 0 where
  runs : Run net c us (after_all net c us)
  lack : (q : ℕ) → 1 ≤ q → q ≤ n → LacksReactant net q (after_all net c us)

next_turn : (net : Network) (n : ℕ) (c : List ℚ) (us vs : List (List Flow)) → Turns net n c us → Turn net (suc n) (after_all net c us) vs → Turns net (suc n) c (us ++ vs)
next_turn net n c us vs h k =
    let same : after_all net (after_all net c us) vs ≡ after_all net c (us ++ vs) = sym (after_all-append net us vs c) in
    record {
      runs = run-append net us vs c (after_all net c us) (after_all net c (us ++ vs)) h.runs (subst (Run net (after_all net c us) vs) same k.runs);
      lack = λ q low high. subst (LacksReactant net q) same
          (⊎_elim (λ (e : q ≡ suc n). subst (λ x. LacksReactant net x (after_all net (after_all net c us) vs)) (sym e) k.lacks)
          (λ (l : q < suc n). k.keeps q l (h.lack q low (omega arith))) (eq-or-lt_of_le high));
    }

turns : (net : Network) → AreReactions net → IsFeedForward net → (c : List ℚ) → IsNotNegative c → (n : ℕ) → n ≤ length net.reactions → Turns net n c (completion_to net n c)
unfolding completion_to
turns net ok ff c nn zero bound = record { runs = refl; lack = λ q low high. absurd (omega arith) }
turns net ok ff c nn (suc n) bound =
    let before : Turns net n c (completion_to net n c) = turns net ok ff c nn n (omega arith) in
    next_turn net n c _ _ before
    (turn net ok ff (suc n) (omega arith) bound (after_all net c (completion_to net n c)) (run_not_negative net _ c _ nn before.runs))

-- the completion by the first reactions is a run
pub completion_to_runs : (net : Network) → AreReactions net → IsFeedForward net → (c : List ℚ) → IsNotNegative c → (n : ℕ) → n ≤ length net.reactions →
    Run net c (completion_to net n c) (after_all net c (completion_to net n c))
completion_to_runs net ok ff c nn n bound = (turns net ok ff c nn n bound).runs

-- and each of them lacks a reactant after it
pub completion_to_exhausts : (net : Network) → AreReactions net → IsFeedForward net → (c : List ℚ) → IsNotNegative c → (n : ℕ) → n ≤ length net.reactions →
    (q : ℕ) → 1 ≤ q → q ≤ n → LacksReactant net q (after_all net c (completion_to net n c))
completion_to_exhausts net ok ff c nn n bound = (turns net ok ff c nn n bound).lack

-- the completion is a run
pub completion_runs : (net : Network) → AreReactions net → IsFeedForward net → (c : List ℚ) → IsNotNegative c → Run net c (completion net c) (completed net c)
completion_runs net ok ff c nn = (turns net ok ff c nn (length net.reactions) (le_refl _)).runs

-- and each reaction lacks a reactant at its end
pub completion_exhausts : (net : Network) → AreReactions net → IsFeedForward net → (c : List ℚ) → IsNotNegative c → IsExhausted net (completed net c)
completion_exhausts net ok ff c nn r low high = (turns net ok ff c nn (length net.reactions) (le_refl _)).lack r low high
