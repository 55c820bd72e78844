-- The state that given amounts make.
use Rattle.std.proofs.Common.{◌≡◌, ◌≢◌, ◌==◌, ℕ, zero, suc, ◌+◌, ◌-◌, ◌<◌, ◌≤◌, List, [], ◌∷◌, length, map, get_or, set, replicate, refl, sym, ◌∙◌, ap, subst, ⊎_elim, arith}
use Rattle.std.specs.List.{range_with_len}
use Rattle.std.proofs.lemmas.List.{ext_get_or, length-set, get_or-set_same, get_or-set_other, get_or_past}
use Rattle.std.proofs.lemmas.List.FromFn.{get_or-map-range_with_len, length-map-range_with_len}
use Rattle.std.proofs.lemmas.Bool.{cases_eq, cases_lt}
use Rattle.crn_fraction.specs.Rational.{ℚ, 0ℚ, ◌≤ℚ◌}
use Rattle.crn_fraction.proofs.Order.{≤ℚ_refl}
use Rattle.crn_net.specs.Network.{IsNotNegative}
use Rattle.crn_net.proofs.Start.{pick_yes, pick_no, pick_nonnegative}
use Rattle.crn_job.specs.RunGrammar.{Given, amount_given, state_given, given}
use Rattle.crn_job.specs.Reading.{AreGivenNotNegative}

-- where nothing is given, each amount is 0
nothing_from : (n a : ℕ) → replicate n 0ℚ ≡ map (amount_given []) (range_with_len a n)
nothing_from zero a = refl
nothing_from (suc n) a = ap (λ xs. 0ℚ ∷ xs) (nothing_from n (a + 1))

pub nothing_given : (n : ℕ) → replicate n 0ℚ ≡ state_given n []
nothing_given n = nothing_from n 1

pub length-state : (n : ℕ) (gs : List Given) → length (state_given n gs) ≡ n
length-state n gs = length-map-range_with_len (amount_given gs) 1 n

amount_at : (n : ℕ) (gs : List Given) (i : ℕ) → i < n → get_or (state_given n gs) i 0ℚ ≡ amount_given gs (suc i)
amount_at n gs i low = get_or-map-range_with_len (amount_given gs) 1 n i (suc i) 0ℚ low (omega arith)

-- one amount more
pub one_given : (n : ℕ) (gs : List Given) (a : ℕ) (q : ℚ) → 1 ≤ a → a ≤ n → set (state_given n gs) (a - 1) q ≡ state_given n (given a q ∷ gs)
one_given n gs a q low high = ext_get_or 0ℚ (set (state_given n gs) (a - 1) q) (state_given n (given a q ∷ gs)) (long ∙ sym (length-state n (given a q ∷ gs))) each
  where
    long : length (set (state_given n gs) (a - 1) q) ≡ n
    long = length-set (state_given n gs) (a - 1) q ∙ length-state n gs

    here : (i : ℕ) → i < n → i ≡ a - 1 → get_or (set (state_given n gs) (a - 1) q) i 0ℚ ≡ amount_given (given a q ∷ gs) (suc i)
    here i within e =
        let same : a ≡ suc i = omega arith in
        let bound : a - 1 < length (state_given n gs) = omega (arith, length-state n gs) in
        ap (λ k. get_or (set (state_given n gs) (a - 1) q) k 0ℚ) e ∙ get_or-set_same (state_given n gs) (a - 1) q 0ℚ bound ∙ sym (pick_yes a (suc i) q (amount_given gs (suc i)) same)

    there : (i : ℕ) → i < n → i ≢ a - 1 → get_or (set (state_given n gs) (a - 1) q) i 0ℚ ≡ amount_given (given a q ∷ gs) (suc i)
    there i within other =
        get_or-set_other (state_given n gs) (a - 1) i q 0ℚ other ∙ amount_at n gs i within ∙ sym (pick_no a (suc i) q (amount_given gs (suc i)) (λ e. other (omega arith)))

    each : (i : ℕ) → i < length (set (state_given n gs) (a - 1) q) → get_or (set (state_given n gs) (a - 1) q) i 0ℚ ≡ get_or (state_given n (given a q ∷ gs)) i 0ℚ
    each i within =
        let below : i < n = omega (arith, long) in
        ⊎_elim (λ e. here i below e) (λ other. there i below other) (cases_eq i (a - 1)) ∙ sym (amount_at n (given a q ∷ gs) i below)

given_not_negative : (gs : List Given) (s : ℕ) → AreGivenNotNegative gs → 0ℚ ≤ℚ amount_given gs s
given_not_negative [] s are = ≤ℚ_refl 0ℚ
given_not_negative (g ∷ gs) s are = pick_nonnegative (g.species == s) g.amount (amount_given gs s) are.0 (given_not_negative gs s are.1)

pub state_not_negative : (n : ℕ) (gs : List Given) → AreGivenNotNegative gs → IsNotNegative (state_given n gs)
state_not_negative n gs are zero = ≤ℚ_refl 0ℚ
state_not_negative n gs are (suc i) =
    ⊎_elim
    (λ low. subst (λ x. 0ℚ ≤ℚ x) (sym (amount_at n gs i low)) (given_not_negative gs (suc i) are))
    (λ high. subst (λ x. 0ℚ ≤ℚ x) (sym (get_or_past (state_given n gs) i 0ℚ (omega (arith, length-state n gs)))) (≤ℚ_refl 0ℚ))
    (cases_lt i n)
