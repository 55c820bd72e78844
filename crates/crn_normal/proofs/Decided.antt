-- Steps pass, or one of them is the first that is refused, for a cause other than want of memory.
use Rattle.std.proofs.Common.{◌≡◌, ◌≢◌, ◌⊎◌, inl, inr, ⊎_elim, ◌<◌, ◌≤◌, ◌^◌, List, [], ◌∷◌, length, refl, arith}
use Rattle.std.specs.Prelude.{unsigned_abs}
use Rattle.std.specs.List.{All, Any}
use Rattle.std.proofs.lemmas.Bool.{cases_lt}
use Rattle.std.proofs.lemmas.List.Elements.{All-nil, All-cons}
use Rattle.crn_fraction.specs.Rational.{ℚ}
use Rattle.crn_fraction.specs.Frac.{IsFrac}
use Rattle.crn_linear.specs.Fracs.{AreFracs, AreFormFracs}
use Rattle.crn_normal.specs.declared.NormalError.{NormalError}
use Rattle.crn_normal.specs.declared.NormalError.TheVariants.{TooBig, TooManyForms, TooManySets, Memory}
use Rattle.crn_normal.specs.Normal.{Sets, reduced}
use Rattle.crn_normal.specs.Steps.{Step}
use Rattle.crn_normal.specs.Refusals.{Passes, Stops, NoneStops, FirstStops}
use Rattle.crn_normal.proofs.Members.{some, any_from, Has}

-- ---- whether numbers fit
fits_or_not : (q : ℚ) → IsFrac q ⊎ (¬ IsFrac q)
fits_or_not q =
    ⊎_elim (λ (num : unsigned_abs q.num < 2 ^ 63). ⊎_elim
    (λ (den : q.den < 2 ^ 63). inl (record { num_fits = num; den_fits = den }))
    (λ (many : 2 ^ 63 ≤ q.den). inr (λ f. let h = f.den_fits in omega (arith, h, many)))
    (cases_lt q.den (2 ^ 63)))
    (λ (many : 2 ^ 63 ≤ unsigned_abs q.num). inr (λ f. let h = f.num_fits in omega (arith, h, many)))
    (cases_lt (unsigned_abs q.num) (2 ^ 63))

fit_or_not : (form : List ℚ) → AreFracs form ⊎ (¬ AreFracs form)
fit_or_not [] = inl tt
fit_or_not (q ∷ form) =
    ⊎_elim (λ (f : IsFrac q). ⊎_elim (λ (fs : AreFracs form). inl (f, fs)) (λ (n : ¬ AreFracs form). inr (λ h. n h.1)) (fit_or_not form))
    (λ (n : ¬ IsFrac q). inr (λ h. n h.0))
    (fits_or_not q)

all_fit_or_not : (forms : List (List ℚ)) → AreFormFracs forms ⊎ (¬ AreFormFracs forms)
all_fit_or_not [] = inl tt
all_fit_or_not (form ∷ forms) =
    ⊎_elim (λ (f : AreFracs form). ⊎_elim (λ (fs : AreFormFracs forms). inl (f, fs)) (λ (n : ¬ AreFormFracs forms). inr (λ h. n h.1)) (all_fit_or_not forms))
    (λ (n : ¬ AreFracs form). inr (λ h. n h.0))
    (fit_or_not form)

-- ---- whether sets have few forms
few_or_many : (A : Sets) → All (λ S. length S ≤ 64) A ⊎ Any (λ S. 64 < length S) A
few_or_many [] = inl (All-nil (λ (S : List (List ℚ)). length S ≤ 64))
few_or_many (S ∷ A) =
    ⊎_elim (λ (many : 64 < length S). inr (any_from (λ S. 64 < length S) (S ∷ A) S (inl refl) many))
    (λ (few : length S ≤ 64). ⊎_elim
    (λ (all : All (λ S. length S ≤ 64) A). inl (All-cons (λ S. length S ≤ 64) S A few all))
    (λ (m : Any (λ S. 64 < length S) A). let r = some (λ S. 64 < length S) A m in inr (any_from (λ S. 64 < length S) (S ∷ A) r.0 (inr r.1) r.2))
    (few_or_many A))
    (cases_lt 64 (length S))

-- ---- steps
abbrev StopsForCause : Step → Type 0
StopsForCause step = (e : NormalError) × (e ≢ Memory) × Stops step e

step_decided : (step : Step) → Passes step ⊎ StopsForCause step
step_decided step =
    ⊎_elim (λ (fits : AreFormFracs step.made). ⊎_elim
    (λ (few : All (λ S. length S ≤ 64) step.sets). ⊎_elim
    (λ (many : 64 < length (reduced step.sets)). inr (TooManySets (length (reduced step.sets)), (λ e. cc e), (fits, few, many, refl)))
    (λ (sets : length (reduced step.sets) ≤ 64). inl (record { fits = fits; forms = few; sets = sets }))
    (cases_lt 64 (length (reduced step.sets))))
    (λ (m : Any (λ S. 64 < length S) step.sets). inr (TooManyForms 65, (λ e. cc e), (fits, m, refl)))
    (few_or_many step.sets))
    (λ (n : ¬ AreFormFracs step.made). inr (TooBig, (λ e. cc e), n))
    (all_fit_or_not step.made)

pub decided : (steps : List Step) → NoneStops steps ⊎ ((e : NormalError) × (e ≢ Memory) × FirstStops steps e)
decided [] = inl tt
decided (step ∷ rest) =
    ⊎_elim (λ (p : Passes step). ⊎_elim
    (λ (n : NoneStops rest). inl (p, n))
    (λ (f : (e : NormalError) × (e ≢ Memory) × FirstStops rest e). inr (f.0, f.1, inr (p, f.2)))
    (decided rest))
    (λ (s : StopsForCause step). inr (s.0, s.1, inl s.2))
    (step_decided step)
