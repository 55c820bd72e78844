-- A step of `bulk` is refused where a number of it does not fit, and nowhere else.
use Rattle.std.proofs.Common.{◌≡◌, ℕ, zero, suc, ◌+◌, ◌-◌, ◌<◌, ◌≤◌, ◌%◌, ◌==◌, Bool, true, false, not, ◌&&◌, ◌||◌, cond, List, length, Option, Some, None, is_some, refl, sym, ap, ap₂, ◌∙◌, subst, ⊎_elim, arith, eqb-true}
use Rattle.std.specs.Option.{option_or}
use Rattle.std.proofs.lemmas.Bool.{and_parts, cases_Bool, cases_eq}
use Rattle.std.proofs.lemmas.Option.{same_Some}
use Rattle.crn_fraction.specs.Rational.{ℚ}
use Rattle.crn_net.specs.Causes.{IsFirst}
use Rattle.crn_net.specs.Network.{Network, IsNetwork, IsState, IsLegal, amount, numbered, after_all, alone, taken}
use Rattle.crn_net.specs.Totals.{LacksReactant}
use Rattle.crn_segments.proofs.SignLaws.{frac_is, is_frac_cases}
use Rattle.crn_segments.proofs.Steps.{or_none, or_some}
use Rattle.crn_segments.specs.Signs.{is_frac}
use Rattle.crn_segments.specs.Step.{sum_of}
use Rattle.crn_completer.proofs.Fitting.{quotients_fit, fitting_quotients, step_fits, fitting_step, absent, present}
use Rattle.crn_completer.specs.Refusal.{lacks, unfit_quotient, unfit_sum}
use Rattle.crn_program.specs.Bulk.{drawn, half_flux, happens, is_half_unfit, is_turn_unfit, halves_to, halves_refusal_to, halves_refusal}
use Rattle.crn_program.specs.Causes.{HalfFits, HalfGoes, half_state, HalfTurnGoes}
use Rattle.crn_program.proofs.Halving.{half_legal, turns, happens_present, refused_on}

-- ---- one step

module _ (net : Network) (ok : IsNetwork net) (r : ℕ) (low : 1 ≤ r) (high : r ≤ length net.reactions) (c : List ℚ) where
  abbrev quotient : Option ℕ
  quotient = unfit_quotient (amount c) (numbered net.reactions r).takes

  abbrev sums : Option ℕ
  sums = unfit_sum (sum_of net c (alone r (half_flux net r c))) 1 net.species

  -- what there is where there is none
  none_some : (o : Option ℕ) → is_some o ≡ false → o ≡ None
  none_some None is = refl
  none_some (Some s) is = let wrong : true ≡ false = is in cc

  or_false : (x y : Bool) → (x || y) ≡ false → (x ≡ false) × (y ≡ false)
  or_false false y is = (refl, is)
  or_false true y is = let wrong : true ≡ false = is in cc

  is_there : (x : Bool) → not x ≡ false → x ≡ true
  is_there true is = refl
  is_there false is = let wrong : true ≡ false = is in cc

  half_fits : is_half_unfit net r c ≡ false → HalfFits net r c
  unfolding taken
  half_fits fits =
      let (first, rest) = or_false (is_some quotient) (not (is_frac (half_flux net r c)) || is_some sums) fits in
      let (half, last) = or_false (not (is_frac (half_flux net r c))) (is_some sums) rest in
      record {
        quotients = quotients_fit 0 net.species (amount c) (numbered net.reactions r).takes (ok.reactions r low high).takes (none_some quotient first);
        half = ⊎_elim (λ k. k.1) (λ k. let wrong : true ≡ false = sym (is_there (is_frac (half_flux net r c)) half) ∙ k.0 in absurd (cc wrong)) (is_frac_cases (half_flux net r c));
        step = step_fits net c (alone r (half_flux net r c)) (none_some sums last);
      }

  fits_half : HalfFits net r c → is_half_unfit net r c ≡ false
  unfolding taken
  fits_half fits =
      let first : unfit_quotient (amount c) (numbered net.reactions r).takes ≡ None = fitting_quotients 0 net.species (amount c) (numbered net.reactions r).takes (ok.reactions r low high).takes fits.quotients in
      let half : is_frac (half_flux net r c) ≡ true = frac_is (half_flux net r c) fits.half in
      let last : unfit_sum (sum_of net c (alone r (half_flux net r c))) 1 net.species ≡ None = fitting_step net c (alone r (half_flux net r c)) fits.step in
      ap₂ (λ (x : Option ℕ) y. is_some x || y) first (ap₂ (λ x (y : Option ℕ). not x || is_some y) half last)

  not_lacking : (LacksReactant net r c → ⊥) → lacks (amount c) (numbered net.reactions r).takes ≡ false
  not_lacking here =
      ⊎_elim (λ is. absurd (here (absent net ok.reactions r low high c is))) (λ is. is) (cases_Bool (lacks (amount c) (numbered net.reactions r).takes))

  pub half_is_legal : IsState net c → (LacksReactant net r c → ⊥) → IsLegal net c (alone r (half_flux net r c))
  half_is_legal state here = half_legal net ok r low high c state (not_lacking here)

  -- it happens where the draw is even and no reactant is absent
  moves : (draw : ℕ) → draw % 2 ≡ 0 → (LacksReactant net r c → ⊥) → happens net draw r c ≡ true
  moves draw even here = ap₂ (λ x y. (x == 0) && not y) even (not_lacking here)

  moved : (draw : ℕ) → happens net draw r c ≡ true → (draw % 2 ≡ 0) × (LacksReactant net r c → ⊥)
  moved draw is = (
    eqb-true (draw % 2) 0 (and_parts (draw % 2 == 0) (not (lacks (amount c) (numbered net.reactions r).takes)) is).0,
    present net ok.reactions r low high c (happens_present net draw r c is),
  )

  pub goes_where_fit : (draw : ℕ) → is_turn_unfit net draw r c ≡ false → HalfGoes net draw r c
  goes_where_fit draw fits even here =
      half_fits (sym (turns net draw r c (moves draw even here)).1 ∙ fits)

  pub fit_where_goes : (draw : ℕ) → HalfGoes net draw r c → is_turn_unfit net draw r c ≡ false
  fit_where_goes draw goes =
      ⊎_elim
      (λ is. let (even, here) = moved draw is in (turns net draw r c is).1 ∙ fits_half (goes even here))
      (λ is. ap (λ b. b && is_half_unfit net r c) is)
      (cases_Bool (happens net draw r c))

-- ---- step after step

module _ (net : Network) (ok : IsNetwork net) (z : ℕ) (a : List ℚ) where
  -- whether the step of reaction n + 1 is refused
  abbrev unfit_at : ℕ → Bool
  unfit_at n = is_turn_unfit net (drawn z (suc n)) (suc n) (after_all net a (halves_to net z n a))

  more : (n : ℕ) → halves_refusal_to net z (suc n) a ≡ option_or (halves_refusal_to net z n a) (cond (unfit_at n) (Some (suc n)) None)
  unfolding halves_refusal_to
  more n = refl

  goes_at : (n : ℕ) → n < length net.reactions → unfit_at n ≡ false → HalfTurnGoes net z a (suc n)
  goes_at n within fits =
      let same : n ≡ suc n - 1 = omega arith in
      subst (λ i. HalfGoes net (drawn z (suc n)) (suc n) (after_all net a (halves_to net z i a))) same
      (goes_where_fit net ok (suc n) (omega arith) (omega (arith, within)) (after_all net a (halves_to net z n a)) (drawn z (suc n)) fits)

  fits_at : (n : ℕ) → n < length net.reactions → HalfTurnGoes net z a (suc n) → unfit_at n ≡ false
  fits_at n within goes =
      let same : suc n - 1 ≡ n = omega arith in
      fit_where_goes net ok (suc n) (omega arith) (omega (arith, within)) (after_all net a (halves_to net z n a)) (drawn z (suc n))
      (subst (λ i. HalfGoes net (drawn z (suc n)) (suc n) (after_all net a (halves_to net z i a))) same goes)

  unless : (b : Bool) (n : ℕ) → cond b (Some n) None ≡ None → b ≡ false
  unless false n is = refl
  unless true n is = let wrong : Some n ≡ None = is in cc

  chosen : (b : Bool) (n r : ℕ) → cond b (Some n) None ≡ Some r → (b ≡ true) × (n ≡ r)
  chosen true n r is = (refl, same_Some n r is)
  chosen false n r is = let wrong : None ≡ Some r = is in cc

  pub all_go : (n : ℕ) → n ≤ length net.reactions → halves_refusal_to net z n a ≡ None → (r : ℕ) → 1 ≤ r → r ≤ n → HalfTurnGoes net z a r
  all_go zero most none r low high = absurd (omega arith)
  all_go (suc n) most none r low high =
      let (before, here) = or_none (halves_refusal_to net z n a) (cond (unfit_at n) (Some (suc n)) None) (sym (more n) ∙ none) in
      ⊎_elim
      (λ (last : r ≡ suc n). subst (HalfTurnGoes net z a) (sym last) (goes_at n (omega (arith, most)) (unless (unfit_at n) (suc n) here)))
      (λ other. all_go n (omega (arith, most)) before r low (omega (arith, high, other)))
      (cases_eq r (suc n))

  pub none_where_all_go : (n : ℕ) → n ≤ length net.reactions → ((r : ℕ) → 1 ≤ r → r ≤ n → HalfTurnGoes net z a r) → halves_refusal_to net z n a ≡ None
  unfolding halves_refusal_to
  none_where_all_go zero most go = refl
  none_where_all_go (suc n) most go =
      more n
      ∙ ap₂ (λ o b. option_or o (cond b (Some (suc n)) None)) (none_where_all_go n (omega (arith, most)) (λ r low high. go r low (omega (arith, high))))
      (fits_at n (omega (arith, most)) (go (suc n) (omega arith) (omega arith)))

  pub first_unfit : (n r : ℕ) → n ≤ length net.reactions → halves_refusal_to net z n a ≡ Some r → IsFirst (HalfTurnGoes net z a) n r
  unfolding halves_refusal_to
  first_unfit zero r most is = let wrong : None ≡ Some r = is in absurd (cc wrong)
  first_unfit (suc n) r most is =
      ⊎_elim
      (λ before. let rest = first_unfit n r (omega (arith, most)) before in record { low = rest.low; high = omega (arith, rest.high); earlier = rest.earlier; here = rest.here })
      (λ (none, last).
      let (unfit, same) = chosen (unfit_at n) (suc n) r last in
      subst (IsFirst (HalfTurnGoes net z a) (suc n)) same (record {
        low = omega arith;
        high = omega arith;
        earlier = λ j low less. all_go n (omega (arith, most)) none j low (omega (arith, less));
        here = λ goes. let wrong : true ≡ false = sym unfit ∙ fits_at n (omega (arith, most)) goes in absurd (cc wrong);
      }))
      (or_some (halves_refusal_to net z n a) (cond (unfit_at n) (Some (suc n)) None) r (sym (more n) ∙ is))

  pub unfit_first : (r : ℕ) → IsFirst (HalfTurnGoes net z a) (length net.reactions) r → halves_refusal net z a ≡ Some r
  unfit_first zero first = absurd (omega (arith, first.low))
  unfit_first (suc n) first =
      let none : halves_refusal_to net z n a ≡ None = none_where_all_go n (omega (arith, first.high)) (λ j low high. first.earlier j low (omega (arith, high))) in
      let unfit : unfit_at n ≡ true = ⊎_elim (λ is. is) (λ is. absurd (first.here (goes_at n (omega (arith, first.high)) is))) (cases_Bool (unfit_at n)) in
      let here : halves_refusal_to net z (suc n) a ≡ Some (suc n) = more n ∙ ap₂ (λ o b. option_or o (cond b (Some (suc n)) None)) none unfit in
      let all : (length net.reactions - suc n) + suc n ≡ length net.reactions = omega (arith, first.high) in
      subst (λ m. halves_refusal_to net z m a ≡ Some (suc n)) all (refused_on net z (suc n) (length net.reactions - suc n) a (suc n) here)
