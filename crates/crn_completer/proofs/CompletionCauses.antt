-- What refuses a completion is its cause, and only that.
use Rattle.std.proofs.Common.{◌≡◌, ◌≢◌, ℕ, zero, suc, ◌+◌, ◌-◌, ◌<◌, ◌≤◌, if◌then◌else◌, Bool, true, false, List, [], ◌∷◌, length, pos, Option, Some, None, is_some, refl, sym, ◌∙◌, ap, ap₂, subst, ◌⊎◌, inl, inr, ⊎_elim, arith}
use Rattle.std.specs.Option.{option_or, option_map}
use Rattle.std.proofs.lemmas.Bool.{cases_eq, cases_Bool}
use Rattle.crn_fraction.specs.Frac.{IsFrac}
use Rattle.crn_fraction.specs.Rational.{ℚ, ◌/ℚ◌, whole}
use Rattle.crn_net.proofs.Shape.{count_of_other, count_of_same, count_of_in_range}
use Rattle.crn_net.specs.Causes.{IsFirst}
use Rattle.crn_net.specs.Network.{Network, Part, AreParts, AreReactions, IsNetwork, amount, after_all, alone, completion_to, count_of, greatest_flux, numbered, taken}
use Rattle.crn_net.specs.Totals.{change}
use Rattle.crn_net.specs.declared.Flow.{Flow}
use Rattle.crn_segments.proofs.SignLaws.{frac_is, not_frac_is, is_frac_cases}
use Rattle.crn_segments.proofs.Steps.{map_some, or_some, sum_is, sum_fits}
use Rattle.crn_segments.specs.Fits.{SpeciesFits, TurnFits, flows_with}
use Rattle.crn_segments.specs.Signs.{is_frac}
use Rattle.crn_segments.specs.Step.{sum_of}
use Rattle.crn_segments.proofs.StepCauses.{more_counted}
use Rattle.crn_completer.proofs.Fitting.{quotients_fit, fitting_quotients, absent, present, either, named, fitting_turn, turns_fit, fitting_turns}
use Rattle.crn_completer.proofs.InTurn.{refusal_stays}
use Rattle.crn_completer.specs.Causes.{turn_state, TurnGoes, IsFirstQuotient, IsFirstSum, TurnStopsAt, IsCompletionCause}
use Rattle.crn_completer.specs.Refusal.{lacks, unfit_quotient, unfit_sum, turn_refusal, completion_refusal_to, completion_refusal}
use Rattle.crn_completer.specs.declared.CompletionTooBig.{CompletionTooBig}

-- ---- the first quotient that does not fit

abbrev pub FitsAmong : (ℕ → ℚ) → List Part → ℕ → Type 0
FitsAmong m ps s = IsFrac (m s /ℚ whole (pos (count_of ps s)))

pub record UnfitAmong (m : ℕ → ℚ) (ps : List Part) (s : ℕ) : Type 0 where
  pub reactant : 0 < count_of ps s
  pub unfit : FitsAmong m ps s → ⊥
  pub earlier : (t : ℕ) → t < s → 0 < count_of ps t → FitsAmong m ps t

-- the quotient of the first part, and those of the others
head_fits : (low n : ℕ) (m : ℕ → ℚ) (p : Part) (ps : List Part) (s : ℕ) → AreParts low n (p ∷ ps) → p.species ≡ s → IsFrac (m p.species /ℚ whole (pos p.count)) → FitsAmong m (p ∷ ps) s
head_fits low n m p ps s ok e h =
    subst (FitsAmong m (p ∷ ps)) e (subst (λ k. IsFrac (m p.species /ℚ whole (pos k))) (sym (count_of_same low n p ps ok)) h)

fits_head : (low n : ℕ) (m : ℕ → ℚ) (p : Part) (ps : List Part) → AreParts low n (p ∷ ps) → FitsAmong m (p ∷ ps) p.species → IsFrac (m p.species /ℚ whole (pos p.count))
fits_head low n m p ps ok h = subst (λ k. IsFrac (m p.species /ℚ whole (pos k))) (count_of_same low n p ps ok) h

rest_fits : (m : ℕ → ℚ) (p : Part) (ps : List Part) (s : ℕ) → p.species ≢ s → FitsAmong m ps s → FitsAmong m (p ∷ ps) s
rest_fits m p ps s o h = subst (λ k. IsFrac (m s /ℚ whole (pos k))) (sym (count_of_other p ps s o)) h

fits_rest : (m : ℕ → ℚ) (p : Part) (ps : List Part) (s : ℕ) → p.species ≢ s → FitsAmong m (p ∷ ps) s → FitsAmong m ps s
fits_rest m p ps s o h = subst (λ k. IsFrac (m s /ℚ whole (pos k))) (count_of_other p ps s o) h

pub unfit_among : (low n : ℕ) (m : ℕ → ℚ) (ps : List Part) (s : ℕ) → AreParts low n ps → unfit_quotient m ps ≡ Some s → UnfitAmong m ps s
unfit_among low n m [] s ok h = absurd (cc h)
unfit_among low n m (p ∷ ps) s ok h =
    let test : Bool → Option ℕ = λ b. if b then unfit_quotient m ps else Some p.species in
    let q : ℚ = m p.species /ℚ whole (pos p.count) in
    ⊎_elim (λ (k : (is_frac q ≡ true) × IsFrac q).
    let rest : UnfitAmong m ps s = unfit_among p.species n m ps s ok.3 (sym (ap test k.0) ∙ h) in
    let above = count_of_in_range p.species n ps s ok.3 rest.reactant in
    record {
      reactant = more_counted p ps s rest.reactant;
      unfit = λ fits. rest.unfit (fits_rest m p ps s (λ e. absurd (omega (arith, above.0, e))) fits);
      earlier = λ t less some. ⊎_elim (λ (e : p.species ≡ t). head_fits low n m p ps t ok e k.1)
          (λ (o : p.species ≢ t). rest_fits m p ps t o (rest.earlier t less (subst (λ x. 0 < x) (count_of_other p ps t o) some))) (cases_eq p.species t);
    })
    (λ (k : (is_frac q ≡ false) × (IsFrac q → ⊥)).
    let this : Some p.species ≡ Some s = sym (ap test k.0) ∙ h in
    let e : p.species ≡ s = cc this in
    record {
      reactant = subst (λ x. 0 < count_of (p ∷ ps) x) e (subst (λ x. 0 < x) (sym (count_of_same low n p ps ok)) ok.2);
      unfit = subst (λ x. FitsAmong m (p ∷ ps) x → ⊥) e (λ fits. k.1 (fits_head low n m p ps ok fits));
      earlier = λ t less some.
          let apart : p.species ≢ t = λ x. absurd (omega (arith, less, e, x)) in
          let above = count_of_in_range p.species n ps t ok.3 (subst (λ x. 0 < x) (count_of_other p ps t apart) some) in
          absurd (omega (arith, above.0, less, e));
    })
    (is_frac_cases q)

pub among_unfit : (low n : ℕ) (m : ℕ → ℚ) (ps : List Part) (s : ℕ) → AreParts low n ps → UnfitAmong m ps s → unfit_quotient m ps ≡ Some s
among_unfit low n m [] s ok a = let none : 0 < 0 = a.reactant in absurd (omega arith)
among_unfit low n m (p ∷ ps) s ok a =
    let test : Bool → Option ℕ = λ b. if b then unfit_quotient m ps else Some p.species in
    let q : ℚ = m p.species /ℚ whole (pos p.count) in
    ⊎_elim (λ (e : p.species ≡ s). ap test (not_frac_is q (λ fits. a.unfit (head_fits low n m p ps s ok e fits))) ∙ ap Some e)
    (λ (o : p.species ≢ s).
    let some : 0 < count_of ps s = subst (λ x. 0 < x) (count_of_other p ps s o) a.reactant in
    let above = count_of_in_range p.species n ps s ok.3 some in
    let here : IsFrac q = fits_head low n m p ps ok (a.earlier p.species above.0 (subst (λ x. 0 < x) (sym (count_of_same low n p ps ok)) ok.2)) in
    ap test (frac_is q here)
    ∙ among_unfit p.species n m ps s ok.3 (record {
      reactant = some;
      unfit = λ fits. a.unfit (rest_fits m p ps s o fits);
      earlier = λ t less k.
          let above' = count_of_in_range p.species n ps t ok.3 k in
          fits_rest m p ps t (λ e. absurd (omega (arith, above'.0, e))) (a.earlier t less (more_counted p ps t k));
    }))
    (cases_eq p.species s)

-- ---- the first sum that does not fit

test_of : (o : Option ℚ) → ((b : ℚ) × (o ≡ Some b) × (is_some o ≡ true)) ⊎ ((o ≡ None) × (is_some o ≡ false))
test_of None = inr (refl, refl)
test_of (Some b) = inl (b, refl, refl)

-- it is the first of `left` species from s without a sum
record IsFirstWithout (m : ℕ → Option ℚ) (s left t : ℕ) : Type 0 where
  pub low : s ≤ t
  pub high : t < s + left
  pub earlier : (j : ℕ) → s ≤ j → j < t → is_some (m j) ≡ true
  pub here : m t ≡ None

without : (m : ℕ → Option ℚ) (s left t : ℕ) → unfit_sum m s left ≡ Some t → IsFirstWithout m s left t
without m s zero t h = absurd (cc h)
without m s (suc left) t h =
    let test : Bool → Option ℕ = λ b. if b then unfit_sum m (suc s) left else Some s in
    ⊎_elim (λ (k : (b : ℚ) × (m s ≡ Some b) × (is_some (m s) ≡ true)).
    let rest : IsFirstWithout m (suc s) left t = without m (suc s) left t (sym (ap test k.2) ∙ h) in
    record {
      low = omega (arith, rest.low);
      high = omega (arith, rest.high);
      earlier = λ j low less. ⊎_elim (λ (e : s ≡ j). subst (λ i. is_some (m i) ≡ true) e k.2) (λ (l : s < j). rest.earlier j (omega arith) less) (grind arith);
      here = rest.here;
    })
    (λ (k : (m s ≡ None) × (is_some (m s) ≡ false)).
    let this : Some s ≡ Some t = sym (ap test k.1) ∙ h in
    let e : s ≡ t = cc this in
    record { low = omega (arith, e); high = omega (arith, e); earlier = λ j low less. absurd (omega (arith, low, less, e)); here = subst (λ i. m i ≡ None) e k.0 })
    (test_of (m s))

is_without : (m : ℕ → Option ℚ) (s left t : ℕ) → IsFirstWithout m s left t → unfit_sum m s left ≡ Some t
is_without m s zero t f = absurd (omega (arith, f.low, f.high))
is_without m s (suc left) t f =
    let test : Bool → Option ℕ = λ b. if b then unfit_sum m (suc s) left else Some s in
    ⊎_elim (λ (e : s ≡ t). ap test (ap is_some (subst (λ i. m i ≡ None) (sym e) f.here)) ∙ ap Some e)
    (λ (l : s < t). ap test (f.earlier s (omega arith) l)
    ∙ is_without m (suc s) left t (record { low = omega arith; high = omega (arith, f.high); earlier = λ j low less. f.earlier j (omega (arith, low)) less; here = f.here }))
    (let low : s ≤ t = f.low in grind arith)

module _ (net : Network) (c : List ℚ) (u : List Flow) where
  fits_of : (s : ℕ) → is_some (sum_of net c u s) ≡ true → SpeciesFits net c u s
  fits_of s h =
      ⊎_elim (λ (k : (b : ℚ) × (sum_of net c u s ≡ Some b) × (is_some (sum_of net c u s) ≡ true)). (sum_is (change net s) (amount c s) k.0 (flows_with net s u) k.1).1)
      (λ (k : (sum_of net c u s ≡ None) × (is_some (sum_of net c u s) ≡ false)). let e : true ≡ false = sym h ∙ k.1 in absurd (cc e))
      (test_of (sum_of net c u s))

  of_fits : (s : ℕ) → SpeciesFits net c u s → is_some (sum_of net c u s) ≡ true
  of_fits s h = ap is_some (sum_fits (change net s) (amount c s) (flows_with net s u) h)

  pub first_sum : (t : ℕ) → unfit_sum (sum_of net c u) 1 net.species ≡ Some t → IsFirst (SpeciesFits net c u) net.species t
  first_sum t h =
      let f : IsFirstWithout (sum_of net c u) 1 net.species t = without (sum_of net c u) 1 net.species t h in
      record {
        low = f.low;
        high = omega (arith, f.high);
        earlier = λ j low less. fits_of j (f.earlier j low less);
        here = λ fits. let e : true ≡ false = sym (of_fits t fits) ∙ ap is_some f.here in absurd (cc e);
      }

  pub sum_first : (t : ℕ) → IsFirst (SpeciesFits net c u) net.species t → unfit_sum (sum_of net c u) 1 net.species ≡ Some t
  sum_first t f =
      is_without (sum_of net c u) 1 net.species t (record {
        low = f.low;
        high = omega (arith, f.high);
        earlier = λ j low less. of_fits j (f.earlier j low less);
        here = ⊎_elim (λ (k : (b : ℚ) × (sum_of net c u t ≡ Some b) × (is_some (sum_of net c u t) ≡ true)). absurd (f.here (fits_of t k.2)))
            (λ (k : (sum_of net c u t ≡ None) × (is_some (sum_of net c u t) ≡ false)). k.0) (test_of (sum_of net c u t));
      })

-- ---- turns

module _ (net : Network) (ok : AreReactions net) (r : ℕ) (low : 1 ≤ r) (high : r ≤ length net.reactions) (c : List ℚ) where
  parts : List Part
  parts = (numbered net.reactions r).takes

  alone_step : List Flow
  alone_step = alone r (greatest_flux net r (amount c))

  stops : (s : ℕ) → turn_refusal net r c ≡ Some s → TurnStopsAt net r c s
  unfolding taken parts alone_step either
  stops s h =
      ⊎_elim (λ (t : lacks (amount c) parts ≡ true). let e : None ≡ Some s = sym (ap (either net ok r low high c) t) ∙ h in absurd (cc e))
      (λ (t : lacks (amount c) parts ≡ false). record {
        present = present net ok r low high c t;
        place = ⊎_elim
            (λ (k : unfit_quotient (amount c) parts ≡ Some s).
            let a : UnfitAmong (amount c) parts s = unfit_among 0 net.species (amount c) parts s (ok r low high).takes k in
            inl (record { reactant = a.reactant; unfit = a.unfit; earlier = a.earlier }))
            (λ (k : (unfit_quotient (amount c) parts ≡ None) × (unfit_sum (sum_of net c alone_step) 1 net.species ≡ Some s)).
            inr (record { quotients = λ q some. quotients_fit 0 net.species (amount c) parts (ok r low high).takes k.0 q some; sum = first_sum net c alone_step s k.1 }))
            (or_some (unfit_quotient (amount c) parts) (unfit_sum (sum_of net c alone_step) 1 net.species) s (sym (ap (either net ok r low high c) t) ∙ h));
      })
      (cases_Bool (lacks (amount c) parts))

  stopped : (s : ℕ) → TurnStopsAt net r c s → turn_refusal net r c ≡ Some s
  unfolding taken parts alone_step either
  stopped s k =
      ⊎_elim (λ (t : lacks (amount c) parts ≡ true). absurd (k.present (absent net ok r low high c t)))
      (λ (t : lacks (amount c) parts ≡ false).
      ap (either net ok r low high c) t
      ∙ ⊎_elim
      (λ (q : IsFirstQuotient net r c s).
      ap (λ o. option_or o (unfit_sum (sum_of net c alone_step) 1 net.species))
      (among_unfit 0 net.species (amount c) parts s (ok r low high).takes (record { reactant = q.reactant; unfit = q.unfit; earlier = q.earlier })))
      (λ (q : IsFirstSum net r c s).
      ap₂ option_or (fitting_quotients 0 net.species (amount c) parts (ok r low high).takes q.quotients) (sum_first net c alone_step s q.sum))
      k.place)
      (cases_Bool (lacks (amount c) parts))

-- ---- the completion

-- of the turns of the first n reactions this one is the first that does not fit
record IsFirstTurn (net : Network) (c : List ℚ) (n : ℕ) (e : CompletionTooBig) : Type 0 where
  pub low : 1 ≤ e.reaction
  pub high : e.reaction ≤ n
  pub before : completion_refusal_to net (e.reaction - 1) c ≡ None
  pub here : turn_refusal net e.reaction (turn_state net c e.reaction) ≡ Some e.species

first_turn : (net : Network) (c : List ℚ) (n : ℕ) (e : CompletionTooBig) → completion_refusal_to net n c ≡ Some e → IsFirstTurn net c n e
unfolding completion_refusal_to named
first_turn net c zero e h = absurd (cc h)
first_turn net c (suc n) e h =
    ⊎_elim (λ (k : completion_refusal_to net n c ≡ Some e).
    let rest : IsFirstTurn net c n e = first_turn net c n e k in
    record { low = rest.low; high = omega (arith, rest.high); before = rest.before; here = rest.here })
    (λ (k : (completion_refusal_to net n c ≡ None) × (named (suc n) (turn_refusal net (suc n) (after_all net c (completion_to net n c))) ≡ Some e)).
    let t = map_some (λ s. let made : CompletionTooBig = record { reaction = suc n; species = s } in made) (turn_refusal net (suc n) (after_all net c (completion_to net n c))) e k.1 in
    let same : n ≡ suc n - 1 = omega arith in
    subst (IsFirstTurn net c (suc n)) t.2 (record {
      low = omega arith;
      high = omega arith;
      before = subst (λ i. completion_refusal_to net i c ≡ None) same k.0;
      here = subst (λ i. turn_refusal net (suc n) (after_all net c (completion_to net i c)) ≡ Some t.0) same t.1;
    }))
    (or_some (completion_refusal_to net n c) (named (suc n) (turn_refusal net (suc n) (after_all net c (completion_to net n c)))) e h)

at_turn : (net : Network) (c : List ℚ) (i : ℕ) (e : CompletionTooBig) → suc i ≡ e.reaction → completion_refusal_to net i c ≡ None →
    turn_refusal net e.reaction (after_all net c (completion_to net i c)) ≡ Some e.species → completion_refusal_to net (suc i) c ≡ Some e
unfolding completion_refusal_to
at_turn net c i e next before here =
    ap₂ option_or before
    (ap (option_map (λ s. let made : CompletionTooBig = record { reaction = suc i; species = s } in made)) (subst (λ r. turn_refusal net r (after_all net c (completion_to net i c)) ≡ Some e.species) (sym next) here))
    ∙ ap (λ r. let made : CompletionTooBig = record { reaction = r; species = e.species } in Some made) next

turn_first : (net : Network) (c : List ℚ) (e : CompletionTooBig) → IsFirstTurn net c (length net.reactions) e → completion_refusal net c ≡ Some e
turn_first net c e f =
    let i : ℕ = e.reaction - 1 in
    let next : suc i ≡ e.reaction = omega (arith, f.low) in
    let all : (length net.reactions - e.reaction) + e.reaction ≡ length net.reactions = omega (arith, f.high) in
    subst (λ n. completion_refusal_to net n c ≡ Some e) all
    (refusal_stays net c e e.reaction (length net.reactions - e.reaction)
    (subst (λ n. completion_refusal_to net n c ≡ Some e) next (at_turn net c i e next f.before f.here)))

module _ (net : Network) (ok : IsNetwork net) (c : List ℚ) where
  -- by the number of the reaction, or by how many come before it
  turn_goes : (r : ℕ) → TurnFits net (suc r) (after_all net c (completion_to net r c)) → TurnGoes net c (suc r)
  turn_goes r h = subst (λ i. TurnFits net (suc r) (after_all net c (completion_to net i c))) (let same : r ≡ suc r - 1 = omega arith in same) h

  goes_turn : (r : ℕ) → TurnGoes net c (suc r) → TurnFits net (suc r) (after_all net c (completion_to net r c))
  goes_turn r h = subst (λ i. TurnFits net (suc r) (after_all net c (completion_to net i c))) (let same : suc r - 1 ≡ r = omega arith in same) h

  earlier_goes : (n : ℕ) → n ≤ length net.reactions → completion_refusal_to net n c ≡ None → (r : ℕ) → 1 ≤ r → r ≤ n → TurnGoes net c r
  earlier_goes n most h zero low high = absurd (omega arith)
  earlier_goes n most h (suc r) low high = turn_goes r (turns_fit net ok.reactions c n most h r (omega arith))

  none_stops : (r : ℕ) (s : ℕ) → 1 ≤ r → r ≤ length net.reactions → turn_refusal net r (turn_state net c r) ≡ Some s → TurnGoes net c r → ⊥
  none_stops r s low high h fits =
      let e : None ≡ Some s = sym (fitting_turn net ok.reactions r low high (turn_state net c r) fits) ∙ h in absurd (cc e)

  -- what refuses a completion is its cause
  pub refused_completion : (e : CompletionTooBig) → completion_refusal net c ≡ Some e → IsCompletionCause net c e
  refused_completion e h =
      let f : IsFirstTurn net c (length net.reactions) e = first_turn net c (length net.reactions) e h in
      record {
        first = record {
          low = f.low;
          high = f.high;
          earlier = λ r low less. earlier_goes (e.reaction - 1) (omega (arith, f.high)) f.before r low (omega (arith, less));
          here = none_stops e.reaction e.species f.low f.high f.here;
        };
        stops = stops net ok.reactions e.reaction f.low f.high (turn_state net c e.reaction) e.species f.here;
      }

  -- and the cause refuses it
  pub completion_refused : (e : CompletionTooBig) → IsCompletionCause net c e → completion_refusal net c ≡ Some e
  completion_refused e k =
      turn_first net c e (record {
        low = k.first.low;
        high = k.first.high;
        before = fitting_turns net ok.reactions c (e.reaction - 1) (omega (arith, k.first.high)) (λ r less. goes_turn r (k.first.earlier (suc r) (omega arith) (omega (arith, less, k.first.low))));
        here = stopped net ok.reactions e.reaction k.first.low k.first.high (turn_state net c e.reaction) e.species k.stops;
      })
