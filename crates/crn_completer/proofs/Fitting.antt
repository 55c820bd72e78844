-- Nothing refuses a completion exactly where it fits.
use Rattle.std.proofs.Common.{◌≡◌, ◌≢◌, ℕ, zero, suc, ◌+◌, ◌<◌, ◌≤◌, if◌then◌else◌, Bool, true, false, List, [], ◌∷◌, length, pos, Option, Some, None, is_some, refl, sym, ◌∙◌, ap, ap₂, subst, ◌⊎◌, inl, inr, ⊎_elim, arith}
use Rattle.std.specs.Option.{option_or, option_map}
use Rattle.std.proofs.lemmas.Bool.{cases_eq, cases_Bool}
use Rattle.crn_fraction.specs.Frac.{IsFrac}
use Rattle.crn_fraction.specs.Rational.{ℚ, ◌/ℚ◌, whole}
use Rattle.crn_net.proofs.Shape.{count_of_other, count_of_same, count_of_in_range}
use Rattle.crn_net.specs.Network.{Network, Part, AreParts, AreReactions, amount, after_all, alone, completion_to, count_of, greatest_flux, numbered, taken}
use Rattle.crn_net.specs.Totals.{change, LacksReactant}
use Rattle.crn_net.specs.declared.Flow.{Flow}
use Rattle.crn_segments.proofs.SignLaws.{frac_is, is_frac_cases}
use Rattle.crn_segments.proofs.Steps.{or_none, sum_is, sum_fits}
use Rattle.crn_segments.specs.Fits.{StepFits, TurnFits, CompletionFits, flows_with}
use Rattle.crn_segments.specs.Signs.{is_frac}
use Rattle.crn_segments.specs.Step.{sum_of}
use Rattle.crn_completer.proofs.Turns.{lacks_some, lacks_none}
use Rattle.crn_completer.specs.Refusal.{lacks, unfit_quotient, unfit_sum, turn_refusal, completion_refusal_to, completion_refusal}
use Rattle.crn_completer.specs.declared.CompletionTooBig.{CompletionTooBig}

-- ---- quotients

pub quotients_fit : (low n : ℕ) (m : ℕ → ℚ) (ps : List Part) → AreParts low n ps → unfit_quotient m ps ≡ None → (s : ℕ) → 0 < count_of ps s → IsFrac (m s /ℚ whole (pos (count_of ps s)))
quotients_fit low n m [] ok h s some = absurd (omega arith)
quotients_fit low n m (p ∷ ps) ok h s some =
    let either : Bool → Option ℕ = λ b. if b then unfit_quotient m ps else Some p.species in
    ⊎_elim (λ (t : (is_frac (m p.species /ℚ whole (pos p.count)) ≡ true) × IsFrac (m p.species /ℚ whole (pos p.count))).
    ⊎_elim
    (λ (same : p.species ≡ s). subst (λ t. IsFrac (m t /ℚ whole (pos (count_of (p ∷ ps) t)))) same (subst (λ k. IsFrac (m p.species /ℚ whole (pos k))) (sym (count_of_same low n p ps ok)) t.1))
    (λ (other : p.species ≢ s).
    let same : count_of (p ∷ ps) s ≡ count_of ps s = count_of_other p ps s other in
    subst (λ k. IsFrac (m s /ℚ whole (pos k))) (sym same) (quotients_fit p.species n m ps ok.3 (sym (ap either t.0) ∙ h) s (subst (λ k. 0 < k) same some)))
    (cases_eq p.species s))
    (λ (t : (is_frac (m p.species /ℚ whole (pos p.count)) ≡ false) × (IsFrac (m p.species /ℚ whole (pos p.count)) → ⊥)). let e : Some p.species ≡ None = sym (ap either t.0) ∙ h in absurd (cc e))
    (is_frac_cases (m p.species /ℚ whole (pos p.count)))

pub fitting_quotients : (low n : ℕ) (m : ℕ → ℚ) (ps : List Part) → AreParts low n ps → ((s : ℕ) → 0 < count_of ps s → IsFrac (m s /ℚ whole (pos (count_of ps s)))) → unfit_quotient m ps ≡ None
fitting_quotients low n m [] ok each = refl
fitting_quotients low n m (p ∷ ps) ok each =
    let own : count_of (p ∷ ps) p.species ≡ p.count = count_of_same low n p ps ok in
    let here : IsFrac (m p.species /ℚ whole (pos p.count)) = subst (λ k. IsFrac (m p.species /ℚ whole (pos k))) own (each p.species (subst (λ k. 0 < k) (sym own) ok.2)) in
    ap (λ b. if b then unfit_quotient m ps else Some p.species) (frac_is _ here)
    ∙ fitting_quotients p.species n m ps ok.3 (λ s some.
    let above = count_of_in_range p.species n ps s ok.3 some in
    let same : count_of (p ∷ ps) s ≡ count_of ps s = count_of_other p ps s (omega (arith, above.0)) in
    subst (λ k. IsFrac (m s /ℚ whole (pos k))) same (each s (subst (λ k. 0 < k) (sym same) some)))

-- ---- sums

pub some_or_none : (o : Option ℚ) → ((b : ℚ) × (o ≡ Some b)) ⊎ (is_some o ≡ false)
some_or_none None = inr refl
some_or_none (Some b) = inl (b, refl)

all_sums : (m : ℕ → Option ℚ) (s left : ℕ) → unfit_sum m s left ≡ None → (j : ℕ) → s ≤ j → j < s + left → (b : ℚ) × (m j ≡ Some b)
all_sums m s zero h j low high = absurd (omega arith)
all_sums m s (suc left) h j low high =
    let either : Bool → Option ℕ = λ b. if b then unfit_sum m (suc s) left else Some s in
    ⊎_elim (λ (k : (b : ℚ) × (m s ≡ Some b)).
    ⊎_elim (λ (e : j ≡ s). (k.0, ap m e ∙ k.1)) (λ (l : s < j). all_sums m (suc s) left (sym (ap either (ap is_some k.1)) ∙ h) j (omega arith) (omega arith)) (grind arith))
    (λ (k : is_some (m s) ≡ false). let e : Some s ≡ None = sym (ap either k) ∙ h in absurd (cc e))
    (some_or_none (m s))

sums_all : (m : ℕ → Option ℚ) (s left : ℕ) → ((j : ℕ) → s ≤ j → j < s + left → is_some (m j) ≡ true) → unfit_sum m s left ≡ None
sums_all m s zero h = refl
sums_all m s (suc left) h =
    ap (λ b. if b then unfit_sum m (suc s) left else Some s) (h s (omega arith) (omega arith)) ∙ sums_all m (suc s) left (λ j low high. h j (omega (arith, low)) (omega (arith, high)))

pub step_fits : (net : Network) (c : List ℚ) (u : List Flow) → unfit_sum (sum_of net c u) 1 net.species ≡ None → StepFits net c u
step_fits net c u h s low high =
    let k = all_sums (sum_of net c u) 1 net.species h s low (omega arith) in
    (sum_is (change net s) (amount c s) k.0 (flows_with net s u) k.1).1

pub fitting_step : (net : Network) (c : List ℚ) (u : List Flow) → StepFits net c u → unfit_sum (sum_of net c u) 1 net.species ≡ None
fitting_step net c u h =
    sums_all (sum_of net c u) 1 net.species (λ s low high. ap is_some (sum_fits (change net s) (amount c s) (flows_with net s u) (h s low (omega (arith, high)))))

-- ---- turns

module _ (net : Network) (ok : AreReactions net) (r : ℕ) (low : 1 ≤ r) (high : r ≤ length net.reactions) (c : List ℚ) where
  unfoldable pub either : Bool → Option ℕ
  either b = if b then None else option_or (unfit_quotient (amount c) (numbered net.reactions r).takes) (unfit_sum (sum_of net c (alone r (greatest_flux net r (amount c)))) 1 net.species)

  pub absent : lacks (amount c) (numbered net.reactions r).takes ≡ true → LacksReactant net r c
  unfolding taken
  absent h = lacks_some 0 net.species (amount c) (numbered net.reactions r).takes (ok r low high).takes h

  pub present : lacks (amount c) (numbered net.reactions r).takes ≡ false → LacksReactant net r c → ⊥
  unfolding taken
  present h k = lacks_none (amount c) (numbered net.reactions r).takes k.0 h k.1 k.2

  pub turn_fits : turn_refusal net r c ≡ None → TurnFits net r c
  unfolding taken either
  turn_fits h =
      ⊎_elim (λ (t : lacks (amount c) (numbered net.reactions r).takes ≡ true). record { quotients = λ k. absurd (k (absent t)); step = λ k. absurd (k (absent t)) })
      (λ (t : lacks (amount c) (numbered net.reactions r).takes ≡ false).
      let n = or_none (unfit_quotient (amount c) (numbered net.reactions r).takes) (unfit_sum (sum_of net c (alone r (greatest_flux net r (amount c)))) 1 net.species) (sym (ap either t) ∙ h) in
      record {
        quotients = λ _ s some. quotients_fit 0 net.species (amount c) (numbered net.reactions r).takes (ok r low high).takes n.0 s some;
        step = λ _. step_fits net c (alone r (greatest_flux net r (amount c))) n.1;
      })
      (cases_Bool (lacks (amount c) (numbered net.reactions r).takes))

  pub fitting_turn : TurnFits net r c → turn_refusal net r c ≡ None
  unfolding taken either
  fitting_turn f =
      ⊎_elim (λ (t : lacks (amount c) (numbered net.reactions r).takes ≡ true). ap either t)
      (λ (t : lacks (amount c) (numbered net.reactions r).takes ≡ false).
      ap either t
      ∙ ap₂ option_or (fitting_quotients 0 net.species (amount c) (numbered net.reactions r).takes (ok r low high).takes (λ s some. f.quotients (present t) s some))
      (fitting_step net c (alone r (greatest_flux net r (amount c))) (f.step (present t))))
      (cases_Bool (lacks (amount c) (numbered net.reactions r).takes))

-- ---- the completion

unfoldable pub named : ℕ → Option ℕ → Option CompletionTooBig
named r o = option_map (λ s. let e : CompletionTooBig = record { reaction = r; species = s } in e) o

none_named : (r : ℕ) (o : Option ℕ) → named r o ≡ None → o ≡ None
unfolding named
none_named r None h = refl
none_named r (Some s) h = absurd (cc h)

module _ (net : Network) (ok : AreReactions net) (c : List ℚ) where
  abbrev pub Turn : ℕ → Type 0
  Turn r = TurnFits net (suc r) (after_all net c (completion_to net r c))

  pub turns_fit : (n : ℕ) → n ≤ length net.reactions → completion_refusal_to net n c ≡ None → (r : ℕ) → r < n → Turn r
  unfolding completion_refusal_to named
  turns_fit zero h k r l = absurd (omega arith)
  turns_fit (suc n) h k r l =
      let o = or_none (completion_refusal_to net n c) (named (suc n) (turn_refusal net (suc n) (after_all net c (completion_to net n c)))) k in
      ⊎_elim (λ (e : r ≡ n). subst Turn (sym e) (turn_fits net ok (suc n) (omega arith) h (after_all net c (completion_to net n c)) (none_named (suc n) _ o.1)))
      (λ (m : r < n). turns_fit n (omega arith) o.0 r m) (grind arith)

  pub fitting_turns : (n : ℕ) → n ≤ length net.reactions → ((r : ℕ) → r < n → Turn r) → completion_refusal_to net n c ≡ None
  unfolding completion_refusal_to named
  fitting_turns zero h f = refl
  fitting_turns (suc n) h f =
      ap₂ option_or (fitting_turns n (omega arith) (λ r l. f r (omega arith))) (ap (named (suc n)) (fitting_turn net ok (suc n) (omega arith) h (after_all net c (completion_to net n c)) (f n (omega arith))))

  pub completion_fits : completion_refusal net c ≡ None → CompletionFits net c
  completion_fits h r l = turns_fit (length net.reactions) (omega arith) h r l

  pub fitting_completion : CompletionFits net c → completion_refusal net c ≡ None
  fitting_completion f = fitting_turns (length net.reactions) (omega arith) f
