-- The quotients of a reaction, part by part.
use Rattle.std.proofs.Common.{◌≡◌, ℕ, zero, suc, ◌+◌, ◌<◌, ◌≤◌, ◌||◌, if◌then◌else◌, Bool, true, false, List, [], ◌∷◌, length, get_or, drop, Option, Some, None, IsSome, IsTrue, ⊎_elim, ◌≢◌, refl, sym, ◌∙◌, ap, ap₂, subst, arith}
use Rattle.std.proofs.lemmas.List.{drop_all, get_or_default}
use Rattle.std.proofs.lemmas.Int.{ints}
use Rattle.std.specs.Prelude.{ℤ, pos, negsuc, ◌<ℤ◌}
use Rattle.crn_fraction.proofs.Linear.{min_ℚ_assoc}
use Rattle.crn_fraction.specs.Frac.{IsFrac}
use Rattle.crn_fraction.specs.Rational.{ℚ, 0ℚ, ◌/ℚ◌, whole, min_ℚ, is_zero_ℚ}
use Rattle.crn_net.specs.Network as Plain
use Rattle.crn_net.specs.Network.{greatest}
use Rattle.crn_net.specs.Views.{natural, part_of, parts_of}
use Rattle.crn_net.specs.declared.Part.{Part}
use Rattle.crn_net.proofs.Sides.{read}
use Rattle.crn_fraction.proofs.Products.{is_zero_ℚ_cases}
use Rattle.crn_fraction.proofs.Wholes.{num-whole}
use Rattle.crn_segments.proofs.Refusals.{part_in_range, parts_dropped}
use Rattle.crn_segments.proofs.SignLaws.{frac_is, not_frac_is}
use Rattle.crn_completer.specs.Refusal.{lacks, unfit_quotient}

-- the least of a and of the quotients that are left
abbrev pub least_with : (ℕ → ℚ) → Option ℚ → List Plain.Part → ℚ
least_with m None ps = greatest ps m
least_with m (Some a) [] = a
least_with m (Some a) (p ∷ ps) = min_ℚ a (greatest (p ∷ ps) m)

-- of the first i parts the quotients fit, and this is their least
pub record SoFar (m : ℕ → ℚ) (ps : List Part) (i : ℕ) (least : Option ℚ) : Type 0 where
  pub fit : unfit_quotient m (parts_of ps) ≡ unfit_quotient m (parts_of (drop i ps))
  pub same : greatest (parts_of ps) m ≡ least_with m least (parts_of (drop i ps))
  pub some : 0 < i → IsSome least

pub least_more : (m : ℕ → ℚ) (o : Option ℚ) (q : ℚ) (p : Plain.Part) (ps : List Plain.Part) → q ≡ m p.species /ℚ whole (pos p.count) →
    (o ≡ None → least_with m o (p ∷ ps) ≡ least_with m (Some q) ps) × ((a : ℚ) → o ≡ Some a → least_with m o (p ∷ ps) ≡ least_with m (Some (min_ℚ a q)) ps)
least_more m None q p [] e = (λ _. sym e, λ a h. absurd (cc h))
least_more m None q p (r ∷ ps) e = (λ _. ap (λ x. min_ℚ x (greatest (r ∷ ps) m)) (sym e), λ a h. absurd (cc h))
least_more m (Some b) q p [] e = (λ h. absurd (cc h), λ a h. let k : b ≡ a = cc h in ap₂ min_ℚ k (sym e))
least_more m (Some b) q p (r ∷ ps) e = (
  λ h. absurd (cc h),
  λ a h. let k : b ≡ a = cc h in ap₂ (λ x y. min_ℚ x (min_ℚ y (greatest (r ∷ ps) m))) k (sym e) ∙ sym (min_ℚ_assoc a q (greatest (r ∷ ps) m)),
)

module _ (m : ℕ → ℚ) (ps : List Part) (i : ℕ) (least : Option ℚ) (p : Part) (l : i < length ps) (h : p ≡ get_or ps i p) (e : SoFar m ps i least) where
  step : unfit_quotient m (parts_of ps) ≡ unfit_quotient m (part_of p ∷ parts_of (drop (i + 1) ps))
  step = e.fit ∙ ap (λ x. unfit_quotient m (parts_of x)) (parts_dropped ps i p l h)

  pub quotient_stops : (IsFrac (m p.species /ℚ whole (pos (part_of p).count)) → ⊥) → unfit_quotient m (parts_of ps) ≡ Some p.species
  quotient_stops bad = step ∙ ap (λ b. if b then unfit_quotient m (parts_of (drop (i + 1) ps)) else Some p.species) (not_frac_is _ bad)

  pub quotient_first : (q : ℚ) → q ≡ m p.species /ℚ whole (pos (part_of p).count) → IsFrac q → least ≡ None → SoFar m ps (i + 1) (Some q)
  quotient_first q g f none = record {
    fit = step ∙ ap (λ b. if b then unfit_quotient m (parts_of (drop (i + 1) ps)) else Some p.species) (frac_is _ (subst IsFrac g f));
    same = e.same ∙ ap (λ x. least_with m least (parts_of x)) (parts_dropped ps i p l h) ∙ (least_more m least q (part_of p) (parts_of (drop (i + 1) ps)) g).0 none;
    some = λ _. refl;
  }

  pub quotient_more : (q a : ℚ) → q ≡ m p.species /ℚ whole (pos (part_of p).count) → IsFrac q → least ≡ Some a → SoFar m ps (i + 1) (Some (min_ℚ a q))
  quotient_more q a g f some = record {
    fit = step ∙ ap (λ b. if b then unfit_quotient m (parts_of (drop (i + 1) ps)) else Some p.species) (frac_is _ (subst IsFrac g f));
    same = e.same ∙ ap (λ x. least_with m least (parts_of x)) (parts_dropped ps i p l h) ∙ (least_more m least q (part_of p) (parts_of (drop (i + 1) ps)) g).1 a some;
    some = λ _. refl;
  }

pub quotients_fit : (m : ℕ → ℚ) (ps : List Part) (i : ℕ) (least : Option ℚ) → length ps ≤ i → SoFar m ps i least → unfit_quotient m (parts_of ps) ≡ None
quotients_fit m ps i least l e = e.fit ∙ ap (λ x. unfit_quotient m (parts_of x)) (drop_all i ps l)

-- ---- absent reactants

pub present_here : (m : ℕ → ℚ) (ps : List Part) (i : ℕ) (p : Part) → i < length ps → p ≡ get_or ps i p → is_zero_ℚ (m p.species) ≡ false →
    lacks m (parts_of ps) ≡ lacks m (parts_of (drop i ps)) → lacks m (parts_of ps) ≡ lacks m (parts_of (drop (i + 1) ps))
present_here m ps i p l h t e = e ∙ ap (λ x. lacks m (parts_of x)) (parts_dropped ps i p l h) ∙ ap (λ b. b || lacks m (parts_of (drop (i + 1) ps))) t

pub absent_here : (m : ℕ → ℚ) (ps : List Part) (i : ℕ) (p : Part) → i < length ps → p ≡ get_or ps i p → is_zero_ℚ (m p.species) ≡ true →
    lacks m (parts_of ps) ≡ lacks m (parts_of (drop i ps)) → lacks m (parts_of ps) ≡ true
absent_here m ps i p l h t e = e ∙ ap (λ x. lacks m (parts_of x)) (parts_dropped ps i p l h) ∙ ap (λ b. b || lacks m (parts_of (drop (i + 1) ps))) t

-- ---- what the loop reads

pub read_is : (items : List Part) (i : ℕ) → i < length items → read items i ≡ get_or items i (read items i)
read_is items i l = get_or_default items i (record { species = 0; count = pos 0 }) (read items i) l

pub read_in_range : (n i : ℕ) (takes items : List Part) → items ≡ takes → Plain.AreParts 0 n (parts_of takes) → i < length items → (0 < (read items i).species) × ((read items i).species ≤ n)
read_in_range n i takes items e h l = part_in_range 0 n items i (read items i) (subst (λ ps. Plain.AreParts 0 n (parts_of ps)) (sym e) h) l (read_is items i l)

some_count : (low n : ℕ) (ps : List Part) (i : ℕ) (p : Part) → Plain.AreParts low n (parts_of ps) → i < length ps → p ≡ get_or ps i p → 0 < natural p.count
some_count low n [] i p h l e = absurd (omega arith)
some_count low n (q ∷ ps) zero p h l e = subst (λ x. 0 < natural x.count) (sym e) h.2
some_count low n (q ∷ ps) (suc i) p h l e = some_count q.species n ps i p h.3 (omega arith) e

positive_natural : (z : ℤ) → 0 < natural z → (pos 0 <ℤ z) × (z ≡ pos (natural z))
positive_natural (pos n) h = (omega (arith, ints, h), refl)
positive_natural (negsuc n) h = absurd (omega arith)

pub read_count : (n i : ℕ) (takes items : List Part) → items ≡ takes → Plain.AreParts 0 n (parts_of takes) → i < length items → (pos 0 <ℤ (read items i).count) × ((read items i).count ≡ pos (natural (read items i).count))
read_count n i takes items e h l =
    positive_natural (read items i).count (some_count 0 n items i (read items i) (subst (λ ps. Plain.AreParts 0 n (parts_of ps)) (sym e) h) l (read_is items i l))

pub whole_not_zero : (k : ℤ) → pos 0 <ℤ k → whole k ≢ 0ℚ
whole_not_zero k h e = let same : k ≡ pos 0 = sym (num-whole k) ∙ ap (λ q. q.num) e ∙ num-whole (pos 0) in absurd (omega (arith, ints, same, h))

pub test_zero : (a x : ℚ) (b : Bool) → (IsTrue b → a ≡ 0ℚ) × (a ≡ 0ℚ → IsTrue b) → a ≡ x → is_zero_ℚ x ≡ b
test_zero a x true h e = ⊎_elim (λ z. z.1) (λ z. absurd (z.0 (sym e ∙ h.0 refl))) (is_zero_ℚ_cases x)
test_zero a x false h e = ⊎_elim (λ z. let k : false ≡ true = h.1 (e ∙ z.0) in absurd (cc k)) (λ z. z.1) (is_zero_ℚ_cases x)
