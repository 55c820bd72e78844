-- The least species that is refused.
use Rattle.std.proofs.Common.{◌≡◌, ◌≢◌, ℕ, zero, suc, ◌+◌, ◌<◌, ◌≤◌, List, length, get_or, Option, Some, None, refl, sym, ◌∙◌, ap, ap₂, subst, ⊎_elim, arith}
use Rattle.std.proofs.lemmas.List.{get_or_read, get_or_default}
use Rattle.std.specs.List.{Contains}
use Rattle.std.specs.Option.{option_or}
use Rattle.crn_fraction.specs.Rational.{ℚ}
use Rattle.crn_net.specs.Network.{amount, IsNotNegative}
use Rattle.crn_segments.proofs.Marks.{mark_tells}
use Rattle.crn_segments.specs.Step.{sum_refusal, first_refusal}
use Rattle.crn_segments.specs.Sums.{mark_of, mark_refusal, refusal_in, IsLeastRefused, sum_in, IsRoom}
use Rattle.crn_segments.specs.declared.StepError.{StepError}
use Rattle.crn_segments.specs.declared.work.Mark.TheVariants.{Untouched}
use Rattle.crn_segments.specs.declared.work.Sums.{Sums}

-- of the first i listed species, those below t are not refused, and t is, or comes after all
pub record LeastSoFar (n : ℕ) (k : Sums) (i t : ℕ) : Type 0 where
  pub low : 1 ≤ t
  pub high : t ≤ n + 1
  pub below : (j : ℕ) → j < i → get_or k.touched.items j 0 < t → refusal_in k (get_or k.touched.items j 0) ≡ None
  pub here : t ≤ n → refusal_in k t ≢ None

pub least_all : (n : ℕ) (k : Sums) (i t : ℕ) → IsRoom n k → length k.touched.items ≤ i → LeastSoFar n k i t → IsLeastRefused n k t
least_all n k i t ok all l = record {
  low = l.low;
  high = l.high;
  below = λ s low less. ⊎_elim (λ (m : mark_of k.marks.items s ≡ Untouched). ap (λ x. mark_refusal s x (amount k.next.items s)) m)
      (λ (m : Contains k.touched.items s).
      let e : s ≡ get_or k.touched.items m.0 0 = get_or_read k.touched.items m.0 s m.1 (sym m.2) 0 in
      subst (λ z. refusal_in k z ≡ None) (sym e) (l.below m.0 (omega (arith, m.1, all)) (subst (λ z. z < t) e less)))
      (ok.listed s);
  here = l.here;
}

none_in : (m : ℕ → Option ℚ) (s left : ℕ) → ((j : ℕ) → s ≤ j → j < s + left → sum_refusal j (m j) ≡ None) → first_refusal m s left ≡ None
none_in m s zero h = refl
none_in m s (suc left) h = ap₂ option_or (h s (omega arith) (omega arith)) (none_in m (suc s) left (λ j low high. h j (omega (arith, low)) (omega (arith, high))))

pub first_in : (m : ℕ → Option ℚ) (s left t : ℕ) (e : StepError) → s ≤ t → t < s + left → ((j : ℕ) → s ≤ j → j < t → sum_refusal j (m j) ≡ None) → sum_refusal t (m t) ≡ Some e → first_refusal m s left ≡ Some e
first_in m s zero t e low high h here = absurd (omega arith)
first_in m s (suc left) t e low high h here =
    ⊎_elim (λ (x : s ≡ t). ap (λ o. option_or o (first_refusal m (suc s) left)) (subst (λ z. sum_refusal z (m z) ≡ Some e) (sym x) here))
    (λ (x : s < t). ap₂ option_or (h s (omega arith) x) (first_in m (suc s) left t e (omega arith) (omega arith) (λ j a b. h j (omega (arith, a)) b) here))
    (grind arith)

module _ (n : ℕ) (k : Sums) (t : ℕ) (l : IsLeastRefused n k t) (c : List ℚ) (nn : IsNotNegative c) where
  tells : (s : ℕ) → sum_refusal s (sum_in k c s) ≡ refusal_in k s
  tells s = mark_tells s (mark_of k.marks.items s) (amount k.next.items s) (amount c s) (nn s)

  pub none_refused : n < t → first_refusal (sum_in k c) 1 n ≡ None
  none_refused h = none_in (sum_in k c) 1 n (λ j low high. tells j ∙ l.below j low (omega (arith, h, high)))

  pub least_is_refused : (e : StepError) → t ≤ n → refusal_in k t ≡ Some e → first_refusal (sum_in k c) 1 n ≡ Some e
  least_is_refused e h some = first_in (sum_in k c) 1 n t e l.low (omega (arith, h)) (λ j low high. tells j ∙ l.below j low high) (tells t ∙ some)

pub listed_in_range : (n : ℕ) (k : Sums) → IsRoom n k → (ts : List ℕ) (i : ℕ) → ts ≡ k.touched.items → i < length ts → (1 ≤ get_or ts i 0) × (get_or ts i 0 ≤ n)
listed_in_range n k ok ts i e l =
    ok.in_range (get_or ts i 0) (subst (λ us. Contains us (get_or ts i 0)) e (i, l, sym (get_or_read ts i (get_or ts i 0) l (get_or_default ts i 0 (get_or ts i 0) l) (get_or ts i 0))))
