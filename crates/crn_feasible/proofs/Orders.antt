-- Orders that are strict or not, under positive factors and between bounds.
use Rattle.std.proofs.Common.{◌≡◌, ◌↔◌, ⊎_elim, Bool, true, false, cond, List, [], ◌∷◌, refl, subst, arith}
use Rattle.std.specs.Prelude.{pos}
use Rattle.std.proofs.lemmas.Int.{ints, clamps}
use Rattle.crn_fraction.specs.Rational.{ℚ, whole, ◌+ℚ◌, ◌-ℚ◌, ◌*ℚ◌, ◌/ℚ◌, ◌≤ℚ◌, ◌<ℚ◌, min_ℚ, max_ℚ}
use Rattle.crn_fraction.proofs.Ratios.{by_common_2, by_common_3, over-whole}
use Rattle.crn_fraction.proofs.Order.{linear, ≤ℚ_refl, ≤ℚ_or_<ℚ, ≤ℚ_of_<ℚ}
use Rattle.crn_fraction.proofs.Linear.{max_ℚ-above_left, max_ℚ-above_right, ≤ℚ_trans, not_<ℚ, min_ℚ-greatest}
use Rattle.crn_fraction.proofs.Products.{*ℚ-≤ℚ, *ℚ-<ℚ, ≤ℚ_of_*ℚ, *ℚ-/ℚ, whole-positive}
use Rattle.crn_fraction.proofs.Ring.{ring_ℚ, q-writes}
use Rattle.crn_linear.specs.Rows.{IsBelow}
use Rattle.crn_feasible.specs.Elimination.{greatest, least}

pub <ℚ_of_*ℚ : (k a b : ℚ) → whole (pos 0) <ℚ k → k *ℚ a <ℚ k *ℚ b → a <ℚ b
<ℚ_of_*ℚ k a b h l =
    ⊎_elim (λ n. absurd (not_<ℚ (k *ℚ b) (k *ℚ a) (*ℚ-≤ℚ k b a (≤ℚ_of_<ℚ (whole (pos 0)) k h) n) l)) (λ y. y) (≤ℚ_or_<ℚ b a)

-- a positive factor
pub IsBelow-times : (s : Bool) (k a b : ℚ) → whole (pos 0) <ℚ k → IsBelow s a b → IsBelow s (k *ℚ a) (k *ℚ b)
IsBelow-times true k a b h l = *ℚ-<ℚ k a b h l
IsBelow-times false k a b h l = *ℚ-≤ℚ k a b (≤ℚ_of_<ℚ (whole (pos 0)) k h) l

pub IsBelow-of_times : (s : Bool) (k a b : ℚ) → whole (pos 0) <ℚ k → IsBelow s (k *ℚ a) (k *ℚ b) → IsBelow s a b
IsBelow-of_times true k a b h l = <ℚ_of_*ℚ k a b h l
IsBelow-of_times false k a b h l = ≤ℚ_of_*ℚ k a b h l

-- what is above 0
pub positive_times : (s : Bool) (k b : ℚ) → whole (pos 0) <ℚ k → IsBelow s (whole (pos 0)) b → IsBelow s (whole (pos 0)) (k *ℚ b)
positive_times s k b h l =
    let z : k *ℚ whole (pos 0) ≡ whole (pos 0) = ring_ℚ (k ∷ []) (search q-writes depth 20) (search q-writes depth 20) refl in
    subst (λ t. IsBelow s t (k *ℚ b)) z (IsBelow-times s k (whole (pos 0)) b h l)

pub positive_of_times : (s : Bool) (k b : ℚ) → whole (pos 0) <ℚ k → IsBelow s (whole (pos 0)) (k *ℚ b) → IsBelow s (whole (pos 0)) b
positive_of_times s k b h l =
    let z : whole (pos 0) ≡ k *ℚ whole (pos 0) = ring_ℚ (k ∷ []) (search q-writes depth 20) (search q-writes depth 20) refl in
    IsBelow-of_times s k (whole (pos 0)) b h (subst (λ t. IsBelow s t (k *ℚ b)) z l)

-- a difference
difference_le : (a b : ℚ) → (whole (pos 0) ≤ℚ b -ℚ a) ↔ (a ≤ℚ b)
difference_le = by_common_2 (λ a b. (whole (pos 0) ≤ℚ b -ℚ a) ↔ (a ≤ℚ b)) (λ d p x y. simp (linear, over-whole (pos 0) d p) (omega (arith, ints)))

difference_lt : (a b : ℚ) → (whole (pos 0) <ℚ b -ℚ a) ↔ (a <ℚ b)
difference_lt = by_common_2 (λ a b. (whole (pos 0) <ℚ b -ℚ a) ↔ (a <ℚ b)) (λ d p x y. simp (linear, over-whole (pos 0) d p) (omega (arith, ints)))

pub IsBelow-difference : (s : Bool) (a b : ℚ) → IsBelow s (whole (pos 0)) (b -ℚ a) ↔ IsBelow s a b
IsBelow-difference true a b = difference_lt a b
IsBelow-difference false a b = difference_le a b

pub IsBelow-either : (s t : Bool) (a b : ℚ) → IsBelow (cond s true t) a b → IsBelow s a b × IsBelow t a b
IsBelow-either true true a b h = (h, h)
IsBelow-either true false a b h = (h, ≤ℚ_of_<ℚ a b h)
IsBelow-either false true a b h = (≤ℚ_of_<ℚ a b h, h)
IsBelow-either false false a b h = (h, h)

-- ---- the middle
half_le : (a l u : ℚ) → a ≤ℚ l → a ≤ℚ u → whole (pos 2) *ℚ a ≤ℚ l +ℚ u
half_le = by_common_3 (λ a l u. a ≤ℚ l → a ≤ℚ u → whole (pos 2) *ℚ a ≤ℚ l +ℚ u) (λ d p x y z. simp linear (omega (arith, ints)))

half_lt : (a l u : ℚ) → a ≤ℚ l → a <ℚ u → whole (pos 2) *ℚ a <ℚ l +ℚ u
half_lt = by_common_3 (λ a l u. a ≤ℚ l → a <ℚ u → whole (pos 2) *ℚ a <ℚ l +ℚ u) (λ d p x y z. simp linear (omega (arith, ints)))

half_ge : (a l u : ℚ) → l ≤ℚ a → u ≤ℚ a → l +ℚ u ≤ℚ whole (pos 2) *ℚ a
half_ge = by_common_3 (λ a l u. l ≤ℚ a → u ≤ℚ a → l +ℚ u ≤ℚ whole (pos 2) *ℚ a) (λ d p x y z. simp linear (omega (arith, ints)))

half_gt : (a l u : ℚ) → l <ℚ a → u ≤ℚ a → l +ℚ u <ℚ whole (pos 2) *ℚ a
half_gt = by_common_3 (λ a l u. l <ℚ a → u ≤ℚ a → l +ℚ u <ℚ whole (pos 2) *ℚ a) (λ d p x y z. simp linear (omega (arith, ints)))

pub two_positive : whole (pos 0) <ℚ whole (pos 2)
two_positive = whole-positive (pos 2) (omega (arith, ints))

two_back : (x : ℚ) → whole (pos 2) *ℚ (x /ℚ whole (pos 2)) ≡ x
two_back x = *ℚ-/ℚ x (whole (pos 2)) (λ e. not_<ℚ (whole (pos 2)) (whole (pos 0)) (subst (λ t. whole (pos 2) ≤ℚ t) e (≤ℚ_refl (whole (pos 2)))) two_positive)

-- a bound a below the middle of l and u
pub below_middle : (s : Bool) (a l u : ℚ) → a ≤ℚ l → IsBelow s a u → IsBelow s a ((l +ℚ u) /ℚ whole (pos 2))
below_middle true a l u h k = <ℚ_of_*ℚ (whole (pos 2)) a ((l +ℚ u) /ℚ whole (pos 2)) two_positive (rw (two_back (l +ℚ u)) (half_lt a l u h k))
below_middle false a l u h k = ≤ℚ_of_*ℚ (whole (pos 2)) a ((l +ℚ u) /ℚ whole (pos 2)) two_positive (rw (two_back (l +ℚ u)) (half_le a l u h k))

pub above_middle : (s : Bool) (a l u : ℚ) → IsBelow s l a → u ≤ℚ a → IsBelow s ((l +ℚ u) /ℚ whole (pos 2)) a
above_middle true a l u h k = <ℚ_of_*ℚ (whole (pos 2)) ((l +ℚ u) /ℚ whole (pos 2)) a two_positive (rw (two_back (l +ℚ u)) (half_gt a l u h k))
above_middle false a l u h k = ≤ℚ_of_*ℚ (whole (pos 2)) ((l +ℚ u) /ℚ whole (pos 2)) a two_positive (rw (two_back (l +ℚ u)) (half_ge a l u h k))

-- ---- 1 beyond
beyond_up : (a l : ℚ) → a ≤ℚ l → a <ℚ l +ℚ whole (pos 1)
beyond_up = by_common_2 (λ a l. a ≤ℚ l → a <ℚ l +ℚ whole (pos 1)) (λ d p x y. simp (linear, over-whole (pos 1) d p) (omega (arith, ints)))

beyond_down : (a u : ℚ) → u ≤ℚ a → u -ℚ whole (pos 1) <ℚ a
beyond_down = by_common_2 (λ a u. u ≤ℚ a → u -ℚ whole (pos 1) <ℚ a) (λ d p x y. simp (linear, over-whole (pos 1) d p) (omega (arith, ints)))

of_strict : (s : Bool) (a b : ℚ) → a <ℚ b → IsBelow s a b
of_strict true a b h = h
of_strict false a b h = ≤ℚ_of_<ℚ a b h

pub below_beyond : (s : Bool) (a l : ℚ) → a ≤ℚ l → IsBelow s a (l +ℚ whole (pos 1))
below_beyond s a l h = of_strict s a (l +ℚ whole (pos 1)) (beyond_up a l h)

pub above_beyond : (s : Bool) (a u : ℚ) → u ≤ℚ a → IsBelow s (u -ℚ whole (pos 1)) a
above_beyond s a u h = of_strict s (u -ℚ whole (pos 1)) a (beyond_down a u h)

-- ---- the greatest and the least
max_lt : (a b c : ℚ) → a <ℚ c → b <ℚ c → max_ℚ a b <ℚ c
max_lt = by_common_3 (λ a b c. a <ℚ c → b <ℚ c → max_ℚ a b <ℚ c) (λ d p x y z. simp linear (omega (arith, ints, clamps)))

max_le : (a b c : ℚ) → a ≤ℚ c → b ≤ℚ c → max_ℚ a b ≤ℚ c
max_le = by_common_3 (λ a b c. a ≤ℚ c → b ≤ℚ c → max_ℚ a b ≤ℚ c) (λ d p x y z. simp linear (omega (arith, ints, clamps)))

min_down : (a b : ℚ) → (min_ℚ a b ≤ℚ a) × (min_ℚ a b ≤ℚ b)
min_down = by_common_2 (λ a b. (min_ℚ a b ≤ℚ a) × (min_ℚ a b ≤ℚ b)) (λ d p x y. simp linear (omega (arith, ints, clamps)))

min_lt : (a b c : ℚ) → c <ℚ a → c <ℚ b → c <ℚ min_ℚ a b
min_lt = by_common_3 (λ a b c. c <ℚ a → c <ℚ b → c <ℚ min_ℚ a b) (λ d p x y z. simp linear (omega (arith, ints, clamps)))

pub IsBelow-min : (s : Bool) (a b c : ℚ) → IsBelow s c a → IsBelow s c b → IsBelow s c (min_ℚ a b)
IsBelow-min true a b c h k = min_lt a b c h k
IsBelow-min false a b c h k = min_ℚ-greatest a b c h k

pub max-IsBelow : (s : Bool) (a b c : ℚ) → IsBelow s a c → IsBelow s b c → IsBelow s (max_ℚ a b) c
max-IsBelow true a b c h k = max_lt a b c h k
max-IsBelow false a b c h k = max_le a b c h k

-- what holds of each element, by recursion on the list
abbrev pub Each : {A : Type 0} → (A → Type 0) → List A → Type 0
Each P [] = Unit {0}
Each P (x ∷ xs) = P x × Each P xs

pub Each-weaker : {A : Type 0} (P Q : A → Type 0) → ((x : A) → P x → Q x) → (xs : List A) → Each P xs → Each Q xs
Each-weaker P Q f [] h = tt
Each-weaker P Q f (x ∷ xs) h = (f x h.0, Each-weaker P Q f xs h.1)

pub least-below : (s : Bool) (c u : ℚ) (us : List ℚ) → IsBelow s c u → Each (λ q. IsBelow s c q) us → IsBelow s c (least u us)
least-below s c u [] h k = h
least-below s c u (q ∷ us) h k = least-below s c (min_ℚ u q) us (IsBelow-min s u q c h k.0) k.1

pub greatest-below : (s : Bool) (c l : ℚ) (ls : List ℚ) → IsBelow s l c → Each (λ q. IsBelow s q c) ls → IsBelow s (greatest l ls) c
greatest-below s c l [] h k = h
greatest-below s c l (q ∷ ls) h k = greatest-below s c (max_ℚ l q) ls (max-IsBelow s l q c h k.0) k.1

pub greatest-first : (l : ℚ) (ls : List ℚ) → l ≤ℚ greatest l ls
greatest-first l [] = ≤ℚ_refl l
greatest-first l (q ∷ ls) = ≤ℚ_trans l (max_ℚ l q) (greatest (max_ℚ l q) ls) (max_ℚ-above_left l q) (greatest-first (max_ℚ l q) ls)

pub greatest-each : (l : ℚ) (ls : List ℚ) → Each (λ q. q ≤ℚ greatest l ls) ls
greatest-each l [] = tt
greatest-each l (q ∷ ls) =
    (≤ℚ_trans q (max_ℚ l q) (greatest (max_ℚ l q) ls) (max_ℚ-above_right l q) (greatest-first (max_ℚ l q) ls), greatest-each (max_ℚ l q) ls)

pub least-first : (u : ℚ) (us : List ℚ) → least u us ≤ℚ u
least-first u [] = ≤ℚ_refl u
least-first u (q ∷ us) = ≤ℚ_trans (least (min_ℚ u q) us) (min_ℚ u q) u (least-first (min_ℚ u q) us) (min_down u q).0

pub least-each : (u : ℚ) (us : List ℚ) → Each (λ q. least u us ≤ℚ q) us
least-each u [] = tt
least-each u (q ∷ us) =
    (≤ℚ_trans (least (min_ℚ u q) us) (min_ℚ u q) q (least-first (min_ℚ u q) us) (min_down u q).1, least-each (min_ℚ u q) us)
