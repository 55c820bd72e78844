-- The shape of a network: which species a reaction takes, and how often; and its greatest flux.
use Rattle.std.proofs.Common.{◌≡◌, ◌≢◌, ℕ, ◌+◌, ◌<◌, ◌≤◌, ◌==◌, if◌then◌else◌, List, [], ◌∷◌, length, refl, sym, ◌∙◌, ap, subst, ⊎_elim, eq-zero-or-pos, zero-add, add-zero, arith}
use Rattle.std.proofs.lemmas.Bool.Decides.{nat_tests}
use Rattle.std.specs.Prelude.{pos}
use Rattle.std.proofs.lemmas.Bool.{cases_eq}
use Rattle.crn_fraction.proofs.Linear.{≤ℚ_trans, min_ℚ-below_left, min_ℚ-below_right}
use Rattle.crn_fraction.proofs.Order.{≤ℚ_refl, min_ℚ_cases}
use Rattle.crn_fraction.proofs.Products.{whole-*ℚ-/ℚ, whole-*ℚ-≤ℚ}
use Rattle.crn_fraction.specs.Rational.{ℚ, ◌*ℚ◌, ◌≤ℚ◌, whole, ◌/ℚ◌}
use Rattle.crn_net.specs.Network.{Part, count_of, greatest, AreParts}

pub if_same : (a b k : ℕ) → a ≡ b → (if a == b then k else 0) ≡ k
if_same a b k e = grind (arith, nat_tests)

pub if_other : (a b k : ℕ) → a ≢ b → (if a == b then k else 0) ≡ 0
if_other a b k e = grind (arith, nat_tests)

pub count_of_other : (p : Part) (ps : List Part) (s : ℕ) → p.species ≢ s → count_of (p ∷ ps) s ≡ count_of ps s
count_of_other p ps s h = ap (λ k. k + count_of ps s) (if_other p.species s p.count h) ∙ zero-add _

-- parts hold only species of their range
pub count_of_in_range : (low n : ℕ) (ps : List Part) (s : ℕ) → AreParts low n ps → 0 < count_of ps s → (low < s) × (s ≤ n)
count_of_in_range low n [] s h k = absurd (omega arith)
count_of_in_range low n (p ∷ ps) s h k =
    ⊎_elim (λ (e : p.species ≡ s). let fits : (low < p.species) × (p.species ≤ n) = (h.0, h.1) in (omega arith, omega arith))
    (λ (other : p.species ≢ s).
    let rest : (p.species < s) × (s ≤ n) = count_of_in_range p.species n ps s h.3 (subst (λ k. 0 < k) (count_of_other p ps s other) k) in
    let l : low < p.species = h.0 in
    (omega arith, rest.1))
    (cases_eq p.species s)

-- and none at or below its lower end
count_of_low : (low n : ℕ) (ps : List Part) (s : ℕ) → AreParts low n ps → s ≤ low → count_of ps s ≡ 0
count_of_low low n ps s h k =
    ⊎_elim (λ (e : count_of ps s ≡ 0). e) (λ (p : 0 < count_of ps s). let r : (low < s) × (s ≤ n) = count_of_in_range low n ps s h p in absurd (omega arith)) (eq-zero-or-pos (count_of ps s))

pub count_of_same : (low n : ℕ) (p : Part) (ps : List Part) → AreParts low n (p ∷ ps) → count_of (p ∷ ps) p.species ≡ p.count
count_of_same low n p ps h =
    ap (λ k. k + count_of ps p.species) (if_same p.species p.species p.count refl)
    ∙ ap (λ k. p.count + k) (count_of_low p.species n ps p.species h.3 (omega arith)) ∙ add-zero _

-- ---- the greatest flux of parts

head_fits : (p : Part) (ps : List Part) (m : ℕ → ℚ) → greatest (p ∷ ps) m ≤ℚ ((m p.species) /ℚ whole (pos p.count))
head_fits p [] m = ≤ℚ_refl _
head_fits p (q ∷ ps) m = min_ℚ-below_left _ _

tail_fits : (p : Part) (ps : List Part) (m : ℕ → ℚ) → 0 < length ps → greatest (p ∷ ps) m ≤ℚ greatest ps m
tail_fits p [] m h = absurd (omega arith)
tail_fits p (q ∷ ps) m h = min_ℚ-below_right _ _

not_empty : (ps : List Part) (s : ℕ) → 0 < count_of ps s → 0 < length ps
not_empty [] s h = absurd (omega arith)
not_empty (p ∷ ps) s h = omega arith

-- each of the parts is there for it
pub greatest_fits : (low n : ℕ) (ps : List Part) (m : ℕ → ℚ) (s : ℕ) → AreParts low n ps → 0 < count_of ps s →
    whole (pos (count_of ps s)) *ℚ greatest ps m ≤ℚ m s
greatest_fits low n [] m s h k = absurd (omega arith)
greatest_fits low n (p ∷ ps) m s h k =
    ⊎_elim (λ (e : p.species ≡ s).
    let is : count_of (p ∷ ps) s ≡ p.count = ap (λ x. count_of (p ∷ ps) x) (sym e) ∙ count_of_same low n p ps h in
    let head : whole (pos p.count) *ℚ greatest (p ∷ ps) m ≤ℚ whole (pos p.count) *ℚ ((m p.species) /ℚ whole (pos p.count)) = whole-*ℚ-≤ℚ _ _ p.count (head_fits p ps m) in
    let all : whole (pos p.count) *ℚ ((m p.species) /ℚ whole (pos p.count)) ≡ m s = whole-*ℚ-/ℚ _ p.count h.2 ∙ ap m e in
    subst (λ x. whole (pos x) *ℚ greatest (p ∷ ps) m ≤ℚ m s) (sym is) (subst (λ y. whole (pos p.count) *ℚ greatest (p ∷ ps) m ≤ℚ y) all head))
    (λ (other : p.species ≢ s).
    let is : count_of (p ∷ ps) s ≡ count_of ps s = count_of_other p ps s other in
    let nonzero : 0 < count_of ps s = subst (λ x. 0 < x) is k in
    subst (λ x. whole (pos x) *ℚ greatest (p ∷ ps) m ≤ℚ m s) (sym is)
    (≤ℚ_trans _ _ _ (whole-*ℚ-≤ℚ _ _ (count_of ps s) (tail_fits p ps m (not_empty ps s nonzero))) (greatest_fits p.species n ps m s h.3 nonzero)))
    (cases_eq p.species s)

-- a part that is used up by u
abbrev UsedUp : List Part → (ℕ → ℚ) → ℚ → Type 0
UsedUp ps m u = (s : ℕ) × (0 < count_of ps s) × (whole (pos (count_of ps s)) *ℚ u ≡ m s)

head_used : (low n : ℕ) (p : Part) (ps : List Part) (m : ℕ → ℚ) (u : ℚ) → AreParts low n (p ∷ ps) → u ≡ ((m p.species) /ℚ whole (pos p.count)) → UsedUp (p ∷ ps) m u
head_used low n p ps m u h e =
    let is : count_of (p ∷ ps) p.species ≡ p.count = count_of_same low n p ps h in
    (p.species, subst (λ k. 0 < k) (sym is) h.2, ap (λ k. whole (pos k) *ℚ u) is ∙ ap (λ x. whole (pos p.count) *ℚ x) e ∙ whole-*ℚ-/ℚ _ p.count h.2)

-- and one is used up by it
pub greatest_uses : (low n : ℕ) (ps : List Part) (m : ℕ → ℚ) → AreParts low n ps → 0 < length ps → UsedUp ps m (greatest ps m)
greatest_uses low n [] m h k = absurd (omega arith)
greatest_uses low n (p ∷ []) m h k = head_used low n p [] m _ h refl
greatest_uses low n (p ∷ q ∷ ps) m h k =
    ⊎_elim (λ e. head_used low n p (q ∷ ps) m _ h e)
    (λ (e : greatest (p ∷ q ∷ ps) m ≡ greatest (q ∷ ps) m).
    let rest : UsedUp (q ∷ ps) m (greatest (q ∷ ps) m) = greatest_uses p.species n (q ∷ ps) m h.3 (omega arith) in
    let above : (p.species < rest.0) × (rest.0 ≤ n) = count_of_in_range p.species n (q ∷ ps) rest.0 h.3 rest.1 in
    let is : count_of (p ∷ q ∷ ps) rest.0 ≡ count_of (q ∷ ps) rest.0 = count_of_other p (q ∷ ps) rest.0 (omega arith) in
    (rest.0, subst (λ k. 0 < k) (sym is) rest.1, ap (λ k. whole (pos k) *ℚ greatest (p ∷ q ∷ ps) m) is ∙ ap (λ u. whole (pos (count_of (q ∷ ps) rest.0)) *ℚ u) e ∙ rest.2))
    (min_ℚ_cases _ _)
