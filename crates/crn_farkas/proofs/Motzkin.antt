-- A certificate excludes every point: the easy direction of Motzkin's transposition theorem. The multiples of the rows add up to the
-- zero row, whose value is 0 at each point. At a point that met the system their values would add up to more than 0.
use Rattle.std.proofs.Common.{◌≡◌, ⊎_elim, ℕ, zero, suc, ◌≤◌, Bool, true, false, List, [], ◌∷◌, length, get_or, refl, sym, ap, ◌∙◌, subst, arith}
use Rattle.std.specs.Prelude.{ℤ, pos, ◌+ℤ◌, ◌*ℤ◌, ◌<ℤ◌, ◌≤ℤ◌, ◌↔◌, IsTrue}
use Rattle.std.specs.List.{All}
use Rattle.std.proofs.lemmas.Int.{ints}
use Rattle.std.proofs.lemmas.List.{get_or_past}
use Rattle.std.proofs.lemmas.List.Elements.{All-head, All-tail}
use Rattle.std.proofs.lemmas.Bool.{cases_lt, false≢true}
use Rattle.crn_fraction.specs.Rational.{ℚ, whole, ◌+ℚ◌, ◌*ℚ◌, ◌≤ℚ◌, ◌<ℚ◌}
use Rattle.crn_fraction.proofs.Ratios.{by_common_2, over-whole}
use Rattle.crn_fraction.proofs.Order.{linear, over-≤ℚ, ≤ℚ_refl, ≤ℚ_of_<ℚ}
use Rattle.crn_fraction.proofs.Linear.{<ℚ_irrefl}
use Rattle.crn_fraction.proofs.Products.{*ℚ-nonneg, *ℚ-positive, whole-positive}
use Rattle.crn_fraction.proofs.Ring.{ring_ℚ, q-writes}
use Rattle.crn_linear.specs.Forms.{wholes}
use Rattle.crn_linear.specs.Rows.{Row, dot, value, IsBelow, Meets}
use Rattle.crn_linear.proofs.WholePoints.{meets_whole}
use Rattle.crn_farkas.specs.Mixtures.{mixed}
use Rattle.crn_farkas.specs.Systems.{System, IsRectangular, IsPoint, IsWholePoint, HasNoPoint, IsCertificate, column, no_row}
use Rattle.crn_farkas.proofs.Mixing.{value-mixed, get_or-mixed, value-zeros}

abbrev pub IsNonnegative : ℤ → Type 0
IsNonnegative m = pos 0 ≤ℤ m

-- the sum of the multiples of the rows
combination : List ℤ → List Row → List ℤ
combination [] rows = []
combination (m ∷ ms) [] = []
combination (m ∷ ms) (r ∷ rows) = mixed m r.entries (pos 1) (combination ms rows)

-- the sum of the multiples of their values at a point
weighted : List ℤ → List Row → List ℚ → ℚ
weighted [] rows x = whole (pos 0)
weighted (m ∷ ms) [] x = whole (pos 0)
weighted (m ∷ ms) (r ∷ rows) x = whole m *ℚ value r.entries x +ℚ weighted ms rows x

value-combination : (ms : List ℤ) (rows : List Row) (x : List ℚ) → value (combination ms rows) x ≡ weighted ms rows x
unfolding combination weighted
value-combination [] rows x = refl
value-combination (m ∷ ms) [] x = refl
value-combination (m ∷ ms) (r ∷ rows) x =
    value-mixed m r.entries (pos 1) (combination ms rows) x
    ∙ ap (λ t. whole m *ℚ value r.entries x +ℚ whole (pos 1) *ℚ t) (value-combination ms rows x)
    ∙ ring_ℚ (whole m ∷ value r.entries x ∷ weighted ms rows x ∷ []) (search q-writes depth 20) (search q-writes depth 20) refl

get_or-combination : (ms : List ℤ) (rows : List Row) (v : ℕ) → get_or (combination ms rows) v (pos 0) ≡ dot ms (column v rows)
unfolding combination
get_or-combination [] rows v = refl
get_or-combination (m ∷ ms) [] v = refl
get_or-combination (m ∷ ms) (r ∷ rows) v =
    get_or-mixed m r.entries (pos 1) (combination ms rows) v
    ∙ ap (λ t. m *ℤ get_or r.entries v (pos 0) +ℤ pos 1 *ℤ t) (get_or-combination ms rows v)
    ∙ omega (arith, ints)

-- columns past the last have zeros alone
dot-past : (n v : ℕ) (ms : List ℤ) (rows : List Row) → All (λ r. length r.entries ≡ n) rows → n ≤ v → dot ms (column v rows) ≡ pos 0
dot-past n v [] rows h l = refl
dot-past n v (m ∷ ms) [] h l = refl
dot-past n v (m ∷ ms) (r ∷ rows) h l =
    let long : length r.entries ≡ n = All-head (λ (s : Row). length s.entries ≡ n) r rows h in
    rw (get_or_past r.entries v (pos 0) (omega (arith, long)), dot-past n v ms rows (All-tail (λ (s : Row). length s.entries ≡ n) r rows h) l) (omega (arith, ints))

-- ---- sums of values
sum_nonneg : (a b : ℚ) → whole (pos 0) ≤ℚ a → whole (pos 0) ≤ℚ b → whole (pos 0) ≤ℚ a +ℚ b
sum_nonneg = by_common_2 (λ a b. whole (pos 0) ≤ℚ a → whole (pos 0) ≤ℚ b → whole (pos 0) ≤ℚ a +ℚ b) (λ d p x y. simp (linear, over-whole (pos 0) d p) (omega (arith, ints)))

sum_left : (a b : ℚ) → whole (pos 0) <ℚ a → whole (pos 0) ≤ℚ b → whole (pos 0) <ℚ a +ℚ b
sum_left = by_common_2 (λ a b. whole (pos 0) <ℚ a → whole (pos 0) ≤ℚ b → whole (pos 0) <ℚ a +ℚ b) (λ d p x y. simp (linear, over-whole (pos 0) d p) (omega (arith, ints)))

sum_right : (a b : ℚ) → whole (pos 0) ≤ℚ a → whole (pos 0) <ℚ b → whole (pos 0) <ℚ a +ℚ b
sum_right = by_common_2 (λ a b. whole (pos 0) ≤ℚ a → whole (pos 0) <ℚ b → whole (pos 0) <ℚ a +ℚ b) (λ d p x y. simp (linear, over-whole (pos 0) d p) (omega (arith, ints)))

whole_nonneg : (m : ℤ) → pos 0 ≤ℤ m → whole (pos 0) ≤ℚ whole m
whole_nonneg m h = (over-≤ℚ (pos 0) 1 m (omega arith)).1 h

pub at_least : (s : Bool) (a b : ℚ) → IsBelow s a b → a ≤ℚ b
at_least true a b h = ≤ℚ_of_<ℚ a b h
at_least false a b h = h

above : (s : Bool) (a b : ℚ) → IsTrue s → IsBelow s a b → a <ℚ b
above true a b t h = h
above false a b t h = absurd (false≢true t)

weighted_nonneg : (ms : List ℤ) (rows : List Row) (x : List ℚ) → All IsNonnegative ms → All (λ r. Meets r x) rows → whole (pos 0) ≤ℚ weighted ms rows x
unfolding weighted
weighted_nonneg [] rows x h k = ≤ℚ_refl (whole (pos 0))
weighted_nonneg (m ∷ ms) [] x h k = ≤ℚ_refl (whole (pos 0))
weighted_nonneg (m ∷ ms) (r ∷ rows) x h k =
    sum_nonneg (whole m *ℚ value r.entries x) (weighted ms rows x)
    (*ℚ-nonneg (whole m) (value r.entries x) (whole_nonneg m (All-head IsNonnegative m ms h)) (at_least r.strict (whole (pos 0)) (value r.entries x) (All-head (λ r. Meets r x) r rows k)))
    (weighted_nonneg ms rows x (All-tail IsNonnegative m ms h) (All-tail (λ r. Meets r x) r rows k))

weighted_positive : (ms : List ℤ) (rows : List Row) (x : List ℚ) (i : ℕ) → IsTrue (get_or rows i no_row).strict → pos 0 <ℤ get_or ms i (pos 0)
    → All IsNonnegative ms → All (λ r. Meets r x) rows → whole (pos 0) <ℚ weighted ms rows x
unfolding weighted
weighted_positive [] rows x i t p h k = absurd (omega (arith, ints, p))
weighted_positive (m ∷ ms) [] x i t p h k = absurd (false≢true t)
weighted_positive (m ∷ ms) (r ∷ rows) x zero t p h k =
    sum_left (whole m *ℚ value r.entries x) (weighted ms rows x)
    (*ℚ-positive (whole m) (value r.entries x) (whole-positive m p) (above r.strict (whole (pos 0)) (value r.entries x) t (All-head (λ r. Meets r x) r rows k)))
    (weighted_nonneg ms rows x (All-tail IsNonnegative m ms h) (All-tail (λ r. Meets r x) r rows k))
weighted_positive (m ∷ ms) (r ∷ rows) x (suc i) t p h k =
    sum_right (whole m *ℚ value r.entries x) (weighted ms rows x)
    (*ℚ-nonneg (whole m) (value r.entries x) (whole_nonneg m (All-head IsNonnegative m ms h)) (at_least r.strict (whole (pos 0)) (value r.entries x) (All-head (λ r. Meets r x) r rows k)))
    (weighted_positive ms rows x i t p (All-tail IsNonnegative m ms h) (All-tail (λ r. Meets r x) r rows k))

-- ---- no point

no_rational_point : (s : System) (c : List ℤ) (x : List ℚ) → IsRectangular s → IsCertificate s c → ¬ IsPoint s x
no_rational_point s c x even cert point =
    let zeros : (v : ℕ) → get_or (combination c s.rows) v (pos 0) ≡ pos 0 =
    λ v. get_or-combination c s.rows v ∙ ⊎_elim (λ b. cert.zero_sum v b) (λ b. dot-past s.columns v c s.rows even.lengths b) (cases_lt v s.columns) in
    let none : weighted c s.rows x ≡ whole (pos 0) = sym (value-combination c s.rows x) ∙ value-zeros (combination c s.rows) x zeros in
    let some = weighted_positive c s.rows x cert.some_strict.0 cert.some_strict.1 cert.some_strict.2 cert.nonnegative point in
    <ℚ_irrefl (whole (pos 0)) (subst (λ t. whole (pos 0) <ℚ t) none some)

-- a whole point meets a system as a rational one does
pub point_whole : (s : System) (p : List ℤ) → IsPoint s (wholes p) ↔ IsWholePoint s p
point_whole s p =
    (λ h k d l. (meets_whole (get_or s.rows k d) p).0 (h k d l), λ h k d l. (meets_whole (get_or s.rows k d) p).1 (h k d l))

pub no_point : (s : System) (c : List ℤ) → IsRectangular s → IsCertificate s c → HasNoPoint s
no_point s c even cert = record {
  rational = λ x. no_rational_point s c x even cert;
  whole = λ p h. no_rational_point s c (wholes p) even cert ((point_whole s p).1 h);
}
