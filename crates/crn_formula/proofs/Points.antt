-- The points of the three domains.
use Rattle.std.proofs.Common.{◌≡◌, ◌↔◌, ℕ, zero, suc, ◌+◌, ◌-◌, ◌<◌, ◌≤◌, List, [], ◌∷◌, length, sym, refl, ap, ap₂, ◌∙◌, arith, subst, ◌⊎◌, ⊎_elim, true, false}
use Rattle.std.specs.Prelude.{pos, Some, All, replicate}
use Rattle.std.proofs.lemmas.Bool.{cases_lt}
use Rattle.std.proofs.lemmas.List.{length-replicate}
use Rattle.std.proofs.lemmas.List.Elements.{All-nil, All-cons, All-head, All-push, All-pop, All-from_get_or}
use Rattle.crn_fraction.specs.Rational.{ℚ, whole, 0ℚ, ◌+ℚ◌, ◌*ℚ◌, ◌≤ℚ◌, ◌<ℚ◌}
use Rattle.crn_fraction.proofs.Ring.{zero-*ℚ, zero-+ℚ, one-*ℚ, +ℚ-zero}
use Rattle.crn_linear.specs.Forms.{entry_of}
use Rattle.crn_linear.specs.Rows.{Row, value, Meets}
use Rattle.crn_formula.specs.Pieces.{IsIn}
use Rattle.crn_formula.specs.Domains.{unit, whole_space, affine_domain, orthant_rows, orthant}
use Rattle.crn_formula.proofs.Units.{length-unit}

value-zeros : (n : ℕ) (x : List ℚ) → value (replicate n (pos 0)) x ≡ 0ℚ
value-zeros zero x = refl
value-zeros (suc n) [] = refl
value-zeros (suc n) (t ∷ x) = ap (λ v. whole (pos 0) *ℚ t +ℚ v) (value-zeros n x) ∙ +ℚ-zero _ ∙ zero-*ℚ t

-- a row with 1 in one column has that number of a point as its value
pub value-unit : (n i : ℕ) (x : List ℚ) → i < n → length x ≡ n → value (unit n i) x ≡ entry_of x i
value-unit zero i x h l = absurd (omega (arith, h))
value-unit (suc n) i [] h l = absurd (omega (arith, l))
value-unit (suc n) zero (t ∷ x) h l = ap (λ v. whole (pos 1) *ℚ t +ℚ v) (value-zeros n x) ∙ +ℚ-zero _ ∙ one-*ℚ t
value-unit (suc n) (suc i) (t ∷ x) h l = ap₂ (λ u v. u +ℚ v) (zero-*ℚ t) (value-unit n i x (omega (arith, h)) (omega (arith, l))) ∙ zero-+ℚ _

-- every point is in the whole space
pub in_whole_space : (n : ℕ) (x : List ℚ) → IsIn (whole_space n) x ↔ (length x ≡ n)
in_whole_space n x = (
  λ h. h.long ∙ length-replicate n (pos 0),
  λ l. record { long = l ∙ sym (length-replicate n (pos 0)); meets = All-nil (λ r. Meets r x) },
)

-- the last number of a point of the affine domain is above 0
pub in_affine : (n : ℕ) (x : List ℚ) → IsIn (affine_domain (n + 1)) x ↔ ((length x ≡ n + 1) × (0ℚ <ℚ entry_of x n))
in_affine n x =
    let last : (n + 1) - 1 ≡ n = omega arith in
    let row : Row = record { entries = unit (n + 1) ((n + 1) - 1); strict = true } in
    let read : length x ≡ n + 1 → value (unit (n + 1) ((n + 1) - 1)) x ≡ entry_of x n =
    λ l. value-unit (n + 1) ((n + 1) - 1) x (omega arith) l ∙ ap (λ i. entry_of x i) last in (
      λ h.
          let l = h.long ∙ length-unit (n + 1) ((n + 1) - 1) in
          (l, subst (λ v. 0ℚ <ℚ v) (read l) (All-head (λ r. Meets r x) row [] h.meets)),
      λ h. record {
        long = h.0 ∙ sym (length-unit (n + 1) ((n + 1) - 1));
        meets = All-cons (λ r. Meets r x) row [] (subst (λ v. 0ℚ <ℚ v) (sym (read h.0)) h.1) (All-nil (λ r. Meets r x));
      },
    )

one_more : (P : ℕ → Type 0) (m : ℕ) → ((i : ℕ) → i < m → P i) → P m → (i : ℕ) → i < suc m → P i
one_more P m f p i k =
    let split : (i < m) ⊎ (m ≤ i) = cases_lt i m in
    ⊎_elim (λ l. f i l) (λ g. let e : m ≡ i = omega (arith, g, k) in subst P e p) split

module _ (n : ℕ) (x : List ℚ) (l : length x ≡ n) where
  rows_from : (m : ℕ) → m ≤ n → ((i : ℕ) → i < m → 0ℚ ≤ℚ entry_of x i) → All (λ r. Meets r x) (orthant_rows n m)
  rows_from zero h f = All-nil (λ r. Meets r x)
  rows_from (suc m) h f =
      All-push (λ r. Meets r x) (orthant_rows n m) (record { entries = unit n m; strict = false }) (rows_from m (omega (arith, h)) (λ i k. f i (omega (arith, k))))
      (subst (λ v. 0ℚ ≤ℚ v) (sym (value-unit n m x (omega (arith, h)) l)) (f m (omega arith)))

  from_rows : (m : ℕ) → m ≤ n → All (λ r. Meets r x) (orthant_rows n m) → (i : ℕ) → i < m → 0ℚ ≤ℚ entry_of x i
  from_rows zero h a = λ i k. absurd (omega (arith, k))
  from_rows (suc m) h a =
      let both = All-pop (λ r. Meets r x) (orthant_rows n (suc m)) (orthant_rows n m) (Some (record { entries = unit n m; strict = false })) refl a in
      one_more (λ j. 0ℚ ≤ℚ entry_of x j) m (from_rows m (omega (arith, h)) both.0) (subst (λ v. 0ℚ ≤ℚ v) (value-unit n m x (omega (arith, h)) l) both.1)

-- no number of a point of the orthant is negative
pub in_orthant : (n : ℕ) (x : List ℚ) → IsIn (orthant n) x ↔ ((length x ≡ n) × All (λ t. 0ℚ ≤ℚ t) x)
in_orthant n x =
    let ones = length-replicate n (pos 1) in (
      λ h.
          let l = h.long ∙ ones in
          (l, All-from_get_or (λ t. 0ℚ ≤ℚ t) x 0ℚ (λ i k. from_rows n x l n (omega arith) h.meets i (omega (arith, k, l)))),
      λ h. record {
        long = h.0 ∙ sym ones;
        meets = rows_from n x h.0 n (omega arith) (λ i k. h.1 i 0ℚ (omega (arith, k, h.0)));
      },
    )
