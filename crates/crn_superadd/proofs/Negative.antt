-- A least of forms on the orthant is negative somewhere exactly where it is at a unit point, and there some form has a negative coefficient.
use Rattle.std.proofs.Common.{◌≡◌, ◌↔◌, ℕ, suc, ◌<◌, List, [], ◌∷◌, length, get_or, refl, sym, ap₂, ◌∙◌, arith, ⊎_elim, subst}
use Rattle.std.specs.Prelude.{Some, All}
use Rattle.std.proofs.lemmas.List.Elements.{All-head, All-tail}
use Rattle.crn_fraction.specs.Rational.{ℚ, 0ℚ, ◌+ℚ◌, ◌*ℚ◌, ◌≤ℚ◌, ◌<ℚ◌}
use Rattle.crn_fraction.proofs.Ring.{*ℚ_comm, +ℚ-zero}
use Rattle.crn_fraction.proofs.Order.{≤ℚ_or_<ℚ, ≤ℚ_refl}
use Rattle.crn_fraction.proofs.Linear.{not_<ℚ, ≤ℚ-<ℚ_trans, <ℚ_irrefl, add-≤ℚ-add}
use Rattle.crn_fraction.proofs.Products.{*ℚ-nonneg}
use Rattle.crn_linear.specs.Forms.{at, wholes, entry_of}
use Rattle.crn_formula.specs.Pieces.{Piece, IsIn}
use Rattle.crn_formula.specs.Functions.{least_value}
use Rattle.crn_formula.specs.Domains.{unit, orthant}
use Rattle.crn_formula.proofs.Points.{value-unit, in_orthant}
use Rattle.crn_superadd.specs.Superadditive.{IsLeast, IsNegativeIn, IsNegativeAt, IsNonnegative}
use Rattle.crn_cells.proofs.Members.{Has, Has-Contains, Contains-Has, Has-All, All-Has}
use Rattle.crn_cells.proofs.Numbers.{nonneg_rest}
use Rattle.crn_linear.proofs.Unique.{value-at}
use Rattle.crn_cells.proofs.Orders.{get_or_any}
use Rattle.crn_superadd.proofs.Orthant.{unit_in_orthant}
use Rattle.crn_superadd.proofs.Used.{least_below, least_one}

abbrev Nonneg : List ℚ → Type 0
Nonneg xs = All (λ t. 0ℚ ≤ℚ t) xs

at_nil : (c : List ℚ) → at c [] ≡ 0ℚ
at_nil [] = refl
at_nil (c ∷ cs) = refl

at_comm : (c p : List ℚ) → at c p ≡ at p c
at_comm [] p = sym (at_nil p)
at_comm (c ∷ cs) [] = refl
at_comm (c ∷ cs) (s ∷ p) = ap₂ (λ u v. u +ℚ v) (*ℚ_comm c s) (at_comm cs p)

-- the value of a form at a unit point is its coefficient
pub at-unit : (k i : ℕ) (f : List ℚ) → i < k → length f ≡ k → at f (wholes (unit k i)) ≡ entry_of f i
at-unit k i f h l = at_comm f (wholes (unit k i)) ∙ sym (value-at (unit k i) f) ∙ value-unit k i f h l

-- without negative numbers there is no negative value
nonneg_value : (f x : List ℚ) → Nonneg f → Nonneg x → 0ℚ ≤ℚ at f x
nonneg_value [] x h k = ≤ℚ_refl 0ℚ
nonneg_value (c ∷ f) [] h k = ≤ℚ_refl 0ℚ
nonneg_value (c ∷ f) (t ∷ x) h k =
    let P : ℚ → Type 0 = λ t. 0ℚ ≤ℚ t in
    subst (λ z. z ≤ℚ c *ℚ t +ℚ at f x) (+ℚ-zero 0ℚ)
    (add-≤ℚ-add 0ℚ (c *ℚ t) 0ℚ (at f x) (*ℚ-nonneg c t (All-head P c f h) (All-head P t x k)) (nonneg_value f x (All-tail P c f h) (All-tail P t x k)))

-- a negative value has a negative coefficient
negative_entry : (f x : List ℚ) → Nonneg x → at f x <ℚ 0ℚ → (i : ℕ) × (i < length f) × (entry_of f i <ℚ 0ℚ)
negative_entry [] x k h = absurd (<ℚ_irrefl 0ℚ h)
negative_entry (c ∷ f) [] k h = absurd (<ℚ_irrefl 0ℚ h)
negative_entry (c ∷ f) (t ∷ x) k h =
    let P : ℚ → Type 0 = λ t. 0ℚ ≤ℚ t in
    ⊎_elim
    (λ (n : 0ℚ ≤ℚ c).
    let r = negative_entry f x (All-tail P t x k) (nonneg_rest (c *ℚ t) (at f x) (*ℚ-nonneg c t n (All-head P t x k)) h) in
    (suc r.0, omega (arith, r.1), r.2))
    (λ (n : c <ℚ 0ℚ). (0, omega arith, n))
    (≤ℚ_or_<ℚ 0ℚ c)

module _ (k : ℕ) (pieces : List Piece) (forms : List (List ℚ)) (is_least : IsLeast (orthant k) pieces forms) (long : All (λ f. length f ≡ k) forms) where
  negative_of : (x : List ℚ) → IsIn (orthant k) x → IsNegativeAt pieces x → least_value forms x <ℚ 0ℚ
  negative_of x ix n = subst (λ v. v <ℚ 0ℚ) (by (sym n.is_value ∙ is_least x ix)) n.negative
    where
      by : {u w : ℚ} → Some u ≡ Some w → u ≡ w
      by h = cc

  -- some form is negative where the function is
  negative_form : (x : List ℚ) → IsIn (orthant k) x → IsNegativeAt pieces x → (f : List ℚ) × Has f forms × (at f x <ℚ 0ℚ)
  negative_form x ix n =
      let l = negative_of x ix n in
      ⊎_elim
      (λ (o : (f : List ℚ) × Has f forms × (at f x ≡ least_value forms x)). (o.0, o.1, subst (λ v. v <ℚ 0ℚ) (sym o.2) l))
      (λ (e : forms ≡ []). absurd (<ℚ_irrefl 0ℚ (subst (λ fs. least_value fs x <ℚ 0ℚ) e l)))
      (least_one forms x)

  -- and the function where some form is
  negative_by : (x : List ℚ) → IsIn (orthant k) x → (f : List ℚ) → Has f forms → at f x <ℚ 0ℚ → IsNegativeAt pieces x
  negative_by x ix f h l = record {
    value = least_value forms x;
    is_value = is_least x ix;
    negative = ≤ℚ-<ℚ_trans (least_value forms x) (at f x) 0ℚ (least_below forms x f h) l;
  }

  length_of : (f : List ℚ) → Has f forms → length f ≡ k
  length_of f h = Has-All (λ g. length g ≡ k) f forms long h

  -- at a unit point: a coefficient
  pub at_units : (i : ℕ) → i < k → IsNegativeAt pieces (wholes (unit k i)) ↔ IsNegativeIn forms i
  at_units i h = (
    λ n.
        let f = negative_form (wholes (unit k i)) (unit_in_orthant k i) n in
        let c = Contains-Has f.0 forms f.1 in
        (c.0, f.0, c.1, c.2, subst (λ v. v <ℚ 0ℚ) (at-unit k i f.0 h (length_of f.0 f.1)) f.2),
    λ a.
        let has = Has-Contains a.1 forms (a.0, a.2, a.3) in
        negative_by (wholes (unit k i)) (unit_in_orthant k i) a.1 has (subst (λ v. v <ℚ 0ℚ) (sym (at-unit k i a.1 h (length_of a.1 has))) a.4),
  )

  -- where the function is negative at all, it is at a unit point
  pub some_unit : (x : List ℚ) → IsIn (orthant k) x → IsNegativeAt pieces x → (i : ℕ) × (i < k) × IsNegativeAt pieces (wholes (unit k i))
  some_unit x ix n =
      let f = negative_form x ix n in
      let e = negative_entry f.0 x ((in_orthant k x).0 ix).1 f.2 in
      let l : e.0 < k = subst (λ m. e.0 < m) (length_of f.0 f.1) e.1 in
      (e.0, l, negative_by (wholes (unit k e.0)) (unit_in_orthant k e.0) f.0 f.1 (subst (λ v. v <ℚ 0ℚ) (sym (at-unit k e.0 f.0 l (length_of f.0 f.1))) e.2))

  -- and it is nowhere exactly where no form has a negative coefficient
  pub nonnegative : IsNonnegative (orthant k) pieces ↔ All Nonneg forms
  nonnegative = (
    λ n. All-Has Nonneg forms (λ f h. λ i d l.
        ⊎_elim
        (λ (p : 0ℚ ≤ℚ get_or f i d). p)
        (λ (p : get_or f i d <ℚ 0ℚ).
        let w : i < k = subst (λ m. i < m) (length_of f h) l in
        let e : entry_of f i <ℚ 0ℚ = subst (λ v. v <ℚ 0ℚ) (get_or_any f i d 0ℚ l) p in
        absurd (n (wholes (unit k i)) (unit_in_orthant k i) (negative_by (wholes (unit k i)) (unit_in_orthant k i) f h (subst (λ v. v <ℚ 0ℚ) (sym (at-unit k i f w (length_of f h))) e))))
        (≤ℚ_or_<ℚ 0ℚ (get_or f i d))),
    λ a x ix n.
        let f = negative_form x ix n in
        not_<ℚ 0ℚ (at f.0 x) (nonneg_value f.0 x (Has-All Nonneg f.0 forms a f.1) ((in_orthant k x).0 ix).1) f.2,
  )

-- forms without a negative coefficient in any column
pub no_negative : (k : ℕ) (forms : List (List ℚ)) → All (λ f. length f ≡ k) forms → ((i : ℕ) → i < k → ¬ IsNegativeIn forms i) → All Nonneg forms
no_negative k forms long none =
    All-Has Nonneg forms
    (λ f h i d l.
    let c = Contains-Has f forms h in
    let w : i < k = subst (λ m. i < m) (Has-All (λ g. length g ≡ k) f forms long h) l in
    ⊎_elim (λ (p : 0ℚ ≤ℚ get_or f i d). p) (λ (p : get_or f i d <ℚ 0ℚ). absurd (none i w (c.0, f, c.1, c.2, subst (λ v. v <ℚ 0ℚ) (get_or_any f i d 0ℚ l) p))) (≤ℚ_or_<ℚ 0ℚ (get_or f i d)))
