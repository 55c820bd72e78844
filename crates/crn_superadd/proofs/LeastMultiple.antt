-- The least multiple of a point at which its sum with another meets an order.
use Rattle.std.proofs.Common.{◌≡◌, ◌↔◌, ℕ, zero, suc, ◌<◌, ◌≤◌, ◌+◌, ◌*◌, ◌-◌, ◌/◌, max, List, [], ◌∷◌, length, refl, sym, ap, ap₂, ◌∙◌, arith, ⊎_elim, subst}
use Rattle.std.specs.Prelude.{ℤ, pos, negsuc, ◌+ℤ◌, ◌*ℤ◌, ◌<ℤ◌, unsigned_abs, int_lt, true, false, cond, All, slice_index_or}
use Rattle.std.proofs.Math.Nat.{div-lt_iff_lt-mul}
use Rattle.std.proofs.lemmas.Int.{ints}
use Rattle.std.proofs.lemmas.Bool.{cases_lt}
use Rattle.crn_fraction.specs.Rational.{ℚ, whole, 0ℚ, ◌+ℚ◌, ◌*ℚ◌, ◌<ℚ◌}
use Rattle.crn_fraction.proofs.Core.{pos_times}
use Rattle.crn_fraction.proofs.Ratios.{times_pos}
use Rattle.crn_fraction.proofs.Ring.{whole-+ℤ, whole-*ℤ}
use Rattle.crn_fraction.proofs.Order.{over-<ℚ}
use Rattle.crn_fraction.proofs.Linear.{<ℚ_trans, difference_positive}
use Rattle.crn_linear.specs.Forms.{at, wholes, minus}
use Rattle.crn_linear.specs.Rows.{dot, value}
use Rattle.crn_linear.specs.Cleared.{cleared}
use Rattle.crn_linear.proofs.Minus.{length-minus, at-minus}
use Rattle.crn_linear.proofs.FormRows.{length-cleared}
use Rattle.crn_linear.proofs.Unique.{meets_cleared}
use Rattle.crn_formula.proofs.Multiples.{at-scale}
use Rattle.crn_cells.specs.Cells.{numbered, Ascend}
use Rattle.crn_linear.specs.Forms.{plus}
use Rattle.crn_superadd.specs.Superadditive.{multiple, IsLeastMultiple, step_row, least_over, times_at, times_upto, least_times}
use Rattle.crn_linear.proofs.Values.{at-plus}
use Rattle.crn_linear.proofs.Unique.{value-at}
use Rattle.crn_cells.proofs.Orders.{get_or_any}

-- ---- numbers
pub once_of_nonneg : (d : ℤ) (b : ℕ) → least_over d (pos b) ≡ 1
once_of_nonneg d b =
    let e : false ≡ int_lt (pos b) (pos 0) = omega (arith, ints) in
    ap (λ t. cond t (b / unsigned_abs d + 1) 1) (sym e)

least_over_is : (d e : ℤ) (m : ℕ) → pos 0 <ℤ d → 1 ≤ m → (pos 0 <ℤ (pos m *ℤ d +ℤ e)) ↔ (least_over d e ≤ m)
least_over_is (negsuc a) e m h l = absurd (omega (arith, ints, h))
least_over_is (pos a) (pos b) m h l =
    let p : pos (m * a) ≡ pos m *ℤ pos a = pos_times m a in
    let q : 0 < m * a = times_pos m a (omega (arith, l)) (omega (arith, ints, h)) in
    let e = once_of_nonneg (pos a) b in
    (λ k. omega (arith, l, e), λ k. omega (arith, ints, p, q))
least_over_is (pos a) (negsuc b) m h l =
    let p : pos (m * a) ≡ pos m *ℤ pos a = pos_times m a in
    let d : (suc b / a < m) ↔ (suc b < m * a) = div-lt_iff_lt-mul (omega (arith, ints, h)) in (
      λ k. let u : suc b / a < m = d.1 (omega (arith, ints, p, k)) in omega (arith, u),
      λ k. let u : suc b < m * a = d.0 (omega (arith, k)) in omega (arith, ints, p, u),
    )

pub least_over_some : (d e : ℤ) → 1 ≤ least_over d e
least_over_some d (pos b) = let e = once_of_nonneg d b in omega (arith, e)
least_over_some d (negsuc b) = omega arith

-- ---- rows at whole points
at-wholes : (r p : List ℤ) → at (wholes r) (wholes p) ≡ whole (dot r p)
at-wholes [] p = refl
at-wholes (a ∷ r) [] = refl
at-wholes (a ∷ r) (t ∷ p) =
    ap (λ z. whole a *ℚ whole t +ℚ z) (at-wholes r p) ∙ ap (λ z. z +ℚ whole (dot r p)) (sym (whole-*ℤ a t)) ∙ sym (whole-+ℤ (a *ℤ t) (dot r p))

-- a row at a multiple of a whole point and another
value-sum : (r p q : List ℤ) (m : ℕ) → value r (plus (multiple m (wholes p)) (wholes q)) ≡ whole (pos m *ℤ dot r p +ℤ dot r q)
value-sum r p q m =
    value-at r (plus (multiple m (wholes p)) (wholes q)) ∙ at-plus (wholes r) (multiple m (wholes p)) (wholes q)
    ∙ ap₂ (λ u v. u +ℚ v) (at-scale (wholes r) (whole (pos m)) (wholes p) ∙ ap (λ t. whole (pos m) *ℚ t) (at-wholes r p)) (at-wholes r q)
    ∙ ap (λ t. t +ℚ whole (dot r q)) (sym (whole-*ℤ (pos m) (dot r p))) ∙ sym (whole-+ℤ (pos m *ℤ dot r p) (dot r q))

-- the one form is below the other there
sum_below : (a b : List ℚ) (p q : List ℤ) (m : ℕ) → length a ≡ length b
    → (at a (plus (multiple m (wholes p)) (wholes q)) <ℚ at b (plus (multiple m (wholes p)) (wholes q))) ↔ (pos 0 <ℤ (pos m *ℤ dot (cleared (minus b a)) p +ℤ dot (cleared (minus b a)) q))
sum_below a b p q m e =
    let x = plus (multiple m (wholes p)) (wholes q) in
    let r = cleared (minus b a) in
    let z = pos m *ℤ dot r p +ℤ dot r q in
    let d = difference_positive (at a x) (at b x) in
    let s = at-minus b a x (sym e) in
    let c = meets_cleared (minus b a) x true in
    let o = over-<ℚ (pos 0) 1 z (omega arith) in (
      λ h. o.0 (subst (λ v. 0ℚ <ℚ v) (value-sum r p q m) (c.1 (subst (λ v. 0ℚ <ℚ v) (sym s) (d.0 h)))),
      λ h. d.1 (subst (λ v. 0ℚ <ℚ v) s (c.0 (subst (λ v. 0ℚ <ℚ v) (sym (value-sum r p q m)) (o.1 h)))),
    )

-- the same at the first point alone
first_below : (a b : List ℚ) (p : List ℤ) → length a ≡ length b → at a (wholes p) <ℚ at b (wholes p) → pos 0 <ℤ dot (cleared (minus b a)) p
first_below a b p e h =
    let r = cleared (minus b a) in
    let c = (meets_cleared (minus b a) (wholes p) true).1 (subst (λ v. 0ℚ <ℚ v) (sym (at-minus b a (wholes p) (sym e))) ((difference_positive (at a (wholes p)) (at b (wholes p))).0 h)) in
    (over-<ℚ (pos 0) 1 (dot r p) (omega arith)).0 (subst (λ v. 0ℚ <ℚ v) (value-at r (wholes p) ∙ at-wholes r p) c)

-- ---- steps of an order
module _ (forms : List (List ℚ)) (order : List ℕ) where
  abbrev number : ℕ → ℕ
  number n = slice_index_or order n 0

  abbrev form_no : ℕ → List ℚ
  form_no n = numbered forms (number n)

  -- each form is below the next one
  abbrev Step : List ℚ → ℕ → Type 0
  Step x n = at (form_no n) x <ℚ at (form_no (suc n)) x

  step_of_Ascend : (x : List ℚ) → Ascend forms x order → (n : ℕ) → suc n < length order → Step x n
  step_of_Ascend x m n l = m n (suc n) 0 (omega arith) l

  far : (x : List ℚ) → ((n : ℕ) → suc n < length order → Step x n) → (i k : ℕ) → i + suc k < length order → at (form_no i) x <ℚ at (form_no (i + suc k)) x
  far x f i zero l = let e : suc i ≡ i + 1 = omega arith in subst (λ n. at (form_no i) x <ℚ at (form_no n) x) e (f i (omega (arith, l)))
  far x f i (suc k) l =
      let e : suc (i + suc k) ≡ i + suc (suc k) = omega arith in
      <ℚ_trans (at (form_no i) x) (at (form_no (i + suc k)) x) (at (form_no (i + suc (suc k))) x) (far x f i k (omega (arith, l)))
      (subst (λ n. at (form_no (i + suc k)) x <ℚ at (form_no n) x) e (f (i + suc k) (omega (arith, l))))

  Ascend_of_steps : (x : List ℚ) → ((n : ℕ) → suc n < length order → Step x n) → Ascend forms x order
  Ascend_of_steps x f i j d l w =
      let e : i + suc (j - suc i) ≡ j = omega (arith, l) in
      let h : at (form_no i) x <ℚ at (form_no j) x = subst (λ n. at (form_no i) x <ℚ at (form_no n) x) e (far x f i (j - suc i) (omega (arith, l, w))) in
      subst (λ t. at (numbered forms t) x <ℚ at (numbered forms (slice_index_or order j d)) x) (get_or_any order i 0 d (omega (arith, l, w)))
      (subst (λ t. at (form_no i) x <ℚ at (numbered forms t) x) (get_or_any order j 0 d w) h)

  -- one step more
  pub code_next : (first second : List ℤ) (n t a b : ℕ) → 1 ≤ n → t ≡ times_upto forms order first second (n - 1)
      → a ≡ least_over (dot (step_row forms (number (n - 1)) (number n)) first) (dot (step_row forms (number (n - 1)) (number n)) second)
      → b ≡ max t a → b ≡ times_upto forms order first second (n + 1 - 1)
  code_next first second n t a b h et ea eb =
      let e : suc (n - 1) ≡ n = omega (arith, h) in
      let f : suc (n - 1) ≡ n + 1 - 1 = omega (arith, h) in
      let row : ℕ → List ℤ = λ m. step_row forms (number (n - 1)) (number m) in
      eb ∙ ap₂ (λ x y. max x y) et (ea ∙ ap (λ m. least_over (dot (row m) first) (dot (row m) second)) (sym e)) ∙ ap (times_upto forms order first second) f

  module _ (k : ℕ) (long : All (λ f. length f ≡ k) forms) (within : All (λ i. i < length forms) order) (first second : List ℤ) (ascend : Ascend forms (wholes first) order) where
    form_long : (n : ℕ) → n < length order → length (form_no n) ≡ k
    form_long n l = long (number n) [] (within n 0 l)

    same_long : (n : ℕ) → suc n < length order → length (form_no n) ≡ length (form_no (suc n))
    same_long n l = form_long n (omega (arith, l)) ∙ sym (form_long (suc n) l)

    -- the rows of steps are above 0 at the first point
    pub step_positive : (n : ℕ) → suc n < length order → pos 0 <ℤ dot (step_row forms (number n) (number (suc n))) first
    step_positive n l = first_below (form_no n) (form_no (suc n)) first (same_long n l) (step_of_Ascend (wholes first) ascend n l)

    -- as the code counts them, from 1
    pub code_step : (n : ℕ) → 1 ≤ n → n < length order → pos 0 <ℤ dot (step_row forms (number (n - 1)) (number n)) first
    code_step n h l =
        let e : suc (n - 1) ≡ n = omega (arith, h) in
        subst (λ m. pos 0 <ℤ dot (step_row forms (number (n - 1)) (number m)) first) e (step_positive (n - 1) (omega (arith, h, l)))

    pub code_columns : (n : ℕ) → 1 ≤ n → n < length order → length (step_row forms (number (n - 1)) (number n)) ≡ k
    code_columns n h l =
        let a = form_long n l in
        let b = form_long (n - 1) (omega (arith, h, l)) in
        length-cleared (minus (form_no n) (form_no (n - 1))) ∙ length-minus (form_no n) (form_no (n - 1)) (a ∙ sym b) ∙ a

    -- a step at a multiple asks for one number
    step_times : (m n : ℕ) → 1 ≤ m → suc n < length order → Step (plus (multiple m (wholes first)) (wholes second)) n ↔ (times_at forms order first second n ≤ m)
    step_times m n h l =
        let r = step_row forms (number n) (number (suc n)) in
        let b = sum_below (form_no n) (form_no (suc n)) first second m (same_long n l) in
        let o = least_over_is (dot r first) (dot r second) m (step_positive n l) h in
        (λ s. o.0 (b.0 s), λ t. b.1 (o.1 t))

    upto_each : (n m : ℕ) → times_upto forms order first second n ≤ m → (i : ℕ) → i < n → times_at forms order first second i ≤ m
    upto_each zero m h i l = absurd (omega (arith, l))
    upto_each (suc n) m h i l =
        ⊎_elim
        (λ (e : i < n). upto_each n m (omega (arith, h)) i e)
        (λ (e : n ≤ i). let s : n ≡ i = omega (arith, e, l) in subst (λ j. times_at forms order first second j ≤ m) s (omega (arith, h)))
        (cases_lt i n)

    each_upto : (n m : ℕ) → 1 ≤ m → ((i : ℕ) → i < n → times_at forms order first second i ≤ m) → times_upto forms order first second n ≤ m
    each_upto zero m h f = h
    each_upto (suc n) m h f =
        let a = each_upto n m h (λ i l. f i (omega (arith, l))) in
        let b = f n (omega arith) in
        omega (arith, a, b)

    upto_some : (n : ℕ) → 1 ≤ times_upto forms order first second n
    upto_some zero = omega arith
    upto_some (suc n) = let a = upto_some n in omega (arith, a)

    pub least_times_is : IsLeastMultiple forms order (wholes first) (wholes second) (least_times forms order first second)
    least_times_is =
        let t = least_times forms order first second in
        let some = upto_some (length order - 1) in
        record {
          some = some;
          meets = Ascend_of_steps (plus (multiple t (wholes first)) (wholes second))
              (λ n l. (step_times t n some l).1 (upto_each (length order - 1) t (omega arith) n (omega (arith, l))));
          least = λ m h a. each_upto (length order - 1) m h
              (λ n l. (step_times m n h (omega (arith, l))).0 (step_of_Ascend (plus (multiple m (wholes first)) (wholes second)) a n (omega (arith, l))));
        }
