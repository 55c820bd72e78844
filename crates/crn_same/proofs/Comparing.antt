-- Two functions and their formulas on the common domain.
use Rattle.std.proofs.Common.{◌≡◌, inl, inr, ℕ, ◌+◌, ◌-◌, ◌≤◌, max, Bool, true, false, cond, ◌||◌, List, [], ◌∷◌, ◌++◌, length, length-append, take, drop, Some, Result, Ok, Err, refl, sym, ap, ap₂, ◌∙◌, subst, arith}
use Rattle.std.specs.Prelude.{ℤ, pos, IfErr, OnOk}
use Rattle.std.proofs.lemmas.List.{take_all, take-append-drop, length-take-le, take-append-le, length-replicate}
use Rattle.std.proofs.Math.Seq.{get_or-append_seam}
use Rattle.crn_fraction.specs.Rational.{ℚ, whole, 0ℚ, ◌+ℚ◌, ◌-ℚ◌, ◌*ℚ◌, ◌<ℚ◌, min_ℚ, max_ℚ}
use Rattle.crn_fraction.proofs.Products.{whole_positive}
use Rattle.crn_linear.specs.Forms.{at, wholes, entry_of}
use Rattle.crn_formula.specs.Domains.{affine_domain, domain_for}
use Rattle.crn_formula.specs.Formulas.{Formula, node_count, Lin, Add, Sub, Scale, Min, Max, IsOver, formula_value}
use Rattle.crn_formula.specs.Functions.{Kind, ByFormula, ByPieces, ByLeast, kind_value, point_of, is_affine, columns, IsFitting, IsGivenByPieces}
use Rattle.crn_formula.specs.Pieces.{Domain, IsIn, IsDomain, columns_of}
use Rattle.crn_formula.proofs.OwnDomains.{own_columns, own_domain_is}
use Rattle.crn_formula.proofs.Points.{in_whole_space, in_affine}
use Rattle.crn_formula.proofs.Units.{length-unit}
use Rattle.crn_formula.specs.declared.formula.Formula as rust
use Rattle.crn_formula.specs.Views.{Function, kind_of, plain_of}
use Rattle.crn_pieces.specs.Views.{pieces_in, pieces_of_kind}
use Rattle.crn_pieces.specs.Answers.{AreChecked}
use Rattle.crn_maxmin.specs.Answers.{IsFormulaOf}
use Rattle.crn_maxmin.proofs.Converted.{has_value, is_over}
use Rattle.crn_maxmin.proofs.Prepared.{long_pieces}
use Rattle.crn_same.specs.declared.SameError.{SameError}
use Rattle.crn_same.specs.declared.SameError.TheVariants.{Differ}
use Rattle.crn_same.specs.declared.functions.InFormula.{InFormula}
use Rattle.crn_same.specs.declared.functions.InFormula.TheVariants.{Given, Made}
use Rattle.crn_same.specs.Equal.{AreEqual, AreOver, DifferAt}
use Rattle.crn_same.specs.Answers.{NoneDiffers, Ends, IsTruePoint}
use Rattle.crn_same.specs.Functions.{AreSame, AreShownSame, IsDifference, IsTrueOf, IsRefused, IsFormulaFor, domain_by, common_domain, value_on, IsComparable, HasNoFormula, KeepsFormula, formula_of_kind, formula_in}
use Rattle.crn_same.proofs.Walking.{are_equal, true_point}

-- ---- a value does not see the numbers past its columns
at_longer : (f x y : List ℚ) → length f ≤ length x → at f (x ++ y) ≡ at f x
at_longer [] x y h = refl
at_longer (a ∷ f) [] y h = absurd (omega (arith, h))
at_longer (a ∷ f) (t ∷ x) y h = ap (λ v. a *ℚ t +ℚ v) (at_longer f x y (omega (arith, h)))

pub value_longer : (n : ℕ) (e : Formula) (x y : List ℚ) → IsOver n e → n ≤ length x → formula_value e (x ++ y) ≡ formula_value e x
value_longer n (Lin form) x y o h = at_longer form x y (omega (arith, o, h))
value_longer n (Add a b) x y o h = ap₂ (λ v w. v +ℚ w) (value_longer n a x y o.0 h) (value_longer n b x y o.1 h)
value_longer n (Sub a b) x y o h = ap₂ (λ v w. v -ℚ w) (value_longer n a x y o.0 h) (value_longer n b x y o.1 h)
value_longer n (Scale q a) x y o h = ap (λ v. q *ℚ v) (value_longer n a x y o h)
value_longer n (Min a b) x y o h = ap₂ min_ℚ (value_longer n a x y o.0 h) (value_longer n b x y o.1 h)
value_longer n (Max a b) x y o h = ap₂ max_ℚ (value_longer n a x y o.0 h) (value_longer n b x y o.1 h)

pub value_taken : (n : ℕ) (e : Formula) (x : List ℚ) → IsOver n e → n ≤ length x → formula_value e (take n x) ≡ formula_value e x
value_taken n e x o h = sym (value_longer n e (take n x) (drop n x) o (let l : length (take n x) ≡ n = length-take-le n x h in omega (arith, l))) ∙ ap (formula_value e) (take-append-drop n x)

-- ---- the domains
-- a function of k variables that is affine or not, and so many columns
abbrev columns_by : ℕ → Bool → ℕ
columns_by k affine = cond affine (k + 1) k

columns_are : (k : ℕ) (affine : Bool) → columns_of (domain_by k affine) ≡ columns_by k affine
columns_are k true = length-unit (k + 1) ((k + 1) - 1)
columns_are k false = length-replicate k (pos 0)

pub common_domain_is : (k : ℕ) (f g : Kind) → IsDomain (common_domain k f g)
common_domain_is k f g = by (is_affine k f) (is_affine k g) (own_domain_is k f) (own_domain_is k g)
  where
    by : (s t : Bool) → IsDomain (domain_by k s) → IsDomain (domain_by k t) → IsDomain (domain_by k (s || t))
    by true t first second = first
    by false t first second = second

module _ (k : ℕ) (own affine : Bool) (only : own ≡ true → affine ≡ true) where
  long_enough : (y : List ℚ) → IsIn (domain_by k affine) y → columns_by k own ≤ length y
  long_enough y i = by own affine only (i.long ∙ columns_are k affine)
    where
      by : (own affine : Bool) → (own ≡ true → affine ≡ true) → length y ≡ columns_by k affine → columns_by k own ≤ length y
      by true true o l = omega (arith, l)
      by true false o l = absurd (let e : false ≡ true = o refl in cc)
      by false true o l = omega (arith, l)
      by false false o l = omega (arith, l)

  -- a point of the common domain has one of the function's own before it
  taken_in : (y : List ℚ) → IsIn (domain_by k affine) y → IsIn (domain_by k own) (take (columns_by k own) y)
  taken_in y i = by own affine only i (long_enough y i)
    where
      by : (own affine : Bool) → (own ≡ true → affine ≡ true) → IsIn (domain_by k affine) y → columns_by k own ≤ length y → IsIn (domain_by k own) (take (columns_by k own) y)
      by true true o i l = subst (IsIn (affine_domain (k + 1))) (sym (take_all (k + 1) y (let e = i.long ∙ columns_are k true in omega (arith, e)))) i
      by true false o i l = absurd (let e : false ≡ true = o refl in cc)
      by false affine o i l = (in_whole_space k (take k y)).1 (length-take-le k y l)

  -- amounts, with 1 behind them where the domain is affine
  abbrev amounts_at : List ℚ → List ℚ
  amounts_at x = cond affine (x ++ whole (pos 1) ∷ []) x

  amounts_taken : (x : List ℚ) → length x ≡ k → take (columns_by k own) (cond affine (x ++ whole (pos 1) ∷ []) x) ≡ cond own (x ++ whole (pos 1) ∷ []) x
  amounts_taken x l = by own affine only
    where
      by : (own affine : Bool) → (own ≡ true → affine ≡ true) → take (columns_by k own) (cond affine (x ++ whole (pos 1) ∷ []) x) ≡ cond own (x ++ whole (pos 1) ∷ []) x
      by true true o = take_all (k + 1) (x ++ whole (pos 1) ∷ []) (let e : length (x ++ whole (pos 1) ∷ []) ≡ length x + 1 = length-append x (whole (pos 1) ∷ []) in omega (arith, e, l))
      by true false o = absurd (let e : false ≡ true = o refl in cc)
      by false true o = take-append-le k x (whole (pos 1) ∷ []) (omega (arith, l)) ∙ take_all k x (omega (arith, l))
      by false false o = take_all k x (omega (arith, l))

pub amounts_in : (k : ℕ) (affine : Bool) (x : List ℚ) → length x ≡ k → IsIn (domain_by k affine) (cond affine (x ++ whole (pos 1) ∷ []) x)
amounts_in k true x l =
    (in_affine k (x ++ whole (pos 1) ∷ [])).1 (
      length-append x (whole (pos 1) ∷ []) ∙ ap (λ n. n + 1) l,
      subst (λ v. 0ℚ <ℚ v) (sym (ap (entry_of (x ++ whole (pos 1) ∷ [])) (sym l) ∙ get_or-append_seam x (whole (pos 1)) [] 0ℚ)) (whole_positive 1 (omega arith)),
    )
amounts_in k false x l = (in_whole_space k x).1 l

-- ---- the formula of a function
pub formula_over : (k : ℕ) (f : Kind) (e : Formula) → IsFitting k f → IsFormulaFor k f e → IsOver (columns k f) e
formula_over k (ByFormula g) e fit is = subst (IsOver (columns k (ByFormula g))) (sym is) fit.forms
formula_over k (ByPieces ps) e fit is =
    let D = domain_for k (ByPieces ps) in
    let c = is.checked in
    let i = is.is_formula in
    subst (λ n. IsOver n e) (own_columns k (ByPieces ps)) (subst (IsOver (columns_of D)) (sym i.is_formula) (is_over D ps c.is_domain (long_pieces D ps c.long) c i.cells i.all))
formula_over k (ByLeast forms) e fit is = absurd is

pub formula_value_is : (k : ℕ) (f : Kind) (e : Formula) → IsFormulaFor k f e → (x : List ℚ) → IsIn (domain_for k f) x → kind_value f x ≡ Some (formula_value e x)
formula_value_is k (ByFormula g) e is x i = ap (λ h. Some (formula_value h x)) (sym is)
formula_value_is k (ByPieces ps) e is x ix =
    let D = domain_for k (ByPieces ps) in
    let c = is.checked in
    let i = is.is_formula in
    has_value D ps c.is_domain (long_pieces D ps c.long) c i.cells i.all x ix ∙ ap (λ h. Some (formula_value h x)) (sym i.is_formula)
formula_value_is k (ByLeast forms) e is x i = absurd is

module _ (k : ℕ) (f : Kind) (fit : IsFitting k f) (e : Formula) (is : IsFormulaFor k f e) (affine : Bool) (only : is_affine k f ≡ true → affine ≡ true) where
  -- the value at a point of the common domain is the formula's
  on_common : (y : List ℚ) → IsIn (domain_by k affine) y → value_on k f y ≡ Some (formula_value e y)
  on_common y i =
      formula_value_is k f e is (take (columns k f) y) (taken_in k (is_affine k f) affine only y i)
      ∙ ap Some (value_taken (columns k f) e y (formula_over k f e fit is) (long_enough k (is_affine k f) affine only y i))

  -- so it is at amounts
  at_amounts : (x : List ℚ) → length x ≡ k → kind_value f (point_of k f x) ≡ Some (formula_value e (cond affine (x ++ whole (pos 1) ∷ []) x))
  at_amounts x l =
      ap (kind_value f) (sym (amounts_taken k (is_affine k f) affine only x l))
      ∙ on_common (cond affine (x ++ whole (pos 1) ∷ []) x) (amounts_in k affine x l)

-- ---- two functions
left_only : (a b : Bool) → a ≡ true → (a || b) ≡ true
left_only true b e = refl
left_only false b e = absurd cc

right_only : (a b : Bool) → b ≡ true → (a || b) ≡ true
right_only true b e = refl
right_only false true e = refl
right_only false false e = absurd cc

some_injective : (v w : ℚ) → Some v ≡ Some w → v ≡ w
some_injective v w e = cc

module _ (k : ℕ) (f g : Kind) (fits_f : IsFitting k f) (fits_g : IsFitting k g) (a b : Formula) (is_a : IsFormulaFor k f a) (is_b : IsFormulaFor k g b) where
  abbrev own_f : Bool
  own_f = is_affine k f

  abbrev own_g : Bool
  own_g = is_affine k g

  same_by : AreEqual (common_domain k f g) a b → AreSame k f g
  same_by q x l =
      at_amounts k f fits_f a is_a (own_f || own_g) (left_only own_f own_g) x l
      ∙ ap Some (q (cond (own_f || own_g) (x ++ whole (pos 1) ∷ []) x) (amounts_in k (own_f || own_g) x l))
      ∙ sym (at_amounts k g fits_g b is_b (own_f || own_g) (right_only own_f own_g) x l)

  difference_by : (p : List ℤ) → DifferAt (common_domain k f g) a b p → IsDifference k f g p
  difference_by p d = record {
    is_in = d.is_in;
    differ = λ e. d.differ (some_injective (formula_value a (wholes p)) (formula_value b (wholes p))
        (sym (on_common k f fits_f a is_a (own_f || own_g) (left_only own_f own_g) (wholes p) d.is_in) ∙ e ∙ on_common k g fits_g b is_b (own_f || own_g) (right_only own_f own_g) (wholes p) d.is_in));
  }

  pub true_by : (e : SameError) → IsTruePoint (common_domain k f g) a b e → IsTrueOf k f g e
  true_by (Differ p) d = difference_by p d
  true_by e d = tt

  pub both_over : AreOver (columns_of (common_domain k f g)) a b
  both_over = record {
    of_first = columns k f;
    of_second = columns k g;
    first = formula_over k f a fits_f is_a;
    second = formula_over k g b fits_g is_b;
    greater = by own_f own_g ∙ sym (columns_are k (own_f || own_g));
  }
    where
      by : (s t : Bool) → max (columns_by k s) (columns_by k t) ≡ columns_by k (s || t)
      by true true = omega arith
      by true false = omega arith
      by false true = omega arith
      by false false = omega arith

module _ (k : ℕ) (f g : Kind) (fits_f : IsFitting k f) (fits_g : IsFitting k g) where
  pub are_same : AreShownSame k f g → AreSame k f g
  are_same s = same_by k f g fits_f fits_g s.first s.second s.is_first s.is_second (are_equal (common_domain k f g) s.first s.second s.none_differs)

  no_point : (which : ℕ) (h : Kind) (p : List ℤ) → ¬ HasNoFormula which k h (Differ p)
  no_point which (ByFormula e) p n = cc n
  no_point which (ByPieces ps) p n = n
  no_point which (ByLeast forms) p n = cc n

  pub is_difference : (p : List ℤ) → IsRefused k f g (Differ p) → IsDifference k f g p
  is_difference p (inl n) = absurd (no_point 1 f p n)
  is_difference p (inr (a, is_a, inl n)) = absurd (no_point 2 g p n)
  is_difference p (inr (a, is_a, inr (b, is_b, ends))) =
      difference_by k f g fits_f fits_g a b is_a is_b p (true_point (common_domain k f g) a b (Differ p) ends)

-- ---- the formula that the code keeps
module _ (k : ℕ) where
  given : (q : Kind) → IsComparable q → ¬ IsGivenByPieces q → (e : Formula) × (formula_of_kind q ≡ Some e) × IsFormulaFor k q e
  given (ByFormula e) c n = (e, refl, refl)
  given (ByPieces ps) c n = absurd (n tt)
  given (ByLeast forms) c n = absurd c

  pub keeps_given : (f : Function) → IsComparable (kind_of f.kind) → ¬ IsGivenByPieces (kind_of f.kind) → KeepsFormula k (kind_of f.kind) (Given f)
  keeps_given f c n = let g = given (kind_of f.kind) c n in record { formula = g.0; is_kept = g.1; is_formula = g.2 }

  made : (q : Kind) (d : Domain) (e : Formula) → IsGivenByPieces q → d ≡ domain_for k q → AreChecked d (pieces_of_kind q) → IsFormulaOf d (pieces_of_kind q) e → node_count e ≤ 2048 → IsFormulaFor k q e
  made (ByFormula g) d e p is c i n = absurd p
  made (ByPieces ps) d e p is c i n = record {
    checked = subst (λ d. AreChecked d ps) is c;
    is_formula = subst (λ d. IsFormulaOf d ps e) is i;
    few_nodes = n;
  }
  made (ByLeast forms) d e p is c i n = absurd p

  -- of the function g that was checked, which is f
  pub keeps_made : (f g : Function) (e : rust.Formula) → g ≡ f → IsGivenByPieces (kind_of f.kind) → f.domain ≡ domain_for k (kind_of f.kind) → AreChecked g.domain (pieces_in g) → IsFormulaOf g.domain (pieces_in g) (plain_of e) → node_count (plain_of e) ≤ 2048
      → KeepsFormula k (kind_of f.kind) (Made e)
  keeps_made f g e same p is c i n = record {
    formula = plain_of e;
    is_kept = refl;
    is_formula = made (kind_of f.kind) f.domain (plain_of e) p is
        (subst (λ (u : Function). AreChecked u.domain (pieces_in u)) same c)
        (subst (λ (u : Function). IsFormulaOf u.domain (pieces_in u) (plain_of e)) same i) n;
  }

-- ---- what a call tells, by the formulas that are kept
some_formula : (x y : Formula) → Some x ≡ Some y → x ≡ y
some_formula x y e = cc

module _ (k l : ℕ) (same : k ≡ l) (f g : Kind) (fits_f : IsFitting k f) (fits_g : IsFitting l g) (v w : InFormula) (kept_v : KeepsFormula k f v) (kept_w : KeepsFormula l g w) (x y : Formula) (p : formula_in v ≡ Some x) (q : formula_in w ≡ Some y)
    (d : Domain) (is_d : d ≡ common_domain k f g) where
  is_x : IsFormulaFor k f x
  is_x = subst (IsFormulaFor k f) (some_formula kept_v.formula x (sym kept_v.is_kept ∙ p)) kept_v.is_formula

  is_y : IsFormulaFor k g y
  is_y = subst (λ n. IsFormulaFor n g y) (sym same) (subst (IsFormulaFor l g) (some_formula kept_w.formula y (sym kept_w.is_kept ∙ q)) kept_w.is_formula)

  fits : IsFitting k g
  fits = subst (λ n. IsFitting n g) (sym same) fits_g

  pub over_kept : AreOver (columns_of d) x y
  over_kept = subst (λ c. AreOver (columns_of c) x y) (sym is_d) (both_over k f g fits_f fits x y is_x is_y)

  pub same_kept : (r : Result (Unit {0}) SameError) → OnOk r (AreEqual d x y) → OnOk r (AreSame k f g)
  same_kept (Ok u) h = same_by k f g fits_f fits x y is_x is_y (subst (λ c. AreEqual c x y) is_d h)
  same_kept (Err e) h = tt

  pub shown_kept : (r : Result (Unit {0}) SameError) → OnOk r (NoneDiffers d x y) → OnOk r (AreShownSame k f g)
  shown_kept (Ok u) h = record { first = x; second = y; is_first = is_x; is_second = is_y; none_differs = subst (λ c. NoneDiffers c x y) is_d h }
  shown_kept (Err e) h = tt

  pub true_kept : (r : Result (Unit {0}) SameError) → IfErr r (IsTruePoint d x y) → IfErr r (IsTrueOf k f g)
  true_kept (Ok u) h = tt
  true_kept (Err e) h = true_by k f g fits_f fits x y is_x is_y e (subst (λ c. IsTruePoint c x y e) is_d h)

  pub refused_kept : (r : Result (Unit {0}) SameError) → IfErr r (Ends d x y) → IfErr r (IsRefused k f g)
  refused_kept (Ok u) h = tt
  refused_kept (Err e) h = inr (x, is_x, inr (y, is_y, subst (λ c. Ends c x y e) is_d h))
