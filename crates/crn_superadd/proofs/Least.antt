-- A function is superadditive exactly where it is the least of its used forms, and exactly where no used form stands below the form of a cell.
use Rattle.std.proofs.Common.{◌≡◌, ◌↔◌, ℕ, suc, ◌<◌, ◌≤◌, List, [], ◌∷◌, length, refl, sym, ap, ap₂, ◌∙◌, arith, ⊎_elim, subst}
use Rattle.std.specs.Prelude.{ℤ, pos, true, false, Some, All, Contains, slice_index_or}
use Rattle.std.proofs.lemmas.Bool.{cases_Bool, false≢true}
use Rattle.crn_fraction.specs.Rational.{ℚ, whole, 0ℚ, ◌+ℚ◌, ◌*ℚ◌, ◌≤ℚ◌, ◌<ℚ◌}
use Rattle.crn_fraction.proofs.Ring.{one-*ℚ, +ℚ-zero}
use Rattle.crn_fraction.proofs.Order.{≤ℚ_or_<ℚ, ≤ℚ_of_≡}
use Rattle.crn_fraction.proofs.Linear.{not_<ℚ, ≤ℚ_of_+ℚ_left, add-≤ℚ-add}
use Rattle.crn_fraction.proofs.Products.{whole_positive, *ℚ-<ℚ}
use Rattle.crn_linear.specs.Forms.{at, wholes}
use Rattle.crn_formula.specs.Pieces.{Piece, Domain, IsIn, IsDomain, Covers, Agree}
use Rattle.crn_formula.specs.Functions.{least_value}
use Rattle.crn_formula.proofs.Multiples.{scale, at-scale, IsIn-scale}
use Rattle.crn_cells.specs.Cells.{numbered, Ascend}
use Rattle.crn_maxmin.specs.Marked.{numbered_forms, AreLong, Marked, IsMarkedBy, AreAllCells}
use Rattle.crn_linear.specs.Forms.{plus}
use Rattle.crn_superadd.specs.Superadditive.{multiple, IsSuperadditive, FallsShort, IsLeast, is_used, used_forms, NoneBelow}
use Rattle.crn_maxmin.specs.Conversion.{forms_below}
use Rattle.crn_cells.proofs.Members.{Has, Has-Contains, Contains-Has, Has-All, All-Has, Has-get_or}
use Rattle.crn_cells.proofs.Values.{mix}
use Rattle.crn_linear.proofs.Values.{at-plus}
use Rattle.crn_cells.proofs.Numbers.{zero-lt-one, less_left}
use Rattle.crn_cells.proofs.Near.{moved, near}
use Rattle.crn_cells.proofs.Orders.{Ascend-keeps}
use Rattle.crn_cells.proofs.Domains.{IsIn-mix, form_term}
use Rattle.crn_maxmin.proofs.InCells.{IsValue, value_of, is_value, same_value, in_cell, marked_at, near_cell, terms}
use Rattle.crn_superadd.proofs.Used.{Has-used_forms, used_forms-Has, is_used-true, true-is_used, least_below, least_one, least_is}
use Rattle.crn_maxmin.proofs.Lists.{conditions_of, below_less, less_below}

scale_one : (x : List ℚ) → scale (whole (pos 1)) x ≡ x
scale_one [] = refl
scale_one (t ∷ x) = ap₂ (λ u l. u ∷ l) (one-*ℚ t) (scale_one x)

mix_is_plus : (k : ℚ) (p x : List ℚ) → mix k p (whole (pos 1)) x ≡ plus (scale k p) x
mix_is_plus k p x = ap (plus (scale k p)) (scale_one x)

-- the sum of two points of a domain is in it
pub IsIn-plus : (domain : Domain) (a b : List ℚ) → IsIn domain a → IsIn domain b → IsIn domain (plus a b)
IsIn-plus domain a b ia ib =
    subst (λ y. IsIn domain (plus y b)) (scale_one a)
    (subst (IsIn domain) (mix_is_plus (whole (pos 1)) a b) (IsIn-mix domain a b (whole (pos 1)) (whole (pos 1)) zero-lt-one zero-lt-one ia ib))

Some_same : {u w : ℚ} → Some u ≡ Some w → u ≡ w
Some_same h = cc

module _ (domain : Domain) (pieces : List Piece) (cells : List Marked) (is_domain : IsDomain domain) (long : AreLong domain pieces) (covers : Covers domain pieces)
    (agree : Agree domain pieces) (all : AreAllCells domain pieces cells) where
  abbrev forms : List (List ℚ)
  forms = numbered_forms pieces

  abbrev form_at : Marked → List ℚ → ℚ
  form_at c x = at (numbered forms c.form) x

  -- ---- a multiple of a point of a cell, with another point added
  pub IsIn-multiple : (n : ℕ) (p : List ℚ) → 1 ≤ n → IsIn domain p → IsIn domain (multiple n p)
  IsIn-multiple n p h ip = IsIn-scale (whole (pos n)) (whole_positive n (omega (arith, h))) p domain ip

  pub IsIn-sum : (n : ℕ) (p x : List ℚ) → 1 ≤ n → IsIn domain p → IsIn domain x → IsIn domain (plus (multiple n p) x)
  IsIn-sum n p x h ip ix =
      subst (IsIn domain) (mix_is_plus (whole (pos n)) p x) (IsIn-mix domain p x (whole (pos n)) (whole (pos 1)) (whole_positive n (omega (arith, h))) zero-lt-one ip ix)

  Ascend-multiple : (n : ℕ) (p : List ℚ) (order : List ℕ) → 1 ≤ n → Ascend forms p order → Ascend forms (multiple n p) order
  Ascend-multiple n p order h m i j d l w =
      let k = whole (pos n) in
      let a = numbered forms (slice_index_or order i d) in
      let b = numbered forms (slice_index_or order j d) in
      rw (at-scale a k p, at-scale b k p) (*ℚ-<ℚ k (at a p) (at b p) (whole_positive n (omega (arith, h))) (m i j d l w))

  -- the value at the multiple
  pub at_multiple : (c : Marked) (p : List ℤ) → IsMarkedBy domain pieces c p → (n : ℕ) → 1 ≤ n → IsValue pieces (multiple n (wholes p)) (whole (pos n) *ℚ form_at c (wholes p))
  at_multiple c p m n h =
      subst (IsValue pieces (multiple n (wholes p))) (at-scale (numbered forms c.form) (whole (pos n)) (wholes p))
      (in_cell domain pieces covers agree cells is_domain long all c p m (multiple n (wholes p)) (IsIn-multiple n (wholes p) h m.met.is_in) (Ascend-multiple n (wholes p) c.order h m.met.ascend))

  -- and at the sum, where it meets the order
  pub at_sum : (c : Marked) (p : List ℤ) → IsMarkedBy domain pieces c p → (n : ℕ) → 1 ≤ n → (x : List ℚ) → IsIn domain x → Ascend forms (plus (multiple n (wholes p)) x) c.order
      → IsValue pieces (plus (multiple n (wholes p)) x) (whole (pos n) *ℚ form_at c (wholes p) +ℚ form_at c x)
  at_sum c p m n h x ix ms =
      let f = numbered forms c.form in
      let e : at f (plus (multiple n (wholes p)) x) ≡ whole (pos n) *ℚ at f (wholes p) +ℚ at f x =
      at-plus f (multiple n (wholes p)) x ∙ ap (λ t. t +ℚ at f x) (at-scale f (whole (pos n)) (wholes p)) in
      subst (IsValue pieces (plus (multiple n (wholes p)) x)) e
      (in_cell domain pieces covers agree cells is_domain long all c p m (plus (multiple n (wholes p)) x) (IsIn-sum n (wholes p) x h m.met.is_in ix) ms)

  -- some multiple serves
  pub some_multiple : (c : Marked) (p : List ℤ) → IsMarkedBy domain pieces c p → (x : List ℚ) → (n : ℕ) × Ascend forms (plus (multiple (suc n) (wholes p)) x) c.order
  some_multiple c p m x =
      let k = near forms (wholes p) x in
      let e : moved (suc k.0) (wholes p) x ≡ plus (multiple (suc k.0) (wholes p)) x = mix_is_plus (whole (pos (suc k.0))) (wholes p) x in (
        k.0,
        subst (λ y. Ascend forms y c.order) e
            (Ascend-keeps forms forms c.order (wholes p) (moved (suc k.0) (wholes p) x)
            (λ i h. Has-get_or [] forms i (Has-All (λ i. i < length forms) i c.order m.met.names.below (Has-Contains i c.order h)))
            k.1 m.met.ascend),
      )

  -- ---- no form of a cell is below the function
  abbrev pub AreAbove : Type 0
  AreAbove = (c : Marked) → Contains cells c → (x : List ℚ) → IsIn domain x → (v : ℚ) → IsValue pieces x v → v ≤ℚ form_at c x

  above_of_superadditive : IsSuperadditive domain pieces → AreAbove
  above_of_superadditive s c h x ix v vx =
      let m = marked_at domain pieces covers agree cells is_domain long all c h in
      let p = m.0 in
      let n = some_multiple c p m.1 x in
      let k = whole (pos (suc n.0)) in
      let some : 1 ≤ suc n.0 = omega arith in
      let ip = IsIn-multiple (suc n.0) (wholes p) some m.1.met.is_in in
      let is = IsIn-sum (suc n.0) (wholes p) x some m.1.met.is_in ix in
      ≤ℚ_of_+ℚ_left v (form_at c x) (k *ℚ form_at c (wholes p))
      (s.above (multiple (suc n.0) (wholes p)) x ip ix (k *ℚ form_at c (wholes p)) v (k *ℚ form_at c (wholes p) +ℚ form_at c x)
      (value_of domain pieces covers agree (multiple (suc n.0) (wholes p)) ip (k *ℚ form_at c (wholes p)) (at_multiple c p m.1 (suc n.0) some))
      (value_of domain pieces covers agree x ix v vx)
      (value_of domain pieces covers agree (plus (multiple (suc n.0) (wholes p)) x) is (k *ℚ form_at c (wholes p) +ℚ form_at c x) (at_sum c p m.1 (suc n.0) some x ix n.1)))

  least_of_above : AreAbove → IsLeast domain pieces (used_forms forms cells)
  least_of_above up x ix =
      let n = near_cell domain pieces covers agree cells is_domain long all x ix in
      let v = form_at n.cell x in
      value_of domain pieces covers agree x ix v n.value
      ∙ ap Some (sym (least_is (used_forms forms cells) x v (numbered forms n.cell.form) (Has-used_forms forms cells n.cell (Has-Contains n.cell cells n.is_one) n.is_form) refl
      (λ g h. let u = used_forms-Has forms cells g h in subst (λ f. v ≤ℚ at f x) u.3 (up u.0 (Contains-Has u.0 cells u.1) x ix v n.value))))

  superadditive_of_least : IsLeast domain pieces (used_forms forms cells) → IsSuperadditive domain pieces
  superadditive_of_least l = record {
    above = λ a b ia ib u v w eu ev ew.
        let fs = used_forms forms cells in
        let iab = IsIn-plus domain a b ia ib in
        let su : least_value fs a ≡ u = Some_same (sym (l a ia) ∙ eu) in
        let sv : least_value fs b ≡ v = Some_same (sym (l b ib) ∙ ev) in
        let sw : least_value fs (plus a b) ≡ w = Some_same (sym (l (plus a b) iab) ∙ ew) in
        subst (λ t. t +ℚ v ≤ℚ w) su (subst (λ t. least_value fs a +ℚ t ≤ℚ w) sv (subst (λ t. least_value fs a +ℚ least_value fs b ≤ℚ t) sw (sums fs a b)));
  }
    where
      sums : (fs : List (List ℚ)) (a b : List ℚ) → least_value fs a +ℚ least_value fs b ≤ℚ least_value fs (plus a b)
      sums fs a b =
          ⊎_elim
          (λ (o : (f : List ℚ) × Has f fs × (at f (plus a b) ≡ least_value fs (plus a b))).
          subst (λ t. least_value fs a +ℚ least_value fs b ≤ℚ t) (sym (at-plus o.0 a b) ∙ o.2)
          (add-≤ℚ-add (least_value fs a) (at o.0 a) (least_value fs b) (at o.0 b) (least_below fs a o.0 o.1) (least_below fs b o.0 o.1)))
          (λ (n : fs ≡ []). subst (λ gs. least_value gs a +ℚ least_value gs b ≤ℚ least_value gs (plus a b)) (sym n) (≤ℚ_of_≡ (0ℚ +ℚ 0ℚ) 0ℚ (+ℚ-zero 0ℚ)))
          (least_one fs (plus a b))

  -- ---- by the orders of the cells
  none_of_above : AreAbove → NoneBelow cells
  none_of_above up =
      All-Has (λ c. All (λ i. is_used cells i ≡ false) (forms_below c)) cells
      (λ c h. All-Has (λ i. is_used cells i ≡ false) (forms_below c)
      (λ i k. ⊎_elim
      (λ (t : is_used cells i ≡ true).
      let u = true-is_used cells i t in
      let m = marked_at domain pieces covers agree cells is_domain long all c (Contains-Has c cells h) in
      let p = wholes m.0 in
      let less : at (numbered forms i) p <ℚ form_at c p = below_less forms p c.form i c.order m.1.met.ascend (Has-Contains c.form c.order (m.1.met.names.every c.form m.1.is_form)) k in
      absurd (not_<ℚ (form_at c p) (at (numbered forms i) p)
      (subst (λ n. form_at c p ≤ℚ at (numbered forms n) p) u.2
      (up u.0 (Contains-Has u.0 cells u.1) p m.1.met.is_in (form_at c p) (is_value domain pieces covers agree p m.1.met.is_in (form_at c p) m.1.value))) less))
      (λ (f : is_used cells i ≡ false). f)
      (cases_Bool (is_used cells i))))

  above_of_none : NoneBelow cells → AreAbove
  above_of_none none c h x ix v vx =
      let n = near_cell domain pieces covers agree cells is_domain long all x ix in
      let m = marked_at domain pieces covers agree cells is_domain long all c h in
      let same : form_at n.cell x ≡ v = same_value domain pieces covers agree x ix (form_at n.cell x) v n.value vx in
      let has : (g : ℕ) → g < length forms → Has (numbered forms g) (terms domain pieces covers agree) =
      λ g l. form_term domain (conditions_of pieces) forms (numbered forms g) (Has-get_or [] forms g l) in
      ⊎_elim
      (λ (l : v ≤ℚ form_at c x). l)
      (λ (l : form_at c x <ℚ v).
      let less : form_at c n.point <ℚ form_at n.cell n.point =
      n.keeps.keeps (numbered forms c.form) (numbered forms n.cell.form) (has c.form m.1.is_form) (has n.cell.form n.is_form) (subst (λ t. form_at c x <ℚ t) (sym same) l) in
      let below = less_below forms n.point n.cell.form c.form n.cell.order n.ascend (Has-Contains n.cell.form n.cell.order (n.names.every n.cell.form n.is_form))
      (Has-Contains c.form n.cell.order (n.names.every c.form m.1.is_form)) less in
      let unused = Has-All (λ i. is_used cells i ≡ false) c.form (forms_below n.cell)
      (Has-All (λ c. All (λ i. is_used cells i ≡ false) (forms_below c)) n.cell cells none (Has-Contains n.cell cells n.is_one)) below in
      absurd (false≢true (sym unused ∙ is_used-true cells c (Has-Contains c cells h))))
      (≤ℚ_or_<ℚ v (form_at c x))

  pub superadditive_is_least : IsSuperadditive domain pieces ↔ IsLeast domain pieces (used_forms forms cells)
  superadditive_is_least = (λ s. least_of_above (above_of_superadditive s), superadditive_of_least)

  pub superadditive_by_cells : IsSuperadditive domain pieces ↔ NoneBelow cells
  superadditive_by_cells = (λ s. none_of_above (above_of_superadditive s), λ n. superadditive_of_least (least_of_above (above_of_none n)))

  -- ---- where it is not
  -- a used form below the form of a cell refutes it
  pub falls_short : (c e : Marked) (p q : List ℤ) → IsMarkedBy domain pieces c p → IsMarkedBy domain pieces e q → Has c.form (forms_below e)
      → (n : ℕ) → 1 ≤ n → Ascend forms (plus (multiple n (wholes p)) (wholes q)) c.order → FallsShort pieces (multiple n (wholes p)) (wholes q)
  falls_short c e p q m k below n some ms =
      let is = IsIn-sum n (wholes p) (wholes q) some m.met.is_in k.met.is_in in
      let a = whole (pos n) *ℚ form_at c (wholes p) in
      record {
        at_first = a;
        at_second = form_at e (wholes q);
        at_sum = a +ℚ form_at c (wholes q);
        first = value_of domain pieces covers agree (multiple n (wholes p)) (IsIn-multiple n (wholes p) some m.met.is_in) a (at_multiple c p m n some);
        second = k.value;
        both = value_of domain pieces covers agree (plus (multiple n (wholes p)) (wholes q)) is (a +ℚ form_at c (wholes q)) (at_sum c p m n some (wholes q) k.met.is_in ms);
        less = less_left a (form_at c (wholes q)) (form_at e (wholes q))
            (below_less forms (wholes q) e.form c.form e.order k.met.ascend (Has-Contains e.form e.order (k.met.names.every e.form k.is_form)) below);
      }
