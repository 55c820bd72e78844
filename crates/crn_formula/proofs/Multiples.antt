-- A rational point has a positive multiple of whole numbers, which meets the same rows and conditions.
use Rattle.std.proofs.Common.{◌≡◌, ℕ, ◌<◌, ◌*◌, List, [], ◌∷◌, map, Bool, true, false, refl, sym, ap, ap₂, ◌∙◌, arith, subst}
use Rattle.std.specs.Prelude.{ℤ, pos, ◌*ℤ◌}
use Rattle.std.proofs.lemmas.List.{length-map}
use Rattle.std.proofs.Math.IntN.{*ℤ_comm}
use Rattle.crn_fraction.specs.Rational.{ℚ, ratio, whole, 0ℚ, ◌+ℚ◌, ◌*ℚ◌, ◌≤ℚ◌, ◌<ℚ◌}
use Rattle.crn_fraction.specs.Parts.{ratio_self}
use Rattle.crn_fraction.proofs.Core.{pos_times}
use Rattle.crn_fraction.proofs.Ratios.{times_pos, over-whole, over-whole-*ℚ}
use Rattle.crn_fraction.proofs.Ring.{*ℚ_assoc, whole-*ℤ, *ℚ-zero, ring_ℚ, q-writes}
use Rattle.crn_fraction.proofs.Order.{≤ℚ_of_<ℚ}
use Rattle.crn_fraction.proofs.Products.{*ℚ-nonneg, *ℚ-positive, ≤ℚ_of_*ℚ, *ℚ_cancel, whole_positive}
use Rattle.crn_linear.specs.Forms.{at, wholes}
use Rattle.crn_linear.specs.Rows.{Row, value, Meets, IsBelow}
use Rattle.crn_formula.specs.Pieces.{Piece, Holds, Domain, IsIn, IsCovered, HaveOneValue, Covers, Agree}

-- each number times k
abbrev pub scale : ℚ → List ℚ → List ℚ
scale k x = map (λ t. k *ℚ t) x

step : (c k s v : ℚ) → c *ℚ (k *ℚ s) +ℚ k *ℚ v ≡ k *ℚ (c *ℚ s +ℚ v)
step c k s v = ring_ℚ (c ∷ k ∷ s ∷ v ∷ []) (search q-writes depth 20) (search q-writes depth 20) refl

-- a form's value at a multiple
pub at-scale : (c : List ℚ) (k : ℚ) (x : List ℚ) → at c (scale k x) ≡ k *ℚ at c x
at-scale [] k x = sym (*ℚ-zero k)
at-scale (c ∷ cs) k [] = sym (*ℚ-zero k)
at-scale (c ∷ cs) k (s ∷ x) = ap (λ t. c *ℚ (k *ℚ s) +ℚ t) (at-scale cs k x) ∙ step c k s (at cs x)

-- a row's value at a multiple
pub value-scale : (r : List ℤ) (k : ℚ) (x : List ℚ) → value r (scale k x) ≡ k *ℚ value r x
value-scale [] k x = sym (*ℚ-zero k)
value-scale (a ∷ r) k [] = sym (*ℚ-zero k)
value-scale (a ∷ r) k (s ∷ x) = ap (λ t. whole a *ℚ (k *ℚ s) +ℚ t) (value-scale r k x) ∙ step (whole a) k s (value r x)

-- ---- whole numbers
den_times : (t : ℚ) → whole (pos t.den) *ℚ t ≡ whole t.num
den_times t =
    ap (λ u. whole (pos t.den) *ℚ u) (sym (ratio_self t)) ∙ over-whole-*ℚ (pos t.den) t.num t.den t.lowest.positive
    ∙ ap (λ n. ratio n t.den) (*ℤ_comm (pos t.den) t.num) ∙ sym (over-whole t.num t.den t.lowest.positive)

scale-scale : (a b : ℚ) (x : List ℚ) → scale a (scale b x) ≡ scale (a *ℚ b) x
scale-scale a b [] = refl
scale-scale a b (t ∷ x) = ap₂ (λ u l. u ∷ l) (sym (*ℚ_assoc a b t)) (scale-scale a b x)

wholes-map : (k : ℤ) (p : List ℤ) → wholes (map (λ z. k *ℤ z) p) ≡ scale (whole k) (wholes p)
wholes-map k [] = refl
wholes-map k (z ∷ p) = ap₂ (λ u l. u ∷ l) (whole-*ℤ k z) (wholes-map k p)

-- a positive multiple of x with whole entries
pub record Multiple (x : List ℚ) : Type 0 where
  pub by : ℕ
  pub positive : 0 < by
  pub point : List ℤ
  pub is : wholes point ≡ scale (whole (pos by)) x

-- by the product of the denominators
pub multiple : (x : List ℚ) → Multiple x
multiple [] = record { by = 1; positive = omega arith; point = []; is = refl }
multiple (t ∷ x) =
    let m = multiple x in
    let both : whole (pos (t.den * m.by)) ≡ whole (pos t.den) *ℚ whole (pos m.by) = ap whole (pos_times t.den m.by) ∙ whole-*ℤ (pos t.den) (pos m.by) in
    let swapped : (a b c : ℚ) → (a *ℚ b) *ℚ c ≡ (a *ℚ c) *ℚ b = λ a b c. ring_ℚ (a ∷ b ∷ c ∷ []) (search q-writes depth 20) (search q-writes depth 20) refl in
    record {
      by = t.den * m.by;
      positive = times_pos t.den m.by t.lowest.positive m.positive;
      point = (t.num *ℤ pos m.by) ∷ map (λ z. pos t.den *ℤ z) m.point;
      is = ap₂ (λ u l. u ∷ l)
          (whole-*ℤ t.num (pos m.by) ∙ ap (λ u. u *ℚ whole (pos m.by)) (sym (den_times t)) ∙ swapped (whole (pos t.den)) t (whole (pos m.by)) ∙ ap (λ u. u *ℚ t) (sym both))
          (wholes-map (pos t.den) m.point ∙ ap (scale (whole (pos t.den))) m.is ∙ scale-scale (whole (pos t.den)) (whole (pos m.by)) x ∙ ap (λ u. scale u x) (sym both));
    }

-- ---- what a multiple meets
module _ (k : ℚ) (positive : 0ℚ <ℚ k) where
  below_scaled : (strict : Bool) (a : ℚ) → IsBelow strict 0ℚ a → IsBelow strict 0ℚ (k *ℚ a)
  below_scaled true a h = *ℚ-positive k a positive h
  below_scaled false a h = *ℚ-nonneg k a (≤ℚ_of_<ℚ 0ℚ k positive) h

  -- a row
  pub Meets-scale : (x : List ℚ) (r : Row) → Meets r x → Meets r (scale k x)
  Meets-scale x r h = subst (λ v. IsBelow r.strict 0ℚ v) (sym (value-scale r.entries k x)) (below_scaled r.strict (value r.entries x) h)

  -- the rows of a domain
  pub IsIn-scale : (x : List ℚ) (domain : Domain) → IsIn domain x → IsIn domain (scale k x)
  IsIn-scale x domain h = record { long = length-map x (λ t. k *ℚ t) ∙ h.long; meets = λ i d l. Meets-scale x _ (h.meets i d l) }

  -- the conditions of a piece
  pub Holds-scale : (x : List ℚ) (p : Piece) → Holds p x → Holds p (scale k x)
  Holds-scale x p h = λ i d l. subst (λ v. 0ℚ ≤ℚ v) (sym (at-scale _ k x)) (*ℚ-nonneg k _ (≤ℚ_of_<ℚ 0ℚ k positive) (h i d l))

  nonneg_unscaled : (a : ℚ) → 0ℚ ≤ℚ k *ℚ a → 0ℚ ≤ℚ a
  nonneg_unscaled a h = ≤ℚ_of_*ℚ k 0ℚ a positive (subst (λ z. z ≤ℚ k *ℚ a) (sym (*ℚ-zero k)) h)

  -- and the other way round
  pub Holds-unscale : (x : List ℚ) (p : Piece) → Holds p (scale k x) → Holds p x
  Holds-unscale x p h = λ i d l. nonneg_unscaled _ (subst (λ v. 0ℚ ≤ℚ v) (at-scale _ k x) (h i d l))

  -- one value there is one value here
  pub same_unscaled : (x a b : List ℚ) → at a (scale k x) ≡ at b (scale k x) → at a x ≡ at b x
  same_unscaled x a b e = *ℚ_cancel k (at a x) (at b x) positive (sym (at-scale a k x) ∙ e ∙ at-scale b k x)

-- the multiple of a point of the domain is a point of the domain
pub in_whole : (domain : Domain) (x : List ℚ) → IsIn domain x → IsIn domain (wholes (multiple x).point)
in_whole domain x h =
    let m = multiple x in
    subst (IsIn domain) (sym m.is) (IsIn-scale (whole (pos m.by)) (whole_positive m.by m.positive) x domain h)

-- pieces that cover at points of whole numbers cover everywhere
pub covered : (domain : Domain) (pieces : List Piece) → Covers domain pieces → (x : List ℚ) → IsIn domain x → IsCovered pieces x
covered domain pieces c x h =
    let m = multiple x in
    let p = c.covers m.point (in_whole domain x h) in
    (p.0, p.1, Holds-unscale (whole (pos m.by)) (whole_positive m.by m.positive) x p.0 (subst (Holds p.0) m.is p.2))

-- and so where they agree
pub one_value : (domain : Domain) (pieces : List Piece) → Agree domain pieces → (x : List ℚ) → IsIn domain x → HaveOneValue pieces x
one_value domain pieces g x h a b ha hb ka kb =
    let m = multiple x in
    let k = whole (pos m.by) in
    let positive = whole_positive m.by m.positive in
    let there : (p : Piece) → Holds p x → Holds p (wholes m.point) = λ p t. subst (Holds p) (sym m.is) (Holds-scale k positive x p t) in
    same_unscaled k positive x a.form b.form
    (subst (λ y. at a.form y ≡ at b.form y) m.is (g.agree m.point (in_whole domain x h) a b ha hb (there a ka) (there b kb)))
