-- Superadditive at whole points is superadditive everywhere.
use Rattle.std.proofs.Common.{◌≡◌, ◌↔◌, List, [], ◌∷◌, map, refl, sym, ap, ap₂, ◌∙◌, subst}
use Rattle.std.specs.Prelude.{ℤ, pos, ◌*ℤ◌, Some}
use Rattle.crn_fraction.specs.Rational.{ℚ, whole, 0ℚ, ◌+ℚ◌, ◌*ℚ◌, ◌≤ℚ◌, ◌<ℚ◌}
use Rattle.crn_fraction.proofs.Ring.{*ℚ_assoc, *ℚ_comm, *ℚ-+ℚ, whole-*ℤ}
use Rattle.crn_fraction.proofs.Products.{*ℚ-positive, ≤ℚ_of_*ℚ, whole_positive}
use Rattle.crn_linear.specs.Forms.{wholes}
use Rattle.crn_formula.specs.Pieces.{Piece, Domain, IsIn, Covers, Agree, pieces_value}
use Rattle.crn_formula.proofs.Multiples.{scale, at-scale, multiple, IsIn-scale, Holds-scale}
use Rattle.crn_linear.specs.Forms.{plus}
use Rattle.crn_superadd.specs.Superadditive.{IsSuperadditive, IsWholeSuperadditive}
use Rattle.crn_maxmin.proofs.InCells.{value_of, is_value}
use Rattle.crn_superadd.proofs.Least.{IsIn-plus}

scale-scale : (a b : ℚ) (x : List ℚ) → scale a (scale b x) ≡ scale (a *ℚ b) x
scale-scale a b [] = refl
scale-scale a b (t ∷ x) = ap₂ (λ u l. u ∷ l) (sym (*ℚ_assoc a b t)) (scale-scale a b x)

wholes-map : (k : ℤ) (p : List ℤ) → wholes (map (λ z. k *ℤ z) p) ≡ scale (whole k) (wholes p)
wholes-map k [] = refl
wholes-map k (z ∷ p) = ap₂ (λ u l. u ∷ l) (whole-*ℤ k z) (wholes-map k p)

scale-plus : (k : ℚ) (a b : List ℚ) → scale k (plus a b) ≡ plus (scale k a) (scale k b)
scale-plus k [] b = refl
scale-plus k (s ∷ a) [] = refl
scale-plus k (s ∷ a) (t ∷ b) = ap₂ (λ u l. u ∷ l) (*ℚ-+ℚ k s t) (scale-plus k a b)

module _ (domain : Domain) (pieces : List Piece) (covers : Covers domain pieces) (agree : Agree domain pieces) where
  -- the value at a multiple
  value-scale : (k : ℚ) → 0ℚ <ℚ k → (x : List ℚ) → IsIn domain x → (v : ℚ) → pieces_value pieces x ≡ Some v → pieces_value pieces (scale k x) ≡ Some (k *ℚ v)
  value-scale k h x ix v e =
      let i = is_value domain pieces covers agree x ix v e in
      value_of domain pieces covers agree (scale k x) (IsIn-scale k h x domain ix) (k *ℚ v)
      (record { piece = i.piece; is_one = i.is_one; holds = Holds-scale k h x i.piece i.holds; value = at-scale i.piece.form k x ∙ ap (λ t. k *ℚ t) i.value })

  from_wholes : IsWholeSuperadditive domain pieces → (a b : List ℚ) → IsIn domain a → IsIn domain b → IsIn domain (plus a b) → (u v w : ℚ)
      → pieces_value pieces a ≡ Some u → pieces_value pieces b ≡ Some v → pieces_value pieces (plus a b) ≡ Some w → u +ℚ v ≤ℚ w
  from_wholes s a b ia ib iab u v w eu ev ew =
      let m = multiple a in
      let n = multiple b in
      let j = whole (pos m.by) in
      let l = whole (pos n.by) in
      let pj = whole_positive m.by m.positive in
      let pl = whole_positive n.by n.positive in
      let k = l *ℚ j in
      let pk : 0ℚ <ℚ k = *ℚ-positive l j pl pj in
      let p = map (λ z. pos n.by *ℤ z) m.point in
      let q = map (λ z. pos m.by *ℤ z) n.point in
      let ep : scale k a ≡ wholes p = sym (wholes-map (pos n.by) m.point ∙ ap (scale l) m.is ∙ scale-scale l j a) in
      let eq : scale k b ≡ wholes q = sym (wholes-map (pos m.by) n.point ∙ ap (scale j) n.is ∙ scale-scale j l b ∙ ap (λ t. scale t b) (*ℚ_comm j l)) in
      let sum : scale k (plus a b) ≡ plus (wholes p) (wholes q) = scale-plus k a b ∙ ap₂ plus ep eq in
      ≤ℚ_of_*ℚ k (u +ℚ v) w pk
      (subst (λ t. t ≤ℚ k *ℚ w) (sym (*ℚ-+ℚ k u v))
      (s.above p q (subst (IsIn domain) ep (IsIn-scale k pk a domain ia)) (subst (IsIn domain) eq (IsIn-scale k pk b domain ib)) (k *ℚ u) (k *ℚ v) (k *ℚ w)
      (subst (λ x. pieces_value pieces x ≡ Some (k *ℚ u)) ep (value-scale k pk a ia u eu))
      (subst (λ x. pieces_value pieces x ≡ Some (k *ℚ v)) eq (value-scale k pk b ib v ev))
      (subst (λ x. pieces_value pieces x ≡ Some (k *ℚ w)) sum (value-scale k pk (plus a b) iab w ew))))

  pub at_wholes : IsSuperadditive domain pieces ↔ IsWholeSuperadditive domain pieces
  at_wholes = (
    λ s. record { above = λ p q ip iq u v w eu ev ew. s.above (wholes p) (wholes q) ip iq u v w eu ev ew },
    λ s. record { above = λ a b ia ib u v w eu ev ew. from_wholes s a b ia ib (IsIn-plus domain a b ia ib) u v w eu ev ew },
  )
