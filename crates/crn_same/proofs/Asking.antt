-- What a point of a system that is asked tells of two formulas.
use Rattle.std.proofs.Common.{◌≡◌, ◌↔◌, List, ◌++◌, length, map, true, sym, subst}
use Rattle.std.specs.Prelude.{ℤ}
use Rattle.std.specs.List.{All}
use Rattle.std.proofs.lemmas.List.Elements.{All-append, All-map}
use Rattle.crn_fraction.specs.Rational.{ℚ, 0ℚ, ◌<ℚ◌}
use Rattle.crn_fraction.proofs.Linear.{<ℚ_irrefl}
use Rattle.crn_linear.specs.Forms.{at, wholes}
use Rattle.crn_linear.specs.Rows.{Row, Meets, MeetsWhole}
use Rattle.crn_linear.proofs.Unique.{meets_cleared}
use Rattle.crn_linear.proofs.WholePoints.{meets_whole}
use Rattle.crn_farkas.specs.Systems.{IsPoint, IsWholePoint}
use Rattle.crn_formula.specs.Formulas.{Formula, Sub, formula_value}
use Rattle.crn_formula.specs.Pieces.{Domain, IsIn, columns_of}
use Rattle.crn_normal.specs.Normal.{norm}
use Rattle.crn_normal.specs.Values.{IsPositive}
use Rattle.crn_normal.proofs.Members.{Has, each, all_from, any_from, Has-append_left, Has-append_right, Has-map}
use Rattle.crn_normal.proofs.Norms.{above, equal}
use Rattle.crn_same.specs.Equal.{AreEqual, positive_row, asked, HasNone}

module _ (domain : Domain) where
  -- ---- one system
  from_point : (S : List (List ℚ)) (x : List ℚ) → length x ≡ columns_of domain → IsPoint (asked domain S) x → IsIn domain x × IsPositive S x
  from_point S x long h =
      let all : (r : Row) → Has (domain.rows ++ map positive_row S) r → Meets r x = each (λ r. Meets r x) (domain.rows ++ map positive_row S) h in (
        record { long = long; meets = all_from (λ r. Meets r x) domain.rows (λ r k. all r (Has-append_left domain.rows (map positive_row S) r k)) },
        all_from (λ s. 0ℚ <ℚ at s x) S (λ s k. (meets_cleared s x true).0 (all (positive_row s) (Has-append_right domain.rows (map positive_row S) (positive_row s) (Has-map positive_row S s k)))),
      )

  to_point : (S : List (List ℚ)) (x : List ℚ) → IsIn domain x → IsPositive S x → IsPoint (asked domain S) x
  to_point S x i p =
      All-append (λ r. Meets r x) domain.rows (map positive_row S) i.meets
      (All-map (λ r. Meets r x) positive_row S (all_from (λ s. Meets (positive_row s) x) S (λ s k. (meets_cleared s x true).1 (each (λ s. 0ℚ <ℚ at s x) S p s k))))

  pub point_is : (S : List (List ℚ)) (x : List ℚ) → length x ≡ columns_of domain → IsPoint (asked domain S) x ↔ (IsIn domain x × IsPositive S x)
  point_is S x long = (from_point S x long, λ h. to_point S x h.0 h.1)

  -- ---- two formulas
  -- a point of the system of a set of the first less the second
  pub differs : (a b : Formula) (S : List (List ℚ)) (x : List ℚ) → Has (norm (Sub a b)) S → length x ≡ columns_of domain → IsPoint (asked domain S) x
      → IsIn domain x × (formula_value b x <ℚ formula_value a x)
  differs a b S x h long p =
      let both = from_point S x long p in
      (both.0, (above x a b).1 (any_from (λ S. IsPositive S x) (norm (Sub a b)) S h both.1))

  pub whole_point : (S : List (List ℚ)) (p : List ℤ) → IsWholePoint (asked domain S) p → IsPoint (asked domain S) (wholes p)
  whole_point S p h = all_from (λ r. Meets r (wholes p)) (domain.rows ++ map positive_row S) (λ r k. (meets_whole r p).1 (each (λ r. MeetsWhole r p) (domain.rows ++ map positive_row S) h r k))

  none_if : (a b : Formula) → AreEqual domain a b → All (λ S. HasNone (asked domain S)) (norm (Sub a b))
  none_if a b e = all_from (λ S. HasNone (asked domain S)) (norm (Sub a b)) (λ S h x long p.
      let d = differs a b S x h long p in
      <ℚ_irrefl (formula_value a x) (subst (λ v. v <ℚ formula_value a x) (sym (e x d.0)) d.1))

  none_positive : (a b : Formula) → All (λ S. HasNone (asked domain S)) (norm (Sub a b)) → (x : List ℚ) → IsIn domain x → All (λ S. ¬ IsPositive S x) (norm (Sub a b))
  none_positive a b f x i = all_from (λ S. ¬ IsPositive S x) (norm (Sub a b)) (λ S h p. each (λ S. HasNone (asked domain S)) (norm (Sub a b)) f S h x i.long (to_point S x i p))

  pub equal_by : (a b : Formula) → All (λ S. HasNone (asked domain S)) (norm (Sub a b)) → All (λ S. HasNone (asked domain S)) (norm (Sub b a)) → AreEqual domain a b
  equal_by a b f g x i = (equal x a b).1 (none_positive a b f x i, none_positive b a g x i)

  pub equal_is : (a b : Formula) → AreEqual domain a b ↔ (All (λ S. HasNone (asked domain S)) (norm (Sub a b)) × All (λ S. HasNone (asked domain S)) (norm (Sub b a)))
  equal_is a b = (λ e. (none_if a b e, none_if b a (λ x i. sym (e x i))), λ h. equal_by a b h.0 h.1)
