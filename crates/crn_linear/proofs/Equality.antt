-- `==` of forms, points and rows says whether their entries are the same.
use Rattle.std.proofs.Common.{◌≡◌, ◌-◌, Bool, true, false, List, length, take, refl, sym, ap, ap₂, ◌∙◌}
use Rattle.std.specs.Prelude.{ℤ, pos, replicate, ◌==◌, ◌&&◌}
use Rattle.std.specs.Bool.{Decides}
use Rattle.std.specs.Cmp.Lexicographic.{pointwise}
use Rattle.std.specs.Ordering.{int_eq}
use Rattle.std.proofs.Math.Seq.{take-append_seam}
use Rattle.std.proofs.lemmas.Bool.Decides.{Decides-eqb, Decides-int_eq, Decides-and}
use Rattle.std.proofs.lemmas.Slice.Eq.{slice_eq-Decides}
use Rattle.crn_fraction.specs.Rational.{ℚ, 0ℚ}
use Rattle.crn_fraction.specs.Equality.{eq_fractions}
use Rattle.crn_fraction.proofs.Equal.{Decides-eq_fractions}
use Rattle.crn_linear.specs.Rows.{Row}
use Rattle.crn_linear.specs.Views.{padded}
use Rattle.crn_linear.specs.Strengths.{strength_of}
use Rattle.crn_linear.specs.Equality.{eq_forms, eq_points, eq_rows}
use Rattle.crn_linear.specs.contracts.StrengthPartialEq.TheImpl as strength

-- lists of one length that fill the nine places alike are equal
unpadded : {X : Type 0} (zero_of : X) (a b : List X) → padded zero_of a ≡ padded zero_of b → length a ≡ length b → a ≡ b
unpadded zero_of a b places long =
    sym (take-append_seam a (replicate (9 - length a) zero_of)) ∙ ap₂ take long places ∙ take-append_seam b (replicate (9 - length b) zero_of)

-- a test of the nine places and of the lengths tells whether two lists are equal
tells : {X : Type 0} (same : X → X → Bool) → ((x y : X) → Decides (same x y) (x ≡ y)) → (zero_of : X) (a b : List X)
    → Decides (pointwise same (padded zero_of a) (padded zero_of b) && (length a == length b)) (a ≡ b)
tells same each zero_of a b =
    let both = Decides-and (pointwise same (padded zero_of a) (padded zero_of b)) (length a == length b)
    (slice_eq-Decides each (padded zero_of a) (padded zero_of b) (pointwise same (padded zero_of a) (padded zero_of b)) refl)
    (Decides-eqb (length a) (length b)) in
    (λ t. let parts = both.0 t in unpadded zero_of a b parts.0 parts.1, λ e. both.1 (ap (padded zero_of) e, ap length e))

-- `==` tells whether two forms are equal
pub Decides-eq_forms : (a b : List ℚ) → Decides (eq_forms a b) (a ≡ b)
Decides-eq_forms a b = tells eq_fractions Decides-eq_fractions 0ℚ a b

-- and so of points
pub Decides-eq_points : (a b : List ℤ) → Decides (eq_points a b) (a ≡ b)
Decides-eq_points a b = tells int_eq Decides-int_eq (pos 0) a b

-- ---- rows
abbrev eq_strengths : Bool → Bool → Bool
eq_strengths s t = strength.eq-value.it (strength_of s) (strength_of t)

Decides-eq_strengths : (s t : Bool) → Decides (eq_strengths s t) (s ≡ t)
Decides-eq_strengths true true = (λ _. refl, λ _. refl)
Decides-eq_strengths true false = (λ e. sym e, λ e. sym e)
Decides-eq_strengths false true = (λ e. e, λ e. e)
Decides-eq_strengths false false = (λ _. refl, λ _. refl)

regroup : (p q r : Bool) → (p && (q && r)) ≡ ((p && q) && r)
regroup true q r = refl
regroup false q r = refl

row_of : (a b : Row) → a.entries ≡ b.entries → a.strict ≡ b.strict → a ≡ b
row_of a b e f i = record { entries = e i; strict = f i }

-- and so of rows, where what they ask is compared too
pub Decides-eq_rows : (a b : Row) → Decides (eq_rows a b) (a ≡ b)
Decides-eq_rows a b =
    let places = pointwise int_eq (padded (pos 0) a.entries) (padded (pos 0) b.entries) in
    let lengths = length a.entries == length b.entries in
    let asks = eq_strengths a.strict b.strict in
    let both = Decides-and (places && lengths) asks (tells int_eq Decides-int_eq (pos 0) a.entries b.entries) (Decides-eq_strengths a.strict b.strict) in
    let same = regroup places lengths asks in
    (λ t. let parts = both.0 (sym same ∙ t) in row_of a b parts.0 parts.1, λ e. same ∙ both.1 (ap (λ (r : Row). r.entries) e, ap (λ (r : Row). r.strict) e))
