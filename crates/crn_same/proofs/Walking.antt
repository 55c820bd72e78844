-- How the questions of the sets of a difference, and those of two differences, end.
use Rattle.std.proofs.Common.{◌≡◌, inl, inr, ℕ, suc, ◌+◌, arith, ◌<◌, ◌≤◌, List, [], ◌∷◌, ◌++◌, length, take, drop, get_or, Result, Ok, Err, refl, sym, ap, ◌∙◌, subst}
use Rattle.std.specs.Prelude.{ℤ, max, IfErr, OnOk}
use Rattle.std.specs.List.{All}
use Rattle.std.proofs.lemmas.List.{length-map, take-append-drop, take_all}
use Rattle.std.proofs.lemmas.List.Elements.{All-head, All-tail, All-push}
use Rattle.std.proofs.Math.Seq.{drop-cons}
use Rattle.crn_fraction.specs.Rational.{ℚ, whole, ◌<ℚ◌}
use Rattle.crn_fraction.proofs.Linear.{<ℚ_irrefl}
use Rattle.crn_linear.specs.Forms.{wholes}
use Rattle.crn_formula.specs.Formulas.{Formula, Sub, formula_value}
use Rattle.crn_formula.specs.Pieces.{Domain, IsIn}
use Rattle.crn_normal.specs.declared.NormalError.{NormalError}
use Rattle.crn_normal.specs.declared.NormalError.TheVariants as normal
use Rattle.crn_normal.specs.Normal.{Sets, neg, sum_of, norm}
use Rattle.crn_normal.specs.Steps.{Step, difference_steps, steps}
use Rattle.crn_normal.specs.Refusals.{NoneStops, IsRefused}
use Rattle.crn_normal.proofs.Members.{Has, each, all_from}
use Rattle.crn_normal.proofs.Loops.{next}
use Rattle.crn_normal.proofs.Going.{none_stop, refused_left, refused_right}
use Rattle.crn_normal.proofs.Sizes.{norm_over, over_sum, over_neg}
use Rattle.crn_same.specs.declared.SameError.{SameError}
use Rattle.crn_same.specs.declared.SameError.TheVariants.{Pieces, Maxmin, TooManySets, TooManyForms, TooBigForm, Differ, TooBig, TooManyRows, Memory}
use Rattle.crn_same.specs.Equal.{AreEqual, AreOver, DifferAt, asked, HasNone}
use Rattle.crn_same.specs.Answers.{SetStops, SetsStop, IsNowhere, StepsStop, DifferenceStops, NoneAbove, NoneDiffers, Ends, IsTruePoint, refusal_of}
use Rattle.crn_same.proofs.Asking.{differs, whole_point, equal_by}

-- ---- the steps of a normal form
pub refused_so : (S : List Step) (e : NormalError) → IsRefused S e → StepsStop S (refusal_of e)
refused_so S normal.TooBig r = r
refused_so S (normal.TooManyForms count) r = r
refused_so S (normal.TooManySets count) r = r
refused_so S normal.Memory r = tt

-- behind steps that are not refused
steps_behind : (X Y : List Step) (e : SameError) → NoneStops X → StepsStop Y e → StepsStop (X ++ Y) e
steps_behind X Y (TooManySets count) n s = refused_right X Y (normal.TooManySets count) n s
steps_behind X Y (TooManyForms count) n s = refused_right X Y (normal.TooManyForms count) n s
steps_behind X Y TooBigForm n s = refused_right X Y normal.TooBig n s
steps_behind X Y Memory n s = tt
steps_behind X Y e n s = absurd s

module _ (domain : Domain) where
  -- ---- the sets of a difference
  stops_after : (before : Sets) (S : List (List ℚ)) (behind : Sets) (e : SameError) → All (IsNowhere domain) before → SetStops domain S e → SetsStop domain (before ++ S ∷ behind) e
  stops_after [] S behind e n s = inl s
  stops_after (T ∷ before) S behind e n s = inr (All-head (IsNowhere domain) T before n, stops_after before S behind e (All-tail (IsNowhere domain) T before n) s)

  -- a set ends the questions, and those before it have no point
  pub stops_at : (A : Sets) (i : ℕ) (S : List (List ℚ)) (e : SameError) → i < length A → S ≡ get_or A i S → All (IsNowhere domain) (take i A) → SetStops domain S e → SetsStop domain A e
  stops_at A i S e h o n s =
      subst (λ B. SetsStop domain B e)
      (sym (sym (take-append-drop i A) ∙ ap (λ xs. take i A ++ xs) (drop-cons A i S h ∙ ap (λ T. T ∷ drop (suc i) A) (sym o))))
      (stops_after (take i A) S (drop (suc i) A) e n s)

  pub none_next : (A : Sets) (i : ℕ) (S : List (List ℚ)) → i < length A → S ≡ get_or A i S → All (IsNowhere domain) (take i A) → IsNowhere domain S → All (IsNowhere domain) (take (i + 1) A)
  none_next A i S h o n s = subst (All (IsNowhere domain)) (sym (next A i S h o)) (All-push (IsNowhere domain) (take i A) S n s)

  pub none_all : (A : Sets) (i : ℕ) → length A ≤ i → All (IsNowhere domain) (take i A) → All (IsNowhere domain) A
  none_all A i h n = subst (All (IsNowhere domain)) (take_all i A h) n

  -- ---- a difference behind the steps of its operands
  stops_behind : (X Y : List Step) (A : Sets) (e : SameError) → NoneStops X → DifferenceStops domain Y A e → DifferenceStops domain (X ++ Y) A e
  stops_behind X Y A e n (inl s) = inl (steps_behind X Y e n s)
  stops_behind X Y A e n (inr s) = inr (none_stop X Y n s.0, s.1)

  module _ (a b : Formula) where
    operands : NoneStops (steps a) → NoneStops (steps b) → NoneStops (steps a ++ steps b)
    operands n m = none_stop (steps a) (steps b) n m

    -- the first operand's normal form is refused, or the second's
    pub first_ends : (e : NormalError) → IsRefused (steps a) e → Ends domain a b (refusal_of e)
    first_ends e r = inl (inl (refused_so (steps (Sub a b)) e (refused_left (steps a ++ steps b) (difference_steps (norm a) (norm b)) e (refused_left (steps a) (steps b) e r))))

    pub second_ends : (e : NormalError) → NoneStops (steps a) → IsRefused (steps b) e → Ends domain a b (refusal_of e)
    second_ends e n r = inl (inl (refused_so (steps (Sub a b)) e (refused_left (steps a ++ steps b) (difference_steps (norm a) (norm b)) e (refused_right (steps a) (steps b) e n r))))

    -- or the first less the second ends the questions
    pub above_ends : (e : SameError) → NoneStops (steps a) → NoneStops (steps b) → DifferenceStops domain (difference_steps (norm a) (norm b)) (sum_of (norm a) (neg (norm b))) e → Ends domain a b e
    above_ends e n m d = inl (stops_behind (steps a ++ steps b) (difference_steps (norm a) (norm b)) (norm (Sub a b)) e (operands n m) d)

    none_above : NoneStops (steps a) → NoneStops (steps b) → NoneAbove domain (difference_steps (norm a) (norm b)) (sum_of (norm a) (neg (norm b))) → NoneAbove domain (steps (Sub a b)) (norm (Sub a b))
    none_above n m d = record { steps = none_stop (steps a ++ steps b) (difference_steps (norm a) (norm b)) (operands n m) d.steps; sets = d.sets }

  module _ (a b : Formula) (n : NoneStops (steps a)) (m : NoneStops (steps b)) (up : NoneAbove domain (difference_steps (norm a) (norm b)) (sum_of (norm a) (neg (norm b)))) where
    -- or else the second less the first does
    pub below_ends : (e : SameError) → DifferenceStops domain (difference_steps (norm b) (norm a)) (sum_of (norm b) (neg (norm a))) e → Ends domain a b e
    below_ends e d = inr (none_above a b n m up, stops_behind (steps b ++ steps a) (difference_steps (norm b) (norm a)) (norm (Sub b a)) e (operands b a m n) d)

    -- or neither is above the other
    pub none_differs : NoneAbove domain (difference_steps (norm b) (norm a)) (sum_of (norm b) (neg (norm a))) → NoneDiffers domain a b
    none_differs down = record { above = none_above a b n m up; below = none_above b a m n down }

  -- then they are equal
  pub are_equal : (a b : Formula) → NoneDiffers domain a b → AreEqual domain a b
  are_equal a b d = equal_by domain a b (has_none (norm (Sub a b)) d.above.sets) (has_none (norm (Sub b a)) d.below.sets)
    where
      has_none : (A : Sets) → All (IsNowhere domain) A → All (λ S. HasNone (asked domain S)) A
      has_none A f = all_from (λ S. HasNone (asked domain S)) A (λ S h x long. (each (IsNowhere domain) A f S h).none.rational x)

  -- ---- the point of a set is one of difference
  point_of : (a b : Formula) (A : Sets) (p : List ℤ) → ((S : List (List ℚ)) → Has A S → Has (norm (Sub a b)) S) → SetsStop domain A (Differ p) → IsIn domain (wholes p) × (formula_value b (wholes p) <ℚ formula_value a (wholes p))
  point_of a b [] p f s = absurd s
  point_of a b (S ∷ A) p f (inl s) = differs domain a b S (wholes p) (f S (inl refl)) (length-map p whole ∙ s.1.long) (whole_point domain S p s.1.meets)
  point_of a b (S ∷ A) p f (inr s) = point_of a b A p (λ T h. f T (inr h)) s.1

  point_above : (a b : Formula) (p : List ℤ) → DifferenceStops domain (steps (Sub a b)) (norm (Sub a b)) (Differ p) → IsIn domain (wholes p) × (formula_value b (wholes p) <ℚ formula_value a (wholes p))
  point_above a b p (inl s) = absurd s
  point_above a b p (inr s) = point_of a b (norm (Sub a b)) p (λ S h. h) s.1

  differ_at : (a b : Formula) (p : List ℤ) → Ends domain a b (Differ p) → DifferAt domain a b p
  differ_at a b p (inl d) =
      let h = point_above a b p d in
      record { is_in = h.0; differ = λ e. <ℚ_irrefl (formula_value a (wholes p)) (subst (λ v. v <ℚ formula_value a (wholes p)) (sym e) h.1) }
  differ_at a b p (inr d) =
      let h = point_above b a p d.1 in
      record { is_in = h.0; differ = λ e. <ℚ_irrefl (formula_value b (wholes p)) (subst (λ v. v <ℚ formula_value b (wholes p)) e h.1) }

  pub true_point : (a b : Formula) (e : SameError) → Ends domain a b e → IsTruePoint domain a b e
  true_point a b (Differ p) d = differ_at a b p d
  true_point a b e d = tt

-- ---- columns
pub difference_over : (n : ℕ) (a b : Formula) → AreOver n a b → All (All (λ f. length f ≡ n)) (sum_of (norm a) (neg (norm b)))
difference_over n a b o = over_sum o.of_first o.of_second n (norm a) (neg (norm b)) o.greater (norm_over o.of_first a o.first) (over_neg o.of_second (norm b) (norm_over o.of_second b o.second))

pub turned_over : (n : ℕ) (a b : Formula) → AreOver n a b → AreOver n b a
turned_over n a b o = record { of_first = o.of_second; of_second = o.of_first; first = o.second; second = o.first; greater = turned o.of_second o.of_first ∙ o.greater }
  where
    turned : (n m : ℕ) → max n m ≡ max m n
    turned n m = omega arith

-- ---- what a call tells, by the normal forms that it has
pub true_so : (domain : Domain) (a b : Formula) (r : Result (Unit {0}) SameError) → IfErr r (Ends domain a b) → IfErr r (IsTruePoint domain a b)
true_so domain a b (Ok u) h = tt
true_so domain a b (Err e) h = true_point domain a b e h

module _ (domain : Domain) (a b : Formula) (A B : Sets) (is_a : A ≡ norm a) (is_b : B ≡ norm b) (n : NoneStops (steps a)) (m : NoneStops (steps b)) where
  pub above_so : (e : SameError) → DifferenceStops domain (difference_steps A B) (sum_of A (neg B)) e → Ends domain a b e
  above_so e d = above_ends domain a b e n m (subst (λ (p : Sets × Sets). DifferenceStops domain (difference_steps p.0 p.1) (sum_of p.0 (neg p.1)) e) (λ i. (is_a i, is_b i)) d)

  module _ (up : NoneAbove domain (difference_steps A B) (sum_of A (neg B))) where
    none_up : NoneAbove domain (difference_steps (norm a) (norm b)) (sum_of (norm a) (neg (norm b)))
    none_up = subst (λ (p : Sets × Sets). NoneAbove domain (difference_steps p.0 p.1) (sum_of p.0 (neg p.1))) (λ i. (is_a i, is_b i)) up

    pub below_so : (r : Result (Unit {0}) SameError) → IfErr r (DifferenceStops domain (difference_steps B A) (sum_of B (neg A))) → IfErr r (Ends domain a b)
    below_so (Ok u) d = tt
    below_so (Err e) d = below_ends domain a b n m none_up e (subst (λ (p : Sets × Sets). DifferenceStops domain (difference_steps p.0 p.1) (sum_of p.0 (neg p.1)) e) (λ i. (is_b i, is_a i)) d)

    pub none_so : (r : Result (Unit {0}) SameError) → OnOk r (NoneAbove domain (difference_steps B A) (sum_of B (neg A))) → OnOk r (NoneDiffers domain a b)
    none_so (Ok u) d = none_differs domain a b n m none_up (subst (λ (p : Sets × Sets). NoneAbove domain (difference_steps p.0 p.1) (sum_of p.0 (neg p.1))) (λ i. (is_b i, is_a i)) d)
    none_so (Err e) d = tt

pub equal_so : (domain : Domain) (a b : Formula) (r : Result (Unit {0}) SameError) → OnOk r (NoneDiffers domain a b) → OnOk r (AreEqual domain a b)
equal_so domain a b (Ok u) d = are_equal domain a b d
equal_so domain a b (Err e) d = tt
