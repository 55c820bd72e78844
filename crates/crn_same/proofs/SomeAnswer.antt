-- Each two functions are shown to be the same, or there is a cause why they are not, other than want of memory.
use Rattle.std.proofs.Common.{◌≡◌, ◌⊎◌, inl, inr, ⊎_elim, ◌<◌, ◌≤◌, ◌^◌, ℕ, List, [], ◌∷◌, length, map, refl, sym, ap, ◌∙◌, subst, arith}
use Rattle.std.specs.Prelude.{ℤ, ◌≢◌, All, unsigned_abs}
use Rattle.std.proofs.lemmas.Bool.{cases_lt}
use Rattle.std.proofs.lemmas.List.Elements.{All-nil, All-cons, All-head, All-tail, All-append, All-map}
use Rattle.crn_fraction.specs.Rational.{ℚ}
use Rattle.crn_linear.specs.Rows.{Row, IsSmall}
use Rattle.crn_linear.specs.Cleared.{cleared}
use Rattle.crn_farkas.specs.Systems.{System, IsRectangular, IsWholePoint}
use Rattle.crn_feasible.specs.Elimination.{elimination}
use Rattle.crn_simplex.proofs.Decisions.{Decision, has_point, has_none, has_limit, decision}
use Rattle.crn_formula.specs.Formulas.{Formula, Sub}
use Rattle.crn_formula.specs.Pieces.{Piece, Domain, IsDomain, columns_of}
use Rattle.crn_formula.specs.Domains.{domain_for}
use Rattle.crn_formula.specs.Functions.{Kind, ByFormula, ByPieces, ByLeast, is_affine, IsPieceOver, IsFitting}
use Rattle.crn_formula.proofs.OwnDomains.{own_domain_is, own_columns}
use Rattle.crn_pieces.specs.Answers.{Clears, AreChecked}
use Rattle.crn_pieces.proofs.Decided as checking
use Rattle.crn_pieces.specs.declared.PiecesError.{PiecesError}
use Rattle.crn_maxmin.proofs.Decided as forming
use Rattle.crn_maxmin.specs.declared.MaxminError.{MaxminError}
use Rattle.crn_normal.specs.declared.NormalError.{NormalError}
use Rattle.crn_normal.specs.declared.NormalError.TheVariants as normal
use Rattle.crn_normal.specs.Normal.{Sets, norm}
use Rattle.crn_normal.specs.Steps.{Step, steps}
use Rattle.crn_normal.specs.Refusals.{NoneStops, FirstStops}
use Rattle.crn_normal.proofs.Decided as passing
use Rattle.crn_same.specs.declared.SameError.{SameError}
use Rattle.crn_same.specs.declared.SameError.TheVariants.{Pieces, Maxmin, TooManySets, TooManyForms, TooBigForm, Differ, TooBig, TooManyRows, Memory}
use Rattle.crn_same.specs.Equal.{AreOver, positive_row, asked}
use Rattle.crn_same.specs.Answers.{SetStops, SetsStop, IsNowhere, StepsStop, DifferenceStops, NoneAbove, NoneDiffers, Ends}
use Rattle.crn_same.specs.Functions.{IsComparable, AreShownSame, IsRefused, IsRefusedWith, IsFormulaFor, HasNoFormula, common_domain}
use Rattle.crn_same.proofs.Rows.{length-positive}
use Rattle.crn_same.proofs.Walking.{difference_over, turned_over}
use Rattle.crn_same.proofs.Comparing.{both_over, common_domain_is}

-- an end, other than for want of memory
abbrev ForCause : (SameError → Type 0) → Type 0
ForCause P = (e : SameError) × (e ≢ Memory) × P e

onward : {P Q : SameError → Type 0} → ((e : SameError) → P e → Q e) → ForCause P → ForCause Q
onward f h = (h.0, h.1, f h.0 h.2)

-- ---- whether forms clear
small_or_not : (z : ℤ) → IsSmall z ⊎ (¬ IsSmall z)
small_or_not z = ⊎_elim (λ (l : 2 ^ 59 < unsigned_abs z). inr (λ s. let h = s.size in absurd (omega (arith, l, h)))) (λ (l : unsigned_abs z ≤ 2 ^ 59). inl (record { size = l })) (cases_lt (2 ^ 59) (unsigned_abs z))

all_or_not : {X : Type 0} (P : X → Type 0) → ((x : X) → P x ⊎ (¬ P x)) → (xs : List X) → All P xs ⊎ (¬ All P xs)
all_or_not P test [] = inl (All-nil P)
all_or_not {X} P test (x ∷ xs) = go (test x) (all_or_not P test xs)
  where
    go : P x ⊎ (¬ P x) → All P xs ⊎ (¬ All P xs) → All P (x ∷ xs) ⊎ (¬ All P (x ∷ xs))
    go (inl h) (inl all) = inl (All-cons P x xs h all)
    go (inl h) (inr n) = inr (λ all. n (All-tail P x xs all))
    go (inr n) rest = inr (λ all. n (All-head P x xs all))

clear_or_not : (S : List (List ℚ)) → All Clears S ⊎ (¬ All Clears S)
clear_or_not S = all_or_not Clears (λ form. all_or_not IsSmall small_or_not (cleared form)) S

-- ---- the sets of a difference
module _ (domain : Domain) (is_domain : IsDomain domain) where
  rectangular : (S : List (List ℚ)) → All (λ f. length f ≡ columns_of domain) S → IsRectangular (asked domain S)
  rectangular S long = record {
    lengths =
        All-append (λ (r : Row). length r.entries ≡ columns_of domain) domain.rows (map positive_row S) is_domain.long
        (All-map (λ (r : Row). length r.entries ≡ columns_of domain) positive_row S (longs S long));
  }
    where
      longs : (T : List (List ℚ)) → All (λ f. length f ≡ columns_of domain) T → All (λ f. length (cleared f) ≡ columns_of domain) T
      longs [] l = All-nil (λ (f : List ℚ). length (cleared f) ≡ columns_of domain)
      longs (f ∷ T) l =
          All-cons (λ (f : List ℚ). length (cleared f) ≡ columns_of domain) f T (length-positive f ∙ All-head (λ f. length f ≡ columns_of domain) f T l)
          (longs T (All-tail (λ f. length f ≡ columns_of domain) f T l))

  asked_set : (S : List (List ℚ)) → All Clears S → Decision (asked domain S) → IsNowhere domain S ⊎ ForCause (SetStops domain S)
  asked_set S clear (has_point p e meets long) = inr (Differ p, (λ e. cc e), (clear, record { long = long; meets = meets }))
  asked_set S clear (has_none none) = inl (record { clears = clear; none = none })
  asked_set S clear (has_limit (inl e)) = inr (TooBig (record { system = asked domain S; room = 0 }), (λ e. cc e), (clear, (refl, e)))
  asked_set S clear (has_limit (inr e)) = inr (TooManyRows (record { system = asked domain S; room = 0 }), (λ e. cc e), (clear, (refl, e)))

  one_set : (S : List (List ℚ)) → All (λ f. length f ≡ columns_of domain) S → IsNowhere domain S ⊎ ForCause (SetStops domain S)
  one_set S long =
      ⊎_elim (λ (clear : All Clears S). asked_set S clear (decision (asked domain S) (rectangular S long)))
      (λ (n : ¬ All Clears S). inr (TooBigForm, (λ e. cc e), n))
      (clear_or_not S)

  all_sets : (A : Sets) → All (All (λ f. length f ≡ columns_of domain)) A → All (IsNowhere domain) A ⊎ ForCause (SetsStop domain A)
  all_sets [] long = inl (All-nil (IsNowhere domain))
  all_sets (S ∷ A) long = go (one_set S (All-head (All (λ f. length f ≡ columns_of domain)) S A long)) (all_sets A (All-tail (All (λ f. length f ≡ columns_of domain)) S A long))
    where
      go : IsNowhere domain S ⊎ ForCause (SetStops domain S) → All (IsNowhere domain) A ⊎ ForCause (SetsStop domain A) → All (IsNowhere domain) (S ∷ A) ⊎ ForCause (SetsStop domain (S ∷ A))
      go (inl n) (inl all) = inl (All-cons (IsNowhere domain) S A n all)
      go (inl n) (inr s) = inr (onward (λ e h. inr (n, h)) s)
      go (inr s) rest = inr (onward (λ e h. inl h) s)

  -- ---- a difference
  refused_steps : (X : List Step) (e : NormalError) → e ≢ normal.Memory → FirstStops X e → ForCause (StepsStop X)
  refused_steps X normal.TooBig n f = (TooBigForm, (λ e. cc e), f)
  refused_steps X (normal.TooManyForms count) n f = (TooManyForms count, (λ e. cc e), f)
  refused_steps X (normal.TooManySets count) n f = (TooManySets count, (λ e. cc e), f)
  refused_steps X normal.Memory n f = absurd (n refl)

  one_difference : (X : List Step) (A : Sets) → All (All (λ f. length f ≡ columns_of domain)) A → NoneAbove domain X A ⊎ ForCause (DifferenceStops domain X A)
  one_difference X A long = go (passing.decided X)
    where
      sets : NoneStops X → All (IsNowhere domain) A ⊎ ForCause (SetsStop domain A) → NoneAbove domain X A ⊎ ForCause (DifferenceStops domain X A)
      sets n (inl all) = inl (record { steps = n; sets = all })
      sets n (inr s) = inr (onward (λ e h. inr (n, h)) s)

      go : NoneStops X ⊎ ((e : NormalError) × (e ≢ normal.Memory) × FirstStops X e) → NoneAbove domain X A ⊎ ForCause (DifferenceStops domain X A)
      go (inl n) = sets n (all_sets A long)
      go (inr (e, n, f)) = inr (onward (λ e h. inl h) (refused_steps X e n f))

  both_differences : (a b : Formula) → AreOver (columns_of domain) a b → NoneDiffers domain a b ⊎ ForCause (Ends domain a b)
  both_differences a b over =
      go (one_difference (steps (Sub a b)) (norm (Sub a b)) (difference_over (columns_of domain) a b over))
      (one_difference (steps (Sub b a)) (norm (Sub b a)) (difference_over (columns_of domain) b a (turned_over (columns_of domain) a b over)))
    where
      go : NoneAbove domain (steps (Sub a b)) (norm (Sub a b)) ⊎ ForCause (DifferenceStops domain (steps (Sub a b)) (norm (Sub a b)))
          → NoneAbove domain (steps (Sub b a)) (norm (Sub b a)) ⊎ ForCause (DifferenceStops domain (steps (Sub b a)) (norm (Sub b a)))
          → NoneDiffers domain a b ⊎ ForCause (Ends domain a b)
      go (inl above) (inl below) = inl (record { above = above; below = below })
      go (inl above) (inr s) = inr (onward (λ e h. inr (above, h)) s)
      go (inr s) other = inr (onward (λ e h. inl h) s)

-- ---- the formula of a function
formula_or_not : (which k : ℕ) (f : Kind) → IsFitting k f → IsComparable f → ((e : Formula) × IsFormulaFor k f e) ⊎ ForCause (HasNoFormula which k f)
formula_or_not which k (ByFormula e) fit c = inl (e, refl)
formula_or_not which k (ByPieces ps) fit c =
    go (checking.decided D (own_domain_is k (ByPieces ps)) ps (subst (λ n. All (IsPieceOver n) ps) (sym (own_columns k (ByPieces ps))) fit.forms) fit.limits.some)
  where
    D : Domain
    D = domain_for k (ByPieces ps)

    formed : AreChecked D ps → forming.HasFormula D ps ⊎ forming.IsRefusedForCause D ps → ((e : Formula) × IsFormulaFor k (ByPieces ps) e) ⊎ ForCause (HasNoFormula which k (ByPieces ps))
    formed checked (inl (e, is, few)) = inl (e, record { checked = checked; is_formula = is; few_nodes = few })
    formed checked (inr (e, cause, h)) = inr (Maxmin which e, (λ e. cc e), (refl, cause, checked, h))

    go : AreChecked D ps ⊎ checking.IsRefusedForCause D ps → ((e : Formula) × IsFormulaFor k (ByPieces ps) e) ⊎ ForCause (HasNoFormula which k (ByPieces ps))
    go (inl checked) = formed checked (forming.decided D ps checked)
    go (inr (e, cause, h)) = inr (Pieces which e, (λ e. cc e), (refl, cause, h))
formula_or_not which k (ByLeast forms) fit c = absurd c

-- ---- two functions
module _ (k : ℕ) (f g : Kind) (fits_f : IsFitting k f) (fits_g : IsFitting k g) where
  compared : (a : Formula) → IsFormulaFor k f a → ((b : Formula) × IsFormulaFor k g b) ⊎ ForCause (HasNoFormula 2 k g) → AreShownSame k f g ⊎ ForCause (IsRefusedWith k f g a)
  compared a is_a (inl (b, is_b)) =
      ⊎_elim (λ (none : NoneDiffers (common_domain k f g) a b). inl (record { first = a; second = b; is_first = is_a; is_second = is_b; none_differs = none }))
      (λ (s : ForCause (Ends (common_domain k f g) a b)). inr (onward (λ e h. inr (b, is_b, h)) s))
      (both_differences (common_domain k f g) (common_domain_is k f g) a b (both_over k f g fits_f fits_g a b is_a is_b))
  compared a is_a (inr s) = inr (onward (λ e h. inl h) s)

  pub decided : IsComparable f → IsComparable g → AreShownSame k f g ⊎ ForCause (IsRefused k f g)
  decided c d = go (formula_or_not 1 k f fits_f c)
    where
      go : ((a : Formula) × IsFormulaFor k f a) ⊎ ForCause (HasNoFormula 1 k f) → AreShownSame k f g ⊎ ForCause (IsRefused k f g)
      go (inl (a, is_a)) = ⊎_elim (λ (s : AreShownSame k f g). inl s) (λ (s : ForCause (IsRefusedWith k f g a)). inr (onward (λ e h. inr (a, is_a, h)) s)) (compared a is_a (formula_or_not 2 k g fits_g d))
      go (inr s) = inr (onward (λ e h. inl h) s)
