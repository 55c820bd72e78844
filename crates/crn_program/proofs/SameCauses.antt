-- Where two functions are not shown to be the same, no call below wants memory.
use Rattle.std.proofs.Common.{◌≡◌, ◌⊎◌, inl, inr, ℕ, List, [], ◌∷◌, refl}
use Rattle.std.specs.Prelude.{◌≢◌}
use Rattle.crn_fraction.specs.Rational.{ℚ}
use Rattle.crn_compile.specs.Refusals.{of_pieces, of_formula}
use Rattle.crn_compile.specs.declared.CompileError.TheVariants as cause
use Rattle.crn_formula.specs.Formulas.{Formula, Sub}
use Rattle.crn_formula.specs.Functions.{Kind, ByFormula, ByPieces, ByLeast}
use Rattle.crn_formula.specs.Pieces.{Domain}
use Rattle.crn_maxmin.specs.declared.MaxminError.{MaxminError}
use Rattle.crn_maxmin.specs.declared.MaxminError.TheVariants as unformed
use Rattle.crn_normal.specs.Normal.{Sets, norm}
use Rattle.crn_normal.specs.Steps.{Step, steps}
use Rattle.crn_pieces.specs.declared.PiecesError.{PiecesError}
use Rattle.crn_pieces.specs.declared.PiecesError.TheVariants as unchecked
use Rattle.crn_same.specs.Answers.{SetStops, SetsStop, StepsStop, DifferenceStops, Ends}
use Rattle.crn_same.specs.Functions.{IsRefused, HasNoFormula}
use Rattle.crn_same.specs.declared.SameError.{SameError}
use Rattle.crn_same.specs.declared.SameError.TheVariants.{Pieces, Maxmin}

-- the comparison of two formulas ends with no refusal that neither a set nor a step has
module _ (e : SameError) (no_set : (domain : Domain) (S : List (List ℚ)) → SetStops domain S e → ⊥) (no_step : (X : List Step) → StepsStop X e → ⊥) (domain : Domain) where
  no_sets : (A : Sets) → SetsStop domain A e → ⊥
  no_sets [] s = s
  no_sets (S ∷ A) (inl s) = no_set domain S s
  no_sets (S ∷ A) (inr s) = no_sets A s.1

  no_difference : (X : List Step) (A : Sets) → DifferenceStops domain X A e → ⊥
  no_difference X A (inl s) = no_step X s
  no_difference X A (inr s) = no_sets A s.1

  no_end : (a b : Formula) → Ends domain a b e → ⊥
  no_end a b (inl s) = no_difference (steps (Sub a b)) (norm (Sub a b)) s
  no_end a b (inr s) = no_difference (steps (Sub b a)) (norm (Sub b a)) s.1

-- ---- pieces

pieces_alone : (which k : ℕ) (f : Kind) (w : ℕ) (e : PiecesError) → HasNoFormula which k f (Pieces w e) → e ≢ unchecked.Memory
pieces_alone which k (ByFormula g) w e none = absurd (cc none)
pieces_alone which k (ByPieces ps) w e none = none.1
pieces_alone which k (ByLeast forms) w e none = absurd (cc none)

pub pieces_cause : (k : ℕ) (f g : Kind) (w : ℕ) (e : PiecesError) → IsRefused k f g (Pieces w e) → e ≢ unchecked.Memory
pieces_cause k f g w e (inl none) = pieces_alone 1 k f w e none
pieces_cause k f g w e (inr (a, is, inl none)) = pieces_alone 2 k g w e none
pieces_cause k f g w e (inr (a, is, inr (b, also, ends))) = absurd (no_end (Pieces w e) (λ domain S s. s.1) (λ X s. s) _ a b ends)

pub told_of_pieces : (e : PiecesError) → e ≢ unchecked.Memory → of_pieces e ≢ cause.Memory
told_of_pieces (unchecked.TooManyForms count) other = λ is. cc is
told_of_pieces (unchecked.BigCondition i c) other = λ is. cc is
told_of_pieces (unchecked.BigDifference i j) other = λ is. cc is
told_of_pieces (unchecked.Disagree i j p) other = λ is. cc is
told_of_pieces (unchecked.NotCovered p) other = λ is. cc is
told_of_pieces (unchecked.TooBig kept) other = λ is. cc is
told_of_pieces (unchecked.TooManyRows kept) other = λ is. cc is
told_of_pieces unchecked.Memory other = absurd (other refl)

-- ---- their formula

formula_alone : (which k : ℕ) (f : Kind) (w : ℕ) (e : MaxminError) → HasNoFormula which k f (Maxmin w e) → e ≢ unformed.Memory
formula_alone which k (ByFormula g) w e none = absurd (cc none)
formula_alone which k (ByPieces ps) w e none = none.1
formula_alone which k (ByLeast forms) w e none = absurd (cc none)

pub formula_cause : (k : ℕ) (f g : Kind) (w : ℕ) (e : MaxminError) → IsRefused k f g (Maxmin w e) → e ≢ unformed.Memory
formula_cause k f g w e (inl none) = formula_alone 1 k f w e none
formula_cause k f g w e (inr (a, is, inl none)) = formula_alone 2 k g w e none
formula_cause k f g w e (inr (a, is, inr (b, also, ends))) = absurd (no_end (Maxmin w e) (λ domain S s. s.1) (λ X s. s) _ a b ends)

pub told_of_formula : (e : MaxminError) → e ≢ unformed.Memory → of_formula e ≢ cause.Memory
told_of_formula (unformed.TooBig kept) other = λ is. cc is
told_of_formula (unformed.TooManyRows kept) other = λ is. cc is
told_of_formula (unformed.TooManyCells count) other = λ is. cc is
told_of_formula (unformed.TooManyNodes count) other = λ is. cc is
told_of_formula unformed.Memory other = absurd (other refl)
