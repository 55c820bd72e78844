-- When two functions of k variables are the same, and why that is not shown.
use Rattle.std.specs.Prelude.{◌≡◌, ◌≢◌, ◌⊎◌, ◌≤◌, ℕ, ◌+◌, Bool, ◌||◌, cond, ℤ, List, length, take, Option, Some, None}
use Rattle.crn_fraction.specs.Rational.{ℚ}
use Rattle.crn_linear.specs.Forms.{wholes}
use Rattle.crn_formula.specs.Formulas.{Formula, node_count}
use Rattle.crn_formula.specs.Pieces.{Piece, Domain, IsIn}
use Rattle.crn_formula.specs.Domains.{whole_space, affine_domain, domain_for}
use Rattle.crn_formula.specs.Functions.{Kind, ByFormula, ByPieces, ByLeast, kind_value, point_of, is_affine, columns}
use Rattle.crn_formula.specs.Views.{kind_of, plain_of}
use Rattle.crn_pieces.specs.Answers as pieces
use Rattle.crn_pieces.specs.declared.PiecesError.{PiecesError}
use Rattle.crn_pieces.specs.declared.PiecesError.TheVariants as unchecked
use Rattle.crn_maxmin.specs.Answers as maxmin
use Rattle.crn_maxmin.specs.declared.MaxminError.{MaxminError}
use Rattle.crn_maxmin.specs.declared.MaxminError.TheVariants as unformed
use Rattle.crn_same.specs.declared.SameError.{SameError}
use Rattle.crn_same.specs.declared.SameError.TheVariants.{Pieces, Maxmin, Differ, Memory}
use Rattle.crn_same.specs.declared.functions.InFormula.{InFormula}
use Rattle.crn_same.specs.declared.functions.InFormula.TheVariants.{Given, Made}
use Rattle.crn_same.specs.Answers.{Ends, NoneDiffers}

-- by a formula or by pieces
abbrev pub IsComparable : Kind → Type 0
IsComparable (ByFormula e) = Unit {0}
IsComparable (ByPieces ps) = Unit {0}
IsComparable (ByLeast forms) = ⊥

-- they have one value at all amounts
abbrev pub AreSame : ℕ → Kind → Kind → Type 0
AreSame k f g = (x : List ℚ) → length x ≡ k → kind_value f (point_of k f x) ≡ kind_value g (point_of k g x)

-- ---- the points at which they are compared
abbrev pub domain_by : (k : ℕ) → (affine : Bool) → Domain
domain_by k affine = cond affine (affine_domain (k + 1)) (whole_space k)

-- those of the affine domain where one of the functions is affine
abbrev pub common_domain : ℕ → Kind → Kind → Domain
common_domain k f g = domain_by k (is_affine k f || is_affine k g)

-- the value at such a point. A function that is not affine does not see the number behind those of its variables
abbrev pub value_on : ℕ → Kind → List ℚ → Option ℚ
value_on k f x = kind_value f (take (columns k f) x)

-- they have two values at a point of the common domain
pub record IsDifference (k : ℕ) (f g : Kind) (p : List ℤ) : Type 0 where
  pub is_in : IsIn (common_domain k f g) (wholes p)
  pub differ : value_on k f (wholes p) ≢ value_on k g (wholes p)

-- ---- the formula of a function
-- of pieces that cover their domain and agree on it, with at most 2,048 nodes
pub record IsFormulaOfPieces (domain : Domain) (ps : List Piece) (e : Formula) : Type 0 where
  pub checked : pieces.AreChecked domain ps
  pub is_formula : maxmin.IsFormulaOf domain ps e
  pub few_nodes : node_count e ≤ 2048

-- the given formula, or that of the pieces
abbrev pub IsFormulaFor : ℕ → Kind → Formula → Type 0
IsFormulaFor k (ByFormula g) e = e ≡ g
IsFormulaFor k (ByPieces ps) e = IsFormulaOfPieces (domain_for k (ByPieces ps)) ps e
IsFormulaFor k (ByLeast forms) e = ⊥

-- pieces of function 1 or 2 are refused, or their formula is
abbrev pub PiecesStop : (which : ℕ) → Domain → List Piece → SameError → Type 0
PiecesStop which domain ps (Pieces w e) = (w ≡ which) × (e ≢ unchecked.Memory) × pieces.IsRefused domain ps e
PiecesStop which domain ps (Maxmin w e) =
    (w ≡ which) × (e ≢ unformed.Memory) × pieces.AreChecked domain ps × maxmin.IsRefused domain ps e
PiecesStop which domain ps Memory = Unit {0}
PiecesStop which domain ps e = ⊥

-- function 1 or 2 has no formula. A given one is refused for want of memory alone
abbrev pub HasNoFormula : (which k : ℕ) → Kind → SameError → Type 0
HasNoFormula which k (ByFormula e) error = error ≡ Memory
HasNoFormula which k (ByPieces ps) error = PiecesStop which (domain_for k (ByPieces ps)) ps error
HasNoFormula which k (ByLeast forms) error = error ≡ Memory

-- ---- how the question ends
-- the second function has no formula, or the questions about both formulas end so
abbrev pub IsRefusedWith : ℕ → Kind → Kind → (first : Formula) → SameError → Type 0
IsRefusedWith k f g a error =
    HasNoFormula 2 k g error ⊎ ((b : Formula) × IsFormulaFor k g b × Ends (common_domain k f g) a b error)

-- why two functions are not shown to be the same: the first has no formula, or else the question ends so with it
abbrev pub IsRefused : ℕ → Kind → Kind → SameError → Type 0
IsRefused k f g error = HasNoFormula 1 k f error ⊎ ((a : Formula) × IsFormulaFor k f a × IsRefusedWith k f g a error)

-- each has a formula, no step of the normal forms of the two differences is refused, and each of their sets is nowhere
pub record AreShownSame (k : ℕ) (f g : Kind) : Type 0 where
  pub first : Formula
  pub second : Formula
  pub is_first : IsFormulaFor k f first
  pub is_second : IsFormulaFor k g second
  pub none_differs : NoneDiffers (common_domain k f g) first second

-- the point of a difference is one at which the functions have two values
abbrev pub IsTrueOf : ℕ → Kind → Kind → SameError → Type 0
IsTrueOf k f g (Differ p) = IsDifference k f g p
IsTrueOf k f g e = Unit {0}

-- ---- what the code keeps
abbrev pub formula_of_kind : Kind → Option Formula
formula_of_kind (ByFormula e) = Some e
formula_of_kind (ByPieces ps) = None
formula_of_kind (ByLeast forms) = None

abbrev pub formula_in : InFormula → Option Formula
formula_in (Given f) = formula_of_kind (kind_of f.kind)
formula_in (Made e) = Some (plain_of e)

-- the formula of a function of k variables
pub record KeepsFormula (k : ℕ) (f : Kind) (kept : InFormula) : Type 0 where
  pub formula : Formula
  pub is_kept : formula_in kept ≡ Some formula
  pub is_formula : IsFormulaFor k f formula

-- some formula
abbrev pub HasKept : InFormula → Type 0
HasKept kept = (e : Formula) × (formula_in kept ≡ Some e)

-- want of memory is told as such
abbrev pub of_pieces : ℕ → PiecesError → SameError
of_pieces which unchecked.Memory = Memory
of_pieces which e = Pieces which e

abbrev pub of_formula : ℕ → MaxminError → SameError
of_formula which unformed.Memory = Memory
of_formula which e = Maxmin which e
