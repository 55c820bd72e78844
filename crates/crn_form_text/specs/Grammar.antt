-- Numbers, forms and formulas as they are written in the tokens of one line.
use Rattle.std.specs.Prelude.{◌≡◌, ◌≢◌, ◌⊎◌, ℕ, suc, ◌+◌, ◌<◌, ◌≤◌, ◌==◌, ℤ, pos, neg_ℤ, Bool, true, false, if◌then◌else◌, List, [], ◌∷◌, ◌++◌, length, take, replicate, slice_range, codes}
use Rattle.crn_token.specs.declared.Sign.TheVariants.{LeftParen, RightParen, Comma, Plus, Minus, Slash}
use Rattle.crn_token.specs.Plain.{Plain, PlainWord, PlainNumber, PlainSign}
use Rattle.crn_fraction.specs.Rational.{ℚ, whole, 0ℚ, ◌/ℚ◌}
use Rattle.crn_linear.specs.Forms.{entry_of}
use Rattle.crn_formula.specs.Formulas.{Formula, Lin, Add, Sub, Scale, Min, Max}

-- ---- numbers
-- a number as it is written: n, or n/d with d = e + 1
pub data Numeral : Type 0 where
  Whole : ℕ → Numeral
  Over : (n e : ℕ) → Numeral

abbrev pub numeral_tokens : Numeral → List Plain
numeral_tokens (Whole n) = PlainNumber (pos n) ∷ []
numeral_tokens (Over n e) = PlainNumber (pos n) ∷ PlainSign Slash ∷ PlainNumber (pos (suc e)) ∷ []

-- the number, or its negative
abbrev pub signed : (negative : Bool) → ℕ → ℤ
signed true n = neg_ℤ (pos n)
signed false n = pos n

-- the fraction that is written, or its negative
abbrev pub fraction : (negative : Bool) → Numeral → ℚ
fraction negative (Whole n) = whole (signed negative n)
fraction negative (Over n e) = whole (signed negative n) /ℚ whole (pos (suc e))

-- the `-` before what is negative
abbrev pub minus_before : (negative : Bool) → List Plain
minus_before true = PlainSign Minus ∷ []
minus_before false = []

-- the tokens are a text of the number
abbrev pub SpellsNumber : ℚ → List Plain → Type 0
SpellsNumber q tokens = (n : Numeral) × (tokens ≡ numeral_tokens n) × (q ≡ fraction false n)

-- the tokens are a text of the number, which may have `-` before it
abbrev pub SpellsSigned : ℚ → List Plain → Type 0
SpellsSigned q tokens = (negative : Bool) × (n : Numeral) × (tokens ≡ minus_before negative ++ numeral_tokens n) × (q ≡ fraction negative n)

-- of the tokens, the first `count` are the longest that are a text of a number, of this one
pub record IsLongestNumber (tokens : List Plain) (q : ℚ) (count : ℕ) : Type 0 where
  pub within : count ≤ length tokens
  pub spells : SpellsNumber q (take count tokens)
  pub longest : (m : ℕ) (r : ℚ) → count < m → m ≤ length tokens → ¬ SpellsNumber r (take m tokens)

-- no tokens at the beginning are a text of a number
abbrev pub BeginsNoNumber : List Plain → Type 0
BeginsNoNumber tokens = (m : ℕ) (r : ℚ) → m ≤ length tokens → ¬ SpellsNumber r (take m tokens)

-- ---- forms
-- a term: a variable, a multiple of one, or a constant. Variables are told by their column, from 0
pub data Term : Type 0 where
  Variable : (column : ℕ) → Term
  Multiple : Numeral → (column : ℕ) → Term
  Constant : Numeral → Term

-- the name of the variable of a column: x1 for the first
abbrev pub name_tokens : ℕ → List Plain
name_tokens column = PlainWord (codes "x") ∷ PlainNumber (pos (suc column)) ∷ []

abbrev pub term_tokens : Term → List Plain
term_tokens (Variable column) = name_tokens column
term_tokens (Multiple n column) = numeral_tokens n ++ name_tokens column
term_tokens (Constant n) = numeral_tokens n

-- a term that is added or taken away
pub record Signed : Type 0 where
  pub negative : Bool
  pub term : Term

-- a form as it is written, term by term. The first may have `-` before it, each other one has `+` or `-`
abbrev pub sign_before : (negative : Bool) → List Plain
sign_before true = PlainSign Minus ∷ []
sign_before false = PlainSign Plus ∷ []

abbrev pub more_tokens : List Signed → List Plain
more_tokens [] = []
more_tokens (t ∷ terms) = sign_before t.negative ++ term_tokens t.term ++ more_tokens terms

abbrev pub form_tokens : List Signed → List Plain
form_tokens [] = []
form_tokens (t ∷ terms) = minus_before t.negative ++ term_tokens t.term ++ more_tokens terms

-- the column of a term over k variables: that of its variable, or the one past them all for a constant
abbrev pub column_of : ℕ → Term → ℕ
column_of k (Variable column) = column
column_of k (Multiple n column) = column
column_of k (Constant n) = k

-- what the term puts into its column
abbrev pub coefficient_of : (negative : Bool) → Term → ℚ
coefficient_of negative (Variable column) = whole (signed negative 1)
coefficient_of negative (Multiple n column) = fraction negative n
coefficient_of negative (Constant n) = fraction negative n

abbrev pub coefficient : Signed → ℚ
coefficient t = coefficient_of t.negative t.term

-- a variable among k, or a constant
abbrev pub IsTermOver : ℕ → Term → Type 0
IsTermOver k (Variable column) = column < k
IsTermOver k (Multiple n column) = column < k
IsTermOver k (Constant n) = Unit {0}

abbrev pub AreTermsOver : ℕ → List Signed → Type 0
AreTermsOver k [] = Unit {0}
AreTermsOver k (t ∷ terms) = IsTermOver k t.term × AreTermsOver k terms

-- no term stands in this column
abbrev pub IsFree : ℕ → ℕ → List Signed → Type 0
IsFree k column [] = Unit {0}
IsFree k column (t ∷ terms) = (column_of k t.term ≢ column) × IsFree k column terms

-- each variable stands at most once, and there is at most one constant
abbrev pub StandOnce : ℕ → List Signed → Type 0
StandOnce k [] = Unit {0}
StandOnce k (t ∷ terms) = IsFree k (column_of k t.term) terms × StandOnce k terms

-- what the terms put into a column: 0 where none stands in it
abbrev pub entry_in : ℕ → List Signed → ℕ → ℚ
entry_in k [] column = 0ℚ
entry_in k (t ∷ terms) column = if column_of k t.term == column then coefficient t else entry_in k terms column

-- The terms are those of a form over k variables. It has a column for each, and a last one for the constant
pub record AreTermsOf (k : ℕ) (form : List ℚ) (terms : List Signed) : Type 0 where
  pub some : 0 < length terms
  pub over : AreTermsOver k terms
  pub once : StandOnce k terms
  pub long : length form ≡ k + 1
  pub entries : (column : ℕ) → column ≤ k → entry_of form column ≡ entry_in k terms column

-- the tokens are a text of the form
abbrev pub SpellsForm : ℕ → List ℚ → List Plain → Type 0
SpellsForm k form tokens = (terms : List Signed) × AreTermsOf k form terms × (tokens ≡ form_tokens terms)

-- each term has a variable and no `-` before it
abbrev pub IsPlainTerm : Term → Type 0
IsPlainTerm (Variable column) = Unit {0}
IsPlainTerm (Multiple n column) = Unit {0}
IsPlainTerm (Constant n) = ⊥

abbrev pub ArePlain : List Signed → Type 0
ArePlain [] = Unit {0}
ArePlain (t ∷ terms) = (t.negative ≡ false) × IsPlainTerm t.term × ArePlain terms

-- The tokens are a text of a form of k columns without negative coefficients: the number 0 alone, or terms with a variable joined by `+`
abbrev pub SpellsPlain : ℕ → List ℚ → List Plain → Type 0
SpellsPlain k form tokens =
    ((tokens ≡ PlainNumber (pos 0) ∷ []) × (form ≡ replicate k 0ℚ))
    ⊎ ((affine : List ℚ) × (terms : List Signed) × AreTermsOf k affine terms × ArePlain terms × (tokens ≡ form_tokens terms) × (form ≡ take k affine))

-- of the tokens from a place on, those up to `end` are the longest that are a text of such a form
pub record IsLongestPlain (k : ℕ) (tokens : List Plain) (from : ℕ) (form : List ℚ) (end : ℕ) : Type 0 where
  pub within : end ≤ length tokens
  pub spells : SpellsPlain k form (slice_range tokens from end)
  pub longest : (e : ℕ) (f : List ℚ) → end < e → e ≤ length tokens → ¬ SpellsPlain k f (slice_range tokens from e)

-- no tokens from a place on are a text of such a form
abbrev pub BeginsNoPlain : ℕ → List Plain → ℕ → Type 0
BeginsNoPlain k tokens from = (end : ℕ) (form : List ℚ) → end ≤ length tokens → ¬ SpellsPlain k form (slice_range tokens from end)

-- ---- formulas
-- an operator with one or two operands
abbrev pub call : List ℕ → List Plain → List Plain
call word operands = PlainWord word ∷ PlainSign LeftParen ∷ [] ++ operands ++ PlainSign RightParen ∷ []

abbrev pub pair : List Plain → List Plain → List Plain
pair a b = a ++ PlainSign Comma ∷ [] ++ b

-- the tokens are a text of the formula over k variables, whose forms have k + 1 columns
abbrev pub SpellsFormula : ℕ → Formula → List Plain → Type 0
SpellsFormula k (Lin form) tokens = SpellsForm k form tokens
SpellsFormula k (Add a b) tokens = (x : List Plain) × (y : List Plain) × SpellsFormula k a x × SpellsFormula k b y × (tokens ≡ call (codes "add") (pair x y))
SpellsFormula k (Sub a b) tokens = (x : List Plain) × (y : List Plain) × SpellsFormula k a x × SpellsFormula k b y × (tokens ≡ call (codes "sub") (pair x y))
SpellsFormula k (Scale q a) tokens = (n : List Plain) × (x : List Plain) × SpellsSigned q n × SpellsFormula k a x × (tokens ≡ call (codes "scale") (pair n x))
SpellsFormula k (Min a b) tokens = (x : List Plain) × (y : List Plain) × SpellsFormula k a x × SpellsFormula k b y × (tokens ≡ call (codes "min") (pair x y))
SpellsFormula k (Max a b) tokens = (x : List Plain) × (y : List Plain) × SpellsFormula k a x × SpellsFormula k b y × (tokens ≡ call (codes "max") (pair x y))

-- the first columns of each form
abbrev pub narrow : ℕ → Formula → Formula
narrow n (Lin form) = Lin (take n form)
narrow n (Add a b) = Add (narrow n a) (narrow n b)
narrow n (Sub a b) = Sub (narrow n a) (narrow n b)
narrow n (Scale q a) = Scale q (narrow n a)
narrow n (Min a b) = Min (narrow n a) (narrow n b)
narrow n (Max a b) = Max (narrow n a) (narrow n b)
