-- The numbers that small tokens spell are fractions that fit.
use Rattle.std.proofs.Common.{◌≡◌, ℕ, zero, suc, ◌<◌, ◌≤◌, ◌==◌, ◌^◌, Bool, true, false, cond, pos, ⊎_elim, List, [], ◌∷◌, ◌++◌, length, take, replicate, refl, sym, ap, ◌∙◌, subst, arith, lit<}
use Rattle.std.specs.Prelude.{unsigned_abs, codes}
use Rattle.crn_token.specs.declared.Sign.TheVariants.{RightParen, Comma}
use Rattle.crn_token.specs.Plain.{Plain, PlainSign}
use Rattle.crn_token.specs.Small.{AreSmall}
use Rattle.crn_token.proofs.SmallNumbers.{small_front, small_back}
use Rattle.crn_fraction.specs.Rational.{ℚ, 0ℚ}
use Rattle.crn_fraction.specs.Frac.{IsFrac}
use Rattle.crn_linear.specs.Forms.{entry_of}
use Rattle.crn_formula.specs.Formulas.{Formula, Lin, Add, Sub, Scale, Min, Max, formula_has_constant}
use Rattle.crn_form_text.specs.Grammar.{Numeral, Whole, Over, numeral_tokens, signed, fraction, minus_before, SpellsSigned, Term, Variable, Multiple, Constant, Signed, name_tokens, term_tokens, sign_before, more_tokens, form_tokens, column_of, coefficient_of, entry_in, AreTermsOf, SpellsForm, SpellsPlain, SpellsFormula, call, pair, narrow}
use Rattle.crn_form_text.specs.Built.{fitted}
use Rattle.crn_form_text.specs.Printing.{AreFracs, AreFracsOf, FitsText}
use Rattle.crn_fraction.proofs.Fitting.{IsFrac-over, IsFrac-whole}

-- ---- numbers

signed_size : (negative : Bool) (n : ℕ) → unsigned_abs (signed negative n) ≡ n
signed_size false n = refl
signed_size true zero = refl
signed_size true (suc n) = refl

pub IsFrac-zero : IsFrac 0ℚ
IsFrac-zero = IsFrac-whole (pos 0) (lit< tt)

signed_fits : (negative : Bool) (n : ℕ) → n < 2 ^ 63 → unsigned_abs (signed negative n) < 2 ^ 63
signed_fits negative n small = subst (λ m. m < 2 ^ 63) (sym (signed_size negative n)) small

numeral_fits : (negative : Bool) (n : Numeral) → AreSmall (numeral_tokens n) → IsFrac (fraction negative n)
numeral_fits negative (Whole n) small = IsFrac-whole (signed negative n) (signed_fits negative n small.0)
numeral_fits negative (Over n e) small = IsFrac-over (signed negative n) (suc e) (signed_fits negative n small.0) small.1.1.0 (omega arith)

signed_number_fits : (q : ℚ) (ts : List Plain) → SpellsSigned q ts → AreSmall ts → IsFrac q
signed_number_fits q ts (negative, n, is, value) small =
    subst IsFrac (sym value) (numeral_fits negative n (small_back (minus_before negative) (numeral_tokens n) (subst AreSmall is small)))

-- ---- forms

term_fits : (negative : Bool) (t : Term) → AreSmall (term_tokens t) → IsFrac (coefficient_of negative t)
term_fits negative (Variable column) small = IsFrac-whole (signed negative 1) (signed_fits negative 1 (lit< tt))
term_fits negative (Multiple n column) small = numeral_fits negative n (small_front (numeral_tokens n) (name_tokens column) small)
term_fits negative (Constant n) small = numeral_fits negative n small

either_fits : (b : Bool) (x y : ℚ) → IsFrac x → IsFrac y → IsFrac (cond b x y)
either_fits true x y first second = first
either_fits false x y first second = second

more_fit : (k : ℕ) (terms : List Signed) (column : ℕ) → AreSmall (more_tokens terms) → IsFrac (entry_in k terms column)
more_fit k [] column small = IsFrac-zero
more_fit k (t ∷ terms) column small =
    let before = sign_before t.negative ++ term_tokens t.term in
    either_fits (column_of k t.term == column) _ _ (term_fits t.negative t.term (small_back (sign_before t.negative) (term_tokens t.term) (small_front before (more_tokens terms) small)))
    (more_fit k terms column (small_back before (more_tokens terms) small))

terms_fit : (k : ℕ) (terms : List Signed) (column : ℕ) → AreSmall (form_tokens terms) → IsFrac (entry_in k terms column)
terms_fit k [] column small = IsFrac-zero
terms_fit k (t ∷ terms) column small =
    let before = minus_before t.negative ++ term_tokens t.term in
    either_fits (column_of k t.term == column) _ _ (term_fits t.negative t.term (small_back (minus_before t.negative) (term_tokens t.term) (small_front before (more_tokens terms) small)))
    (more_fit k terms column (small_back before (more_tokens terms) small))

-- entries that fit
fracs_of : (n : ℕ) (form : List ℚ) → ((i : ℕ) → i < n → IsFrac (entry_of form i)) → AreFracs (take n form)
fracs_of zero form each = tt
fracs_of (suc n) [] each = tt
fracs_of (suc n) (q ∷ qs) each = (each 0 (omega arith), fracs_of n qs (λ i low. each (suc i) (omega (arith, low))))

form_fits : (k : ℕ) (form : List ℚ) (terms : List Signed) → AreTermsOf k form terms → AreSmall (form_tokens terms) → AreFracsOf k form
form_fits k form terms are small =
    let each : (i : ℕ) → i ≤ k → IsFrac (entry_of form i) = λ i low. subst IsFrac (sym (are.entries i low)) (terms_fit k terms i small) in
    (fracs_of k form (λ i low. each i (omega (arith, low))), each k (omega arith))

pub form_spelled_fits : (k : ℕ) (form : List ℚ) (ts : List Plain) → SpellsForm k form ts → AreSmall ts → AreFracsOf k form
form_spelled_fits k form ts (terms, are, is) small = form_fits k form terms are (subst AreSmall is small)

-- the first k columns, and nothing in the column after them
take_twice : (k : ℕ) (form : List ℚ) → take k (take k form) ≡ take k form
take_twice zero form = refl
take_twice (suc k) [] = refl
take_twice (suc k) (q ∷ qs) = ap (λ l. q ∷ l) (take_twice k qs)

past_end : (k : ℕ) (form : List ℚ) → entry_of (take k form) k ≡ 0ℚ
past_end zero form = refl
past_end (suc k) [] = refl
past_end (suc k) (q ∷ qs) = past_end k qs

pub narrow_fits_form : (k : ℕ) (form : List ℚ) → AreFracs (take k form) → AreFracsOf k (take k form)
narrow_fits_form k form fracs = (subst AreFracs (sym (take_twice k form)) fracs, subst IsFrac (sym (past_end k form)) IsFrac-zero)

zeros_fit : (n : ℕ) → AreFracs (replicate n 0ℚ)
zeros_fit zero = tt
zeros_fit (suc n) = (IsFrac-zero, zeros_fit n)

zeros_taken : (n : ℕ) → take n (replicate n 0ℚ) ≡ replicate n 0ℚ
zeros_taken zero = refl
zeros_taken (suc n) = ap (λ l. 0ℚ ∷ l) (zeros_taken n)

pub plain_spelled_fits : (k : ℕ) (form : List ℚ) (ts : List Plain) → SpellsPlain k form ts → AreSmall ts → AreFracsOf k form
plain_spelled_fits k form ts spelled small =
    ⊎_elim
    (λ zero. let fracs = narrow_fits_form k (replicate k 0ℚ) (subst AreFracs (sym (zeros_taken k)) (zeros_fit k)) in subst (AreFracsOf k) (zeros_taken k ∙ sym zero.1) fracs)
    (λ (affine, terms, are, plain, is, form_is). subst (AreFracsOf k) (sym form_is) (narrow_fits_form k affine (form_fits k affine terms are (subst AreSmall is small)).0))
    spelled

-- ---- formulas

-- the operands of a call
operand_small : (word : List ℕ) (ts : List Plain) → AreSmall (call word ts) → AreSmall ts
operand_small word ts small = small_front ts (PlainSign RightParen ∷ []) small.1.1

first_small : (x y : List Plain) → AreSmall (pair x y) → AreSmall x
first_small x y small = small_front x (PlainSign Comma ∷ []) (small_front (x ++ PlainSign Comma ∷ []) y small)

second_small : (x y : List Plain) → AreSmall (pair x y) → AreSmall y
second_small x y small = small_back (x ++ PlainSign Comma ∷ []) y small

short : (k : ℕ) (form : List ℚ) → length (take k form) ≤ k
short zero form = omega arith
short (suc k) [] = omega arith
short (suc k) (q ∷ qs) = let less = short k qs in omega (arith, less)

both_fit : (k : ℕ) (word : List ℕ) (a b : Formula) (x y ts : List Plain) → (AreSmall x → FitsText k a) → (AreSmall y → FitsText k b) → ts ≡ call word (pair x y) → AreSmall ts → FitsText k a × FitsText k b
both_fit k word a b x y ts first second is small =
    let inner = operand_small word (pair x y) (subst AreSmall is small) in
    (first (first_small x y inner), second (second_small x y inner))

pub formula_spelled_fits : (k : ℕ) (e : Formula) (ts : List Plain) → k ≤ 8 → SpellsFormula k e ts → AreSmall ts → FitsText k e
formula_spelled_fits k (Lin form) ts few spelled small = let fits = form_spelled_fits k form ts spelled small in (omega (arith, few, short k form), fits.0, fits.1)
formula_spelled_fits k (Add a b) ts few (x, y, p, q, is) small = both_fit k (codes "add") a b x y ts (formula_spelled_fits k a x few p) (formula_spelled_fits k b y few q) is small
formula_spelled_fits k (Sub a b) ts few (x, y, p, q, is) small = both_fit k (codes "sub") a b x y ts (formula_spelled_fits k a x few p) (formula_spelled_fits k b y few q) is small
formula_spelled_fits k (Scale q a) ts few (n, x, number, p, is) small =
    let inner = operand_small (codes "scale") (pair n x) (subst AreSmall is small) in
    (signed_number_fits q n number (first_small n x inner), formula_spelled_fits k a x few p (second_small n x inner))
formula_spelled_fits k (Min a b) ts few (x, y, p, q, is) small = both_fit k (codes "min") a b x y ts (formula_spelled_fits k a x few p) (formula_spelled_fits k b y few q) is small
formula_spelled_fits k (Max a b) ts few (x, y, p, q, is) small = both_fit k (codes "max") a b x y ts (formula_spelled_fits k a x few p) (formula_spelled_fits k b y few q) is small

narrow_fits_text : (k : ℕ) (e : Formula) → FitsText k e → FitsText k (narrow k e)
narrow_fits_text k (Lin form) fits =
    let narrowed = narrow_fits_form k form fits.1 in
    (subst (λ f. length f ≤ 8) (sym (take_twice k form)) fits.0, narrowed.0, narrowed.1)
narrow_fits_text k (Add a b) fits = (narrow_fits_text k a fits.0, narrow_fits_text k b fits.1)
narrow_fits_text k (Sub a b) fits = (narrow_fits_text k a fits.0, narrow_fits_text k b fits.1)
narrow_fits_text k (Scale q a) fits = (fits.0, narrow_fits_text k a fits.1)
narrow_fits_text k (Min a b) fits = (narrow_fits_text k a fits.0, narrow_fits_text k b fits.1)
narrow_fits_text k (Max a b) fits = (narrow_fits_text k a fits.0, narrow_fits_text k b fits.1)

pub fitted_fits : (k : ℕ) (e : Formula) → FitsText k e → FitsText k (fitted k e)
fitted_fits k e fits = go (formula_has_constant k e)
  where
    go : (b : Bool) → FitsText k (cond b e (narrow k e))
    go true = fits
    go false = narrow_fits_text k e fits
