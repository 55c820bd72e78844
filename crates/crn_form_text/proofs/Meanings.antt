-- Forms that are spelled without `-` and constants have no negative coefficient.
use Rattle.std.proofs.Common.{◌≡◌, ℕ, suc, ◌<◌, eqb, Bool, false, pos, List, [], ◌∷◌, length, get_or, refl, sym, ap, ◌∙◌, subst, ⊎_elim, arith}
use Rattle.std.specs.Prelude.{All}
use Rattle.std.proofs.lemmas.Int.{ints}
use Rattle.std.proofs.lemmas.Bool.{cases_Bool}
use Rattle.std.proofs.lemmas.List.{length-take-le, length-replicate, get_or-take, get_or_default, get_or-replicate}
use Rattle.crn_token.specs.Plain.{Plain}
use Rattle.crn_fraction.specs.Rational.{ℚ, 0ℚ, ◌≤ℚ◌}
use Rattle.crn_fraction.proofs.Order.{≤ℚ_refl}
use Rattle.crn_fraction.proofs.Products.{nonneg_ratio}
use Rattle.crn_fraction.proofs.Values.{quotient_positive}
use Rattle.crn_form_text.specs.Grammar.{Numeral, Whole, Over, fraction, Term, Variable, Multiple, Constant, Signed, column_of, coefficient_of, IsPlainTerm, ArePlain, entry_in, SpellsPlain}

-- ---- forms without negative coefficients
pub plain_long : (k : ℕ) (form : List ℚ) (ts : List Plain) → SpellsPlain k form ts → length form ≡ k
plain_long k form ts spells =
    ⊎_elim (λ zeros. ap length zeros.1 ∙ length-replicate k 0ℚ) (λ (affine, terms, are, plain, is, form_is). ap length form_is ∙ length-take-le k affine (omega (arith, are.long))) spells

pub number_nonnegative : (n : Numeral) → 0ℚ ≤ℚ fraction false n
number_nonnegative (Whole n) = (nonneg_ratio (pos n) 1 (omega arith)).1 (omega (arith, ints))
number_nonnegative (Over n x) =
    subst (λ q. 0ℚ ≤ℚ q) (quotient_positive (pos n) (pos (suc x)) (pos n) (suc x) (omega (arith, ints)) refl refl) ((nonneg_ratio (pos n) (suc x) (omega arith)).1 (omega (arith, ints)))

term_nonnegative : (negative : Bool) (t : Term) → negative ≡ false → IsPlainTerm t → 0ℚ ≤ℚ coefficient_of negative t
term_nonnegative negative (Variable column) positive plain = subst (λ b. 0ℚ ≤ℚ coefficient_of b (Variable column)) (sym positive) (number_nonnegative (Whole 1))
term_nonnegative negative (Multiple n column) positive plain = subst (λ b. 0ℚ ≤ℚ coefficient_of b (Multiple n column)) (sym positive) (number_nonnegative n)
term_nonnegative negative (Constant n) positive plain = absurd plain

pub entry_nonnegative : (k : ℕ) (terms : List Signed) (column : ℕ) → ArePlain terms → 0ℚ ≤ℚ entry_in k terms column
entry_nonnegative k [] column plain = ≤ℚ_refl 0ℚ
entry_nonnegative k (t ∷ terms) column (positive, plain_t, plain) =
    ⊎_elim (λ same. rw same (term_nonnegative t.negative t.term positive plain_t)) (λ other. rw other (entry_nonnegative k terms column plain)) (cases_Bool (eqb (column_of k t.term) column))

pub plain_nonnegative : (k : ℕ) (form : List ℚ) (ts : List Plain) → SpellsPlain k form ts → All (λ c. 0ℚ ≤ℚ c) form
plain_nonnegative k form ts spells i d within =
    let short : i < k = omega (arith, plain_long k form ts spells) in
    ⊎_elim
    (λ zeros. subst (λ q. 0ℚ ≤ℚ q) (sym (ap (λ l. get_or l i d) zeros.1 ∙ get_or-replicate k i 0ℚ d short)) (≤ℚ_refl 0ℚ))
    (λ (affine, terms, are, plain, is, form_is).
    let at : get_or form i d ≡ entry_in k terms i =
    ap (λ l. get_or l i d) form_is ∙ get_or-take k affine i d short ∙ get_or_default affine i d 0ℚ (omega (arith, are.long)) ∙ are.entries i (omega arith) in
    subst (λ q. 0ℚ ≤ℚ q) (sym at) (entry_nonnegative k terms i plain))
    spells
