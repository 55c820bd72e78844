-- The forms and the formula that the tokens of a line spell.
use Rattle.std.proofs.Common.{◌≡◌, ◌≢◌, ℕ, suc, ◌+◌, ◌-◌, ◌<◌, ◌≤◌, false, List, [], ◌∷◌, length, take, Option, Some, None, refl, sym, ◌∙◌, ap, subst, arith, lt-ltb, take_all}
use Rattle.std.specs.Prelude.{All, pos, codes, slice_range}
use Rattle.crn_fraction.specs.Rational.{ℚ, 0ℚ, ◌≤ℚ◌}
use Rattle.crn_formula.specs.Formulas.{Formula, Lin, Add, Sub, Scale, Min, Max, IsOver}
use Rattle.crn_token.specs.Plain.{Plain, PlainWord, PlainNumber}
use Rattle.crn_token.specs.Words.{rest_of}
use Rattle.crn_form_text.specs.Grammar.{Signed, Variable, SpellsPlain, IsLongestPlain, BeginsNoPlain, SpellsFormula}
use Rattle.crn_form_text.specs.Parsed.{with_sign, form_of_terms, form_from, plain_form_from, formula_from}
use Rattle.crn_form_text.proofs.Meanings.{plain_long, plain_nonnegative}
use Rattle.crn_form_text.proofs.ParsedLaws.{form_from_is, plain_form_from_is, is_plain_form_from}
use Rattle.crn_function_text.specs.Spelled.{form_of, plain_form_of, formula_of}

pub spelled_over : (k : ℕ) (e : Formula) (ts : List Plain) → SpellsFormula k e ts → IsOver (k + 1) e
spelled_over k (Lin form) ts (terms, are, is) = are.long
spelled_over k (Add a b) ts (x, y, sa, sb, is) = (spelled_over k a x sa, spelled_over k b y sb)
spelled_over k (Sub a b) ts (x, y, sa, sb, is) = (spelled_over k a x sa, spelled_over k b y sb)
spelled_over k (Scale q a) ts (n, x, sn, sa, is) = spelled_over k a x sa
spelled_over k (Min a b) ts (x, y, sa, sb, is) = (spelled_over k a x sa, spelled_over k b y sb)
spelled_over k (Max a b) ts (x, y, sa, sb, is) = (spelled_over k a x sa, spelled_over k b y sb)

pub form_long : (k : ℕ) (f : List ℚ) (ts : List Plain) → form_of k ts ≡ Some f → length f ≡ k + 1
form_long k f ts is = let (terms, are, tokens) = form_from_is k f ts is in are.long

pub plain_form_long : (k : ℕ) (f : List ℚ) (ts : List Plain) → plain_form_of k ts ≡ Some f → length f ≡ k
plain_form_long k f ts is = plain_long k f ts (plain_form_from_is k f ts is)

pub plain_form_nonnegative : (k : ℕ) (f : List ℚ) (ts : List Plain) → plain_form_of k ts ≡ Some f → All (λ c. 0ℚ ≤ℚ c) f
plain_form_nonnegative k f ts is = plain_nonnegative k f ts (plain_form_from_is k f ts is)

-- ---- the longest form without negative coefficients, from the second token of a line on

to_the_end : (ts : List Plain) → 0 < length ts → slice_range ts 1 (length ts) ≡ rest_of ts
to_the_end [] some = absurd (omega (arith, some))
to_the_end (t ∷ ts) some = let long : suc (length ts) - 1 ≡ length ts = omega arith in ap (λ n. take n ts) long ∙ take_all (length ts) ts (omega arith)

-- it is what the tokens after the first spell where it ends with them
pub longest_all : (k : ℕ) (ts us : List Plain) (form : List ℚ) (next : ℕ) → 0 < length ts → us ≡ rest_of ts → IsLongestPlain k ts 1 form next → next ≡ length ts → Some form ≡ plain_form_of k us
longest_all k ts us form next some us_is longest all =
    sym (is_plain_form_from k form us (subst (SpellsPlain k form) (ap (slice_range ts 1) all ∙ to_the_end ts some ∙ sym us_is) longest.spells))

no_form : (k : ℕ) (us : List Plain) → ((f : List ℚ) → SpellsPlain k f us → ⊥) → None ≡ plain_form_of k us
no_form k us never = go (plain_form_from k us) refl
  where
    go : (o : Option (List ℚ)) → plain_form_from k us ≡ o → None ≡ plain_form_from k us
    go None found = sym found
    go (Some f) found = absurd (never f (plain_form_from_is k f us found))

-- they spell none where it ends before, or where there is none
pub longest_less : (k : ℕ) (ts us : List Plain) (form : List ℚ) (next : ℕ) → 0 < length ts → us ≡ rest_of ts → IsLongestPlain k ts 1 form next → next ≢ length ts → None ≡ plain_form_of k us
longest_less k ts us form next some us_is longest less =
    no_form k us (λ f spells. longest.longest (length ts) f (omega (arith, longest.within, less)) (omega arith) (subst (SpellsPlain k f) (us_is ∙ sym (to_the_end ts some)) spells))

pub longest_none : (k : ℕ) (ts us : List Plain) → 0 < length ts → us ≡ rest_of ts → BeginsNoPlain k ts 1 → None ≡ plain_form_of k us
longest_none k ts us some us_is none = no_form k us (λ f spells. none (length ts) f (omega arith) (subst (SpellsPlain k f) (us_is ∙ sym (to_the_end ts some)) spells))

-- ---- some tokens spell a form
-- the first variable
abbrev x1 : List Plain
x1 = PlainWord (codes "x") ∷ PlainNumber (pos 1) ∷ []

abbrev x1_terms : List Signed
x1_terms = with_sign false (Variable 0) ∷ []

pub some_form : (k : ℕ) → 1 ≤ k → (ts : List Plain) × (f : List ℚ) × (form_of k ts ≡ Some f)
unfolding form_from
some_form k some = (x1, form_of_terms k x1_terms, rw (lt-ltb 0 k some) refl)

pub some_plain_form : (k : ℕ) → 1 ≤ k → (ts : List Plain) × (f : List ℚ) × (plain_form_of k ts ≡ Some f)
unfolding plain_form_from
some_plain_form k some = (x1, take k (form_of_terms k x1_terms), rw (lt-ltb 0 k some) refl)

pub some_formula : (k : ℕ) → 1 ≤ k → (ts : List Plain) × (e : Formula) × (formula_of k ts ≡ Some e)
unfolding formula_from
some_formula k some = (x1, Lin (form_of_terms k x1_terms), rw (lt-ltb 0 k some) refl)
