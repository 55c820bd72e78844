-- The forms and the formula that the tokens of a line spell, by cases on the tokens, over any number of variables.
use Rattle.std.specs.Prelude.{ℕ, List, Option}
use Rattle.crn_fraction.specs.Rational.{ℚ}
use Rattle.crn_formula.specs.Formulas.{Formula}
use Rattle.crn_token.specs.Plain.{Plain}
use Rattle.crn_form_text.specs.Parsed.{form_from, plain_form_from, formula_from}

abbrev pub form_of : ℕ → List Plain → Option (List ℚ)
form_of k tokens = form_from k tokens

-- without negative coefficients
abbrev pub plain_form_of : ℕ → List Plain → Option (List ℚ)
plain_form_of k tokens = plain_form_from k tokens

abbrev pub formula_of : ℕ → List Plain → Option Formula
formula_of k tokens = formula_from k tokens
