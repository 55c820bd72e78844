-- What is printed of a number, digit by digit.
use Rattle.std.proofs.Common.{◌≡◌, ℕ, ◌+◌, ◌^◌, ◌<◌, ◌≤◌, ◌/◌, ◌%◌, List, [], ◌∷◌, ◌++◌, decimal, sym, ap, ◌∙◌, append_assoc}
use Rattle.std.proofs.lemmas.Fmt.{decimal_step, decimal_digit}

-- a number of one digit
pub prints_digit : (n : ℕ) (old new : List ℕ) → n < 10 → new ≡ old ++ ((48 + n) ∷ []) → new ≡ old ++ decimal n
prints_digit n old new small e = e ∙ ap (λ ds. old ++ ds) (sym (decimal_digit n small))

-- and one of more, after those before its last
pub prints_digits : (n : ℕ) (old front new : List ℕ) → 10 ≤ n → n < 2 ^ 64 → front ≡ old ++ decimal (n / 10) → new ≡ front ++ ((48 + n % 10) ∷ []) → new ≡ old ++ decimal n
prints_digits n old front new large fits before e =
    e
    ∙ ap (λ ds. ds ++ ((48 + n % 10) ∷ [])) before
    ∙ append_assoc old (decimal (n / 10)) ((48 + n % 10) ∷ [])
    ∙ ap (λ ds. old ++ ds) (sym (decimal_step n large fits))
