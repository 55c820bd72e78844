-- What is read as a fraction.
use Rattle.std.proofs.Common.{zero, suc, negsuc, ap₂, map, List, [], ◌∷◌, Option, Some, None, ◌≡◌, ℕ, ℤ, pos, ◌≤ℤ◌, false, refl, sym, ap, ◌∙◌, arith}
use Rattle.std.specs.Prelude.{unsigned_abs}
use Rattle.std.specs.Option.{option_map, option_map_or}
use Rattle.std.proofs.lemmas.Int.{ints}
use Rattle.crn_fraction.specs.Rational.{ℚ, whole, ◌/ℚ◌}
use Rattle.crn_token.specs.Plain.{Plain, PlainNumber, PlainSign, plain_token}
use Rattle.crn_token.specs.declared.Token.{Token}
use Rattle.crn_token.specs.declared.Token.TheVariants as token
use Rattle.crn_token.specs.declared.Sign.{Sign}
use Rattle.crn_token.specs.declared.Sign.TheVariants.{Slash}
use Rattle.crn_form_text.specs.Grammar.{Whole, Over, fraction}
use Rattle.crn_form_text.specs.Reading.{denominator_at, fraction_after, fraction_at}

-- a number with one below it that was found after it
pub over_found : (o : Option ℕ) (n below a b : ℤ) (q : ℚ) → pos 0 ≤ℤ n → a ≡ n → b ≡ below → Some below ≡ option_map (λ e. pos (suc e)) o → q ≡ whole a /ℚ whole b
    → ◌≡◌ {A = ℚ × ℕ} (q, 3) (option_map_or (λ e. (fraction false (Over (unsigned_abs n) e), 3)) o (fraction false (Whole (unsigned_abs n)), 1))
over_found None n below a b q some e f g h = absurd (cc g)
over_found (Some x) n below a b q some e f g h =
    let abs : pos (unsigned_abs n) ≡ n = omega (arith, ints) in
    let low : pos (suc x) ≡ below = cc g in
    let with_3 : ℚ → ℚ × ℕ = λ p. (p, 3) in
    ap with_3 (h ∙ ap₂ (λ s t. whole s /ℚ whole t) (e ∙ sym abs) (f ∙ sym low))

-- a number with none
pub whole_found : (o : Option ℕ) (n a : ℤ) (q : ℚ) → a ≡ n → None ≡ option_map (λ e. pos (suc e)) o → q ≡ whole (pos (unsigned_abs a))
    → ◌≡◌ {A = ℚ × ℕ} (q, 1) (option_map_or (λ e. (fraction false (Over (unsigned_abs n) e), 3)) o (fraction false (Whole (unsigned_abs n)), 1))
whole_found None n a q e g h =
    let with_1 : ℚ → ℚ × ℕ = λ p. (p, 1) in
    ap with_1 (h ∙ ap (λ m. whole (pos (unsigned_abs m))) e)
whole_found (Some x) n a q e g h = absurd (cc g)

-- a number that begins the tokens
pub number_first : (n : ℤ) (tokens : List Plain) → pos 0 ≤ℤ n → Some (fraction_after (unsigned_abs n) tokens) ≡ fraction_at (PlainNumber n ∷ tokens)
number_first (pos n) tokens some = refl
number_first (negsuc n) tokens some = absurd (omega (arith, ints))

-- the letters of words say nothing in a number
pub denominator_at-bytes : (bytes : List ℕ) (tokens : List Token) → denominator_at (map (plain_token bytes) tokens) ≡ denominator_at (map (plain_token []) tokens)
denominator_at-bytes bytes [] = refl
denominator_at-bytes bytes (token.Word s ∷ tokens) = refl
denominator_at-bytes bytes (token.Number n s ∷ tokens) = refl
denominator_at-bytes bytes (token.Symbol sign s ∷ []) = refl
denominator_at-bytes bytes (token.Symbol sign s ∷ token.Word t ∷ tokens) = below_word sign
  where
    below_word : (sign : Sign) → denominator_at (PlainSign sign ∷ plain_token bytes (token.Word t) ∷ map (plain_token bytes) tokens) ≡ denominator_at (PlainSign sign ∷ plain_token [] (token.Word t) ∷ map (plain_token []) tokens)
    below_word Slash = refl
    below_word _ = refl
denominator_at-bytes bytes (token.Symbol sign s ∷ token.Number n t ∷ tokens) = below_number sign n
  where
    below_number : (sign : Sign) (n : ℤ) → denominator_at (PlainSign sign ∷ PlainNumber n ∷ map (plain_token bytes) tokens) ≡ denominator_at (PlainSign sign ∷ PlainNumber n ∷ map (plain_token []) tokens)
    below_number Slash (pos zero) = refl
    below_number Slash (pos (suc n)) = refl
    below_number Slash (negsuc n) = refl
    below_number _ n = refl
denominator_at-bytes bytes (token.Symbol sign s ∷ token.Symbol r t ∷ tokens) = below_sign sign
  where
    below_sign : (sign : Sign) → denominator_at (PlainSign sign ∷ PlainSign r ∷ map (plain_token bytes) tokens) ≡ denominator_at (PlainSign sign ∷ PlainSign r ∷ map (plain_token []) tokens)
    below_sign Slash = refl
    below_sign _ = refl

pub fraction_at-bytes : (bytes : List ℕ) (tokens : List Token) → fraction_at (map (plain_token bytes) tokens) ≡ fraction_at (map (plain_token []) tokens)
fraction_at-bytes bytes [] = refl
fraction_at-bytes bytes (token.Word s ∷ tokens) = refl
fraction_at-bytes bytes (token.Number (pos n) s ∷ tokens) = ap (λ o. Some (option_map_or (λ e. (fraction false (Over n e), 3)) o (fraction false (Whole n), 1))) (denominator_at-bytes bytes tokens)
fraction_at-bytes bytes (token.Number (negsuc n) s ∷ tokens) = refl
fraction_at-bytes bytes (token.Symbol sign s ∷ tokens) = refl
