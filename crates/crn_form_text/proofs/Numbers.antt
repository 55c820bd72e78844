-- The longest number that begins some tokens.
use Rattle.std.proofs.Common.{◌≡◌, ◌⊎◌, ℕ, zero, suc, ◌≤◌, pos, negsuc, false, inl, inr, List, [], ◌∷◌, ◌++◌, length, take, Option, Some, None, refl, sym, ap, ap₂, ◌∙◌, subst, ⊎_elim, arith}
use Rattle.std.specs.Option.{option_map_or}
use Rattle.std.proofs.lemmas.List.{length-take-le}
use Rattle.std.proofs.lemmas.Option.{none-some, same_Some}
use Rattle.crn_token.specs.declared.Sign.TheVariants.{Slash}
use Rattle.crn_token.specs.Plain.{Plain, PlainWord, PlainNumber, PlainSign}
use Rattle.crn_fraction.specs.Rational.{ℚ}
use Rattle.crn_form_text.specs.Grammar.{Numeral, Whole, Over, numeral_tokens, fraction, SpellsNumber, IsLongestNumber, BeginsNoNumber}
use Rattle.crn_form_text.specs.Reading.{denominator_at, fraction_after, fraction_at}

-- a text of a number has one token or three
number_long : (ts : List Plain) (m : ℕ) (r : ℚ) → m ≤ length ts → SpellsNumber r (take m ts) → (m ≡ 1) ⊎ (m ≡ 3)
number_long ts m r within (Whole n, is, value) = inl (sym (length-take-le m ts within) ∙ ap length is)
number_long ts m r within (Over n e, is, value) = inr (sym (length-take-le m ts within) ∙ ap length is)

pub denominator_is : (us : List Plain) (e : ℕ) → denominator_at us ≡ Some e → (vs : List Plain) × (us ≡ PlainSign Slash ∷ PlainNumber (pos (suc e)) ∷ vs)
denominator_is (PlainSign Slash ∷ PlainNumber (pos (suc x)) ∷ vs) e h = (vs, ap (λ d. PlainSign Slash ∷ PlainNumber (pos (suc d)) ∷ vs) (same_Some x e h))
denominator_is us e h = absurd (none-some e h)

denominator_of : (us : List Plain) (e : ℕ) → take 2 us ≡ PlainSign Slash ∷ PlainNumber (pos (suc e)) ∷ [] → denominator_at us ≡ Some e
denominator_of [] e h = absurd (cc h)
denominator_of (a ∷ []) e h = absurd (cc h)
denominator_of (a ∷ b ∷ vs) e h =
    let first : a ≡ PlainSign Slash = cc h in
    let second : b ≡ PlainNumber (pos (suc e)) = cc h in
    rw (first, second) refl

-- what is found
abbrev pub IsNumberFound : List Plain → Option (ℚ × ℕ) → Type 0
IsNumberFound ts None = BeginsNoNumber ts
IsNumberFound ts (Some p) = IsLongestNumber ts p.0 p.1

first_of : (n : Numeral) → (x : ℕ) × (rest : List Plain) × (numeral_tokens n ≡ PlainNumber (pos x) ∷ rest)
first_of (Whole n) = (n, [], refl)
first_of (Over n e) = (n, PlainSign Slash ∷ PlainNumber (pos (suc e)) ∷ [], refl)

-- no number begins with another token
other_first : (t : Plain) (us : List Plain) → ((x : ℕ) → t ≡ PlainNumber (pos x) → ⊥) → BeginsNoNumber (t ∷ us)
other_first t us other zero r within (n, is, value) = let (x, rest, e) = first_of n in let wrong = is ∙ e in cc wrong
other_first t us other (suc m) r within (n, is, value) = let (x, rest, e) = first_of n in other x (let same = is ∙ e in cc same)

whole_longest : (n : ℕ) (us : List Plain) → denominator_at us ≡ None → IsLongestNumber (PlainNumber (pos n) ∷ us) (fraction false (Whole n)) 1
whole_longest n us none = record {
  within = omega arith;
  spells = (Whole n, refl, refl);
  longest = λ m r more within spells.
      ⊎_elim (λ one. absurd (omega arith)) (λ three. no_over r (subst (λ j. SpellsNumber r (take j (PlainNumber (pos n) ∷ us))) three spells) (omega arith)) (number_long (PlainNumber (pos n) ∷ us) m r within spells);
}
  where
    no_over : (r : ℚ) → SpellsNumber r (PlainNumber (pos n) ∷ take 2 us) → 3 ≤ length (PlainNumber (pos n) ∷ us) → ⊥
    no_over r (Whole x, is, value) long = absurd (omega (arith, ap length is, length-take-le 2 us (omega arith)))
    no_over r (Over x e, is, value) long = none-some e (sym none ∙ denominator_of us e (cc is))

over_longest : (n e : ℕ) (vs : List Plain) → IsLongestNumber (PlainNumber (pos n) ∷ PlainSign Slash ∷ PlainNumber (pos (suc e)) ∷ vs) (fraction false (Over n e)) 3
over_longest n e vs = record {
  within = omega arith;
  spells = (Over n e, refl, refl);
  longest = λ m r more within spells.
      ⊎_elim (λ one. absurd (omega arith)) (λ three. absurd (omega arith)) (number_long (PlainNumber (pos n) ∷ PlainSign Slash ∷ PlainNumber (pos (suc e)) ∷ vs) m r within spells);
}

after_found : (n : ℕ) (us : List Plain) → IsNumberFound (PlainNumber (pos n) ∷ us) (Some (fraction_after n us))
after_found n us = go (denominator_at us) refl
  where
    go : (o : Option ℕ) → denominator_at us ≡ o → IsNumberFound (PlainNumber (pos n) ∷ us) (Some (option_map_or (λ e. (fraction false (Over n e), 3)) o (fraction false (Whole n), 1)))
    go None none = whole_longest n us none
    go (Some e) some = let (vs, is) = denominator_is us e some in subst (λ l. IsLongestNumber (PlainNumber (pos n) ∷ l) (fraction false (Over n e)) 3) (sym is) (over_longest n e vs)

nothing_first : BeginsNoNumber []
nothing_first zero r within (n, is, value) = let (x, rest, e) = first_of n in let wrong = is ∙ e in cc wrong
nothing_first (suc m) r within (n, is, value) = let (x, rest, e) = first_of n in let wrong = is ∙ e in cc wrong

pub number_found : (ts : List Plain) → IsNumberFound ts (fraction_at ts)
number_found [] = nothing_first
number_found (PlainWord w ∷ us) = other_first (PlainWord w) us (λ x e. cc e)
number_found (PlainNumber (pos n) ∷ us) = after_found n us
number_found (PlainNumber (negsuc n) ∷ us) = other_first (PlainNumber (negsuc n)) us (λ x e. cc e)
number_found (PlainSign sign ∷ us) = other_first (PlainSign sign) us (λ x e. cc e)

-- a text of a number is found where nothing goes on with it
pub number_here : (q : ℚ) (x y : List Plain) → SpellsNumber q x → denominator_at y ≡ None → fraction_at (x ++ y) ≡ Some (q, length x)
number_here q x y (Whole n, is, value) none =
    ap (λ l. fraction_at (l ++ y)) is
    ∙ ap (λ o. Some (option_map_or (λ e. (fraction false (Over n e), 3)) o (fraction false (Whole n), 1))) none
    ∙ ap₂ (λ r m. Some (r, m)) (sym value) (sym (ap length is))
number_here q x y (Over n e, is, value) none = ap (λ l. fraction_at (l ++ y)) is ∙ ap₂ (λ r m. Some (r, m)) (sym value) (sym (ap length is))

-- a text of a number goes on with nothing before it
pub number_starts : (q : ℚ) (x y : List Plain) → SpellsNumber q x → denominator_at (x ++ y) ≡ None
number_starts q x y (Whole n, is, value) = ap (λ l. denominator_at (l ++ y)) is
number_starts q x y (Over n e, is, value) = ap (λ l. denominator_at (l ++ y)) is

-- what is found is a text of the number
pub number_spelled : (ts : List Plain) (q : ℚ) (m : ℕ) → fraction_at ts ≡ Some (q, m) → (m ≤ length ts) × SpellsNumber q (take m ts)
number_spelled ts q m is = let found : IsLongestNumber ts q m = subst (IsNumberFound ts) is (number_found ts) in (found.within, found.spells)
