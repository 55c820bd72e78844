-- Numbers that stand one after another.
use Rattle.std.proofs.Common.{◌≡◌, ℕ, suc, ◌<◌, List, [], ◌∷◌, length, drop, map, Option, Some, None, refl, sym, ◌∙◌, ap, subst, arith}
use Rattle.std.proofs.lemmas.List.{drop-map}
use Rattle.std.specs.Option.{option_map, option_and_then}
use Rattle.std.proofs.lemmas.Option.{same_Some}
use Rattle.crn_fraction.specs.Rational.{ℚ, 0ℚ, ◌≤ℚ◌}
use Rattle.crn_token.specs.declared.Token.{Token}
use Rattle.crn_token.specs.Plain.{Plain, plain_token}
use Rattle.crn_form_text.specs.Grammar.{IsLongestNumber}
use Rattle.crn_form_text.specs.Reading.{fraction_at}
use Rattle.crn_form_text.proofs.Numbers.{number_found, IsNumberFound}
use Rattle.crn_form_text.proofs.Meanings.{number_nonnegative}
use Rattle.crn_token.proofs.Options.{then_found}
use Rattle.crn_job.specs.Grammar.{numbers_of, alone, number_of}

-- what follows the first number
abbrev numbers_after : ℕ → Option (ℚ × ℕ) → List Plain → Option (List ℚ)
numbers_after n o ts = option_and_then (λ p. option_map (λ qs. p.0 ∷ qs) (numbers_of n (drop p.1 ts))) o

pub numbers_first : (n : ℕ) (bytes : List ℕ) (ts rest : List Token) (q : ℚ) (taken : ℕ) → Some (q, taken) ≡ fraction_at (map (plain_token bytes) ts) → rest ≡ drop taken ts
    → numbers_of (suc n) (map (plain_token bytes) ts) ≡ option_map (λ qs. q ∷ qs) (numbers_of n (map (plain_token bytes) rest))
numbers_first n bytes ts rest q taken first is =
    ap (λ o. numbers_after n o (map (plain_token bytes) ts)) (sym first)
    ∙ ap (λ l. option_map (λ qs. q ∷ qs) (numbers_of n l)) (drop-map (plain_token bytes) taken ts ∙ ap (map (plain_token bytes)) (sym is))

pub numbers_none : (n : ℕ) (bytes : List ℕ) (ts : List Token) → None ≡ fraction_at (map (plain_token bytes) ts) → numbers_of (suc n) (map (plain_token bytes) ts) ≡ None
numbers_none n bytes ts none = ap (λ o. numbers_after n o (map (plain_token bytes) ts)) (sym none)

-- ---- one number
pub number_first : (bytes : List ℕ) (ts rest : List Token) (q : ℚ) (taken : ℕ) → Some (q, taken) ≡ fraction_at (map (plain_token bytes) ts) → rest ≡ drop taken ts
    → number_of (map (plain_token bytes) ts) ≡ alone q (map (plain_token bytes) rest)
number_first bytes ts rest q taken first is =
    ap (option_and_then (λ p. alone p.0 (drop p.1 (map (plain_token bytes) ts)))) (sym first)
    ∙ ap (alone q) (drop-map (plain_token bytes) taken ts ∙ ap (map (plain_token bytes)) (sym is))

pub number_none : (bytes : List ℕ) (ts : List Token) → None ≡ fraction_at (map (plain_token bytes) ts) → number_of (map (plain_token bytes) ts) ≡ None
number_none bytes ts none = ap (option_and_then (λ p. alone p.0 (drop p.1 (map (plain_token bytes) ts)))) (sym none)

pub alone_last : (bytes : List ℕ) (q : ℚ) (rest : List Token) → length rest ≡ 0 → alone q (map (plain_token bytes) rest) ≡ Some q
alone_last bytes q [] none = refl
alone_last bytes q (t ∷ rest) none = absurd (omega arith)

pub alone_more : (bytes : List ℕ) (q : ℚ) (rest : List Token) → 0 < length rest → alone q (map (plain_token bytes) rest) ≡ None
alone_more bytes q [] some = absurd (omega arith)
alone_more bytes q (t ∷ rest) some = refl

-- as a list of numbers it is the one of one number
pub one_is : (ts : List Plain) → option_map (λ q. q ∷ []) (number_of ts) ≡ numbers_of 1 ts
one_is ts = go (fraction_at ts)
  where
    last : (q : ℚ) (us : List Plain) → option_map (λ p. p ∷ []) (alone q us) ≡ option_map (λ qs. q ∷ qs) (numbers_of 0 us)
    last q [] = refl
    last q (u ∷ us) = refl

    go : (o : Option (ℚ × ℕ)) → option_map (λ q. q ∷ []) (option_and_then (λ p. alone p.0 (drop p.1 ts)) o) ≡ option_and_then (λ p. option_map (λ qs. p.0 ∷ qs) (numbers_of 0 (drop p.1 ts))) o
    go None = refl
    go (Some (q, n)) = last q (drop n ts)

-- a number that was found is not negative
pub longest_nonnegative : (ts : List Plain) (q : ℚ) (n : ℕ) → IsLongestNumber ts q n → 0ℚ ≤ℚ q
longest_nonnegative ts q n found = subst (λ p. 0ℚ ≤ℚ p) (sym found.spells.2) (number_nonnegative found.spells.0)

pub found_nonnegative : (ts : List Plain) (q : ℚ) (n : ℕ) → fraction_at ts ≡ Some (q, n) → 0ℚ ≤ℚ q
found_nonnegative ts q n is = longest_nonnegative ts q n (subst (IsNumberFound ts) is (number_found ts))

pub number_of_nonnegative : (ts : List Plain) (q : ℚ) → number_of ts ≡ Some q → 0ℚ ≤ℚ q
number_of_nonnegative ts q is =
    let (p, here, rest) = then_found (λ p. alone p.0 (drop p.1 ts)) (fraction_at ts) q is in
    subst (λ r. 0ℚ ≤ℚ r) (last p.0 (drop p.1 ts) rest) (found_nonnegative ts p.0 p.1 here)
  where
    last : (p : ℚ) (us : List Plain) → alone p us ≡ Some q → p ≡ q
    last p [] e = same_Some p q e
    last p (u ∷ us) e = let wrong : ◌≡◌ {A = Option ℚ} None (Some q) = e in cc
