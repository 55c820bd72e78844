-- The terms of a form on its copies: their rails, their factors and their value.
use Rattle.std.proofs.Common.{◌≡◌, ◌≢◌, ℕ, suc, Bool, true, false, cond, if◌then◌else◌, not, ◌+◌, ◌<◌, ◌≤◌, List, [], ◌∷◌, ◌++◌, map, length, take, drop, get_or, refl, sym, ◌∙◌, ap, ap₂, ⊎_elim, arith}
use Rattle.std.specs.List.{All, zip}
use Rattle.std.proofs.lemmas.List.Elements.{All-nil, All-cons, All-head, All-tail}
use Rattle.crn_fraction.proofs.Products.{is_zero_ℚ_cases, nonzero_of_is_zero_ℚ, positive_of_nonneg}
use Rattle.crn_fraction.proofs.Ring.{zero-*ℚ, zero-+ℚ}
use Rattle.crn_fraction.specs.Rational.{ℚ, 0ℚ, ◌+ℚ◌, ◌*ℚ◌, ◌≤ℚ◌, ◌<ℚ◌, is_zero_ℚ}
use Rattle.crn_linear.specs.Forms.{at}
use Rattle.crn_gates.specs.Singles.{rails_of_singles, value_of_singles}
use Rattle.crn_gates.specs.Terms.{nonzero}
use Rattle.crn_direct.specs.Layout.{variables_from}

-- the test of a coefficient
pub zero_if : (q : ℚ) → is_zero_ℚ q ≡ true → q ≡ 0ℚ
zero_if q e = ⊎_elim (λ c. c.0) (λ c. absurd (cc (c.1, e))) (is_zero_ℚ_cases q)

-- there is a variable for each nonzero coefficient
pub count_variables : (v : ℕ) (form : List ℚ) → length (variables_from v form) ≡ length (nonzero form)
count_variables v [] = refl
count_variables v (q ∷ qs) = step (is_zero_ℚ q) (count_variables (suc v) qs)
  where
    step : (z : Bool) → length (variables_from (suc v) qs) ≡ length (nonzero qs) →
        length (if z then variables_from (suc v) qs else v ∷ variables_from (suc v) qs) ≡ length (cond (not z) (q ∷ nonzero qs) (nonzero qs))
    step true h = h
    step false h = ap suc h

-- the rails of terms are the first of the copies
pub rails_are : (qs : List ℚ) (copies : List ℕ) → length qs ≤ length copies → rails_of_singles (zip qs copies) ≡ take (length qs) copies
rails_are [] copies l = refl
rails_are (q ∷ qs) [] l = absurd (omega arith)
rails_are (q ∷ qs) (c ∷ copies) l = ap (λ cs. c ∷ cs) (rails_are qs copies (omega arith))

-- nonzero coefficients of a form without negative ones are positive
nonzero_positive : (form : List ℚ) → All (λ c. 0ℚ ≤ℚ c) form → All (λ q. 0ℚ <ℚ q) (nonzero form)
nonzero_positive [] h = All-nil (λ q. 0ℚ <ℚ q)
nonzero_positive (q ∷ qs) h = step (is_zero_ℚ q) (nonzero_of_is_zero_ℚ q) (nonzero_positive qs (All-tail (λ c. 0ℚ ≤ℚ c) q qs h))
  where
    step : (z : Bool) → (z ≡ false → q ≢ 0ℚ) → All (λ q. 0ℚ <ℚ q) (nonzero qs) → All (λ q. 0ℚ <ℚ q) (cond (not z) (q ∷ nonzero qs) (nonzero qs))
    step true other rest = rest
    step false other rest = All-cons (λ q. 0ℚ <ℚ q) q (nonzero qs) (positive_of_nonneg q (All-head (λ c. 0ℚ ≤ℚ c) q qs h) (other refl)) rest

-- so are the factors of their terms
positive_factors : (qs : List ℚ) (copies : List ℕ) → All (λ q. 0ℚ <ℚ q) qs → All (λ t. 0ℚ <ℚ t.0) (zip qs copies)
positive_factors [] copies h = All-nil (λ (t : ℚ × ℕ). 0ℚ <ℚ t.0)
positive_factors (q ∷ qs) [] h = All-nil (λ (t : ℚ × ℕ). 0ℚ <ℚ t.0)
positive_factors (q ∷ qs) (c ∷ copies) h =
    All-cons (λ (t : ℚ × ℕ). 0ℚ <ℚ t.0) (q, c) (zip qs copies) (All-head (λ q. 0ℚ <ℚ q) q qs h) (positive_factors qs copies (All-tail (λ q. 0ℚ <ℚ q) q qs h))

pub positive_terms : (form : List ℚ) (copies : List ℕ) → All (λ c. 0ℚ ≤ℚ c) form → All (λ t. 0ℚ <ℚ t.0) (zip (nonzero form) copies)
positive_terms form copies h = positive_factors (nonzero form) copies (nonzero_positive form h)

-- where the copies have the amounts x of the variables, the terms have the value of the form
pub terms_value : (form : List ℚ) (v : ℕ) (copies us : List ℕ) (m x : ℕ → ℚ) (ys : List ℚ) → map m copies ≡ map x (variables_from v form ++ us) → length form ≤ length ys →
    ((i : ℕ) → i < length ys → x (v + i) ≡ get_or ys i 0ℚ) → value_of_singles (zip (nonzero form) copies) m ≡ at form ys
terms_value [] v copies us m x ys e l h = refl
terms_value (q ∷ qs) v copies us m x [] e l h = absurd (omega arith)
terms_value (q ∷ qs) v copies us m x (y ∷ ys) e l h =
    step (is_zero_ℚ q) (zero_if q) copies e
    (λ cs k. terms_value qs (suc v) cs us m x ys k (omega arith) (λ i j. ap x (next v i) ∙ h (suc i) (omega arith)))
  where
    next : (v i : ℕ) → suc v + i ≡ v + suc i
    next v i = omega arith

    first : x v ≡ y
    first = let here : v ≡ v + 0 = omega arith in ap x here ∙ h 0 (omega arith)

    step : (z : Bool) → (z ≡ true → q ≡ 0ℚ) → (copies : List ℕ) → map m copies ≡ map x ((if z then variables_from (suc v) qs else v ∷ variables_from (suc v) qs) ++ us) →
        ((cs : List ℕ) → map m cs ≡ map x (variables_from (suc v) qs ++ us) → value_of_singles (zip (nonzero qs) cs) m ≡ at qs ys) →
        value_of_singles (zip (cond (not z) (q ∷ nonzero qs) (nonzero qs)) copies) m ≡ q *ℚ y +ℚ at qs ys
    step true is copies e rest = rest copies e ∙ sym (ap (λ p. p *ℚ y +ℚ at qs ys) (is refl) ∙ ap (λ p. p +ℚ at qs ys) (zero-*ℚ y) ∙ zero-+ℚ _)
    step false is [] e rest = absurd (cc)
    step false is (c ∷ copies) e rest =
        let head : m c ≡ x v = cc in
        let tail : map m copies ≡ map x (variables_from (suc v) qs ++ us) = cc in
        ap₂ (λ p r. q *ℚ p +ℚ r) (head ∙ first) (rest copies tail)

-- the copies that are left have the amounts of the variables that are left
pub rest_held : (vs us copies : List ℕ) (m x : ℕ → ℚ) → map m copies ≡ map x (vs ++ us) → map m (drop (length vs) copies) ≡ map x us
rest_held [] us copies m x e = e
rest_held (v ∷ vs) us [] m x e = absurd (cc)
rest_held (v ∷ vs) us (c ∷ copies) m x e = let tail : map m copies ≡ map x (vs ++ us) = cc in rest_held vs us copies m x tail
