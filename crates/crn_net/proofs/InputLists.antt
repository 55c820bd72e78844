-- Inputs one after another.
use Rattle.std.proofs.Common.{◌≡◌, ℕ, zero, suc, ◌+◌, ◌<◌, List, [], ◌∷◌, ◌++◌, length, get_or, take, refl, sym, ap, subst, arith}
use Rattle.std.proofs.lemmas.List.{take_more}
use Rattle.crn_net.specs.Network.{IsApart, AreDifferent, AreEnds, IsEnds, input_species}
use Rattle.crn_net.specs.declared.Rails.{Rails}
use Rattle.crn_net.specs.declared.Rails.TheVariants.{Dual, Direct}
use Rattle.crn_net.specs.declared.Ends.{Ends}
use Rattle.crn_net.specs.declared.Ends.TheVariants.{Pair, One}
use Rattle.crn_net.specs.Inputs.{species_of, AreNew}
use Rattle.crn_net.specs.Causes.{AreInputs, AreInputsTo}

pub species_push : (es : List Ends) (e : Ends) → input_species (es ++ e ∷ []) ≡ input_species es ++ species_of e
species_push [] (Pair a b) = refl
species_push [] (One a) = refl
species_push (Pair a b ∷ es) e = ap (λ xs. a ∷ b ∷ xs) (species_push es e)
species_push (One a ∷ es) e = ap (λ xs. a ∷ xs) (species_push es e)

pub ends_push : (rails : Rails) (n : ℕ) (es : List Ends) (e : Ends) → AreEnds rails n es → IsEnds rails n e → AreEnds rails n (es ++ e ∷ [])
ends_push rails n [] e h k = (k, tt)
ends_push rails n (d ∷ es) e h k = (h.0, ends_push rails n es e h.1 k)

pub last_end : (rails : Rails) (n : ℕ) (es : List Ends) (e : Ends) → AreEnds rails n (es ++ e ∷ []) → IsEnds rails n e
last_end rails n [] e h = h.0
last_end rails n (d ∷ es) e h = last_end rails n es e h.1

pub apart-append : (x : ℕ) (xs ys : List ℕ) → IsApart x xs → IsApart x ys → IsApart x (xs ++ ys)
apart-append x [] ys h k = k
apart-append x (z ∷ xs) ys h k = (h.0, apart-append x xs ys h.1 k)

pub apart_left : (x : ℕ) (xs ys : List ℕ) → IsApart x (xs ++ ys) → IsApart x xs
apart_left x [] ys h = tt
apart_left x (z ∷ xs) ys h = (h.0, apart_left x xs ys h.1)

pub apart_right : (x : ℕ) (xs ys : List ℕ) → IsApart x (xs ++ ys) → IsApart x ys
apart_right x [] ys h = h
apart_right x (z ∷ xs) ys h = apart_right x xs ys h.1

-- new to x ∷ xs: apart from x too
new_tail : (x : ℕ) (xs ys : List ℕ) → AreNew ys (x ∷ xs) → AreNew ys xs
new_tail x xs [] h = tt
new_tail x xs (y ∷ ys) h = (h.0.1, new_tail x xs ys h.1)

new_head : (x : ℕ) (xs ys : List ℕ) → AreNew ys (x ∷ xs) → IsApart x ys
new_head x xs [] h = tt
new_head x xs (y ∷ ys) h = ((λ e. h.0.0 (sym e)), new_head x xs ys h.1)

new_cons : (x : ℕ) (xs ys : List ℕ) → IsApart x ys → AreNew ys xs → AreNew ys (x ∷ xs)
new_cons x xs [] h k = tt
new_cons x xs (y ∷ ys) h k = (((λ e. h.0 (sym e)), k.0), new_cons x xs ys h.1 k.1)

new_none : (ys : List ℕ) → AreNew ys []
new_none [] = tt
new_none (y ∷ ys) = (tt, new_none ys)

pub different-append : (xs ys : List ℕ) → AreDifferent xs → AreDifferent ys → AreNew ys xs → AreDifferent (xs ++ ys)
different-append [] ys h k new = k
different-append (x ∷ xs) ys h k new = (apart-append x xs ys h.0 (new_head x xs ys new), different-append xs ys h.1 k (new_tail x xs ys new))

pub new_of_different : (xs ys : List ℕ) → AreDifferent (xs ++ ys) → AreNew ys xs
new_of_different [] ys h = new_none ys
new_of_different (x ∷ xs) ys h = new_cons x xs ys (apart_right x xs ys h.0) (new_of_different xs ys h.1)

-- the species of one end differ
pub end_different : (rails : Rails) (n : ℕ) (e : Ends) → IsEnds rails n e → AreDifferent (species_of e)
end_different Dual n (Pair a b) h = ((h.4, tt), (tt, tt))
end_different Dual n (One a) h = absurd h
end_different Direct n (Pair a b) h = absurd h
end_different Direct n (One a) h = (tt, tt)

pub new_more : (es : List Ends) (i x : ℕ) (d : Ends) → i < length es → IsApart x (input_species (take i es)) → IsApart x (species_of (get_or es i d)) → IsApart x (input_species (take (i + 1) es))
new_more es i x d l h k =
    subst (λ (fs : List Ends). IsApart x (input_species fs)) (sym (take_more es i d l))
    (subst (IsApart x) (sym (species_push (take i es) (get_or es i d))) (apart-append x (input_species (take i es)) (species_of (get_or es i d)) h k))

pub apart_at : (es : List Ends) (i x : ℕ) (d : Ends) → i < length es → IsApart x (input_species es) → IsApart x (species_of (get_or es i d))
apart_at [] i x d l h = absurd (omega arith)
apart_at (Pair a b ∷ es) zero x d l h = (h.0, (h.1.0, tt))
apart_at (One a ∷ es) zero x d l h = (h.0, tt)
apart_at (Pair a b ∷ es) (suc i) x d l h = apart_at es i x d (omega arith) h.1.1
apart_at (One a ∷ es) (suc i) x d l h = apart_at es i x d (omega arith) h.1

-- ---- one input more

abbrev pub IsNewInput : Rails → ℕ → List Ends → Ends → Type 0
IsNewInput rails n earlier e = IsEnds rails n e × AreNew (species_of e) (input_species earlier)

inputs_push : (rails : Rails) (n : ℕ) (es : List Ends) (e : Ends) → AreInputs rails n es → IsNewInput rails n es e → AreInputs rails n (es ++ e ∷ [])
inputs_push rails n es e h k = (
  ends_push rails n es e h.0 k.0,
  subst AreDifferent (sym (species_push es e)) (different-append (input_species es) (species_of e) h.1 (end_different rails n e k.0) k.1),
)

last_is_new : (rails : Rails) (n : ℕ) (es : List Ends) (e : Ends) → AreInputs rails n (es ++ e ∷ []) → IsNewInput rails n es e
last_is_new rails n es e h =
    (last_end rails n es e h.0, new_of_different (input_species es) (species_of e) (subst AreDifferent (species_push es e) h.1))

pub inputs_more : (rails : Rails) (n : ℕ) (es : List Ends) (i : ℕ) (d : Ends) → i < length es → AreInputsTo rails n es i → IsNewInput rails n (take i es) (get_or es i d) → AreInputsTo rails n es (i + 1)
inputs_more rails n es i d l h k = subst (AreInputs rails n) (sym (take_more es i d l)) (inputs_push rails n (take i es) (get_or es i d) h k)

pub input_is_new : (rails : Rails) (n : ℕ) (es : List Ends) (i : ℕ) (d : Ends) → i < length es → AreInputsTo rails n es (i + 1) → IsNewInput rails n (take i es) (get_or es i d)
input_is_new rails n es i d l h = last_is_new rails n (take i es) (get_or es i d) (subst (AreInputs rails n) (take_more es i d l) h)

-- ---- the first of inputs

ends_take : (rails : Rails) (n : ℕ) (es : List Ends) (i : ℕ) → AreEnds rails n es → AreEnds rails n (take i es)
ends_take rails n [] zero h = tt
ends_take rails n [] (suc i) h = tt
ends_take rails n (e ∷ es) zero h = tt
ends_take rails n (e ∷ es) (suc i) h = (h.0, ends_take rails n es i h.1)

apart_take : (x : ℕ) (es : List Ends) (i : ℕ) → IsApart x (input_species es) → IsApart x (input_species (take i es))
apart_take x [] zero h = tt
apart_take x [] (suc i) h = tt
apart_take x (e ∷ es) zero h = tt
apart_take x (Pair a b ∷ es) (suc i) h = (h.0, (h.1.0, apart_take x es i h.1.1))
apart_take x (One a ∷ es) (suc i) h = (h.0, apart_take x es i h.1)

different_take : (es : List Ends) (i : ℕ) → AreDifferent (input_species es) → AreDifferent (input_species (take i es))
different_take [] zero h = tt
different_take [] (suc i) h = tt
different_take (e ∷ es) zero h = tt
different_take (Pair a b ∷ es) (suc i) h = ((h.0.0, apart_take a es i h.0.1), (apart_take b es i h.1.0, different_take es i h.1.1))
different_take (One a ∷ es) (suc i) h = (apart_take a es i h.0, different_take es i h.1)

pub inputs_take : (rails : Rails) (n : ℕ) (es : List Ends) (i : ℕ) → AreInputs rails n es → AreInputsTo rails n es i
inputs_take rails n es i h = (ends_take rails n es i h.0, different_take es i h.1)
