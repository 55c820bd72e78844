-- What lists of species and amounts give, and the start that the inputs' lists make, input by input.
use Rattle.std.proofs.Common.{◌≡◌, ◌≢◌, ◌==◌, ℕ, zero, suc, ◌+◌, ◌<◌, ◌≤◌, if◌then◌else◌, List, [], ◌∷◌, ◌++◌, length, take, drop, get_or, refl, sym, ap, ◌∙◌, subst, inl, inr, ◌⊎◌, ⊎_elim, arith}
use Rattle.std.proofs.lemmas.List.{take_more, ext_get_or}
use Rattle.std.proofs.lemmas.List.FromFn.{length-map-range_with_len}
use Rattle.std.proofs.lemmas.Bool.{cases_eq}
use Rattle.crn_fraction.specs.Rational.{ℚ, 0ℚ}
use Rattle.crn_net.proofs.InputLists.{species_push, inputs_take, input_is_new}
use Rattle.crn_net.proofs.Start.{pick_yes, pick_no, start_amount}
use Rattle.crn_net.specs.Inputs.{species_of, AreNew}
use Rattle.crn_net.specs.Network.{Network, IsNetwork, IsEnds, IsApart, AreNotNegative, amount, given_to, input_species, start}
use Rattle.crn_net.specs.declared.Ends.{Ends}
use Rattle.crn_net.specs.declared.Ends.TheVariants.{Pair, One}

-- ---- what lists of species and amounts give

-- a species is not among them, or it is
pub apart_or_in : (s : ℕ) (is : List ℕ) → IsApart s is ⊎ (IsApart s is → ⊥)
apart_or_in s [] = inl tt
apart_or_in s (i ∷ is) =
    ⊎_elim (λ (e : s ≡ i). inr (λ h. h.0 e))
    (λ (n : s ≢ i). ⊎_elim (λ (a : IsApart s is). inl (n, a)) (λ (b : IsApart s is → ⊥). inr (λ h. b h.1)) (apart_or_in s is))
    (cases_eq s i)

-- nothing is given to a species that is not among them
pub given_nothing : (is : List ℕ) (xs : List ℚ) (s : ℕ) → IsApart s is → given_to is xs s ≡ 0ℚ
given_nothing [] xs s h = refl
given_nothing (i ∷ is) [] s h = refl
given_nothing (i ∷ is) (x ∷ xs) s h = pick_no i s x _ (λ e. h.0 (sym e)) ∙ given_nothing is xs s h.1

given_no_amounts : (is : List ℕ) (s : ℕ) → given_to is [] s ≡ 0ℚ
given_no_amounts [] s = refl
given_no_amounts (i ∷ is) s = refl

-- a species that is not among the first gets what the amounts after theirs give
pub given_after : (is js : List ℕ) (xs : List ℚ) (s : ℕ) → IsApart s is → given_to (is ++ js) xs s ≡ given_to js (drop (length is) xs) s
given_after [] js xs s h = refl
given_after (i ∷ is) js [] s h = sym (given_no_amounts js s)
given_after (i ∷ is) js (x ∷ xs) s h = pick_no i s x _ (λ e. h.0 (sym e)) ∙ given_after is js xs s h.1

-- one that is among the first gets what is given to it there
pub given_before : (is js : List ℕ) (xs : List ℚ) (s : ℕ) → (IsApart s is → ⊥) → length is ≤ length xs → given_to (is ++ js) xs s ≡ given_to is xs s
given_before [] js xs s h long = absurd (h tt)
given_before (i ∷ is) js [] s h long = absurd (omega arith)
given_before (i ∷ is) js (x ∷ xs) s h long =
    ⊎_elim (λ (e : i ≡ s). pick_yes i s x _ e ∙ sym (pick_yes i s x _ e))
    (λ (n : i ≢ s). ap (λ w. if i == s then x else w) (given_before is js xs s (λ a. h ((λ e. n (sym e)), a)) (omega arith)))
    (cases_eq i s)

-- no species of these is among those
pub new_apart : (s : ℕ) (js earlier : List ℕ) → AreNew js earlier → (IsApart s earlier → ⊥) → IsApart s js
new_apart s [] earlier h k = tt
new_apart s (j ∷ js) earlier h k = ((λ e. k (subst (λ i. IsApart i earlier) (sym e) h.0)), new_apart s js earlier h.1 k)

-- amounts that are left over are not negative
pub drop_not_negative : (k : ℕ) (xs : List ℚ) → AreNotNegative xs → AreNotNegative (drop k xs)
drop_not_negative zero xs h = h
drop_not_negative (suc k) [] h = tt
drop_not_negative (suc k) (x ∷ xs) h = drop_not_negative k xs h.1

-- ---- the inputs in turn

-- the species up to the next input
pub next_species : (es : List Ends) (i : ℕ) (d : Ends) → i < length es → input_species (take (i + 1) es) ≡ input_species (take i es) ++ species_of (get_or es i d)
next_species es i d l = ap input_species (take_more es i d l) ∙ species_push (take i es) (get_or es i d)

-- those of the first inputs are no more than those of all
pub species_within : (es : List Ends) (i : ℕ) → length (input_species (take i es)) ≤ length (input_species es)
species_within es zero = omega arith
species_within [] (suc i) = omega arith
species_within (Pair a b ∷ es) (suc i) = omega (arith, species_within es i)
species_within (One a ∷ es) (suc i) = omega (arith, species_within es i)

-- the next input is well formed, and new
pub next_is_new : (net : Network) (i : ℕ) (d : Ends) → IsNetwork net → i < length net.inputs → IsEnds net.rails net.species (get_or net.inputs i d) × AreNew (species_of (get_or net.inputs i d)) (input_species (take i net.inputs))
next_is_new net i d ok l = input_is_new net.rails net.species net.inputs i d l (inputs_take net.rails net.species net.inputs (i + 1) (ok.inputs, ok.different))

-- ---- the start

-- a state with the amounts of a start is the start
pub state_is_start : (net : Network) (xs c : List ℚ) → length c ≡ net.species → ((s : ℕ) → 1 ≤ s → s ≤ net.species → amount c s ≡ amount (start net xs) s) → c ≡ start net xs
unfolding start
state_is_start net xs c long same =
    let longs : length (start net xs) ≡ net.species = length-map-range_with_len (start_amount net xs) 1 net.species in
    ext_get_or 0ℚ c (start net xs) (long ∙ sym longs) (λ i h. same (suc i) (omega arith) (omega (arith, long)))
