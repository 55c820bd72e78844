-- A completion turn by turn, over amounts that are written out.
use Rattle.std.proofs.Common.{◌≡◌, ℕ, suc, Bool, true, false, List, [], ◌∷◌, ◌++◌, ◌==◌, if◌then◌else◌, refl, ◌∙◌, ap, ap₂, subst, eqb-true}
use Rattle.std.proofs.lemmas.Bool.{and_parts}
use Rattle.std.specs.Prelude.{ℤ, pos, negsuc, ◌&&◌}
use Rattle.std.proofs.lemmas.List.{append-nil}
use Rattle.crn_fraction.specs.Parts.{same_parts}
use Rattle.crn_fraction.specs.Rational.{ℚ, is_zero_ℚ}
use Rattle.crn_net.proofs.Completion.{after_all-append}
use Rattle.crn_net.specs.Network.{Network, Flow, amount, after, after_all, alone, greatest_flux, with_greatest, completion_to}

-- ---- the same numbers, by their parts

abbrev pub same_int : ℤ → ℤ → Bool
same_int (pos a) (pos b) = a == b
same_int (pos a) (negsuc b) = false
same_int (negsuc a) (pos b) = false
same_int (negsuc a) (negsuc b) = a == b

abbrev pub same_number : ℚ → ℚ → Bool
same_number x y = same_int x.num y.num && (x.den == y.den)

abbrev pub same_numbers : List ℚ → List ℚ → Bool
same_numbers [] [] = true
same_numbers [] (y ∷ ys) = false
same_numbers (x ∷ xs) [] = false
same_numbers (x ∷ xs) (y ∷ ys) = same_number x y && same_numbers xs ys

int_is : (a b : ℤ) → same_int a b ≡ true → a ≡ b
int_is (pos a) (pos b) h = ap pos (eqb-true a b h)
int_is (pos a) (negsuc b) h = absurd (cc h)
int_is (negsuc a) (pos b) h = absurd (cc h)
int_is (negsuc a) (negsuc b) h = ap negsuc (eqb-true a b h)

pub number_is : (x y : ℚ) → same_number x y ≡ true → x ≡ y
number_is x y h =
    let k = and_parts (same_int x.num y.num) (x.den == y.den) h in
    same_parts x y (int_is x.num y.num k.0) (eqb-true x.den y.den k.1)

pub numbers_are : (xs ys : List ℚ) → same_numbers xs ys ≡ true → xs ≡ ys
numbers_are [] [] h = refl
numbers_are [] (y ∷ ys) h = absurd (cc h)
numbers_are (x ∷ xs) [] h = absurd (cc h)
numbers_are (x ∷ xs) (y ∷ ys) h =
    let k = and_parts (same_number x y) (same_numbers xs ys) h in
    ap₂ (λ a bs. a ∷ bs) (number_is x y k.0) (numbers_are xs ys k.1)

-- ---- the completion from c by the first r reactions has the segments us, and leads to d

pub record Reaches (net : Network) (c : List ℚ) (r : ℕ) (us : List (List Flow)) (d : List ℚ) : Type 0 where
  pub segments : completion_to net r c ≡ us
  pub state : after_all net c us ≡ d

pub begins : (net : Network) (c : List ℚ) → Reaches net c 0 [] c
unfolding completion_to
begins net c = record { segments = refl; state = refl }

turn_is : (net : Network) (c : List ℚ) (r : ℕ) (us vs : List (List Flow)) (d e : List ℚ) → Reaches net c r us d → with_greatest net (suc r) d ≡ vs → after_all net d vs ≡ e → Reaches net c (suc r) (us ++ vs) e
unfolding completion_to
turn_is net c r us vs d e h w a = record {
  segments = ap (λ xs. xs ++ with_greatest net (suc r) (after_all net c xs)) h.segments ∙ ap (λ x. us ++ with_greatest net (suc r) x) h.state ∙ ap (λ xs. us ++ xs) w;
  state = after_all-append net us vs c ∙ ap (λ x. after_all net x vs) h.state ∙ a;
}

-- reaction r + 1 cannot happen at d
pub skips : (net : Network) (c : List ℚ) (r : ℕ) (us : List (List Flow)) (d : List ℚ) → Reaches net c r us d →
    is_zero_ℚ (greatest_flux net (suc r) (amount d)) ≡ true → Reaches net c (suc r) us d
skips net c r us d h z =
    subst (λ xs. Reaches net c (suc r) xs d) (append-nil us)
    (turn_is net c r us [] d d h (ap (λ b. if b then [] else alone (suc r) (greatest_flux net (suc r) (amount d)) ∷ []) z) refl)

-- it happens by u, and leads from d to e
pub happens : (net : Network) (c : List ℚ) (r : ℕ) (us : List (List Flow)) (d : List ℚ) → Reaches net c r us d → (u : ℚ) (e : List ℚ) →
    is_zero_ℚ (greatest_flux net (suc r) (amount d)) ≡ false → same_number (greatest_flux net (suc r) (amount d)) u ≡ true →
    same_numbers (after net d (alone (suc r) u)) e ≡ true → Reaches net c (suc r) (us ++ alone (suc r) u ∷ []) e
happens net c r us d h u e z f a =
    turn_is net c r us (alone (suc r) u ∷ []) d e h
    (ap (λ b. if b then [] else alone (suc r) (greatest_flux net (suc r) (amount d)) ∷ []) z ∙ ap (λ x. alone (suc r) x ∷ []) (number_is (greatest_flux net (suc r) (amount d)) u f))
    (numbers_are (after net d (alone (suc r) u)) e a)
