-- The distinct elements of a list, by a test that tells which are equal.
use Rattle.std.proofs.Common.{◌≡◌, ◌≢◌, ◌⊎◌, inl, inr, ⊎_elim, ℕ, zero, suc, ◌<◌, List, [], ◌∷◌, ◌++◌, length, get_or, Bool, true, false, cond, true≢false, refl, sym, ap, ◌∙◌, subst, arith}
use Rattle.std.specs.Prelude.{Contains}
use Rattle.std.specs.List.{AllPairs, filter}
use Rattle.std.specs.Bool.{Decides}
use Rattle.std.specs.Set.{is_member}
use Rattle.std.specs.Cmp.Lexicographic.{pointwise}
use Rattle.std.proofs.lemmas.Slice.Eq.{slice_eq-Decides}
use Rattle.std.proofs.lemmas.Bool.{cond_both}
use Rattle.std.proofs.lemmas.Bool.Decides.{not_from_Decides}
use Rattle.std.proofs.lemmas.List.{append-nil}
use Rattle.std.proofs.lemmas.List.Elements.{All-contains, All-contains_itself, All-filter, filter_passes, filter-append, Contains-append_right}
use Rattle.std.proofs.lemmas.List.Kept.{AllPairs-cons, AllPairs-filter}
use Rattle.std.proofs.lemmas.Map.Made.{is_member-Decides}
use Rattle.crn_fraction.specs.Rational.{ℚ}
use Rattle.crn_fraction.specs.Equality.{eq_fractions}
use Rattle.crn_fraction.proofs.Equal.{Decides-eq_fractions}
use Rattle.crn_linear.specs.Forms.{distinct}

-- ---- lists
-- an element is the first or a later one
first_or_later : {X : Type 0} (x : X) (xs : List X) (z : X) → Contains (x ∷ xs) z → (x ≡ z) ⊎ Contains xs z
first_or_later x xs z c = at c.0 c.1 c.2
  where
    at : (k : ℕ) → k < length (x ∷ xs) → get_or (x ∷ xs) k z ≡ z → (x ≡ z) ⊎ Contains xs z
    at zero h e = inl e
    at (suc k) h e = inr (k, omega arith, e)

-- the first is an element
first : {X : Type 0} (x : X) (xs : List X) (z : X) → x ≡ z → Contains (x ∷ xs) z
first x xs z e = (0, omega arith, e)

-- and so is each later one
later : {X : Type 0} (x : X) (xs : List X) (z : X) → Contains xs z → Contains (x ∷ xs) z
later x xs z c = Contains-append_right (x ∷ []) xs z c

none_in_nil : {X : Type 0} (z : X) → Contains [] z → ⊥
none_in_nil z c = let h = c.1 in omega arith

-- an element that passes is kept
kept : {X : Type 0} (p : X → Bool) (xs : List X) (z : X) → Contains xs z → p z ≡ true → Contains (filter p xs) z
kept p [] z c t = absurd (none_in_nil z c)
kept p (x ∷ xs) z c t =
    ⊎_elim
    (λ e. subst (λ b. Contains (cond b (x ∷ filter p xs) (filter p xs)) z) (sym (ap p e ∙ t)) (first x (filter p xs) z e))
    (λ l. let more = kept p xs z l t in cond_both (p x) (x ∷ filter p xs) (filter p xs) (λ ys. Contains ys z) (λ _. later x (filter p xs) z more) (λ _. more))
    (first_or_later x xs z c)

-- what is kept was there
was_there : {X : Type 0} (p : X → Bool) (xs : List X) (z : X) → Contains (filter p xs) z → Contains xs z
was_there p xs z c = All-contains (Contains xs) (filter p xs) z (All-filter p (Contains xs) xs (All-contains_itself xs)) c

-- ---- by a test that tells which elements are equal
module _ {X : Type 0} (same : X → X → Bool) (tells : (x y : X) → Decides (same x y) (x ≡ y)) where
  abbrev other : X → X → Bool
  other x y = cond (same x y) false true

  other-true : (x y : X) → x ≢ y → other x y ≡ true
  other-true x y n = by (same x y) refl
    where
      by : (b : Bool) → same x y ≡ b → cond b false true ≡ true
      by true e = absurd (n ((tells x y).0 e))
      by false e = refl

  other-false : (x y : X) → x ≡ y → other x y ≡ false
  other-false x y e = ap (λ b. cond b false true) ((tells x y).1 e)

  decided : (x z : X) → (x ≡ z) ⊎ (x ≢ z)
  decided x z = by (same x z) refl
    where
      by : (b : Bool) → same x z ≡ b → (x ≡ z) ⊎ (x ≢ z)
      by true e = inl ((tells x z).0 e)
      by false e = inr (not_from_Decides (same x z) (tells x z) e)

  contained : (xs : List X) (z : X) → Contains xs z ⊎ (Contains xs z → ⊥)
  contained xs z = by (is_member same xs z) refl
    where
      tests : Decides (is_member same xs z) (Contains xs z)
      tests = is_member-Decides tells xs z

      by : (b : Bool) → is_member same xs z ≡ b → Contains xs z ⊎ (Contains xs z → ⊥)
      by true e = inl (tests.0 e)
      by false e = inr (not_from_Decides (is_member same xs z) tests e)

  -- each element is among the distinct ones
  pub Contains-distinct : (xs : List X) (z : X) → Contains xs z → Contains (distinct same xs) z
  Contains-distinct [] z c = c
  Contains-distinct (x ∷ xs) z c =
      ⊎_elim (λ e. first x _ z e)
      (λ n. ⊎_elim (λ e. absurd (n e)) (λ l. later x _ z (kept (other x) (distinct same xs) z (Contains-distinct xs z l) (other-true x z n))) (first_or_later x xs z c))
      (decided x z)

  -- and no others are
  pub Contains-from_distinct : (xs : List X) (z : X) → Contains (distinct same xs) z → Contains xs z
  Contains-from_distinct [] z c = c
  Contains-from_distinct (x ∷ xs) z c =
      ⊎_elim (λ e. first x xs z e) (λ l. later x xs z (Contains-from_distinct xs z (was_there (other x) (distinct same xs) z l)))
      (first_or_later x (filter (other x) (distinct same xs)) z c)

  -- no two of them are equal
  pub apart_distinct : (xs : List X) → AllPairs (λ x y. x ≢ y) (distinct same xs)
  apart_distinct [] = λ i j d h k. absurd (omega arith)
  apart_distinct (x ∷ xs) =
      AllPairs-cons (λ y z. y ≢ z) x (filter (other x) (distinct same xs))
      (λ k d h e. true≢false (sym (filter_passes (other x) (distinct same xs) k d h) ∙ other-false x _ e))
      (AllPairs-filter (λ y z. y ≢ z) (other x) (distinct same xs) (apart_distinct xs))

  -- an element that is not there yet comes last
  pub distinct_new : (xs : List X) (z : X) → (Contains xs z → ⊥) → distinct same (xs ++ z ∷ []) ≡ distinct same xs ++ z ∷ []
  distinct_new [] z n = refl
  distinct_new (x ∷ xs) z n =
      let alone : filter (other x) (z ∷ []) ≡ z ∷ [] = ap (λ b. cond b (z ∷ []) []) (other-true x z (λ e. n (first x xs z e))) in
      ap (λ ys. x ∷ ys)
      (ap (filter (other x)) (distinct_new xs z (λ l. n (later x xs z l)))
      ∙ filter-append (other x) (distinct same xs) (z ∷ []) ∙ ap (λ ys. filter (other x) (distinct same xs) ++ ys) alone)

  -- one that is there changes nothing
  pub distinct_old : (xs : List X) (z : X) → Contains xs z → distinct same (xs ++ z ∷ []) ≡ distinct same xs
  distinct_old [] z c = absurd (none_in_nil z c)
  distinct_old (x ∷ xs) z c =
      ap (λ ys. x ∷ ys)
      (⊎_elim (λ l. ap (filter (other x)) (distinct_old xs z l))
      (λ n.
      let is : x ≡ z = ⊎_elim (λ e. e) (λ l. absurd (n l)) (first_or_later x xs z c) in
      let gone : filter (other x) (z ∷ []) ≡ [] = ap (λ b. cond b (z ∷ []) []) (other-false x z is) in
      ap (filter (other x)) (distinct_new xs z n) ∙ filter-append (other x) (distinct same xs) (z ∷ [])
      ∙ ap (λ ys. filter (other x) (distinct same xs) ++ ys) gone ∙ append-nil (filter (other x) (distinct same xs)))
      (contained xs z))

-- ---- which forms are equal
-- the test of forms tells which are equal
pub Decides-same_forms : (f g : List ℚ) → Decides (pointwise eq_fractions f g) (f ≡ g)
Decides-same_forms f g = slice_eq-Decides Decides-eq_fractions f g (pointwise eq_fractions f g) refl
