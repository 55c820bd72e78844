-- What holds of each element of a list of which each is shown as another value, and parts of lists.
use Rattle.std.proofs.Common.{◌≡◌, ◌↔◌, ℕ, zero, suc, ◌+◌, List, [], ◌∷◌, ◌++◌, length, map, set, take, Bool, ◌||◌, refl, sym, ◌∙◌, ap, arith}
use Rattle.std.specs.Prelude.{All, sum_by}
use Rattle.std.specs.List.{list_any}
use Rattle.std.proofs.lemmas.List.Sums.{sum_by-cons}
use Rattle.std.proofs.lemmas.List.Elements.{All-nil, All-cons, All-head, All-tail}

module _ {X Y : Type 0} (f : X → Y) where
  -- what holds of each shown value
  pub All-map : (P : Y → Type 0) (xs : List X) → All (λ x. P (f x)) xs ↔ All P (map f xs)
  All-map P [] = (λ h. All-nil P, λ h. All-nil (λ x. P (f x)))
  All-map P (x ∷ xs) =
      let rest = All-map P xs in (
        λ h. All-cons P (f x) (map f xs) (All-head (λ z. P (f z)) x xs h) (rest.0 (All-tail (λ z. P (f z)) x xs h)),
        λ h. All-cons (λ z. P (f z)) x xs (All-head P (f x) (map f xs) h) (rest.1 (All-tail P (f x) (map f xs) h)),
      )

  -- whether some shown value passes
  pub list_any-map : (p : Y → Bool) (xs : List X) → list_any p (map f xs) ≡ list_any (λ x. p (f x)) xs
  list_any-map p [] = refl
  list_any-map p (x ∷ xs) = ap (λ b. p (f x) || b) (list_any-map p xs)

module _ {X : Type 0} where
  -- a write among the first few
  pub take-set_within : (n : ℕ) (xs : List X) (i : ℕ) (y : X) → take n (set xs i y) ≡ set (take n xs) i y
  take-set_within zero xs i y = refl
  take-set_within (suc n) [] i y = refl
  take-set_within (suc n) (x ∷ xs) zero y = refl
  take-set_within (suc n) (x ∷ xs) (suc i) y = ap (λ l. x ∷ l) (take-set_within n xs i y)

  -- a list and the first of what follows it
  pub take_one_more : (xs : List X) (y : X) (ys : List X) → take (length xs + 1) (xs ++ y ∷ ys) ≡ xs ++ y ∷ []
  take_one_more [] y ys = refl
  take_one_more (x ∷ xs) y ys =
      let e : suc (length xs) + 1 ≡ suc (length xs + 1) = omega arith in
      ap (λ n. take n (x ∷ (xs ++ y ∷ ys))) e ∙ ap (λ l. x ∷ l) (take_one_more xs y ys)

-- a sum over shown values
pub sum_by-map : {X Y : Type 0} (f : X → Y) (count : Y → ℕ) (xs : List X) → sum_by (λ x. count (f x)) xs ≡ sum_by count (map f xs)
sum_by-map f count [] = refl
sum_by-map f count (x ∷ xs) =
    sum_by-cons (λ z. count (f z)) x xs ∙ ap (λ n. count (f x) + n) (sum_by-map f count xs) ∙ sym (sum_by-cons count (f x) (map f xs))
