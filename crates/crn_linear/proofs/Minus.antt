-- Differences of forms, and the first that is not 0.
use Rattle.std.proofs.Common.{◌≡◌, ◌≢◌, ⊎_elim, ℕ, zero, suc, ◌+◌, ◌<◌, ◌≤◌, List, [], ◌∷◌, length, get_or, take, drop, cond, refl, sym, ap, ap₂, ◌∙◌, subst, arith, add-one}
use Rattle.std.specs.Prelude.{replicate, pos}
use Rattle.std.specs.List.{All}
use Rattle.std.proofs.lemmas.List.{length-replicate, take-replicate, drop-replicate}
use Rattle.crn_fraction.specs.Rational.{ℚ, whole, 0ℚ, ◌+ℚ◌, ◌-ℚ◌, ◌*ℚ◌}
use Rattle.crn_fraction.proofs.Ring.{ring_ℚ, q-writes, sub_ℚ-zero}
use Rattle.crn_fraction.proofs.Products.{is_zero_ℚ_cases}
use Rattle.crn_linear.specs.Forms.{at, entry_of, minus}
use Rattle.crn_linear.specs.Cleared.{size_ℚ, pivot}
use Rattle.crn_linear.specs.Views.{HasColumns, IsPadded}
use Rattle.crn_linear.proofs.Values.{get_or-default}

-- the difference has as many columns
pub length-minus : (a b : List ℚ) → length a ≡ length b → length (minus a b) ≡ length a
length-minus [] b e = refl
length-minus (x ∷ a) [] e = absurd (omega (arith, e))
length-minus (x ∷ a) (y ∷ b) e = ap suc (length-minus a b (omega (arith, e)))

-- each entry is the difference of the entries
pub entry-minus : (a b : List ℚ) (i : ℕ) → length a ≡ length b → i < length a → entry_of (minus a b) i ≡ entry_of a i -ℚ entry_of b i
entry-minus [] b i e h = absurd (omega arith)
entry-minus (x ∷ a) [] i e h = absurd (omega (arith, e))
entry-minus (x ∷ a) (y ∷ b) zero e h = refl
entry-minus (x ∷ a) (y ∷ b) (suc i) e h = entry-minus a b i (omega (arith, e)) (omega arith)

-- the value of the difference is the difference of the values
pub at-minus : (a b x : List ℚ) → length a ≡ length b → at (minus a b) x ≡ at a x -ℚ at b x
at-minus [] [] x e = sym (sub_ℚ-zero 0ℚ)
at-minus [] (y ∷ b) x e = absurd (omega (arith, e))
at-minus (c ∷ a) [] x e = absurd (omega (arith, e))
at-minus (c ∷ a) (g ∷ b) [] e = sym (sub_ℚ-zero 0ℚ)
at-minus (c ∷ a) (g ∷ b) (t ∷ x) e =
    ap (λ z. (c -ℚ g) *ℚ t +ℚ z) (at-minus a b x (omega (arith, e)))
    ∙ ring_ℚ (c ∷ g ∷ t ∷ at a x ∷ at b x ∷ []) {y = (c *ℚ t +ℚ at a x) -ℚ (g *ℚ t +ℚ at b x)} (search q-writes depth 20) (search q-writes depth 20) refl

-- less as many zeros it is the form
pub minus-zeros : (a : List ℚ) → minus a (replicate (length a) 0ℚ) ≡ a
minus-zeros [] = refl
minus-zeros (x ∷ a) = ap₂ (λ y ys. y ∷ ys) (sub_ℚ-zero x) (minus-zeros a)

-- zeros in nine places
pub IsPadded-zeros : (n : ℕ) → 1 ≤ n → n ≤ 9 → IsPadded 0ℚ n (replicate 9 0ℚ)
IsPadded-zeros n p q = record { some = p; few = q; nine = length-replicate 9 0ℚ; rest = drop-replicate n 9 0ℚ }

-- and the first few of them
pub seen-zeros : (n : ℕ) → n ≤ 9 → take n (replicate 9 0ℚ) ≡ replicate n 0ℚ
seen-zeros n q = take-replicate n 9 0ℚ q

-- ---- the first entry that is not 0
pub pivot-here : (form : List ℚ) (i : ℕ) → i < length form → entry_of form i ≢ 0ℚ → pivot (drop i form) ≡ size_ℚ (entry_of form i)
pivot-here [] i h n = absurd (omega arith)
pivot-here (x ∷ form) zero h n =
    ⊎_elim (λ z. absurd (n z.0)) (λ z. ap (λ t. cond t (pivot form) (size_ℚ x)) z.1) (is_zero_ℚ_cases x)
pivot-here (x ∷ form) (suc i) h n = pivot-here form i (omega arith) n

next : (form : List ℚ) (i : ℕ) → i < length form → entry_of form i ≡ 0ℚ → pivot (drop (suc i) form) ≡ pivot (drop i form)
next [] i h e = absurd (omega arith)
next (x ∷ form) zero h e =
    ⊎_elim (λ z. ap (λ t. cond t (pivot form) (size_ℚ x)) (sym z.1)) (λ z. absurd (z.0 e)) (is_zero_ℚ_cases x)
next (x ∷ form) (suc i) h e = next form i (omega arith) e

-- a 0 is passed over
pub pivot-next : (form : List ℚ) (i : ℕ) → i < length form → entry_of form i ≡ 0ℚ → pivot (drop (i + 1) form) ≡ pivot (drop i form)
pivot-next form i h e = rw add-one (next form i h e)

-- where none is left it is 1
pub pivot-none : (form : List ℚ) (i : ℕ) → length form ≤ i → pivot (drop i form) ≡ whole (pos 1)
pivot-none [] zero h = refl
pivot-none [] (suc i) h = refl
pivot-none (x ∷ form) zero h = absurd (omega arith)
pivot-none (x ∷ form) (suc i) h = pivot-none form i (omega arith)

-- ---- lists
-- what holds at each index holds of all
pub all_of : {X : Type 0} (P : X → Type 0) (xs : List X) (z : X) → ((k : ℕ) → k < length xs → P (get_or xs k z)) → All P xs
all_of P xs z f k d h = subst P (get_or-default xs k z d h) (f k h)

-- lists of one length have columns alike
pub HasColumns-same : {X Y : Type 0} (xs : List X) (ys : List Y) → length ys ≡ length xs → HasColumns xs → HasColumns ys
HasColumns-same xs ys e c = record { some = omega (arith, e, c.some); few = omega (arith, e, c.few) }
