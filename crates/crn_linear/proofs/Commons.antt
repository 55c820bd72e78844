-- The greatest common divisor of numbers divides each of them, whatever divides all of them divides it, and each is what it is over that divisor, times the divisor.
use Rattle.std.proofs.Common.{◌≡◌, ⊎_elim, ℕ, zero, suc, ◌+◌, ◌*◌, ◌/◌, ◌<◌, ◌≤◌, ◌^◌, List, [], ◌∷◌, ◌++◌, length, get_or, take, drop, map, refl, sym, ap, ap₂, ◌∙◌, arith}
use Rattle.std.specs.Prelude.{ℤ, pos, negsuc, neg_ℤ, ◌*ℤ◌, unsigned_abs, int_div}
use Rattle.std.specs.List.{All, fold}
use Rattle.std.specs.Int.{◌∣◌}
use Rattle.std.proofs.Math.Nat.{div-mul_cancel, dvd_refl, dvd_trans, div-le_self, zero-div, le_of_dvd, eq-zero-or-pos, eq-one_of_dvd-one}
use Rattle.std.proofs.lemmas.Nat.Gcd.{dvd-zero}
use Rattle.std.proofs.lemmas.List.Sums.{fold_more}
use Rattle.crn_fraction.specs.Gcd.{gcd, IsGcd-gcd}
use Rattle.crn_fraction.specs.Rational.{unsigned_abs-int_div}
use Rattle.crn_fraction.proofs.Euclid.{gcd_end}
use Rattle.crn_fraction.proofs.Integers.{ring_ℤ, z-writes}
use Rattle.crn_linear.specs.Cleared.{common, over}

negated : (u g a : ℕ) → u * g ≡ suc a → pos g *ℤ neg_ℤ (pos u) ≡ negsuc a
negated u g a e =
    ring_ℤ (pos u ∷ pos g ∷ []) {y = neg_ℤ (pos u *ℤ pos g)} (search z-writes depth 20) (search z-writes depth 20) refl
    ∙ ap (λ n. neg_ℤ (pos n)) e

-- a number is what it is over a divisor, times the divisor
pub div_back : (n : ℤ) (g : ℕ) → (unsigned_abs n / g) * g ≡ unsigned_abs n → pos g *ℤ int_div n (pos g) ≡ n
div_back (pos a) g e = let f : g * (a / g) ≡ a = omega (arith, e) in ap pos f
div_back (negsuc a) g e = negated (suc a / g) g a e

-- g divides each number of the list
abbrev pub Divides : ℕ → List ℤ → Type 0
Divides g [] = Unit {0}
Divides g (x ∷ xs) = (g ∣ unsigned_abs x) × Divides g xs

pub over-back : (g : ℕ) (xs : List ℤ) → Divides g xs → map (λ x. pos g *ℤ x) (over g xs) ≡ xs
over-back g [] h = refl
over-back g (x ∷ xs) h = ap₂ (λ y ys. y ∷ ys) (div_back x g (div-mul_cancel g h.0)) (over-back g xs h.1)

abbrev pub common_from : ℕ → List ℤ → ℕ
common_from n xs = fold (λ g x. gcd g (unsigned_abs x)) n xs

pub common_from-first : (n : ℕ) (xs : List ℤ) → common_from n xs ∣ n
common_from-first n [] = dvd_refl n
common_from-first n (x ∷ xs) = dvd_trans _ (common_from-first (gcd n (unsigned_abs x)) xs) (IsGcd-gcd n (unsigned_abs x)).0

common_from-each : (n : ℕ) (xs : List ℤ) → Divides (common_from n xs) xs
common_from-each n [] = tt
common_from-each n (x ∷ xs) =
    (dvd_trans _ (common_from-first (gcd n (unsigned_abs x)) xs) (IsGcd-gcd n (unsigned_abs x)).1, common_from-each (gcd n (unsigned_abs x)) xs)

pub Divides-common : (xs : List ℤ) → Divides (common xs) xs
Divides-common xs = common_from-each 0 xs

pub Divides-left : (g : ℕ) (xs ys : List ℤ) → Divides g (xs ++ ys) → Divides g xs
Divides-left g [] ys h = tt
Divides-left g (x ∷ xs) ys h = (h.0, Divides-left g xs ys h.1)

pub Divides-right : (g : ℕ) (xs ys : List ℤ) → Divides g (xs ++ ys) → Divides g ys
Divides-right g [] ys h = h
Divides-right g (x ∷ xs) ys h = Divides-right g xs ys h.1

pub length-over : (g : ℕ) (xs : List ℤ) → length (over g xs) ≡ length xs
length-over g [] = refl
length-over g (x ∷ xs) = ap suc (length-over g xs)

pub get_or-over : (g : ℕ) (xs : List ℤ) (i : ℕ) → get_or (over g xs) i (pos 0) ≡ int_div (get_or xs i (pos 0)) (pos g)
get_or-over g [] i = ap pos (sym (zero-div g))
get_or-over g (x ∷ xs) zero = refl
get_or-over g (x ∷ xs) (suc i) = get_or-over g xs i

-- a quotient is no greater in size
pub quotient_small : (z : ℤ) (g : ℕ) → unsigned_abs z ≤ 2 ^ 59 → unsigned_abs (int_div z (pos g)) ≤ 2 ^ 59
quotient_small z g h =
    let l = div-le_self (unsigned_abs z) g in
    omega (arith, h, l, unsigned_abs-int_div z g)

-- ---- the greatest
pub Divides-all : (k : ℕ) (xs : List ℤ) → All (λ n. k ∣ unsigned_abs n) xs → Divides k xs
Divides-all k [] h = tt
Divides-all k (x ∷ xs) h = (h 0 (pos 0) (omega arith), Divides-all k xs (λ i d l. h (suc i) d (omega arith)))

common_from-greatest : (k n : ℕ) (xs : List ℤ) → k ∣ n → Divides k xs → k ∣ common_from n xs
common_from-greatest k n [] p h = p
common_from-greatest k n (x ∷ xs) p h =
    common_from-greatest k (gcd n (unsigned_abs x)) xs ((IsGcd-gcd n (unsigned_abs x)).2 k p h.0) h.1

-- whatever divides each of the numbers divides their greatest common divisor
pub common-greatest : (k : ℕ) (xs : List ℤ) → Divides k xs → k ∣ common xs
common-greatest k xs h = common_from-greatest k 0 xs (dvd-zero k) h

-- ---- number by number
-- one number more
pub common_more : (xs : List ℤ) (i g h : ℕ) (x : ℤ) → i < length xs → g ≡ common (take i xs) → x ≡ get_or xs i (pos 0) → h ≡ gcd g (unsigned_abs x) → h ≡ common (take (i + 1) xs)
common_more xs i g h x l e f k =
    k ∙ ap₂ (λ s t. gcd s (unsigned_abs t)) e f ∙ sym (fold_more (λ g x. gcd g (unsigned_abs x)) 0 xs i (pos 0) l)

-- a common divisor is at most what bounds both
pub gcd_small : (a b m : ℕ) → a ≤ m → b ≤ m → gcd a b ≤ m
gcd_small a b m h k =
    ⊎_elim (λ (e : b ≡ 0). let f : gcd a b ≡ a = ap (gcd a) e ∙ gcd_end a in omega arith)
    (λ (p : 0 < b). let l = le_of_dvd p (IsGcd-gcd a b).1 in omega arith) (eq-zero-or-pos b)

-- ---- a divisor of 1 stays
from_more : (i n : ℕ) (xs : List ℤ) → fold (λ g x. gcd g (unsigned_abs x)) n xs ≡ fold (λ g x. gcd g (unsigned_abs x)) (fold (λ g x. gcd g (unsigned_abs x)) n (take i xs)) (drop i xs)
from_more zero n xs = refl
from_more (suc i) n [] = refl
from_more (suc i) n (x ∷ xs) = from_more i (gcd n (unsigned_abs x)) xs

pub from_one : (xs : List ℤ) → fold (λ g x. gcd g (unsigned_abs x)) 1 xs ≡ 1
from_one xs = eq-one_of_dvd-one (common_from-first 1 xs)

-- where the divisor of the first numbers is 1, so is that of all
pub one_ends : (i g : ℕ) (xs : List ℤ) → g ≡ common (take i xs) → g ≡ 1 → 1 ≡ common xs
one_ends i g xs e f = sym (from_more i 0 xs ∙ ap (λ n. fold (λ g x. gcd g (unsigned_abs x)) n (drop i xs)) (sym e ∙ f) ∙ from_one (drop i xs))
