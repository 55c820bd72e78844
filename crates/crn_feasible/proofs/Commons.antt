-- The greatest common divisor of mixed rows, number by number.
use Rattle.std.proofs.Common.{◌≡◌, ℕ, zero, suc, ◌+◌, ◌<◌, ◌≤◌, List, [], ◌∷◌, length, get_or, take, drop, refl, sym, ap, ◌∙◌, arith, to_z, of_z, ◌^◌}
use Rattle.std.specs.Prelude.{ℤ, pos, ◌+ℤ◌, ◌*ℤ◌, unsigned_abs}
use Rattle.std.specs.List.{fold}
use Rattle.crn_linear.proofs.Commons.{common_more, from_one}
use Rattle.std.proofs.lemmas.List.{take_all}
use Rattle.std.proofs.lemmas.Int.{ints}
use Rattle.std.specs.Int.{w128}
use Rattle.crn_fraction.specs.Gcd.{gcd}
use Rattle.crn_linear.specs.Cleared.{common}
use Rattle.crn_farkas.specs.Mixtures.{mixed}
use Rattle.crn_farkas.proofs.Mixing.{get_or-mixed}
use Rattle.crn_feasible.proofs.Certificates.{length-mixed}

pub mixed_more : (a b : ℤ) (p n : List ℤ) (i g h : ℕ) (x : ℤ) → length p ≡ length n → i < length p → g ≡ common (take i (mixed a p b n))
    → x ≡ a *ℤ get_or p i (pos 0) +ℤ b *ℤ get_or n i (pos 0) → h ≡ gcd g (unsigned_abs x) → h ≡ common (take (i + 1) (mixed a p b n))
mixed_more a b p n i g h x e l k f m =
    let long : length (mixed a p b n) ≡ length p = length-mixed a p b n (length p) refl (sym e) in
    common_more (mixed a p b n) i g h x (omega (arith, long)) k (f ∙ sym (get_or-mixed a p b n i)) m

pub cast_sum : (s t : ℤ) → unsigned_abs s ≤ 2 ^ 118 → unsigned_abs t ≤ 2 ^ 118 → to_z w128 (of_z w128 (to_z w128 (of_z w128 s) +ℤ to_z w128 (of_z w128 t))) ≡ s +ℤ t
cast_sum s t h k = omega (arith, ints)

pub mixed_all : (a b : ℤ) (p n : List ℤ) (i g : ℕ) → length p ≡ length n → length p ≤ i → g ≡ common (take i (mixed a p b n)) → g ≡ common (mixed a p b n)
mixed_all a b p n i g e l f =
    let long : length (mixed a p b n) ≡ length p = length-mixed a p b n (length p) refl (sym e) in
    f ∙ ap common (take_all i (mixed a p b n) (omega (arith, long)))

-- ---- a divisor of 1 of multipliers stays
from_more_at : (i n : ℕ) (ms : List (ℕ × ℤ)) → fold (λ g m. gcd g (unsigned_abs m.1)) n ms ≡ fold (λ g m. gcd g (unsigned_abs m.1)) (fold (λ g m. gcd g (unsigned_abs m.1)) n (take i ms)) (drop i ms)
from_more_at zero n ms = refl
from_more_at (suc i) n [] = refl
from_more_at (suc i) n (m ∷ ms) = from_more_at i (gcd n (unsigned_abs m.1)) ms

from_one_at : (ms : List (ℕ × ℤ)) → fold (λ g m. gcd g (unsigned_abs m.1)) 1 ms ≡ 1
from_one_at [] = refl
from_one_at (m ∷ ms) = ap (λ n. fold (λ g m. gcd g (unsigned_abs m.1)) n ms) (from_one (m.1 ∷ [])) ∙ from_one_at ms

pub one_stays : (i n g : ℕ) (ms : List (ℕ × ℤ)) → g ≡ fold (λ g m. gcd g (unsigned_abs m.1)) n (take i ms) → g ≡ 1 → 1 ≡ fold (λ g m. gcd g (unsigned_abs m.1)) n ms
one_stays i n g ms e f = sym (from_more_at i n ms ∙ ap (λ k. fold (λ g m. gcd g (unsigned_abs m.1)) k (drop i ms)) (sym e ∙ f) ∙ from_one_at (drop i ms))
