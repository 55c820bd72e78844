-- A number between lower and upper bounds keeps each of them, strictly where its row is strict.
use Rattle.std.proofs.Common.{Bool, true, cond, List, [], ◌∷◌, map}
use Rattle.std.specs.Prelude.{pos}
use Rattle.crn_fraction.specs.Rational.{ℚ, whole, ◌+ℚ◌, ◌-ℚ◌, ◌≤ℚ◌}
use Rattle.crn_linear.specs.Rows.{IsBelow}
use Rattle.crn_feasible.specs.Elimination.{greatest, least, between}
use Rattle.crn_feasible.proofs.Orders.{Each, Each-weaker, IsBelow-either, least-below, greatest-below, greatest-first, greatest-each, least-first, least-each, below_beyond, above_beyond, below_middle, above_middle}

pub Each-from_map : {A B : Type 0} (P : B → Type 0) (f : A → B) (xs : List A) → Each P (map f xs) → Each (λ x. P (f x)) xs
Each-from_map P f [] h = tt
Each-from_map P f (x ∷ xs) h = (h.0, Each-from_map P f xs h.1)

pub Each-map : {A B : Type 0} (P : B → Type 0) (f : A → B) (xs : List A) → Each (λ x. P (f x)) xs → Each P (map f xs)
Each-map P f [] h = tt
Each-map P f (x ∷ xs) h = (h.0, Each-map P f xs h.1)

pub Each-both : {A : Type 0} (P Q R : A → Type 0) → ((x : A) → P x → Q x → R x) → (xs : List A) → Each P xs → Each Q xs → Each R xs
Each-both P Q R f [] h k = tt
Each-both P Q R f (x ∷ xs) h k = (f x h.0 k.0, Each-both P Q R f xs h.1 k.1)

Each-none : {B : Type 0} (ns : List B) → Each (λ n. Unit {0}) ns
Each-none [] = tt
Each-none (n ∷ ns) = (tt, Each-none ns)

pub Each-swap : {A B : Type 0} (R : A → B → Type 0) (ps : List A) (ns : List B) → Each (λ p. Each (λ n. R p n) ns) ps → Each (λ n. Each (λ p. R p n) ps) ns
Each-swap R [] ns h = Each-none ns
Each-swap R (p ∷ ps) ns h =
    Each-both (λ n. R p n) (λ n. Each (λ p. R p n) ps) (λ n. R p n × Each (λ p. R p n) ps) (λ n u v. (u, v)) ns h.0 (Each-swap R ps ns h.1)

module _ {A : Type 0} (strict : A → Bool) (b : A → ℚ) where
  abbrev pub Pair : A → A → Type 0
  Pair p n = IsBelow (cond (strict p) true (strict n)) (b p) (b n)

  lows : (ps ns : List A) → Each (λ p. Each (Pair p) ns) ps → Each (λ p. IsBelow (strict p) (b p) (between (map b ps) (map b ns))) ps
  lows [] ns h = tt
  lows (p ∷ ps) [] h =
      let l = greatest (b p) (map b ps) in
      let up : Each (λ q. b q ≤ℚ l) (p ∷ ps) = (greatest-first (b p) (map b ps), Each-from_map (λ q. q ≤ℚ l) b ps (greatest-each (b p) (map b ps))) in
      Each-weaker (λ q. b q ≤ℚ l) (λ q. IsBelow (strict q) (b q) (l +ℚ whole (pos 1))) (λ q e. below_beyond (strict q) (b q) l e) (p ∷ ps) up
  lows (p ∷ ps) (n ∷ ns) h =
      let l = greatest (b p) (map b ps) in
      let u = least (b n) (map b ns) in
      let up : Each (λ q. b q ≤ℚ l) (p ∷ ps) = (greatest-first (b p) (map b ps), Each-from_map (λ q. q ≤ℚ l) b ps (greatest-each (b p) (map b ps))) in
      let one : (q : A) → Each (Pair q) (n ∷ ns) → IsBelow (strict q) (b q) u =
      λ q e. least-below (strict q) (b q) (b n) (map b ns) (IsBelow-either (strict q) (strict n) (b q) (b n) e.0).0
      (Each-map (λ t. IsBelow (strict q) (b q) t) b ns (Each-weaker (Pair q) (λ m. IsBelow (strict q) (b q) (b m)) (λ m f. (IsBelow-either (strict q) (strict m) (b q) (b m) f).0) ns e.1)) in
      Each-both (λ q. b q ≤ℚ l) (λ q. Each (Pair q) (n ∷ ns)) (λ q. IsBelow (strict q) (b q) (between (map b (p ∷ ps)) (map b (n ∷ ns))))
      (λ q e f. below_middle (strict q) (b q) l u e (one q f)) (p ∷ ps) up h

  highs : (ps ns : List A) → Each (λ n. Each (λ p. Pair p n) ps) ns → Each (λ n. IsBelow (strict n) (between (map b ps) (map b ns)) (b n)) ns
  highs ps [] h = tt
  highs [] (n ∷ ns) h =
      let u = least (b n) (map b ns) in
      let down : Each (λ q. u ≤ℚ b q) (n ∷ ns) = (least-first (b n) (map b ns), Each-from_map (λ q. u ≤ℚ q) b ns (least-each (b n) (map b ns))) in
      Each-weaker (λ q. u ≤ℚ b q) (λ q. IsBelow (strict q) (u -ℚ whole (pos 1)) (b q)) (λ q e. above_beyond (strict q) (b q) u e) (n ∷ ns) down
  highs (p ∷ ps) (n ∷ ns) h =
      let l = greatest (b p) (map b ps) in
      let u = least (b n) (map b ns) in
      let down : Each (λ q. u ≤ℚ b q) (n ∷ ns) = (least-first (b n) (map b ns), Each-from_map (λ q. u ≤ℚ q) b ns (least-each (b n) (map b ns))) in
      let one : (q : A) → Each (λ p. Pair p q) (p ∷ ps) → IsBelow (strict q) l (b q) =
      λ q e. greatest-below (strict q) (b q) (b p) (map b ps) (IsBelow-either (strict p) (strict q) (b p) (b q) e.0).1
      (Each-map (λ t. IsBelow (strict q) t (b q)) b ps (Each-weaker (λ m. Pair m q) (λ m. IsBelow (strict q) (b m) (b q)) (λ m f. (IsBelow-either (strict m) (strict q) (b m) (b q) f).1) ps e.1)) in
      Each-both (λ q. u ≤ℚ b q) (λ q. Each (λ p. Pair p q) (p ∷ ps)) (λ q. IsBelow (strict q) (between (map b (p ∷ ps)) (map b (n ∷ ns))) (b q))
      (λ q e f. above_middle (strict q) (b q) l u (one q f) e) (n ∷ ns) down h

  -- each lower bound is below the number between, and that is below each upper bound
  pub between_keeps : (ps ns : List A) → Each (λ p. Each (Pair p) ns) ps
      → Each (λ p. IsBelow (strict p) (b p) (between (map b ps) (map b ns))) ps × Each (λ n. IsBelow (strict n) (between (map b ps) (map b ns)) (b n)) ns
  between_keeps ps ns h = (lows ps ns h, highs ps ns (Each-swap Pair ps ns h))
