-- Multipliers with the places of their rows: what is done with them is done with one for each row.
use Rattle.std.proofs.Common.{◌≡◌, ◌⊎◌, ⊎_elim, inl, inr, ℕ, zero, suc, ◌+◌, ◌-◌, ◌<◌, ◌≤◌, Bool, true, false, cond, ◌&&◌, ◌==◌, List, [], ◌∷◌, ◌++◌, length, get_or, take, drop, map, refl, sym, ap, ap₂, ◌∙◌, subst, arith, append_assoc, length-drop, drop-cons}
use Rattle.std.specs.Prelude.{ℤ, pos, ◌+ℤ◌, ◌*ℤ◌, int_div, nat_lt, replicate}
use Rattle.std.specs.List.{fold, list_all}
use Rattle.std.proofs.lemmas.Bool.{eqb-true, eq-eqb, cases_order, both_ways}
use Rattle.std.proofs.lemmas.Bool.Decides.{nat_tests, eqb_tells}
use Rattle.std.proofs.lemmas.Int.{ints}
use Rattle.std.proofs.lemmas.List.{take_more, take_all, drop_all, append-nil, map-append}
use Rattle.std.proofs.Math.Nat.{zero-div}
use Rattle.crn_farkas.specs.Mixtures.{mixed}
use Rattle.crn_linear.specs.Cleared.{over}
use Rattle.crn_feasible.specs.Sparse.{spread, Ascend, scaled, sum_of, divided, Mixes}

-- ---- the multiplier at a place, and those after it
abbrev pub at : ℕ → List (ℕ × ℤ) → ℤ
at from [] = pos 0
at from (m ∷ ms) = cond (m.0 == from) m.1 (pos 0)

abbrev pub after : ℕ → List (ℕ × ℤ) → List (ℕ × ℤ)
after from [] = []
after from (m ∷ ms) = cond (m.0 == from) ms (m ∷ ms)

spread-suc : (from n : ℕ) (ms : List (ℕ × ℤ)) → spread from (suc n) ms ≡ at from ms ∷ spread (suc from) n (after from ms)
spread-suc from n [] = refl
spread-suc from n (m ∷ ms) = by (m.0 == from)
  where
    by : (b : Bool) → cond b (m.1 ∷ spread (suc from) n ms) (pos 0 ∷ spread (suc from) n (m ∷ ms)) ≡ cond b m.1 (pos 0) ∷ spread (suc from) n (cond b ms (m ∷ ms))
    by true = refl
    by false = refl

-- ---- their order

past_place : (m n : ℕ) → n ≤ m → (m == n) ≡ false → suc n ≤ m
past_place m n l h = ⊎_elim (λ t. absurd (both_ways (m == n) h t.0)) (λ t. omega (arith, t.1)) (eqb_tells m n)

after_ascends : (from to : ℕ) (ms : List (ℕ × ℤ)) → Ascend from to ms → Ascend (suc from) to (after from ms)
after_ascends from to [] h = tt
after_ascends from to (m ∷ ms) h = by (m.0 == from) refl
  where
    by : (b : Bool) → (m.0 == from) ≡ b → Ascend (suc from) to (cond b ms (m ∷ ms))
    by true e = subst (λ k. Ascend (suc k) to ms) (eqb-true m.0 from e) h.2
    by false e = (past_place m.0 from h.0 e, h.1, h.2)

-- ---- tests and sums of them
pub over-spread : (g from n : ℕ) (ms : List (ℕ × ℤ)) → over g (spread from n ms) ≡ spread from n (map (divided g) ms)
over-spread g from zero ms = refl
over-spread g from (suc n) [] = ap₂ (λ x xs. x ∷ xs) (ap pos (zero-div g)) (over-spread g (suc from) n [])
over-spread g from (suc n) (m ∷ ms) = by (m.0 == from) (over-spread g (suc from) n ms) (over-spread g (suc from) n (m ∷ ms))
  where
    by : (b : Bool) → over g (spread (suc from) n ms) ≡ spread (suc from) n (map (divided g) ms) → over g (spread (suc from) n (m ∷ ms)) ≡ spread (suc from) n (map (divided g) (m ∷ ms))
        → over g (cond b (m.1 ∷ spread (suc from) n ms) (pos 0 ∷ spread (suc from) n (m ∷ ms)))
        ≡ cond b (int_div m.1 (pos g) ∷ spread (suc from) n (map (divided g) ms)) (pos 0 ∷ spread (suc from) n (map (divided g) (m ∷ ms)))
    by true h k = ap (λ xs. int_div m.1 (pos g) ∷ xs) h
    by false h k = ap₂ (λ x xs. x ∷ xs) (ap pos (zero-div g)) k

-- none of these is past the last place
none_left : (from : ℕ) (ms : List (ℕ × ℤ)) → Ascend from (from + 0) ms → ms ≡ []
none_left from [] h = refl
none_left from (m ∷ ms) h = absurd (omega (arith, h.0, h.1))

one_less : (from n : ℕ) (ms : List (ℕ × ℤ)) → Ascend from (from + suc n) ms → Ascend (suc from) (suc from + n) (after from ms)
one_less from n ms h = let e : from + suc n ≡ suc from + n = omega arith in subst (λ to. Ascend (suc from) to (after from ms)) e (after_ascends from (from + suc n) ms h)

module _ {B : Type 0} (step : B → ℤ → B) (idle : (b : B) → step b (pos 0) ≡ b) where
  -- what passes over 0 passes over the rows that have no multiplier
  pub fold-spread : (n from : ℕ) (b : B) (ms : List (ℕ × ℤ)) → Ascend from (from + n) ms → fold step b (spread from n ms) ≡ fold (λ a m. step a m.1) b ms
  fold-spread zero from b ms h = ap (λ ns. fold (λ a m. step a m.1) b ns) (sym (none_left from ms h))
  fold-spread (suc n) from b ms h =
      ap (fold step b) (spread-suc from n ms) ∙ fold-spread n (suc from) (step b (at from ms)) (after from ms) (one_less from n ms h) ∙ first ms
    where
      first : (ms : List (ℕ × ℤ)) → fold (λ a m. step a m.1) (step b (at from ms)) (after from ms) ≡ fold (λ a m. step a m.1) b ms
      first [] = idle b
      first (m ∷ ms) = by (m.0 == from)
        where
          by : (t : Bool) → fold (λ a m. step a m.1) (step b (cond t m.1 (pos 0))) (cond t ms (m ∷ ms)) ≡ fold (λ a m. step a m.1) (step b m.1) ms
          by true = refl
          by false = ap (λ c. fold (λ a m. step a m.1) c (m ∷ ms)) (idle b)

-- all are tested where those that are kept are
pub all-spread : (test : ℤ → Bool) → test (pos 0) ≡ true → (n from : ℕ) (ms : List (ℕ × ℤ)) → Ascend from (from + n) ms → list_all test (spread from n ms) ≡ list_all (λ m. test m.1) ms
all-spread test z zero from ms h = ap (λ ns. list_all (λ m. test m.1) ns) (sym (none_left from ms h))
all-spread test z (suc n) from ms h =
    ap (list_all test) (spread-suc from n ms) ∙ ap (λ t. test (at from ms) && t) (all-spread test z n (suc from) (after from ms) (one_less from n ms h)) ∙ first ms
  where
    first : (ms : List (ℕ × ℤ)) → (test (at from ms) && list_all (λ m. test m.1) (after from ms)) ≡ list_all (λ m. test m.1) ms
    first [] = ap (λ t. t && true) z
    first (m ∷ ms) = by (m.0 == from)
      where
        by : (t : Bool) → (test (cond t m.1 (pos 0)) && list_all (λ m. test m.1) (cond t ms (m ∷ ms))) ≡ (test m.1 && list_all (λ m. test m.1) ms)
        by true = refl
        by false = ap (λ t. t && list_all (λ m. test m.1) (m ∷ ms)) z

-- ---- two of them mixed
-- x among the second ones, before the rest of the first ones
abbrev pub into : (a : ℤ) (x : ℕ × ℤ) (b : ℤ) → (List (ℕ × ℤ) → List (ℕ × ℤ)) → List (ℕ × ℤ) → List (ℕ × ℤ)
into a x b rest [] = scaled a x ∷ rest []
into a x b rest (y ∷ q) = cond (nat_lt x.0 y.0) (scaled a x ∷ rest (y ∷ q)) (cond (nat_lt y.0 x.0) (scaled b y ∷ into a x b rest q) (sum_of a x b y ∷ rest q))

-- a times the first ones plus b times the second, in ascending order
abbrev pub merged : ℤ → List (ℕ × ℤ) → ℤ → List (ℕ × ℤ) → List (ℕ × ℤ)
merged a [] b q = map (scaled b) q
merged a (x ∷ p) b q = into a x b (merged a p b) q

-- the multiplier at the first place, and those after it
IsMixedAt : (from : ℕ) (a : ℤ) (p : List (ℕ × ℤ)) (b : ℤ) (q : List (ℕ × ℤ)) → Type 0
IsMixedAt from a p b q = (at from (merged a p b q) ≡ a *ℤ at from p +ℤ b *ℤ at from q) × (after from (merged a p b q) ≡ merged a (after from p) b (after from q))

mixed_none : (from : ℕ) (a b : ℤ) → IsMixedAt from a [] b []
unfolding IsMixedAt
mixed_none from a b = (omega (arith, ints), refl)

mixed_second : (from : ℕ) (a b : ℤ) (y : ℕ × ℤ) (q : List (ℕ × ℤ)) → IsMixedAt from a [] b (y ∷ q)
unfolding IsMixedAt
mixed_second from a b y q = by (y.0 == from)
  where
    by : (t : Bool) → (cond t (b *ℤ y.1) (pos 0) ≡ a *ℤ pos 0 +ℤ b *ℤ cond t y.1 (pos 0)) × (cond t (map (scaled b) q) (map (scaled b) (y ∷ q)) ≡ merged a [] b (cond t q (y ∷ q)))
    by true = (omega (arith, ints), refl)
    by false = (omega (arith, ints), refl)

-- the first of x and all that follow it
first_of : (from : ℕ) (a b : ℤ) (x : ℕ × ℤ) (p q : List (ℕ × ℤ)) → merged a (x ∷ p) b q ≡ scaled a x ∷ merged a p b q → at from q ≡ pos 0 → after from q ≡ q → IsMixedAt from a (x ∷ p) b q
unfolding IsMixedAt
first_of from a b x p q e none same = (ap (at from) e ∙ (by (x.0 == from)).0, ap (after from) e ∙ (by (x.0 == from)).1)
  where
    by : (t : Bool) → (cond t (a *ℤ x.1) (pos 0) ≡ a *ℤ cond t x.1 (pos 0) +ℤ b *ℤ at from q) × (cond t (merged a p b q) (scaled a x ∷ merged a p b q) ≡ merged a (cond t p (x ∷ p)) b (after from q))
    by true = (rw none (omega (arith, ints)), ap (merged a p b) (sym same))
    by false = (rw none (omega (arith, ints)), sym e ∙ ap (merged a (x ∷ p) b) (sym same))

second_of : (from : ℕ) (a b : ℤ) (y : ℕ × ℤ) (p q : List (ℕ × ℤ)) → merged a p b (y ∷ q) ≡ scaled b y ∷ merged a p b q → at from p ≡ pos 0 → after from p ≡ p → IsMixedAt from a p b (y ∷ q)
unfolding IsMixedAt
second_of from a b y p q e none same = (ap (at from) e ∙ (by (y.0 == from)).0, ap (after from) e ∙ (by (y.0 == from)).1)
  where
    by : (t : Bool) → (cond t (b *ℤ y.1) (pos 0) ≡ a *ℤ at from p +ℤ b *ℤ cond t y.1 (pos 0)) × (cond t (merged a p b q) (scaled b y ∷ merged a p b q) ≡ merged a (after from p) b (cond t q (y ∷ q)))
    by true = (rw none (omega (arith, ints)), ap (λ r. merged a r b q) (sym same))
    by false = (rw none (omega (arith, ints)), sym e ∙ ap (λ r. merged a r b (y ∷ q)) (sym same))

-- both at one place
both_of : (from : ℕ) (a b : ℤ) (x y : ℕ × ℤ) (p q : List (ℕ × ℤ)) → x.0 ≡ y.0 → merged a (x ∷ p) b (y ∷ q) ≡ sum_of a x b y ∷ merged a p b q → IsMixedAt from a (x ∷ p) b (y ∷ q)
unfolding IsMixedAt
both_of from a b x y p q one e =
    subst (λ k. (at from (merged a (x ∷ p) b (y ∷ q)) ≡ a *ℤ at from (x ∷ p) +ℤ b *ℤ cond (k == from) y.1 (pos 0)) × (after from (merged a (x ∷ p) b (y ∷ q)) ≡ merged a (after from (x ∷ p)) b (cond (k == from) q (y ∷ q)))) one
    (ap (at from) e ∙ (by (x.0 == from)).0, ap (after from) e ∙ (by (x.0 == from)).1)
  where
    by : (t : Bool) → (cond t (a *ℤ x.1 +ℤ b *ℤ y.1) (pos 0) ≡ a *ℤ cond t x.1 (pos 0) +ℤ b *ℤ cond t y.1 (pos 0))
        × (cond t (merged a p b q) (sum_of a x b y ∷ merged a p b q) ≡ merged a (cond t p (x ∷ p)) b (cond t q (y ∷ q)))
    by true = (refl, refl)
    by false = (omega (arith, ints), sym e)

-- ---- by the order of the first places
pub merged-none : (a b : ℤ) (p : List (ℕ × ℤ)) → merged a p b [] ≡ map (scaled a) p
merged-none a b [] = refl
merged-none a b (x ∷ p) = ap (λ ns. scaled a x ∷ ns) (merged-none a b p)

pub merged-first : (a b : ℤ) (x y : ℕ × ℤ) (p q : List (ℕ × ℤ)) → x.0 < y.0 → merged a (x ∷ p) b (y ∷ q) ≡ scaled a x ∷ merged a p b (y ∷ q)
merged-first a b x y p q l = let t : nat_lt x.0 y.0 ≡ true = grind (arith, nat_tests) in rw t refl

pub merged-second : (a b : ℤ) (x y : ℕ × ℤ) (p q : List (ℕ × ℤ)) → y.0 < x.0 → merged a (x ∷ p) b (y ∷ q) ≡ scaled b y ∷ merged a (x ∷ p) b q
merged-second a b x y p q l =
    let t : nat_lt x.0 y.0 ≡ false = grind (arith, nat_tests) in
    let u : nat_lt y.0 x.0 ≡ true = grind (arith, nat_tests) in
    rw (t, u) refl

pub merged-both : (a b : ℤ) (x y : ℕ × ℤ) (p q : List (ℕ × ℤ)) → x.0 ≡ y.0 → merged a (x ∷ p) b (y ∷ q) ≡ sum_of a x b y ∷ merged a p b q
merged-both a b x y p q e =
    let t : nat_lt x.0 y.0 ≡ false = grind (arith, nat_tests) in
    let u : nat_lt y.0 x.0 ≡ false = grind (arith, nat_tests) in
    rw (t, u) refl

-- nothing stands at a place before the first
not_at : (from : ℕ) (m : ℕ × ℤ) (ms : List (ℕ × ℤ)) → from < m.0 → (at from (m ∷ ms) ≡ pos 0) × (after from (m ∷ ms) ≡ m ∷ ms)
not_at from m ms l = let t : (m.0 == from) ≡ false = grind (arith, nat_tests) in (rw t refl, rw t refl)

mixed_at : (from to : ℕ) (a : ℤ) (p : List (ℕ × ℤ)) (b : ℤ) (q : List (ℕ × ℤ)) → Ascend from to p → Ascend from to q → IsMixedAt from a p b q
mixed_at from to a [] b [] h k = mixed_none from a b
mixed_at from to a [] b (y ∷ q) h k = mixed_second from a b y q
mixed_at from to a (x ∷ p) b [] h k = first_of from a b x p [] refl refl refl
mixed_at from to a (x ∷ p) b (y ∷ q) h k =
    ⊎_elim
    (λ e. both_of from a b x y p q e (merged-both a b x y p q e))
    (λ (rest : (x.0 < y.0) ⊎ (y.0 < x.0)). ⊎_elim
    (λ (l : x.0 < y.0). first_of from a b x p (y ∷ q) (merged-first a b x y p q l) (not_at from y q (omega (arith, l, h.0))).0 (not_at from y q (omega (arith, l, h.0))).1)
    (λ (l : y.0 < x.0). second_of from a b y (x ∷ p) q (merged-second a b x y p q l) (not_at from x p (omega (arith, l, k.0))).0 (not_at from x p (omega (arith, l, k.0))).1) rest)
    (cases_order x.0 y.0)

-- what is mixed place by place is mixed row by row
pub spread-merged : (n from to : ℕ) (a : ℤ) (p : List (ℕ × ℤ)) (b : ℤ) (q : List (ℕ × ℤ)) → Ascend from to p → Ascend from to q
    → spread from n (merged a p b q) ≡ mixed a (spread from n p) b (spread from n q)
unfolding IsMixedAt
spread-merged zero from to a p b q h k = refl
spread-merged (suc n) from to a p b q h k =
    let is = mixed_at from to a p b q h k in
    spread-suc from n (merged a p b q)
    ∙ ap₂ (λ x xs. x ∷ xs) is.0 (ap (spread (suc from) n) is.1 ∙ spread-merged n (suc from) to a (after from p) b (after from q) (after_ascends from to p h) (after_ascends from to q k))
    ∙ sym (ap₂ (λ xs ys. mixed a xs b ys) (spread-suc from n p) (spread-suc from n q))

-- ---- their order is kept
ascend-scaled : (from to : ℕ) (b : ℤ) (q : List (ℕ × ℤ)) → Ascend from to q → Ascend from to (map (scaled b) q)
ascend-scaled from to b [] h = tt
ascend-scaled from to b (y ∷ q) h = (h.0, h.1, ascend-scaled (suc y.0) to b q h.2)

pub ascend-divided : (from to g : ℕ) (q : List (ℕ × ℤ)) → Ascend from to q → Ascend from to (map (divided g) q)
ascend-divided from to g [] h = tt
ascend-divided from to g (y ∷ q) h = (h.0, h.1, ascend-divided (suc y.0) to g q h.2)

ascend-into : (to : ℕ) (a : ℤ) (x : ℕ × ℤ) (p : List (ℕ × ℤ)) (b : ℤ) → x.0 < to
    → ((q : List (ℕ × ℤ)) → Ascend (suc x.0) to q → Ascend (suc x.0) to (merged a p b q))
    → (from : ℕ) (q : List (ℕ × ℤ)) → from ≤ x.0 → Ascend from to q → Ascend from to (merged a (x ∷ p) b q)
ascend-into to a x p b top again from [] l k = (l, top, again [] tt)
ascend-into to a x p b top again from (y ∷ q) l k =
    ⊎_elim
    (λ (e : x.0 ≡ y.0). subst (Ascend from to) (sym (merged-both a b x y p q e)) (l, top, again q (subst (λ m. Ascend (suc m) to q) (sym e) k.2)))
    (λ (rest : (x.0 < y.0) ⊎ (y.0 < x.0)). ⊎_elim
    (λ (h : x.0 < y.0). subst (Ascend from to) (sym (merged-first a b x y p q h)) (l, top, again (y ∷ q) (h, k.1, k.2)))
    (λ (h : y.0 < x.0). subst (Ascend from to) (sym (merged-second a b x y p q h)) (k.0, k.1, ascend-into to a x p b top again (suc y.0) q h k.2)) rest)
    (cases_order x.0 y.0)

pub ascend-merged : (from to : ℕ) (a : ℤ) (p : List (ℕ × ℤ)) (b : ℤ) (q : List (ℕ × ℤ)) → Ascend from to p → Ascend from to q → Ascend from to (merged a p b q)
ascend-merged from to a [] b q h k = ascend-scaled from to b q k
ascend-merged from to a (x ∷ p) b q h k = ascend-into to a x p b h.1 (λ r. ascend-merged (suc x.0) to a p b r h.2) from q h.0 k

mixes-merged : (a : ℤ) (p : List (ℕ × ℤ)) (b : ℤ) (q : List (ℕ × ℤ)) → Mixes a p b q (merged a p b q)
mixes-merged a p b q = record {
  mixed = λ rows h k. spread-merged rows 0 rows a p b q h k;
  ascend = λ rows h k. ascend-merged 0 rows a p b q h k;
}

-- ---- place by place
pub drop_at : {X : Type 0} (xs : List X) (i : ℕ) (x d : X) → i < length xs → x ≡ get_or xs i d → drop i xs ≡ x ∷ drop (i + 1) xs
drop_at xs i x d l e = drop-cons xs i d l ∙ ap₂ (λ y n. y ∷ drop n xs) (sym e) (let s : suc i ≡ i + 1 = omega arith in s)

-- one more of a list that is written down
pub map_more : {X Y : Type 0} (f : X → Y) (xs : List X) (i : ℕ) (d : X) (old out new : List Y) (y : Y) → i < length xs
    → out ≡ old ++ map f (take i xs) → new ≡ out ++ y ∷ [] → y ≡ f (get_or xs i d) → new ≡ old ++ map f (take (i + 1) xs)
map_more f xs i d old out new y l so_far pushed is =
    pushed ∙ ap₂ (λ s t. s ++ t ∷ []) so_far is ∙ append_assoc old (map f (take i xs)) (f (get_or xs i d) ∷ [])
    ∙ ap (λ ys. old ++ ys) (sym (map-append f (take i xs) (get_or xs i d ∷ []))) ∙ ap (λ ys. old ++ map f ys) (sym (take_more xs i d l))

module _ (a b : ℤ) (p q : List (ℕ × ℤ)) (i j : ℕ) (d x y : ℕ × ℤ) (out new all : List (ℕ × ℤ)) (m : ℕ × ℤ) where
  abbrev Rest : Type 0
  Rest = out ++ merged a (drop i p) b (drop j q) ≡ all

  heads : i < length p → x ≡ get_or p i d → j < length q → y ≡ get_or q j d → Rest → out ++ merged a (x ∷ drop (i + 1) p) b (y ∷ drop (j + 1) q) ≡ all
  heads l e k f rest = ap₂ (λ ps qs. out ++ merged a ps b qs) (sym (drop_at p i x d l e)) (sym (drop_at q j y d k f)) ∙ rest

  pub first_next : i < length p → x ≡ get_or p i d → j < length q → y ≡ get_or q j d → Rest → x.0 < y.0 → new ≡ out ++ m ∷ [] → m ≡ scaled a x
      → new ++ merged a (drop (i + 1) p) b (drop j q) ≡ all
  first_next l e k f rest less pushed is =
      ap₂ (λ s r. s ++ merged a (drop (i + 1) p) b r) (pushed ∙ ap (λ n. out ++ n ∷ []) is) (drop_at q j y d k f)
      ∙ append_assoc out (scaled a x ∷ []) (merged a (drop (i + 1) p) b (y ∷ drop (j + 1) q))
      ∙ ap (λ r. out ++ r) (sym (merged-first a b x y (drop (i + 1) p) (drop (j + 1) q) less)) ∙ heads l e k f rest

  pub second_next : i < length p → x ≡ get_or p i d → j < length q → y ≡ get_or q j d → Rest → y.0 < x.0 → new ≡ out ++ m ∷ [] → m ≡ scaled b y
      → new ++ merged a (drop i p) b (drop (j + 1) q) ≡ all
  second_next l e k f rest less pushed is =
      ap₂ (λ s r. s ++ merged a r b (drop (j + 1) q)) (pushed ∙ ap (λ n. out ++ n ∷ []) is) (drop_at p i x d l e)
      ∙ append_assoc out (scaled b y ∷ []) (merged a (x ∷ drop (i + 1) p) b (drop (j + 1) q))
      ∙ ap (λ r. out ++ r) (sym (merged-second a b x y (drop (i + 1) p) (drop (j + 1) q) less)) ∙ heads l e k f rest

  pub both_next : i < length p → x ≡ get_or p i d → j < length q → y ≡ get_or q j d → Rest → x.0 ≡ y.0 → new ≡ out ++ m ∷ [] → m ≡ sum_of a x b y
      → new ++ merged a (drop (i + 1) p) b (drop (j + 1) q) ≡ all
  both_next l e k f rest one pushed is =
      ap (λ s. s ++ merged a (drop (i + 1) p) b (drop (j + 1) q)) (pushed ∙ ap (λ n. out ++ n ∷ []) is)
      ∙ append_assoc out (sum_of a x b y ∷ []) (merged a (drop (i + 1) p) b (drop (j + 1) q))
      ∙ ap (λ r. out ++ r) (sym (merged-both a b x y (drop (i + 1) p) (drop (j + 1) q) one)) ∙ heads l e k f rest

-- where one is at its end, what is left of both
rest_of_both : (a b : ℤ) (p q : List (ℕ × ℤ)) → (p ≡ []) ⊎ (q ≡ []) → map (scaled a) p ++ map (scaled b) q ≡ merged a p b q
rest_of_both a b p q none =
    ⊎_elim (λ e. ap (λ ps. map (scaled a) ps ++ map (scaled b) q) e ∙ ap (λ ps. merged a ps b q) (sym e))
    (λ e. ap (λ qs. map (scaled a) p ++ map (scaled b) qs) e ∙ append-nil (map (scaled a) p) ∙ sym (merged-none a b p) ∙ ap (λ qs. merged a p b qs) (sym e)) none

-- what is left of both, as slices up to the end, ends the mixture
pub mixes-ended : (a b : ℤ) (p q : List (ℕ × ℤ)) (i j : ℕ) (out first all : List (ℕ × ℤ)) → (length p ≤ i) ⊎ (length q ≤ j)
    → out ++ merged a (drop i p) b (drop j q) ≡ merged a p b q
    → first ≡ out ++ map (scaled a) (take (length p - i) (drop i p)) → all ≡ first ++ map (scaled b) (take (length q - j) (drop j q)) → Mixes a p b q all
mixes-ended a b p q i j out first all ended so_far first_is all_is =
    let none : (drop i p ≡ []) ⊎ (drop j q ≡ []) = ⊎_elim (λ l. inl (drop_all i p l)) (λ l. inr (drop_all j q l)) ended in
    let ps : take (length p - i) (drop i p) ≡ drop i p = take_all (length p - i) (drop i p) (omega (arith, length-drop i p)) in
    let qs : take (length q - j) (drop j q) ≡ drop j q = take_all (length q - j) (drop j q) (omega (arith, length-drop j q)) in
    let is : all ≡ merged a p b q =
    all_is ∙ ap₂ (λ s t. s ++ map (scaled b) t) (first_is ∙ ap (λ r. out ++ map (scaled a) r) ps) qs
    ∙ append_assoc out (map (scaled a) (drop i p)) (map (scaled b) (drop j q))
    ∙ ap (λ r. out ++ r) (rest_of_both a b (drop i p) (drop j q) none) ∙ so_far in
    subst (Mixes a p b q) (sym is) (mixes-merged a p b q)

-- ---- one for each row, row by row
spread_next : (row rows : ℕ) (ms : List (ℕ × ℤ)) (all new whole : List ℤ) (x : ℤ) (rest : List (ℕ × ℤ)) → row < rows
    → all ++ spread row (rows - row) ms ≡ whole → x ≡ at row ms → rest ≡ after row ms → new ≡ all ++ x ∷ [] → new ++ spread (row + 1) (rows - (row + 1)) rest ≡ whole
spread_next row rows ms all new whole x rest l so_far x_is rest_is pushed =
    let left : rows - row ≡ suc (rows - (row + 1)) = omega arith in
    let place : row + 1 ≡ suc row = omega arith in
    ap₂ (λ s k. s ++ spread k (rows - (row + 1)) rest) pushed place
    ∙ append_assoc all (x ∷ []) (spread (suc row) (rows - (row + 1)) rest)
    ∙ ap₂ (λ y r. all ++ y ∷ spread (suc row) (rows - (row + 1)) r) x_is rest_is
    ∙ ap (λ s. all ++ s) (sym (ap (λ k. spread row k ms) left ∙ spread-suc row (rows - (row + 1)) ms)) ∙ so_far

module _ (row rows next : ℕ) (ms : List (ℕ × ℤ)) (d : ℕ × ℤ) (all new whole : List ℤ) (so_far : all ++ spread row (rows - row) (drop next ms) ≡ whole) where
  -- the next multiplier is this row's
  pub spread_taken : row < rows → next < length ms → (get_or ms next d).0 ≡ row → new ≡ all ++ (get_or ms next d).1 ∷ [] → new ++ spread (row + 1) (rows - (row + 1)) (drop (next + 1) ms) ≡ whole
  spread_taken l k e pushed =
      let m = get_or ms next d in
      let test : (m.0 == row) ≡ true = eq-eqb m.0 row e in
      let here : drop next ms ≡ m ∷ drop (next + 1) ms = drop_at ms next m d k refl in
      spread_next row rows (drop next ms) all new whole m.1 (drop (next + 1) ms) l so_far
      (sym (ap (at row) here ∙ ap (λ t. cond t m.1 (pos 0)) test)) (sym (ap (after row) here ∙ ap (λ t. cond t (drop (next + 1) ms) (m ∷ drop (next + 1) ms)) test)) pushed

  -- it is a later row's
  pub spread_skipped : row < rows → next < length ms → ((get_or ms next d).0 ≡ row → ⊥) → new ≡ all ++ pos 0 ∷ [] → new ++ spread (row + 1) (rows - (row + 1)) (drop next ms) ≡ whole
  spread_skipped l k e pushed =
      let m = get_or ms next d in
      let test : (m.0 == row) ≡ false = ⊎_elim (λ t. absurd (e t.1)) (λ t. t.0) (eqb_tells m.0 row) in
      let here : drop next ms ≡ m ∷ drop (next + 1) ms = drop_at ms next m d k refl in
      spread_next row rows (drop next ms) all new whole (pos 0) (drop next ms) l so_far
      (sym (ap (at row) here ∙ ap (λ t. cond t m.1 (pos 0)) test)) (here ∙ sym (ap (after row) here ∙ ap (λ t. cond t (drop (next + 1) ms) (m ∷ drop (next + 1) ms)) test)) pushed

  -- there is none left
  pub spread_ended : row < rows → length ms ≤ next → new ≡ all ++ pos 0 ∷ [] → new ++ spread (row + 1) (rows - (row + 1)) (drop next ms) ≡ whole
  spread_ended l k pushed =
      let none : drop next ms ≡ [] = drop_all next ms k in
      spread_next row rows (drop next ms) all new whole (pos 0) (drop next ms) l so_far (sym (ap (at row) none)) (none ∙ sym (ap (after row) none)) pushed

-- ---- a single one
spread-none : (from n : ℕ) → spread from n [] ≡ replicate n (pos 0)
spread-none from zero = refl
spread-none from (suc n) = ap (λ xs. pos 0 ∷ xs) (spread-none (suc from) n)

pub spread-one : (n from i : ℕ) (x : ℤ) → i < n → spread from n ((from + i, x) ∷ []) ≡ replicate i (pos 0) ++ x ∷ replicate (n - i - 1) (pos 0)
spread-one zero from i x h = absurd (omega arith)
spread-one (suc n) from zero x h =
    let test : (from + 0 == from) ≡ true = eq-eqb (from + 0) from (omega arith) in
    let left : n ≡ suc n - 0 - 1 = omega arith in
    ap (λ t. cond t (x ∷ spread (suc from) n []) (pos 0 ∷ spread (suc from) n ((from + 0, x) ∷ []))) test
    ∙ ap (λ xs. x ∷ xs) (spread-none (suc from) n) ∙ ap (λ k. x ∷ replicate k (pos 0)) left
spread-one (suc n) from (suc i) x h =
    let test : (from + suc i == from) ≡ false = ⊎_elim (λ t. absurd (omega (arith, t.1))) (λ t. t.0) (eqb_tells (from + suc i) from) in
    let place : from + suc i ≡ suc from + i = omega arith in
    let left : n - i - 1 ≡ suc n - suc i - 1 = omega arith in
    ap (λ t. cond t (x ∷ spread (suc from) n []) (pos 0 ∷ spread (suc from) n ((from + suc i, x) ∷ []))) test
    ∙ ap (λ k. pos 0 ∷ spread (suc from) n ((k, x) ∷ [])) place
    ∙ ap (λ xs. pos 0 ∷ xs) (spread-one n (suc from) i x (omega arith))
    ∙ ap (λ k. pos 0 ∷ (replicate i (pos 0) ++ x ∷ replicate k (pos 0))) left
