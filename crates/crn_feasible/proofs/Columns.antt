-- The next coordinate: the bounds that the rows ask leave room for it, and with it each row is met.
use Rattle.std.proofs.Common.{◌≡◌, ◌⊎◌, ⊎_elim, inl, inr, ℕ, zero, suc, Bool, true, false, cond, List, [], ◌∷◌, ◌++◌, length, get_or, map, refl, sym, ap, ap₂, ◌∙◌, subst, arith}
use Rattle.std.specs.Prelude.{ℤ, pos, negsuc, neg_ℤ, ◌<ℤ◌, int_lt}
use Rattle.std.specs.List.{filter, flat_map}
use Rattle.std.specs.Ordering.{int_eq}
use Rattle.std.proofs.lemmas.Int.{ints}
use Rattle.std.proofs.lemmas.Bool.Decides.{Decides-int_eq}
use Rattle.std.proofs.lemmas.Bool.{false≢true}
use Rattle.crn_fraction.specs.Rational.{ℚ, whole, neg_ℚ, ◌+ℚ◌, ◌-ℚ◌, ◌*ℚ◌, ◌<ℚ◌}
use Rattle.crn_fraction.proofs.Ring.{ring_ℚ, q-writes}
use Rattle.crn_fraction.proofs.Ratios.{neg_ℚ-ratio}
use Rattle.crn_fraction.proofs.Order.{over-same}
use Rattle.crn_fraction.proofs.Products.{*ℚ-/ℚ, *ℚ-positive, whole-positive}
use Rattle.crn_linear.specs.Rows.{IsBelow, value}
use Rattle.crn_feasible.specs.Elimination.{Kept, entry, zeros, positives, negatives, combined, without, bound, between}
use Rattle.crn_farkas.specs.Mixtures.{mixed}
use Rattle.crn_feasible.proofs.Divisors.{value-push}
use Rattle.crn_farkas.proofs.Mixing.{value-mixed}
use Rattle.crn_feasible.proofs.Orders.{Each, positive_times, positive_of_times, IsBelow-difference}
use Rattle.crn_feasible.proofs.Between.{Pair, between_keeps, Each-both, Each-from_map}
use Rattle.crn_feasible.proofs.Taking.{Met, Each-left, Each-right}

-- ---- filters
unfilter_by : {A : Type 0} (P R : A → Type 0) (x : A) (xs kept : List A) (b : Bool) → (Each P kept → Each R xs) → Each P (cond b (x ∷ kept) kept) → (b ≡ true → P x) × Each R xs
unfilter_by P R x xs kept true f h = (λ e. h.0, f h.1)
unfilter_by P R x xs kept false f h = (λ (e : false ≡ true). absurd (false≢true e), f h)

pub Each-unfilter : {A : Type 0} (P : A → Type 0) (test : A → Bool) (xs : List A) → Each P (filter test xs) → Each (λ x. test x ≡ true → P x) xs
Each-unfilter P test [] h = tt
Each-unfilter P test (x ∷ xs) h =
    unfilter_by P (λ y. test y ≡ true → P y) x xs (filter test xs) (test x) (λ g. Each-unfilter P test xs g) h

passes_by : {A : Type 0} (P : A → Type 0) (x : A) (kept : List A) (b : Bool) → (b ≡ true → P x) → Each P kept → Each P (cond b (x ∷ kept) kept)
passes_by P x kept true f h = (f refl, h)
passes_by P x kept false f h = h

pub Each-passes : {A : Type 0} (test : A → Bool) (xs : List A) → Each (λ x. test x ≡ true) (filter test xs)
Each-passes test [] = tt
Each-passes test (x ∷ xs) = passes_by (λ y. test y ≡ true) x (filter test xs) (test x) (λ e. e) (Each-passes test xs)

pub Each-filter : {A : Type 0} (P : A → Type 0) (test : A → Bool) (xs : List A) → Each P xs → Each P (filter test xs)
Each-filter P test [] h = tt
Each-filter P test (x ∷ xs) h = passes_by P x (filter test xs) (test x) (λ e. h.0) (Each-filter P test xs h.1)

pub Each-flat_map : {A B : Type 0} (P : B → Type 0) (f : A → List B) (xs : List A) → Each P (flat_map f xs) → Each (λ x. Each P (f x)) xs
Each-flat_map P f [] h = tt
Each-flat_map P f (x ∷ xs) h = (Each-left P (f x) (flat_map f xs) h, Each-flat_map P f xs (Each-right P (f x) (flat_map f xs) h))

-- ---- arithmetic
back : (w p a : ℚ) → w *ℚ a ≡ neg_ℚ p → p ≡ neg_ℚ (w *ℚ a)
back w p a e = ring_ℚ (p ∷ []) {y = neg_ℚ (neg_ℚ p)} (search q-writes depth 20) (search q-writes depth 20) refl ∙ ap neg_ℚ (sym e)

cross : (wn wp p n a b : ℚ) → wp *ℚ a ≡ neg_ℚ p → wn *ℚ b ≡ neg_ℚ n → neg_ℚ wn *ℚ p +ℚ wp *ℚ n ≡ (neg_ℚ wn *ℚ wp) *ℚ (b -ℚ a)
cross wn wp p n a b e f =
    ap₂ (λ s t. neg_ℚ wn *ℚ s +ℚ wp *ℚ t) (back wp p a e) (back wn n b f)
    ∙ ring_ℚ (wn ∷ wp ∷ a ∷ b ∷ []) (search q-writes depth 20) (search q-writes depth 20) refl

low_row : (wp p a x : ℚ) → wp *ℚ a ≡ neg_ℚ p → p +ℚ wp *ℚ x ≡ wp *ℚ (x -ℚ a)
low_row wp p a x e =
    ap (λ s. s +ℚ wp *ℚ x) (back wp p a e) ∙ ring_ℚ (wp ∷ a ∷ x ∷ []) (search q-writes depth 20) (search q-writes depth 20) refl

high_row : (wn n b x : ℚ) → wn *ℚ b ≡ neg_ℚ n → n +ℚ wn *ℚ x ≡ neg_ℚ wn *ℚ (b -ℚ x)
high_row wn n b x e =
    ap (λ s. s +ℚ wn *ℚ x) (back wn n b e) ∙ ring_ℚ (wn ∷ b ∷ x ∷ []) (search q-writes depth 20) (search q-writes depth 20) refl

whole-neg : (z : ℤ) → whole (neg_ℤ z) ≡ neg_ℚ (whole z)
whole-neg z = sym (neg_ℚ-ratio z 1 (omega arith))

negative_positive : (z : ℤ) → z <ℤ pos 0 → whole (pos 0) <ℚ neg_ℚ (whole z)
negative_positive z h = subst (λ t. whole (pos 0) <ℚ t) (whole-neg z) (whole-positive (neg_ℤ z) (omega (arith, ints)))

nonzero_low : (z : ℤ) → pos 0 <ℤ z → whole z ≡ whole (pos 0) → ⊥
nonzero_low z h e = let f = (over-same z 1 (pos 0) (omega arith)).0 e in omega (arith, ints)

nonzero_high : (z : ℤ) → z <ℤ pos 0 → whole z ≡ whole (pos 0) → ⊥
nonzero_high z h e = let f = (over-same z 1 (pos 0) (omega arith)).0 e in omega (arith, ints)

-- ---- one column
module _ (v : ℕ) (xs : List ℚ) where
  low_back : (k : Kept) → pos 0 <ℤ entry v k → whole (entry v k) *ℚ bound v xs k ≡ neg_ℚ (value k.row.entries xs)
  unfolding bound
  low_back k h = *ℚ-/ℚ (neg_ℚ (value k.row.entries xs)) (whole (entry v k)) (nonzero_low (entry v k) h)

  high_back : (k : Kept) → entry v k <ℤ pos 0 → whole (entry v k) *ℚ bound v xs k ≡ neg_ℚ (value k.row.entries xs)
  unfolding bound
  high_back k h = *ℚ-/ℚ (neg_ℚ (value k.row.entries xs)) (whole (entry v k)) (nonzero_high (entry v k) h)

  combined_value : (p n : Kept) → value (mixed (neg_ℤ (entry v n)) p.row.entries (entry v p) n.row.entries) xs
      ≡ neg_ℚ (whole (entry v n)) *ℚ value p.row.entries xs +ℚ whole (entry v p) *ℚ value n.row.entries xs
  combined_value p n =
      value-mixed (neg_ℤ (entry v n)) p.row.entries (entry v p) n.row.entries xs
      ∙ ap (λ t. t *ℚ value p.row.entries xs +ℚ whole (entry v p) *ℚ value n.row.entries xs) (whole-neg (entry v n))

  -- the combination of two rows says that the lower bound of one is below the upper bound of the other
  pair_bounds : (p n : Kept) → pos 0 <ℤ entry v p → entry v n <ℤ pos 0 → Met xs (combined v p n)
      → Pair (λ (k : Kept). k.row.strict) (bound v xs) p n
  unfolding combined
  pair_bounds p n hp hn m =
      let s : Bool = cond p.row.strict true n.row.strict in
      let wn : ℚ = whole (entry v n) in
      let wp : ℚ = whole (entry v p) in
      let e : value (mixed (neg_ℤ (entry v n)) p.row.entries (entry v p) n.row.entries) xs ≡ (neg_ℚ wn *ℚ wp) *ℚ (bound v xs n -ℚ bound v xs p) =
      combined_value p n ∙ cross wn wp (value p.row.entries xs) (value n.row.entries xs) (bound v xs p) (bound v xs n) (low_back p hp) (high_back n hn) in
      (IsBelow-difference s (bound v xs p) (bound v xs n)).0
      (positive_of_times s (neg_ℚ wn *ℚ wp) (bound v xs n -ℚ bound v xs p)
      (*ℚ-positive (neg_ℚ wn) wp (negative_positive (entry v n) hn) (whole-positive (entry v p) hp))
      (subst (λ t. IsBelow s (whole (pos 0)) t) e m))

  module _ (x : ℚ) (long : length xs ≡ v) where
    pushed : (k : Kept) → value k.row.entries (xs ++ x ∷ []) ≡ value k.row.entries xs +ℚ whole (entry v k) *ℚ x
    pushed k = value-push k.row.entries xs x ∙ ap (λ i. value k.row.entries xs +ℚ whole (get_or k.row.entries i (pos 0)) *ℚ x) long

    low_met : (k : Kept) → pos 0 <ℤ entry v k → IsBelow k.row.strict (bound v xs k) x → Met (xs ++ x ∷ []) k
    low_met k h l =
        let s = k.row.strict in
        let w : ℚ = whole (entry v k) in
        let e : value k.row.entries (xs ++ x ∷ []) ≡ w *ℚ (x -ℚ bound v xs k) = pushed k ∙ low_row w (value k.row.entries xs) (bound v xs k) x (low_back k h) in
        subst (λ t. IsBelow s (whole (pos 0)) t) (sym e)
        (positive_times s w (x -ℚ bound v xs k) (whole-positive (entry v k) h) ((IsBelow-difference s (bound v xs k) x).1 l))

    high_met : (k : Kept) → entry v k <ℤ pos 0 → IsBelow k.row.strict x (bound v xs k) → Met (xs ++ x ∷ []) k
    high_met k h l =
        let s = k.row.strict in
        let w : ℚ = whole (entry v k) in
        let e : value k.row.entries (xs ++ x ∷ []) ≡ neg_ℚ w *ℚ (bound v xs k -ℚ x) = pushed k ∙ high_row w (value k.row.entries xs) (bound v xs k) x (high_back k h) in
        subst (λ t. IsBelow s (whole (pos 0)) t) (sym e)
        (positive_times s (neg_ℚ w) (bound v xs k -ℚ x) (negative_positive (entry v k) h) ((IsBelow-difference s x (bound v xs k)).1 l))

    zero_met : (k : Kept) → entry v k ≡ pos 0 → Met xs k → Met (xs ++ x ∷ []) k
    zero_met k h m =
        let e : value k.row.entries (xs ++ x ∷ []) ≡ value k.row.entries xs =
        pushed k ∙ ap (λ z. value k.row.entries xs +ℚ whole z *ℚ x) h
        ∙ ring_ℚ (value k.row.entries xs ∷ x ∷ []) (search q-writes depth 20) (search q-writes depth 20) refl in
        subst (λ t. IsBelow k.row.strict (whole (pos 0)) t) (sym e) m

low_test : (z : ℤ) → int_lt (pos 0) z ≡ true → pos 0 <ℤ z
low_test z h = omega (arith, ints)

high_test : (z : ℤ) → int_lt z (pos 0) ≡ true → z <ℤ pos 0
high_test z h = omega (arith, ints)

abbrev IsLow : ℕ → Kept → Type 0
IsLow v k = int_lt (pos 0) (entry v k) ≡ true

abbrev IsHigh : ℕ → Kept → Type 0
IsHigh v k = int_lt (entry v k) (pos 0) ≡ true

abbrev IsNone : ℕ → Kept → Type 0
IsNone v k = int_eq (entry v k) (pos 0) ≡ true

three_tests : (z : ℤ) → (int_lt (pos 0) z ≡ true) ⊎ ((int_lt z (pos 0) ≡ true) ⊎ (int_eq z (pos 0) ≡ true))
three_tests (pos zero) = inr (inr ((Decides-int_eq (pos 0) (pos 0)).1 refl))
three_tests (pos (suc n)) = inl (let e : true ≡ int_lt (pos 0) (pos (suc n)) = omega (arith, ints) in sym e)
three_tests (negsuc n) = inr (inl (let e : true ≡ int_lt (negsuc n) (pos 0) = omega (arith, ints) in sym e))

by_sign : (P : Kept → Type 0) (v : ℕ) (k : Kept) → (IsNone v k → P k) → (IsLow v k → P k) → (IsHigh v k → P k) → P k
by_sign P v k z l h = ⊎_elim (λ e. l e) (λ r. ⊎_elim (λ e. h e) (λ e. z e) r) (three_tests (entry v k))

-- coordinates that meet all rows without column v, and the next one between the bounds, meet all rows
pub column_met : (v : ℕ) (xs : List ℚ) (rows : List Kept) → length xs ≡ v → Each (Met xs) (without v rows)
    → Each (Met (xs ++ between (map (bound v xs) (positives v rows)) (map (bound v xs) (negatives v rows)) ∷ [])) rows
column_met v xs rows long m =
    let ps = positives v rows in
    let ns = negatives v rows in
    let x : ℚ = between (map (bound v xs) ps) (map (bound v xs) ns) in
    let strict : Kept → Bool = λ k. k.row.strict in
    let b = bound v xs in
    let combos = flat_map (λ p. map (combined v p) ns) ps in
    let zs : Each (Met xs) (zeros v rows) = Each-left (Met xs) (zeros v rows) combos m in
    let all : Each (λ p. Each (Met xs) (map (combined v p) ns)) ps =
    Each-flat_map (Met xs) (λ p. map (combined v p) ns) ps (Each-right (Met xs) (zeros v rows) combos m) in
    let lows : Each (IsLow v) ps = Each-passes (λ k. int_lt (pos 0) (entry v k)) rows in
    let highs : Each (IsHigh v) ns = Each-passes (λ k. int_lt (entry v k) (pos 0)) rows in
    let pairs : Each (λ p. Each (Pair strict b p) ns) ps =
    Each-both (IsLow v) (λ p. Each (Met xs) (map (combined v p) ns)) (λ p. Each (Pair strict b p) ns)
    (λ p hp mp. Each-both (IsHigh v) (λ n. Met xs (combined v p n)) (Pair strict b p)
    (λ n hn mn. pair_bounds v xs p n (low_test (entry v p) hp) (high_test (entry v n) hn) mn)
    ns highs (Each-from_map (Met xs) (combined v p) ns mp))
    ps lows all in
    let room = between_keeps strict b ps ns pairs in
    let New : Kept → Type 0 = Met (xs ++ x ∷ []) in
    let low_all : Each New ps =
    Each-both (IsLow v) (λ p. IsBelow p.row.strict (b p) x) New (λ p h l. low_met v xs x long p (low_test (entry v p) h) l) ps lows room.0 in
    let high_all : Each New ns =
    Each-both (IsHigh v) (λ n. IsBelow n.row.strict x (b n)) New (λ n h l. high_met v xs x long n (high_test (entry v n) h) l) ns highs room.1 in
    let zero_tests : Each (IsNone v) (zeros v rows) = Each-passes (λ k. int_eq (entry v k) (pos 0)) rows in
    let zero_all : Each New (zeros v rows) =
    Each-both (IsNone v) (Met xs) New (λ k h l. zero_met v xs x long k ((Decides-int_eq (entry v k) (pos 0)).0 h) l) (zeros v rows) zero_tests zs in
    Each-both (λ k. (IsNone v k → New k)) (λ k. (IsLow v k → New k) × (IsHigh v k → New k)) New
    (λ k z lh. by_sign New v k z lh.0 lh.1) rows
    (Each-unfilter New (λ k. int_eq (entry v k) (pos 0)) rows zero_all)
    (Each-both (λ k. IsLow v k → New k) (λ k. IsHigh v k → New k) (λ k. (IsLow v k → New k) × (IsHigh v k → New k)) (λ k l h. (l, h)) rows
    (Each-unfilter New (λ k. int_lt (pos 0) (entry v k)) rows low_all)
    (Each-unfilter New (λ k. int_lt (entry v k) (pos 0)) rows high_all))
