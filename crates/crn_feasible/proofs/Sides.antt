-- The bounds that rows set, row by row.
use Rattle.std.proofs.Common.{◌≡◌, ℕ, zero, suc, ◌+◌, ◌<◌, ◌≤◌, Bool, true, false, cond, ◌&&◌, List, [], ◌∷◌, ◌++◌, length, get_or, take, drop, map, refl, sym, ap, ap₂, ◌∙◌, arith, append_assoc, Result, Ok, Err}
use Rattle.std.specs.Prelude.{ℤ, is_ok, if◌then◌else◌}
use Rattle.std.specs.Result.{is_err}
use Rattle.std.specs.List.{list_all}
use Rattle.std.proofs.lemmas.List.{take_more, take-append-drop, append-nil}
use Rattle.std.proofs.lemmas.List.Folds.{list_all-append}
use Rattle.std.proofs.lemmas.Bool.{and_right, and_left, both_ways}
use Rattle.crn_fraction.specs.Rational.{ℚ, whole, neg_ℚ, ◌+ℚ◌, ◌*ℚ◌, ◌/ℚ◌}
use Rattle.crn_linear.specs.Rows.{value}
use Rattle.crn_feasible.specs.declared.rows.KeptRow.{KeptRow}
use Rattle.crn_feasible.specs.Elimination.{Kept, entry, bound, fits_ℚ}
use Rattle.crn_feasible.specs.Steps.{kept_of}
use Rattle.crn_feasible.specs.Chosen.{is_on, side, bounds}
use Rattle.crn_feasible.proofs.Divisors.{value-nil}

-- a row of the list gives its bound where it is on the side
abbrev pub bound_part : (positive : Bool) → (v : ℕ) → List ℚ → Kept → List ℚ
bound_part positive v xs k = cond (is_on positive (entry v k)) (bound v xs k ∷ []) []

bounds-cons : (positive : Bool) (v : ℕ) (xs : List ℚ) (k : Kept) (ks : List Kept) → bounds positive v xs (k ∷ ks) ≡ bound_part positive v xs k ++ bounds positive v xs ks
bounds-cons positive v xs k ks = by (is_on positive (entry v k))
  where
    by : (b : Bool) → map (bound v xs) (cond b (k ∷ side positive v ks) (side positive v ks)) ≡ cond b (bound v xs k ∷ []) [] ++ map (bound v xs) (side positive v ks)
    by true = refl
    by false = refl

bounds-append : (positive : Bool) (v : ℕ) (xs : List ℚ) (ks ls : List Kept) → bounds positive v xs (ks ++ ls) ≡ bounds positive v xs ks ++ bounds positive v xs ls
bounds-append positive v xs [] ls = refl
bounds-append positive v xs (k ∷ ks) ls =
    bounds-cons positive v xs k (ks ++ ls) ∙ ap (λ t. bound_part positive v xs k ++ t) (bounds-append positive v xs ks ls)
    ∙ sym (append_assoc (bound_part positive v xs k) (bounds positive v xs ks) (bounds positive v xs ls))
    ∙ ap (λ t. t ++ bounds positive v xs ls) (sym (bounds-cons positive v xs k ks))

map-append : {A B : Type 0} (f : A → B) (xs ys : List A) → map f (xs ++ ys) ≡ map f xs ++ map f ys
map-append f [] ys = refl
map-append f (x ∷ xs) ys = ap (λ t. f x ∷ t) (map-append f xs ys)

module _ (positive : Bool) (columns sources v : ℕ) (xs : List ℚ) (rows : List KeptRow) (i : ℕ) (r : KeptRow) (l : i < length rows) (e : r ≡ get_or rows i r) where
  abbrev so_far : ℕ → List ℚ
  so_far n = bounds positive v xs (map (kept_of columns sources) (take n rows))

  -- with one more row
  pub bounds_more : so_far (i + 1) ≡ so_far i ++ bound_part positive v xs (kept_of columns sources r)
  bounds_more =
      ap (λ rs. bounds positive v xs (map (kept_of columns sources) rs)) (take_more rows i r l ∙ ap (λ s. take i rows ++ s ∷ []) (sym e))
      ∙ ap (bounds positive v xs) (map-append (kept_of columns sources) (take i rows) (r ∷ []))
      ∙ bounds-append positive v xs (map (kept_of columns sources) (take i rows)) (kept_of columns sources r ∷ [])
      ∙ ap (λ t. so_far i ++ t) (bounds-cons positive v xs (kept_of columns sources r) [] ∙ append-nil (bound_part positive v xs (kept_of columns sources r)))

  -- a bound that is too big
  pub bound_missed : (q : ℚ) → bound_part positive v xs (kept_of columns sources r) ≡ q ∷ [] → fits_ℚ q ≡ false → list_all fits_ℚ (bounds positive v xs (map (kept_of columns sources) rows)) ≡ false
  bound_missed q p h =
      let rest = bounds positive v xs (map (kept_of columns sources) (drop (i + 1) rows)) in
      let all : bounds positive v xs (map (kept_of columns sources) rows) ≡ so_far (i + 1) ++ rest =
      ap (λ rs. bounds positive v xs (map (kept_of columns sources) rs)) (sym (take-append-drop (i + 1) rows))
      ∙ ap (bounds positive v xs) (map-append (kept_of columns sources) (take (i + 1) rows) (drop (i + 1) rows))
      ∙ bounds-append positive v xs (map (kept_of columns sources) (take (i + 1) rows)) (map (kept_of columns sources) (drop (i + 1) rows)) in
      let one : list_all fits_ℚ (q ∷ []) ≡ false = ap (λ t. t && true) h in
      let first : list_all fits_ℚ (so_far (i + 1)) ≡ false =
      ap (list_all fits_ℚ) (bounds_more ∙ ap (λ t. so_far i ++ t) p) ∙ list_all-append fits_ℚ (so_far i) (q ∷ []) ∙ and_right (list_all fits_ℚ (so_far i)) (list_all fits_ℚ (q ∷ [])) one in
      ap (list_all fits_ℚ) all ∙ list_all-append fits_ℚ (so_far (i + 1)) rest ∙ and_left (list_all fits_ℚ (so_far (i + 1))) (list_all fits_ℚ rest) first

-- bounds that all fit, and one more
pub fits_push : (qs : List ℚ) (q : ℚ) → list_all fits_ℚ qs ≡ true → fits_ℚ q ≡ true → list_all fits_ℚ (qs ++ q ∷ []) ≡ true
fits_push qs q h k = list_all-append fits_ℚ qs (q ∷ []) ∙ ap₂ (λ a b. a && (b && true)) h k

-- ---- the bound of a row
value_cut : (n m : ℕ) (r : List ℤ) (xs : List ℚ) → length xs ≤ n → length xs ≤ m → value (take n r) xs ≡ value (take m r) xs
value_cut n m r [] h k = value-nil (take n r) ∙ sym (value-nil (take m r))
value_cut zero m r (x ∷ xs) h k = absurd (omega arith)
value_cut (suc n) zero r (x ∷ xs) h k = absurd (omega arith)
value_cut (suc n) (suc m) [] (x ∷ xs) h k = refl
value_cut (suc n) (suc m) (a ∷ r) (x ∷ xs) h k = ap (λ t. whole a *ℚ x +ℚ t) (value_cut n m r xs (omega arith) (omega arith))

pub bound_of : (columns sources v : ℕ) (xs : List ℚ) (r : KeptRow) (z : ℤ) → v < columns → length xs ≡ v → z ≡ entry v (kept_of columns sources r)
    → neg_ℚ (value (take v r.entries) xs) /ℚ whole z ≡ bound v xs (kept_of columns sources r)
unfolding bound
bound_of columns sources v xs r z h l e =
    ap₂ (λ t w. neg_ℚ t /ℚ whole w) (value_cut v columns r.entries xs (omega (arith, l)) (omega (arith, l, h))) e

-- ---- entries that are not on the side are no divisors

-- a push that went well
pub pushed : {X T E : Type 0} (r : Result T E) (new old : List X) (x : X) (b : Bool) → new ≡ (if is_ok r then old ++ x ∷ [] else old) → b ≡ is_err r → b ≡ false → new ≡ old ++ x ∷ []
pushed (Ok t) new old x b h e f = h
pushed (Err t) new old x b h e f = absurd (both_ways b f e)
