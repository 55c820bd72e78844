-- Rows that are taken one after another, each by what it gives to the list.
use Rattle.std.proofs.Common.{◌≡◌, ℕ, zero, suc, ◌+◌, ◌<◌, ◌≤◌, Bool, true, false, cond, List, [], ◌∷◌, ◌++◌, length, get_or, take, drop, map, Result, Ok, Err, refl, sym, ap, ap₂, ◌∙◌, subst, arith, append_assoc, of_z, to_z}
use Rattle.std.specs.Prelude.{ℤ, pos, neg_ℤ, ◌-ℤ◌, ◌<ℤ◌, ◌≤ℤ◌, int_lt}
use Rattle.std.specs.List.{All, flat_map, filter}
use Rattle.std.specs.Ordering.{int_eq}
use Rattle.std.proofs.lemmas.Int.{ints}
use Rattle.std.specs.Int.{w64}
use Rattle.crn_linear.specs.Rows.{IsSmall}
use Rattle.std.proofs.lemmas.Bool.Decides.{Decides-int_eq}
use Rattle.std.proofs.lemmas.List.{take_all, take_more, take-append-drop, length-take-le, append-nil}
use Rattle.crn_feasible.specs.declared.rows.Ending.{Ending}
use Rattle.crn_feasible.specs.declared.rows.Ending.TheVariants.{Refuted, TooBig, TooManyRows, Memory}
use Rattle.crn_feasible.specs.declared.rows.KeptRow.{KeptRow}
use Rattle.crn_feasible.specs.Elimination.{Stop, Kept, after, entry, combined, take_row, take_rows}
use Rattle.crn_feasible.proofs.Mixed.{alone}
use Rattle.crn_feasible.specs.Steps.{Ends, kept_of, mixed_rows, IsKeptRow}

-- ---- lists
pub flat_map-append : {A B : Type 0} (f : A → List B) (xs ys : List A) → flat_map f (xs ++ ys) ≡ flat_map f xs ++ flat_map f ys
flat_map-append f [] ys = refl
flat_map-append f (x ∷ xs) ys = ap (λ t. f x ++ t) (flat_map-append f xs ys) ∙ sym (append_assoc (f x) (flat_map f xs) (flat_map f ys))

-- what the rows that pass a test give
pub flat_map-filter : {A B C : Type 0} (test : B → Bool) (g : B → List C) (f : A → B) (xs : List A) → flat_map (λ x. cond (test (f x)) (g (f x)) []) xs ≡ flat_map g (filter test (map f xs))
flat_map-filter test g f [] = refl
flat_map-filter test g f (x ∷ xs) = by (test (f x)) (flat_map-filter test g f xs)
  where
    by : (b : Bool) → flat_map (λ y. cond (test (f y)) (g (f y)) []) xs ≡ flat_map g (filter test (map f xs))
        → cond b (g (f x)) [] ++ flat_map (λ y. cond (test (f y)) (g (f y)) []) xs ≡ flat_map g (cond b (f x ∷ filter test (map f xs)) (filter test (map f xs)))
    by true h = ap (λ t. g (f x) ++ t) h
    by false h = h

pub flat_map-same : {A : Type 0} (xs : List A) → flat_map (λ x. x ∷ []) xs ≡ xs
flat_map-same [] = refl
flat_map-same (x ∷ xs) = ap (λ t. x ∷ t) (flat_map-same xs)

-- ---- steps
after-after : {A B C : Type 0} (r : Result A Stop) (f : A → Result B Stop) (g : B → Result C Stop) → after (after r f) g ≡ after r (λ a. after (f a) g)
after-after (Ok a) f g = refl
after-after (Err e) f g = refl

after-same : {A B : Type 0} (r : Result A Stop) (f g : A → Result B Stop) → ((a : A) → f a ≡ g a) → after r f ≡ after r g
after-same (Ok a) f g h = h a
after-same (Err e) f g h = refl

pub take_rows-append : (rows ks ls : List Kept) → take_rows rows (ks ++ ls) ≡ after (take_rows rows ks) (λ more. take_rows more ls)
take_rows-append rows [] ls = refl
take_rows-append rows (k ∷ ks) ls =
    after-same (take_row rows k) (λ more. take_rows more (ks ++ ls)) (λ more. after (take_rows more ks) (λ m. take_rows m ls)) (λ more. take_rows-append more ks ls)
    ∙ sym (after-after (take_row rows k) (λ more. take_rows more ks) (λ m. take_rows m ls))

-- an ending of the first part is one of all
pub ends_after : {A B : Type 0} (r : Result A Stop) (f : A → Result B Stop) (e : Ending) → Ends r e → Ends (after r f) e
ends_after r f (Refuted c) h = ap (λ t. after t f) h
ends_after r f TooBig h = ap (λ t. after t f) h
ends_after r f TooManyRows h = ap (λ t. after t f) h
ends_after r f Memory h = tt

pub ends_same : {A : Type 0} (r s : Result A Stop) (e : Ending) → r ≡ s → Ends r e → Ends s e
ends_same r s e h k = subst (λ t. Ends t e) h k

-- ---- in turn
module _ {X : Type 0} (start : List Kept) (part : X → List Kept) (items : List X) where
  abbrev pub Taken : ℕ → List Kept → Type 0
  Taken i now = take_rows start (flat_map part (take i items)) ≡ Ok now

  one_more : (i : ℕ) (r : X) → i < length items → r ≡ get_or items i r → flat_map part (take (i + 1) items) ≡ flat_map part (take i items) ++ part r
  one_more i r l e =
      ap (flat_map part) (take_more items i r l ∙ ap (λ s. take i items ++ s ∷ []) (sym e)) ∙ flat_map-append part (take i items) (r ∷ [])
      ∙ ap (λ t. flat_map part (take i items) ++ t) (append-nil (part r))

  -- with the rows of one more
  pub step : (i : ℕ) (r : X) (now next ks : List Kept) → i < length items → r ≡ get_or items i r → part r ≡ ks → Taken i now → take_rows now ks ≡ Ok next → Taken (i + 1) next
  step i r now next ks l e p h k =
      ap (take_rows start) (one_more i r l e) ∙ take_rows-append start (flat_map part (take i items)) (part r)
      ∙ ap (λ t. after t (λ more. take_rows more (part r))) h ∙ ap (take_rows now) p ∙ k

  -- an ending there is one of all
  pub stop : (i : ℕ) (r : X) (now ks : List Kept) (e : Ending) → i < length items → r ≡ get_or items i r → part r ≡ ks → Taken i now → Ends (take_rows now ks) e → Ends (take_rows start (flat_map part items)) e
  stop i r now ks e l f p h k =
      let first : take_rows start (flat_map part (take (i + 1) items)) ≡ take_rows now ks =
      ap (take_rows start) (one_more i r l f) ∙ take_rows-append start (flat_map part (take i items)) (part r)
      ∙ ap (λ t. after t (λ more. take_rows more (part r))) h ∙ ap (take_rows now) p in
      let rest = flat_map part (drop (i + 1) items) in
      let all : take_rows start (flat_map part items) ≡ after (take_rows start (flat_map part (take (i + 1) items))) (λ more. take_rows more rest) =
      ap (λ xs. take_rows start (flat_map part xs)) (sym (take-append-drop (i + 1) items)) ∙ ap (take_rows start) (flat_map-append part (take (i + 1) items) (drop (i + 1) items))
      ∙ take_rows-append start (flat_map part (take (i + 1) items)) rest in
      subst (λ t. Ends t e) (sym all) (ends_after (take_rows start (flat_map part (take (i + 1) items))) (λ more. take_rows more rest) e (subst (λ t. Ends t e) (sym first) k))

  -- all were taken
  pub done : (i : ℕ) (now : List Kept) → length items ≤ i → Taken i now → take_rows start (flat_map part items) ≡ Ok now
  done i now l h = ap (λ xs. take_rows start (flat_map part xs)) (sym (take_all i items l)) ∙ h

-- ---- the tests of a column
pub get_or-take : (n v : ℕ) (xs : List ℤ) (d : ℤ) → v < n → get_or (take n xs) v d ≡ get_or xs v d
get_or-take zero v xs d h = absurd (omega arith)
get_or-take (suc n) v [] d h = refl
get_or-take (suc n) zero (x ∷ xs) d h = refl
get_or-take (suc n) (suc v) (x ∷ xs) d h = get_or-take n v xs d (omega arith)

pub entry_there : (columns sources v : ℕ) (r : KeptRow) → v < columns → get_or r.entries v (pos 0) ≡ entry v (kept_of columns sources r)
entry_there columns sources v r h = sym (get_or-take columns v r.entries (pos 0) h)

pub is_zero_test : (z : ℤ) → z ≡ pos 0 → int_eq z (pos 0) ≡ true
is_zero_test z h = (Decides-int_eq z (pos 0)).1 h

pub not_zero_test : (z : ℤ) → (z ≡ pos 0 → ⊥) → int_eq z (pos 0) ≡ false
not_zero_test z h = by (int_eq z (pos 0)) refl
  where
    by : (b : Bool) → int_eq z (pos 0) ≡ b → b ≡ false
    by true e = absurd (h ((Decides-int_eq z (pos 0)).0 e))
    by false e = refl

pub above_test : (z : ℤ) → pos 0 <ℤ z → int_lt (pos 0) z ≡ true
above_test z h = let e : true ≡ int_lt (pos 0) z = omega (arith, ints) in sym e

pub not_above_test : (z : ℤ) → z ≤ℤ pos 0 → int_lt (pos 0) z ≡ false
not_above_test z h = let e : false ≡ int_lt (pos 0) z = omega (arith, ints) in sym e

-- ---- the rows of a list
pub take_single : (rows : List Kept) (k : Kept) → take_rows rows (k ∷ []) ≡ take_row rows k
take_single rows k = by (take_row rows k)
  where
    by : (r : Result (List Kept) Stop) → after r (λ more. take_rows more []) ≡ r
    by (Ok a) = refl
    by (Err e) = refl

-- a row alone, by its numbers of columns and of rows
pub alone_taken : (rows : List Kept) (columns sources m n : ℕ) (r : KeptRow) → m ≡ columns → n ≡ sources
    → take_row rows (mixed_rows (pos 1) (kept_of m n r) (pos 0) (kept_of m n r)) ≡ take_rows rows (kept_of columns sources r ∷ [])
alone_taken rows columns sources m n r e f =
    ap (take_row rows) (alone (kept_of m n r)) ∙ ap₂ (λ k l. take_row rows (kept_of k l r)) e f ∙ sym (take_single rows (kept_of columns sources r))

-- two rows combined
pub pair_taken : (rows : List Kept) (columns sources l m v : ℕ) (p n : KeptRow) (a b : ℤ) → l ≡ columns → m ≡ sources
    → a ≡ neg_ℤ (entry v (kept_of columns sources n)) → b ≡ entry v (kept_of columns sources p)
    → take_row rows (mixed_rows a (kept_of l m p) b (kept_of l m n)) ≡ take_rows rows (combined v (kept_of columns sources p) (kept_of columns sources n) ∷ [])
unfolding combined
pair_taken rows columns sources l m v p n a b e f g h =
    ap₂ (λ s t. take_row rows (mixed_rows a (kept_of s t p) b (kept_of s t n))) e f
    ∙ ap₂ (λ x y. take_row rows (mixed_rows x (kept_of columns sources p) y (kept_of columns sources n))) g h
    ∙ sym (take_single rows (mixed_rows (neg_ℤ (entry v (kept_of columns sources n))) (kept_of columns sources p) (entry v (kept_of columns sources p)) (kept_of columns sources n)))

pub kept_at : (columns sources : ℕ) (rows : List KeptRow) (i : ℕ) (r : KeptRow) → All (IsKeptRow columns sources) rows → i < length rows → r ≡ get_or rows i r → IsKeptRow columns sources r
kept_at columns sources rows i r h l e = subst (IsKeptRow columns sources) (sym e) (h i r l)

-- a small number by its bits
pub zero_bits : (x : ℤ) → IsSmall x → of_z w64 x ≡ 0 → x ≡ pos 0
zero_bits x s e = omega (arith, ints, s.size)

pub small_at : (columns sources v : ℕ) (r : KeptRow) → IsKeptRow columns sources r → v < columns → columns ≤ 9 → IsSmall (get_or r.entries v (pos 0))
small_at columns sources v r k l few =
    let long : length (take columns r.entries) ≡ columns = length-take-le columns r.entries (omega (arith, few, k.nine)) in
    subst IsSmall (get_or-take columns v r.entries (pos 0) l) (k.small v (pos 0) (omega (arith, l, long)))

-- and its negative
pub negated : (x z : ℤ) → IsSmall x → x ≡ z → to_z w64 (of_z w64 (pos 0 -ℤ to_z w64 (of_z w64 x))) ≡ neg_ℤ z
negated x z s e = omega (arith, ints, s.size)

pub itself : (x z : ℤ) → IsSmall x → x ≡ z → to_z w64 (of_z w64 x) ≡ z
itself x z s e = omega (arith, ints, s.size)
