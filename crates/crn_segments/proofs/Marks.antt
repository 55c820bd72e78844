-- The marked sums of a step, one species after another.
use Rattle.std.proofs.Common.{◌≡◌, ◌≢◌, ℕ, zero, suc, ◌+◌, ◌-◌, ◌<◌, ◌≤◌, ◌==◌, if◌then◌else◌, true, false, List, [], ◌∷◌, ◌++◌, length, get_or, set, Option, Some, None, refl, sym, ◌∙◌, ap, ap₂, subst, ◌⊎◌, inl, inr, ⊎_elim, arith}
use Rattle.std.proofs.lemmas.Bool.Decides.{nat_tests}
use Rattle.std.proofs.lemmas.List.{get_or_read, get_or-set_same, get_or-set_other, length-set, length_push}
use Rattle.std.proofs.lemmas.List.Elements.{Contains-append_left, Contains-append_cases, Contains-push}
use Rattle.std.specs.List.{Contains}
use Rattle.std.proofs.lemmas.Bool.{cases_eq}
use Rattle.crn_fraction.specs.Rational.{ℚ, 0ℚ, ◌≤ℚ◌}
use Rattle.crn_net.specs.Network.{amount}
use Rattle.crn_segments.proofs.Amounts.{amount-set_same, amount-set_other}
use Rattle.crn_segments.proofs.SignLaws.{not_negative_is}
use Rattle.crn_segments.specs.Step.{sum_refusal}
use Rattle.crn_segments.specs.Sums.{mark_of, by_mark, sum_at, is_free, free, RoomOf, sum_with, sum_where, mark_refusal}
use Rattle.crn_segments.specs.declared.StepError.TheVariants.{TakesMore}
use Rattle.crn_segments.specs.declared.work.Mark.{Mark}
use Rattle.crn_segments.specs.declared.work.Mark.TheVariants.{Untouched, Fits, TooBig}

pub mark_of-set_same : (ms : List Mark) (s : ℕ) (y : Mark) → 1 ≤ s → s ≤ length ms → mark_of (set ms (s - 1) y) s ≡ y
mark_of-set_same ms zero y low high = absurd (omega arith)
mark_of-set_same ms (suc i) y low high =
    let e : suc i - 1 ≡ i = omega arith in
    ap (λ k. get_or (set ms k y) i Untouched) e ∙ get_or-set_same ms i y Untouched (omega arith)

pub mark_of-set_other : (ms : List Mark) (s j : ℕ) (y : Mark) → 1 ≤ s → j ≢ s → mark_of (set ms (s - 1) y) j ≡ mark_of ms j
mark_of-set_other ms s zero y low h = refl
mark_of-set_other ms s (suc j) y low h = get_or-set_other ms (s - 1) j y Untouched (λ e. h (omega arith))

-- the mark that the code reads
pub mark_read : (ms : List Mark) (m : Mark) (s : ℕ) → 1 ≤ s → s ≤ length ms → m ≡ get_or ms (s - 1) m → m ≡ mark_of ms s
mark_read ms m zero low high h = absurd (omega arith)
mark_read ms m (suc i) low high h =
    let e : suc i - 1 ≡ i = omega arith in
    get_or_read ms i m (omega arith) (subst (λ k. m ≡ get_or ms k m) e h) Untouched

free-set : (ms : List Mark) (i : ℕ) (y : Mark) → i < length ms → is_free (get_or ms i Untouched) + free (set ms i y) ≡ is_free y + free ms
free-set [] i y h = absurd (omega arith)
free-set (m ∷ ms) zero y h = let e : is_free m + (is_free y + free ms) ≡ is_free y + (is_free m + free ms) = omega arith in e
free-set (m ∷ ms) (suc i) y h =
    let rest = free-set ms i y (omega arith) in
    let e : is_free (get_or ms i Untouched) + (is_free m + free (set ms i y)) ≡ is_free y + (is_free m + free ms) = omega (arith, rest) in e

free_at : (ms : List Mark) (s : ℕ) (y : Mark) → 1 ≤ s → s ≤ length ms → is_free (mark_of ms s) + free (set ms (s - 1) y) ≡ is_free y + free ms
free_at ms zero y low high = absurd (omega arith)
free_at ms (suc i) y low high =
    let e : i ≡ suc i - 1 = omega arith in
    subst (λ k. is_free (get_or ms i Untouched) + free (set ms k y) ≡ is_free y + free ms) e (free-set ms i y (omega arith))

contains_one : (s j : ℕ) → Contains (s ∷ []) j → s ≡ j
contains_one s j (zero, l, e) = e
contains_one s j (suc k, l, e) = absurd (omega arith)

-- ---- a species is touched

module _ (n room : ℕ) (ms : List Mark) (xs : List ℚ) (ts : List ℕ) (ok : RoomOf n room ms xs ts) (s : ℕ) (low : 1 ≤ s) (high : s ≤ n) where
  inside : s ≤ length ms
  inside = subst (λ k. s ≤ k) (sym ok.marks) high

  inside_sums : s ≤ length xs
  inside_sums = subst (λ k. s ≤ k) (sym ok.sums) high

  pub room_left : mark_of ms s ≡ Untouched → length ts < room
  room_left e =
      let one : is_free (mark_of ms s) ≡ 1 = ap is_free e in
      let f = free_at ms s Fits low inside in
      let none : is_free Fits ≡ 0 = refl in
      omega (arith, one, f, none, ok.count, ok.enough)

  pub touched_room : (x : ℚ) → mark_of ms s ≡ Untouched → RoomOf n room (set ms (s - 1) Fits) (set xs (s - 1) x) (ts ++ s ∷ [])
  touched_room x e =
      let one : is_free (mark_of ms s) ≡ 1 = ap is_free e in
      let f = free_at ms s Fits low inside in
      let none : is_free Fits ≡ 0 = refl in
      record {
        marks = length-set ms (s - 1) Fits ∙ ok.marks;
        sums = length-set xs (s - 1) x ∙ ok.sums;
        in_range = λ j h. ⊎_elim (λ (k : Contains ts j). ok.in_range j k)
            (λ (k : Contains (s ∷ []) j). subst (λ i. (1 ≤ i) × (i ≤ n)) (contains_one s j k) (low, high)) (Contains-append_cases ts (s ∷ []) j h);
        listed = λ j. ⊎_elim (λ (k : j ≡ s). inr (subst (Contains (ts ++ s ∷ [])) (sym k) (Contains-push ts s)))
            (λ (k : j ≢ s). ⊎_elim (λ (m : mark_of ms j ≡ Untouched). inl (mark_of-set_other ms s j Fits low k ∙ m)) (λ (m : Contains ts j). inr (Contains-append_left ts (s ∷ []) j m)) (ok.listed j))
            (cases_eq j s);
        count = omega (arith, one, f, none, ok.count, length_push ts s);
        enough = ok.enough;
      }

  pub touched_sums : (c : List ℚ) (j : ℕ) → mark_of ms s ≡ Untouched → sum_at (set ms (s - 1) Fits) (set xs (s - 1) (amount c s)) c j ≡ sum_at ms xs c j
  touched_sums c j e =
      ⊎_elim (λ (k : j ≡ s). subst (λ i. sum_at (set ms (s - 1) Fits) (set xs (s - 1) (amount c s)) c i ≡ sum_at ms xs c i) (sym k)
      (ap (λ m. by_mark m (amount (set xs (s - 1) (amount c s)) s) (amount c s)) (mark_of-set_same ms s Fits low inside)
      ∙ ap Some (amount-set_same xs s (amount c s) low inside_sums) ∙ ap (λ m. by_mark m (amount xs s) (amount c s)) (sym e)))
      (λ (k : j ≢ s). ap₂ (λ m x. by_mark m x (amount c j)) (mark_of-set_other ms s j Fits low k) (amount-set_other xs s j (amount c s) low k))
      (cases_eq j s)

  -- ---- a product is added

  pub fits_room : (x : ℚ) → RoomOf n room ms (set xs (s - 1) x) ts
  fits_room x = record { marks = ok.marks; sums = length-set xs (s - 1) x ∙ ok.sums; in_range = ok.in_range; listed = ok.listed; count = ok.count; enough = ok.enough }

  contained : mark_of ms s ≢ Untouched → Contains ts s
  contained h = ⊎_elim (λ (k : mark_of ms s ≡ Untouched). absurd (h k)) (λ (k : Contains ts s). k) (ok.listed s)

  pub too_big_room : mark_of ms s ≡ Fits → RoomOf n room (set ms (s - 1) TooBig) xs ts
  too_big_room e =
      let was : is_free (mark_of ms s) ≡ 0 = ap is_free e in
      let f = free_at ms s TooBig low inside in
      let none : is_free TooBig ≡ 0 = refl in
      record {
        marks = length-set ms (s - 1) TooBig ∙ ok.marks;
        sums = ok.sums;
        in_range = ok.in_range;
        listed = λ j. ⊎_elim (λ (k : j ≡ s). inr (subst (Contains ts) (sym k) (contained (λ u. absurd (cc (u, e))))))
            (λ (k : j ≢ s). ⊎_elim (λ (m : mark_of ms j ≡ Untouched). inl (mark_of-set_other ms s j TooBig low k ∙ m)) (λ (m : Contains ts j). inr m) (ok.listed j))
            (cases_eq j s);
        count = omega (arith, was, f, none, ok.count);
        enough = ok.enough;
      }

  where_same : (p : ℚ) (o : Option ℚ) (j : ℕ) → j ≡ s → sum_where (s == j) p o ≡ sum_with p o
  where_same p o j e = let t : (s == j) ≡ true = grind (arith, nat_tests) in ap (λ b. sum_where b p o) t

  where_other : (p : ℚ) (o : Option ℚ) (j : ℕ) → j ≢ s → sum_where (s == j) p o ≡ o
  where_other p o j e = let t : (s == j) ≡ false = grind (arith, nat_tests) in ap (λ b. sum_where b p o) t

  pub fits_sums : (c : List ℚ) (p y : ℚ) (j : ℕ) → mark_of ms s ≡ Fits → sum_with p (Some (amount xs s)) ≡ Some y → sum_at ms (set xs (s - 1) y) c j ≡ sum_where (s == j) p (sum_at ms xs c j)
  fits_sums c p y j e h =
      ⊎_elim (λ (k : j ≡ s). subst (λ i. sum_at ms (set xs (s - 1) y) c i ≡ sum_where (s == i) p (sum_at ms xs c i)) (sym k)
      (ap₂ (λ m x. by_mark m x (amount c s)) e (amount-set_same xs s y low inside_sums) ∙ sym h ∙ ap (λ m. sum_with p (by_mark m (amount xs s) (amount c s))) (sym e)
      ∙ sym (where_same p (sum_at ms xs c s) s refl)))
      (λ (k : j ≢ s). ap (λ x. by_mark (mark_of ms j) x (amount c j)) (amount-set_other xs s j y low k) ∙ sym (where_other p (sum_at ms xs c j) j k))
      (cases_eq j s)

  pub too_big_sums : (c : List ℚ) (p : ℚ) (j : ℕ) → mark_of ms s ≡ Fits → sum_with p (Some (amount xs s)) ≡ None → sum_at (set ms (s - 1) TooBig) xs c j ≡ sum_where (s == j) p (sum_at ms xs c j)
  too_big_sums c p j e h =
      ⊎_elim (λ (k : j ≡ s). subst (λ i. sum_at (set ms (s - 1) TooBig) xs c i ≡ sum_where (s == i) p (sum_at ms xs c i)) (sym k)
      (ap (λ m. by_mark m (amount xs s) (amount c s)) (mark_of-set_same ms s TooBig low inside) ∙ sym h ∙ ap (λ m. sum_with p (by_mark m (amount xs s) (amount c s))) (sym e)
      ∙ sym (where_same p (sum_at ms xs c s) s refl)))
      (λ (k : j ≢ s). ap (λ m. by_mark m (amount xs j) (amount c j)) (mark_of-set_other ms s j TooBig low k) ∙ sym (where_other p (sum_at ms xs c j) j k))
      (cases_eq j s)

  not_fits : (m : Mark) → m ≢ Untouched → m ≢ Fits → m ≡ TooBig
  not_fits Untouched h k = absurd (h refl)
  not_fits Fits h k = absurd (k refl)
  not_fits TooBig h k = refl

  pub still_sums : (c : List ℚ) (p : ℚ) (j : ℕ) → mark_of ms s ≢ Untouched → mark_of ms s ≢ Fits → sum_at ms xs c j ≡ sum_where (s == j) p (sum_at ms xs c j)
  still_sums c p j h k =
      let e : mark_of ms s ≡ TooBig = not_fits (mark_of ms s) h k in
      ⊎_elim (λ (l : j ≡ s). subst (λ i. sum_at ms xs c i ≡ sum_where (s == i) p (sum_at ms xs c i)) (sym l)
      (ap (λ m. by_mark m (amount xs s) (amount c s)) e ∙ ap (λ m. sum_with p (by_mark m (amount xs s) (amount c s))) (sym e) ∙ sym (where_same p (sum_at ms xs c s) s refl)))
      (λ (l : j ≢ s). sym (where_other p (sum_at ms xs c j) j l))
      (cases_eq j s)

-- ---- a mark is taken away

pub cleared_listed : (ms : List Mark) (s : ℕ) → 1 ≤ s → s ≤ length ms → (ns : List ℕ) → ((j : ℕ) → (mark_of ms j ≡ Untouched) ⊎ Contains (ns ++ s ∷ []) j) → (j : ℕ) → (mark_of (set ms (s - 1) Untouched) j ≡ Untouched) ⊎ Contains ns j
cleared_listed ms s low inside ns h j =
    ⊎_elim (λ (k : j ≡ s). inl (subst (λ i. mark_of (set ms (s - 1) Untouched) i ≡ Untouched) (sym k) (mark_of-set_same ms s Untouched low inside)))
    (λ (k : j ≢ s). ⊎_elim (λ (m : mark_of ms j ≡ Untouched). inl (mark_of-set_other ms s j Untouched low k ∙ m))
    (λ (m : Contains (ns ++ s ∷ []) j). ⊎_elim (λ (a : Contains ns j). inr a) (λ (a : Contains (s ∷ []) j). absurd (k (sym (contains_one s j a)))) (Contains-append_cases ns (s ∷ []) j m)) (h j))
    (cases_eq j s)

-- ---- no mark is left

all_free : (ms : List Mark) → ((i : ℕ) → get_or ms i Untouched ≡ Untouched) → free ms ≡ length ms
all_free [] h = refl
all_free (m ∷ ms) h =
    let one : is_free m ≡ 1 = ap is_free (h 0) in
    let rest : free ms ≡ length ms = all_free ms (λ i. h (suc i)) in
    let e : is_free m + free ms ≡ suc (length ms) = omega (arith, one, rest) in e

contains_none : (j : ℕ) → Contains [] j → ⊥
contains_none j h = omega (arith, h.1)

pub ready_room : (n room : ℕ) (ms : List Mark) (xs : List ℚ) → length ms ≡ n → length xs ≡ n → n ≤ room → ((j : ℕ) → mark_of ms j ≡ Untouched) → RoomOf n room ms xs []
ready_room n room ms xs e h k none = record {
  marks = e;
  sums = h;
  in_range = λ j m. absurd (contains_none j m);
  listed = λ j. inl (none j);
  count = let f = all_free ms (λ i. none (suc i)) in let z : length {A = ℕ} [] ≡ 0 = refl in omega (arith, f, e, z);
  enough = k;
}

pub none_marked : (ms : List Mark) (ts : List ℕ) → ts ≡ [] → ((j : ℕ) → (mark_of ms j ≡ Untouched) ⊎ Contains ts j) → (j : ℕ) → mark_of ms j ≡ Untouched
none_marked ms ts e h j = ⊎_elim (λ (k : mark_of ms j ≡ Untouched). k) (λ (k : Contains ts j). absurd (contains_none j (subst (λ us. Contains us j) e k))) (h j)

-- ---- refusals

-- what refuses a sum is told by its mark
pub mark_tells : (s : ℕ) (m : Mark) (x a : ℚ) → 0ℚ ≤ℚ a → sum_refusal s (by_mark m x a) ≡ mark_refusal s m x
mark_tells s Untouched x a h = ap (λ b. if b then Some (TakesMore s) else None) (not_negative_is a h)
mark_tells s Fits x a h = refl
mark_tells s TooBig x a h = refl
