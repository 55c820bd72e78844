-- Rows that add nothing to a list, told before they are divided: where their numbers are small, a row of zeros, and one whose direction and strength are there.
use Rattle.std.proofs.Common.{◌≡◌, ℕ, zero, suc, ◌==◌, ◌<◌, ◌≤◌, ◌^◌, Bool, true, false, cond, ◌&&◌, List, [], ◌∷◌, ◌++◌, map, take, length, get_or, Ok, refl, sym, ap, ap₂, ◌∙◌, subst, arith, to_z, of_z}
use Rattle.std.specs.Prelude.{ℤ, pos, ◌-ℤ◌, ◌*ℤ◌, ◌||◌, unsigned_abs}
use Rattle.std.specs.Int.{w64}
use Rattle.std.proofs.lemmas.Int.{ints}
use Rattle.std.proofs.lemmas.Bool.{both_ways}
use Rattle.std.proofs.Math.IntN.{*ℤ-zero}
use Rattle.std.specs.List.{All, list_all, list_any}
use Rattle.std.proofs.lemmas.List.{length-take-le}
use Rattle.std.proofs.lemmas.List.Elements.{All-head, All-tail}
use Rattle.std.specs.Ordering.{int_eq}
use Rattle.std.specs.Cmp.Lexicographic.{pointwise}
use Rattle.std.specs.Bool.{beq}
use Rattle.crn_linear.specs.Cleared.{over}
use Rattle.crn_linear.proofs.Commons.{over-back}
use Rattle.crn_linear.specs.Views.{padded}
use Rattle.crn_farkas.specs.Mixtures.{mixed}
use Rattle.crn_feasible.specs.declared.rows.KeptRow.{KeptRow}
use Rattle.crn_feasible.specs.Sparse.{spread}
use Rattle.crn_feasible.specs.Steps.{kept, kept_of, mixed_rows, IsKeptRow, IsShort, AreShort}
use Rattle.crn_feasible.proofs.Certificates.{length-mixed}
use Rattle.crn_feasible.proofs.Combining.{take_padded}
use Rattle.crn_feasible.specs.Elimination.{Kept, fits, divisor, reduced, is_zero, direction, same_direction, take_row}
use Rattle.crn_feasible.proofs.Lists.{drops_zero, drops_same}
use Rattle.crn_feasible.proofs.Multiples.{direction-over}
use Rattle.crn_feasible.proofs.Orders.{Each}
use Rattle.crn_feasible.proofs.Sizes.{IsWithin, Sized, Sized-reduced, mixed_within, two_within}
use Rattle.crn_feasible.proofs.Turns.{get_or-take}
use Rattle.crn_feasible.proofs.Taking.{Divides-entries, common_pos, divisor_pos, over_zeros, test_from_zeros, zeros_from_test}

small_fits : (k : Kept) → Sized (2 ^ 59) (2 ^ 59) k → list_all fits ((reduced k).row.entries ++ (reduced k).multipliers) ≡ true
small_fits k h =
    let s = Sized-reduced (2 ^ 59) (2 ^ 59) k h in
    two_within (2 ^ 59) (2 ^ 59) (reduced k).row.entries (reduced k).multipliers (omega arith) (omega arith) s.entries s.multipliers

-- ---- zeros
zero_reduced : (k : Kept) → is_zero k ≡ true → is_zero (reduced k) ≡ true
unfolding reduced
zero_reduced k h = test_from_zeros (over (divisor k) k.row.entries) (over_zeros (divisor k) k.row.entries (zeros_from_test k.row.entries h))

times_zeros : (g : ℕ) (xs : List ℤ) → Each (λ x. x ≡ pos 0) xs → Each (λ x. x ≡ pos 0) (map (λ x. pos g *ℤ x) xs)
times_zeros g [] h = tt
times_zeros g (x ∷ xs) h = (ap (λ y. pos g *ℤ y) h.0 ∙ *ℤ-zero (pos g), times_zeros g xs h.1)

nonzero_reduced : (k : Kept) → is_zero k ≡ false → is_zero (reduced k) ≡ false
unfolding reduced
nonzero_reduced k h = by (is_zero (reduced k)) refl
  where
    by : (b : Bool) → is_zero (reduced k) ≡ b → b ≡ false
    by false e = refl
    by true e = absurd (both_ways (is_zero k) h
        (ap (list_all (λ x. int_eq x (pos 0))) (sym (over-back (divisor k) k.row.entries (Divides-entries k)))
        ∙ test_from_zeros _ (times_zeros (divisor k) (over (divisor k) k.row.entries) (zeros_from_test (over (divisor k) k.row.entries) e))))

-- a weak row of zeros
pub zero_dropped : (rows : List Kept) (k : Kept) → Sized (2 ^ 59) (2 ^ 59) k → is_zero k ≡ true → k.row.strict ≡ false → take_row rows k ≡ Ok rows
unfolding reduced
zero_dropped rows k h z s = drops_zero rows (reduced k) (small_fits k h) (zero_reduced k z) s

-- ---- directions
same_reduced : (k r : Kept) → is_zero k ≡ false → same_direction (reduced k) r ≡ same_direction k r
unfolding same_direction reduced
same_reduced k r z =
    let some = nonzero_reduced k z in
    let same : direction (over (divisor k) k.row.entries) ≡ direction k.row.entries =
    direction-over (divisor k) k.row.entries (divisor_pos k some) (Divides-entries k) (common_pos (reduced k) some) in
    ap (λ ds. pointwise int_eq ds (direction r.row.entries) && beq k.row.strict r.row.strict) same

any_reduced : (k : Kept) (rows : List Kept) → is_zero k ≡ false → list_any (same_direction (reduced k)) rows ≡ list_any (same_direction k) rows
any_reduced k [] z = refl
any_reduced k (r ∷ rows) z = ap₂ (λ a b. a || b) (same_reduced k r z) (any_reduced k rows z)

-- a row whose direction and strength are there
pub same_dropped : (rows : List Kept) (k : Kept) → Sized (2 ^ 59) (2 ^ 59) k → is_zero k ≡ false → list_any (same_direction k) rows ≡ true → take_row rows k ≡ Ok rows
same_dropped rows k h z d = drops_same rows (reduced k) (small_fits k h) (nonzero_reduced k z) (any_reduced k rows z ∙ d)

-- ---- combinations of short rows
each_short : (m : ℕ) (xs : List ℤ) → All (λ z. unsigned_abs z ≤ m) xs → Each (IsWithin m) xs
each_short m [] h = tt
each_short m (x ∷ xs) h = (record { size = All-head (λ z. unsigned_abs z ≤ m) x xs h }, each_short m xs (All-tail (λ z. unsigned_abs z ≤ m) x xs h))

spread_short : (m n from : ℕ) (ms : List (ℕ × ℤ)) → All (λ q. unsigned_abs q.1 ≤ m) ms → Each (IsWithin m) (spread from n ms)
spread_short m zero from ms h = tt
spread_short m (suc n) from [] h = (record { size = omega arith }, spread_short m n (suc from) [] h)
spread_short m (suc n) from (q ∷ ms) h =
    by (q.0 == from) (spread_short m n (suc from) ms (All-tail (λ (r : ℕ × ℤ). unsigned_abs r.1 ≤ m) q ms h)) (spread_short m n (suc from) (q ∷ ms) h)
  where
    by : (b : Bool) → Each (IsWithin m) (spread (suc from) n ms) → Each (IsWithin m) (spread (suc from) n (q ∷ ms))
        → Each (IsWithin m) (cond b (q.1 ∷ spread (suc from) n ms) (pos 0 ∷ spread (suc from) n (q ∷ ms)))
    by true k l = (record { size = All-head (λ (r : ℕ × ℤ). unsigned_abs r.1 ≤ m) q ms h }, k)
    by false k l = (record { size = omega arith }, l)

short_sized : (columns sources : ℕ) (a : ℤ) (p : KeptRow) (b : ℤ) (n : KeptRow) → AreShort columns a p b n → Sized (2 ^ 59) (2 ^ 59) (mixed_rows a (kept_of columns sources p) b (kept_of columns sources n))
short_sized columns sources a p b n h = record {
  entries = mixed_within a (take columns p.entries) b (take columns n.entries) (2 ^ 29) (2 ^ 29) h.first_times h.second_times
      (each_short (2 ^ 29) (take columns p.entries) h.first.entries) (each_short (2 ^ 29) (take columns n.entries) h.second.entries);
  multipliers = mixed_within a (spread 0 sources p.multipliers.items) b (spread 0 sources n.multipliers.items) (2 ^ 29) (2 ^ 29) h.first_times h.second_times
      (spread_short (2 ^ 29) sources 0 p.multipliers.items h.first.multipliers) (spread_short (2 ^ 29) sources 0 n.multipliers.items h.second.multipliers);
}

module _ (columns sources : ℕ) (a : ℤ) (p : KeptRow) (b : ℤ) (n : KeptRow) (rows : List Kept) (few : columns ≤ 9) (first : IsKeptRow columns sources p) (second : IsKeptRow columns sources n)
    (short : AreShort columns a p b n) (sums : List ℤ) (sums_are : sums ≡ padded (pos 0) (mixed a (take columns p.entries) b (take columns n.entries))) (strict : Bool) (strict_is : strict ≡ cond p.strict true n.strict) where
  abbrev both : Kept
  both = mixed_rows a (kept_of columns sources p) b (kept_of columns sources n)

  pub sums_seen : take columns sums ≡ mixed a (take columns p.entries) b (take columns n.entries)
  sums_seen =
      take_padded columns (mixed a (take columns p.entries) b (take columns n.entries)) sums
      (length-mixed a (take columns p.entries) b (take columns n.entries) columns
      (length-take-le columns p.entries (omega (arith, few, first.nine))) (length-take-le columns n.entries (omega (arith, few, second.nine)))) sums_are

  pub drops_zeros : (none : Bool) → none ≡ list_all (λ x. int_eq x (pos 0)) (take columns sums) → none ≡ true → strict ≡ false → take_row rows both ≡ Ok rows
  drops_zeros none is z s =
      zero_dropped rows both (short_sized columns sources a p b n short) (ap (list_all (λ x. int_eq x (pos 0))) (sym sums_seen) ∙ sym is ∙ z) (sym strict_is ∙ s)

  same_seen : (r : Kept) → same_direction both r ≡ same_direction (kept columns sources sums [] strict) r
  unfolding same_direction
  same_seen r = ap₂ (λ es s. pointwise int_eq (direction es) (direction r.row.entries) && beq s r.row.strict) (sym sums_seen) (sym strict_is)

  any_seen : (rs : List Kept) → list_any (same_direction both) rs ≡ list_any (same_direction (kept columns sources sums [] strict)) rs
  any_seen [] = refl
  any_seen (r ∷ rs) = ap₂ (λ s t. s || t) (same_seen r) (any_seen rs)

  pub drops_seen : (none : Bool) → none ≡ list_all (λ x. int_eq x (pos 0)) (take columns sums) → none ≡ false → list_any (same_direction (kept columns sources sums [] strict)) rows ≡ true → take_row rows both ≡ Ok rows
  drops_seen none is z d =
      same_dropped rows both (short_sized columns sources a p b n short) (ap (list_all (λ x. int_eq x (pos 0))) (sym sums_seen) ∙ sym is ∙ z) (any_seen rows ∙ d)

-- ---- the factors of a pair
pub short_at : (columns sources v : ℕ) (r : KeptRow) → IsKeptRow columns sources r → IsShort columns r → v < columns → columns ≤ 9 → unsigned_abs (get_or r.entries v (pos 0)) ≤ 2 ^ 29
short_at columns sources v r k s l few =
    let long : length (take columns r.entries) ≡ columns = length-take-le columns r.entries (omega (arith, few, k.nine)) in
    subst (λ z. unsigned_abs z ≤ 2 ^ 29) (get_or-take columns v r.entries (pos 0) l) (s.entries v (pos 0) (omega (arith, l, long)))

pub short_itself : (x : ℤ) → unsigned_abs x ≤ 2 ^ 29 → unsigned_abs (to_z w64 (of_z w64 x)) ≤ 2 ^ 29
short_itself x h = omega (arith, ints, h)

pub short_negated : (x : ℤ) → unsigned_abs x ≤ 2 ^ 29 → unsigned_abs (to_z w64 (of_z w64 (pos 0 -ℤ to_z w64 (of_z w64 x)))) ≤ 2 ^ 29
short_negated x h = omega (arith, ints, h)
