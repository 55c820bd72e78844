-- Rows with 1 in one column, and the three domains.
use Rattle.std.proofs.Common.{◌≡◌, ℕ, zero, suc, ◌<◌, ◌≤◌, List, [], ◌∷◌, length, get_or, set, take, sym, ◌∙◌, ap, subst, arith}
use Rattle.std.specs.Prelude.{ℤ, pos, replicate, All, true, false}
use Rattle.std.proofs.lemmas.Int.{ints}
use Rattle.std.proofs.lemmas.List.{length-set, length-replicate, get_or-replicate, take-replicate}
use Rattle.std.proofs.lemmas.List.Elements.{All-nil, All-cons, All-append}
use Rattle.crn_linear.specs.Rows.{Row, dot, MeetsWhole}
use Rattle.crn_linear.proofs.Sums.{dot-zeros}
use Rattle.crn_formula.specs.Domains.{unit, orthant_rows, IsKeptDomain}
use Rattle.crn_formula.proofs.Lists.{take-set_within}

-- as many columns
pub length-unit : (n i : ℕ) → length (unit n i) ≡ n
length-unit n i = length-set (replicate n (pos 0)) i (pos 1) ∙ length-replicate n (pos 0)

-- the first few of nine
pub unit_taken : (n i : ℕ) → n ≤ 9 → take n (unit 9 i) ≡ unit n i
unit_taken n i h = take-set_within n (replicate 9 (pos 0)) i (pos 1) ∙ ap (λ l. set l i (pos 1)) (take-replicate n 9 (pos 0) h)

-- such a row reads one column
pub dot-unit : (n i : ℕ) (p : List ℤ) → i < n → length p ≡ n → dot (unit n i) p ≡ get_or p i (pos 0)
dot-unit zero i p h l = absurd (omega (arith, h))
dot-unit (suc n) i [] h l = absurd (omega (arith, l))
dot-unit (suc n) zero (t ∷ p) h l = let e = dot-zeros n p in omega (arith, ints, e)
dot-unit (suc n) (suc i) (t ∷ p) h l = let e = dot-unit n i p (omega (arith, h)) (omega (arith, l)) in omega (arith, ints, e)

-- each row of the orthant has as many columns and is met strictly by the point of ones
module _ (n : ℕ) where
  abbrev IsRow : Row → Type 0
  IsRow r = (length r.entries ≡ n) × MeetsWhole (record { entries = r.entries; strict = true }) (replicate n (pos 1))

  ones : (i : ℕ) → i < n → get_or (replicate n (pos 1)) i (pos 0) ≡ pos 1
  ones i h = get_or-replicate n i (pos 1) (pos 0) h

  rows_met : (m : ℕ) → m ≤ n → All IsRow (orthant_rows n m)
  rows_met zero h = All-nil IsRow
  rows_met (suc m) h = All-append IsRow (orthant_rows n m) _ (rows_met m (omega (arith, h)))
      (All-cons IsRow (record { entries = unit n m; strict = false }) []
      (length-unit n m, let e = dot-unit n m (replicate n (pos 1)) (omega (arith, h)) (length-replicate n (pos 1)) ∙ ones m (omega (arith, h)) in omega (arith, ints, e))
      (All-nil IsRow))

  -- what the loop has made is the orthant
  pub kept_orthant : (places : List Row) (inside : List ℤ) → 1 ≤ n → n ≤ 8 → length places ≡ 8 → take n places ≡ orthant_rows n n
      → inside ≡ replicate n (pos 1) → IsKeptDomain n places inside
  kept_orthant places inside some few eight rows is =
      let met = rows_met n (omega arith) in
      let long : length inside ≡ n = ap length is ∙ length-replicate n (pos 1) in
      record {
        few = few;
        eight = eight;
        columns = record { some = omega (arith, some, long); few = omega (arith, few, long) };
        domain = record {
          long = subst (λ rs. All (λ (r : Row). length r.entries ≡ length inside) rs) (sym rows) (λ k d h. (met k d h).0 ∙ sym long);
          strictly = subst (λ rs. All (λ (r : Row). MeetsWhole (record { entries = r.entries; strict = true }) inside) rs) (sym rows)
              (subst (λ q. All (λ (r : Row). MeetsWhole (record { entries = r.entries; strict = true }) q) (orthant_rows n n)) (sym is) (λ k d h. (met k d h).1));
        };
      }
