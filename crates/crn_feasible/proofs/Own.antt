-- The rows of a system as they are taken into the first list: each is once itself, and nothing but 1 divides its numbers.
use Rattle.std.proofs.Common.{◌≡◌, ℕ, zero, suc, ◌+◌, ◌-◌, ◌<◌, Bool, List, [], ◌∷◌, ◌++◌, length, take, refl, sym, ap, ap₂, ◌∙◌, subst, arith}
use Rattle.std.specs.Prelude.{ℤ, pos, unsigned_abs, replicate}
use Rattle.std.specs.List.{All, fold}
use Rattle.std.proofs.lemmas.List.Sums.{fold-append}
use Rattle.crn_fraction.specs.Gcd.{gcd}
use Rattle.crn_fraction.specs.Parts.{int_div-one}
use Rattle.crn_fraction.proofs.Euclid.{gcd_end, gcd_one}
use Rattle.crn_linear.specs.Rows.{Row, IsSmall, AreSmall}
use Rattle.crn_linear.specs.Views.{HasColumns, padded}
use Rattle.crn_linear.specs.Cleared.{common, over}
use Rattle.crn_linear.proofs.Commons.{from_one}
use Rattle.crn_linear.proofs.Padding.{seen, IsPadded-padded}
use Rattle.crn_feasible.specs.Elimination.{reduced, unit}
use Rattle.crn_feasible.specs.Sparse.{spread, Ascend, AreSmallAt}
use Rattle.crn_feasible.specs.Steps.{kept, first_row, IsMade}
use Rattle.crn_feasible.proofs.Sparse.{spread-one}

-- ---- over a divisor of 1
over-one : (xs : List ℤ) → over 1 xs ≡ xs
over-one [] = refl
over-one (x ∷ xs) = ap₂ (λ y ys. y ∷ ys) (int_div-one x) (over-one xs)

from_unit : (n i j : ℕ) → fold (λ g x. gcd g (unsigned_abs x)) n (unit i j) ≡ 1
from_unit n zero j = ap (λ g. fold (λ g x. gcd g (unsigned_abs x)) g (replicate j (pos 0))) (gcd_one n) ∙ from_one (replicate j (pos 0))
from_unit n (suc i) j = ap (λ g. fold (λ g x. gcd g (unsigned_abs x)) g (unit i j)) (gcd_end n) ∙ from_unit n i j

common_unit : (xs : List ℤ) (i j : ℕ) → common (xs ++ unit i j) ≡ 1
common_unit xs i j = fold-append (λ g x. gcd g (unsigned_abs x)) 0 xs (unit i j) ∙ from_unit (common xs) i j

reduced-own : (row : Row) (i j : ℕ) → reduced (record { row = row; multipliers = unit i j }) ≡ record { row = row; multipliers = unit i j }
unfolding reduced
reduced-own row i j =
    let one = common_unit row.entries i j in
    ap₂ (λ xs ys. record { row = record { entries = xs; strict = row.strict }; multipliers = ys })
    (ap (λ g. over g row.entries) one ∙ over-one row.entries) (ap (λ g. over g (unit i j)) one ∙ over-one (unit i j))

-- ---- as the code has them
all_single : {X : Type 0} (P : X → Type 0) (x : X) → P x → All P (x ∷ [])
all_single P x h zero d l = h
all_single P x h (suc k) d l = absurd (omega (arith, l))

module _ (columns sources index : ℕ) (row : Row) (entries : List ℤ) (ms : List (ℕ × ℤ)) (long : length row.entries ≡ columns) (within : index < sources)
    (entries_are : entries ≡ padded (pos 0) row.entries) (ms_are : ms ≡ (index, pos 1) ∷ []) where
  own_entries : take columns entries ≡ row.entries
  own_entries = ap (λ n. take n entries) (sym long) ∙ seen (pos 0) row.entries entries entries_are

  pub own_kept : (strict : Bool) → strict ≡ row.strict → kept columns sources entries ms strict ≡ reduced (first_row row index sources)
  own_kept strict s =
      let place : index ≡ 0 + index = omega arith in
      ap₂ (λ xs t. record { row = record { entries = xs; strict = t }; multipliers = spread 0 sources ms }) own_entries s
      ∙ ap (λ ys. record { row = row; multipliers = ys }) (ap (spread 0 sources) ms_are ∙ ap (λ n. spread 0 sources ((n, pos 1) ∷ [])) place ∙ spread-one sources 0 index (pos 1) within)
      ∙ sym (reduced-own row index (sources - index - 1))

  pub own_made : HasColumns row.entries → AreSmall row.entries → IsMade columns sources entries ms
  own_made some small = record {
    nine = (IsPadded-padded (pos 0) row.entries entries some entries_are).nine;
    small = subst AreSmall (sym own_entries) small;
    sparse = record {
      ascend = subst (λ ns. Ascend 0 sources ns) (sym ms_are) (omega arith, within, tt);
      small = subst AreSmallAt (sym ms_are) (all_single (λ m. IsSmall m.1) (index, pos 1) (record { size = omega (arith) }));
    };
  }
