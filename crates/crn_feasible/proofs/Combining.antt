-- A combination of two rows over its divisor, by its entries and its multipliers with their places.
use Rattle.std.proofs.Common.{◌≡◌, ℕ, ◌+◌, ◌-◌, ◌≤◌, true, false, ◌&&◌, List, ◌++◌, length, map, take, Err, refl, sym, ap, ap₂, ◌∙◌, subst, arith}
use Rattle.std.specs.Prelude.{ℤ, pos, unsigned_abs, replicate}
use Rattle.std.specs.List.{fold, list_all}
use Rattle.std.proofs.Math.Seq.{take-append_seam}
use Rattle.std.proofs.lemmas.List.Folds.{list_all-append}
use Rattle.std.proofs.lemmas.List.{length-append, length-replicate, length-take-le}
use Rattle.std.proofs.lemmas.Bool.{and_right}
use Rattle.std.proofs.lemmas.List.Sums.{fold-append}
use Rattle.crn_fraction.specs.Gcd.{gcd}
use Rattle.crn_fraction.proofs.Euclid.{gcd_end}
use Rattle.crn_linear.specs.Rows.{AreSmall}
use Rattle.crn_linear.specs.Views.{padded}
use Rattle.crn_feasible.specs.declared.rows.KeptRow.{KeptRow}
use Rattle.crn_feasible.specs.Elimination.{Kept, fits, divisor, reduced}
use Rattle.crn_linear.specs.Cleared.{common, over}
use Rattle.crn_feasible.specs.Chosen.{Misses}
use Rattle.crn_feasible.specs.declared.rows.Ending.{Ending}
use Rattle.crn_feasible.specs.declared.rows.Ending.TheVariants.{Refuted, TooBig, TooManyRows, Memory}
use Rattle.crn_feasible.specs.Sparse.{spread, Ascend, divided, Mixes, AreSmallAt}
use Rattle.crn_feasible.specs.Steps.{Combines, kept, kept_of, mixed_rows, IsMade, IsKeptRow}
use Rattle.crn_feasible.proofs.Lists.{all_fit, all_fit_at}
use Rattle.crn_feasible.proofs.Certificates.{length-mixed}
use Rattle.crn_linear.proofs.Commons.{length-over}
use Rattle.crn_feasible.proofs.Sparse.{over-spread, fold-spread, all-spread, ascend-divided}

-- the divisor of a row, from that of its entries on over its multipliers
divisor-is : (k : Kept) (sources : ℕ) (ms : List (ℕ × ℤ)) → Ascend 0 sources ms → k.multipliers ≡ spread 0 sources ms
    → divisor k ≡ fold (λ g m. gcd g (unsigned_abs m.1)) (common k.row.entries) ms
divisor-is k sources ms h e =
    let to : 0 + sources ≡ sources = omega arith in
    fold-append (λ g x. gcd g (unsigned_abs x)) 0 k.row.entries k.multipliers
    ∙ ap (fold (λ g x. gcd g (unsigned_abs x)) (common k.row.entries)) e
    ∙ fold-spread (λ g x. gcd g (unsigned_abs x)) gcd_end sources 0 (common k.row.entries) ms (subst (λ n. Ascend 0 n ms) (sym to) h)

-- the multipliers over the divisor
multipliers-are : (k : Kept) (sources : ℕ) (ms : List (ℕ × ℤ)) (g : ℕ) → g ≡ divisor k → k.multipliers ≡ spread 0 sources ms
    → spread 0 sources (map (divided g) ms) ≡ (reduced k).multipliers
unfolding reduced
multipliers-are k sources ms g d e = sym (over-spread g 0 sources ms) ∙ ap₂ over d (sym e)

pub take_padded : (columns : ℕ) (xs places : List ℤ) → length xs ≡ columns → places ≡ padded (pos 0) xs → take columns places ≡ xs
take_padded columns xs places long is = ap₂ take (sym long) is ∙ take-append_seam xs (replicate (9 - length xs) (pos 0))

module _ (k : Kept) (columns sources : ℕ) (ms : List (ℕ × ℤ)) (g : ℕ) (ascend : Ascend 0 sources ms) (long : length k.row.entries ≡ columns)
    (multipliers : k.multipliers ≡ spread 0 sources ms) (start : ℕ) (start_is : start ≡ common k.row.entries) (g_is : g ≡ fold (λ g m. gcd g (unsigned_abs m.1)) start ms) where
  is_divisor : g ≡ divisor k
  is_divisor = g_is ∙ ap (λ n. fold (λ g m. gcd g (unsigned_abs m.1)) n ms) start_is ∙ sym (divisor-is k sources ms ascend multipliers)

  -- an entry is too big
  pub entries_pass : list_all fits (over g k.row.entries) ≡ false → list_all fits ((reduced k).row.entries ++ (reduced k).multipliers) ≡ false
  unfolding reduced
  entries_pass h =
      list_all-append fits (over (divisor k) k.row.entries) (over (divisor k) k.multipliers)
      ∙ ap (λ t. t && list_all fits (over (divisor k) k.multipliers)) (ap (λ d. list_all fits (over d k.row.entries)) (sym is_divisor) ∙ h)

  -- a multiplier is too big
  pub multipliers_pass : list_all (λ m. fits m.1) (map (divided g) ms) ≡ false → list_all fits ((reduced k).row.entries ++ (reduced k).multipliers) ≡ false
  multipliers_pass h =
      let to : 0 + sources ≡ sources = omega arith in
      let some : list_all fits (reduced k).multipliers ≡ false =
      ap (list_all fits) (sym (multipliers-are k sources ms g is_divisor multipliers))
      ∙ all-spread fits refl sources 0 (map (divided g) ms) (subst (λ n. Ascend 0 n (map (divided g) ms)) (sym to) (ascend-divided 0 sources g ms ascend)) ∙ h in
      list_all-append fits (reduced k).row.entries (reduced k).multipliers ∙ and_right (list_all fits (reduced k).row.entries) (list_all fits (reduced k).multipliers) some

  row_same : (places : List ℤ) (out : List (ℕ × ℤ)) → take columns places ≡ over g k.row.entries → out ≡ map (divided g) ms → kept columns sources places out k.row.strict ≡ reduced k
  unfolding reduced
  row_same places out seen out_is =
      ap₂ (λ xs ys. record { row = record { entries = xs; strict = k.row.strict }; multipliers = ys })
      (seen ∙ ap (λ d. over d k.row.entries) is_divisor) (ap (spread 0 sources) out_is ∙ multipliers-are k sources ms g is_divisor multipliers)

  -- the row over its divisor
  pub row_made : (places : List ℤ) (out : List (ℕ × ℤ)) → places ≡ padded (pos 0) (over g k.row.entries) → AreSmall (over g k.row.entries)
      → out ≡ map (divided g) ms → AreSmallAt out → columns ≤ 9 → (kept columns sources places out k.row.strict ≡ reduced k) × IsMade columns sources places out
  row_made places out places_are small out_is small_at few =
      let seen : take columns places ≡ over g k.row.entries = take_padded columns (over g k.row.entries) places (length-over g k.row.entries ∙ long) places_are in (
        row_same places out seen out_is,
        record {
          nine = ap length places_are ∙ length-padded (over g k.row.entries) (omega (arith, length-over g k.row.entries, long, few));
          small = subst AreSmall (sym seen) small;
          sparse = record { ascend = subst (Ascend 0 sources) (sym out_is) (ascend-divided 0 sources g ms ascend); small = small_at };
        },
      )
    where
      length-padded : (xs : List ℤ) → length xs ≤ 9 → length (padded (pos 0) xs) ≡ 9
      length-padded xs h = let pad = length-replicate (9 - length xs) (pos 0) in let all = length-append xs (replicate (9 - length xs) (pos 0)) in omega arith

-- the combination of two rows with their multipliers mixed
pub record IsCombination (k : Kept) (columns sources : ℕ) (ms : List (ℕ × ℤ)) : Type 0 where
  pub long : length k.row.entries ≡ columns
  pub ascend : Ascend 0 sources ms
  pub multipliers : k.multipliers ≡ spread 0 sources ms

pub combination : (columns sources : ℕ) (a : ℤ) (p : KeptRow) (b : ℤ) (n : KeptRow) (ms : List (ℕ × ℤ)) → columns ≤ 9 → IsKeptRow columns sources p → IsKeptRow columns sources n
    → Mixes a p.multipliers.items b n.multipliers.items ms → IsCombination (mixed_rows a (kept_of columns sources p) b (kept_of columns sources n)) columns sources ms
combination columns sources a p b n ms few first second mixes = record {
  long = length-mixed a (take columns p.entries) b (take columns n.entries) columns
      (length-take-le columns p.entries (omega (arith, few, first.nine))) (length-take-le columns n.entries (omega (arith, few, second.nine)));
  ascend = mixes.ascend sources first.sparse.ascend second.sparse.ascend;
  multipliers = sym (mixes.mixed sources first.sparse.ascend second.sparse.ascend);
}

-- a multiplier that is too big, or no memory, as a combination ends with it
pub missed : (e : Ending) (P : Type 0) (columns sources : ℕ) (k : Kept) (ms : List (ℕ × ℤ)) → Misses P e
    → (P → list_all fits ((reduced k).row.entries ++ (reduced k).multipliers) ≡ false) → Combines (Err e) columns sources k ms
missed (Refuted c) P columns sources k ms h f = absurd h
missed TooBig P columns sources k ms h f = f h
missed TooManyRows P columns sources k ms h f = absurd h
missed Memory P columns sources k ms h f = tt

-- all numbers of a small row fit
pub made_fits : (columns sources : ℕ) (entries : List ℤ) (ms : List (ℕ × ℤ)) → IsMade columns sources entries ms → list_all fits (take columns entries ++ spread 0 sources ms) ≡ true
made_fits columns sources entries ms made =
    let to : 0 + sources ≡ sources = omega arith in
    list_all-append fits (take columns entries) (spread 0 sources ms)
    ∙ ap₂ (λ s t. s && t) (all_fit (take columns entries) made.small)
    (all-spread fits refl sources 0 ms (subst (λ n. Ascend 0 n ms) (sym to) made.sparse.ascend) ∙ all_fit_at ms made.sparse.small)
