-- What the steps of the code answer, in the words of elimination.
use Rattle.std.specs.Prelude.{◌≡◌, ℕ, ◌≤◌, ◌-◌, ◌^◌, unsigned_abs, Bool, true, false, cond, ℤ, pos, int_lt, slice_index_or, List, ◌++◌, length, map, take, Result, Ok, Err}
use Rattle.std.specs.List.{All, list_all}
use Rattle.crn_linear.specs.Rows.{Row, AreSmall}
use Rattle.crn_linear.specs.Views.{padded}
use Rattle.crn_farkas.specs.Mixtures.{mixed}
use Rattle.crn_feasible.specs.declared.rows.Ending.{Ending}
use Rattle.crn_feasible.specs.declared.rows.Ending.TheVariants.{Refuted, TooBig, TooManyRows, Memory}
use Rattle.crn_feasible.specs.declared.rows.Direction.{Direction}
use Rattle.crn_feasible.specs.declared.rows.KeptRow.{KeptRow}
use Rattle.crn_feasible.specs.declared.rows.RowList.{RowList}
use Rattle.crn_feasible.specs.Elimination.{Stop, refuted, passes, too_many, Kept, reduced, fits, direction, unit}
use Rattle.crn_feasible.specs.Sparse.{spread, IsSparse}

-- the definition ends as the code does
abbrev pub Ends : {A : Type 0} → Result A Stop → Ending → Type 0
Ends r (Refuted c) = r ≡ Err (refuted c)
Ends r TooBig = r ≡ Err passes
Ends r TooManyRows = r ≡ Err too_many
Ends r Memory = Unit {0}

-- the definition answers what is seen of the code's answer, or ends as it does
abbrev pub Goes : {A B : Type 0} → Result A Ending → (A → B) → Result B Stop → Type 0
Goes (Ok a) seen r = r ≡ Ok (seen a)
Goes (Err e) seen r = Ends r e

-- ---- rows
-- a row of so many columns that was made of so many rows, by its nine places and its multipliers
abbrev pub kept : (columns rows : ℕ) → List ℤ → List (ℕ × ℤ) → (strict : Bool) → Kept
kept columns rows entries ms strict = record {
  row = record { entries = take columns entries; strict = strict };
  multipliers = spread 0 rows ms;
}

-- a row of the code as elimination has it
abbrev pub kept_of : (columns rows : ℕ) → KeptRow → Kept
kept_of columns rows r = kept columns rows r.entries r.multipliers.items r.strict

-- nine places with small entries in those of the columns, and small multipliers
pub record IsMade (columns rows : ℕ) (entries : List ℤ) (ms : List (ℕ × ℤ)) : Type 0 where
  pub nine : length entries ≡ 9
  pub small : AreSmall (take columns entries)
  pub sparse : IsSparse rows ms

abbrev pub IsKeptRow : (columns rows : ℕ) → KeptRow → Type 0
IsKeptRow columns rows r = IsMade columns rows r.entries r.multipliers.items

-- all numbers of the row are at most 2^29 in size
pub record IsShort (columns : ℕ) (r : KeptRow) : Type 0 where
  pub entries : All (λ z. unsigned_abs z ≤ 2 ^ 29) (take columns r.entries)
  pub multipliers : All (λ m. unsigned_abs m.1 ≤ 2 ^ 29) r.multipliers.items

-- and so are those of two rows and of the numbers that they are taken times
pub record AreShort (columns : ℕ) (a : ℤ) (p : KeptRow) (b : ℤ) (n : KeptRow) : Type 0 where
  pub first_times : unsigned_abs a ≤ 2 ^ 29
  pub first : IsShort columns p
  pub second_times : unsigned_abs b ≤ 2 ^ 29
  pub second : IsShort columns n

-- the entry at a place is below 0
abbrev pub is_negative_at : ℕ → KeptRow → Bool
is_negative_at v r = int_lt (slice_index_or r.entries v (pos 0)) (pos 0)

-- a times the first row plus b times the second
abbrev pub mixed_rows : (a : ℤ) → Kept → (b : ℤ) → Kept → Kept
mixed_rows a p b n = record {
  row = record { entries = mixed a p.row.entries b n.row.entries; strict = cond p.row.strict true n.row.strict };
  multipliers = mixed a p.multipliers b n.multipliers;
}

-- the row of this number among so many, with multiplier 1 for itself
abbrev pub first_row : Row → (index count : ℕ) → Kept
first_row row index count = record { row = row; multipliers = unit index (count - index - 1) }

-- the row over its divisor, all of whose numbers are small, or one of them is not
abbrev pub Combines : Result (List ℤ) Ending → (columns rows : ℕ) → Kept → List (ℕ × ℤ) → Type 0
Combines (Ok entries) columns rows k ms = (kept columns rows entries ms k.row.strict ≡ reduced k) × IsMade columns rows entries ms
Combines (Err (Refuted c)) columns rows k ms = ⊥
Combines (Err TooBig) columns rows k ms = list_all fits ((reduced k).row.entries ++ (reduced k).multipliers) ≡ false
Combines (Err TooManyRows) columns rows k ms = ⊥
Combines (Err Memory) columns rows k ms = Unit {0}

-- ---- lists
-- the rows of a list
abbrev pub list_of : RowList → List Kept
list_of l = map (kept_of l.columns l.sources) l.rows.items

-- what is kept of a direction and a strength, with 0 past the last column
abbrev pub direction_of : List ℤ → (strict : Bool) → Direction
direction_of entries strict = record { entries = padded (pos 0) (direction entries); strict = strict }

-- the direction of a row of so many columns
abbrev pub row_direction : (columns : ℕ) → KeptRow → Direction
row_direction columns r = direction_of (take columns r.entries) r.strict

-- rows of one shape, and the directions that were seen are theirs
pub record IsList (l : RowList) : Type 0 where
  pub few : l.columns ≤ 9
  pub rows : All (IsKeptRow l.columns l.sources) l.rows.items
  pub seen : l.seen.keys ≡ map (row_direction l.columns) l.rows.items

-- rows of so many columns that were made of so many rows
pub record HasShape (l : RowList) (columns sources : ℕ) : Type 0 where
  pub columns_same : l.columns ≡ columns
  pub sources_same : l.sources ≡ sources

-- the list is what the definition answers, or that ends as the call does
abbrev pub Takes : {A : Type 0} → Result A Ending → Result (List Kept) Stop → RowList → Type 0
Takes (Ok u) r l = r ≡ Ok (list_of l)
Takes (Err e) r l = Ends r e

-- the answer of a call that ends with the multipliers as a certificate, unless memory runs out
abbrev pub Certifies : Ending → List ℤ → Type 0
Certifies (Refuted c) multipliers = c ≡ multipliers
Certifies TooBig multipliers = ⊥
Certifies TooManyRows multipliers = ⊥
Certifies Memory multipliers = Unit {0}
