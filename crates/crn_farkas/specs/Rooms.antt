-- Systems as they are kept, with room for their rows.
use Rattle.std.specs.Prelude.{ℕ, ◌≤◌, List, ◌++◌, [], ◌∷◌, length, take}
use Rattle.crn_linear.specs.Rows.{Row}
use Rattle.crn_farkas.specs.Systems.{System, IsRectangular}

-- a system, and how many rows there is room for
pub record WithRoom : Type 0 where
  pub system : System
  pub room : ℕ

-- 1 to 9 columns, an entry for each in each row, and no more rows than there is room for, which is at most 256
pub record IsSystem (s : WithRoom) : Type 0 where
  pub some_columns : 1 ≤ s.system.columns
  pub few_columns : s.system.columns ≤ 9
  pub rectangular : IsRectangular s.system
  pub within : length s.system.rows ≤ s.room
  pub few_rows : s.room ≤ 256

-- a system with one more row
abbrev pub with_row : WithRoom → Row → WithRoom
with_row s row = record s { system = record { columns = s.system.columns; rows = s.system.rows ++ row ∷ [] } }

-- a system with so many of its rows, from the front
abbrev pub truncated : ℕ → WithRoom → WithRoom
truncated n s = record s { system = record { columns = s.system.columns; rows = take n s.system.rows } }

-- what is kept, in a place for so many rows
abbrev pub kept : (columns room : ℕ) → List Row → WithRoom
kept columns room rows = record { system = record { columns = columns; rows = rows }; room = room }

-- and there is a place for each row that there is room for
pub record IsReserved (s : WithRoom) (places : ℕ) : Type 0 where
  pub system : IsSystem s
  pub reserved : s.room ≤ places
