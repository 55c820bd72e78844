-- How two answers about the same two functions may differ.
use Rattle.std.specs.Prelude.{◌≡◌, ◌⊎◌, ◌≤◌, ℕ, ◌+◌, ◌*◌}
use Rattle.crn_pieces.specs.declared.PiecesError.{PiecesError}
use Rattle.crn_pieces.specs.declared.PiecesError.TheVariants as unchecked
use Rattle.crn_maxmin.specs.declared.MaxminError.{MaxminError}
use Rattle.crn_maxmin.specs.declared.MaxminError.TheVariants as unformed
use Rattle.crn_same.specs.declared.SameError.{SameError}
use Rattle.crn_same.specs.declared.SameError.TheVariants.{Pieces, Maxmin, Differ, TooBig, TooManyRows}

-- ---- limits
abbrev pub IsLimitOfPieces : PiecesError → Type 0
IsLimitOfPieces (unchecked.TooBig kept) = Unit {0}
IsLimitOfPieces (unchecked.TooManyRows kept) = Unit {0}
IsLimitOfPieces e = ⊥

abbrev pub IsLimitOfFormula : MaxminError → Type 0
IsLimitOfFormula (unformed.TooBig kept) = Unit {0}
IsLimitOfFormula (unformed.TooManyRows kept) = Unit {0}
IsLimitOfFormula e = ⊥

-- elimination of a system passes a limit
abbrev pub IsSolvingLimit : SameError → Type 0
IsSolvingLimit (Pieces which e) = IsLimitOfPieces e
IsSolvingLimit (Maxmin which e) = IsLimitOfFormula e
IsSolvingLimit (TooBig kept) = Unit {0}
IsSolvingLimit (TooManyRows kept) = Unit {0}
IsSolvingLimit e = ⊥

-- ---- where on the way an answer comes
-- the rows of pieces are cleared, and then systems are solved
abbrev pub part_of_pieces : PiecesError → ℕ
part_of_pieces (unchecked.TooManyForms count) = 0
part_of_pieces (unchecked.BigCondition piece condition) = 0
part_of_pieces (unchecked.BigDifference first second) = 0
part_of_pieces e = 1

-- the pieces of function 1 are looked at in parts 3 and 4, and its formula is made in part 5; so is function 2 in parts 6 to 8. Then the formulas are compared
abbrev pub part_of : SameError → ℕ
part_of (Pieces which e) = which * 3 + part_of_pieces e
part_of (Maxmin which e) = which * 3 + 2
part_of e = 9

-- ---- two answers
abbrev pub AreSamePieces : PiecesError → PiecesError → Type 0
AreSamePieces (unchecked.Disagree i j p) (unchecked.Disagree k l q) = (i ≡ k) × (j ≡ l)
AreSamePieces (unchecked.NotCovered p) (unchecked.NotCovered q) = Unit {0}
AreSamePieces first second = ⊥

-- each time at some point: the same two pieces disagree, no piece holds, or the functions differ
abbrev pub AreSameButForPoint : SameError → SameError → Type 0
AreSameButForPoint (Pieces v d) (Pieces w e) = (v ≡ w) × AreSamePieces d e
AreSameButForPoint (Differ p) (Differ q) = Unit {0}
AreSameButForPoint first second = ⊥

-- a solving limit, and what the search would have found: it comes in no earlier part
abbrev pub IsLimitBeside : SameError → SameError → Type 0
IsLimitBeside limit found = IsSolvingLimit limit × (part_of limit ≤ part_of found)

-- they are the same, but for the point, or one is a solving limit beside what the search would have found
abbrev pub AreAlike : SameError → SameError → Type 0
AreAlike first second =
    (first ≡ second) ⊎ (AreSameButForPoint first second ⊎ (IsLimitBeside first second ⊎ IsLimitBeside second first))
