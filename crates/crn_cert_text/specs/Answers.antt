-- What is answered to a proof.
use Rattle.std.specs.Prelude.{◌≡◌, ◌⊎◌, ◌≤◌, ◌+◌, ℕ, List, [], ◌++◌, length, take, All, Result, Ok, Err}
use Rattle.std.specs.List.{range_with_len}
use Rattle.crn_linear.specs.Rows.{Row}
use Rattle.crn_formula.specs.Pieces.{Piece, Domain}
use Rattle.crn_pieces.specs.Systems.{rows_of}
use Rattle.crn_pieces.specs.Pairs.{pairs_of, IsFirstWithout}
use Rattle.crn_feasible.specs.Elimination.{elimination, passes, too_many}
use Rattle.crn_pieces.specs.Answers.{DoConditionsClear, DoesDifferenceClear, IsFirstBigCondition, IsAsked}
use Rattle.crn_pieces.specs.declared.questions.Unsolved.{Unsolved}
use Rattle.crn_pieces.specs.declared.questions.Unsolved.TheVariants as unsolved
use Rattle.crn_cert_text.specs.declared.Proof.{Proof}
use Rattle.crn_cert_text.specs.declared.making.MakeError.{MakeError}
use Rattle.crn_cert_text.specs.declared.making.MakeError.TheVariants as unmade
use Rattle.crn_cert_text.specs.declared.ProofLine.{ProofLine}
use Rattle.crn_cert_text.specs.declared.VerifyError.{VerifyError}
use Rattle.crn_cert_text.specs.declared.VerifyError.TheVariants.{BigCondition, BigDifference, NotProved, Memory}
use Rattle.crn_pieces.specs.declared.PiecesError.{PiecesError}
use Rattle.crn_pieces.specs.declared.PiecesError.TheVariants as refused
use Rattle.crn_cert_text.specs.Proofs.{Line, Question, AnswersPair, Place, ended, place_of, first_part, start, IsProof, FitInTurn, after_lines, Stops, IsFirstUnfit}
use Rattle.crn_cert_text.specs.Views.{lines_of_proof, line_at}

-- all rows clear, and the lines are a proof
pub record IsAccepted (domain : Domain) (pieces : List Piece) (lines : List Line) : Type 0 where
  pub conditions : All DoConditionsClear pieces
  pub differences : All (DoesDifferenceClear pieces) (pairs_of (length pieces))
  pub proved : IsProof domain pieces lines

-- why a proof is not accepted, in the order in which it is looked for
abbrev pub IsRejected : Domain → List Piece → List Line → VerifyError → Type 0
IsRejected domain pieces lines (BigCondition i c) = IsFirstBigCondition pieces i c
IsRejected domain pieces lines (BigDifference i j) = All DoConditionsClear pieces × IsFirstWithout (DoesDifferenceClear pieces) (pairs_of (length pieces)) (i, j)
IsRejected domain pieces lines (NotProved index) = All DoConditionsClear pieces × All (DoesDifferenceClear pieces) (pairs_of (length pieces)) × IsFirstUnfit domain pieces lines index
IsRejected domain pieces lines Memory = Unit {0}

-- the lines are a proof, and they have the numbers 1, 2, and so on
pub record IsMade (domain : Domain) (pieces : List Piece) (p : Proof) : Type 0 where
  pub proof : IsProof domain pieces (lines_of_proof p.lines.items)
  pub numbers : p.numbers.items ≡ range_with_len 1 (length p.lines.items)

-- why no proof is made: elimination passes a limit on a system that may be asked
abbrev pub IsUnmade : Domain → List Piece → MakeError → Type 0
IsUnmade domain pieces (unmade.TooBig kept) = IsAsked domain pieces kept.system × (elimination kept.system ≡ Err passes)
IsUnmade domain pieces (unmade.TooManyRows kept) = IsAsked domain pieces kept.system × (elimination kept.system ≡ Err too_many)
IsUnmade domain pieces unmade.Memory = Unit {0}

-- how the refusal of a question is one of a proof
abbrev pub unmade_of : Unsolved → MakeError
unmade_of (unsolved.TooBig kept) = unmade.TooBig kept
unmade_of (unsolved.TooManyRows kept) = unmade.TooManyRows kept
unmade_of unsolved.Memory = unmade.Memory

-- ---- from a place on
-- the first of the lines that does not fit after so many others, counted from 1
pub record IsUnfitFrom (domain : Domain) (conditions : List (List Row)) (place : Place) (before : ℕ) (lines : List Line) (number : ℕ) : Type 0 where
  pub fitting : List Line
  pub behind : List Line
  pub all_lines : lines ≡ fitting ++ behind
  pub fit : FitInTurn domain conditions place fitting
  pub counted : number ≡ before + length fitting + 1
  pub stops : Stops domain conditions (after_lines conditions place fitting) behind

-- the lines from a place on are all that is to come, or the first of them that does not fit is told
abbrev pub Verifies : Domain → List (List Row) → Place → (before : ℕ) → List Line → Result (Unit {0}) VerifyError → Type 0
Verifies domain conditions place before lines (Ok u) = FitInTurn domain conditions place lines × (after_lines conditions place lines ≡ ended)
Verifies domain conditions place before lines (Err (BigCondition i c)) = ⊥
Verifies domain conditions place before lines (Err (BigDifference i j)) = ⊥
Verifies domain conditions place before lines (Err (NotProved number)) = IsUnfitFrom domain conditions place before lines number
Verifies domain conditions place before lines (Err Memory) = Unit {0}

-- ---- the lines of pairs
-- the lines at an index and behind it answer two questions, or the first of them that does not is told
abbrev pub AnswersBoth : (one two : Question) → List ProofLine → (at : ℕ) → Result (Unit {0}) VerifyError → Type 0
AnswersBoth one two lines at (Ok u) = AnswersPair one (line_at lines at) × AnswersPair two (line_at lines (at + 1))
AnswersBoth one two lines at (Err (BigCondition i c)) = ⊥
AnswersBoth one two lines at (Err (BigDifference i j)) = ⊥
AnswersBoth one two lines at (Err (NotProved number)) =
    ((number ≡ at + 1) × (¬ AnswersPair one (line_at lines at))) ⊎ ((number ≡ at + 2) × AnswersPair one (line_at lines at) × (¬ AnswersPair two (line_at lines (at + 1))))
AnswersBoth one two lines at (Err Memory) = Unit {0}

-- the first lines answer all questions
pub record ArePairsDone (domain : Domain) (pieces : List Piece) (lines : List ProofLine) (count : ℕ) : Type 0 where
  pub within : count ≤ length lines
  pub fit : FitInTurn domain (rows_of pieces) (start domain pieces) (lines_of_proof (take count lines))
  pub place : after_lines (rows_of pieces) (start domain pieces) (lines_of_proof (take count lines)) ≡ place_of (first_part (rows_of pieces) [])

abbrev pub VerifiesPairs : Domain → List Piece → List ProofLine → (count : ℕ) → Result (Unit {0}) VerifyError → Type 0
VerifiesPairs domain pieces lines count (Ok u) = ArePairsDone domain pieces lines count
VerifiesPairs domain pieces lines count (Err (BigCondition i c)) = ⊥
VerifiesPairs domain pieces lines count (Err (BigDifference i j)) = ⊥
VerifiesPairs domain pieces lines count (Err (NotProved number)) = IsUnfitFrom domain (rows_of pieces) (start domain pieces) 0 (lines_of_proof lines) number
VerifiesPairs domain pieces lines count (Err Memory) = Unit {0}

-- a refusal of clearing
abbrev pub unclear_of : PiecesError → VerifyError
unclear_of (refused.TooManyForms n) = Memory
unclear_of (refused.BigCondition i c) = BigCondition i c
unclear_of (refused.BigDifference i j) = BigDifference i j
unclear_of (refused.Disagree i j p) = Memory
unclear_of (refused.NotCovered p) = Memory
unclear_of (refused.TooBig s) = Memory
unclear_of (refused.TooManyRows s) = Memory
unclear_of refused.Memory = Memory

-- ---- pieces that may be checked
-- elimination of a system passes a limit
abbrev pub IsSolvingLimit : PiecesError → Type 0
IsSolvingLimit (refused.TooBig kept) = Unit {0}
IsSolvingLimit (refused.TooManyRows kept) = Unit {0}
IsSolvingLimit error = ⊥
