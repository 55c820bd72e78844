-- Proofs that pieces cover a domain and agree on it: their lines, and what makes them a proof.
use Rattle.std.specs.Prelude.{◌≡◌, ◌≢◌, ℕ, suc, ◌+◌, ◌<◌, ℤ, List, [], ◌∷◌, ◌++◌, length, slice_index_or, nat_lt, Option, Some, None, if◌then◌else◌}
use Rattle.std.specs.List.{flat_map}
use Rattle.crn_linear.specs.Rows.{Row, AreSmall}
use Rattle.crn_farkas.specs.Systems.{System, IsCertificate}
use Rattle.crn_formula.specs.Pieces.{Piece, Domain}
use Rattle.crn_linear.specs.FormRows.{above_row}
use Rattle.crn_pieces.specs.Systems.{condition_rows, rows_of, cover_system}
use Rattle.crn_pieces.specs.Pairs.{pairs_of, piece_at, first_above, second_above}

-- ---- lines
-- the multipliers of two pieces' system, those of a part of the cover tree, or that a part has parts of its own
pub data Line : Type 0 where
  pair : (a b : ℕ) → List ℤ → Line
  close : List ℤ → Line
  split : Line

-- one small multiplier for each row, that are a certificate
pub record IsProofOf (s : System) (multipliers : List ℤ) : Type 0 where
  pub small : AreSmall multipliers
  pub certificate : IsCertificate s multipliers

-- ---- pairs
-- the numbers of two pieces, and the system that asks whether the form of the first is above that of the second
pub record Question : Type 0 where
  pub above : ℕ
  pub below : ℕ
  pub system : System

-- the rows of a pair, with the difference of the first less the second
abbrev pub first_rows : List Piece → ℕ × ℕ → List Row
first_rows pieces q =
    let a = piece_at pieces q.0 in
    let b = piece_at pieces q.1 in
    condition_rows a ++ (condition_rows b ++ above_row a.form b.form ∷ [])

-- and of the second less the first
abbrev pub second_rows : List Piece → ℕ × ℕ → List Row
second_rows pieces q =
    let a = piece_at pieces q.0 in
    let b = piece_at pieces q.1 in
    condition_rows a ++ (condition_rows b ++ above_row b.form a.form ∷ [])

-- of each pair, the smaller number first, and then the other way round
abbrev pub questions_of : Domain → List Piece → ℕ × ℕ → List Question
questions_of domain pieces q =
    record { above = q.0; below = q.1; system = first_above domain pieces q }
    ∷ record { above = q.1; below = q.0; system = second_above domain pieces q } ∷ []

abbrev pub questions : Domain → List Piece → List Question
questions domain pieces = flat_map (questions_of domain pieces) (pairs_of (length pieces))

-- the line answers the question
abbrev pub AnswersPair : Question → Line → Type 0
AnswersPair q (pair a b multipliers) = (a ≡ q.above) × (b ≡ q.below) × IsProofOf q.system multipliers
AnswersPair q (close multipliers) = ⊥
AnswersPair q split = ⊥

-- a line for each question, in order
abbrev pub AnswerPairs : List Question → List Line → Type 0
AnswerPairs [] [] = Unit {0}
AnswerPairs [] (line ∷ lines) = ⊥
AnswerPairs (q ∷ qs) [] = ⊥
AnswerPairs (q ∷ qs) (line ∷ lines) = AnswersPair q line × AnswerPairs qs lines

-- ---- the cover tree
-- the parts that belong to some choices, one for each condition of the next piece from one on: it is closed by multipliers, or it is split into parts of its own
pub data Parts : Type 0 where
  none : Parts
  closed : List ℤ → Parts → Parts
  opened : Parts → Parts → Parts

-- their lines
abbrev pub lines_of : Parts → List Line
lines_of none = []
lines_of (closed multipliers rest) = close multipliers ∷ lines_of rest
lines_of (opened inner rest) = split ∷ lines_of inner ++ lines_of rest

-- how many conditions the piece after these choices has
abbrev pub next_count : List (List Row) → List ℕ → ℕ
next_count conditions choices = length (slice_index_or conditions (length choices) [])

-- the parts are those of the conditions from number k on of the piece after these choices
abbrev pub IsTree : Domain → List (List Row) → (choices : List ℕ) → (k : ℕ) → Parts → Type 0
IsTree domain conditions choices k none = k ≡ next_count conditions choices
IsTree domain conditions choices k (closed multipliers rest) =
    (k < next_count conditions choices) × IsProofOf (cover_system domain conditions (choices ++ k ∷ [])) multipliers × IsTree domain conditions choices (suc k) rest
IsTree domain conditions choices k (opened inner rest) =
    (k < next_count conditions choices) × (suc (length choices) < length conditions) × IsTree domain conditions (choices ++ k ∷ []) 0 inner × IsTree domain conditions choices (suc k) rest

-- ---- proofs
-- a line for each question to a pair, and then the lines of the cover tree
pub record IsProof (domain : Domain) (pieces : List Piece) (lines : List Line) : Type 0 where
  pub pairs : List Line
  pub tree : Parts
  pub all_lines : lines ≡ pairs ++ lines_of tree
  pub pairs_answered : AnswerPairs (questions domain pieces) pairs
  pub is_tree : IsTree domain (rows_of pieces) [] 0 tree

-- ---- line by line
-- the part after one and the parts within it: that of the next condition of its last piece, or else of the last piece before that has a next one
abbrev pub or_else : List Row → (k : ℕ) → Option (List ℕ) → Option (List ℕ)
or_else rows k None = if nat_lt (suc k) (length rows) then Some (suc k ∷ []) else None
or_else rows k (Some choices) = Some (k ∷ choices)

abbrev pub next_part : List (List Row) → List ℕ → Option (List ℕ)
next_part conditions [] = None
next_part [] (k ∷ choices) = None
next_part (rows ∷ conditions) (k ∷ choices) = or_else rows k (next_part conditions choices)

-- the first of the parts that belong to some choices, or what comes after them where the next piece has no condition
abbrev pub first_part : List (List Row) → List ℕ → Option (List ℕ)
first_part conditions choices = if nat_lt 0 (next_count conditions choices) then Some (choices ++ 0 ∷ []) else next_part conditions choices

-- what comes next in a proof: a question to a pair with those behind it, the part of some choices of the cover tree, or nothing
pub data Place : Type 0 where
  asking : Question → List Question → Place
  part : List ℕ → Place
  ended : Place

abbrev pub place_of : Option (List ℕ) → Place
place_of None = ended
place_of (Some choices) = part choices

abbrev pub at_questions : List (List Row) → List Question → Place
at_questions conditions [] = place_of (first_part conditions [])
at_questions conditions (q ∷ qs) = asking q qs

-- a proof begins with the first question
abbrev pub start : Domain → List Piece → Place
start domain pieces = at_questions (rows_of pieces) (questions domain pieces)

-- the line fits its place
abbrev pub Fits : Domain → List (List Row) → Place → Line → Type 0
Fits domain conditions (asking q qs) line = AnswersPair q line
Fits domain conditions (part choices) (pair a b multipliers) = ⊥
Fits domain conditions (part choices) (close multipliers) = IsProofOf (cover_system domain conditions choices) multipliers
Fits domain conditions (part choices) split = length choices < length conditions
Fits domain conditions ended line = ⊥

-- what comes after it
abbrev pub after_line : List (List Row) → Place → Line → Place
after_line conditions (asking q qs) line = at_questions conditions qs
after_line conditions (part choices) (pair a b multipliers) = ended
after_line conditions (part choices) (close multipliers) = place_of (next_part conditions choices)
after_line conditions (part choices) split = place_of (first_part conditions choices)
after_line conditions ended line = ended

-- lines fit one after another, and what comes after them
abbrev pub FitInTurn : Domain → List (List Row) → Place → List Line → Type 0
FitInTurn domain conditions place [] = Unit {0}
FitInTurn domain conditions place (line ∷ lines) = Fits domain conditions place line × FitInTurn domain conditions (after_line conditions place line) lines

abbrev pub after_lines : List (List Row) → Place → List Line → Place
after_lines conditions place [] = place
after_lines conditions place (line ∷ lines) = after_lines conditions (after_line conditions place line) lines

-- the lines end too early, or the first of them does not fit
abbrev pub Stops : Domain → List (List Row) → Place → List Line → Type 0
Stops domain conditions place [] = place ≢ ended
Stops domain conditions place (line ∷ lines) = ¬ Fits domain conditions place line

-- the line of this number, counted from 1, is the first that does not fit; it is the number of lines and 1 where all fit and the proof is not whole
pub record IsFirstUnfit (domain : Domain) (pieces : List Piece) (lines : List Line) (number : ℕ) : Type 0 where
  pub fitting : List Line
  pub behind : List Line
  pub all_lines : lines ≡ fitting ++ behind
  pub fit : FitInTurn domain (rows_of pieces) (start domain pieces) fitting
  pub counted : number ≡ length fitting + 1
  pub stops : Stops domain (rows_of pieces) (after_lines (rows_of pieces) (start domain pieces) fitting) behind
