-- What a refusal says that is for no limit: of a segment that may not happen, of two pieces that disagree, of a point in no piece, of two functions that differ, of a function
-- that has no direct network, and of a line that does not fit in a proof.
use Rattle.std.specs.Prelude.{ℕ, suc, ◌≡◌, ◌-◌, ℤ, List, ◌∷◌, ◌++◌, length, slice_index_or, codes}
use Rattle.std.specs.Fmt.{decimal}
use Rattle.crn_fraction.specs.Rational.{ℚ}
use Rattle.crn_linear.specs.Forms.{wholes}
use Rattle.crn_formula.specs.Pieces.{Piece, IsIn, IsCovered}
use Rattle.crn_formula.specs.Domains.{domain_for, orthant, unit}
use Rattle.crn_formula.specs.Functions.{ByPieces}
use Rattle.crn_pieces.specs.Pairs.{piece_at, Differ}
use Rattle.crn_superadd.specs.Superadditive.{IsSuperadditive, IsFirstNegative, FallsShort, multiple}
use Rattle.crn_same.specs.Functions.{IsDifference}
use Rattle.crn_cert_text.specs.Proofs.{IsFirstUnfit}
use Rattle.crn_cert_text.specs.ProvedText.{PlainProved}
use Rattle.crn_function_text.specs.Grammar.{PlainFunction}
use Rattle.crn_function_text.specs.Two.{TwoFunctions}
use Rattle.crn_net.specs.Network.{Network, Run, IsLegal}
use Rattle.crn_net.specs.declared.Flow.{Flow}
use Rattle.crn_program.specs.Report.{refusal, point_text}

-- those before it are a run from a, and at the state where they lead the segment is not legal; its number is written
pub record RefusesSegment (net : Network) (a : List ℚ) (segments : List (List Flow)) (text : List ℕ) : Type 0 where
  pub before : List (List Flow)
  pub segment : List Flow
  pub rest : List (List Flow)
  pub state : List ℚ
  pub split : segments ≡ before ++ segment ∷ rest
  pub leads : Run net a before state
  pub illegal : ¬ IsLegal net state segment
  pub why : List ℕ
  pub written : text ≡ refusal (codes "segment " ++ (decimal (suc (length before)) ++ why))

-- two pieces of the function hold at a point of its domain and have two values there; their numbers and the point are written
pub record RefusesPair (function : PlainFunction) (text : List ℕ) : Type 0 where
  pub pieces : List Piece
  pub given : function.kind ≡ ByPieces pieces
  pub first : ℕ
  pub second : ℕ
  pub point : List ℤ
  pub differ : Differ (domain_for function.variables (ByPieces pieces)) (piece_at pieces first) (piece_at pieces second) point
  pub written : text ≡ refusal ((codes "pieces " ++ (decimal first ++ (codes " and " ++ (decimal second ++ codes " disagree at")))) ++ point_text function.variables point)

-- no piece of the function holds at a point of its domain; the point is written
pub record RefusesGap (function : PlainFunction) (text : List ℕ) : Type 0 where
  pub pieces : List Piece
  pub given : function.kind ≡ ByPieces pieces
  pub point : List ℤ
  pub is_in : IsIn (domain_for function.variables (ByPieces pieces)) (wholes point)
  pub outside : ¬ IsCovered pieces (wholes point)
  pub written : text ≡ refusal (codes "no piece at" ++ point_text function.variables point)

-- the two functions have two values at a point of their common domain; the point is written
pub record RefusesSame (both : TwoFunctions) (text : List ℕ) : Type 0 where
  pub variables : both.first.variables ≡ both.second.variables
  pub point : List ℤ
  pub differ : IsDifference both.first.variables both.first.kind both.second.kind point
  pub written : text ≡ refusal (codes "differ at" ++ point_text both.first.variables point)

-- the value at the sum of a multiple of one point and of another one is less than the sum of the values at both; the points and the multiple are written
pub record RefusesSum (function : PlainFunction) (text : List ℕ) : Type 0 where
  pub pieces : List Piece
  pub given : function.kind ≡ ByPieces pieces
  pub first : List ℤ
  pub times : ℕ
  pub second : List ℤ
  pub short : FallsShort pieces (multiple times (wholes first)) (wholes second)
  pub written : text
      ≡ refusal ((codes "not superadditive at " ++ (decimal times ++ (codes " times" ++ (point_text function.variables first ++ codes " and")))) ++ point_text function.variables second)

-- the function is superadditive, and negative at a unit point and at none before it; the point is written
pub record RefusesNegative (function : PlainFunction) (text : List ℕ) : Type 0 where
  pub pieces : List Piece
  pub given : function.kind ≡ ByPieces pieces
  pub superadditive : IsSuperadditive (orthant function.variables) pieces
  pub index : ℕ
  pub negative : IsFirstNegative function.variables pieces index
  pub written : text ≡ refusal (codes "negative at" ++ point_text function.variables (unit function.variables index))

-- the line of this place is the first of the proof that does not fit, or past its last where it is not whole; its number in the text is written, the end past the last
pub record RefusesProof (end : ℕ) (proved : PlainProved) (text : List ℕ) : Type 0 where
  pub pieces : List Piece
  pub given : proved.function.kind ≡ ByPieces pieces
  pub index : ℕ
  pub unfit : IsFirstUnfit (domain_for proved.function.variables (ByPieces pieces)) pieces proved.proof.lines index
  pub written : text ≡ refusal (codes "not proved at line " ++ decimal (slice_index_or proved.proof.numbers (index - 1) end))
