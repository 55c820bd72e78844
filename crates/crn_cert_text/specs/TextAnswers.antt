-- What is answered to a text of a function and a proof.
use Rattle.std.specs.Prelude.{◌≡◌, ℕ, ◌-◌, List, length, slice_index_or, All}
use Rattle.crn_token.specs.Plain.{plain_lines, end_of}
use Rattle.crn_grammar.specs.Table as table
use Rattle.crn_grammar.specs.Table.{IsText, PassesNone, Limited}
use Rattle.crn_grammar.specs.declared.error.TextError.{TextError}
use Rattle.crn_grammar.specs.declared.error.TextError.TheVariants as text
use Rattle.crn_cert_text.specs.declared.VerifyError.{VerifyError}
use Rattle.crn_cert_text.specs.declared.VerifyError.TheVariants as verify
use Rattle.crn_formula.specs.Pieces.{Piece, Domain, Covers, Agree}
use Rattle.crn_formula.specs.Functions.{IsGivenByPieces}
use Rattle.crn_formula.specs.Domains.{domain_for}
use Rattle.crn_pieces.specs.Pairs.{pairs_of, IsFirstWithout}
use Rattle.crn_pieces.specs.Views.{pieces_of_kind}
use Rattle.crn_pieces.specs.Answers.{DoConditionsClear, DoesDifferenceClear, IsFirstBigCondition}
use Rattle.crn_cert_text.specs.Proofs.{IsFirstUnfit}
use Rattle.crn_cert_text.specs.Answers.{IsAccepted}
use Rattle.crn_cert_text.specs.declared.checking.CheckError.{CheckError}
use Rattle.crn_cert_text.specs.declared.checking.CheckError.TheVariants.{Malformed, Limit, WrongKind, BigCondition, BigDifference, NotProved, Memory}
use Rattle.crn_cert_text.specs.ProvedText.{PlainProved, proved_table, proved_answer}

-- the function's pieces, and its domain
abbrev pub pieces_of_text : PlainProved → List Piece
pieces_of_text p = pieces_of_kind p.function.kind

abbrev pub domain_of_text : PlainProved → Domain
domain_of_text p = domain_for p.function.variables p.function.kind

-- the text is that of this function and proof, within the limits
pub record IsTextOf (bytes : List ℕ) (p : PlainProved) : Type 0 where
  pub text : IsText proved_table (plain_lines bytes) p
  pub limits : PassesNone proved_table (plain_lines bytes)

-- and the function is given by pieces
pub record IsPiecesText (bytes : List ℕ) (p : PlainProved) : Type 0 where
  pub read : IsTextOf bytes p
  pub pieces : IsGivenByPieces p.function.kind

-- its lines, so many, are a proof
pub record IsAcceptedText (bytes : List ℕ) (count : ℕ) : Type 0 where
  pub proved : PlainProved
  pub is : IsPiecesText bytes proved
  pub accepted : IsAccepted (domain_of_text proved) (pieces_of_text proved) proved.proof.lines
  pub counted : count ≡ length proved.proof.lines

-- its pieces cover the domain and agree on it
pub record IsProvedText (bytes : List ℕ) : Type 0 where
  pub proved : PlainProved
  pub is : IsPiecesText bytes proved
  pub covers : Covers (domain_of_text proved) (pieces_of_text proved)
  pub agree : Agree (domain_of_text proved) (pieces_of_text proved)

-- the line of a text on which a proof line stands, and the one past the last where there is none
abbrev pub line_of_text : List ℕ → PlainProved → (index : ℕ) → ℕ
line_of_text bytes p index = slice_index_or p.proof.numbers (index - 1) (end_of bytes)

-- why a text is not accepted, in the order in which it is looked for
abbrev pub IsRefusedText : List ℕ → CheckError → Type 0
IsRefusedText bytes (Malformed line) = proved_answer bytes ≡ table.Malformed line
IsRefusedText bytes (Limit what count) = proved_answer bytes ≡ Limited (what, count)
IsRefusedText bytes WrongKind = (p : PlainProved) × IsTextOf bytes p × (¬ IsGivenByPieces p.function.kind)
IsRefusedText bytes (BigCondition i c) = (p : PlainProved) × IsPiecesText bytes p × IsFirstBigCondition (pieces_of_text p) i c
IsRefusedText bytes (BigDifference i j) = (p : PlainProved) × IsPiecesText bytes p × All DoConditionsClear (pieces_of_text p) × IsFirstWithout (DoesDifferenceClear (pieces_of_text p)) (pairs_of (length (pieces_of_text p))) (i, j)
IsRefusedText bytes (NotProved line) =
    (p : PlainProved) × (index : ℕ) × IsPiecesText bytes p × All DoConditionsClear (pieces_of_text p) × All (DoesDifferenceClear (pieces_of_text p)) (pairs_of (length (pieces_of_text p)))
    × IsFirstUnfit (domain_of_text p) (pieces_of_text p) p.proof.lines index × (line ≡ line_of_text bytes p index)
IsRefusedText bytes Memory = Unit {0}

-- how a refusal to read, or of a proof, is one of the text
abbrev pub unread_of : TextError → CheckError
unread_of (text.Malformed line) = Malformed line
unread_of (text.Limit what count) = Limit what count
unread_of text.Memory = Memory

abbrev pub unproved_of : (numbers : List ℕ) → (end : ℕ) → VerifyError → CheckError
unproved_of numbers end (verify.BigCondition i c) = BigCondition i c
unproved_of numbers end (verify.BigDifference i j) = BigDifference i j
unproved_of numbers end (verify.NotProved index) = NotProved (slice_index_or numbers (index - 1) end)
unproved_of numbers end verify.Memory = Memory
