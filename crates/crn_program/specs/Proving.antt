-- What comes of a function of which a proof is asked, and of a function with a proof.
use Rattle.std.specs.Prelude.{ℕ, ◌≡◌, ◌≢◌, ◌<◌, ◌-◌, List, length, slice_index_or, All, Err}
use Rattle.crn_feasible.specs.Elimination.{elimination, passes, too_many}
use Rattle.crn_grammar.specs.Table.{Read}
use Rattle.crn_formula.specs.Pieces.{Piece, Domain, Covers, Agree}
use Rattle.crn_formula.specs.Domains.{domain_for}
use Rattle.crn_formula.specs.Functions.{IsGivenByPieces}
use Rattle.crn_pieces.specs.Answers as pieces
use Rattle.crn_pieces.specs.Answers.{AreChecked, IsPrepared, IsAsked, DoConditionsClear, DoesDifferenceClear, IsFirstBigCondition}
use Rattle.crn_pieces.specs.Pairs.{pairs_of, IsFirstWithout}
use Rattle.crn_pieces.specs.Views.{pieces_of_kind}
use Rattle.crn_pieces.specs.declared.PiecesError.TheVariants as unchecked
use Rattle.crn_compile.specs.declared.CompileError.{CompileError}
use Rattle.crn_compile.specs.declared.CompileError.TheVariants.{TooManyForms, BigCondition, BigDifference, Disagree, NotCovered, TooBig, TooManyRows, TooManyCells, TooManyNodes, Memory}
use Rattle.crn_cert_text.specs.Answers.{IsAccepted}
use Rattle.crn_cert_text.specs.Proofs.{Line, IsProof, IsFirstUnfit}
use Rattle.crn_cert_text.specs.ProvedText.{PlainProved, proved_text, printed_proof}
use Rattle.crn_function_text.specs.Grammar.{PlainFunction}
use Rattle.crn_program.specs.Finding.{Outcome, RefusedFunction, OtherKind, Proved, NotProved, Checked}
use Rattle.crn_program.specs.Texts.{IsProvedAnswer}

-- the pieces of a function, and its domain
abbrev pub pieces_of : PlainFunction → List Piece
pieces_of f = pieces_of_kind f.kind

abbrev pub domain_of : PlainFunction → Domain
domain_of f = domain_for f.variables f.kind

-- ---- `prove`

-- why pieces have no proof: they are refused, or elimination passes a limit on a system that may be asked
abbrev pub IsUnprovable : Domain → List Piece → CompileError → Type 0
IsUnprovable domain ps (TooManyForms count) = pieces.IsRefused domain ps (unchecked.TooManyForms count)
IsUnprovable domain ps (BigCondition piece condition) = pieces.IsRefused domain ps (unchecked.BigCondition piece condition)
IsUnprovable domain ps (BigDifference first second) = pieces.IsRefused domain ps (unchecked.BigDifference first second)
IsUnprovable domain ps (Disagree first second point) = pieces.IsRefused domain ps (unchecked.Disagree first second point)
IsUnprovable domain ps (NotCovered point) = pieces.IsRefused domain ps (unchecked.NotCovered point)
IsUnprovable domain ps (TooBig kept) = IsPrepared ps × IsAsked domain ps kept.system × (elimination kept.system ≡ Err passes)
IsUnprovable domain ps (TooManyRows kept) = IsPrepared ps × IsAsked domain ps kept.system × (elimination kept.system ≡ Err too_many)
IsUnprovable domain ps (TooManyCells count) = ⊥
IsUnprovable domain ps (TooManyNodes count) = ⊥
IsUnprovable domain ps Memory = Unit {0}

-- the function, of k variables, is given by pieces that have no proof for this cause, which is not want of memory
pub record IsNotProvable (f : PlainFunction) (k : ℕ) (e : CompileError) : Type 0 where
  pub pieces : IsGivenByPieces f.kind
  pub variables : k ≡ f.variables
  pub is_cause : e ≢ Memory
  pub refused : IsUnprovable (domain_of f) (pieces_of f) e

-- The function is given by pieces that cover its domain and agree on it, and the lines are a proof of that. Its text with the proof is read as both.
pub record IsProvable (f : PlainFunction) (lines : List Line) : Type 0 where
  pub pieces : IsGivenByPieces f.kind
  pub checked : AreChecked (domain_of f) (pieces_of f)
  pub proof : IsProof (domain_of f) (pieces_of f) lines
  pub reads_back : IsProvedAnswer (proved_text f lines) (Read (printed_proof f lines))

abbrev pub IsOutcomeOfProof : PlainFunction → Outcome → Type 0
IsOutcomeOfProof f OtherKind = ¬ IsGivenByPieces f.kind
IsOutcomeOfProof f (RefusedFunction k e) = IsNotProvable f k e
IsOutcomeOfProof f (Proved g lines) = (g ≡ f) × IsProvable f lines
IsOutcomeOfProof f _ = ⊥

-- ---- `check`

-- the first of the rows of the pieces that does not clear
abbrev pub IsUnclear : List Piece → CompileError → Type 0
IsUnclear ps (BigCondition piece condition) = IsFirstBigCondition ps piece condition
IsUnclear ps (BigDifference first second) =
    All DoConditionsClear ps × IsFirstWithout (DoesDifferenceClear ps) (pairs_of (length ps)) (first, second)
IsUnclear ps e = ⊥

-- the function, of k variables, is given by pieces of which a row does not clear
pub record IsNotCleared (f : PlainFunction) (k : ℕ) (e : CompileError) : Type 0 where
  pub pieces : IsGivenByPieces f.kind
  pub variables : k ≡ f.variables
  pub unclear : IsUnclear (pieces_of f) e

-- All rows clear. The line of this number of the text is that of the first line of the proof that does not fit, or the line past the last, where the proof ends too early.
pub record IsNotProved (end : ℕ) (p : PlainProved) (line : ℕ) : Type 0 where
  pub pieces : IsGivenByPieces p.function.kind
  pub conditions : All DoConditionsClear (pieces_of p.function)
  pub differences : All (DoesDifferenceClear (pieces_of p.function)) (pairs_of (length (pieces_of p.function)))
  pub index : ℕ
  pub unfit : IsFirstUnfit (domain_of p.function) (pieces_of p.function) p.proof.lines index
  pub line_is : line ≡ slice_index_or p.proof.numbers (index - 1) end

-- The lines are a proof, so the pieces cover the domain and agree on it.
pub record IsChecked (p : PlainProved) : Type 0 where
  pub pieces : IsGivenByPieces p.function.kind
  pub some : 0 < length (pieces_of p.function)
  pub accepted : IsAccepted (domain_of p.function) (pieces_of p.function) p.proof.lines
  pub covers : Covers (domain_of p.function) (pieces_of p.function)
  pub agree : Agree (domain_of p.function) (pieces_of p.function)

abbrev pub IsOutcomeOfCheck : (end : ℕ) → PlainProved → Outcome → Type 0
IsOutcomeOfCheck end p OtherKind = ¬ IsGivenByPieces p.function.kind
IsOutcomeOfCheck end p (RefusedFunction k e) = IsNotCleared p.function k e
IsOutcomeOfCheck end p (NotProved line) = IsNotProved end p line
IsOutcomeOfCheck end p (Checked n) = (n ≡ length p.proof.lines) × IsChecked p
IsOutcomeOfCheck end p _ = ⊥
