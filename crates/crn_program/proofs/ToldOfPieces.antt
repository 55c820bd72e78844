-- What is told of a function whose pieces are proved, of a proof, of two functions that are compared, and of a function of which a direct network is asked.
use Rattle.std.proofs.Common.{◌≡◌, ℕ, List, refl, sym, ◌∙◌, subst, ap}
use Rattle.std.specs.Prelude.{◌≢◌, ◌-◌, length, slice_index_or}
use Rattle.crn_cert_text.specs.Answers.{IsAccepted, IsRejected}
use Rattle.crn_cert_text.specs.ProvedText.{PlainProved}
use Rattle.crn_cert_text.specs.declared.VerifyError.TheVariants as verify
use Rattle.crn_compile.specs.Refusals.{of_pieces}
use Rattle.crn_compile.specs.DirectRefusals.{IsRefusedDirect}
use Rattle.crn_compile.specs.declared.CompileError.{CompileError}
use Rattle.crn_compile.specs.declared.CompileError.TheVariants.{Memory}
use Rattle.crn_compile.specs.declared.direct.DirectError.{DirectError}
use Rattle.crn_compile.specs.declared.direct.DirectError.TheVariants.{Compile}
use Rattle.crn_formula.specs.Functions.{IsGivenByPieces, IsFitting}
use Rattle.crn_formula.specs.Pieces.{Piece, Domain}
use Rattle.crn_function_text.specs.Grammar.{PlainFunction}
use Rattle.crn_function_text.specs.Two.{TwoFunctions}
use Rattle.crn_pieces.specs.Answers as pieces
use Rattle.crn_pieces.specs.declared.PiecesError.{PiecesError}
use Rattle.crn_pieces.specs.declared.PiecesError.TheVariants as unchecked
use Rattle.crn_same.specs.Functions.{AreSame, AreShownSame, IsRefused, IsTrueOf}
use Rattle.crn_same.specs.declared.SameError.{SameError}
use Rattle.crn_same.specs.declared.SameError.TheVariants as same
use Rattle.crn_program.specs.Comparing.{AreComparable, AreCompared, IsOutcomeOfTwo}
use Rattle.crn_program.specs.Directly.{IsLinearPieces, IsOutcomeOfDirect}
use Rattle.crn_program.specs.Ending.{Tells}
use Rattle.crn_program.specs.Finding.{Outcome, RefusedFunction, OtherKind, OtherVariables, NotSame, Same, NotDirect, NotProved, Checked, status_of_cause, text_of_cause, status_of_same, text_of_same, status_of_direct, text_of_direct, text_of_outcome}
use Rattle.crn_program.specs.Proving.{pieces_of, domain_of, IsUnprovable, IsUnclear, IsOutcomeOfProof, IsOutcomeOfCheck}
use Rattle.crn_program.specs.declared.status.Status.{Status}
use Rattle.crn_program.specs.declared.status.Status.TheVariants as status
use Rattle.crn_program.proofs.SomeOfPieces.{is_checked}

-- a command is for functions of another kind
pub tells_other : (Found : Outcome → Type 0) (s : Status) (text : List ℕ) → Found OtherKind → s ≡ status.WrongKind → text ≡ text_of_outcome OtherKind → Tells Found s text
tells_other Found s text other status_is text_is = record { what = OtherKind; found = other; status_is = status_is; text_is = text_is }

-- ---- `direct`

pub tells_not_direct : (f : PlainFunction) (k : ℕ) (e : DirectError) (s : Status) (text : List ℕ) → IsLinearPieces f → k ≡ f.variables → IsRefusedDirect f.variables f.kind e
    → (e ≢ Compile Memory) × (s ≡ status_of_direct e) × (text ≡ text_of_direct k e) → Tells (IsOutcomeOfDirect f) s text
tells_not_direct f k e s text linear k_is refused (cause, status_is, text_is) = record {
  what = NotDirect k e;
  found = record { linear = linear; variables = k_is; is_cause = cause; refused = refused };
  status_is = status_is;
  text_is = text_is;
}

-- ---- `same`

pub tells_not_same : (both : TwoFunctions) (k : ℕ) (e : SameError) (s : Status) (text : List ℕ) → AreCompared both → k ≡ both.first.variables
    → IsRefused both.first.variables both.first.kind both.second.kind e → IsTrueOf both.first.variables both.first.kind both.second.kind e
    → (e ≢ same.Memory) × (s ≡ status_of_same e) × (text ≡ text_of_same k e) → Tells (IsOutcomeOfTwo both) s text
tells_not_same both k e s text compared k_is refused point (cause, status_is, text_is) = record {
  what = NotSame k e;
  found = record { compared = compared; variables = k_is; is_cause = cause; refused = refused; point = point };
  status_is = status_is;
  text_is = text_is;
}

pub tells_other_variables : (both : TwoFunctions) (m n : ℕ) (s : Status) (text : List ℕ) → AreComparable both → m ≡ both.first.variables → n ≡ both.second.variables → m ≢ n
    → (s ≡ status.Variables) × (text ≡ text_of_outcome (OtherVariables m n)) → Tells (IsOutcomeOfTwo both) s text
tells_other_variables both m n s text pair m_is n_is other (status_is, text_is) =
    record { what = OtherVariables m n; found = (pair, m_is, n_is, other); status_is = status_is; text_is = text_is }

pub tells_same : (both : TwoFunctions) (text : List ℕ) → AreComparable both → both.first.variables ≡ both.second.variables
    → AreSame both.first.variables both.first.kind both.second.kind → AreShownSame both.first.variables both.first.kind both.second.kind → text ≡ text_of_outcome Same
    → Tells (IsOutcomeOfTwo both) status.Done text
tells_same both text pair variables so shown text_is = record {
  what = Same;
  found = record { compared = record { comparable = pair; variables = variables }; same = so; shown = shown };
  status_is = refl;
  text_is = text_is;
}

-- ---- `prove`

pub tells_unproved : (f : PlainFunction) (k : ℕ) (e : CompileError) (s : Status) (text : List ℕ) → IsGivenByPieces f.kind → k ≡ f.variables → IsUnprovable (domain_of f) (pieces_of f) e
    → (e ≢ Memory) × (s ≡ status_of_cause e) × (text ≡ text_of_cause k e) → Tells (IsOutcomeOfProof f) s text
tells_unproved f k e s text given k_is refused (cause, status_is, text_is) = record {
  what = RefusedFunction k e;
  found = record { pieces = given; variables = k_is; is_cause = cause; refused = refused };
  status_is = status_is;
  text_is = text_is;
}

-- pieces that are refused have no proof
pub unprovable : (domain : Domain) (ps : List Piece) (e : PiecesError) → pieces.IsRefused domain ps e → IsUnprovable domain ps (of_pieces e)
unprovable domain ps (unchecked.TooManyForms count) is = is
unprovable domain ps (unchecked.BigCondition i c) is = is
unprovable domain ps (unchecked.BigDifference i j) is = is
unprovable domain ps (unchecked.Disagree i j p) is = is
unprovable domain ps (unchecked.NotCovered p) is = is
unprovable domain ps (unchecked.TooBig kept) is = is
unprovable domain ps (unchecked.TooManyRows kept) is = is
unprovable domain ps unchecked.Memory is = tt

-- ---- `check`

pub tells_unclear : (end : ℕ) (p : PlainProved) (k : ℕ) (e : CompileError) (s : Status) (text : List ℕ) → IsGivenByPieces p.function.kind → k ≡ p.function.variables → IsUnclear (pieces_of p.function) e
    → (e ≢ Memory) × (s ≡ status_of_cause e) × (text ≡ text_of_cause k e) → Tells (IsOutcomeOfCheck end p) s text
tells_unclear end p k e s text given k_is unclear (cause, status_is, text_is) = record {
  what = RefusedFunction k e;
  found = record { pieces = given; variables = k_is; unclear = unclear };
  status_is = status_is;
  text_is = text_is;
}

pub tells_checked : (end : ℕ) (p : PlainProved) (n : ℕ) (s : Status) (text : List ℕ) → IsFitting p.function.variables p.function.kind → IsGivenByPieces p.function.kind
    → IsAccepted (domain_of p.function) (pieces_of p.function) p.proof.lines → n ≡ length p.proof.lines → (s ≡ status.Done) × (text ≡ text_of_outcome (Checked n)) → Tells (IsOutcomeOfCheck end p) s text
tells_checked end p n s text fit given accepted counted (status_is, text_is) = record {
  what = Checked n;
  found = (counted, is_checked p fit given accepted);
  status_is = status_is;
  text_is = text_is;
}

pub tells_not_proved : (end : ℕ) (p : PlainProved) (index line : ℕ) (s : Status) (text : List ℕ) → IsGivenByPieces p.function.kind
    → IsRejected (domain_of p.function) (pieces_of p.function) p.proof.lines (verify.NotProved index) → line ≡ slice_index_or p.proof.numbers (index - 1) end
    → (s ≡ status.NotProved) × (text ≡ text_of_outcome (NotProved line)) → Tells (IsOutcomeOfCheck end p) s text
tells_not_proved end p index line s text given rejected line_is (status_is, text_is) = record {
  what = NotProved line;
  found = record { pieces = given; conditions = rejected.0; differences = rejected.1; index = index; unfit = rejected.2; line_is = line_is };
  status_is = status_is;
  text_is = text_is;
}
