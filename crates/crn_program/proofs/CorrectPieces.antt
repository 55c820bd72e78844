-- What `prove`, `check`, `same` and `direct` do where they are done.
use Rattle.std.proofs.Common.{◌≡◌, ℕ, ◌*◌, ◌≤◌, List, length, Some, refl, sym, ap, ◌∙◌, subst, arith}
use Rattle.crn_fraction.specs.Rational.{ℚ}
use Rattle.crn_cert_text.specs.ProvedText.{PlainProved, proved_text, printed_proof}
use Rattle.crn_cert_text.specs.Proofs.{Line, IsProof}
use Rattle.crn_compile.specs.Networks.{ComputesFunction}
use Rattle.crn_compile.specs.declared.CompileError.{CompileError}
use Rattle.crn_compile.specs.declared.CompileError.TheVariants as cause
use Rattle.crn_compile.specs.declared.direct.DirectError.{DirectError}
use Rattle.crn_compile.specs.declared.direct.DirectError.TheVariants as direct
use Rattle.crn_compile.specs.Refusals.{of_pieces, of_formula}
use Rattle.crn_direct.specs.Layout.{direct_layout}
use Rattle.crn_formula.specs.Domains.{domain_for, orthant}
use Rattle.crn_formula.specs.Formulas.{Formula, formula_value}
use Rattle.crn_formula.specs.Functions.{Kind, ByFormula, ByPieces, ByLeast, IsGivenByPieces, IsFitting, kind_value, point_of, is_affine}
use Rattle.crn_formula.specs.Pieces.{Piece, Covers, Agree}
use Rattle.crn_function_text.specs.Grammar.{PlainFunction}
use Rattle.crn_function_text.specs.Two.{TwoFunctions}
use Rattle.crn_grammar.specs.Table.{Read}
use Rattle.crn_net.specs.Network.{Network, AreAmounts, AreNotNegative, StablyComputes, encoded}
use Rattle.crn_net.specs.declared.Rails.TheVariants.{Direct}
use Rattle.crn_pieces.specs.Views.{pieces_of_kind}
use Rattle.crn_same.specs.declared.SameError.{SameError}
use Rattle.crn_same.specs.declared.SameError.TheVariants as same
use Rattle.crn_same.specs.Functions.{AreShownSame, IsFormulaFor}
use Rattle.crn_same.proofs.Comparing.{formula_value_is, amounts_in}
use Rattle.crn_token.specs.Plain.{plain_lines, end_of}
use Rattle.crn_program.specs.Answer.{Answers}
use Rattle.crn_program.specs.Comparing.{AreFoundSame, IsOutcomeOfTwo}
use Rattle.crn_program.specs.Correct.{Proves, Checks, Compares, CompilesDirectly}
use Rattle.crn_program.specs.Directly.{IsCompiledDirectly, IsOutcomeOfDirect}
use Rattle.crn_program.specs.Finding.{Outcome, RefusedFunction, Compiled, OtherKind, OtherVariables, NotSame, Same, NotDirect, Proved, NotProved, Checked, status_of_cause, status_of_same, status_of_direct, status_of, status_of_outcome, text_of, text_of_outcome}
use Rattle.crn_program.specs.Proving.{pieces_of, IsProvable, IsOutcomeOfProof, IsOutcomeOfCheck}
use Rattle.crn_program.specs.Texts.{IsFunctionAnswer, IsProvedAnswer, IsTwoAnswer, IsNetworkAnswer}
use Rattle.crn_program.specs.Value.{IsValue}
use Rattle.crn_program.specs.Words.{IsRow, proved_text_limit}
use Rattle.crn_program.specs.declared.words.Command.TheVariants.{OfText}
use Rattle.crn_program.specs.declared.words.TextCommand.TheVariants as command
use Rattle.crn_program.specs.declared.status.Status.{Status}
use Rattle.crn_program.specs.declared.status.Status.TheVariants as status
use Rattle.crn_program.proofs.Computing.{computes_value, input_count}
use Rattle.crn_program.proofs.Done.{IsDone, done, not_done, comes_in_text}
use Rattle.crn_program.proofs.Endings.{found_by, comes_of}
use Rattle.crn_program.proofs.OneAnswer.{one_proved_answer}
use Rattle.crn_program.proofs.OneOfPieces.{check_case, two_checked}
use Rattle.crn_program.proofs.SomeOfPieces.{is_checked}
use Rattle.crn_function_text.proofs.Kept.{text_fits}

-- a function by pieces has these pieces
pub by_pieces : (kind : Kind) → IsGivenByPieces kind → kind ≡ ByPieces (pieces_of_kind kind)
by_pieces (ByFormula e) given = absurd given
by_pieces (ByPieces ps) given = refl
by_pieces (ByLeast forms) given = absurd given

-- ---- `prove`

proves : (bytes text : List ℕ) (f : PlainFunction) (o : Outcome) → IsFunctionAnswer bytes (Read f) → IsOutcomeOfProof f o → IsDone (status_of_outcome o) → text ≡ text_of_outcome o → Proves bytes text
proves bytes text f OtherKind read found is text_is = absurd is
proves bytes text f (RefusedFunction k e) read found is text_is = absurd (not_done e is)
proves bytes text f (Proved g lines) read found is text_is =
    let given = by_pieces f.kind found.1.pieces in
    let domain = ap (domain_for f.variables) given in
    let written = text_is ∙ ap (λ h. proved_text h lines) found.0 in
    record {
      function = f;
      pieces = pieces_of f;
      lines = lines;
      read = read;
      given = given;
      covers = subst (λ d. Covers d (pieces_of f)) domain found.1.checked.covers;
      agree = subst (λ d. Agree d (pieces_of f)) domain found.1.checked.agree;
      proof = subst (λ d. IsProof d (pieces_of f) lines) domain found.1.proof;
      written = written;
      reads_back = subst (λ t. IsProvedAnswer t (Read (printed_proof f lines))) (sym written) found.1.reads_back;
    }
proves bytes text f _ read found is text_is = absurd found

-- ---- `check`

checks : (bytes text : List ℕ) (end : ℕ) (p : PlainProved) (o : Outcome) → IsProvedAnswer bytes (Read p) → IsOutcomeOfCheck end p o → IsDone (status_of_outcome o) → text ≡ text_of_outcome o → Checks bytes text
checks bytes text end p OtherKind read found is text_is = absurd is
checks bytes text end p (RefusedFunction k e) read found is text_is = absurd (not_done e is)
checks bytes text end p (NotProved line) read found is text_is = absurd is
checks bytes text end p (Checked n) read found is text_is =
    let f = p.function in
    let given = by_pieces f.kind found.1.pieces in
    let domain = ap (domain_for f.variables) given in
    record {
      proved = p;
      pieces = pieces_of f;
      read = read;
      given = given;
      proof = subst (λ d. IsProof d (pieces_of f) p.proof.lines) domain found.1.accepted.proved;
      covers = subst (λ d. Covers d (pieces_of f)) domain found.1.covers;
      agree = subst (λ d. Agree d (pieces_of f)) domain found.1.agree;
      written = text_is ∙ ap (λ m. text_of_outcome (Checked m)) found.0;
    }
checks bytes text end p _ read found is text_is = absurd found

-- ---- `same`

no_same_done : (e : SameError) → IsDone (status_of_same e) → ⊥
no_same_done (same.Pieces which e) is = not_done (of_pieces e) is
no_same_done (same.Maxmin which e) is = not_done (of_formula e) is
no_same_done (same.TooManySets count) is = is
no_same_done (same.TooManyForms count) is = is
no_same_done same.TooBigForm is = is
no_same_done (same.Differ p) is = is
no_same_done (same.TooBig kept) is = is
no_same_done (same.TooManyRows kept) is = is
no_same_done same.Memory is = is

-- a function with a formula has a value at every point
has_value : (f : PlainFunction) (x : List ℚ) → length x ≡ f.variables → (e : Formula) → IsFormulaFor f.variables f.kind e → (v : ℚ) × IsValue f x v
has_value f x long e is =
    let y = point_of f.variables f.kind x in (formula_value e y, formula_value_is f.variables f.kind e is y (amounts_in f.variables (is_affine f.variables f.kind) x long))

values : (both : TwoFunctions) → AreFoundSame both → (x : List ℚ) → length x ≡ both.first.variables → (v : ℚ) × IsValue both.first x v × IsValue both.second x v
values both found x long =
    let (v, is) = has_value both.first x long found.shown.first found.shown.is_first in
    (v, is, subst (λ n. kind_value both.second.kind (point_of n both.second.kind x) ≡ Some v) found.compared.variables (sym (found.same x long) ∙ is))

compares : (bytes text : List ℕ) (both : TwoFunctions) (o : Outcome) → IsTwoAnswer bytes (Read both) → IsOutcomeOfTwo both o → IsDone (status_of_outcome o) → text ≡ text_of_outcome o → Compares bytes text
compares bytes text both OtherKind read found is text_is = absurd is
compares bytes text both (OtherVariables m n) read found is text_is = absurd is
compares bytes text both (NotSame k e) read found is text_is = absurd (no_same_done e is)
compares bytes text both Same read found is text_is =
    record { both = both; read = read; variables = found.compared.variables; same = values both found; written = text_is }
compares bytes text both _ read found is text_is = absurd found

-- ---- `direct`

no_direct_done : (e : DirectError) → IsDone (status_of_direct e) → ⊥
no_direct_done (direct.Compile e) is = not_done e is
no_direct_done (direct.NotSuperadditive p t q) is = is
no_direct_done (direct.Negative p) is = is

module _ (f : PlainFunction) (net : Network) (found : IsCompiledDirectly f net) where
  rails_are : net.rails ≡ Direct
  rails_are = ap (λ (n : Network). n.rails) found.network.is_layout

  amounts_are : (x : List ℚ) → length x ≡ f.variables → AreNotNegative x → AreAmounts net x
  amounts_are x long low =
      let once : f.variables ≡ f.variables * 1 = omega arith in
      record { long = long ∙ once ∙ sym (input_count f.variables (ByLeast found.network.forms) net found.network.is_layout); not_negative = low }

  computed : (x : List ℚ) → AreAmounts net x → (v : ℚ) × IsValue f x v × StablyComputes net x v
  computed x amounts =
      let (v, is, stably) = computes_value net f x found.computes amounts in (v, subst (λ r. IsValue f (encoded r x) v) rails_are is, stably)

compiles_directly : (bytes text : List ℕ) (f : PlainFunction) (o : Outcome) → IsFunctionAnswer bytes (Read f) → IsOutcomeOfDirect f o → IsDone (status_of_outcome o) → text ≡ text_of_outcome o
    → CompilesDirectly bytes text
compiles_directly bytes text f OtherKind read found is text_is = absurd is
compiles_directly bytes text f (NotDirect k e) read found is text_is = absurd (no_direct_done e is)
compiles_directly bytes text f (Compiled net) read found is text_is = record {
  function = f;
  pieces = pieces_of f;
  net = net;
  read = read;
  given = by_pieces f.kind found.linear.pieces;
  linear = found.linear.linear;
  covers = found.network.checked.covers;
  agree = found.network.checked.agree;
  superadditive = found.network.used.superadditive;
  nonnegative = found.network.used.nonnegative;
  direct = rails_are f net found;
  starts = amounts_are f net found;
  computes = computed f net found;
  written = text_is;
  reads_back = subst (λ t. IsNetworkAnswer t (Read net)) (sym text_is) found.reads_back;
}
compiles_directly bytes text f _ read found is text_is = absurd found

-- ---- the laws

module _ (words : List (List ℕ)) (bytes text : List ℕ) (answer : Answers words bytes status.Done text) where
  is_done : IsDone (status_of answer.what)
  is_done = done (status_of answer.what) answer.status_is

  pub prove_right : IsRow (OfText command.Prove) words → Proves bytes text
  prove_right row =
      let (f, o, read, found, is) = comes_in_text _ IsDone (λ d. d) (λ d. d) (λ d. d) IsFunctionAnswer IsOutcomeOfProof bytes answer.what (found_by words (OfText command.Prove) bytes answer.what row answer.found) is_done in
      proves bytes text f o read found (subst (λ g. IsDone (status_of g)) is is_done) (answer.text_is ∙ ap text_of is)

  pub check_right : IsRow (OfText command.Check) words → Checks bytes text
  check_right row =
      let (p, o, read, found, is) = comes_in_text _ IsDone (λ d. d) (λ d. d) (λ d. d) IsProvedAnswer (IsOutcomeOfCheck (end_of bytes)) bytes answer.what (found_by words (OfText command.Check) bytes answer.what row answer.found) is_done in
      checks bytes text (end_of bytes) p o read found (subst (λ g. IsDone (status_of g)) is is_done) (answer.text_is ∙ ap text_of is)

  pub same_right : IsRow (OfText command.Same) words → Compares bytes text
  same_right row =
      let (both, o, read, found, is) = comes_in_text _ IsDone (λ d. d) (λ d. d) (λ d. d) IsTwoAnswer IsOutcomeOfTwo bytes answer.what (found_by words (OfText command.Same) bytes answer.what row answer.found) is_done in
      compares bytes text both o read found (subst (λ g. IsDone (status_of g)) is is_done) (answer.text_is ∙ ap text_of is)

  pub direct_right : IsRow (OfText command.Direct) words → CompilesDirectly bytes text
  direct_right row =
      let (f, o, read, found, is) = comes_in_text _ IsDone (λ d. d) (λ d. d) (λ d. d) IsFunctionAnswer IsOutcomeOfDirect bytes answer.what (found_by words (OfText command.Direct) bytes answer.what row answer.found) is_done in
      compiles_directly bytes text f o read found (subst (λ g. IsDone (status_of g)) is is_done) (answer.text_is ∙ ap text_of is)

-- ---- what `prove` writes is accepted by `check`

abbrev HasProof : List ℕ → Type 0
HasProof text = (f : PlainFunction) × (lines : List Line) × IsProvable f lines × (text ≡ proved_text f lines) × IsFitting f.variables f.kind

has_proof : (f : PlainFunction) (o : Outcome) (text : List ℕ) → IsFitting f.variables f.kind → IsOutcomeOfProof f o → IsDone (status_of_outcome o) → text ≡ text_of_outcome o → HasProof text
has_proof f OtherKind text fit found is text_is = absurd is
has_proof f (RefusedFunction k e) text fit found is text_is = absurd (not_done e is)
has_proof f (Proved g lines) text fit found is text_is = (f, lines, found.1, text_is ∙ ap (λ h. proved_text h lines) found.0, fit)
has_proof f _ text fit found is text_is = absurd found

written_proof : (words : List (List ℕ)) (bytes text : List ℕ) → IsRow (OfText command.Prove) words → Answers words bytes status.Done text → HasProof text
written_proof words bytes text row answer =
    let is_done = done (status_of answer.what) answer.status_is in
    let (f, o, read, found, is) =
    comes_in_text _ IsDone (λ d. d) (λ d. d) (λ d. d) IsFunctionAnswer IsOutcomeOfProof bytes answer.what (found_by words (OfText command.Prove) bytes answer.what row answer.found) is_done in
    has_proof f o text (text_fits (plain_lines bytes) f read.0 read.1) found (subst (λ g. IsDone (status_of g)) is is_done) (answer.text_is ∙ ap text_of is)

-- the lines are accepted behind the function
checked_lines : (text : List ℕ) (f : PlainFunction) (lines : List Line) → IsFitting f.variables f.kind → IsProvable f lines → IsOutcomeOfCheck (end_of text) (printed_proof f lines) (Checked (length lines))
checked_lines text f lines fit proved =
    let ready = proved.checked.prepared in
    (refl, is_checked (printed_proof f lines) fit proved.pieces (record { conditions = ready.conditions; differences = ready.differences; proved = proved.proof }))

-- nothing else is found of them
one_outcome : (text : List ℕ) (f : PlainFunction) (lines : List Line) (o : Outcome) → IsFitting f.variables f.kind → IsProvable f lines → IsOutcomeOfCheck (end_of text) (printed_proof f lines) o
    → o ≡ Checked (length lines)
one_outcome text f lines o fit proved found =
    two_checked (end_of text) (printed_proof f lines) o (Checked (length lines)) (check_case (end_of text) (printed_proof f lines) o found)
    (check_case (end_of text) (printed_proof f lines) (Checked (length lines)) (checked_lines text f lines fit proved))

pub proof_accepted : (words others : List (List ℕ)) (bytes text written : List ℕ) (s : Status) → IsRow (OfText command.Prove) words → Answers words bytes status.Done text
    → IsRow (OfText command.Check) others → length text ≤ proved_text_limit → Answers others text s written → s ≡ status.Done
proof_accepted words others bytes text written s row answer other short checked =
    let (f, lines, proved, text_is, fit) = written_proof words bytes text row answer in
    let reads = subst (λ t. IsProvedAnswer t (Read (printed_proof f lines))) (sym text_is) proved.reads_back in
    let (o, found, is) =
    comes_of IsProvedAnswer (IsOutcomeOfCheck (end_of text)) one_proved_answer text (printed_proof f lines) checked.what short reads (found_by others (OfText command.Check) text checked.what other checked.found) in
    checked.status_is ∙ ap status_of is ∙ ap status_of_outcome (one_outcome text f lines o fit proved found)
