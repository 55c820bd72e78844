-- What is refused by `same`, `direct` and `check`, where it is for no limit.
use Rattle.std.specs.Prelude.{codes}
use Rattle.std.proofs.Common.{◌≡◌, ℕ, List, ◌++◌, refl, sym, ap, ap₂, ◌∙◌, subst}
use Rattle.crn_cert_text.specs.ProvedText.{PlainProved}
use Rattle.crn_cert_text.specs.Proofs.{IsFirstUnfit}
use Rattle.crn_compile.specs.Refusals.{of_pieces, of_formula}
use Rattle.crn_compile.specs.declared.CompileError.{CompileError}
use Rattle.crn_compile.specs.declared.CompileError.TheVariants as cause
use Rattle.crn_compile.specs.declared.direct.DirectError.TheVariants as direct
use Rattle.crn_formula.specs.Domains.{domain_for, unit}
use Rattle.crn_function_text.specs.Grammar.{PlainFunction}
use Rattle.crn_function_text.specs.Two.{TwoFunctions}
use Rattle.crn_grammar.specs.Table.{Read}
use Rattle.crn_same.specs.declared.SameError.TheVariants as same
use Rattle.crn_superadd.specs.Superadditive.{IsFirstNegative}
use Rattle.crn_superadd.proofs.Orthant.{columns_of_orthant}
use Rattle.crn_token.specs.Plain.{end_of}
use Rattle.crn_program.specs.Answer.{Answers}
use Rattle.crn_program.specs.Comparing.{IsOutcomeOfTwo}
use Rattle.crn_program.specs.Directly.{IsOutcomeOfDirect}
use Rattle.crn_program.specs.Finding.{Outcome, RefusedFunction, Compiled, OtherKind, OtherVariables, NotSame, Same, NotDirect, NotProved, Checked, status_of, status_of_cause, status_of_outcome, text_of, text_of_outcome}
use Rattle.crn_program.specs.Proving.{pieces_of, domain_of, IsOutcomeOfCheck}
use Rattle.crn_program.specs.Refused.{RefusesSame, RefusesSum, RefusesNegative, RefusesProof}
use Rattle.crn_program.specs.Report.{refusal, point_text}
use Rattle.crn_program.specs.Texts.{IsFunctionAnswer, IsProvedAnswer, IsTwoAnswer}
use Rattle.crn_program.specs.Words.{IsRow}
use Rattle.crn_program.specs.declared.words.Command.TheVariants.{OfText}
use Rattle.crn_program.specs.declared.words.TextCommand.TheVariants as command
use Rattle.crn_program.specs.declared.status.Status.{Status}
use Rattle.crn_program.specs.declared.status.Status.TheVariants as status
use Rattle.crn_program.proofs.CorrectPieces.{by_pieces}
use Rattle.crn_program.proofs.Done.{comes_in_text}
use Rattle.crn_program.proofs.Endings.{found_by}

-- ---- statuses

abbrev IsDiffer : Status → Type 0
IsDiffer status.Differ = Unit {0}
IsDiffer _ = ⊥

abbrev IsOfSum : Status → Type 0
IsOfSum status.NotSuperadditive = Unit {0}
IsOfSum _ = ⊥

abbrev IsOfNegative : Status → Type 0
IsOfNegative status.Negative = Unit {0}
IsOfNegative _ = ⊥

abbrev IsOfProof : Status → Type 0
IsOfProof status.NotProved = Unit {0}
IsOfProof _ = ⊥

-- no cause of pieces has one of these
module _ (P : Status → Type 0) (limit : P status.Limit → ⊥) (big : P status.TooBig → ⊥) (pair : P status.Disagree → ⊥) (gap : P status.NotCovered → ⊥) (rows : P status.TooManyRows → ⊥) (memory : P status.Memory → ⊥) where
  no_cause : (e : CompileError) → P (status_of_cause e) → ⊥
  no_cause (cause.TooManyForms count) is = limit is
  no_cause (cause.BigCondition i c) is = big is
  no_cause (cause.BigDifference i j) is = big is
  no_cause (cause.Disagree i j p) is = pair is
  no_cause (cause.NotCovered p) is = gap is
  no_cause (cause.TooBig kept) is = big is
  no_cause (cause.TooManyRows kept) is = rows is
  no_cause (cause.TooManyCells count) is = limit is
  no_cause (cause.TooManyNodes count) is = limit is
  no_cause cause.Memory is = memory is

not_differ : (e : CompileError) → IsDiffer (status_of_cause e) → ⊥
not_differ = no_cause IsDiffer (λ p. p) (λ p. p) (λ p. p) (λ p. p) (λ p. p) (λ p. p)

not_sum : (e : CompileError) → IsOfSum (status_of_cause e) → ⊥
not_sum = no_cause IsOfSum (λ p. p) (λ p. p) (λ p. p) (λ p. p) (λ p. p) (λ p. p)

not_negative : (e : CompileError) → IsOfNegative (status_of_cause e) → ⊥
not_negative = no_cause IsOfNegative (λ p. p) (λ p. p) (λ p. p) (λ p. p) (λ p. p) (λ p. p)

not_of_proof : (e : CompileError) → IsOfProof (status_of_cause e) → ⊥
not_of_proof = no_cause IsOfProof (λ p. p) (λ p. p) (λ p. p) (λ p. p) (λ p. p) (λ p. p)

-- ---- what is refused

differ : (both : TwoFunctions) (o : Outcome) (text : List ℕ) → IsOutcomeOfTwo both o → IsDiffer (status_of_outcome o) → text ≡ text_of_outcome o → RefusesSame both text
differ both OtherKind text found is text_is = absurd is
differ both (OtherVariables m n) text found is text_is = absurd is
differ both (NotSame k (same.Pieces which e)) text found is text_is = absurd (not_differ (of_pieces e) is)
differ both (NotSame k (same.Maxmin which e)) text found is text_is = absurd (not_differ (of_formula e) is)
differ both (NotSame k (same.Differ p)) text found is text_is = record {
  variables = found.compared.variables;
  point = p;
  differ = found.point;
  written = text_is ∙ ap (λ n. text_of_outcome (NotSame n (same.Differ p))) found.variables;
}
differ both (NotSame k _) text found is text_is = absurd is
differ both Same text found is text_is = absurd is
differ both _ text found is text_is = absurd found

falls_short : (f : PlainFunction) (o : Outcome) (text : List ℕ) → IsOutcomeOfDirect f o → IsOfSum (status_of_outcome o) → text ≡ text_of_outcome o → RefusesSum f text
falls_short f OtherKind text found is text_is = absurd is
falls_short f (NotDirect k (direct.Compile e)) text found is text_is = absurd (not_sum e is)
falls_short f (NotDirect k (direct.NotSuperadditive p t q)) text found is text_is = record {
  pieces = pieces_of f;
  given = by_pieces f.kind found.linear.pieces;
  first = p;
  times = t;
  second = q;
  short = found.refused.1.short;
  written = text_is ∙ ap (λ n. text_of_outcome (NotDirect n (direct.NotSuperadditive p t q))) found.variables;
}
falls_short f (NotDirect k (direct.Negative p)) text found is text_is = absurd is
falls_short f (Compiled net) text found is text_is = absurd is
falls_short f _ text found is text_is = absurd found

negative : (f : PlainFunction) (o : Outcome) (text : List ℕ) → IsOutcomeOfDirect f o → IsOfNegative (status_of_outcome o) → text ≡ text_of_outcome o → RefusesNegative f text
negative f OtherKind text found is text_is = absurd is
negative f (NotDirect k (direct.Compile e)) text found is text_is = absurd (not_negative e is)
negative f (NotDirect k (direct.NotSuperadditive p t q)) text found is text_is = absurd is
negative f (NotDirect k (direct.Negative p)) text found is text_is =
    let at = found.refused.1 in
    let columns = columns_of_orthant f.variables in
    record {
      pieces = pieces_of f;
      given = by_pieces f.kind found.linear.pieces;
      superadditive = at.superadditive;
      index = at.index;
      negative = subst (λ n. IsFirstNegative n (pieces_of f) at.index) columns at.first;
      written = text_is ∙ ap₂ (λ n q. refusal (codes "negative at" ++ point_text n q)) found.variables (at.is ∙ ap (λ n. unit n at.index) columns);
    }
negative f (Compiled net) text found is text_is = absurd is
negative f _ text found is text_is = absurd found

unproved : (end : ℕ) (p : PlainProved) (o : Outcome) (text : List ℕ) → IsOutcomeOfCheck end p o → IsOfProof (status_of_outcome o) → text ≡ text_of_outcome o → RefusesProof end p text
unproved end p OtherKind text found is text_is = absurd is
unproved end p (RefusedFunction k e) text found is text_is = absurd (not_of_proof e is)
unproved end p (NotProved line) text found is text_is =
    let given = by_pieces p.function.kind found.pieces in
    record {
      pieces = pieces_of p.function;
      given = given;
      index = found.index;
      unfit = subst (λ d. IsFirstUnfit d (pieces_of p.function) p.proof.lines found.index) (ap (domain_for p.function.variables) given) found.unfit;
      written = text_is ∙ ap (λ n. text_of_outcome (NotProved n)) found.line_is;
    }
unproved end p (Checked n) text found is text_is = absurd is
unproved end p _ text found is text_is = absurd found

-- ---- the laws

module _ (words : List (List ℕ)) (bytes text : List ℕ) (s : Status) (answer : Answers words bytes s text) where
  pub differ_right : IsRow (OfText command.Same) words → s ≡ status.Differ → (both : TwoFunctions) × IsTwoAnswer bytes (Read both) × RefusesSame both text
  differ_right row told_so =
      let so = subst IsDiffer (sym told_so ∙ answer.status_is) tt in
      let (both, o, read, found, is) =
      comes_in_text _ IsDiffer (λ p. p) (λ p. p) (λ p. p) IsTwoAnswer IsOutcomeOfTwo bytes answer.what (found_by words (OfText command.Same) bytes answer.what row answer.found) so in
      (both, read, differ both o text found (subst (λ g. IsDiffer (status_of g)) is so) (answer.text_is ∙ ap text_of is))

  pub sum_right : IsRow (OfText command.Direct) words → s ≡ status.NotSuperadditive → (f : PlainFunction) × IsFunctionAnswer bytes (Read f) × RefusesSum f text
  sum_right row told_so =
      let so = subst IsOfSum (sym told_so ∙ answer.status_is) tt in
      let (f, o, read, found, is) =
      comes_in_text _ IsOfSum (λ p. p) (λ p. p) (λ p. p) IsFunctionAnswer IsOutcomeOfDirect bytes answer.what (found_by words (OfText command.Direct) bytes answer.what row answer.found) so in
      (f, read, falls_short f o text found (subst (λ g. IsOfSum (status_of g)) is so) (answer.text_is ∙ ap text_of is))

  pub negative_right : IsRow (OfText command.Direct) words → s ≡ status.Negative → (f : PlainFunction) × IsFunctionAnswer bytes (Read f) × RefusesNegative f text
  negative_right row told_so =
      let so = subst IsOfNegative (sym told_so ∙ answer.status_is) tt in
      let (f, o, read, found, is) =
      comes_in_text _ IsOfNegative (λ p. p) (λ p. p) (λ p. p) IsFunctionAnswer IsOutcomeOfDirect bytes answer.what (found_by words (OfText command.Direct) bytes answer.what row answer.found) so in
      (f, read, negative f o text found (subst (λ g. IsOfNegative (status_of g)) is so) (answer.text_is ∙ ap text_of is))

  pub proof_right : IsRow (OfText command.Check) words → s ≡ status.NotProved → (p : PlainProved) × IsProvedAnswer bytes (Read p) × RefusesProof (end_of bytes) p text
  proof_right row told_so =
      let so = subst IsOfProof (sym told_so ∙ answer.status_is) tt in
      let (p, o, read, found, is) =
      comes_in_text _ IsOfProof (λ p. p) (λ p. p) (λ p. p) IsProvedAnswer (IsOutcomeOfCheck (end_of bytes)) bytes answer.what (found_by words (OfText command.Check) bytes answer.what row answer.found) so in
      (p, read, unproved (end_of bytes) p o text found (subst (λ g. IsOfProof (status_of g)) is so) (answer.text_is ∙ ap text_of is))
