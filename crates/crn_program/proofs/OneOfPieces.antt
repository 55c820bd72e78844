-- One outcome of a function whose pieces are proved, of a proof, of two functions that are compared, and of a function of which a direct network is asked.
use Rattle.std.proofs.Common.{◌≡◌, ◌⊎◌, inl, inr, ⊎_elim, ℕ, List, refl, sym, ap, ap₂, ◌∙◌, subst, arith}
use Rattle.std.specs.Prelude.{◌≢◌, ◌-◌, length, slice_index_or}
use Rattle.crn_cert_text.specs.Proofs.{Line}
use Rattle.crn_cert_text.specs.ProvedText.{PlainProved}
use Rattle.crn_cert_text.specs.Answers.{IsRejected}
use Rattle.crn_cert_text.specs.declared.VerifyError.{VerifyError}
use Rattle.crn_cert_text.specs.declared.VerifyError.TheVariants as verify
use Rattle.crn_cert_text.proofs.Decided.{one_rejection}
use Rattle.crn_cert_text.proofs.OneVerdict.{no_proof_unfit}
use Rattle.crn_compile.specs.Alike as cause
use Rattle.crn_compile.specs.Refusals.{IsRefused, IsRefusedByPieces}
use Rattle.crn_compile.specs.declared.CompileError.{CompileError}
use Rattle.crn_compile.specs.declared.CompileError.TheVariants.{TooManyForms, BigCondition, BigDifference, Disagree, NotCovered, TooBig, TooManyRows, TooManyCells, TooManyNodes, Memory}
use Rattle.crn_compile.specs.declared.direct.DirectError.{DirectError}
use Rattle.crn_compile.proofs.DirectNetworks.{one_direct_network}
use Rattle.crn_compile.proofs.OneDirectRefusal.{direct_alike, direct_limit_beside}
use Rattle.crn_compile.proofs.OneRefusal.{alike}
use Rattle.crn_formula.specs.Domains.{domain_for}
use Rattle.crn_formula.specs.Functions.{Kind, ByFormula, ByPieces, ByLeast, IsGivenByPieces}
use Rattle.crn_formula.specs.Pieces.{Piece, Domain}
use Rattle.crn_function_text.specs.Grammar.{PlainFunction}
use Rattle.crn_function_text.specs.Two.{TwoFunctions}
use Rattle.crn_net.specs.Network.{Network}
use Rattle.crn_pieces.specs.Answers.{AreChecked, DoConditionsClear, DoesDifferenceClear}
use Rattle.crn_pieces.specs.Pairs.{pairs_of}
use Rattle.crn_pieces.specs.Views.{pieces_of_kind}
use Rattle.crn_pieces.proofs.ClearSteps.{not_all}
use Rattle.crn_pieces.proofs.OneRefusal.{one_first, one_big_condition, disagreement_excludes, gap_excludes}
use Rattle.crn_same.specs.Alike as same
use Rattle.crn_same.proofs.OneAnswer.{alike as same_alike, limit_beside as same_limit_beside}
use Rattle.crn_same.specs.declared.SameError.{SameError}
use Rattle.crn_program.specs.Alike.{MayBothCome}
use Rattle.crn_program.specs.Comparing.{AreComparable, AreNotSame, AreFoundSame, IsOutcomeOfTwo}
use Rattle.crn_program.specs.Directly.{IsLinearPieces, IsNotDirect, IsCompiledDirectly, IsOutcomeOfDirect}
use Rattle.crn_program.specs.Finding.{Outcome, RefusedFunction, Compiled, OtherKind, OtherVariables, NotSame, Same, NotDirect, Proved, NotProved, Checked}
use Rattle.crn_program.specs.Proving.{pieces_of, domain_of, IsUnprovable, IsNotProvable, IsProvable, IsOutcomeOfProof, IsNotCleared, IsNotProved, IsChecked, IsOutcomeOfCheck}

-- they are the same, or both may come
abbrev pub AreSame : Outcome → Outcome → Type 0
AreSame o p = (o ≡ p) ⊎ MayBothCome o p

same_at : (o p a b : Outcome) → o ≡ a → p ≡ b → AreSame a b → AreSame o p
same_at o p a b is also same = subst (λ x. AreSame x p) (sym is) (subst (AreSame a) (sym also) same)

-- ---- `direct`

abbrev DirectCase : PlainFunction → Outcome → Type 0
DirectCase f o =
    ((o ≡ OtherKind) × (¬ IsLinearPieces f))
    ⊎ (((k : ℕ) × (e : DirectError) × IsNotDirect f k e × (o ≡ NotDirect k e)) ⊎ ((net : Network) × IsCompiledDirectly f net × (o ≡ Compiled net)))

direct_case : (f : PlainFunction) (o : Outcome) → IsOutcomeOfDirect f o → DirectCase f o
direct_case f OtherKind found = inl (refl, found)
direct_case f (NotDirect k e) found = inr (inl (k, e, found, refl))
direct_case f (Compiled net) found = inr (inr (net, found, refl))
direct_case f _ found = absurd found

module _ (f : PlainFunction) where
  two_not_direct : (k l : ℕ) (e g : DirectError) → IsNotDirect f k e → IsNotDirect f l g → AreSame (NotDirect k e) (NotDirect l g)
  two_not_direct k l e g first second =
      let variables : k ≡ l = first.variables ∙ sym second.variables in
      ⊎_elim
      (λ same. inl (ap₂ NotDirect variables same))
      (λ other. inr (⊎_elim (λ point. inl (variables, point)) (λ limit. inr limit) other))
      (direct_alike f.variables f.kind e g first.is_cause second.is_cause first.refused second.refused)

  abbrev limit_of_direct : (k : ℕ) (e : DirectError) (net : Network) → IsNotDirect f k e → IsCompiledDirectly f net → AreSame (NotDirect k e) (Compiled net)
  limit_of_direct k e net none compiled = inr (inr (inl (direct_limit_beside f.variables f.kind net e none.is_cause compiled.network none.refused, tt)))

  abbrev direct_and_limit : (k : ℕ) (e : DirectError) (net : Network) → IsNotDirect f k e → IsCompiledDirectly f net → AreSame (Compiled net) (NotDirect k e)
  direct_and_limit k e net none compiled = inr (inr (inr (direct_limit_beside f.variables f.kind net e none.is_cause compiled.network none.refused, tt)))

  two_direct : (o p : Outcome) → DirectCase f o → DirectCase f p → AreSame o p
  two_direct o p (inl (is, none)) (inl (also, other)) = inl (is ∙ sym also)
  two_direct o p (inl (is, none)) (inr (inl (k, e, second, also))) = absurd (none second.linear)
  two_direct o p (inl (is, none)) (inr (inr (net, second, also))) = absurd (none second.linear)
  two_direct o p (inr (inl (k, e, first, is))) (inl (also, none)) = absurd (none first.linear)
  two_direct o p (inr (inr (net, first, is))) (inl (also, none)) = absurd (none first.linear)
  two_direct o p (inr (inl (k, e, first, is))) (inr (inl (l, g, second, also))) = same_at o p _ _ is also (two_not_direct k l e g first second)
  two_direct o p (inr (inl (k, e, first, is))) (inr (inr (net, second, also))) = same_at o p _ _ is also (limit_of_direct k e net first second)
  two_direct o p (inr (inr (net, first, is))) (inr (inl (k, e, second, also))) = same_at o p _ _ is also (direct_and_limit k e net second first)
  two_direct o p (inr (inr (net, first, is))) (inr (inr (other, second, also))) =
      inl (is ∙ ap Compiled (one_direct_network f.variables f.kind net other first.network second.network) ∙ sym also)

pub one_of_direct : (f : PlainFunction) (o p : Outcome) → IsOutcomeOfDirect f o → IsOutcomeOfDirect f p → AreSame o p
one_of_direct f o p first second = two_direct f o p (direct_case f o first) (direct_case f p second)

-- ---- `prove`

-- why pieces have no proof is why they have no network
module _ (domain : Domain) (ps : List Piece) where
  refused_too : (e : CompileError) → IsUnprovable domain ps e → IsRefusedByPieces domain ps e
  refused_too (TooBig kept) (prepared, asked, is) = (prepared, ⊎_elim (λ pair. inl pair) (λ cover. inr (inl cover)) asked, is)
  refused_too (TooManyRows kept) (prepared, asked, is) = (prepared, ⊎_elim (λ pair. inl pair) (λ cover. inr (inl cover)) asked, is)
  refused_too (TooManyCells count) is = absurd is
  refused_too (TooManyNodes count) is = absurd is
  refused_too e is = is

  -- of pieces that were checked it is a solving limit
  limit_of_proof : AreChecked domain ps → (e : CompileError) → e ≢ Memory → IsUnprovable domain ps e → cause.IsSolvingLimit e
  limit_of_proof checked (TooManyForms count) other is = omega (arith, is.0, is.1, checked.prepared.few)
  limit_of_proof checked (BigCondition i c) other is = not_all DoConditionsClear ps is.1.piece is.1.in_pieces.first checked.prepared.conditions
  limit_of_proof checked (BigDifference i j) other is = not_all (DoesDifferenceClear ps) (pairs_of (length ps)) (i, j) is.2 checked.prepared.differences
  limit_of_proof checked (Disagree i j p) other is = disagreement_excludes domain ps i j p is.1 checked.agree
  limit_of_proof checked (NotCovered p) other is = gap_excludes domain ps p is.1 checked.covers
  limit_of_proof checked (TooBig kept) other is = tt
  limit_of_proof checked (TooManyRows kept) other is = tt
  limit_of_proof checked (TooManyCells count) other is = absurd is
  limit_of_proof checked (TooManyNodes count) other is = absurd is
  limit_of_proof checked Memory other is = absurd (other refl)

as_cause : (k : ℕ) (kind : Kind) (e : CompileError) → IsGivenByPieces kind → IsUnprovable (domain_for k kind) (pieces_of_kind kind) e → IsRefused k kind e
as_cause k (ByFormula formula) e given is = absurd given
as_cause k (ByPieces ps) e given is = refused_too (domain_for k (ByPieces ps)) ps e is
as_cause k (ByLeast forms) e given is = absurd given

abbrev ProofCase : PlainFunction → Outcome → Type 0
ProofCase f o =
    ((o ≡ OtherKind) × (¬ IsGivenByPieces f.kind))
    ⊎ (((k : ℕ) × (e : CompileError) × IsNotProvable f k e × (o ≡ RefusedFunction k e)) ⊎ ((lines : List Line) × IsProvable f lines × (o ≡ Proved f lines)))

proof_case : (f : PlainFunction) (o : Outcome) → IsOutcomeOfProof f o → ProofCase f o
proof_case f OtherKind found = inl (refl, found)
proof_case f (RefusedFunction k e) found = inr (inl (k, e, found, refl))
proof_case f (Proved g lines) found = inr (inr (lines, found.1, ap (λ h. Proved h lines) found.0))
proof_case f _ found = absurd found

module _ (f : PlainFunction) where
  two_not_proved : (k l : ℕ) (e g : CompileError) → IsNotProvable f k e → IsNotProvable f l g → AreSame (RefusedFunction k e) (RefusedFunction l g)
  two_not_proved k l e g first second =
      let variables : k ≡ l = first.variables ∙ sym second.variables in
      ⊎_elim
      (λ same. inl (ap₂ RefusedFunction variables same))
      (λ other. inr (⊎_elim (λ point. inl (variables, point)) (λ limit. inr limit) other))
      (alike f.variables f.kind e g first.is_cause second.is_cause
      (as_cause f.variables f.kind e first.pieces first.refused) (as_cause f.variables f.kind g second.pieces second.refused))

  beside_proof : (k : ℕ) (e : CompileError) (lines : List Line) → IsNotProvable f k e → IsProvable f lines → cause.IsSolvingLimit e
  beside_proof k e lines none proved = limit_of_proof (domain_of f) (pieces_of f) proved.checked e none.is_cause none.refused

  two_proofs : (o p : Outcome) → ProofCase f o → ProofCase f p → AreSame o p
  two_proofs o p (inl (is, none)) (inl (also, other)) = inl (is ∙ sym also)
  two_proofs o p (inl (is, none)) (inr (inl (k, e, second, also))) = absurd (none second.pieces)
  two_proofs o p (inl (is, none)) (inr (inr (lines, second, also))) = absurd (none second.pieces)
  two_proofs o p (inr (inl (k, e, first, is))) (inl (also, none)) = absurd (none first.pieces)
  two_proofs o p (inr (inr (lines, first, is))) (inl (also, none)) = absurd (none first.pieces)
  two_proofs o p (inr (inl (k, e, first, is))) (inr (inl (l, g, second, also))) = same_at o p _ _ is also (two_not_proved k l e g first second)
  two_proofs o p (inr (inl (k, e, first, is))) (inr (inr (lines, second, also))) =
      let beside : AreSame (RefusedFunction k e) (Proved f lines) = inr (inr (inl (beside_proof k e lines first second, tt))) in same_at o p _ _ is also beside
  two_proofs o p (inr (inr (lines, first, is))) (inr (inl (k, e, second, also))) =
      let beside : AreSame (Proved f lines) (RefusedFunction k e) = inr (inr (inr (beside_proof k e lines second first, tt))) in same_at o p _ _ is also beside
  two_proofs o p (inr (inr (lines, first, is))) (inr (inr (others, second, also))) =
      let both : AreSame (Proved f lines) (Proved f others) = inr (inl refl) in same_at o p _ _ is also both

pub one_of_proof : (f : PlainFunction) (o p : Outcome) → IsOutcomeOfProof f o → IsOutcomeOfProof f p → AreSame o p
one_of_proof f o p first second = two_proofs f o p (proof_case f o first) (proof_case f p second)

-- ---- `same`

abbrev TwoCase : TwoFunctions → Outcome → Type 0
TwoCase both o =
    ((o ≡ OtherKind) × (¬ AreComparable both))
    ⊎ (((o ≡ OtherVariables both.first.variables both.second.variables) × AreComparable both × (both.first.variables ≢ both.second.variables))
    ⊎ (((k : ℕ) × (e : SameError) × AreNotSame both k e × (o ≡ NotSame k e)) ⊎ ((o ≡ Same) × AreFoundSame both)))

two_case : (both : TwoFunctions) (o : Outcome) → IsOutcomeOfTwo both o → TwoCase both o
two_case both OtherKind found = inl (refl, found)
two_case both (OtherVariables m n) (comparable, m_is, n_is, other) =
    inr (inl (ap₂ OtherVariables m_is n_is, comparable, λ same. other (m_is ∙ same ∙ sym n_is)))
two_case both (NotSame k e) found = inr (inr (inl (k, e, found, refl)))
two_case both Same found = inr (inr (inr (refl, found)))
two_case both _ found = absurd found

module _ (both : TwoFunctions) where
  two_not_same : (k l : ℕ) (e g : SameError) → AreNotSame both k e → AreNotSame both l g → AreSame (NotSame k e) (NotSame l g)
  two_not_same k l e g first second =
      let variables : k ≡ l = first.variables ∙ sym second.variables in
      ⊎_elim
      (λ same. inl (ap₂ NotSame variables same))
      (λ other. inr (⊎_elim (λ point. inl (variables, point)) (λ limit. inr limit) other))
      (same_alike both.first.variables both.first.kind both.second.kind e g first.is_cause second.is_cause first.refused second.refused)

  beside_same : (k : ℕ) (e : SameError) → AreNotSame both k e → AreFoundSame both → same.IsSolvingLimit e
  beside_same k e none found = same_limit_beside both.first.variables both.first.kind both.second.kind e none.is_cause found.shown none.refused

  two_compared : (o p : Outcome) → TwoCase both o → TwoCase both p → AreSame o p
  two_compared o p (inl (is, none)) (inl (also, other)) = inl (is ∙ sym also)
  two_compared o p (inl (is, none)) (inr (inl (also, comparable, other))) = absurd (none comparable)
  two_compared o p (inl (is, none)) (inr (inr (inl (k, e, second, also)))) = absurd (none second.compared.comparable)
  two_compared o p (inl (is, none)) (inr (inr (inr (also, second)))) = absurd (none second.compared.comparable)
  two_compared o p (inr (inl (is, comparable, other))) (inl (also, none)) = absurd (none comparable)
  two_compared o p (inr (inl (is, comparable, other))) (inr (inl (also, too, more))) = inl (is ∙ sym also)
  two_compared o p (inr (inl (is, comparable, other))) (inr (inr (inl (k, e, second, also)))) = absurd (other second.compared.variables)
  two_compared o p (inr (inl (is, comparable, other))) (inr (inr (inr (also, second)))) = absurd (other second.compared.variables)
  two_compared o p (inr (inr (inl (k, e, first, is)))) (inl (also, none)) = absurd (none first.compared.comparable)
  two_compared o p (inr (inr (inl (k, e, first, is)))) (inr (inl (also, comparable, other))) = absurd (other first.compared.variables)
  two_compared o p (inr (inr (inl (k, e, first, is)))) (inr (inr (inl (l, g, second, also)))) = same_at o p _ _ is also (two_not_same k l e g first second)
  two_compared o p (inr (inr (inl (k, e, first, is)))) (inr (inr (inr (also, second)))) =
      let beside : AreSame (NotSame k e) Same = inr (inr (inl (beside_same k e first second, tt))) in same_at o p _ _ is also beside
  two_compared o p (inr (inr (inr (is, first)))) (inl (also, none)) = absurd (none first.compared.comparable)
  two_compared o p (inr (inr (inr (is, first)))) (inr (inl (also, comparable, other))) = absurd (other first.compared.variables)
  two_compared o p (inr (inr (inr (is, first)))) (inr (inr (inl (k, e, second, also)))) =
      let beside : AreSame Same (NotSame k e) = inr (inr (inr (beside_same k e second first, tt))) in same_at o p _ _ is also beside
  two_compared o p (inr (inr (inr (is, first)))) (inr (inr (inr (also, second)))) = inl (is ∙ sym also)

pub one_of_two : (both : TwoFunctions) (o p : Outcome) → IsOutcomeOfTwo both o → IsOutcomeOfTwo both p → AreSame o p
one_of_two both o p first second = two_compared both o p (two_case both o first) (two_case both p second)

-- ---- `check`

-- what comes where a proof is refused so
pub told_of : (end : ℕ) → PlainProved → VerifyError → Outcome
told_of end p (verify.BigCondition i c) = RefusedFunction p.function.variables (BigCondition i c)
told_of end p (verify.BigDifference i j) = RefusedFunction p.function.variables (BigDifference i j)
told_of end p (verify.NotProved n) = NotProved (slice_index_or p.proof.numbers (n - 1) end)
told_of end p verify.Memory = OtherKind

abbrev pub IsRefusedProof : PlainProved → VerifyError → Type 0
IsRefusedProof p e = IsGivenByPieces p.function.kind × (e ≢ verify.Memory) × IsRejected (domain_of p.function) (pieces_of p.function) p.proof.lines e

abbrev pub CheckCase : ℕ → PlainProved → Outcome → Type 0
CheckCase end p o =
    ((o ≡ OtherKind) × (¬ IsGivenByPieces p.function.kind))
    ⊎ (((e : VerifyError) × IsRefusedProof p e × (o ≡ told_of end p e)) ⊎ ((o ≡ Checked (length p.proof.lines)) × IsChecked p))

pub check_case : (end : ℕ) (p : PlainProved) (o : Outcome) → IsOutcomeOfCheck end p o → CheckCase end p o
unfolding told_of
check_case end p OtherKind found = inl (refl, found)
check_case end p (RefusedFunction k (BigCondition i c)) found =
    inr (inl (verify.BigCondition i c, (found.pieces, (λ e. cc e), found.unclear), ap (λ n. RefusedFunction n (BigCondition i c)) found.variables))
check_case end p (RefusedFunction k (BigDifference i j)) found =
    inr (inl (verify.BigDifference i j, (found.pieces, (λ e. cc e), found.unclear), ap (λ n. RefusedFunction n (BigDifference i j)) found.variables))
check_case end p (RefusedFunction k e) found = absurd found.unclear
check_case end p (NotProved line) found =
    inr (inl (verify.NotProved found.index, (found.pieces, (λ e. cc e), (found.conditions, found.differences, found.unfit)), ap NotProved found.line_is))
check_case end p (Checked n) found = inr (inr (ap Checked found.0, found.1))
check_case end p _ found = absurd found

module _ (end : ℕ) (p : PlainProved) where
  abbrev D : Domain
  D = domain_of p.function

  abbrev P : List Piece
  P = pieces_of p.function

  -- what is accepted is not refused
  not_both : (e : VerifyError) → IsChecked p → IsRefusedProof p e → ⊥
  not_both (verify.BigCondition i c) found (given, cause, is) = not_all DoConditionsClear P is.piece is.in_pieces.first found.accepted.conditions
  not_both (verify.BigDifference i j) found (given, cause, is) = not_all (DoesDifferenceClear P) (pairs_of (length P)) (i, j) is.1 found.accepted.differences
  not_both (verify.NotProved n) found (given, cause, is) = no_proof_unfit D P p.proof.lines n found.some found.accepted.proved is.2
  not_both verify.Memory found (given, cause, is) = cause refl

  pub two_checked : (o q : Outcome) → CheckCase end p o → CheckCase end p q → o ≡ q
  two_checked o q (inl (is, none)) (inl (also, other)) = is ∙ sym also
  two_checked o q (inl (is, none)) (inr (inl (e, second, also))) = absurd (none second.0)
  two_checked o q (inl (is, none)) (inr (inr (also, second))) = absurd (none second.pieces)
  two_checked o q (inr (inl (e, first, is))) (inl (also, none)) = absurd (none first.0)
  two_checked o q (inr (inl (e, first, is))) (inr (inl (d, second, also))) =
      is ∙ ap (told_of end p) (one_rejection D P p.proof.lines e d first.1 second.1 first.2 second.2) ∙ sym also
  two_checked o q (inr (inl (e, first, is))) (inr (inr (also, second))) = absurd (not_both e second first)
  two_checked o q (inr (inr (is, first))) (inl (also, none)) = absurd (none first.pieces)
  two_checked o q (inr (inr (is, first))) (inr (inl (e, second, also))) = absurd (not_both e first second)
  two_checked o q (inr (inr (is, first))) (inr (inr (also, second))) = is ∙ sym also

pub one_of_check : (end : ℕ) (p : PlainProved) (o q : Outcome) → IsOutcomeOfCheck end p o → IsOutcomeOfCheck end p q → AreSame o q
one_of_check end p o q first second = inl (two_checked end p o q (check_case end p o first) (check_case end p q second))
