-- Words and bytes have one status, but for limits of solving.
use Rattle.std.proofs.Common.{◌≡◌, ◌⊎◌, inl, inr, ⊎_elim, ℕ, List, refl, sym, ap, ◌∙◌, subst}
use Rattle.crn_compile.specs.Alike as cause
use Rattle.crn_compile.specs.declared.CompileError.{CompileError}
use Rattle.crn_compile.specs.declared.CompileError.TheVariants.{Disagree, NotCovered, TooBig, TooManyRows}
use Rattle.crn_compile.specs.DirectAlike as beside
use Rattle.crn_compile.specs.declared.direct.DirectError.{DirectError}
use Rattle.crn_compile.specs.declared.direct.DirectError.TheVariants as direct
use Rattle.crn_cert_text.specs.Proofs.{Line}
use Rattle.crn_function_text.specs.Grammar.{PlainFunction}
use Rattle.crn_job.specs.Grammar.{PlainJob}
use Rattle.crn_maxmin.specs.declared.MaxminError.TheVariants as unformed
use Rattle.crn_pieces.specs.declared.PiecesError.TheVariants as unchecked
use Rattle.crn_same.specs.Alike as alike
use Rattle.crn_same.specs.declared.SameError.{SameError}
use Rattle.crn_same.specs.declared.SameError.TheVariants as same
use Rattle.crn_program.specs.Finding.{Outcome, RefusedFunction, NotSame, NotDirect, Proved, Finding, Comes, status_of_cause, status_of_same, status_of_direct, status_of_outcome, status_of}
use Rattle.crn_program.specs.Words.{IsRow}
use Rattle.crn_program.specs.declared.words.Command.{Command}
use Rattle.crn_program.specs.declared.words.Command.TheVariants.{OfText, Bulk}
use Rattle.crn_program.specs.declared.words.TextCommand.{TextCommand}
use Rattle.crn_program.specs.declared.words.TextCommand.TheVariants as words
use Rattle.crn_program.specs.Answer.{Answers, IsFound, IsFoundBy, IsFoundByText, IsOutcomeOfJob}
use Rattle.crn_program.specs.Alike.{IsSolvingLimit, AreSameButForWitness, IsLimitBeside, MayBothBeFound, IsOfSolving, IsOfPoint}
use Rattle.crn_program.specs.declared.status.Status.{Status}
use Rattle.crn_program.proofs.OneAnswer.{one_answer}

-- ---- the status of a solving limit

limit_cause : (e : CompileError) → cause.IsSolvingLimit e → IsOfSolving (status_of_cause e)
limit_cause (TooBig kept) limit = inl refl
limit_cause (TooManyRows kept) limit = inr refl
limit_cause e limit = absurd limit

limit_same : (e : SameError) → alike.IsSolvingLimit e → IsOfSolving (status_of_same e)
limit_same (same.Pieces which (unchecked.TooBig kept)) limit = inl refl
limit_same (same.Pieces which (unchecked.TooManyRows kept)) limit = inr refl
limit_same (same.Maxmin which (unformed.TooBig kept)) limit = inl refl
limit_same (same.Maxmin which (unformed.TooManyRows kept)) limit = inr refl
limit_same (same.TooBig kept) limit = inl refl
limit_same (same.TooManyRows kept) limit = inr refl
limit_same (same.Pieces which e) limit = absurd limit
limit_same (same.Maxmin which e) limit = absurd limit
limit_same e limit = absurd limit

limit_direct : (e : DirectError) → beside.IsSolvingLimit e → IsOfSolving (status_of_direct e)
limit_direct (direct.Compile e) limit = limit_cause e limit
limit_direct e limit = absurd limit

limit_status : (o : Outcome) → IsSolvingLimit o → IsOfSolving (status_of_outcome o)
limit_status (RefusedFunction k e) limit = limit_cause e limit
limit_status (NotSame k e) limit = limit_same e limit
limit_status (NotDirect k e) limit = limit_direct e limit
limit_status o limit = absurd limit

first_status : (o p : Outcome) → IsLimitBeside o p → IsOfSolving (status_of_outcome o)
first_status (NotSame k e) (NotSame l f) limit = limit_same e limit.0
first_status o p limit = limit_status o limit.0

-- ---- that of two answers that differ in what shows them

-- one status, which is that of a refusal at a point, or they are two proofs
abbrev IsOneOfWitness : Outcome → Outcome → Type 0
IsOneOfWitness o p = (status_of_outcome o ≡ status_of_outcome p) × (IsOfPoint (status_of_outcome o) ⊎ ((f : PlainFunction) × (lines : List Line) × (o ≡ Proved f lines)))

abbrev IsOneOfPoint : Status → Status → Type 0
IsOneOfPoint s t = (s ≡ t) × IsOfPoint s

point_cause : (e f : CompileError) → cause.AreSameButForPoint e f → IsOneOfPoint (status_of_cause e) (status_of_cause f)
point_cause (Disagree i j p) (Disagree k l q) same = (refl, inl refl)
point_cause (NotCovered p) (NotCovered q) same = (refl, inr (inl refl))
point_cause e f same = absurd same

point_same : (e f : SameError) → alike.AreSameButForPoint e f → IsOneOfPoint (status_of_same e) (status_of_same f)
point_same (same.Pieces v (unchecked.Disagree i j p)) (same.Pieces w (unchecked.Disagree k l q)) both = (refl, inl refl)
point_same (same.Pieces v (unchecked.NotCovered p)) (same.Pieces w (unchecked.NotCovered q)) both = (refl, inr (inl refl))
point_same (same.Pieces v d) (same.Pieces w e) both = absurd both.1
point_same (same.Differ p) (same.Differ q) both = (refl, inr (inr (inl refl)))
point_same e f both = absurd both

point_direct : (e f : DirectError) → beside.AreSameButForPoint e f → IsOneOfPoint (status_of_direct e) (status_of_direct f)
point_direct (direct.Compile e) (direct.Compile f) both = point_cause e f both
point_direct (direct.NotSuperadditive p t q) (direct.NotSuperadditive r u s) both = (refl, inr (inr (inr refl)))
point_direct e f both = absurd both

witness_status : (o p : Outcome) → AreSameButForWitness o p → IsOneOfWitness o p
witness_status (RefusedFunction k e) (RefusedFunction l f) both = let s = point_cause e f both.1 in (s.0, inl s.1)
witness_status (NotSame k e) (NotSame l f) both = let s = point_same e f both.1 in (s.0, inl s.1)
witness_status (NotDirect k e) (NotDirect l f) both = let s = point_direct e f both.1 in (s.0, inl s.1)
witness_status (Proved f lines) (Proved g others) both = (refl, inr (f, lines, refl))
witness_status o p both = absurd both

-- ---- two findings

abbrev IsOneFinding : Finding → Finding → Type 0
IsOneFinding f g = (status_of f ≡ status_of g) × (IsOfPoint (status_of f) ⊎ ((h : PlainFunction) × (lines : List Line) × (f ≡ Comes (Proved h lines))))

found_status : (f g : Finding) → MayBothBeFound f g → ¬ IsOfSolving (status_of f) → ¬ IsOfSolving (status_of g) → IsOneFinding f g
found_status (Comes o) (Comes p) both first second =
    ⊎_elim
    (λ same. let s = witness_status o p same in (s.0, ⊎_elim (λ point. inl point) (λ proof. inr (proof.0, proof.1, ap Comes proof.2)) s.1))
    (λ limit. ⊎_elim (λ l. absurd (first (first_status o p l))) (λ l. absurd (second (first_status p o l))) limit)
    both
found_status f g both first second = absurd both

-- ---- only `prove` writes proofs

no_proof_of_job : (job : PlainJob) (f : PlainFunction) (lines : List Line) → IsOutcomeOfJob job (Proved f lines) → ⊥
no_proof_of_job job f lines found = found.4.2

only_prove : (command : TextCommand) (bytes : List ℕ) (f : PlainFunction) (lines : List Line) → IsFoundByText command bytes (Comes (Proved f lines)) → command ≡ words.Prove
only_prove words.Compile bytes f lines found = absurd found.3
only_prove words.Complete bytes f lines found = absurd (no_proof_of_job found.1 f lines found.3)
only_prove words.Run bytes f lines found = absurd found.3
only_prove words.Prove bytes f lines found = refl
only_prove words.Check bytes f lines found = absurd found.3
only_prove words.Same bytes f lines found = absurd found.3
only_prove words.Direct bytes f lines found = absurd found.3
only_prove words.CompileGated bytes f lines found = absurd found.3
only_prove words.CompleteGated bytes f lines found = absurd found.3

by_prove : (command : Command) (bytes : List ℕ) (f : PlainFunction) (lines : List Line) → IsFoundBy command bytes (Comes (Proved f lines)) → command ≡ OfText words.Prove
by_prove (OfText command) bytes f lines found = ap OfText (only_prove command bytes f lines found)
by_prove (Bulk n) bytes f lines found = absurd found.4.1

-- a proof is found of the words `prove`
proof_words : (given : List (List ℕ)) (bytes : List ℕ) (g : Finding) (f : PlainFunction) (lines : List Line) → g ≡ Comes (Proved f lines) → IsFound given bytes g → IsRow (OfText words.Prove) given
proof_words given bytes g f lines is found =
    let (command, row, by) = subst (IsFound given bytes) is found in subst (λ c. IsRow c given) (by_prove command bytes f lines by) row

pub one_status : (given : List (List ℕ)) (bytes : List ℕ) (s t : Status) (text other : List ℕ) → Answers given bytes s text → Answers given bytes t other
    → ¬ IsOfSolving s → ¬ IsOfSolving t → (s ≡ t) × ((text ≡ other) ⊎ (IsOfPoint s ⊎ IsRow (OfText words.Prove) given))
one_status given bytes s t text other first second u v =
    ⊎_elim
    (λ same. (same.0, inl same.1))
    (λ both.
    let found = found_status first.what second.what both (subst (λ x. ¬ IsOfSolving x) first.status_is u) (subst (λ x. ¬ IsOfSolving x) second.status_is v) in (
      first.status_is ∙ found.0 ∙ sym second.status_is,
      inr (⊎_elim (λ point. inl (subst IsOfPoint (sym first.status_is) point)) (λ proof. inr (proof_words given bytes first.what proof.0 proof.1 proof.2 first.found)) found.1),
    ))
    (one_answer given bytes s t text other first second)
