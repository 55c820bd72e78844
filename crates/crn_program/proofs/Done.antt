-- What is found where a command is done, and where it is refused for what its text says.
use Rattle.std.proofs.Common.{◌≡◌, ℕ, List, refl, subst}
use Rattle.crn_token.specs.declared.Counted.{Counted}
use Rattle.crn_grammar.specs.Table as grammar
use Rattle.crn_compile.specs.declared.CompileError.{CompileError}
use Rattle.crn_compile.specs.declared.CompileError.TheVariants as cause
use Rattle.crn_program.specs.Answer.{IsFoundInText}
use Rattle.crn_program.specs.Finding.{Outcome, Finding, NoCommand, LongText, WrongLine, PastLimit, Comes, status_of, status_of_cause}
use Rattle.crn_program.specs.declared.status.Status.{Status}
use Rattle.crn_program.specs.declared.status.Status.TheVariants as status

-- ---- what is done

abbrev pub IsDone : Status → Type 0
IsDone status.Done = Unit {0}
IsDone _ = ⊥

pub done : (s : Status) → status.Done ≡ s → IsDone s
done s is = subst IsDone is tt

-- no cause is told as done
pub not_done : (e : CompileError) → IsDone (status_of_cause e) → ⊥
not_done (cause.TooManyForms count) is = is
not_done (cause.BigCondition i c) is = is
not_done (cause.BigDifference i j) is = is
not_done (cause.Disagree i j p) is = is
not_done (cause.NotCovered p) is = is
not_done (cause.TooBig kept) is = is
not_done (cause.TooManyRows kept) is = is
not_done (cause.TooManyCells count) is = is
not_done (cause.TooManyNodes count) is = is
not_done cause.Memory is = is

-- what has none of the statuses of a text that is not read comes of its value
abbrev pub ComesOf : {V : Type 0} → (List ℕ → grammar.Answer V (Counted × ℕ) → Type 0) → (V → Outcome → Type 0) → List ℕ → Finding → Type 0
ComesOf {V} IsRight Found bytes f = (v : V) × (o : Outcome) × IsRight bytes (grammar.Read v) × Found v o × (f ≡ Comes o)

pub comes_in_text : {V : Type 0} (most : ℕ) (P : Status → Type 0) → (P status.TextTooLong → ⊥) → (P status.Malformed → ⊥) → (P status.Limit → ⊥) → (IsRight : List ℕ → grammar.Answer V (Counted × ℕ) → Type 0)
    (Found : V → Outcome → Type 0) (bytes : List ℕ) (f : Finding) → IsFoundInText most IsRight Found bytes f → P (status_of f) → ComesOf IsRight Found bytes f
comes_in_text most P long malformed limit IsRight Found bytes NoCommand found is = absurd found
comes_in_text most P long malformed limit IsRight Found bytes (LongText n) found is = absurd (long is)
comes_in_text most P long malformed limit IsRight Found bytes (WrongLine n) found is = absurd (malformed is)
comes_in_text most P long malformed limit IsRight Found bytes (PastLimit what count) found is = absurd (limit is)
comes_in_text most P long malformed limit IsRight Found bytes (Comes o) found is = (found.1, o, found.2, found.3, refl)
