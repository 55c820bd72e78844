-- Something comes of every function whose pieces are proved, of every proof, of two functions that are compared, and of every function of which a direct network is asked.
use Rattle.std.proofs.Common.{◌≡◌, ◌⊎◌, inl, inr, ⊎_elim, ℕ, ◌<◌, ◌≤◌, Bool, true, false, List, length, refl, sym, ap, ◌∙◌, subst, arith}
use Rattle.std.specs.Prelude.{◌≢◌, All}
use Rattle.std.proofs.lemmas.Bool.{cases_Bool}
use Rattle.crn_cert_text.specs.Answers.{IsAccepted, IsRejected, IsUnmade}
use Rattle.crn_cert_text.specs.Proofs.{Line, IsProof}
use Rattle.crn_cert_text.specs.ProvedText.{PlainProved, proved_text, printed_proof}
use Rattle.crn_cert_text.specs.declared.VerifyError.{VerifyError}
use Rattle.crn_cert_text.specs.declared.VerifyError.TheVariants as verify
use Rattle.crn_cert_text.specs.declared.making.MakeError.{MakeError}
use Rattle.crn_cert_text.specs.declared.making.MakeError.TheVariants as unmade
use Rattle.crn_cert_text.proofs.Decided.{accepted_or_rejected}
use Rattle.crn_cert_text.proofs.PrintedLines.{proof_readable}
use Rattle.crn_cert_text.proofs.PrintedTexts.{prints}
use Rattle.crn_cert_text.proofs.SomeProof.{some_proof}
use Rattle.crn_cert_text.proofs.Sound.{proof_means}
use Rattle.crn_cert_text.proofs.TextVerdicts.{few_pieces, some_pieces}
use Rattle.crn_compile.specs.Refusals.{of_pieces}
use Rattle.crn_compile.specs.declared.CompileError.{CompileError}
use Rattle.crn_compile.specs.declared.CompileError.TheVariants.{TooManyForms, BigCondition, BigDifference, Disagree, NotCovered, TooBig, TooManyRows, Memory}
use Rattle.crn_compile.specs.declared.direct.DirectError.{DirectError}
use Rattle.crn_compile.specs.declared.direct.DirectError.TheVariants.{Compile}
use Rattle.crn_compile.specs.DirectNetworks.{IsDirectNetworkOf}
use Rattle.crn_compile.specs.DirectRefusals.{IsRefusedDirect}
use Rattle.crn_compile.proofs.DirectDecided.{direct_decided}
use Rattle.crn_compile.proofs.DirectNetworks as direct
use Rattle.crn_formula.specs.Domains.{domain_for}
use Rattle.crn_formula.specs.Functions.{Kind, ByFormula, ByPieces, ByLeast, IsGivenByPieces, IsFitting, IsPieceOver, is_affine, columns}
use Rattle.crn_formula.specs.Pieces.{Piece, Domain, IsDomain, columns_of, Covers, Agree}
use Rattle.crn_formula.proofs.OwnDomains.{own_domain_is, own_columns}
use Rattle.crn_function_text.specs.Grammar.{PlainFunction}
use Rattle.crn_function_text.specs.Two.{TwoFunctions}
use Rattle.crn_function_text.proofs.Kept.{text_fits}
use Rattle.crn_function_text.proofs.KeptFracs.{text_fracs, text_kind_fracs}
use Rattle.crn_grammar.specs.Table.{Read}
use Rattle.crn_net.specs.Network.{Network}
use Rattle.crn_net_text.specs.NetworkText.{HasSmallCounts}
use Rattle.crn_net_text.proofs.Prints.{answer_is_network}
use Rattle.crn_pieces.specs.Answers as pieces
use Rattle.crn_pieces.specs.Answers.{AreChecked}
use Rattle.crn_pieces.specs.Views.{pieces_of_kind}
use Rattle.crn_pieces.specs.declared.PiecesError.{PiecesError}
use Rattle.crn_pieces.specs.declared.PiecesError.TheVariants as unchecked
use Rattle.crn_pieces.proofs.Decided as checking
use Rattle.crn_same.specs.Functions.{IsComparable, AreShownSame, AreSame, IsRefused, IsTrueOf}
use Rattle.crn_same.specs.declared.SameError.{SameError}
use Rattle.crn_same.specs.declared.SameError.TheVariants as same
use Rattle.crn_same.proofs.Comparing.{are_same, is_difference}
use Rattle.crn_same.proofs.SomeAnswer.{decided as same_decided}
use Rattle.crn_token.specs.Plain.{plain_lines}
use Rattle.crn_program.specs.Comparing.{AreComparable, AreCompared, AreFoundSame, AreNotSame, IsOutcomeOfTwo}
use Rattle.crn_program.specs.Directly.{IsLinearPieces, IsCompiledDirectly, IsNotDirect, IsOutcomeOfDirect}
use Rattle.crn_program.specs.Finding.{Outcome, RefusedFunction, Compiled, OtherKind, OtherVariables, NotSame, Same, NotDirect, Proved, NotProved, Checked}
use Rattle.crn_program.specs.Proving.{pieces_of, domain_of, IsUnprovable, IsNotProvable, IsProvable, IsOutcomeOfProof, IsNotCleared, IsNotProved, IsChecked, IsOutcomeOfCheck}
use Rattle.crn_program.specs.Texts.{IsFunctionAnswer}
use Rattle.crn_program.proofs.SmallCounts.{IsLow, reactions_small}

-- by pieces, or not
given_or_not : (kind : Kind) → IsGivenByPieces kind ⊎ (¬ IsGivenByPieces kind)
given_or_not (ByFormula e) = inr (λ given. given)
given_or_not (ByPieces ps) = inl tt
given_or_not (ByLeast forms) = inr (λ given. given)

-- ---- pieces of functions within their limits

pub over_own : (k : ℕ) (kind : Kind) → IsFitting k kind → IsGivenByPieces kind → All (IsPieceOver (columns_of (domain_for k kind))) (pieces_of_kind kind)
over_own k (ByFormula e) fit given = absurd given
over_own k (ByPieces ps) fit given = subst (λ n. All (IsPieceOver n) ps) (sym (own_columns k (ByPieces ps))) fit.forms
over_own k (ByLeast forms) fit given = absurd given

-- ---- `prove`

-- what is printed of a function and a proof reads back
pub is_provable : (bytes : List ℕ) (f : PlainFunction) (lines : List Line) → IsFunctionAnswer bytes (Read f) → IsGivenByPieces f.kind → AreChecked (domain_of f) (pieces_of f) → IsProof (domain_of f) (pieces_of f) lines
    → IsProvable f lines
is_provable bytes f lines right given checked proof =
    let fit = text_fits (plain_lines bytes) f right.0 right.1 in
    let readable = proof_readable (domain_of f) (pieces_of f) lines (few_pieces f.variables f.kind fit) proof in
    let text = prints f lines fit (text_kind_fracs bytes f right.0 right.1) fit.few readable in
    record { pieces = given; checked = checked; proof = proof; reads_back = (text.text, text.limits) }

module _ (f : PlainFunction) (given : IsGivenByPieces f.kind) where
  abbrev SomeOfProof : Type 0
  SomeOfProof = (o : Outcome) × IsOutcomeOfProof f o

  not_provable : (e : CompileError) → e ≢ Memory → IsUnprovable (domain_of f) (pieces_of f) e → SomeOfProof
  not_provable e cause h = (RefusedFunction f.variables e, record { pieces = given; variables = refl; is_cause = cause; refused = h })

  pieces_refused : (e : PiecesError) → e ≢ unchecked.Memory → pieces.IsRefused (domain_of f) (pieces_of f) e → SomeOfProof
  pieces_refused (unchecked.TooManyForms count) cause h = not_provable (TooManyForms count) (λ e. cc e) h
  pieces_refused (unchecked.BigCondition i c) cause h = not_provable (BigCondition i c) (λ e. cc e) h
  pieces_refused (unchecked.BigDifference i j) cause h = not_provable (BigDifference i j) (λ e. cc e) h
  pieces_refused (unchecked.Disagree i j p) cause h = not_provable (Disagree i j p) (λ e. cc e) h
  pieces_refused (unchecked.NotCovered p) cause h = not_provable (NotCovered p) (λ e. cc e) h
  pieces_refused (unchecked.TooBig kept) cause h = not_provable (TooBig kept) (λ e. cc e) h
  pieces_refused (unchecked.TooManyRows kept) cause h = not_provable (TooManyRows kept) (λ e. cc e) h
  pieces_refused unchecked.Memory cause h = absurd (cause refl)

  proof_refused : AreChecked (domain_of f) (pieces_of f) → (e : MakeError) → e ≢ unmade.Memory → IsUnmade (domain_of f) (pieces_of f) e → SomeOfProof
  proof_refused checked (unmade.TooBig kept) cause h = not_provable (TooBig kept) (λ e. cc e) (checked.prepared, h.0, h.1)
  proof_refused checked (unmade.TooManyRows kept) cause h = not_provable (TooManyRows kept) (λ e. cc e) (checked.prepared, h.0, h.1)
  proof_refused checked unmade.Memory cause h = absurd (cause refl)

pub comes_of_proof : (bytes : List ℕ) (f : PlainFunction) → IsFunctionAnswer bytes (Read f) → (o : Outcome) × IsOutcomeOfProof f o
comes_of_proof bytes f right = go (given_or_not f.kind)
  where
    fit : IsFitting f.variables f.kind
    fit = text_fits (plain_lines bytes) f right.0 right.1

    proved : (given : IsGivenByPieces f.kind) → AreChecked (domain_of f) (pieces_of f)
        → ((lines : List Line) × IsProof (domain_of f) (pieces_of f) lines) ⊎ ((e : MakeError) × (e ≢ unmade.Memory) × IsUnmade (domain_of f) (pieces_of f) e)
        → (o : Outcome) × IsOutcomeOfProof f o
    proved given checked (inl (lines, proof)) = (Proved f lines, (refl, is_provable bytes f lines right given checked proof))
    proved given checked (inr (e, cause, h)) = proof_refused f given checked e cause h

    checks : (given : IsGivenByPieces f.kind) → AreChecked (domain_of f) (pieces_of f) ⊎ checking.IsRefusedForCause (domain_of f) (pieces_of f) → (o : Outcome) × IsOutcomeOfProof f o
    checks given (inl checked) = proved given checked (some_proof (domain_of f) (pieces_of f) checked (some_pieces f.variables f.kind fit given))
    checks given (inr (e, cause, h)) = pieces_refused f given e cause h

    go : IsGivenByPieces f.kind ⊎ (¬ IsGivenByPieces f.kind) → (o : Outcome) × IsOutcomeOfProof f o
    go (inr other) = (OtherKind, other)
    go (inl given) =
        checks given
        (checking.decided (domain_of f) (own_domain_is f.variables f.kind) (pieces_of f) (over_own f.variables f.kind fit given) (some_pieces f.variables f.kind fit given))

-- ---- `check`

pub is_checked : (p : PlainProved) → IsFitting p.function.variables p.function.kind → IsGivenByPieces p.function.kind
    → IsAccepted (domain_of p.function) (pieces_of p.function) p.proof.lines → IsChecked p
is_checked p fit given accepted =
    let f = p.function in
    let some = some_pieces f.variables f.kind fit given in
    let means = proof_means (domain_of f) (pieces_of f) (own_domain_is f.variables f.kind) (over_own f.variables f.kind fit given) p.proof.lines some accepted.proved in
    record { pieces = given; some = some; accepted = accepted; covers = means.0; agree = means.1 }

pub comes_of_check : (end : ℕ) (p : PlainProved) → IsFitting p.function.variables p.function.kind → (o : Outcome) × IsOutcomeOfCheck end p o
comes_of_check end p fit = go (given_or_not p.function.kind)
  where
    f : PlainFunction
    f = p.function

    told : IsGivenByPieces p.function.kind → (e : VerifyError) → e ≢ verify.Memory → IsRejected (domain_of p.function) (pieces_of p.function) p.proof.lines e → (o : Outcome) × IsOutcomeOfCheck end p o
    told given (verify.BigCondition i c) cause h = (RefusedFunction p.function.variables (BigCondition i c), record { pieces = given; variables = refl; unclear = h })
    told given (verify.BigDifference i j) cause h = (RefusedFunction p.function.variables (BigDifference i j), record { pieces = given; variables = refl; unclear = h })
    told given (verify.NotProved n) cause h = (NotProved _, record { pieces = given; conditions = h.0; differences = h.1; index = n; unfit = h.2; line_is = refl })
    told given verify.Memory cause h = absurd (cause refl)

    decided : IsGivenByPieces p.function.kind
        → IsAccepted (domain_of p.function) (pieces_of p.function) p.proof.lines ⊎ ((e : VerifyError) × (e ≢ verify.Memory) × IsRejected (domain_of p.function) (pieces_of p.function) p.proof.lines e)
        → (o : Outcome) × IsOutcomeOfCheck end p o
    decided given (inl accepted) = (Checked (length p.proof.lines), (refl, is_checked p fit given accepted))
    decided given (inr (e, cause, h)) = told given e cause h

    go : IsGivenByPieces p.function.kind ⊎ (¬ IsGivenByPieces p.function.kind) → (o : Outcome) × IsOutcomeOfCheck end p o
    go (inr other) = (OtherKind, other)
    go (inl given) =
        decided given (accepted_or_rejected (domain_of p.function) (pieces_of p.function) p.proof.lines (some_pieces p.function.variables p.function.kind fit given))

-- ---- `same`

comparable_or_not : (kind : Kind) → IsComparable kind ⊎ (¬ IsComparable kind)
comparable_or_not (ByFormula e) = inl tt
comparable_or_not (ByPieces ps) = inl tt
comparable_or_not (ByLeast forms) = inr (λ c. c)

equal_or_not : (m n : ℕ) → (m ≡ n) ⊎ (m ≢ n)
equal_or_not m n = grind arith

-- the point of a difference is one
pub true_point : (k : ℕ) (f g : Kind) → IsFitting k f → IsFitting k g → (e : SameError) → IsRefused k f g e → IsTrueOf k f g e
true_point k f g first second (same.Differ p) refused = is_difference k f g first second p refused
true_point k f g first second e refused = tt

pub comes_of_two : (both : TwoFunctions) → IsFitting both.first.variables both.first.kind × IsFitting both.second.variables both.second.kind → (o : Outcome) × IsOutcomeOfTwo both o
comes_of_two both (first, second) = go (comparable_or_not both.first.kind) (comparable_or_not both.second.kind)
  where
    compared : (pair : AreCompared both) → IsFitting both.first.variables both.second.kind
        → AreShownSame both.first.variables both.first.kind both.second.kind
        ⊎ ((e : SameError) × (e ≢ same.Memory) × IsRefused both.first.variables both.first.kind both.second.kind e) → (o : Outcome) × IsOutcomeOfTwo both o
    compared pair fit (inl shown) =
        (Same, record { compared = pair; same = are_same both.first.variables both.first.kind both.second.kind first fit shown; shown = shown })
    compared pair fit (inr (e, cause, refused)) = (
      NotSame both.first.variables e,
      record {
        compared = pair;
        variables = refl;
        is_cause = cause;
        refused = refused;
        point = true_point both.first.variables both.first.kind both.second.kind first fit e refused;
      },
    )

    sized : (pair : AreComparable both) → (both.first.variables ≡ both.second.variables) ⊎ (both.first.variables ≢ both.second.variables) → (o : Outcome) × IsOutcomeOfTwo both o
    sized pair (inr other) = (OtherVariables both.first.variables both.second.variables, (pair, refl, refl, other))
    sized pair (inl same) =
        let fit = subst (λ n. IsFitting n both.second.kind) (sym same) second in
        compared (record { comparable = pair; variables = same }) fit
        (same_decided both.first.variables both.first.kind both.second.kind first fit pair.first pair.second)

    go : IsComparable both.first.kind ⊎ (¬ IsComparable both.first.kind) → IsComparable both.second.kind ⊎ (¬ IsComparable both.second.kind) → (o : Outcome) × IsOutcomeOfTwo both o
    go (inr none) other = (OtherKind, λ pair. none pair.first)
    go (inl one) (inr none) = (OtherKind, λ pair. none pair.second)
    go (inl one) (inl two) = sized (record { first = one; second = two }) (equal_or_not both.first.variables both.second.variables)

-- ---- `direct`

pub compiled_directly : (bytes : List ℕ) (f : PlainFunction) (net : Network) → IsFunctionAnswer bytes (Read f) → IsLinearPieces f → IsDirectNetworkOf f.variables f.kind net → IsCompiledDirectly f net
compiled_directly bytes f net right linear is =
    let fit = text_fits (plain_lines bytes) f right.0 right.1 in
    let fracs = text_fracs bytes f right.0 right.1 in
    let small : HasSmallCounts net = reactions_small net.reactions (direct.small_counts f.variables f.kind net is IsLow (λ n low. omega (arith, low)) fracs) in
    record {
      linear = linear;
      network = is;
      computes = direct.computes f.variables f.kind net is linear.pieces linear.linear;
      reads_back = answer_is_network net (direct.is_valid f.variables f.kind net is fit.some fit.few) small;
    }

pub comes_of_direct : (bytes : List ℕ) (f : PlainFunction) → IsFunctionAnswer bytes (Read f) → (o : Outcome) × IsOutcomeOfDirect f o
comes_of_direct bytes f right = go (given_or_not f.kind) (cases_Bool (is_affine f.variables f.kind))
  where
    found : IsLinearPieces f → ((net : Network) × IsDirectNetworkOf f.variables f.kind net) ⊎ ((e : DirectError) × (e ≢ Compile Memory) × IsRefusedDirect f.variables f.kind e) → (o : Outcome) × IsOutcomeOfDirect f o
    found linear (inl (net, is)) = (Compiled net, compiled_directly bytes f net right linear is)
    found linear (inr (e, cause, h)) = (NotDirect f.variables e, record { linear = linear; variables = refl; is_cause = cause; refused = h })

    go : IsGivenByPieces f.kind ⊎ (¬ IsGivenByPieces f.kind) → (is_affine f.variables f.kind ≡ true) ⊎ (is_affine f.variables f.kind ≡ false) → (o : Outcome) × IsOutcomeOfDirect f o
    go (inr other) affine = (OtherKind, λ linear. other linear.pieces)
    go (inl given) (inl affine) = (OtherKind, λ linear. let wrong : true ≡ false = sym affine ∙ linear.linear in cc)
    go (inl given) (inr linear) =
        found (record { pieces = given; linear = linear }) (direct_decided f.variables f.kind (text_fits (plain_lines bytes) f right.0 right.1) given linear)
