-- Lines are accepted, or rejected for a cause; and so is a text.
use Rattle.std.proofs.Common.{◌≡◌, ◌⊎◌, inl, inr, ℕ, ◌+◌, ◌<◌, List, length, refl, sym, ap, ap₂, ◌∙◌, subst}
use Rattle.std.specs.Prelude.{All, ◌≢◌}
use Rattle.crn_token.specs.declared.Counted.{Counted}
use Rattle.crn_token.specs.Plain.{end_of}
use Rattle.crn_grammar.specs.Table.{Answer, Read}
use Rattle.crn_grammar.specs.Table as table
use Rattle.crn_formula.specs.Pieces.{Piece, Domain}
use Rattle.crn_formula.specs.Functions.{Kind, ByFormula, ByPieces, ByLeast, IsGivenByPieces}
use Rattle.crn_pieces.specs.Systems.{rows_of}
use Rattle.crn_pieces.specs.Pairs.{pairs_of, IsFirstWithout}
use Rattle.crn_pieces.specs.Answers.{Clears, DoConditionsClear, DoesDifferenceClear, IsFirstBigCondition}
use Rattle.crn_pieces.proofs.ClearSteps.{not_all}
use Rattle.crn_pieces.proofs.OneRefusal.{one_first, one_big_condition}
use Rattle.crn_cert_text.specs.declared.VerifyError.{VerifyError}
use Rattle.crn_cert_text.specs.declared.VerifyError.TheVariants.{BigCondition, BigDifference, NotProved, Memory}
use Rattle.crn_cert_text.specs.declared.checking.CheckError.{CheckError}
use Rattle.crn_cert_text.specs.declared.checking.CheckError.TheVariants as check
use Rattle.crn_cert_text.specs.Proofs.{Line, start, IsFirstUnfit}
use Rattle.crn_cert_text.specs.Answers.{IsAccepted, IsRejected}
use Rattle.crn_cert_text.specs.ProvedText.{PlainProved, proved_answer}
use Rattle.crn_cert_text.specs.TextAnswers.{pieces_of_text, domain_of_text, IsTextOf, IsPiecesText, IsAcceptedText, IsRefusedText, unproved_of}
use Rattle.crn_cert_text.proofs.WalkLaws.{whole_exactly, proof_exactly, IsWholeFrom}
use Rattle.crn_cert_text.proofs.LineTests.{first_or_all, clears_told, conditions_told, difference_told, Unfit, whole_or_unfit, one_stop}
use Rattle.crn_cert_text.proofs.TextVerdicts.{never, text_found, one_text, text_fitting, some_pieces, unproved_is}

-- ---- lines
module _ (D : Domain) (P : List Piece) (lines : List Line) where
  abbrev pub IsRejectedForCause : Type 0
  IsRejectedForCause = (e : VerifyError) × (e ≢ Memory) × IsRejected D P lines e

  big_condition : (piece : Piece) → IsFirstWithout DoConditionsClear P piece → IsRejectedForCause
  big_condition piece f = go (first_or_all Clears clears_told piece.conditions)
    where
      go : All Clears piece.conditions ⊎ ((c : List _) × IsFirstWithout Clears piece.conditions c) → IsRejectedForCause
      go (inl all) = absurd (f.without all)
      go (inr (c, g)) = (
        BigCondition (length f.before + 1) (length g.before + 1),
        λ is. cc is,
        record { piece = piece; condition = c; in_pieces = record { first = f; number = refl }; in_piece = record { first = g; number = refl } },
      )

  pub accepted_or_rejected : 0 < length P → IsAccepted D P lines ⊎ IsRejectedForCause
  accepted_or_rejected some = conditions (first_or_all DoConditionsClear conditions_told P)
    where
      walked : All DoConditionsClear P → All (DoesDifferenceClear P) (pairs_of (length P)) → IsWholeFrom D (rows_of P) (start D P) lines ⊎ Unfit D (rows_of P) (start D P) lines → IsAccepted D P lines ⊎ IsRejectedForCause
      walked clear apart (inl whole) = inl (record { conditions = clear; differences = apart; proved = (proof_exactly D P lines some).1 ((whole_exactly D (rows_of P) (start D P) lines).0 whole) })
      walked clear apart (inr u) = inr (
        NotProved (length u.fitting + 1),
        λ is. cc is,
        (clear, apart, record { fitting = u.fitting; behind = u.behind; all_lines = u.all_lines; fit = u.fit; counted = refl; stops = u.stops }),
      )

      differences : All DoConditionsClear P → All (DoesDifferenceClear P) (pairs_of (length P)) ⊎ ((q : ℕ × ℕ) × IsFirstWithout (DoesDifferenceClear P) (pairs_of (length P)) q) → IsAccepted D P lines ⊎ IsRejectedForCause
      differences clear (inl apart) = walked clear apart (whole_or_unfit D (rows_of P) (start D P) lines)
      differences clear (inr (q, f)) = inr (BigDifference q.0 q.1, (λ is. cc is), (clear, f))

      conditions : All DoConditionsClear P ⊎ ((piece : Piece) × IsFirstWithout DoConditionsClear P piece) → IsAccepted D P lines ⊎ IsRejectedForCause
      conditions (inl clear) = differences clear (first_or_all (DoesDifferenceClear P) (difference_told P) (pairs_of (length P)))
      conditions (inr (piece, f)) = inr (big_condition piece f)

  -- ---- one cause
  one_unfit : (m n : ℕ) → IsFirstUnfit D P lines m → IsFirstUnfit D P lines n → m ≡ n
  one_unfit m n u v = u.counted ∙ ap (λ k. k + 1) (one_stop D (rows_of P) (start D P) u.fitting u.behind v.fitting v.behind (sym u.all_lines ∙ v.all_lines) u.fit u.stops v.fit v.stops) ∙ sym v.counted

  not_clear : (i c : ℕ) → IsFirstBigCondition P i c → ¬ All DoConditionsClear P
  not_clear i c f = not_all DoConditionsClear P f.piece f.in_pieces.first

  not_apart : (q : ℕ × ℕ) → IsFirstWithout (DoesDifferenceClear P) (pairs_of (length P)) q → ¬ All (DoesDifferenceClear P) (pairs_of (length P))
  not_apart q f = not_all (DoesDifferenceClear P) (pairs_of (length P)) q f

  pub one_rejection : (d e : VerifyError) → d ≢ Memory → e ≢ Memory → IsRejected D P lines d → IsRejected D P lines e → d ≡ e
  one_rejection (BigCondition i c) (BigCondition j k) u v f g = let s = one_big_condition P i j c k f g in ap₂ BigCondition s.0 s.1
  one_rejection (BigCondition i c) (BigDifference j k) u v f g = absurd (not_clear i c f g.0)
  one_rejection (BigCondition i c) (NotProved n) u v f g = absurd (not_clear i c f g.0)
  one_rejection (BigDifference i j) (BigCondition k c) u v f g = absurd (not_clear k c g f.0)
  one_rejection (BigDifference i j) (BigDifference k l) u v f g =
      ap (λ (q : ℕ × ℕ). BigDifference q.0 q.1) (one_first (DoesDifferenceClear P) (pairs_of (length P)) (i, j) (k, l) f.1 g.1)
  one_rejection (BigDifference i j) (NotProved n) u v f g = absurd (not_apart (i, j) f.1 g.1)
  one_rejection (NotProved m) (BigCondition k c) u v f g = absurd (not_clear k c g f.0)
  one_rejection (NotProved m) (BigDifference k l) u v f g = absurd (not_apart (k, l) g.1 f.1)
  one_rejection (NotProved m) (NotProved n) u v f g = ap NotProved (one_unfit m n f.2 g.2)
  one_rejection Memory e u v f g = absurd (u refl)
  one_rejection d Memory u v f g = absurd (v refl)

-- ---- texts
abbrev pub IsRefusedForCause : List ℕ → Type 0
IsRefusedForCause bytes = (e : CheckError) × (e ≢ check.Memory) × IsRefusedText bytes e

no_memory : (numbers : List ℕ) (end : ℕ) (e : VerifyError) → e ≢ Memory → unproved_of numbers end e ≢ check.Memory
no_memory numbers end (BigCondition i c) u = λ is. cc is
no_memory numbers end (BigDifference i j) u = λ is. cc is
no_memory numbers end (NotProved n) u = λ is. cc is
no_memory numbers end Memory u = absurd (u refl)

given_told : (kind : Kind) → IsGivenByPieces kind ⊎ (¬ IsGivenByPieces kind)
given_told (ByFormula e) = inr (λ h. h)
given_told (ByPieces pieces) = inl tt
given_told (ByLeast forms) = inr (λ h. h)

abbrev IsVerdict : List ℕ → Type 0
IsVerdict bytes = ((n : ℕ) × IsAcceptedText bytes n) ⊎ IsRefusedForCause bytes

some_of_text : (bytes : List ℕ) (p : PlainProved) → IsTextOf bytes p → IsVerdict bytes
some_of_text bytes p is = go (given_told p.function.kind)
  where
    told : (given : IsPiecesText bytes p) → IsAccepted (domain_of_text p) (pieces_of_text p) p.proof.lines ⊎ IsRejectedForCause (domain_of_text p) (pieces_of_text p) p.proof.lines → IsVerdict bytes
    told given (inl h) = inl (length p.proof.lines, record { proved = p; is = given; accepted = h; counted = refl })
    told given (inr (e, u, h)) = inr (unproved_of p.proof.numbers (end_of bytes) e, no_memory p.proof.numbers (end_of bytes) e u, unproved_is bytes p given (end_of bytes) refl e h)

    go : IsGivenByPieces p.function.kind ⊎ (¬ IsGivenByPieces p.function.kind) → IsVerdict bytes
    go (inr n) = inr (check.WrongKind, (λ is. cc is), (p, is, n))
    go (inl given) =
        told (record { read = is; pieces = given })
        (accepted_or_rejected (domain_of_text p) (pieces_of_text p) p.proof.lines (some_pieces p.function.variables p.function.kind (text_fitting bytes p is) given))

pub some_verdict : (bytes : List ℕ) → IsVerdict bytes
some_verdict bytes = go (proved_answer bytes) refl
  where
    go : (a : Answer PlainProved (Counted × ℕ)) → proved_answer bytes ≡ a → IsVerdict bytes
    go (Read p) e = some_of_text bytes p (text_found bytes p e)
    go (table.Malformed line) e = inr (check.Malformed line, (λ is. cc is), e)
    go (table.Limited (what, count)) e = inr (check.Limit what count, (λ is. cc is), e)

-- ---- one cause of a text
data Cause (bytes : List ℕ) (e : CheckError) : Type 0 where
  malformed : (n : ℕ) → proved_answer bytes ≡ table.Malformed n → e ≡ check.Malformed n → Cause bytes e
  limited : (what : Counted) (n : ℕ) → proved_answer bytes ≡ table.Limited (what, n) → e ≡ check.Limit what n → Cause bytes e
  wrong_kind : (p : PlainProved) → IsTextOf bytes p → ¬ IsGivenByPieces p.function.kind → e ≡ check.WrongKind → Cause bytes e
  rejected : (p : PlainProved) → IsPiecesText bytes p → (d : VerifyError) → d ≢ Memory → IsRejected (domain_of_text p) (pieces_of_text p) p.proof.lines d → e ≡ unproved_of p.proof.numbers (end_of bytes) d → Cause bytes e

cause_of : (bytes : List ℕ) (e : CheckError) → e ≢ check.Memory → IsRefusedText bytes e → Cause bytes e
cause_of bytes (check.Malformed line) u h = malformed line h refl
cause_of bytes (check.Limit what n) u h = limited what n h refl
cause_of bytes check.WrongKind u h = wrong_kind h.0 h.1 h.2 refl
cause_of bytes (check.BigCondition i c) u h = rejected h.0 h.1 (BigCondition i c) (λ is. cc is) h.2 refl
cause_of bytes (check.BigDifference i j) u h = rejected h.0 h.1 (BigDifference i j) (λ is. cc is) (h.2, h.3) refl
cause_of bytes (check.NotProved line) u h = rejected h.0 h.2 (NotProved h.1) (λ is. cc is) (h.3, h.4, h.5) (ap check.NotProved h.6)
cause_of bytes check.Memory u h = absurd (u refl)

module _ (bytes : List ℕ) (d e : CheckError) where
  -- a text that is read is not told to be none
  read_none : (p : PlainProved) → IsTextOf bytes p → (n : ℕ) → proved_answer bytes ≡ table.Malformed n → ⊥
  read_none p is n a = let wrong = never bytes p (table.Malformed n) is a in cc wrong

  read_passes : (p : PlainProved) → IsTextOf bytes p → (what : Counted) (n : ℕ) → proved_answer bytes ≡ table.Limited (what, n) → ⊥
  read_passes p is what n a = let wrong = never bytes p (table.Limited (what, n)) is a in cc wrong

  given_once : (p q : PlainProved) → IsTextOf bytes p → ¬ IsGivenByPieces p.function.kind → IsPiecesText bytes q → ⊥
  given_once p q is n given = n (subst (λ (r : PlainProved). IsGivenByPieces r.function.kind) (one_text bytes q p given.read is) given.pieces)

  told_apart : (m n : ℕ) (what : Counted) → proved_answer bytes ≡ table.Malformed m → proved_answer bytes ≡ table.Limited (what, n) → ⊥
  told_apart m n what a b = let wrong : ◌≡◌ {A = Answer PlainProved (Counted × ℕ)} (table.Malformed m) (table.Limited (what, n)) = sym a ∙ b in cc wrong

  one_cause : Cause bytes d → Cause bytes e → d ≡ e
  one_cause (malformed m a s) (malformed n b t) =
      let w : ◌≡◌ {A = Answer PlainProved (Counted × ℕ)} (table.Malformed m) (table.Malformed n) = sym a ∙ b in
      let same : m ≡ n = cc w in
      s ∙ ap check.Malformed same ∙ sym t
  one_cause (malformed m a s) (limited what n b t) = absurd (told_apart m n what a b)
  one_cause (malformed m a s) (wrong_kind q is n t) = absurd (read_none q is m a)
  one_cause (malformed m a s) (rejected q is f v g t) = absurd (read_none q is.read m a)
  one_cause (limited what m a s) (malformed n b t) = absurd (told_apart n m what b a)
  one_cause (limited what m a s) (limited also n b t) =
      let w : ◌≡◌ {A = Answer PlainProved (Counted × ℕ)} (table.Limited (what, m)) (table.Limited (also, n)) = sym a ∙ b in
      let same : (what, m) ≡ (also, n) = cc w in
      s ∙ ap (λ (r : Counted × ℕ). check.Limit r.0 r.1) same ∙ sym t
  one_cause (limited what m a s) (wrong_kind q is n t) = absurd (read_passes q is what m a)
  one_cause (limited what m a s) (rejected q is f v g t) = absurd (read_passes q is.read what m a)
  one_cause (wrong_kind p is m s) (malformed n b t) = absurd (read_none p is n b)
  one_cause (wrong_kind p is m s) (limited what n b t) = absurd (read_passes p is what n b)
  one_cause (wrong_kind p is m s) (wrong_kind q also n t) = s ∙ sym t
  one_cause (wrong_kind p is m s) (rejected q also f v g t) = absurd (given_once p q is m also)
  one_cause (rejected p is f u h s) (malformed n b t) = absurd (read_none p is.read n b)
  one_cause (rejected p is f u h s) (limited what n b t) = absurd (read_passes p is.read what n b)
  one_cause (rejected p is f u h s) (wrong_kind q also n t) = absurd (given_once q p also n is)
  one_cause (rejected p is f u h s) (rejected q also g v k t) =
      let w = one_text bytes q p also.read is.read in
      let there = subst (λ (r : PlainProved). IsRejected (domain_of_text r) (pieces_of_text r) r.proof.lines g) w k in
      let same = one_rejection (domain_of_text p) (pieces_of_text p) p.proof.lines f g u v h there in
      s ∙ ap (unproved_of p.proof.numbers (end_of bytes)) same ∙ sym (t ∙ ap (λ (r : PlainProved). unproved_of r.proof.numbers (end_of bytes) g) w)

pub one_refusal : (bytes : List ℕ) (d e : CheckError) → d ≢ check.Memory → e ≢ check.Memory → IsRefusedText bytes d → IsRefusedText bytes e → d ≡ e
one_refusal bytes d e u v h g = one_cause bytes d e (cause_of bytes d u h) (cause_of bytes e v g)
