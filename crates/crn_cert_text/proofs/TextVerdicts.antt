-- What is accepted is refused for want of memory alone, and how refusals of a part are refusals of the text.
use Rattle.std.proofs.Common.{◌≡◌, ℕ, ◌<◌, ◌≤◌, ◌-◌, List, length, get_or, refl, sym, ◌∙◌, ap, subst, arith}
use Rattle.std.specs.Prelude.{All}
use Rattle.crn_token.specs.declared.Counted.{Counted}
use Rattle.crn_token.specs.Plain.{plain_lines, line_number, end_of}
use Rattle.crn_grammar.specs.Table.{Answer, Read, IsText, PassesNone}
use Rattle.crn_grammar.specs.Table as table
use Rattle.crn_grammar.specs.Reading.{Refuses}
use Rattle.crn_grammar.specs.declared.error.TextError.{TextError}
use Rattle.crn_grammar.specs.declared.error.TextError.TheVariants as text
use Rattle.crn_grammar.proofs.TableLaws.{read_is}
use Rattle.crn_grammar.proofs.FollowedTexts.{parted, read_found}
use Rattle.crn_formula.specs.Pieces.{Domain, Covers, Agree}
use Rattle.crn_formula.specs.Functions.{Kind, ByFormula, ByPieces, ByLeast, IsFitting, IsGivenByPieces}
use Rattle.std.proofs.lemmas.List.{length-map}
use Rattle.crn_formula.specs.Views.{kind_of}
use Rattle.crn_pieces.specs.Views.{pieces_in}
use Rattle.crn_cert_text.specs.Views.{line_of, lines_of_proof}
use Rattle.crn_cert_text.specs.declared.proved.Proved.{Proved}
use Rattle.crn_formula.specs.Domains.{domain_for}
use Rattle.crn_function_text.specs.Grammar.{function_table, goes_on}
use Rattle.crn_function_text.proofs.Kept.{text_fits}
use Rattle.crn_pieces.specs.Pairs.{pairs_of}
use Rattle.crn_pieces.specs.Views.{pieces_of_kind}
use Rattle.crn_pieces.specs.Answers.{DoConditionsClear, DoesDifferenceClear}
use Rattle.crn_pieces.proofs.ClearSteps.{not_all}
use Rattle.crn_cert_text.specs.declared.VerifyError.{VerifyError}
use Rattle.crn_cert_text.specs.declared.VerifyError.TheVariants as verify
use Rattle.crn_cert_text.specs.Text.{proof_table}
use Rattle.crn_cert_text.specs.Answers.{IsAccepted, IsRejected}
use Rattle.crn_cert_text.proofs.OneVerdict.{no_proof_unfit}
use Rattle.crn_cert_text.specs.declared.checking.CheckError.{CheckError}
use Rattle.crn_cert_text.specs.declared.checking.CheckError.TheVariants.{Malformed, Limit, WrongKind, BigCondition, BigDifference, NotProved, Memory}
use Rattle.crn_cert_text.specs.ProvedText.{PlainProved, proved_table, proved_answer, proved_with, proved_of}
use Rattle.crn_cert_text.specs.TextAnswers.{pieces_of_text, domain_of_text, IsTextOf, IsPiecesText, IsAcceptedText, IsProvedText, IsRefusedText, unread_of, unproved_of}

-- ---- texts
pub text_read_is : (bytes : List ℕ) (p : PlainProved) → IsTextOf bytes p → proved_answer bytes ≡ Read p
text_read_is bytes p h = read_is proved_table line_number (end_of bytes) (plain_lines bytes) p h.text h.limits

pub text_found : (bytes : List ℕ) (p : PlainProved) → proved_answer bytes ≡ Read p → IsTextOf bytes p
text_found bytes p e = let w = read_found proved_table line_number (end_of bytes) (plain_lines bytes) p e in record { text = w.0; limits = w.1 }

pub one_text : (bytes : List ℕ) (p q : PlainProved) → IsTextOf bytes p → IsTextOf bytes q → p ≡ q
one_text bytes p q h g =
    let e : ◌≡◌ {A = Answer PlainProved (Counted × ℕ)} (Read p) (Read q) = sym (text_read_is bytes p h) ∙ text_read_is bytes q g in
    cc e

-- the function of a text keeps the rule of functions
pub text_fitting : (bytes : List ℕ) (p : PlainProved) → IsTextOf bytes p → IsFitting p.function.variables p.function.kind
text_fitting bytes p h =
    let parts = parted function_table goes_on (λ f. proof_table) proved_with (plain_lines bytes) p h.text h.limits in
    let own = parts.3 in
    let fits = text_fits own.part parts.0 own.text own.passes_none in
    subst (λ (q : PlainProved). IsFitting q.function.variables q.function.kind) parts.6 fits

pub some_pieces : (k : ℕ) (kind : Kind) → IsFitting k kind → IsGivenByPieces kind → 0 < length (pieces_of_kind kind)
some_pieces k (ByFormula e) h g = absurd g
some_pieces k (ByPieces pieces) h g = let some = h.limits.some in omega (arith, some)
some_pieces k (ByLeast forms) h g = absurd g

pub few_pieces : (k : ℕ) (kind : Kind) → IsFitting k kind → length (pieces_of_kind kind) ≤ 32
few_pieces k (ByFormula e) h = omega arith
few_pieces k (ByPieces pieces) h = h.limits.few
few_pieces k (ByLeast forms) h = omega arith

-- ---- refusals
pub unread_is : (bytes : List ℕ) (e : TextError) → Refuses e (proved_answer bytes) → IsRefusedText bytes (unread_of e)
unread_is bytes (text.Malformed line) h = h
unread_is bytes (text.Limit what count) h = h
unread_is bytes text.Memory h = tt

module _ (bytes : List ℕ) (p : PlainProved) (is : IsPiecesText bytes p) where
  pub unproved_is : (end : ℕ) → end ≡ end_of bytes → (e : VerifyError) → IsRejected (domain_of_text p) (pieces_of_text p) p.proof.lines e → IsRefusedText bytes (unproved_of p.proof.numbers end e)
  unproved_is end s (verify.BigCondition i c) h = (p, is, h)
  unproved_is end s (verify.BigDifference i j) h = (p, is, h.0, h.1)
  unproved_is end s (verify.NotProved index) h = (p, index, is, h.0, h.1, h.2, ap (λ (m : ℕ). get_or p.proof.numbers (index - 1) m) s)
  unproved_is end s verify.Memory h = tt

-- ---- one verdict
pub never : (bytes : List ℕ) (p : PlainProved) (a : Answer PlainProved (Counted × ℕ)) → IsTextOf bytes p → proved_answer bytes ≡ a → Read p ≡ a
never bytes p a h e = sym (text_read_is bytes p h) ∙ e

pub accepted_refused : (bytes : List ℕ) (count : ℕ) (e : CheckError) → IsAcceptedText bytes count → IsRefusedText bytes e → e ≡ Memory
accepted_refused bytes count (Malformed line) a r = let wrong = never bytes a.proved (table.Malformed line) a.is.read r in cc wrong
accepted_refused bytes count (Limit what n) a r = let wrong = never bytes a.proved (table.Limited (what, n)) a.is.read r in cc wrong
accepted_refused bytes count WrongKind a r =
    let e = one_text bytes a.proved r.0 a.is.read r.1 in
    absurd (r.2 (subst (λ (q : PlainProved). IsGivenByPieces q.function.kind) e a.is.pieces))
accepted_refused bytes count (BigCondition i c) a r =
    let e = one_text bytes a.proved r.0 a.is.read r.1.read in
    let clear = subst (λ (q : PlainProved). All DoConditionsClear (pieces_of_text q)) e a.accepted.conditions in
    absurd (not_all DoConditionsClear (pieces_of_text r.0) r.2.piece r.2.in_pieces.first clear)
accepted_refused bytes count (BigDifference i j) a r =
    let e = one_text bytes a.proved r.0 a.is.read r.1.read in
    let apart = subst (λ (q : PlainProved). All (DoesDifferenceClear (pieces_of_text q)) (pairs_of (length (pieces_of_text q)))) e a.accepted.differences in
    absurd (not_all (DoesDifferenceClear (pieces_of_text r.0)) (pairs_of (length (pieces_of_text r.0))) (i, j) r.3 apart)
accepted_refused bytes count (NotProved line) a r =
    let e = one_text bytes a.proved r.0 a.is.read r.2.read in
    let accepted = subst (λ (q : PlainProved). IsAccepted (domain_of_text q) (pieces_of_text q) q.proof.lines) e a.accepted in
    let some = some_pieces r.0.function.variables r.0.function.kind (text_fitting bytes r.0 r.2.read) r.2.pieces in
    absurd (no_proof_unfit (domain_of_text r.0) (pieces_of_text r.0) r.0.proof.lines r.1 some accepted.proved r.5)
accepted_refused bytes count Memory a r = refl

pub one_count : (bytes : List ℕ) (m n : ℕ) → IsAcceptedText bytes m → IsAcceptedText bytes n → m ≡ n
one_count bytes m n a b =
    let e = one_text bytes a.proved b.proved a.is.read b.is.read in
    a.counted ∙ ap (λ (q : PlainProved). length q.proof.lines) e ∙ sym b.counted

-- ---- what the code has read
module _ (bytes : List ℕ) (p : Proved) (read : proved_answer bytes ≡ Read (proved_of p)) (here : p.function.domain ≡ domain_for p.function.variables (kind_of p.function.kind)) where
  pub text_of : IsTextOf bytes (proved_of p)
  text_of = text_found bytes (proved_of p) read

  module _ (given : IsGivenByPieces (kind_of p.function.kind)) where
    pieces_of : IsPiecesText bytes (proved_of p)
    pieces_of = record { read = text_of; pieces = given }

    pub accepted_of : IsAccepted p.function.domain (pieces_in p.function) (lines_of_proof p.proof.lines.items) → (n : ℕ) → n ≡ length p.proof.lines.items → IsAcceptedText bytes n
    accepted_of h n e = record {
      proved = proved_of p;
      is = pieces_of;
      accepted = subst (λ (d : Domain). IsAccepted d (pieces_in p.function) (lines_of_proof p.proof.lines.items)) here h;
      counted = e ∙ sym (length-map p.proof.lines.items line_of);
    }

    pub proved_of_text : Covers p.function.domain (pieces_in p.function) × Agree p.function.domain (pieces_in p.function) → IsProvedText bytes
    proved_of_text h = record {
      proved = proved_of p;
      is = pieces_of;
      covers = subst (λ (d : Domain). Covers d (pieces_in p.function)) here h.0;
      agree = subst (λ (d : Domain). Agree d (pieces_in p.function)) here h.1;
    }

    pub refused_of : (e : VerifyError) → IsRejected p.function.domain (pieces_in p.function) (lines_of_proof p.proof.lines.items) e → (end : ℕ) → end ≡ end_of bytes → IsRefusedText bytes (unproved_of p.proof.numbers.items end e)
    refused_of e h end s = unproved_is bytes (proved_of p) pieces_of end s e (subst (λ (d : Domain). IsRejected d (pieces_in p.function) (lines_of_proof p.proof.lines.items) e) here h)
