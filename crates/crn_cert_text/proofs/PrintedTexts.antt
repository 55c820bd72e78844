-- A printed function and the printed lines of a proof read back as both.
use Rattle.std.proofs.Common.{◌≡◌, ℕ, ◌+◌, ◌≤◌, Bool, true, false, List, [], ◌∷◌, ◌++◌, length, Option, Some, None, refl, sym, ◌∙◌, ap, subst, arith}
use Rattle.std.specs.Prelude.{All}
use Rattle.std.specs.List.{range_with_len}
use Rattle.std.specs.Option.{option_and_then}
use Rattle.crn_token.specs.Plain.{PlainLine, plain_lines}
use Rattle.crn_token.specs.Printed.{Item, shown, lines_read}
use Rattle.crn_token.proofs.Joins.{printed-append}
use Rattle.crn_token.proofs.PrintedLaws.{text_reads, AreLines-append}
use Rattle.crn_grammar.specs.Table.{Table, after, IsText, PassesNone}
use Rattle.crn_grammar.specs.Part.{AllGoOn, Leaves, IsPart}
use Rattle.crn_grammar.proofs.FollowedTexts.{joined}
use Rattle.crn_grammar.proofs.TableLaws.{none_some}
use Rattle.crn_formula.specs.Functions.{IsFitting}
use Rattle.crn_function_text.specs.Grammar.{PlainFunction, Place, function_table, goes_on}
use Rattle.crn_function_text.specs.Printing.{function_lines, AreKindFracs}
use Rattle.crn_function_text.proofs.Steps.{never_other}
use Rattle.crn_function_text.proofs.PrintedText.{printed_text}
use Rattle.crn_function_text.proofs.PrintedBytes.{function_are}
use Rattle.crn_cert_text.specs.Proofs.{Line, pair, close, split}
use Rattle.crn_cert_text.specs.Text.{SpellLines, proof_table, proof_lines, IsReadable}
use Rattle.crn_cert_text.proofs.PrintedLines.{proof_printed, proof_spelled}
use Rattle.crn_cert_text.proofs.ReadLines.{text_exactly, passes_none}
use Rattle.crn_formula.specs.Pieces.{Domain}
use Rattle.crn_formula.specs.Functions.{IsGivenByPieces}
use Rattle.crn_formula.specs.Domains.{domain_for}
use Rattle.crn_formula.specs.Views.{Function, kind_of}
use Rattle.crn_function_text.specs.Reading.{function_of}
use Rattle.crn_function_text.proofs.Kept.{text_fits}
use Rattle.crn_function_text.proofs.KeptFracs.{text_kind_fracs}
use Rattle.crn_pieces.specs.Views.{pieces_in}
use Rattle.crn_pieces.specs.Answers.{AreChecked}
use Rattle.crn_cert_text.specs.Proofs.{IsProof}
use Rattle.crn_cert_text.proofs.PrintedLines.{proof_readable}
use Rattle.crn_cert_text.proofs.TextVerdicts.{few_pieces}
use Rattle.crn_cert_text.specs.ProvedText.{proved_table, proved_with, proved_text, printed_proof}
use Rattle.crn_cert_text.specs.TextAnswers.{IsTextOf, IsAcceptedText}
use Rattle.crn_cert_text.proofs.ReadTexts.{goes_where_allowed}

-- ---- lines that are read one after another
lines_both : (n : ℕ) (xs ys : List (List Item)) → lines_read n (xs ++ ys) ≡ lines_read n xs ++ lines_read (n + length xs) ys
lines_both n [] ys = let e : n ≡ n + 0 = omega arith in ap (λ (m : ℕ). lines_read m ys) e
lines_both n (x ∷ xs) ys =
    let e : n + 1 + length xs ≡ n + length (x ∷ xs) = omega arith in
    ap (λ (ls : List PlainLine). record { number = n; bad = false; tokens = shown x } ∷ ls) (lines_both (n + 1) xs ys ∙ ap (λ (m : ℕ). lines_read (n + 1) xs ++ lines_read m ys) e)

-- each line of a text of which only allowed lines go on goes on
all_go : {S L F W : Type 0} (table : Table S L F W) (goes : S → L → Bool) → ((s : S) (line : L) (t : S) → table.next s line ≡ Some t → goes s line ≡ true)
    → (lines : List L) (s t : S) → after table s lines ≡ Some t → AllGoOn table goes s lines
all_go table goes allowed [] s t there = tt
all_go {S} table goes allowed (line ∷ lines) s t there = go (table.next s line) refl there (λ u here. all_go table goes allowed lines u t here)
  where
    go : (o : Option S) → table.next s line ≡ o → option_and_then (λ u. after table u lines) o ≡ Some t → ((u : S) → after table u lines ≡ Some t → AllGoOn table goes u lines) → AllGoOn table goes s (line ∷ lines)
    go None e wrong again = absurd (none_some table t wrong)
    go (Some u) e here again = (allowed s line u e, λ v is. again v (ap (option_and_then (λ w. after table w lines)) (sym is ∙ e) ∙ here))

-- a line of a proof is none of a function part
first_leaves : (s : Place) (n : ℕ) (lines : List Line) → Leaves goes_on s (lines_read n (proof_lines lines))
first_leaves s n [] = tt
first_leaves s n (pair a b ms ∷ lines) = never_other s
first_leaves s n (close ms ∷ lines) = never_other s
first_leaves s n (split ∷ lines) = never_other s

module _ (f : PlainFunction) (lines : List Line) (fitting : IsFitting f.variables f.kind) (fits : AreKindFracs f.variables f.kind) (few : f.variables ≤ 8) (readable : All IsReadable lines) where
  abbrev own : List PlainLine
  own = lines_read 1 (function_lines f)

  abbrev rest : List PlainLine
  rest = lines_read (1 + length (function_lines f)) (proof_lines lines)

  text_lines : plain_lines (proved_text f lines) ≡ own ++ rest
  text_lines =
      ap plain_lines (sym (printed-append (function_lines f) (proof_lines lines)))
      ∙ (text_reads (function_lines f ++ proof_lines lines) (AreLines-append (function_lines f) (proof_lines lines) (function_are f few fits) (proof_printed lines readable))).1
      ∙ lines_both 1 (function_lines f) (proof_lines lines)

  part : IsPart function_table goes_on (own ++ rest) f rest
  part =
      let t = printed_text f fitting in
      record {
        part = own;
        lines_are = refl;
        text = t.0;
        goes = all_go function_table goes_on goes_where_allowed own function_table.start t.0.0 t.0.1;
        leaves = λ s there. first_leaves s (1 + length (function_lines f)) lines;
        passes_none = t.1;
      }

  pub prints : IsTextOf (proved_text f lines) (printed_proof f lines)
  prints =
      let p = (printed_proof f lines).proof in
      let e : 1 + length (function_lines f) ≡ length (function_lines f) + 1 = omega arith in
      let spelled = subst (λ (m : ℕ). SpellLines rest lines (range_with_len m (length lines))) e (proof_spelled (1 + length (function_lines f)) lines readable) in
      let both = joined function_table goes_on (λ g. proof_table) proved_with (own ++ rest) (printed_proof f lines) (f, p, rest, part, (text_exactly rest p).1 spelled, passes_none rest, refl) in
      let moved = subst (λ (ls : List PlainLine). IsText proved_table ls (printed_proof f lines) × PassesNone proved_table ls) (sym text_lines) both in
      record { text = moved.0; limits = moved.1 }

-- ---- what is printed of pieces that were checked, and of a proof
module _ (g : Function) (lines : List Line) (bytes : List ℕ) (text : IsText function_table (plain_lines bytes) (function_of g)) (low : PassesNone function_table (plain_lines bytes)) (domain : Domain) (proof : IsProof domain (pieces_in g) lines) where
  fitting_of : IsFitting g.variables (kind_of g.kind)
  fitting_of = text_fits (plain_lines bytes) (function_of g) text low

  pub readable_of : All IsReadable lines
  readable_of = proof_readable domain (pieces_in g) lines (few_pieces g.variables (kind_of g.kind) fitting_of) proof

  pub prints_of : IsTextOf (proved_text (function_of g) lines) (printed_proof (function_of g) lines)
  prints_of = prints (function_of g) lines fitting_of (text_kind_fracs bytes (function_of g) text low) fitting_of.few readable_of

  pub accepts_of : domain ≡ domain_for g.variables (kind_of g.kind) → IsGivenByPieces (kind_of g.kind) → AreChecked domain (pieces_in g) → IsAcceptedText (proved_text (function_of g) lines) (length lines)
  accepts_of e given checked = record {
    proved = printed_proof (function_of g) lines;
    is = record { read = prints_of; pieces = given };
    accepted = record {
      conditions = checked.prepared.conditions;
      differences = checked.prepared.differences;
      proved = subst (λ (d : Domain). IsProof d (pieces_in g) lines) e proof;
    };
    counted = refl;
  }
