-- The lines of a printed function are answered with that function.
use Rattle.std.proofs.Common.{◌≡◌, ℕ, zero, suc, ◌+◌, ◌-◌, ◌≤◌, false, cond, pos, List, [], ◌∷◌, ◌++◌, length, map, Some, None, refl, sym, ap, ◌∙◌, subst, arith, append_assoc, append-nil, take_at, drop_at, length-append}
use Rattle.std.specs.Prelude.{codes, All}
use Rattle.std.specs.List.{flat_map, sum_by, list_any}
use Rattle.std.specs.Option.{option_map, option_map_or}
use Rattle.std.proofs.lemmas.List.{length-map}
use Rattle.std.proofs.lemmas.List.Sums.{sum_by-cons, sum_by-append}
use Rattle.crn_token.specs.declared.Sign.TheVariants.{AtLeast}
use Rattle.crn_token.specs.declared.Counted.{Counted}
use Rattle.crn_token.specs.declared.Counted.TheVariants as counted
use Rattle.crn_token.specs.Plain.{Plain, PlainLine, PlainWord, PlainNumber, PlainSign, line_number}
use Rattle.crn_token.specs.Printed.{Item, Shown, Blank, shown, lines_read}
use Rattle.crn_grammar.specs.Table.{Answer, Read, Malformed, Limited, answer, IsText, PassesNone, IsAnswer}
use Rattle.crn_grammar.proofs.TableLaws.{answer_is}
use Rattle.crn_fraction.specs.Rational.{ℚ, 0ℚ, ◌≤ℚ◌}
use Rattle.crn_formula.specs.Formulas.{Formula, node_count, depth_of, formula_has_constant}
use Rattle.crn_formula.specs.Pieces.{Piece}
use Rattle.crn_formula.specs.Functions.{Kind, ByFormula, ByPieces, ByLeast, condition_count, columns, piece_has_constant, IsFitting}
use Rattle.crn_form_text.specs.Built.{fitted}
use Rattle.crn_form_text.specs.Printing.{form_items, formula_items, with_constant, with_constants}
use Rattle.crn_form_text.proofs.ParsedLaws.{is_form_from, is_plain_form_from, is_formula_from}
use Rattle.crn_form_text.proofs.PlainPrinted.{plain_printed}
use Rattle.crn_token.proofs.Joins.{shown-append}
use Rattle.crn_form_text.proofs.PrintLaws.{form_printed, formula_printed}
use Rattle.crn_function_text.specs.declared.words.Given.{Given}
use Rattle.crn_function_text.specs.declared.words.Given.TheVariants as given
use Rattle.crn_function_text.specs.Words.{given_of}
use Rattle.crn_function_text.specs.Columns.{kept_columns}
use Rattle.crn_function_text.specs.Grammar.{PlainFunction, Place, Start, Header, Sized, Valued, InPieces, InForms, condition_of, size, new_piece, with_condition, next, limit, function_table}
use Rattle.crn_function_text.specs.Printing.{function_lines, word_line, kind_word, kind_lines, value_line, piece_line, when_line, form_line, piece_lines}
use Rattle.crn_function_text.specs.Spelled.{form_of, plain_form_of}
use Rattle.crn_grammar.proofs.LimitLaws.{not_above}
use Rattle.crn_function_text.proofs.GrammarLaws.{function_can_end}
use Rattle.crn_function_text.proofs.PrintedColumns.{with_piece, columns_for, columns_least, formula_back, pieces_back}

-- how a function is given
abbrev given_by : Kind → Given
given_by (ByFormula e) = given.Formula
given_by (ByPieces pieces) = given.Pieces
given_by (ByLeast forms) = given.Direct

-- ---- what a line says
form_reads : (k : ℕ) (form : List ℚ) → k ≤ 8 → k ≤ length form → form_of k (shown (form_items k form)) ≡ Some (with_constant k form)
form_reads k form few long = is_form_from k (with_constant k form) (shown (form_items k form)) (form_printed k form long)

condition_at : (k : ℕ) (ts : List Plain) → condition_of k (ts ++ (PlainSign AtLeast ∷ PlainNumber (pos 0) ∷ [])) ≡ form_of k ts
condition_at k ts =
    let more : List Plain = PlainSign AtLeast ∷ PlainNumber (pos 0) ∷ [] in
    let front : length ts ≡ length (ts ++ more) - 2 = omega (arith, length-append ts more) in
    rw (drop_at ts more (length (ts ++ more) - 2) front, take_at ts more (length (ts ++ more) - 2) front) refl

condition_reads : (k : ℕ) (form : List ℚ) → k ≤ 8 → k ≤ length form
    → condition_of k (shown (form_items k form ++ (Blank ∷ Shown (PlainSign AtLeast) ∷ Blank ∷ Shown (PlainNumber (pos 0)) ∷ []))) ≡ Some (with_constant k form)
condition_reads k form few long =
    ap (condition_of k) (shown-append (form_items k form) (Blank ∷ Shown (PlainSign AtLeast) ∷ Blank ∷ Shown (PlainNumber (pos 0)) ∷ []))
    ∙ condition_at k (shown (form_items k form)) ∙ form_reads k form few long

-- ---- one line more
module _ (end : ℕ) where
  abbrev answered : Place → List PlainLine → Answer PlainFunction (Counted × ℕ)
  answered s lines = answer function_table line_number end s lines

  step : (s t : Place) (items : List Item) (n : ℕ) (more : List (List Item)) → next s (record { number = n; bad = false; tokens = shown items }) ≡ Some t → limit t ≡ None
      → answered s (lines_read n (items ∷ more)) ≡ answered t (lines_read (n + 1) more)
  step s t items n more is low =
      ap (λ o. option_map_or (λ u. option_map_or (λ what. Limited what) (limit u) (answered u (lines_read (n + 1) more))) o (Malformed n)) is
      ∙ ap (λ o. option_map_or (λ what. Limited what) o (answered t (lines_read (n + 1) more))) low

  -- ---- pieces
  quiet_pieces : (k : ℕ) (done : List Piece) (last : Piece) → length done + 1 ≤ 32 → length last.conditions ≤ 16 → sum_by condition_count done + length last.conditions ≤ 100 → limit (InPieces k done last) ≡ None
  quiet_pieces k done last few each together =
      rw (not_above 32 counted.Pieces (length done + 1) few, not_above 16 counted.Conditions (length last.conditions) each, not_above 100 counted.AllConditions (sum_by condition_count done + length last.conditions) together) refl

  -- a piece with conditions more
  abbrev with_all : ℕ → Piece → List (List ℚ) → Piece
  with_all k last cs = record { conditions = last.conditions ++ map (with_constant k) cs; form = last.form }

  conditions_run : (k : ℕ) (done : List Piece) (last : Piece) (cs : List (List ℚ)) (more : List (List Item)) (n : ℕ) → k ≤ 8 → All (λ c. k ≤ length c) cs
      → length done + 1 ≤ 32 → length last.conditions + length cs ≤ 16 → sum_by condition_count done + (length last.conditions + length cs) ≤ 100
      → (m : ℕ) × (answered (InPieces k done last) (lines_read n (map (when_line k) cs ++ more)) ≡ answered (InPieces k done (with_all k last cs)) (lines_read m more))
  conditions_run k done last [] more n small long few each together =
      (n, ap (λ (cs : List (List ℚ)). answered (InPieces k done (record { conditions = cs; form = last.form })) (lines_read n more)) (sym (append-nil last.conditions)))
  conditions_run k done last (c ∷ cs) more n small long few each together =
      let d = with_constant k c in
      let longer : length (last.conditions ++ d ∷ []) ≡ length last.conditions + 1 = length-append last.conditions (d ∷ []) in
      let (m, is) = conditions_run k done (with_condition last d) cs more (n + 1) small (λ i e within. long (suc i) e (omega (arith, within))) few (omega (arith, longer, each)) (omega (arith, longer, together)) in (
        m,
        step (InPieces k done last) (InPieces k done (with_condition last d)) (when_line k c) n (map (when_line k) cs ++ more)
            (ap (option_map (λ f. InPieces k done (with_condition last f))) (condition_reads k c small (long 0 c (omega arith))))
            (quiet_pieces k done (with_condition last d) few (omega (arith, longer, each)) (omega (arith, longer, together)))
            ∙ is
            ∙ ap (λ (ds : List (List ℚ)). answered (InPieces k done (record { conditions = ds; form = last.form })) (lines_read m more)) (append_assoc last.conditions (d ∷ []) (map (with_constant k) cs)),
      )

  -- each form of the piece has at least k columns
  record IsLong (k : ℕ) (p : Piece) : Type 0 where
    form : k ≤ length p.form
    conditions : All (λ c. k ≤ length c) p.conditions

  pieces_run : (k : ℕ) (done : List Piece) (last : Piece) (ps : List Piece) (n : ℕ) → k ≤ 8 → All (IsLong k) ps → All (λ p. condition_count p ≤ 16) ps
      → length done + 1 + length ps ≤ 32 → sum_by condition_count done + length last.conditions + sum_by condition_count ps ≤ 100
      → answered (InPieces k done last) (lines_read n (flat_map (piece_lines k) ps))
      ≡ Read (record { variables = k; kind = ByPieces (kept_columns k ((done ++ last ∷ []) ++ map (with_piece k) ps)) })
  pieces_run k done last [] n small long each few together =
      ap (λ (qs : List Piece). Read (record { variables = k; kind = ByPieces (kept_columns k qs) })) (sym (append-nil (done ++ last ∷ [])))
  pieces_run k done last (p ∷ ps) n small long each few together =
      let f = with_constant k p.form in
      let here = long 0 p (omega arith) in
      let before = done ++ last ∷ [] in
      let count : length before ≡ length done + 1 = length-append done (last ∷ []) in
      let sum : sum_by condition_count before ≡ sum_by condition_count done + length last.conditions =
      sum_by-append condition_count done (last ∷ []) ∙ ap (λ m. sum_by condition_count done + m) (sum_by-cons condition_count last []) ∙ omega arith in
      let sums : sum_by condition_count (p ∷ ps) ≡ condition_count p + sum_by condition_count ps = sum_by-cons condition_count p ps in
      let same : length (with_piece k p).conditions ≡ condition_count p = length-map p.conditions (with_constant k) in
      let own : length p.conditions ≤ 16 = each 0 p (omega arith) in
      let (m, is) = conditions_run k before (new_piece f) p.conditions (flat_map (piece_lines k) ps) (n + 1) small here.conditions (omega (arith, count, few)) (omega (arith, own)) (omega (arith, sum, sums, together)) in
      step (InPieces k done last) (InPieces k before (new_piece f)) (piece_line k p.form) n (map (when_line k) p.conditions ++ flat_map (piece_lines k) ps)
      (ap (option_map (λ g. InPieces k before (new_piece g))) (form_reads k p.form small here.form))
      (quiet_pieces k before (new_piece f) (omega (arith, count, few)) (omega arith) (omega (arith, sum, sums, together)))
      ∙ is
      ∙ pieces_run k before (with_piece k p) ps m small (λ i d within. long (suc i) d (omega (arith, within))) (λ i d within. each (suc i) d (omega (arith, within)))
      (omega (arith, count, few)) (omega (arith, sum, sums, same, together))
      ∙ ap (λ (qs : List Piece). Read (record { variables = k; kind = ByPieces (kept_columns k qs) })) (append_assoc before (with_piece k p ∷ []) (map (with_piece k) ps))

  -- ---- forms of which the least counts
  -- a printed form is all of its line
  plain_reads : (k : ℕ) (form : List ℚ) → k ≤ 8 → length form ≡ k → All (λ c. 0ℚ ≤ℚ c) form → plain_form_of k (shown (form_items k form)) ≡ Some form
  plain_reads k form small long low = is_plain_form_from k form (shown (form_items k form)) (plain_printed k form long low)

  forms_run : (k : ℕ) (done fs : List (List ℚ)) (n : ℕ) → k ≤ 8 → All (λ f. length f ≡ k) fs → All (All (λ c. 0ℚ ≤ℚ c)) fs → length done + length fs ≤ 32
      → answered (InForms k done) (lines_read n (map (form_line k) fs)) ≡ Read (record { variables = k; kind = ByLeast (done ++ fs) })
  forms_run k done [] n small long low few = ap (λ (gs : List (List ℚ)). Read (record { variables = k; kind = ByLeast gs })) (sym (append-nil done))
  forms_run k done (f ∷ fs) n small long low few =
      let count : length (done ++ f ∷ []) ≡ length done + 1 = length-append done (f ∷ []) in
      step (InForms k done) (InForms k (done ++ f ∷ [])) (form_line k f) n (map (form_line k) fs)
      (ap (option_map (λ g. InForms k (done ++ g ∷ []))) (plain_reads k f small (long 0 f (omega arith)) (low 0 f (omega arith))))
      (not_above 32 counted.Forms (length (done ++ f ∷ [])) (omega (arith, count, few)))
      ∙ forms_run k (done ++ f ∷ []) fs (n + 1) small (λ i d within. long (suc i) d (omega (arith, within))) (λ i d within. low (suc i) d (omega (arith, within))) (omega (arith, count, few))
      ∙ ap (λ (gs : List (List ℚ)). Read (record { variables = k; kind = ByLeast gs })) (append_assoc done (f ∷ []) fs)

  -- ---- the whole text
  -- the lines after the first two
  abbrev kind_run : ℕ → Kind → Type 0
  kind_run k kind = (n : ℕ) → answered (Sized (given_by kind) k) (lines_read n (kind_lines k kind)) ≡ Read (record { variables = k; kind = kind })

  formula_run : (k : ℕ) (e : Formula) → IsFitting k (ByFormula e) → kind_run k (ByFormula e)
  formula_run k e fitting n =
      let cols = columns_for k (columns k (ByFormula e)) e (columns_least k (formula_has_constant k e)) fitting.forms in
      let is = is_formula_from k (with_constants k e) (shown (formula_items k e)) (formula_printed k e cols) in
      let back : fitted k (with_constants k e) ≡ e = formula_back k e fitting.forms in
      let reads : next (Sized given.Formula k) (record { number = n; bad = false; tokens = shown (value_line k e) }) ≡ Some (Valued k e) = ap (option_map (λ g. Valued k (fitted k g))) is ∙ ap (λ g. Some (Valued k g)) back in
      step (Sized given.Formula k) (Valued k e) (value_line k e) n [] reads
      (rw (not_above 2048 counted.Nodes (node_count e) fitting.limits.nodes, not_above 64 counted.Depth (depth_of e) fitting.limits.depth) refl)

  pieces_long : (k : ℕ) (ps : List Piece) → IsFitting k (ByPieces ps) → All (IsLong k) ps
  pieces_long k ps fitting = λ i d within.
      let over = fitting.forms i d within in
      let least = columns_least k (list_any (piece_has_constant k) ps) in
      record { form = omega (arith, least, over.form); conditions = λ j c inside. omega (arith, least, over.conditions j c inside) }

  first_piece_run : (k : ℕ) (p : Piece) (ps : List Piece) → IsFitting k (ByPieces (p ∷ ps)) → kind_run k (ByPieces (p ∷ ps))
  first_piece_run k p ps fitting n =
      let f = with_constant k p.form in
      let long = pieces_long k (p ∷ ps) fitting in
      let here = long 0 p (omega arith) in
      let small = fitting.few in
      let sums : sum_by condition_count (p ∷ ps) ≡ condition_count p + sum_by condition_count ps = sum_by-cons condition_count p ps in
      let same : length (with_piece k p).conditions ≡ condition_count p = length-map p.conditions (with_constant k) in
      let own : length p.conditions ≤ 16 = fitting.limits.each 0 p (omega arith) in
      let (m, is) = conditions_run k [] (new_piece f) p.conditions (flat_map (piece_lines k) ps) (n + 1) small here.conditions (omega arith) (omega (arith, own)) (omega (arith, sums, fitting.limits.together)) in
      step (Sized given.Pieces k) (InPieces k [] (new_piece f)) (piece_line k p.form) n (map (when_line k) p.conditions ++ flat_map (piece_lines k) ps)
      (ap (option_map (λ g. InPieces k [] (new_piece g))) (form_reads k p.form small here.form))
      (quiet_pieces k [] (new_piece f) (omega arith) (omega arith) (omega arith))
      ∙ is
      ∙ pieces_run k [] (with_piece k p) ps m small (λ i d within. long (suc i) d (omega (arith, within))) (λ i d within. fitting.limits.each (suc i) d (omega (arith, within)))
      (omega (arith, fitting.limits.few)) (omega (arith, sums, same, fitting.limits.together))
      ∙ ap (λ (qs : List Piece). Read (record { variables = k; kind = ByPieces qs })) (pieces_back k (p ∷ ps) fitting.forms)

  first_form_run : (k : ℕ) (f : List ℚ) (fs : List (List ℚ)) → IsFitting k (ByLeast (f ∷ fs)) → kind_run k (ByLeast (f ∷ fs))
  first_form_run k f fs fitting n =
      let small = fitting.few in
      let forms = fitting.limits.0 in
      let long : All (λ g. length g ≡ k) (f ∷ fs) = subst (λ b. All (λ g. length g ≡ cond b (k + 1) k) (f ∷ fs)) fitting.limits.1 fitting.forms in
      step (Sized given.Direct k) (InForms k (f ∷ [])) (form_line k f) n (map (form_line k) fs)
      (ap (option_map (λ g. InForms k (g ∷ []))) (plain_reads k f small (long 0 f (omega arith)) (forms.nonnegative 0 f (omega arith))))
      (not_above 32 counted.Forms 1 (omega arith))
      ∙ forms_run k (f ∷ []) fs (n + 1) small (λ i d within. long (suc i) d (omega (arith, within))) (λ i d within. forms.nonnegative (suc i) d (omega (arith, within))) (omega (arith, forms.few))

  kind_runs : (k : ℕ) (kind : Kind) → IsFitting k kind → kind_run k kind
  kind_runs k (ByFormula e) fitting = formula_run k e fitting
  kind_runs k (ByPieces []) fitting = absurd (omega (arith, fitting.limits.some))
  kind_runs k (ByPieces (p ∷ ps)) fitting = first_piece_run k p ps fitting
  kind_runs k (ByLeast []) fitting = absurd (omega (arith, fitting.limits.0.some))
  kind_runs k (ByLeast (f ∷ fs)) fitting = first_form_run k f fs fitting

  given_word : (kind : Kind) → given_of (kind_word kind) ≡ Some (given_by kind)
  given_word (ByFormula e) = refl
  given_word (ByPieces pieces) = refl
  given_word (ByLeast forms) = refl

  size_reads : (g : Given) (k : ℕ) → 1 ≤ k → size g (PlainNumber (pos k) ∷ []) ≡ Some (Sized g k)
  size_reads g zero some = absurd (omega arith)
  size_reads g (suc k) some = refl

  pub text_answered : (f : PlainFunction) → IsFitting f.variables f.kind → answered Start (lines_read 1 (function_lines f)) ≡ Read f
  text_answered f fitting =
      step Start (Header (given_by f.kind)) (word_line (codes "function") (Shown (PlainWord (kind_word f.kind)) ∷ [])) 1 (word_line (codes "variables") (Shown (PlainNumber (pos f.variables)) ∷ []) ∷ kind_lines f.variables f.kind) (ap (option_map (λ g. Header g)) (given_word f.kind)) refl
      ∙ step (Header (given_by f.kind)) (Sized (given_by f.kind) f.variables) (word_line (codes "variables") (Shown (PlainNumber (pos f.variables)) ∷ [])) 2 (kind_lines f.variables f.kind) (size_reads (given_by f.kind) f.variables fitting.some) (not_above 8 counted.Variables f.variables fitting.few)
      ∙ kind_runs f.variables f.kind fitting 3

-- the lines that are printed are a text of the function, and pass no limit
pub printed_text : (f : PlainFunction) → IsFitting f.variables f.kind → IsText function_table (lines_read 1 (function_lines f)) f × PassesNone function_table (lines_read 1 (function_lines f))
printed_text f fitting = subst (IsAnswer function_table line_number 0 (lines_read 1 (function_lines f))) (text_answered 0 f fitting) (answer_is function_table function_can_end line_number 0 (lines_read 1 (function_lines f)))
