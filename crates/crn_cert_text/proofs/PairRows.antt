-- The rows of a pair, and what a line says of them.
use Rattle.std.proofs.Common.{◌≡◌, ◌↔◌, ℕ, ◌≤◌, List, [], ◌∷◌, ◌++◌, length, true, refl, sym, ap, ap₂, ◌∙◌, subst, arith}
use Rattle.std.specs.Prelude.{All, ℤ}
use Rattle.std.specs.Global.{Vec}
use Rattle.std.proofs.lemmas.List.{append_assoc, length-map, length-append}
use Rattle.std.proofs.lemmas.List.Elements.{All-append, All-nil, All-cons, All-weaker}
use Rattle.crn_fraction.specs.Rational.{ℚ}
use Rattle.crn_linear.specs.Rows.{Row, violation}
use Rattle.crn_formula.specs.Pieces.{Piece, Domain, IsDomain, columns_of}
use Rattle.crn_formula.specs.Functions.{IsPieceOver, condition_count}
use Rattle.crn_linear.specs.FormRows.{condition_row, above_row}
use Rattle.crn_pieces.specs.Systems.{condition_rows, rows_of}
use Rattle.crn_formula.proofs.Lists.{All-map}
use Rattle.crn_linear.proofs.Opposites.{cleared-swap}
use Rattle.crn_pieces.proofs.Walk.{AreLong}
use Rattle.crn_linear.proofs.FormRows.{length-above}
use Rattle.crn_pieces.proofs.PairAsked.{long_conditions}
use Rattle.crn_cert_text.specs.declared.ProofLine.{ProofLine}
use Rattle.crn_cert_text.specs.declared.ProofLine.TheVariants.{Pair}
use Rattle.crn_cert_text.specs.Proofs.{Line, IsProofOf, Question, AnswersPair}
use Rattle.crn_cert_text.specs.Views.{line_of}

-- a line with the numbers of a question answers it where its multipliers prove the system
pub pair_answers : (q : Question) (line other : ProofLine) (a b : ℕ) (m : Vec ℤ) → line ≡ Pair a b m → a ≡ q.above → b ≡ q.below → other ≡ line → IsProofOf q.system m.items ↔ AnswersPair q (line_of other)
pair_answers q line other a b m e f g s =
    let there : line_of other ≡ line_of (Pair a b m) = ap line_of (s ∙ e) in
    (λ h. subst (AnswersPair q) (sym there) (f, g, h), λ h. let w : AnswersPair q (line_of (Pair a b m)) = subst (AnswersPair q) there h in w.2)

-- ---- the rows
abbrev pub rows_of_pair : (a b : Piece) → Row → List Row
rows_of_pair a b row = condition_rows a ++ (condition_rows b ++ row ∷ [])

pub same_rows : (a b : Piece) (one two rows : List Row) (row wanted : Row) → one ≡ condition_rows a → two ≡ condition_rows b → row ≡ wanted → rows ≡ one ++ (two ++ row ∷ []) → rows ≡ rows_of_pair a b wanted
same_rows a b one two rows row wanted e f g h = h ∙ ap₂ (λ x y. x ++ y) e (ap₂ (λ x y. x ++ y ∷ []) f g)

-- the violation of the difference is the difference the other way round
pub below_is : (a b : List ℚ) (above below : Row) → above ≡ above_row a b → below ≡ violation above → below ≡ above_row b a
below_is a b above below e f = f ∙ ap violation e ∙ ap (λ (l : List ℤ). let w : Row = record { entries = l; strict = true } in w) (sym (cleared-swap a b))

module _ (n : ℕ) (a b : Piece) (x y : List ℚ) (p : IsPieceOver n a) (q : IsPieceOver n b) (e : length x ≡ n) (f : length y ≡ n) where
  pub pair_long : (rows : List Row) → rows ≡ rows_of_pair a b (above_row x y) → AreLong n rows
  pair_long rows h =
      let Q = λ (r : Row). length r.entries ≡ n in
      subst (AreLong n) (sym h)
      (All-append Q (condition_rows a) (condition_rows b ++ above_row x y ∷ []) (long_conditions n a p)
      (All-append Q (condition_rows b) (above_row x y ∷ []) (long_conditions n b q) (All-cons Q (above_row x y) [] (length-above x y n e f) (All-nil Q))))

pub pair_few : (a b : Piece) (row : Row) (rows : List Row) → condition_count a ≤ 16 → condition_count b ≤ 16 → rows ≡ rows_of_pair a b row → length rows ≤ 248
pair_few a b row rows h g e =
    omega (
      arith,
      ap (length {A = Row}) e,
      length-append (condition_rows a) (condition_rows b ++ row ∷ []),
      length-append (condition_rows b) (row ∷ []),
      length-map a.conditions condition_row,
      length-map b.conditions condition_row,
      h,
      g,
    )

-- ---- laid behind the rows of a domain
pub laid_pair : (before : List Row) (a b : Piece) (one two all : List Row) (row wanted : Row) → one ≡ condition_rows a → two ≡ condition_rows b → row ≡ wanted → all ≡ before ++ (one ++ (two ++ row ∷ []))
    → all ≡ before ++ rows_of_pair a b wanted
laid_pair before a b one two all row wanted e f g h = h ∙ ap (λ (t : List Row). before ++ t) (same_rows a b one two (one ++ (two ++ row ∷ [])) row wanted e f g refl)

-- the difference stands last
pub last_row : (before one two : List Row) (row : Row) → before ++ (one ++ (two ++ row ∷ [])) ≡ (before ++ (one ++ two)) ++ row ∷ []
last_row before one two row = sym (append_assoc before (one ++ two) (row ∷ []) ∙ ap (λ (t : List Row). before ++ t) (append_assoc one two (row ∷ [])))

pub laid_long : (D : Domain) (rows all : List Row) → IsDomain D → AreLong (columns_of D) rows → all ≡ D.rows ++ rows → AreLong (columns_of D) all
laid_long D rows all d long e = subst (AreLong (columns_of D)) (sym e) (All-append (λ (r : Row). length r.entries ≡ columns_of D) D.rows rows d.long long)

pub laid_few : (before rows all : List Row) → length before ≤ 8 → length rows ≤ 248 → all ≡ before ++ rows → length all ≤ 256
laid_few before rows all b f e = omega (arith, ap (length {A = Row}) e, length-append before rows, b, f)

-- what a line answers hangs on the rows alone
pub answers_same : (numbers : ℕ × ℕ) (line : Line) (n m : ℕ) (rows other : List Row) → n ≡ m → rows ≡ other
    → AnswersPair (record { above = numbers.0; below = numbers.1; system = record { columns = n; rows = rows } }) line
    ↔ AnswersPair (record { above = numbers.0; below = numbers.1; system = record { columns = m; rows = other } }) line
answers_same numbers line n m rows other e f =
    let Answers : ℕ → List Row → Type 0 = λ k rs. AnswersPair (record { above = numbers.0; below = numbers.1; system = record { columns = k; rows = rs } }) line in (
      λ h. subst (Answers m) f (subst (λ (k : ℕ). Answers k rows) e h),
      λ h. subst (λ (k : ℕ). Answers k rows) (sym e) (subst (Answers m) (sym f) h),
    )

-- the rows of all pieces
pub long_rows : (n : ℕ) (P : List Piece) → All (IsPieceOver n) P → All (AreLong n) (rows_of P)
long_rows n P h = (All-map condition_rows (AreLong n) P).0 (All-weaker (IsPieceOver n) (λ p. AreLong n (condition_rows p)) (long_conditions n) P h)
