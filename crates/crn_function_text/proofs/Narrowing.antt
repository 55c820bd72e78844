-- A formula or pieces that are read are a function with the columns that they need.
use Rattle.std.proofs.Common.{◌≡◌, ℕ, ◌+◌, ◌≤◌, Bool, true, false, not, List, [], ◌∷◌, length, take, map, get_or, refl, sym, ◌∙◌, ap, ap₂, subst, arith}
use Rattle.std.proofs.lemmas.List.{get_or_past, length-take-le, length-map}
use Rattle.std.proofs.lemmas.List.Folds.{list_any_none}
use Rattle.std.proofs.lemmas.List.Elements.{All-map}
use Rattle.std.specs.Prelude.{All, max, cond}
use Rattle.std.specs.List.{list_any, sum_by}
use Rattle.crn_fraction.specs.Rational.{ℚ, 0ℚ, is_zero_ℚ}
use Rattle.crn_linear.specs.Forms.{entry_of}
use Rattle.crn_formula.specs.Formulas.{Formula, Lin, Add, Sub, Scale, Min, Max, IsOver, node_count, depth_of, has_constant, formula_has_constant}
use Rattle.crn_formula.specs.Pieces.{Piece}
use Rattle.crn_formula.specs.Functions.{Kind, ByFormula, ByPieces, ByLeast, is_affine, columns, IsFitting, IsPieceOver, AreFewPieces, condition_count, piece_has_constant}
use Rattle.std.proofs.lemmas.List.Sums.{sum_by-cons}
use Rattle.std.proofs.lemmas.Bool.{or_from}
use Rattle.crn_fraction.proofs.Products.{is_zero_ℚ-zero}
use Rattle.crn_formula.proofs.Lists.{list_any-map}
use Rattle.crn_form_text.specs.Grammar.{narrow}
use Rattle.crn_form_text.specs.Built.{fitted}
use Rattle.crn_function_text.specs.Columns.{narrow_piece, kept_columns}
use Rattle.crn_function_text.specs.Reading.{AreKeptPieces, AreKeptForms}

-- a form without the column of constants has none
no_constant : (k : ℕ) (f : List ℚ) → length f ≡ k + 1 → has_constant k (take k f) ≡ false
no_constant k f long =
    let past : entry_of (take k f) k ≡ 0ℚ = get_or_past (take k f) k 0ℚ (omega (arith, length-take-le k f (omega arith))) in
    ap (λ q. not (is_zero_ℚ q)) past ∙ ap not (is_zero_ℚ-zero 0ℚ refl)

formula_linear : (k : ℕ) (e : Formula) → IsOver (k + 1) e → formula_has_constant k (narrow k e) ≡ false
formula_linear k (Lin form) over = no_constant k form over
formula_linear k (Add a b) over = or_from (formula_has_constant k (narrow k a)) (formula_has_constant k (narrow k b)) (formula_linear k a over.0) (formula_linear k b over.1)
formula_linear k (Sub a b) over = or_from (formula_has_constant k (narrow k a)) (formula_has_constant k (narrow k b)) (formula_linear k a over.0) (formula_linear k b over.1)
formula_linear k (Scale q a) over = formula_linear k a over
formula_linear k (Min a b) over = or_from (formula_has_constant k (narrow k a)) (formula_has_constant k (narrow k b)) (formula_linear k a over.0) (formula_linear k b over.1)
formula_linear k (Max a b) over = or_from (formula_has_constant k (narrow k a)) (formula_has_constant k (narrow k b)) (formula_linear k a over.0) (formula_linear k b over.1)

formula_over : (k : ℕ) (e : Formula) → IsOver (k + 1) e → IsOver k (narrow k e)
formula_over k (Lin form) over = length-take-le k form (omega (arith, over))
formula_over k (Add a b) over = (formula_over k a over.0, formula_over k b over.1)
formula_over k (Sub a b) over = (formula_over k a over.0, formula_over k b over.1)
formula_over k (Scale q a) over = formula_over k a over
formula_over k (Min a b) over = (formula_over k a over.0, formula_over k b over.1)
formula_over k (Max a b) over = (formula_over k a over.0, formula_over k b over.1)

same_nodes : (k : ℕ) (e : Formula) → node_count (narrow k e) ≡ node_count e
same_nodes k (Lin form) = refl
same_nodes k (Add a b) = ap₂ (λ m n. 1 + (m + n)) (same_nodes k a) (same_nodes k b)
same_nodes k (Sub a b) = ap₂ (λ m n. 1 + (m + n)) (same_nodes k a) (same_nodes k b)
same_nodes k (Scale q a) = ap (λ m. 1 + m) (same_nodes k a)
same_nodes k (Min a b) = ap₂ (λ m n. 1 + (m + n)) (same_nodes k a) (same_nodes k b)
same_nodes k (Max a b) = ap₂ (λ m n. 1 + (m + n)) (same_nodes k a) (same_nodes k b)

same_depth : (k : ℕ) (e : Formula) → depth_of (narrow k e) ≡ depth_of e
same_depth k (Lin form) = refl
same_depth k (Add a b) = ap₂ (λ m n. 1 + max m n) (same_depth k a) (same_depth k b)
same_depth k (Sub a b) = ap₂ (λ m n. 1 + max m n) (same_depth k a) (same_depth k b)
same_depth k (Scale q a) = ap (λ m. 1 + m) (same_depth k a)
same_depth k (Min a b) = ap₂ (λ m n. 1 + max m n) (same_depth k a) (same_depth k b)
same_depth k (Max a b) = ap₂ (λ m n. 1 + max m n) (same_depth k a) (same_depth k b)

-- ---- pieces
piece_linear : (k : ℕ) (p : Piece) → IsPieceOver (k + 1) p → piece_has_constant k (narrow_piece k p) ≡ false
piece_linear k p over =
    or_from (has_constant k (take k p.form)) (list_any (has_constant k) (map (take k) p.conditions)) (no_constant k p.form over.form)
    (list_any-map (take k) (has_constant k) p.conditions ∙ list_any_none (λ c. has_constant k (take k c)) p.conditions (λ i d within. no_constant k (get_or p.conditions i d) (over.conditions i d within)))

piece_over : (k : ℕ) (p : Piece) → IsPieceOver (k + 1) p → IsPieceOver k (narrow_piece k p)
piece_over k p over = record {
  form = length-take-le k p.form (omega (arith, over.form));
  conditions = All-map (λ c. length c ≡ k) (take k) p.conditions (λ i d within. length-take-le k (get_or p.conditions i d) (omega (arith, over.conditions i d within)));
}

pieces_linear : (k : ℕ) (ps : List Piece) → All (IsPieceOver (k + 1)) ps → list_any (piece_has_constant k) (map (narrow_piece k) ps) ≡ false
pieces_linear k ps over = list_any-map (narrow_piece k) (piece_has_constant k) ps ∙ list_any_none (λ p. piece_has_constant k (narrow_piece k p)) ps (λ i d within. piece_linear k (get_or ps i d) (over i d within))

same_conditions : (k : ℕ) (p : Piece) → condition_count (narrow_piece k p) ≡ condition_count p
same_conditions k p = length-map p.conditions (take k)

all_conditions : (k : ℕ) (ps : List Piece) → sum_by condition_count (map (narrow_piece k) ps) ≡ sum_by condition_count ps
all_conditions k [] = refl
all_conditions k (p ∷ ps) =
    sum_by-cons condition_count (narrow_piece k p) (map (narrow_piece k) ps) ∙ ap₂ (λ m n. m + n) (same_conditions k p) (all_conditions k ps) ∙ sym (sum_by-cons condition_count p ps)

few_pieces : (k : ℕ) (ps : List Piece) → AreFewPieces condition_count ps → AreFewPieces condition_count (map (narrow_piece k) ps)
few_pieces k ps few = record {
  some = subst (λ n. 1 ≤ n) (sym (length-map ps (narrow_piece k))) few.some;
  few = subst (λ n. n ≤ 32) (sym (length-map ps (narrow_piece k))) few.few;
  each = All-map (λ p. condition_count p ≤ 16) (narrow_piece k) ps (λ i d within. subst (λ n. n ≤ 16) (sym (same_conditions k (get_or ps i d))) (few.each i d within));
  together = subst (λ n. n ≤ 100) (sym (all_conditions k ps)) few.together;
}

-- ---- functions
-- as many columns as are needed
columns_at : (k : ℕ) (kind : Kind) (b : Bool) → is_affine k kind ≡ b → columns k kind ≡ cond b (k + 1) k
columns_at k kind b e = ap (λ a. cond a (k + 1) k) e

-- a formula that is read
pub formula_fits : (k : ℕ) (e : Formula) → 1 ≤ k → k ≤ 8 → IsOver (k + 1) e → node_count e ≤ 2048 → depth_of e ≤ 64 → IsFitting k (ByFormula (fitted k e))
formula_fits k e some few over nodes depth = go (formula_has_constant k e) refl
  where
    go : (b : Bool) → formula_has_constant k e ≡ b → IsFitting k (ByFormula (fitted k e))
    go true is = subst (λ f. IsFitting k (ByFormula f)) (sym (ap (λ b. cond b e (narrow k e)) is)) (record {
      some = some;
      few = few;
      forms = subst (λ n. IsOver n e) (sym (columns_at k (ByFormula e) true is)) over;
      limits = record { nodes = nodes; depth = depth };
    })
    go false is = subst (λ f. IsFitting k (ByFormula f)) (sym (ap (λ b. cond b e (narrow k e)) is)) (record {
      some = some;
      few = few;
      forms = subst (λ n. IsOver n (narrow k e)) (sym (columns_at k (ByFormula (narrow k e)) false (formula_linear k e over))) (formula_over k e over);
      limits = record { nodes = subst (λ n. n ≤ 2048) (sym (same_nodes k e)) nodes; depth = subst (λ n. n ≤ 64) (sym (same_depth k e)) depth };
    })

-- its counts are those of what is kept
pub fitted_nodes : (k : ℕ) (e : Formula) → node_count (fitted k e) ≡ node_count e
fitted_nodes k e = go (formula_has_constant k e) refl
  where
    go : (b : Bool) → formula_has_constant k e ≡ b → node_count (fitted k e) ≡ node_count e
    go true is = ap (λ b. node_count (cond b e (narrow k e))) is
    go false is = ap (λ b. node_count (cond b e (narrow k e))) is ∙ same_nodes k e

pub fitted_depth : (k : ℕ) (e : Formula) → depth_of (fitted k e) ≡ depth_of e
fitted_depth k e = go (formula_has_constant k e) refl
  where
    go : (b : Bool) → formula_has_constant k e ≡ b → depth_of (fitted k e) ≡ depth_of e
    go true is = ap (λ b. depth_of (cond b e (narrow k e))) is
    go false is = ap (λ b. depth_of (cond b e (narrow k e))) is ∙ same_depth k e

-- pieces with constants are those of a function as they are
affine_fits : (k : ℕ) (ps : List Piece) → 1 ≤ k → k ≤ 8 → AreKeptPieces k ps → list_any (piece_has_constant k) ps ≡ true → IsFitting k (ByPieces ps)
affine_fits k ps some few kept affine = record {
  some = some;
  few = few;
  forms = subst (λ n. All (IsPieceOver n) ps) (sym (columns_at k (ByPieces ps) true affine)) kept.over;
  limits = kept.few;
}

-- and without constants they are without their column
pub narrow_fits : (k : ℕ) (ps : List Piece) → 1 ≤ k → k ≤ 8 → AreKeptPieces k ps → IsFitting k (ByPieces (map (narrow_piece k) ps))
narrow_fits k ps some few kept = record {
  some = some;
  few = few;
  forms = subst (λ n. All (IsPieceOver n) (map (narrow_piece k) ps)) (sym (columns_at k (ByPieces (map (narrow_piece k) ps)) false (pieces_linear k ps kept.over)))
      (All-map (IsPieceOver k) (narrow_piece k) ps (λ i d within. piece_over k (get_or ps i d) (kept.over i d within)));
  limits = few_pieces k ps kept.few;
}

-- with the columns that they need they are those of a function
pub kept_fits : (k : ℕ) (ps : List Piece) → 1 ≤ k → k ≤ 8 → AreKeptPieces k ps → IsFitting k (ByPieces (kept_columns k ps))
kept_fits k ps some few kept = go (list_any (piece_has_constant k) ps) refl
  where
    go : (b : Bool) → list_any (piece_has_constant k) ps ≡ b → IsFitting k (ByPieces (kept_columns k ps))
    go true e = subst (λ qs. IsFitting k (ByPieces qs)) (sym (ap (λ b. cond b ps (map (narrow_piece k) ps)) e)) (affine_fits k ps some few kept e)
    go false e = subst (λ qs. IsFitting k (ByPieces qs)) (sym (ap (λ b. cond b ps (map (narrow_piece k) ps)) e)) (narrow_fits k ps some few kept)

-- direct forms
forms_linear : (k : ℕ) (fs : List (List ℚ)) → All (λ f. length f ≡ k) fs → is_affine k (ByLeast fs) ≡ false
forms_linear k fs long =
    list_any_none (has_constant k) fs (λ i d within.
    ap (λ q. not (is_zero_ℚ q)) (get_or_past (get_or fs i d) k 0ℚ (omega (arith, long i d within))) ∙ ap not (is_zero_ℚ-zero 0ℚ refl))

pub forms_fit : (k : ℕ) (fs : List (List ℚ)) → 1 ≤ k → k ≤ 8 → AreKeptForms k fs → IsFitting k (ByLeast fs)
forms_fit k fs some few kept = record {
  some = some;
  few = few;
  forms = subst (λ n. All (λ f. length f ≡ n) fs) (sym (columns_at k (ByLeast fs) false (forms_linear k fs kept.over))) kept.over;
  limits = (kept.few, forms_linear k fs kept.over);
}
