-- Forms, formulas and pieces are printed with a constant, which is 0 where they have no column for it. What is read back has the columns
-- that it had.
use Rattle.std.proofs.Common.{◌≡◌, ℕ, suc, ◌+◌, ◌≤◌, Bool, true, false, not, cond, ◌||◌, List, [], ◌∷◌, length, take, map, refl, sym, ap, ap₂, ◌∙◌, subst, arith, take_all, take_at}
use Rattle.std.proofs.lemmas.List.{take_more, length-take-le, get_or_push}
use Rattle.std.specs.Prelude.{All}
use Rattle.std.specs.List.{list_any}
use Rattle.crn_fraction.specs.Rational.{ℚ, 0ℚ, is_zero_ℚ}
use Rattle.crn_linear.specs.Forms.{entry_of}
use Rattle.crn_formula.specs.Formulas.{Formula, Lin, Add, Sub, Scale, Min, Max, IsOver, node_count, has_constant, formula_has_constant}
use Rattle.crn_formula.specs.Pieces.{Piece}
use Rattle.crn_formula.specs.Functions.{ByFormula, ByPieces, columns, IsPieceOver, piece_has_constant}
use Rattle.crn_form_text.specs.Grammar.{narrow}
use Rattle.crn_form_text.specs.Built.{fitted}
use Rattle.crn_form_text.specs.Printing.{with_constant, with_constants, HasColumnsFor}
use Rattle.crn_function_text.specs.Columns.{narrow_piece, kept_columns}

-- ---- forms
whole_form : (k : ℕ) (form : List ℚ) → length form ≡ k + 1 → with_constant k form ≡ form
whole_form k form long = sym (take_more form k 0ℚ (omega (arith, long))) ∙ take_all (k + 1) form (omega (arith, long))

front_form : (k : ℕ) (form : List ℚ) → length form ≡ k → take k (with_constant k form) ≡ form
front_form k form long = take_at (take k form) (entry_of form k ∷ []) k (length-take-le k form (omega (arith, long))) ∙ take_all k form (omega (arith, long))

same_constant : (k : ℕ) (form : List ℚ) → k ≤ length form → has_constant k (with_constant k form) ≡ has_constant k form
same_constant k form long = ap (λ q. not (is_zero_ℚ q)) (get_or_push (take k form) (entry_of form k) 0ℚ k (length-take-le k form long))

-- ---- formulas
pub columns_for : (k n : ℕ) (e : Formula) → k ≤ n → IsOver n e → HasColumnsFor k e
columns_for k n (Lin form) less over = omega (arith, less, over)
columns_for k n (Add a b) less over = (columns_for k n a less over.0, columns_for k n b less over.1)
columns_for k n (Sub a b) less over = (columns_for k n a less over.0, columns_for k n b less over.1)
columns_for k n (Scale q a) less over = columns_for k n a less over
columns_for k n (Min a b) less over = (columns_for k n a less over.0, columns_for k n b less over.1)
columns_for k n (Max a b) less over = (columns_for k n a less over.0, columns_for k n b less over.1)

whole_formula : (k : ℕ) (e : Formula) → IsOver (k + 1) e → with_constants k e ≡ e
whole_formula k (Lin form) over = ap (λ f. Lin f) (whole_form k form over)
whole_formula k (Add a b) over = ap₂ (λ x y. Add x y) (whole_formula k a over.0) (whole_formula k b over.1)
whole_formula k (Sub a b) over = ap₂ (λ x y. Sub x y) (whole_formula k a over.0) (whole_formula k b over.1)
whole_formula k (Scale q a) over = ap (λ x. Scale q x) (whole_formula k a over)
whole_formula k (Min a b) over = ap₂ (λ x y. Min x y) (whole_formula k a over.0) (whole_formula k b over.1)
whole_formula k (Max a b) over = ap₂ (λ x y. Max x y) (whole_formula k a over.0) (whole_formula k b over.1)

front_formula : (k : ℕ) (e : Formula) → IsOver k e → narrow k (with_constants k e) ≡ e
front_formula k (Lin form) over = ap (λ f. Lin f) (front_form k form over)
front_formula k (Add a b) over = ap₂ (λ x y. Add x y) (front_formula k a over.0) (front_formula k b over.1)
front_formula k (Sub a b) over = ap₂ (λ x y. Sub x y) (front_formula k a over.0) (front_formula k b over.1)
front_formula k (Scale q a) over = ap (λ x. Scale q x) (front_formula k a over)
front_formula k (Min a b) over = ap₂ (λ x y. Min x y) (front_formula k a over.0) (front_formula k b over.1)
front_formula k (Max a b) over = ap₂ (λ x y. Max x y) (front_formula k a over.0) (front_formula k b over.1)

same_constants : (k : ℕ) (e : Formula) → HasColumnsFor k e → formula_has_constant k (with_constants k e) ≡ formula_has_constant k e
same_constants k (Lin form) long = same_constant k form long
same_constants k (Add a b) long = ap₂ (λ x y. x || y) (same_constants k a long.0) (same_constants k b long.1)
same_constants k (Sub a b) long = ap₂ (λ x y. x || y) (same_constants k a long.0) (same_constants k b long.1)
same_constants k (Scale q a) long = same_constants k a long
same_constants k (Min a b) long = ap₂ (λ x y. x || y) (same_constants k a long.0) (same_constants k b long.1)
same_constants k (Max a b) long = ap₂ (λ x y. x || y) (same_constants k a long.0) (same_constants k b long.1)

pub constants_nodes : (k : ℕ) (e : Formula) → node_count (with_constants k e) ≡ node_count e
constants_nodes k (Lin form) = refl
constants_nodes k (Add a b) = ap₂ (λ m n. 1 + (m + n)) (constants_nodes k a) (constants_nodes k b)
constants_nodes k (Sub a b) = ap₂ (λ m n. 1 + (m + n)) (constants_nodes k a) (constants_nodes k b)
constants_nodes k (Scale q a) = ap (λ m. 1 + m) (constants_nodes k a)
constants_nodes k (Min a b) = ap₂ (λ m n. 1 + (m + n)) (constants_nodes k a) (constants_nodes k b)
constants_nodes k (Max a b) = ap₂ (λ m n. 1 + (m + n)) (constants_nodes k a) (constants_nodes k b)

pub columns_least : (k : ℕ) (b : Bool) → k ≤ cond b (k + 1) k
columns_least k true = omega arith
columns_least k false = omega arith

-- a formula is read back with its columns
pub formula_back : (k : ℕ) (e : Formula) → IsOver (columns k (ByFormula e)) e → fitted k (with_constants k e) ≡ e
formula_back k e over = go (formula_has_constant k e) refl over
  where
    same : formula_has_constant k (with_constants k e) ≡ formula_has_constant k e
    same = same_constants k e (columns_for k (columns k (ByFormula e)) e (columns_least k (formula_has_constant k e)) over)

    go : (b : Bool) → formula_has_constant k e ≡ b → IsOver (cond (formula_has_constant k e) (k + 1) k) e → fitted k (with_constants k e) ≡ e
    go true is wide =
        ap (λ b. cond b (with_constants k e) (narrow k (with_constants k e))) (same ∙ is)
        ∙ whole_formula k e (subst (λ b. IsOver (cond b (k + 1) k) e) is wide)
    go false is wide =
        ap (λ b. cond b (with_constants k e) (narrow k (with_constants k e))) (same ∙ is)
        ∙ front_formula k e (subst (λ b. IsOver (cond b (k + 1) k) e) is wide)

-- ---- lists
first_of_all : {X : Type 0} (P : X → Type 0) (x : X) (xs : List X) → All P (x ∷ xs) → P x
first_of_all P x xs all = all 0 x (omega arith)

rest_of_all : {X : Type 0} (P : X → Type 0) (x : X) (xs : List X) → All P (x ∷ xs) → All P xs
rest_of_all P x xs all = λ i d within. all (suc i) d (omega (arith, within))

each_back : {X : Type 0} (f : X → X) (P : X → Type 0) (xs : List X) → ((x : X) → P x → f x ≡ x) → All P xs → map f xs ≡ xs
each_back f P [] back all = refl
each_back f P (x ∷ xs) back all = ap₂ (λ y ys. y ∷ ys) (back x (first_of_all P x xs all)) (each_back f P xs back (rest_of_all P x xs all))

each_front : {X : Type 0} (f g : X → X) (P : X → Type 0) (xs : List X) → ((x : X) → P x → g (f x) ≡ x) → All P xs → map g (map f xs) ≡ xs
each_front f g P [] back all = refl
each_front f g P (x ∷ xs) back all = ap₂ (λ y ys. y ∷ ys) (back x (first_of_all P x xs all)) (each_front f g P xs back (rest_of_all P x xs all))

any_same : {X : Type 0} (f : X → X) (test : X → Bool) (P : X → Type 0) (xs : List X) → ((x : X) → P x → test (f x) ≡ test x) → All P xs → list_any test (map f xs) ≡ list_any test xs
any_same f test P [] same all = refl
any_same f test P (x ∷ xs) same all = ap₂ (λ a b. a || b) (same x (first_of_all P x xs all)) (any_same f test P xs same (rest_of_all P x xs all))

-- ---- pieces
-- the piece with its constants
abbrev pub with_piece : ℕ → Piece → Piece
with_piece k p = record { conditions = map (with_constant k) p.conditions; form = with_constant k p.form }

whole_piece : (k : ℕ) (p : Piece) → IsPieceOver (k + 1) p → with_piece k p ≡ p
whole_piece k p over = ap₂ (λ (cs : List (List ℚ)) (f : List ℚ). let q : Piece = record { conditions = cs; form = f } in q) (each_back (with_constant k) (λ c. length c ≡ k + 1) p.conditions (whole_form k) over.conditions) (whole_form k p.form over.form)

front_piece : (k : ℕ) (p : Piece) → IsPieceOver k p → narrow_piece k (with_piece k p) ≡ p
front_piece k p over = ap₂ (λ (cs : List (List ℚ)) (f : List ℚ). let q : Piece = record { conditions = cs; form = f } in q) (each_front (with_constant k) (take k) (λ c. length c ≡ k) p.conditions (front_form k) over.conditions) (front_form k p.form over.form)

same_piece : (k n : ℕ) (p : Piece) → k ≤ n → IsPieceOver n p → piece_has_constant k (with_piece k p) ≡ piece_has_constant k p
same_piece k n p less over =
    ap₂ (λ a b. a || b) (same_constant k p.form (omega (arith, less, over.form)))
    (any_same (with_constant k) (has_constant k) (λ c. length c ≡ n) p.conditions (λ c long. same_constant k c (omega (arith, less, long))) over.conditions)

-- pieces are read back with their columns
pub pieces_back : (k : ℕ) (ps : List Piece) → All (IsPieceOver (columns k (ByPieces ps))) ps → kept_columns k (map (with_piece k) ps) ≡ ps
pieces_back k ps over = go (list_any (piece_has_constant k) ps) refl over
  where
    same : list_any (piece_has_constant k) (map (with_piece k) ps) ≡ list_any (piece_has_constant k) ps
    same = any_same (with_piece k) (piece_has_constant k) (IsPieceOver (columns k (ByPieces ps))) ps (λ p wide. same_piece k (columns k (ByPieces ps)) p (columns_least k (list_any (piece_has_constant k) ps)) wide) over

    go : (b : Bool) → list_any (piece_has_constant k) ps ≡ b → All (IsPieceOver (cond (list_any (piece_has_constant k) ps) (k + 1) k)) ps → kept_columns k (map (with_piece k) ps) ≡ ps
    go true is wide =
        ap (λ b. cond b (map (with_piece k) ps) (map (narrow_piece k) (map (with_piece k) ps))) (same ∙ is)
        ∙ each_back (with_piece k) (IsPieceOver (k + 1)) ps (whole_piece k) (subst (λ b. All (IsPieceOver (cond b (k + 1) k)) ps) is wide)
    go false is wide =
        ap (λ b. cond b (map (with_piece k) ps) (map (narrow_piece k) (map (with_piece k) ps))) (same ∙ is)
        ∙ each_front (with_piece k) (narrow_piece k) (IsPieceOver k) ps (front_piece k) (subst (λ b. All (IsPieceOver (cond b (k + 1) k)) ps) is wide)
