-- The first piece that holds, and the least value of forms.
use Rattle.std.proofs.Common.{◌≡◌, ◌↔◌, ◌⊎◌, inl, inr, ⊎_elim, zero, suc, List, [], ◌∷◌, Bool, true, false, cond, not, true≢false, refl, sym, ap, ◌∙◌, subst, arith}
use Rattle.std.specs.Prelude.{Some, None, IsTrue, All, Any, Contains}
use Rattle.std.specs.List.{fold}
use Rattle.std.proofs.lemmas.List.Sums.{AllPass-from_list_all, list_all-from_AllPass}
use Rattle.std.proofs.lemmas.List.Elements.{All-nil, All-cons, All-head, All-tail}
use Rattle.std.proofs.lemmas.Bool.{not-true}
use Rattle.crn_fraction.specs.Rational.{ℚ, ◌≤ℚ◌, min_ℚ}
use Rattle.crn_fraction.proofs.Order.{≤ℚ_refl, min_ℚ_cases}
use Rattle.crn_fraction.proofs.Linear.{≤ℚ_trans, min_ℚ-below_left, min_ℚ-below_right}
use Rattle.crn_linear.specs.Forms.{at}
use Rattle.crn_formula.specs.Pieces.{Piece, Holds, is_negative, all_hold, pieces_value, HaveOneValue}
use Rattle.crn_formula.specs.Functions.{least_value}
use Rattle.crn_formula.proofs.Numbers.{nonneg_test}

-- the test says that the piece holds
pub holds : (piece : Piece) (x : List ℚ) → IsTrue (all_hold piece.conditions x) ↔ Holds piece x
holds piece x = (
  λ e k d l. (nonneg_test _).0 (not-true _ (AllPass-from_list_all (λ c. not (is_negative (at c x))) piece.conditions e k d l)),
  λ h. list_all-from_AllPass (λ c. not (is_negative (at c x))) piece.conditions (λ k d l. ap not ((nonneg_test _).1 (h k d l))),
)

-- the piece holds, and the test says so, or it does not
holds_cases : (piece : Piece) (x : List ℚ) → (Holds piece x × (all_hold piece.conditions x ≡ true)) ⊎ ((¬ Holds piece x) × (all_hold piece.conditions x ≡ false))
holds_cases piece x = by (all_hold piece.conditions x) refl
  where
    by : (b : Bool) → all_hold piece.conditions x ≡ b → (Holds piece x × (all_hold piece.conditions x ≡ true)) ⊎ ((¬ Holds piece x) × (all_hold piece.conditions x ≡ false))
    by true e = inl ((holds piece x).0 e, e)
    by false e = inr (λ h. true≢false (sym ((holds piece x).1 h) ∙ e), e)

Some_not_None : {X : Type 0} (v : X) → Some v ≡ None → ⊥
Some_not_None v e = cc

value_here : (p : Piece) (ps : List Piece) (x : List ℚ) → all_hold p.conditions x ≡ true → pieces_value (p ∷ ps) x ≡ Some (at p.form x)
value_here p ps x e = ap (λ b. cond b (Some (at p.form x)) (pieces_value ps x)) e

value_later : (p : Piece) (ps : List Piece) (x : List ℚ) → all_hold p.conditions x ≡ false → pieces_value (p ∷ ps) x ≡ pieces_value ps x
value_later p ps x e = ap (λ b. cond b (Some (at p.form x)) (pieces_value ps x)) e

-- there is no value exactly where no piece holds
pub no_value : (pieces : List Piece) (x : List ℚ) → (pieces_value pieces x ≡ None) ↔ All (λ p. ¬ Holds p x) pieces
no_value [] x = (λ e. All-nil (λ p. ¬ Holds p x), λ h. refl)
no_value (p ∷ ps) x =
    let P : Piece → Type 0 = λ q. ¬ Holds q x in
    ⊎_elim
    (λ y. (λ e. absurd (Some_not_None (at p.form x) (sym (value_here p ps x y.1) ∙ e)), λ h. absurd (All-head P p ps h y.0)))
    (λ n. (λ e. All-cons P p ps n.0 ((no_value ps x).0 (sym (value_later p ps x n.1) ∙ e)), λ h. value_later p ps x n.1 ∙ (no_value ps x).1 (All-tail P p ps h)))
    (holds_cases p x)

Contains-head : {X : Type 0} (x : X) (xs : List X) → Contains (x ∷ xs) x
Contains-head x xs = (0, omega arith, refl)

Contains-tail : {X : Type 0} (x y : X) (xs : List X) → Contains xs y → Contains (x ∷ xs) y
Contains-tail x y xs h = (suc h.0, omega (arith, h.1), h.2)

-- it is the head, or one of the rest
pub Contains-cases : {X : Type 0} (x y : X) (xs : List X) → Contains (x ∷ xs) y → (x ≡ y) ⊎ Contains xs y
Contains-cases x y xs (zero, l, e) = inl e
Contains-cases x y xs (suc k, l, e) = inr (k, omega (arith, l), e)

-- where the pieces that hold have one value, that is the value
pub one_of : (pieces : List Piece) (x : List ℚ) (piece : Piece) → HaveOneValue pieces x → Contains pieces piece → Holds piece x → pieces_value pieces x ≡ Some (at piece.form x)
one_of [] x piece one has h = absurd (omega (arith, has.1))
one_of (p ∷ ps) x piece one has h =
    ⊎_elim
    (λ y. value_here p ps x y.1 ∙ ap Some (one p piece (Contains-head p ps) has y.0 h))
    (λ n. ⊎_elim (λ e. absurd (n.0 (subst (λ q. Holds q x) (sym e) h)))
    (λ later. value_later p ps x n.1 ∙ one_of ps x piece (λ a b ha hb. one a b (Contains-tail p a ps ha) (Contains-tail p b ps hb)) later h)
    (Contains-cases p piece ps has))
    (holds_cases p x)

-- ---- the least
module _ (x : List ℚ) where
  abbrev least : ℚ → List (List ℚ) → ℚ
  least m forms = fold (λ m f. min_ℚ m (at f x)) m forms

  least_le : (m : ℚ) (forms : List (List ℚ)) → least m forms ≤ℚ m
  least_le m [] = ≤ℚ_refl m
  least_le m (f ∷ fs) = ≤ℚ_trans _ _ _ (least_le (min_ℚ m (at f x)) fs) (min_ℚ-below_left m (at f x))

  least_below : (m : ℚ) (forms : List (List ℚ)) → All (λ f. least m forms ≤ℚ at f x) forms
  least_below m [] = All-nil (λ f. m ≤ℚ at f x)
  least_below m (f ∷ fs) =
      let n = min_ℚ m (at f x) in
      All-cons (λ g. least n fs ≤ℚ at g x) f fs (≤ℚ_trans _ _ _ (least_le n fs) (min_ℚ-below_right m (at f x))) (least_below n fs)

  -- at most each of the values
  pub below_all : (form : List ℚ) (forms : List (List ℚ)) → All (λ f. least_value (form ∷ forms) x ≤ℚ at f x) (form ∷ forms)
  below_all form forms = All-cons (λ g. least (at form x) forms ≤ℚ at g x) form forms (least_le (at form x) forms) (least_below (at form x) forms)

  least_is : (m : ℚ) (forms : List (List ℚ)) → (least m forms ≡ m) ⊎ Any (λ f. at f x ≡ least m forms) forms
  least_is m [] = inl refl
  least_is m (f ∷ fs) =
      let n = min_ℚ m (at f x) in
      ⊎_elim
      (λ e. ⊎_elim (λ l. inl (e ∙ l)) (λ r. inr (0, f, omega arith, refl, sym (e ∙ r))) (min_ℚ_cases m (at f x)))
      (λ a. inr (suc a.0, a.1, omega (arith, a.2), a.3, a.4))
      (least_is n fs)

  -- and one of them
  pub one_of_all : (form : List ℚ) (forms : List (List ℚ)) → Any (λ f. at f x ≡ least_value (form ∷ forms) x) (form ∷ forms)
  one_of_all form forms = ⊎_elim (λ e. (0, form, omega arith, refl, sym e)) (λ a. (suc a.0, a.1, omega (arith, a.2), a.3, a.4)) (least_is (at form x) forms)
