-- One more condition, and one more piece.
use Rattle.std.proofs.Common.{◌≡◌, ◌↔◌, ◌<◌, List, [], ◌∷◌, length, get_or, drop, true, false, ◌&&◌, cond, not, true≢false, sym, ◌∙◌, ap, arith}
use Rattle.std.specs.Prelude.{Some, Result, Ok, Err, OkIff, All}
use Rattle.std.specs.List.{fold}
use Rattle.std.proofs.lemmas.List.Elements.{All-cons, All-tail}
use Rattle.crn_fraction.specs.Rational.{ℚ, min_ℚ}
use Rattle.crn_linear.specs.Forms.{at, IsValueInReach}
use Rattle.crn_formula.specs.Pieces.{Piece, is_negative, all_hold, AreConditionsInReach, pieces_value, ArePiecesInReach}
use Rattle.crn_formula.specs.Functions.{least_value}

-- the conditions from here on decide
pub record DecideFrom (all rest : List (List ℚ)) (x : List ℚ) : Type 0 where
  pub hold : all_hold rest x ≡ all_hold all x
  pub reach : AreConditionsInReach rest x ↔ AreConditionsInReach all x

module _ (all : List (List ℚ)) (c : List ℚ) (rest : List (List ℚ)) (x : List ℚ) (d : DecideFrom all (c ∷ rest) x) where
  -- one that is at least 0 is passed over
  pub condition_passed : IsValueInReach c x → is_negative (at c x) ≡ false → DecideFrom all rest x
  condition_passed r e = record {
    hold = sym (ap (λ b. not b && all_hold rest x) e) ∙ d.hold;
    reach = (λ h. d.reach.0 (r, λ _. h), λ h. (d.reach.1 h).1 e);
  }

  -- a negative one settles it
  pub condition_fails : IsValueInReach c x → is_negative (at c x) ≡ true → AreConditionsInReach all x × (false ≡ all_hold all x)
  condition_fails r e = (
    d.reach.0 (r, λ f. absurd (true≢false (sym e ∙ f))),
    sym (ap (λ b. not b && all_hold rest x) e) ∙ d.hold,
  )

-- the pieces from here on decide
pub record ValueFrom (all rest : List Piece) (x : List ℚ) : Type 0 where
  pub value : pieces_value rest x ≡ pieces_value all x
  pub reach : ArePiecesInReach rest x ↔ ArePiecesInReach all x

module _ (all : List Piece) (p : Piece) (rest : List Piece) (x : List ℚ) (d : ValueFrom all (p ∷ rest) x) where
  -- one that does not hold is passed over
  pub piece_passed : AreConditionsInReach p.conditions x → all_hold p.conditions x ≡ false → ValueFrom all rest x
  piece_passed r e = record {
    value = sym (ap (λ b. cond b (Some (at p.form x)) (pieces_value rest x)) e) ∙ d.value;
    reach = (λ h. d.reach.0 (r, λ t. absurd (true≢false (sym t ∙ e)), λ _. h), λ h. (d.reach.1 h).2 e);
  }

  -- the first that holds has the value
  pub piece_holds : all_hold p.conditions x ≡ true → Some (at p.form x) ≡ pieces_value all x
  piece_holds e = sym (ap (λ b. cond b (Some (at p.form x)) (pieces_value rest x)) e) ∙ d.value

  -- and is formed where its form's value is
  pub piece_reached : AreConditionsInReach p.conditions x → all_hold p.conditions x ≡ true → IsValueInReach p.form x → ArePiecesInReach all x
  piece_reached r e f = d.reach.0 (r, λ _. f, λ t. absurd (true≢false (sym e ∙ t)))

-- an answer under a condition that says the same, with a value that is the same
pub same_answer : {E V P Q : Type 0} (r : Result V E) (v w : V) → (P ↔ Q) → v ≡ w → OkIff r P v → OkIff r Q w
same_answer (Ok x) v w s e (p, q) = (s.0 p, q ∙ e)
same_answer (Err x) v w s e n = λ q. n (s.1 q)

-- the least of the first value and of those of the other forms
pub least_from : {E : Type 0} (r : Result ℚ E) (forms : List (List ℚ)) (x : List ℚ) (first : ℚ) → 0 < length forms
    → IsValueInReach (get_or forms 0 []) x → first ≡ at (get_or forms 0 []) x
    → OkIff r (All (λ f. IsValueInReach f x) (drop 1 forms)) (fold (λ m f. min_ℚ m (at f x)) first (drop 1 forms))
    → OkIff r (All (λ f. IsValueInReach f x) forms) (least_value forms x)
least_from r [] x first h k e o = absurd (omega (arith, h))
least_from r (f ∷ fs) x first h k e o =
    let P : List ℚ → Type 0 = λ g. IsValueInReach g x in
    same_answer r _ _ (λ a. All-cons P f fs k a, λ a. All-tail P f fs a) (ap (λ m. fold (λ m g. min_ℚ m (at g x)) m fs) e) o
