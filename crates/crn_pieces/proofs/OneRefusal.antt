-- The first that fails is one, and what the refusals of pieces exclude.
use Rattle.std.proofs.Common.{◌≡◌, ℕ, zero, suc, ◌+◌, ◌≤◌, List, [], ◌∷◌, ◌++◌, length, refl, sym, ap, ◌∙◌, subst, arith}
use Rattle.std.specs.Prelude.{ℤ, All, Contains}
use Rattle.std.proofs.lemmas.List.Elements.{All-head, All-tail, All-contains, Contains-append_right, Contains-get_or}
use Rattle.crn_formula.specs.Pieces.{Piece, Domain, Covers, Agree}
use Rattle.crn_pieces.specs.Pairs.{pairs_of, no_piece, piece_at, IsFirstWithout, IsFirstNumber}
use Rattle.crn_pieces.specs.Answers.{Clears, DoConditionsClear, IsFirstBigCondition, IsDisagreement, IsGap}
use Rattle.crn_pieces.proofs.Lists.{first}
use Rattle.crn_pieces.proofs.PairLaws.{IsPairWithin, pairs_within}

-- ---- the first in a list that fails
module _ {X : Type 0} (P : X → Type 0) where
  same_first : (a b c d : List X) (x y : X) → a ++ x ∷ b ≡ c ++ y ∷ d → All P a → ¬ P x → All P c → ¬ P y → (length a ≡ length c) × (x ≡ y)
  same_first [] b [] d x y e p u q v = (refl, cc e)
  same_first [] b (z ∷ c) d x y e p u q v = absurd (u (let s : z ≡ x = cc e in subst P s (All-head P z c q)))
  same_first (w ∷ a) b [] d x y e p u q v = absurd (v (let s : w ≡ y = cc e in subst P s (All-head P w a p)))
  same_first (w ∷ a) b (z ∷ c) d x y e p u q v =
      let s : a ++ x ∷ b ≡ c ++ y ∷ d = cc e in
      let r = same_first a b c d x y s (All-tail P w a p) u (All-tail P z c q) v in
      (ap suc r.0, r.1)

  pub one_first : (xs : List X) (x y : X) → IsFirstWithout P xs x → IsFirstWithout P xs y → x ≡ y
  one_first xs x y f g = (same_first f.before f.behind g.before g.behind x y (sym f.place ∙ g.place) f.earlier f.without g.earlier g.without).1

  -- and so is its number
  pub one_number : (xs : List X) (m n : ℕ) (x y : X) → IsFirstNumber P xs m x → IsFirstNumber P xs n y → (m ≡ n) × (x ≡ y)
  one_number xs m n x y f g =
      let a = f.first in
      let b = g.first in
      let r = same_first a.before a.behind b.before b.behind x y (sym a.place ∙ b.place) a.earlier a.without b.earlier b.without in
      (f.number ∙ ap (λ k. k + 1) r.0 ∙ sym g.number, r.1)

-- the first condition that does not clear is one
pub one_big_condition : (pieces : List Piece) (i j c d : ℕ) → IsFirstBigCondition pieces i c → IsFirstBigCondition pieces j d → (i ≡ j) × (c ≡ d)
one_big_condition pieces i j c d f g =
    let p = one_number DoConditionsClear pieces i j f.piece g.piece f.in_pieces g.in_pieces in
    let there = subst (λ (q : Piece). IsFirstNumber Clears q.conditions c f.condition) p.1 f.in_piece in
    (p.0, (one_number Clears g.piece.conditions c d f.condition g.condition there g.in_piece).0)

-- ---- what a refusal excludes
piece_in : (pieces : List Piece) (k : ℕ) → 1 ≤ k → k ≤ length pieces → Contains pieces (piece_at pieces k)
piece_in pieces zero h l = absurd (omega (arith, h))
piece_in pieces (suc i) h l = Contains-get_or pieces i no_piece (omega (arith, l))

-- pieces that disagree at a point do not agree
pub disagreement_excludes : (domain : Domain) (pieces : List Piece) (i j : ℕ) (p : List ℤ) → IsDisagreement domain pieces i j p → ¬ Agree domain pieces
disagreement_excludes domain pieces i j p h agree =
    let f = h.first in
    let pairs = pairs_of (length pieces) in
    let here : Contains (f.before ++ (i, j) ∷ f.behind) (i, j) = Contains-append_right f.before ((i, j) ∷ f.behind) (i, j) (first (i, j) f.behind (i, j) refl) in
    let w = All-contains (IsPairWithin 1 (1 + length pieces)) pairs (i, j) (pairs_within 1 (length pieces)) (subst (λ (qs : List (ℕ × ℕ)). Contains qs (i, j)) (sym f.place) here) in
    let a = piece_in pieces i w.0 (omega (arith, w.1, w.2)) in
    let b = piece_in pieces j (omega (arith, w.0, w.1)) (omega (arith, w.2)) in
    let d = h.differ in
    d.differ (agree.agree p d.is_in (piece_at pieces i) (piece_at pieces j) a b d.first d.second)

-- a gap is not covered
pub gap_excludes : (domain : Domain) (pieces : List Piece) (p : List ℤ) → IsGap domain pieces p → ¬ Covers domain pieces
gap_excludes domain pieces p gap covers =
    let c = covers.covers p gap.is_in in
    gap.outside c.0 c.1 c.2
