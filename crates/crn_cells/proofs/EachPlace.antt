-- The orders of one form more, place by place: those that come from the first of some orders, and from the next one by the first places.
use Rattle.std.proofs.Common.{◌≡◌, ℕ, suc, ◌<◌, ◌≤◌, ◌+◌, List, [], ◌∷◌, ◌++◌, length, take, get_or, sym, ap, ◌∙◌, arith, ◌⊎◌, inl, inr, ⊎_elim, subst}
use Rattle.std.specs.Prelude.{◌≢◌, ◌↔◌, Contains}
use Rattle.std.proofs.lemmas.Bool.{cases_eq}
use Rattle.std.proofs.lemmas.List.{take_more, get_or-take, length-take-le}
use Rattle.std.proofs.lemmas.List.Elements.{Contains-push_cases, Contains-append_left, Contains-push}
use Rattle.crn_fraction.specs.Rational.{ℚ}
use Rattle.crn_formula.specs.Pieces.{Domain}
use Rattle.crn_cells.specs.Cells.{IsMet}
use Rattle.crn_cells.specs.Insertion.{restricted, put_in, AreOrders, ComesFrom}
use Rattle.crn_cells.proofs.Members.{Has, Has-All}
use Rattle.crn_cells.proofs.Insertions.{place-once, restricted-put_in, came_from}
use Rattle.crn_cells.proofs.Orders.{get_or_any}

-- the order with the next form at one of the first places
abbrev pub ComesBy : (places m : ℕ) → (order o : List ℕ) → Type 0
ComesBy places m order o = (place : ℕ) × (place < places) × (o ≡ put_in place m order)

-- the orders that come from the first i of some orders, or from the next one by one of the first places
abbrev pub Upto : (m : ℕ) → List (List ℕ) → (i places : ℕ) → List ℕ → Type 0
Upto m orders i places o = ComesFrom m (take i orders) o ⊎ ComesBy places m (get_or orders i []) o

module _ (domain : Domain) (forms : List (List ℚ)) (m : ℕ) (orders : List (List ℕ)) (all : AreOrders domain forms m orders) where
  module _ (i : ℕ) (l : i < length orders) where
    abbrev order : List ℕ
    order = get_or orders i []

    order_met : IsMet domain forms m order
    order_met = (all.each i [] l).0

    below : (j : ℕ) → Has j order → j < m
    below j h = Has-All (λ j. j < m) j order order_met.1.names.below h

    -- the next order has not been reached by fewer places
    pub fresh : (k : ℕ) → k ≤ length order → ¬ Upto m orders i k (put_in k m order)
    fresh k w u =
        ⊎_elim
        (λ (c : ComesFrom m (take i orders) (put_in k m order)).
        let d : Contains (take i orders) order = subst (Contains (take i orders)) (restricted-put_in m k order below) c in
        let s : d.0 < i = omega (arith, d.1, length-take-le i orders (omega (arith, l))) in
        let e : get_or orders d.0 order ≡ order = sym (get_or-take i orders d.0 order s) ∙ d.2 in
        let f : get_or orders i order ≡ order = get_or_any orders i order [] l in
        all.once d.0 i order s l (e ∙ sym f))
        (λ (c : ComesBy k m order (put_in k m order)).
        let e : k ≡ c.0 = place-once m k c.0 order below w (omega (arith, w, c.1)) c.2 in
        omega (arith, e, c.1))
        u

    pub upto_more : (k : ℕ) (o : List ℕ) → (Upto m orders i k o ⊎ (o ≡ put_in k m order)) ↔ Upto m orders i (k + 1) o
    upto_more k o = (
      λ u. ⊎_elim
          (λ (v : Upto m orders i k o). ⊎_elim (λ (c : ComesFrom m (take i orders) o). inl c) (λ (c : ComesBy k m order o). inr (c.0, omega (arith, c.1), c.2)) v)
          (λ (e : o ≡ put_in k m order). inr (k, omega arith, e)) u,
      λ u. ⊎_elim (λ (c : ComesFrom m (take i orders) o). inl (inl c))
          (λ (c : ComesBy (k + 1) m order o). ⊎_elim
          (λ (e : c.0 ≡ k). inr (subst (λ j. o ≡ put_in j m order) e c.2)) (λ (n : c.0 ≢ k). inl (inr (c.0, omega (arith, c.1, n), c.2))) (cases_eq c.0 k)) u,
    )

    pub upto_begin : (o : List ℕ) → ComesFrom m (take i orders) o ↔ Upto m orders i 0 o
    upto_begin o = (λ c. inl c, λ u. ⊎_elim (λ c. c) (λ (c : ComesBy 0 m order o). absurd (omega (arith, c.1))) u)

    pub upto_end : (k : ℕ) → k ≡ length order + 1 → (o : List ℕ) → IsMet domain forms (suc m) o → Upto m orders i k o ↔ ComesFrom m (take (i + 1) orders) o
    upto_end k e o met =
        let more : take (i + 1) orders ≡ take i orders ++ order ∷ [] = take_more orders i [] l in (
          λ u. subst (λ os. ComesFrom m os o) (sym more)
              (⊎_elim (λ (c : ComesFrom m (take i orders) o). Contains-append_left (take i orders) (order ∷ []) (restricted m o) c)
              (λ (c : ComesBy k m order o).
              subst (Contains (take i orders ++ order ∷ [])) (sym (ap (restricted m) c.2 ∙ restricted-put_in m c.0 order below)) (Contains-push (take i orders) order)) u),
          λ c. ⊎_elim (λ (d : Contains (take i orders) (restricted m o)). inl d)
              (λ (s : order ≡ restricted m o).
              let f = (came_from domain forms m o met.0 met.1).1 in
              let w : f.0 ≤ length order = subst (λ t. f.0 ≤ length t) (sym s) f.1 in
              inr (f.0, omega (arith, w, e), f.2 ∙ ap (put_in f.0 m) (sym s)))
              (Contains-push_cases (take i orders) order (restricted m o) (subst (λ os. ComesFrom m os o) more c)),
        )
