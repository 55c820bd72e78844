-- The cells of one form more that come of a cell, place by place.
use Rattle.std.proofs.Common.{◌≡◌, ℕ, zero, suc, ◌<◌, ◌≤◌, ◌+◌, List, [], ◌∷◌, ◌++◌, length, map, get_or, sym, ap, ◌∙◌, arith, ◌⊎◌, inl, inr, ⊎_elim, subst, Bool, false, true≢false}
use Rattle.std.specs.Prelude.{◌≢◌, ◌↔◌, ◌==◌}
use Rattle.std.proofs.lemmas.Bool.{cases_eq, cases_lt}
use Rattle.std.proofs.lemmas.List.{length-map, map-append}
use Rattle.std.proofs.lemmas.List.Elements.{All-nil, All-push}
use Rattle.crn_fraction.specs.Rational.{ℚ}
use Rattle.crn_formula.specs.Pieces.{Domain}
use Rattle.crn_cells.specs.Cells.{IsMet}
use Rattle.crn_cells.specs.Insertion.{restricted, put_in, AreOrdersWith, ComesBetween, Extends}
use Rattle.crn_cells.specs.Answers.{order_of, IsPartCell, IsInserted, AreExtensions}
use Rattle.crn_cells.specs.declared.Cell.{Cell}
use Rattle.crn_cells.proofs.Members.{Has, Has-All}
use Rattle.crn_cells.proofs.Insertions.{place-once, restricted-put_in, came_from}
use Rattle.crn_cells.proofs.Between.{between}
use Rattle.crn_cells.proofs.OrderSteps.{with_same, with_none, with_refuted, with_push}

pub not_zero : (n : ℕ) (b : Bool) → b ≡ (n == 0) → b ≡ false → 0 < n
not_zero zero b e f = absurd (true≢false (sym e ∙ f))
not_zero (suc n) b e f = omega arith

module _ (domain : Domain) (forms : List (List ℚ)) (cell : Cell) (part : IsPartCell domain forms (length (order_of cell)) cell) where
  abbrev order : List ℕ
  order = order_of cell

  abbrev m : ℕ
  m = length order

  abbrev put : ℕ → List ℕ
  put k = put_in k m order

  abbrev pub Between : (from to : ℕ) → List ℕ → Type 0
  Between from to = ComesBetween from to order

  below : (j : ℕ) → Has j order → j < m
  below j h = Has-All (λ j. j < m) j order part.met.names.below h

  -- ---- one place more
  module _ (P Q : List ℕ → Type 0) (k : ℕ) (same : (o : List ℕ) → (P o ⊎ (o ≡ put k)) ↔ Q o) (found : List Cell) (a : AreExtensions domain forms cell P found) where
    refuted : ¬ IsMet domain forms (suc m) (put k) → AreExtensions domain forms cell Q found
    refuted none = record {
      orders = with_same domain forms (suc m) (λ o. P o ⊎ (o ≡ put k)) Q (map order_of found) (λ o met. same o) (with_refuted domain forms (suc m) P (map order_of found) (put k) none a.orders);
      points = a.points;
    }

    pushed : ¬ P (put k) → (inserted : Cell) → IsInserted domain forms m k cell inserted → AreExtensions domain forms cell Q (found ++ inserted ∷ [])
    pushed new inserted h =
        let met : IsMet domain forms (suc m) (put k) = subst (IsMet domain forms (suc m)) h.is_order (inserted.point, h.part.met) in
        let list : map order_of found ++ put k ∷ [] ≡ map order_of (found ++ inserted ∷ []) =
        ap (λ o. map order_of found ++ o ∷ []) (sym h.is_order) ∙ sym (map-append order_of found (inserted ∷ [])) in
        record {
          orders = subst (AreOrdersWith domain forms (suc m) Q) list
              (with_same domain forms (suc m) (λ o. P o ⊎ (o ≡ put k)) Q (map order_of found ++ put k ∷ []) (λ o met. same o)
              (with_push domain forms (suc m) P (map order_of found) (put k) met new a.orders));
          points = All-push (IsPartCell domain forms (suc m)) found inserted a.points h.part;
        }

  -- ---- upward
  one_above : (from k : ℕ) → from ≤ k → (o : List ℕ) → (Between from k o ⊎ (o ≡ put k)) ↔ Between from (k + 1) o
  one_above from k h o = (
    λ u. ⊎_elim (λ (c : Between from k o). (c.0, c.1, omega (arith, c.2), c.3)) (λ (e : o ≡ put k). (k, h, omega arith, e)) u,
    λ c. ⊎_elim (λ (e : c.0 ≡ k). inr (subst (λ j. o ≡ put j) e c.3)) (λ (n : c.0 ≢ k). inl (c.0, c.1, omega (arith, c.2, n), c.3)) (cases_eq c.0 k),
  )

  pub begin_above : (from : ℕ) → AreExtensions domain forms cell (Between from from) []
  begin_above from = record {
    orders = with_none domain forms (suc m) (Between from from) (λ o c. omega (arith, c.1, c.2));
    points = All-nil (IsPartCell domain forms (suc m));
  }

  pub refuted_above : (from k : ℕ) → from ≤ k → (found : List Cell) → ¬ IsMet domain forms (suc m) (put k) → AreExtensions domain forms cell (Between from k) found
      → AreExtensions domain forms cell (Between from (k + 1)) found
  refuted_above from k h found none a = refuted (Between from k) (Between from (k + 1)) k (one_above from k h) found a none

  pub pushed_above : (from k : ℕ) → from ≤ k → k ≤ m → (found : List Cell) (inserted : Cell) → IsInserted domain forms m k cell inserted → AreExtensions domain forms cell (Between from k) found
      → AreExtensions domain forms cell (Between from (k + 1)) (found ++ inserted ∷ [])
  pushed_above from k h w found inserted is a =
      pushed (Between from k) (Between from (k + 1)) k (one_above from k h) found a
      (λ c. let e : k ≡ c.0 = place-once m k c.0 order below w (omega (arith, c.2, w)) c.3 in omega (arith, e, c.2)) inserted is

  -- ---- downward
  one_below : (k to : ℕ) → k < to → (o : List ℕ) → (Between (k + 1) to o ⊎ (o ≡ put k)) ↔ Between k to o
  one_below k to h o = (
    λ u. ⊎_elim (λ (c : Between (k + 1) to o). (c.0, omega (arith, c.1), c.2, c.3)) (λ (e : o ≡ put k). (k, omega arith, h, e)) u,
    λ c. ⊎_elim (λ (e : c.0 ≡ k). inr (subst (λ j. o ≡ put j) e c.3)) (λ (n : c.0 ≢ k). inl (c.0, omega (arith, c.1, n), c.2, c.3)) (cases_eq c.0 k),
  )

  pub refuted_below : (k : ℕ) → k ≤ m → (found : List Cell) → ¬ IsMet domain forms (suc m) (put k) → AreExtensions domain forms cell (Between (k + 1) (suc m)) found
      → AreExtensions domain forms cell (Between k (suc m)) found
  refuted_below k h found none a = refuted (Between (k + 1) (suc m)) (Between k (suc m)) k (one_below k (suc m) (omega (arith, h))) found a none

  pub pushed_below : (k : ℕ) → k ≤ m → (found : List Cell) (inserted : Cell) → IsInserted domain forms m k cell inserted → AreExtensions domain forms cell (Between (k + 1) (suc m)) found
      → AreExtensions domain forms cell (Between k (suc m)) (found ++ inserted ∷ [])
  pushed_below k h found inserted is a =
      pushed (Between (k + 1) (suc m)) (Between k (suc m)) k (one_below k (suc m) (omega (arith, h))) found a
      (λ c. let e : k ≡ c.0 = place-once m k c.0 order below h (omega (arith, c.2)) c.3 in omega (arith, e, c.1)) inserted is

  -- ---- behind a place that is refuted
  -- the place of one that was found
  a_place : (P : List ℕ → Type 0) (found : List Cell) → AreExtensions domain forms cell P found → 0 < length found → (o : List ℕ) × IsMet domain forms (suc m) o × P o
  a_place P found a some =
      let o = get_or (map order_of found) 0 [] in
      let h = a.orders.each 0 [] (omega (arith, some, length-map found order_of)) in
      (o, h.0, h.1)

  pub rest_above : (from k : ℕ) → k ≤ m → (found : List Cell) → 0 < length found → ¬ IsMet domain forms (suc m) (put k) → AreExtensions domain forms cell (Between from k) found
      → AreExtensions domain forms cell (Between from (suc m)) found
  rest_above from k h found some none a =
      let f = a_place (Between from k) found a some in
      let first : IsMet domain forms (suc m) (put f.2.0) = subst (IsMet domain forms (suc m)) f.2.3 f.1 in
      record {
        orders = with_same domain forms (suc m) (Between from k) (Between from (suc m)) (map order_of found)
            (λ o met. (
              λ c. (c.0, c.1, omega (arith, c.2, h), c.3),
              λ c. ⊎_elim (λ (l : c.0 < k). (c.0, c.1, l, c.3))
                  (λ (l : k ≤ c.0). ⊎_elim
                  (λ (e : c.0 ≡ k). absurd (none (subst (λ j. IsMet domain forms (suc m) (put j)) e (subst (IsMet domain forms (suc m)) c.3 met))))
                  (λ (n : c.0 ≢ k). absurd (none (between domain forms m order part.met.names f.2.0 k c.0 f.2.2 (omega (arith, l, n)) (omega (arith, c.2)) first (subst (IsMet domain forms (suc m)) c.3 met))))
                  (cases_eq c.0 k))
                  (cases_lt c.0 k),
            ))
            a.orders;
        points = a.points;
      }

  pub rest_below : (k : ℕ) → k ≤ m → (found : List Cell) → 0 < length found → ¬ IsMet domain forms (suc m) (put k) → AreExtensions domain forms cell (Between (k + 1) (suc m)) found
      → AreExtensions domain forms cell (Between 0 (suc m)) found
  rest_below k h found some none a =
      let f = a_place (Between (k + 1) (suc m)) found a some in
      let first : IsMet domain forms (suc m) (put f.2.0) = subst (IsMet domain forms (suc m)) f.2.3 f.1 in
      record {
        orders = with_same domain forms (suc m) (Between (k + 1) (suc m)) (Between 0 (suc m)) (map order_of found)
            (λ o met. (
              λ c. (c.0, omega arith, c.2, c.3),
              λ c. ⊎_elim (λ (l : k < c.0). (c.0, omega (arith, l), c.2, c.3))
                  (λ (l : c.0 ≤ k). ⊎_elim
                  (λ (e : c.0 ≡ k). absurd (none (subst (λ j. IsMet domain forms (suc m) (put j)) e (subst (IsMet domain forms (suc m)) c.3 met))))
                  (λ (n : c.0 ≢ k). absurd (none (between domain forms m order part.met.names c.0 k f.2.0 (omega (arith, l, n)) (omega (arith, f.2.1)) (omega (arith, f.2.2)) (subst (IsMet domain forms (suc m)) c.3 met) first)))
                  (cases_eq c.0 k))
                  (cases_lt k c.0),
            ))
            a.orders;
        points = a.points;
      }

  -- ---- at all places
  pub all_places : (found : List Cell) → AreExtensions domain forms cell (Between 0 (suc m)) found → AreExtensions domain forms cell (Extends order) found
  all_places found a = record {
    orders = with_same domain forms (suc m) (Between 0 (suc m)) (Extends order) (map order_of found)
        (λ o met. (
          λ c. ap (restricted m) c.3 ∙ restricted-put_in m c.0 order below,
          λ (e : restricted m o ≡ order).
              let f = (came_from domain forms m o met.0 met.1).1 in
              let w : f.0 ≤ m = subst (λ (t : List ℕ). f.0 ≤ length t) e f.1 in
              (f.0, omega arith, omega (arith, w), f.2 ∙ ap (put_in f.0 m) e),
        ))
        a.orders;
    points = a.points;
  }
