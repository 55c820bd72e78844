-- There is a list of all cells, or a cause why there is none: a limit of elimination, or too many cells.
use Rattle.std.proofs.Common.{◌≡◌, ◌⊎◌, inl, inr, ⊎_elim, ℕ, suc, ◌+◌, ◌<◌, ◌≤◌, List, [], ◌∷◌, ◌++◌, length, get_or, take, refl, sym, ap, ◌∙◌, subst, arith}
use Rattle.std.specs.Prelude.{◌≢◌, All}
use Rattle.std.specs.List.{AllPairs}
use Rattle.std.proofs.lemmas.Bool.{cases_lt, cases_order}
use Rattle.std.proofs.lemmas.List.{length_push}
use Rattle.std.proofs.lemmas.List.Edits.{length-insert}
use Rattle.std.proofs.lemmas.List.Elements.{All-nil, All-cons, All-head, All-tail, All-append, All-push}
use Rattle.std.proofs.lemmas.List.Kept.{AllPairs-cons}
use Rattle.crn_fraction.specs.Rational.{ℚ, ◌<ℚ◌}
use Rattle.crn_linear.specs.Forms.{at, wholes}
use Rattle.crn_linear.specs.FormRows.{above_row}
use Rattle.crn_linear.specs.Rows.{Row}
use Rattle.crn_farkas.specs.Systems.{IsRectangular}
use Rattle.crn_formula.specs.Pieces.{Domain, IsDomain, columns_of}
use Rattle.crn_simplex.proofs.Decisions.{StopsAt, Decision, has_point, has_none, has_limit, decision, walk}
use Rattle.crn_cells.specs.Cells.{numbered, Names, IsMet, IsCell, Before, AreCells}
use Rattle.crn_cells.specs.Systems.{ascent_rows, order_system, IsAskedOrder}
use Rattle.crn_cells.specs.Insertion.{put_in, AreOrdersWith, AreOrders, ComesFrom}
use Rattle.crn_cells.specs.Answers.{IsRefused}
use Rattle.crn_cells.specs.declared.CellsError.{CellsError}
use Rattle.crn_cells.specs.declared.CellsError.TheVariants.{TooBig, TooManyRows, TooManyCells, Memory}
use Rattle.crn_cells.proofs.Members.{Has, Has-Contains, Contains-Has, Has-All, All-Has, differ_nil, differ_head, differ_tail}
use Rattle.crn_cells.proofs.Domains.{inside_in}
use Rattle.crn_cells.proofs.Rows.{length-above}
use Rattle.crn_cells.proofs.OrderPoints.{order_point}
use Rattle.crn_cells.proofs.Insertions.{Names-insert, restricted-put_in}
use Rattle.crn_cells.proofs.OrderSteps.{first_order, with_same, with_refuted, with_push, level_begin, level_end}
use Rattle.crn_cells.proofs.EachPlace.{Upto, fresh, upto_more, upto_begin, upto_end}
use Rattle.crn_cells.proofs.Extending.{too_many}
use Rattle.crn_cells.proofs.Unique.{before_trans}

-- why there are no cells, want of memory aside
abbrev pub IsRefusedForCause : Domain → List (List ℚ) → Type 0
IsRefusedForCause D F = (e : CellsError) × (e ≢ Memory) × IsRefused D F e

stopped : (D : Domain) (F : List (List ℚ)) → StopsAt (IsAskedOrder D F) → IsRefusedForCause D F
stopped D F (s, asked, inl e) = (TooBig (record { system = s; room = 0 }), (λ is. cc is), (asked, e))
stopped D F (s, asked, inr e) = (TooManyRows (record { system = s; room = 0 }), (λ is. cc is), (asked, e))

-- ---- lists of different orders, put in order

before_or_after : (a b : List ℕ) → a ≢ b → Before a b ⊎ Before b a
before_or_after [] [] n = absurd (n refl)
before_or_after [] (j ∷ b) n = inl tt
before_or_after (i ∷ a) [] n = inr tt
before_or_after (i ∷ a) (j ∷ b) n =
    ⊎_elim
    (λ (e : i ≡ j).
    ⊎_elim (λ (h : Before a b). inl (inr (e, h))) (λ (h : Before b a). inr (inr (sym e, h))) (before_or_after a b (λ f. n (ap (λ k. k ∷ a) e ∙ ap (λ l. j ∷ l) f))))
    (λ (h : (i < j) ⊎ (j < i)). ⊎_elim (λ (l : i < j). inl (inl l)) (λ (l : j < i). inr (inl l)) h)
    (cases_order i j)

-- the same orders, in lexicographic order
record IsSorted (xs ys : List (List ℕ)) : Type 0 where
  in_order : AllPairs Before ys
  only : (o : List ℕ) → Has o ys → Has o xs
  old : (o : List ℕ) → Has o xs → Has o ys
  long : length ys ≡ length xs

put : (x : List ℕ) (ys : List (List ℕ)) → AllPairs Before ys → ((o : List ℕ) → Has o ys → x ≢ o) → (zs : List (List ℕ)) × IsSorted (x ∷ ys) zs
put x [] sorted new = (
  x ∷ [],
  record { in_order = AllPairs-cons Before x [] (All-nil (Before x)) (differ_nil Before); only = λ o h. h; old = λ o h. h; long = refl },
)
put x (y ∷ ys) sorted new = go (before_or_after x y (new y (inl refl))) (put x ys (differ_tail Before y ys sorted) (λ o h. new o (inr h)))
  where
    later : (o : List ℕ) → Has o ys → Before y o
    later o h = Has-All (Before y) o ys (λ k d l. sorted 0 (suc k) d (omega arith) (omega (arith, l))) h

    go : Before x y ⊎ Before y x → (zs : List (List ℕ)) × IsSorted (x ∷ ys) zs → (zs : List (List ℕ)) × IsSorted (x ∷ y ∷ ys) zs
    go (inl h) rest = (
      x ∷ y ∷ ys,
      record {
        in_order = AllPairs-cons Before x (y ∷ ys)
            (All-Has (Before x) (y ∷ ys) (λ o m. ⊎_elim (λ (e : y ≡ o). subst (Before x) e h) (λ (t : Has o ys). before_trans x y o h (later o t)) m)) sorted;
        only = λ o m. m;
        old = λ o m. m;
        long = refl;
      },
    )
    go (inr h) (zs, s) = (
      y ∷ zs,
      record {
        in_order = AllPairs-cons Before y zs
            (All-Has (Before y) zs (λ o m. ⊎_elim (λ (e : x ≡ o). subst (Before y) e h) (λ (t : Has o ys). later o t) (s.only o m))) s.in_order;
        only = λ o m. ⊎_elim (λ (e : y ≡ o). inr (inl e)) (λ (t : Has o zs). ⊎_elim (λ (e : x ≡ o). inl e) (λ (u : Has o ys). inr (inr u)) (s.only o t)) m;
        old = λ o m. ⊎_elim (λ (e : x ≡ o). inr (s.old o (inl e))) (λ (t : Has o (y ∷ ys)). ⊎_elim (λ (e : y ≡ o). inl e) (λ (u : Has o ys). inr (s.old o (inr u))) t) m;
        long = ap suc s.long;
      },
    )

sorted : (xs : List (List ℕ)) → AllPairs (λ a b. a ≢ b) xs → (ys : List (List ℕ)) × IsSorted xs ys
sorted [] once = ([], record { in_order = differ_nil Before; only = λ o h. h; old = λ o h. h; long = refl })
sorted (x ∷ xs) once = go (sorted xs (differ_tail (λ a b. a ≢ b) x xs once))
  where
    more : (ys : List (List ℕ)) → IsSorted xs ys → (zs : List (List ℕ)) × IsSorted (x ∷ ys) zs → (zs : List (List ℕ)) × IsSorted (x ∷ xs) zs
    more ys s (zs, t) = (
      zs,
      record {
        in_order = t.in_order;
        only = λ o h. ⊎_elim (λ (e : x ≡ o). inl e) (λ (u : Has o ys). inr (s.only o u)) (t.only o h);
        old = λ o h. ⊎_elim (λ (e : x ≡ o). t.old o (inl e)) (λ (u : Has o xs). t.old o (inr (s.old o u))) h;
        long = t.long ∙ ap suc s.long;
      },
    )

    go : (ys : List (List ℕ)) × IsSorted xs ys → (zs : List (List ℕ)) × IsSorted (x ∷ xs) zs
    go (ys, s) = more ys s (put x ys s.in_order (λ o h. differ_head x xs once o (s.only o h)))

-- ---- level by level

module _ (D : Domain) (is_domain : IsDomain D) (F : List (List ℚ)) (long : All (λ f. length f ≡ columns_of D) F) (distinct : AllPairs (λ a b. a ≢ b) F) where
  abbrev IsEnd : Type 0
  IsEnd = IsRefusedForCause D F

  long_ascent : (order : List ℕ) → All (λ i. i < length F) order → All (λ (r : Row). length r.entries ≡ columns_of D) (ascent_rows F order)
  long_ascent [] within = All-nil (λ (r : Row). length r.entries ≡ columns_of D)
  long_ascent (i ∷ []) within = All-nil (λ (r : Row). length r.entries ≡ columns_of D)
  long_ascent (i ∷ j ∷ order) within =
      let here = All-head (λ k. k < length F) i (j ∷ order) within in
      let rest = All-tail (λ k. k < length F) i (j ∷ order) within in
      let next = All-head (λ k. k < length F) j order rest in
      All-cons (λ (r : Row). length r.entries ≡ columns_of D) (above_row (numbered F j) (numbered F i)) (ascent_rows F (j ∷ order)) (length-above F (columns_of D) i j long here next)
      (long_ascent (j ∷ order) rest)

  even : (order : List ℕ) → All (λ i. i < length F) order → IsRectangular (order_system D F order)
  even order within = record { lengths = All-append (λ (r : Row). length r.entries ≡ columns_of D) D.rows (ascent_rows F order) is_domain.long (long_ascent order within) }

  -- all orders of the first m forms
  record Level (m : ℕ) : Type 0 where
    orders : List (List ℕ)
    all : AreOrders D F m orders
    sized : All (λ o. length o ≡ m) orders
    few : length orders ≤ 4096

  module _ (m : ℕ) (below : m < length F) (orders : List (List ℕ)) (all : AreOrders D F m orders) (sized : All (λ o. length o ≡ m) orders) where
    -- those of one form more that have a property
    record Reached (P : List ℕ → Type 0) : Type 0 where
      next : List (List ℕ)
      found : AreOrdersWith D F (suc m) P next
      lengths : All (λ o. length o ≡ suc m) next
      few : length next ≤ 4096

    module _ (i : ℕ) (l : i < length orders) where
      abbrev order : List ℕ
      order = get_or orders i []

      long_order : length order ≡ m
      long_order = sized i [] l

      order_met : IsMet D F m order
      order_met = (all.each i [] l).0

      module _ (k : ℕ) (place : k < m + 1) where
        abbrev x : List ℕ
        x = put_in k m order

        names : Names (suc m) x
        names = Names-insert m k order order_met.1.names

        long_x : length x ≡ suc m
        long_x = let within : k ≤ length order = omega (arith, place, long_order) in omega (arith, length-insert order k m within, long_order)

        within_x : All (λ j. j < length F) x
        within_x j d h = let b : get_or x j d < suc m = names.below j d h in omega (arith, b, below)

        asked : IsAskedOrder D F (order_system D F x)
        asked = record {
          last = m;
          order = x;
          within = below;
          names = names;
          long = long_x;
          is_order = refl;
          without_last = subst (IsMet D F m) (sym (restricted-put_in m k order (λ j h. Has-All (λ j. j < m) j order order_met.1.names.below h))) order_met;
        }

        new : ¬ Upto m orders i k x
        new = fresh D F m orders all i l k (omega (arith, place, long_order))

        more : (r : List (List ℕ)) → AreOrdersWith D F (suc m) (λ o. Upto m orders i k o ⊎ (o ≡ x)) r → AreOrdersWith D F (suc m) (Upto m orders i (k + 1)) r
        more r a = with_same D F (suc m) (λ o. Upto m orders i k o ⊎ (o ≡ x)) (Upto m orders i (k + 1)) r (λ o met. upto_more D F m orders all i l k o) a

        -- the order is met
        push : Reached (Upto m orders i k) → IsMet D F (suc m) x → Reached (Upto m orders i (k + 1)) ⊎ IsEnd
        push r met =
            ⊎_elim
            (λ (h : length r.next < 4096). inl (record {
              next = r.next ++ x ∷ [];
              found = more (r.next ++ x ∷ []) (with_push D F (suc m) (Upto m orders i k) r.next x met new r.found);
              lengths = All-push (λ o. length o ≡ suc m) r.next x r.lengths long_x;
              few = omega (arith, h, length_push r.next x);
            }))
            (λ (h : 4096 ≤ length r.next).
            let full : length r.next ≡ 4096 = let g = r.few in omega (arith, h, g) in
            inr (
              TooManyCells 4097,
              (λ is. cc is),
              (
                refl,
                too_many D is_domain F long distinct (suc m) (omega (arith, below)) (λ o. Upto m orders i k o ⊎ (o ≡ x)) (r.next ++ x ∷ [])
                    (with_push D F (suc m) (Upto m orders i k) r.next x met new r.found) (omega (arith, full, length_push r.next x)),
              ),
            ))
            (cases_lt (length r.next) 4096)

        at_place : Reached (Upto m orders i k) → Decision (order_system D F x) → Reached (Upto m orders i (k + 1)) ⊎ IsEnd
        at_place r (has_point p e meets size) =
            let h = (order_point D F x p long within_x).0 (record { long = size; meets = meets }) in
            push r (p, record { names = names; is_in = h.0; ascend = h.1 })
        at_place r (has_none none) =
            let unmet : ¬ IsMet D F (suc m) x = λ met. none.whole met.0 ((order_point D F x met.0 long within_x).1 (met.1.is_in, met.1.ascend)).meets in
            inl (record { next = r.next; found = more r.next (with_refuted D F (suc m) (Upto m orders i k) r.next x unmet r.found); lengths = r.lengths; few = r.few })
        at_place r (has_limit stops) = inr (stopped D F (order_system D F x, asked, stops))

        step : Reached (Upto m orders i k) → Reached (Upto m orders i (k + 1)) ⊎ IsEnd
        step r = at_place r (decision (order_system D F x) (even x within_x))

      -- all places of one order
      places : Reached (ComesFrom m (take i orders)) → Reached (ComesFrom m (take (i + 1) orders)) ⊎ IsEnd
      places r =
          ⊎_elim
          (λ (s : Reached (Upto m orders i (m + 1))). inl (record {
            next = s.next;
            found = with_same D F (suc m) (Upto m orders i (m + 1)) (ComesFrom m (take (i + 1) orders)) s.next (λ o met. upto_end D F m orders all i l (m + 1) (omega (arith, long_order)) o met) s.found;
            lengths = s.lengths;
            few = s.few;
          }))
          (λ (end : IsEnd). inr end)
          (walk (λ k. Reached (Upto m orders i k)) IsEnd (m + 1) step (record {
            next = r.next;
            found = with_same D F (suc m) (ComesFrom m (take i orders)) (Upto m orders i 0) r.next (λ o met. upto_begin D F m orders all i l o) r.found;
            lengths = r.lengths;
            few = r.few;
          }))

    -- all orders of one form more
    next_level : Level (suc m) ⊎ IsEnd
    next_level =
        ⊎_elim
        (λ (r : Reached (ComesFrom m (take (length orders) orders))). inl (record {
          orders = r.next;
          all = level_end D F m orders all (length orders) r.next (omega arith) r.found;
          sized = r.lengths;
          few = r.few;
        }))
        (λ (end : IsEnd). inr end)
        (walk (λ i. Reached (ComesFrom m (take i orders))) IsEnd (length orders) places (record {
          next = [];
          found = level_begin D F m orders all;
          lengths = All-nil (λ o. length o ≡ suc m);
          few = omega arith;
        }))

  first_level : Level 0
  first_level = record {
    orders = [] ∷ [];
    all = first_order D F D.inside (record {
      names = record { below = All-nil (λ i. i < 0); every = λ i l. absurd (omega (arith, l)) };
      is_in = inside_in D is_domain;
      ascend = differ_nil (λ i j. at (numbered F i) (wholes D.inside) <ℚ at (numbered F j) (wholes D.inside));
    });
    sized = All-cons (λ o. length o ≡ 0) [] [] refl (All-nil (λ o. length o ≡ 0));
    few = omega arith;
  }

  last_level : Level (length F) ⊎ IsEnd
  last_level = walk Level IsEnd (length F) step first_level
    where
      step : (m : ℕ) → m < length F → Level m → Level (m + 1) ⊎ IsEnd
      step m l v = let e : suc m ≡ m + 1 = omega arith in subst (λ k. Level k ⊎ IsEnd) e (next_level m l v.orders v.all v.sized)

  -- a list of all cells
  abbrev pub HasCells : Type 0
  HasCells = (orders : List (List ℕ)) × AreCells D F orders × (length orders ≤ 4096)

  cells_of : Level (length F) → HasCells
  cells_of v =
      let (orders, s) = sorted v.orders v.all.once in (
        orders,
        record {
          each = All-Has (IsCell D F) orders (λ o h. (Has-All (λ o. IsMet D F (length F) o × Unit {0}) o v.orders v.all.each (s.only o h)).0);
          all = λ o cell. Contains-Has o orders (s.old o (Has-Contains o v.orders (v.all.all o cell tt)));
          in_order = s.in_order;
        },
        let few = v.few in omega (arith, s.long, few),
      )

  -- there is one, or a cause why there is none
  pub decided : HasCells ⊎ IsRefusedForCause D F
  decided = ⊎_elim (λ (v : Level (length F)). inl (cells_of v)) (λ (end : IsEnd). inr end) last_level
