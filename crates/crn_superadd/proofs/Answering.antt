-- What the code answers, over plain lists.
use Rattle.std.proofs.Common.{◌≡◌, ℕ, ◌<◌, ◌≤◌, List, [], ◌∷◌, length, get_or, Bool, true, false, refl, sym, ap, ◌∙◌, arith, subst, inl, inr, ⊎_elim}
use Rattle.std.specs.Prelude.{ℤ, Some, None, All}
use Rattle.std.specs.List.{find}
use Rattle.std.proofs.lemmas.Bool.{cond_both}
use Rattle.std.proofs.lemmas.List.{length-map}
use Rattle.crn_fraction.specs.Rational.{ℚ, whole, ◌+ℚ◌}
use Rattle.crn_fraction.proofs.Linear.{not_<ℚ}
use Rattle.crn_linear.specs.Forms.{wholes}
use Rattle.crn_formula.specs.Pieces.{Piece, Domain, IsIn, IsDomain, Covers, Agree, columns_of}
use Rattle.crn_formula.specs.Domains.{unit, orthant}
use Rattle.crn_maxmin.specs.Marked.{Marked, AreLong, IsMarkedBy, AreAllCells, numbered_forms}
use Rattle.crn_superadd.specs.Superadditive.{IsSuperadditive, FallsShort, IsLeast, IsNonnegative, IsNegativeIn, NoneBelow, is_used, used_forms, multiple, IsLeastMultiple, least_times, IsFirstNegative}
use Rattle.crn_maxmin.specs.Conversion.{forms_below}
use Rattle.crn_superadd.specs.Answers.{lowest_used, cell_at, IsFirstBelow, IsRefuted, IsNegative, AreUsedForms}
use Rattle.crn_maxmin.specs.declared.MarkedCell.{MarkedCell}
use Rattle.crn_maxmin.specs.Views.{marked_of}
use Rattle.crn_superadd.specs.Views.{cells_of}
use Rattle.crn_superadd.proofs.Searching.{cell_there}
use Rattle.crn_cells.proofs.Members.{Has, Has-Contains, All-Has, number_of}
use Rattle.crn_maxmin.proofs.InCells.{form_long, near_cell}
use Rattle.crn_superadd.proofs.Used.{Has-used_forms, used_forms-Has, length-used}
use Rattle.crn_superadd.proofs.Least.{superadditive_is_least, superadditive_by_cells, falls_short, IsIn-multiple}
use Rattle.crn_superadd.proofs.LeastMultiple.{least_times_is}
use Rattle.crn_superadd.proofs.Negative.{at_units, nonnegative, no_negative}
use Rattle.crn_superadd.proofs.Orthant.{columns_of_orthant, unit_in_orthant}

-- ---- searches
not_none : {X : Type 0} (z : X) → Some z ≡ None → ⊥
not_none z f = cc

find-Has : {X : Type 0} (p : X → Bool) (x : X) (xs : List X) → find p xs ≡ Some x → Has x xs
find-Has p x [] e = cc
find-Has p x (y ∷ ys) e =
    cond_both (p y) (Some y) (find p ys) (λ r. r ≡ Some x → Has x (y ∷ ys)) (λ u f. inl (by f)) (λ u f. inr (find-Has p x ys f)) e
  where
    by : Some y ≡ Some x → y ≡ x
    by f = cc

find-passes : {X : Type 0} (p : X → Bool) (x : X) (xs : List X) → find p xs ≡ Some x → p x ≡ true
find-passes p x [] e = cc
find-passes p x (y ∷ ys) e =
    cond_both (p y) (Some y) (find p ys) (λ r. r ≡ Some x → p x ≡ true) (λ u f. sym (ap p (by f)) ∙ u) (λ u f. find-passes p x ys f) e
  where
    by : Some y ≡ Some x → y ≡ x
    by f = cc

find-None : {X : Type 0} (p : X → Bool) (x : X) (xs : List X) → find p xs ≡ None → Has x xs → p x ≡ false
find-None p x [] e h = absurd h
find-None p x (y ∷ ys) e h =
    cond_both (p y) (Some y) (find p ys) (λ r. r ≡ None → p x ≡ false)
    (λ u f. absurd (not_none y f))
    (λ u f. ⊎_elim (λ (s : y ≡ x). sym (ap p s) ∙ u) (λ t. find-None p x ys f t) h) e

-- a search that finds nothing in any cell
pub none_below : (cells : List Marked) → ((i : ℕ) → i < length cells → lowest_used cells (cell_at cells i) ≡ None) → NoneBelow cells
none_below cells f =
    All-Has (λ c. All (λ i. is_used cells i ≡ false) (forms_below c)) cells
    (λ c h.
    let n = number_of (record { order = []; form = 0 }) c cells h in
    let e : lowest_used cells c ≡ None = subst (λ d. lowest_used cells d ≡ None) n.2 (f n.0 n.1) in
    All-Has (λ i. is_used cells i ≡ false) (forms_below c) (λ i k. find-None (is_used cells) i (forms_below c) e k))

-- the orthant has as many columns as were asked
pub columns_on : (domain : Domain) (n : ℕ) → domain ≡ orthant n → columns_of domain ≡ n
columns_on domain n is = ap columns_of is ∙ columns_of_orthant n

module _ (domain : Domain) (pieces : List Piece) (cells : List Marked) (is_domain : IsDomain domain) (long : AreLong domain pieces) (covers : Covers domain pieces)
    (agree : Agree domain pieces) (all : AreAllCells domain pieces cells) (few_cells : length cells ≤ 4096) where
  pub forms_long : All (λ f. length f ≡ columns_of domain) (numbered_forms pieces)
  forms_long = All-Has (λ f. length f ≡ columns_of domain) (numbered_forms pieces) (form_long domain pieces covers agree cells is_domain long all)

  not_superadditive : (a b : List ℚ) → IsIn domain a → IsIn domain b → FallsShort pieces a b → ¬ IsSuperadditive domain pieces
  not_superadditive a b ia ib f s = not_<ℚ (f.at_first +ℚ f.at_second) f.at_sum (s.above a b ia ib f.at_first f.at_second f.at_sum f.first f.second f.both) f.less

  -- the two points and the multiple that are found
  pub refuted : (low high : ℕ) → IsFirstBelow cells low high → (p q : List ℤ) → IsMarkedBy domain pieces (cell_at cells low) p → IsMarkedBy domain pieces (cell_at cells high) q
      → (t : ℕ) → t ≡ least_times (numbered_forms pieces) (cell_at cells low).order p q → IsRefuted domain pieces p t q
  refuted low high places p q mp mq t e =
      let c = cell_at cells low in
      let least : IsLeastMultiple (numbered_forms pieces) c.order (wholes p) (wholes q) t =
      subst (IsLeastMultiple (numbered_forms pieces) c.order (wholes p) (wholes q)) (sym e)
      (least_times_is (numbered_forms pieces) c.order (columns_of domain) forms_long mp.met.names.below p q mp.met.ascend) in
      let short = falls_short domain pieces cells is_domain long covers agree all c (cell_at cells high) p q mp mq
      (find-Has (is_used cells) c.form (forms_below (cell_at cells high)) places.found) t least.some least.meets in
      record {
        cells = cells;
        all = all;
        few_cells = few_cells;
        low = low;
        high = high;
        places = places;
        at_first = mp;
        at_second = mq;
        least = least;
        short = short;
        refuted = not_superadditive (multiple t (wholes p)) (wholes q) (IsIn-multiple domain pieces cells is_domain long covers agree all t (wholes p) least.some mp.met.is_in) mq.met.is_in short;
      }

  pub used_long : All (λ f. length f ≡ columns_of domain) (used_forms (numbered_forms pieces) cells)
  used_long =
      All-Has (λ f. length f ≡ columns_of domain) (used_forms (numbered_forms pieces) cells)
      (λ f h.
      let u = used_forms-Has (numbered_forms pieces) cells f h in
      subst (λ g. length g ≡ columns_of domain) u.3 (forms_long u.0.form [] u.2))

  -- on the orthant, where no used form stands below that of a cell
  module _ (n : ℕ) (is : domain ≡ orthant n) (none : NoneBelow cells) where
    abbrev forms : List (List ℚ)
    forms = used_forms (numbered_forms pieces) cells

    columns_is : columns_of domain ≡ n
    columns_is = columns_on domain n is

    superadditive : IsSuperadditive domain pieces
    superadditive = (superadditive_by_cells domain pieces cells is_domain long covers agree all).1 none

    is_least : IsLeast domain pieces forms
    is_least = (superadditive_is_least domain pieces cells is_domain long covers agree all).0 superadditive

    on_orthant : IsLeast (orthant n) pieces forms
    on_orthant = subst (λ d. IsLeast d pieces forms) is is_least

    long_n : All (λ f. length f ≡ n) forms
    long_n = subst (λ m. All (λ f. length f ≡ m) forms) columns_is used_long

    -- it is negative at the first unit point where a coefficient is
    pub negative : (i : ℕ) → i < columns_of domain → IsNegativeIn forms i → ((j : ℕ) → j < i → ¬ IsNegativeIn forms j)
        → (p : List ℤ) → p ≡ unit (columns_of domain) i → IsNegative domain pieces p
    negative i l a first p e =
        let at_n : IsFirstNegative n pieces i = record {
          within = subst (λ m. i < m) columns_is l;
          negative = (at_units n pieces forms on_orthant long_n i (subst (λ m. i < m) columns_is l)).1 a;
          first = λ j k h.
              let w : j < n = let v : i < n = subst (λ m. i < m) columns_is l in omega (arith, k, v) in
              first j k ((at_units n pieces forms on_orthant long_n j w).0 h);
        } in
        record { cells = cells; all = all; few_cells = few_cells; superadditive = superadditive; index = i; first = subst (λ m. IsFirstNegative m pieces i) (sym columns_is) at_n; is = e }

    some_form : 1 ≤ length forms
    some_form =
        let inside : IsIn domain (wholes (unit n 0)) = subst (λ d. IsIn d (wholes (unit n 0))) (sym is) (unit_in_orthant n 0) in
        let c = near_cell domain pieces covers agree cells is_domain long all (wholes (unit n 0)) inside in
        some forms _ (Has-used_forms (numbered_forms pieces) cells c.cell (Has-Contains c.cell cells c.is_one) c.is_form)
      where
        some : (fs : List (List ℚ)) (f : List ℚ) → Has f fs → 1 ≤ length fs
        some [] f h = absurd h
        some (g ∷ gs) f h = omega arith

    -- and else the used forms serve
    pub used_serve : length (numbered_forms pieces) ≤ 12 → ((i : ℕ) → i < columns_of domain → ¬ IsNegativeIn forms i) → (given : List (List ℚ)) → given ≡ forms → AreUsedForms domain pieces given
    used_serve small free given e =
        let long = length-used (numbered_forms pieces) cells in
        subst (AreUsedForms domain pieces) (sym e)
        (record {
          superadditive = superadditive;
          cells = cells;
          all = all;
          few_cells = few_cells;
          used = refl;
          least = is_least;
          nonnegative = subst (λ d. IsNonnegative d pieces) (sym is) ((nonnegative n pieces forms on_orthant long_n).1 (no_negative (columns_of domain) forms used_long free));
          long = used_long;
          few = record { some = some_form; few = omega (arith, small, long); nonnegative = no_negative (columns_of domain) forms used_long free };
        })

-- ---- the cells of the code
pub few_marked : (cells : List MarkedCell) → length cells ≤ 4096 → length (cells_of cells) ≤ 4096
few_marked cells few = let same = length-map cells marked_of in omega (arith, same, few)

-- the lowest used form is used
pub found_used : (cells : List Marked) (c : Marked) (form : ℕ) → lowest_used cells c ≡ Some form → is_used cells form ≡ true
found_used cells c form e = find-passes (is_used cells) form (forms_below c) e

-- a cell of the list is marked by its point
module _ (domain : Domain) (pieces : List Piece) (cells : List MarkedCell) (points : All (λ (c : MarkedCell). IsMarkedBy domain pieces (marked_of c) c.cell.point) cells) where
  pub marked_there : (i : ℕ) (d : MarkedCell) → i < length (cells_of cells) → IsMarkedBy domain pieces (cell_at (cells_of cells) i) (get_or cells i d).cell.point
  marked_there i d l =
      let w : i < length cells = subst (λ n. i < n) (length-map cells marked_of) l in
      subst (λ m. IsMarkedBy domain pieces m (get_or cells i d).cell.point) (sym (cell_there cells i d w)) (points i d w)

  pub order_there : (i : ℕ) (d : MarkedCell) → i < length (cells_of cells) → (get_or cells i d).cell.order.items ≡ (cell_at (cells_of cells) i).order
  order_there i d l = sym (ap (λ (m : Marked). m.order) (cell_there cells i d (subst (λ n. i < n) (length-map cells marked_of) l)))

  -- the point has the columns of the domain
  pub columns_there : (i : ℕ) (d : MarkedCell) → i < length (cells_of cells) → columns_of domain ≡ length (get_or cells i d).cell.point
  columns_there i d l = sym (marked_there i d l).met.is_in.long ∙ length-map (get_or cells i d).cell.point whole
