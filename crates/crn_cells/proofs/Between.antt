-- The places of one order at which some point of a domain has the next form follow one another.
use Rattle.std.proofs.Common.{◌≡◌, ℕ, zero, suc, ◌<◌, ◌≤◌, ◌+◌, ◌-◌, List, [], ◌∷◌, length, get_or, refl, arith, ⊎_elim, subst}
use Rattle.std.specs.Prelude.{ℤ, pos}
use Rattle.std.proofs.lemmas.Int.{ints}
use Rattle.std.proofs.lemmas.Bool.{cases_lt}
use Rattle.std.proofs.lemmas.List.Edits.{get_or-insert_at, get_or-insert_below, get_or-insert_above, length-insert}
use Rattle.std.proofs.lemmas.List.Elements.{All-nil}
use Rattle.std.proofs.lemmas.List.Kept.{AllPairs-cons}
use Rattle.crn_fraction.specs.Rational.{ℚ, whole, 0ℚ, ◌+ℚ◌, ◌-ℚ◌, ◌*ℚ◌, ◌<ℚ◌}
use Rattle.crn_fraction.proofs.Ring.{ring_ℚ, q-writes, *ℚ_comm}
use Rattle.crn_fraction.proofs.Ratios.{by_common_2, over-whole}
use Rattle.crn_fraction.proofs.Order.{linear}
use Rattle.crn_fraction.proofs.Linear.{difference_positive, <ℚ_trans}
use Rattle.crn_fraction.proofs.Products.{*ℚ-<ℚ}
use Rattle.crn_linear.specs.Forms.{at, wholes}
use Rattle.crn_formula.specs.Pieces.{Domain}
use Rattle.crn_cells.specs.Cells.{numbered, Ascend, Names, IsMetAt, IsMet}
use Rattle.crn_cells.specs.Insertion.{put_in}
use Rattle.crn_cells.proofs.Members.{Has, Has-All, All-Has, differ_nil, differ_tail}
use Rattle.crn_cells.proofs.Values.{mix, at-mix}
use Rattle.crn_cells.proofs.Orders.{get_or_any, Ascend-mix}
use Rattle.crn_cells.proofs.Domains.{IsIn-mix, met_at}
use Rattle.crn_cells.proofs.Insertions.{IsMetAt-restricted, Names-insert, Has-insert, restricted-put_in}

-- ---- on a line
sum_positive : (a b : ℚ) → 0ℚ <ℚ a → 0ℚ <ℚ b → 0ℚ <ℚ a +ℚ b
sum_positive = by_common_2 (λ a b. whole (pos 0) <ℚ a → whole (pos 0) <ℚ b → whole (pos 0) <ℚ a +ℚ b) (λ d p x y. simp (linear, over-whole (pos 0) d p) (λ h k. omega (arith, ints, h, k)))

-- the greater part of the greater number
cross : (u u' v v' : ℚ) → 0ℚ <ℚ u → u <ℚ u' → 0ℚ <ℚ v' → v' <ℚ v → v' *ℚ u <ℚ v *ℚ u'
cross u u' v v' p q r s =
    <ℚ_trans (v' *ℚ u) (v' *ℚ u') (v *ℚ u') (*ℚ-<ℚ v' u u' r q)
    (subst (λ t. t <ℚ v *ℚ u') (*ℚ_comm u' v') (subst (λ t. u' *ℚ v' <ℚ t) (*ℚ_comm u' v) (*ℚ-<ℚ u' v' v (<ℚ_trans 0ℚ u u' p q) s)))

-- At one end of the line a value is below two others that ascend, at the other end above both. Somewhere between it is between them.
record IsBetween (gx lx hx gy ly hy : ℚ) : Type 0 where
  a : ℚ
  b : ℚ
  a_positive : 0ℚ <ℚ a
  b_positive : 0ℚ <ℚ b
  above : a *ℚ lx +ℚ b *ℚ ly <ℚ a *ℚ gx +ℚ b *ℚ gy
  below : a *ℚ gx +ℚ b *ℚ gy <ℚ a *ℚ hx +ℚ b *ℚ hy

on_line : (gx lx hx gy ly hy : ℚ) → gx <ℚ lx → lx <ℚ hx → ly <ℚ hy → hy <ℚ gy → IsBetween gx lx hx gy ly hy
on_line gx lx hx gy ly hy p q r s =
    let u = lx -ℚ gx in
    let u' = hx -ℚ gx in
    let v = gy -ℚ ly in
    let v' = gy -ℚ hy in
    let up : 0ℚ <ℚ u = (difference_positive gx lx).0 p in
    let up' : 0ℚ <ℚ u' = (difference_positive gx hx).0 (<ℚ_trans gx lx hx p q) in
    let vp : 0ℚ <ℚ v = (difference_positive ly gy).0 (<ℚ_trans ly hy gy r s) in
    let vp' : 0ℚ <ℚ v' = (difference_positive hy gy).0 s in
    let more_u : u <ℚ u' = (difference_positive u u').1 (subst (λ t. 0ℚ <ℚ t) (less_lower gx lx hx) ((difference_positive lx hx).0 q)) in
    let more_v : v' <ℚ v = (difference_positive v' v).1 (subst (λ t. 0ℚ <ℚ t) (less_upper gy ly hy) ((difference_positive ly hy).0 r)) in
    let gap : 0ℚ <ℚ (v *ℚ u') -ℚ (v' *ℚ u) = (difference_positive (v' *ℚ u) (v *ℚ u')).0 (cross u u' v v' up more_u vp' more_v) in
    let a = v +ℚ v' in
    let b = u +ℚ u' in
    record {
      a = a;
      b = b;
      a_positive = sum_positive v v' vp vp';
      b_positive = sum_positive u u' up up';
      above = (difference_positive (a *ℚ lx +ℚ b *ℚ ly) (a *ℚ gx +ℚ b *ℚ gy)).1 (subst (λ t. 0ℚ <ℚ t) (gap_above gx lx hx gy ly hy) gap);
      below = (difference_positive (a *ℚ gx +ℚ b *ℚ gy) (a *ℚ hx +ℚ b *ℚ hy)).1 (subst (λ t. 0ℚ <ℚ t) (gap_below gx lx hx gy ly hy) gap);
    }
  where
    less_lower : (g l h : ℚ) → h -ℚ l ≡ (h -ℚ g) -ℚ (l -ℚ g)
    less_lower g l h = ring_ℚ (g ∷ l ∷ h ∷ []) (search q-writes depth 20) (search q-writes depth 20) refl

    less_upper : (g l h : ℚ) → h -ℚ l ≡ (g -ℚ l) -ℚ (g -ℚ h)
    less_upper g l h = ring_ℚ (g ∷ l ∷ h ∷ []) (search q-writes depth 20) (search q-writes depth 20) refl

    gap_above : (gx lx hx gy ly hy : ℚ) → ((gy -ℚ ly) *ℚ (hx -ℚ gx)) -ℚ ((gy -ℚ hy) *ℚ (lx -ℚ gx))
        ≡ (((gy -ℚ ly) +ℚ (gy -ℚ hy)) *ℚ gx +ℚ ((lx -ℚ gx) +ℚ (hx -ℚ gx)) *ℚ gy) -ℚ (((gy -ℚ ly) +ℚ (gy -ℚ hy)) *ℚ lx +ℚ ((lx -ℚ gx) +ℚ (hx -ℚ gx)) *ℚ ly)
    gap_above gx lx hx gy ly hy = ring_ℚ (gx ∷ lx ∷ hx ∷ gy ∷ ly ∷ hy ∷ []) (search q-writes depth 20) (search q-writes depth 20) refl

    gap_below : (gx lx hx gy ly hy : ℚ) → ((gy -ℚ ly) *ℚ (hx -ℚ gx)) -ℚ ((gy -ℚ hy) *ℚ (lx -ℚ gx))
        ≡ (((gy -ℚ ly) +ℚ (gy -ℚ hy)) *ℚ hx +ℚ ((lx -ℚ gx) +ℚ (hx -ℚ gx)) *ℚ hy) -ℚ (((gy -ℚ ly) +ℚ (gy -ℚ hy)) *ℚ gx +ℚ ((lx -ℚ gx) +ℚ (hx -ℚ gx)) *ℚ gy)
    gap_below gx lx hx gy ly hy = ring_ℚ (gx ∷ lx ∷ hx ∷ gy ∷ ly ∷ hy ∷ []) (search q-writes depth 20) (search q-writes depth 20) refl

-- ---- a form put into an order that ascends
module _ (forms : List (List ℚ)) (x : List ℚ) (m : ℕ) where
  abbrev Below : ℕ → ℕ → Type 0
  Below i j = at (numbered forms i) x <ℚ at (numbered forms j) x

  ascend_insert : (k : ℕ) (order : List ℕ) → Ascend forms x order → ((i : ℕ) → i < k → i < length order → Below (get_or order i 0) m)
      → ((i : ℕ) → k ≤ i → i < length order → Below m (get_or order i 0)) → Ascend forms x (put_in k m order)
  ascend_insert zero order asc low high = AllPairs-cons Below m order (λ i d l. subst (Below m) (get_or_any order i 0 d l) (high i (omega arith) l)) asc
  ascend_insert (suc k) [] asc low high = AllPairs-cons Below m [] (All-nil (Below m)) (differ_nil Below)
  ascend_insert (suc k) (o ∷ order) asc low high =
      AllPairs-cons Below o (put_in k m order)
      (All-Has (Below o) (put_in k m order)
      (λ n h. ⊎_elim (λ (e : m ≡ n). subst (Below o) e (low 0 (omega arith) (omega arith)))
      (λ (t : Has n order). Has-All (Below o) n order (λ i d w. asc 0 (suc i) d (omega arith) (omega (arith, w))) t) (Has-insert n k m order h)))
      (ascend_insert k order (differ_tail Below o order asc) (λ i h l. low (suc i) (omega (arith, h)) (omega (arith, l))) (λ i h l. high (suc i) (omega (arith, h)) (omega (arith, l))))

-- ---- between two places
module _ (domain : Domain) (forms : List (List ℚ)) (m : ℕ) (order : List ℕ) (names : Names m order) where
  -- at a point that meets the order with form m at a place
  module _ (k : ℕ) (within : k ≤ length order) (p : List ℤ) (met : IsMetAt domain forms (suc m) (put_in k m order) p) where
    abbrev value : ℕ → ℚ
    value i = at (numbered forms i) (wholes p)

    long : length (put_in k m order) ≡ suc (length order)
    long = let e = length-insert order k m within in omega (arith, e)

    ascends : Ascend forms (wholes p) order
    ascends =
        subst (Ascend forms (wholes p)) (restricted-put_in m k order (λ j h. Has-All (λ j. j < m) j order names.below h))
        (IsMetAt-restricted domain forms m (suc m) (put_in k m order) p (omega arith) met).ascend

    lower : (i : ℕ) → i < k → i < length order → value (get_or order i 0) <ℚ value m
    lower i h l =
        subst (λ j. value j <ℚ value m) (get_or-insert_below order k m 0 i h within)
        (subst (λ j. value (get_or (put_in k m order) i 0) <ℚ value j) (get_or-insert_at order k m 0 within) (met.ascend i k 0 h (omega (arith, long, within))))

    higher : (i : ℕ) → k ≤ i → i < length order → value m <ℚ value (get_or order i 0)
    higher i h l =
        subst (λ j. value m <ℚ value j) (get_or-insert_above order k m 0 i h within)
        (subst (λ j. value j <ℚ value (get_or (put_in k m order) (i + 1) 0)) (get_or-insert_at order k m 0 within) (met.ascend k (i + 1) 0 (omega (arith, h)) (omega (arith, long, l))))

  pub between : (a c b : ℕ) → a < c → c < b → b ≤ length order → IsMet domain forms (suc m) (put_in a m order) → IsMet domain forms (suc m) (put_in b m order)
      → IsMet domain forms (suc m) (put_in c m order)
  between a c b h k l first second =
      let x = wholes first.0 in
      let y = wholes second.0 in
      let lo = get_or order (c - 1) 0 in
      let hi = get_or order c 0 in
      let before : c - 1 < c = omega (arith, h) in
      let here : c < length order = omega (arith, k, l) in
      let there : c - 1 < length order = omega (arith, here) in
      let within : a ≤ length order = omega (arith, h, here) in
      let up = ascends a within first.0 first.1 in
      let down = ascends b l second.0 second.1 in
      let s =
      on_line (at (numbered forms m) x) (at (numbered forms lo) x) (at (numbered forms hi) x) (at (numbered forms m) y) (at (numbered forms lo) y) (at (numbered forms hi) y)
      (higher a within first.0 first.1 (c - 1) (omega (arith, h)) there) (up (c - 1) c 0 before here) (down (c - 1) c 0 before here) (lower b l second.0 second.1 c k here) in
      let z = mix s.a x s.b y in
      let asc = Ascend-mix forms order x y s.a s.b s.a_positive s.b_positive up down in
      let above_lo : at (numbered forms lo) z <ℚ at (numbered forms m) z = rw (at-mix (numbered forms lo) s.a x s.b y, at-mix (numbered forms m) s.a x s.b y) s.above in
      let below_hi : at (numbered forms m) z <ℚ at (numbered forms hi) z = rw (at-mix (numbered forms m) s.a x s.b y, at-mix (numbered forms hi) s.a x s.b y) s.below in
      met_at domain forms (suc m) z (IsIn-mix domain x y s.a s.b s.a_positive s.b_positive first.1.is_in second.1.is_in) (put_in c m order) (Names-insert m c order names)
      (ascend_insert forms z m c order asc
      (λ i w r. ⊎_elim {C = at (numbered forms (get_or order i 0)) z <ℚ at (numbered forms m) z}
      (λ (g : i < c - 1). <ℚ_trans (at (numbered forms (get_or order i 0)) z) (at (numbered forms lo) z) (at (numbered forms m) z) (asc i (c - 1) 0 g there) above_lo)
      (λ (g : c - 1 ≤ i). let e : c - 1 ≡ i = omega (arith, g, w, h) in subst (λ n. at (numbered forms (get_or order n 0)) z <ℚ at (numbered forms m) z) e above_lo) (cases_lt i (c - 1)))
      (λ i w r. ⊎_elim {C = at (numbered forms m) z <ℚ at (numbered forms (get_or order i 0)) z}
      (λ (g : c < i). <ℚ_trans (at (numbered forms m) z) (at (numbered forms hi) z) (at (numbered forms (get_or order i 0)) z) below_hi (asc c i 0 g r))
      (λ (g : i ≤ c). let e : c ≡ i = omega (arith, g, w) in subst (λ n. at (numbered forms m) z <ℚ at (numbered forms (get_or order n 0)) z) e below_hi) (cases_lt c i)))
