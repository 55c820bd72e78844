-- What a flow changes, part by part of one side of its reaction.
use Rattle.std.proofs.Common.{◌≡◌, ◌≢◌, ℕ, ◌+◌, ◌<◌, ◌≤◌, ◌==◌, ◌&&◌, ◌||◌, not, nat_lt, Bool, true, false, List, ◌∷◌, length, drop, Option, pos, refl, sym, ◌∙◌, ap, ap₂, subst, ⊎_elim, arith, lt-ltb}
use Rattle.std.proofs.lemmas.List.{drop_more}
use Rattle.std.proofs.lemmas.Bool.{cases_eq, eq-eqb, ne_eqb}
use Rattle.std.proofs.Math.Bool.{and-false}
use Rattle.crn_fraction.specs.Rational.{ℚ}
use Rattle.crn_net.proofs.Shape.{count_of_other, count_of_same, count_of_in_range}
use Rattle.crn_net.specs.Network as Plain
use Rattle.crn_net.specs.Network.{AreParts, count_of}
use Rattle.crn_net.specs.Views.{part_of, parts_of}
use Rattle.crn_net.specs.declared.Part.{Part}
use Rattle.crn_net.proofs.Sides.{read}
use Rattle.crn_segments.specs.Sums.{IsRoom, sum_in, sum_where, gained, is_new}
use Rattle.crn_segments.specs.declared.work.Sums.{Sums}

pub record SideWalk (n : ℕ) (ps : List Part) (seen : List Plain.Part) (r : Plain.Reaction) (u : ℚ) (c : List ℚ) (old now : Sums) (i : ℕ) : Type 0 where
  pub room : IsRoom n now
  pub same : (s : ℕ) → sum_where (is_new (parts_of ps) seen s) (gained r u s) (sum_in old c s) ≡ sum_where (is_new (parts_of (drop i ps)) seen s) (gained r u s) (sum_in now c s)
  pub low : ℕ
  pub side : AreParts low n (parts_of (drop i ps))

pub none_left : (low n : ℕ) (ps : List Plain.Part) → AreParts low n ps → count_of ps low ≡ 0
none_left low n ps ok =
    ⊎_elim (λ (some : 0 < count_of ps low). let above = count_of_in_range low n ps low ok some in absurd (omega (arith, above.0))) (λ (none : count_of ps low ≡ 0). none) (grind arith)

pub left_is : (ps : List Part) (i : ℕ) → i < length ps → parts_of (drop i ps) ≡ part_of (read ps i) ∷ parts_of (drop (i + 1) ps)
left_is ps i l = ap parts_of (drop_more ps i (record { species = 0; count = pos 0 }) l)

-- the species of the part, and the others
new_here : (seen rest : List Plain.Part) (low n : ℕ) (p : Plain.Part) → AreParts low n (p ∷ rest) → count_of seen p.species ≡ 0 → is_new (p ∷ rest) seen p.species ≡ true
new_here seen rest low n p ok none =
    ap₂ (λ x y. x && not y) (lt-ltb 0 (count_of (p ∷ rest) p.species) (subst (λ x. 0 < x) (sym (count_of_same low n p rest ok)) ok.2)) (ap (λ k. nat_lt 0 k) none)

gone_here : (seen rest : List Plain.Part) (n : ℕ) (p : Plain.Part) → AreParts p.species n rest → is_new rest seen p.species ≡ false
gone_here seen rest n p ok = ap (λ k. nat_lt 0 k && not (nat_lt 0 (count_of seen p.species))) (none_left p.species n rest ok)

seen_here : (seen ps : List Plain.Part) (s : ℕ) → 0 < count_of seen s → is_new ps seen s ≡ false
seen_here seen ps s some = ap (λ x. nat_lt 0 (count_of ps s) && not x) (lt-ltb 0 (count_of seen s) some) ∙ and-false _

new_other : (seen rest : List Plain.Part) (p : Plain.Part) (s : ℕ) → p.species ≢ s → is_new (p ∷ rest) seen s ≡ is_new rest seen s
new_other seen rest p s other = ap (λ k. nat_lt 0 k && not (nat_lt 0 (count_of seen s))) (count_of_other p rest s other)

module _ (n : ℕ) (ps : List Part) (seen : List Plain.Part) (r : Plain.Reaction) (u : ℚ) (c : List ℚ) (old now : Sums) (i : ℕ) (l : i < length ps) (w : SideWalk n ps seen r u c old now i) where
  side : AreParts w.low n (part_of (read ps i) ∷ parts_of (drop (i + 1) ps))
  side = subst (λ xs. AreParts w.low n xs) (left_is ps i l) w.side

  so_far : (s : ℕ) → sum_where (is_new (parts_of ps) seen s) (gained r u s) (sum_in old c s)
      ≡ sum_where (is_new (part_of (read ps i) ∷ parts_of (drop (i + 1) ps)) seen s) (gained r u s) (sum_in now c s)
  so_far s = w.same s ∙ ap (λ xs. sum_where (is_new xs seen s) (gained r u s) (sum_in now c s)) (left_is ps i l)

  pub walk_skips : 0 < count_of seen (read ps i).species → SideWalk n ps seen r u c old now (i + 1)
  walk_skips some = record {
    room = w.room;
    same = λ s. so_far s ∙ ap (λ b. sum_where b (gained r u s) (sum_in now c s))
        (⊎_elim (λ (e : (read ps i).species ≡ s).
        let there : 0 < count_of seen s = subst (λ x. 0 < count_of seen x) e some in
        seen_here seen (part_of (read ps i) ∷ parts_of (drop (i + 1) ps)) s there ∙ sym (seen_here seen (parts_of (drop (i + 1) ps)) s there))
        (λ (e : (read ps i).species ≢ s). new_other seen (parts_of (drop (i + 1) ps)) (part_of (read ps i)) s e)
        (cases_eq (read ps i).species s));
    low = (read ps i).species;
    side = side.3;
  }

  pub walk_adds : (next : Sums) → count_of seen (read ps i).species ≡ 0 → IsRoom n next →
      ((s : ℕ) → sum_in next c s ≡ sum_where ((read ps i).species == s) (gained r u (read ps i).species) (sum_in now c s)) → SideWalk n ps seen r u c old next (i + 1)
  walk_adds next none room adds = record {
    room = room;
    same = λ s. so_far s ∙ ⊎_elim (λ (e : (read ps i).species ≡ s).
        subst (λ x. sum_where (is_new (part_of (read ps i) ∷ parts_of (drop (i + 1) ps)) seen x) (gained r u x) (sum_in now c x) ≡ sum_where (is_new (parts_of (drop (i + 1) ps)) seen x) (gained r u x) (sum_in next c x)) e
        (ap (λ b. sum_where b (gained r u (read ps i).species) (sum_in now c (read ps i).species)) (new_here seen (parts_of (drop (i + 1) ps)) w.low n (part_of (read ps i)) side none)
        ∙ sym (adds (read ps i).species ∙ ap (λ b. sum_where b (gained r u (read ps i).species) (sum_in now c (read ps i).species)) (eq-eqb (read ps i).species (read ps i).species refl))
        ∙ sym (ap (λ b. sum_where b (gained r u (read ps i).species) (sum_in next c (read ps i).species)) (gone_here seen (parts_of (drop (i + 1) ps)) n (part_of (read ps i)) side.3))))
        (λ (e : (read ps i).species ≢ s).
        ap (λ b. sum_where b (gained r u s) (sum_in now c s)) (new_other seen (parts_of (drop (i + 1) ps)) (part_of (read ps i)) s e)
        ∙ ap (sum_where (is_new (parts_of (drop (i + 1) ps)) seen s) (gained r u s))
        (sym (adds s ∙ ap (λ b. sum_where b (gained r u (read ps i).species) (sum_in now c s)) (ne_eqb (read ps i).species s e))))
        (cases_eq (read ps i).species s);
    low = (read ps i).species;
    side = side.3;
  }

pub part_in_range : (n : ℕ) (ps : List Part) (seen : List Plain.Part) (r : Plain.Reaction) (u : ℚ) (c : List ℚ) (old now : Sums) (i : ℕ) → i < length ps → SideWalk n ps seen r u c old now i →
    (1 ≤ (read ps i).species) × ((read ps i).species ≤ n)
part_in_range n ps seen r u c old now i l w =
    let side : AreParts w.low n (part_of (read ps i) ∷ parts_of (drop (i + 1) ps)) = subst (λ xs. AreParts w.low n xs) (left_is ps i l) w.side in
    (omega (arith, side.0), side.1)

-- both sides of a reaction, the second without what the first has
pub both_sides : (t g : Bool) (p : ℚ) (o : Option ℚ) → sum_where (g && not t) p (sum_where (t && not false) p o) ≡ sum_where (t || g) p o
both_sides true true p o = refl
both_sides true false p o = refl
both_sides false true p o = refl
both_sides false false p o = refl
