-- Counting along the parts of a side, for species that ascend.
use Rattle.std.proofs.Common.{◌≡◌, ◌≢◌, ℕ, zero, suc, ◌+◌, ◌<◌, ◌≤◌, List, [], ◌∷◌, length, drop, refl, sym, ◌∙◌, ap, subst, arith}
use Rattle.std.proofs.lemmas.List.{get_or_default}
use Rattle.std.specs.Prelude.{ℤ, pos, negsuc}
use Rattle.crn_net.proofs.Shape.{count_of_other, count_of_same}
use Rattle.crn_net.specs.Network as Plain
use Rattle.crn_net.specs.Network.{AreParts, count_of}
use Rattle.crn_net.specs.Views.{natural, part_of, parts_of}
use Rattle.crn_net.specs.declared.Part.{Part}
use Rattle.crn_net.proofs.Sides.{read}
use Rattle.crn_segments.specs.Step.{IsSide}
use Rattle.crn_segments.proofs.Refusals.{part_in_range}
use Rattle.crn_segments.proofs.SideWalk.{left_is, none_left}

lower : (low n : ℕ) (ps : List Plain.Part) → AreParts low n ps → AreParts 0 n ps
lower low n [] h = tt
lower low n (p ∷ ps) h = let above : low < p.species = h.0 in (omega arith, h.1, h.2, h.3)

-- from `now` on the parts count as much as from `old` on, for the species from s on
pub record Passed (ps : List Part) (old now s : ℕ) : Type 0 where
  pub side : IsSide (parts_of (drop now ps))
  pub same : (t : ℕ) → s ≤ t → count_of (parts_of (drop now ps)) t ≡ count_of (parts_of (drop old ps)) t

positive_natural : (z : ℤ) → 0 < natural z → z ≡ pos (natural z)
positive_natural (pos n) h = refl
positive_natural (negsuc n) h = absurd (omega arith)

module _ (ps : List Part) (old now s : ℕ) (l : now < length ps) (e : Passed ps old now s) where
  side : AreParts 0 e.side.0 (part_of (read ps now) ∷ parts_of (drop (now + 1) ps))
  side = subst (AreParts 0 e.side.0) (left_is ps now l) e.side.1

  so_far : (t : ℕ) → s ≤ t → count_of (part_of (read ps now) ∷ parts_of (drop (now + 1) ps)) t ≡ count_of (parts_of (drop old ps)) t
  so_far t h = sym (ap (λ xs. count_of xs t) (left_is ps now l)) ∙ e.same t h

  pub passed_more : (read ps now).species < s → Passed ps old (now + 1) s
  passed_more below = record {
    side = (e.side.0, lower (read ps now).species e.side.0 (parts_of (drop (now + 1) ps)) side.3);
    same = λ t h. let other : (read ps now).species ≢ t = λ x. omega (arith, x, h, below) in sym (count_of_other (part_of (read ps now)) (parts_of (drop (now + 1) ps)) t other) ∙ so_far t h;
  }

  pub passed_found : (read ps now).species ≡ s → (read ps now).count ≡ pos (count_of (parts_of (drop old ps)) s)
  passed_found here =
      positive_natural (read ps now).count side.2
      ∙ ap pos (sym (count_of_same 0 e.side.0 (part_of (read ps now)) (parts_of (drop (now + 1) ps)) side)
      ∙ ap (count_of (part_of (read ps now) ∷ parts_of (drop (now + 1) ps))) here ∙ so_far s (omega arith))

  pub passed_over : s < (read ps now).species → pos 0 ≡ pos (count_of (parts_of (drop old ps)) s)
  passed_over above =
      ap pos (sym (none_left s e.side.0 (part_of (read ps now) ∷ parts_of (drop (now + 1) ps)) (above, side.1, side.2, side.3)) ∙ so_far s (omega arith))

-- ---- for the species of parts in turn

ascends : (low n : ℕ) (ps : List Part) (i j : ℕ) → AreParts low n (parts_of ps) → i < j → j < length ps → (read ps i).species < (read ps j).species
ascends low n [] i j h l k = absurd (omega arith)
ascends low n (q ∷ ps) i zero h l k = absurd (omega arith)
ascends low n (q ∷ ps) zero (suc j) h l k =
    let m : j < length ps = omega arith in
    (part_in_range q.species n ps j (read ps j) h.3 m (get_or_default ps j (record { species = 0; count = pos 0 }) (read ps j) m)).0
ascends low n (q ∷ ps) (suc i) (suc j) h l k = ascends q.species n ps i j h.3 (omega arith) (omega arith)

-- from a place on a side counts as much as all of it, for the species of the parts from i on
pub record IsAhead (ps qs : List Part) (from i : ℕ) : Type 0 where
  pub rest : IsSide (parts_of (drop from qs))
  pub same : (j : ℕ) → i ≤ j → j < length ps → count_of (parts_of (drop from qs)) (read ps j).species ≡ count_of (parts_of qs) (read ps j).species

pub ahead_stays : (ps qs : List Part) (from i : ℕ) → IsAhead ps qs from i → IsAhead ps qs from (i + 1)
ahead_stays ps qs from i a = record { rest = a.rest; same = λ j l k. a.same j (omega arith) k }

pub ahead_moves : (n : ℕ) (ps qs : List Part) (from next i : ℕ) → AreParts 0 n (parts_of ps) → i < length ps → IsAhead ps qs from i → IsSide (parts_of (drop next qs)) →
    ((t : ℕ) → (read ps i).species ≤ t → count_of (parts_of (drop next qs)) t ≡ count_of (parts_of (drop from qs)) t) → IsAhead ps qs next (i + 1)
ahead_moves n ps qs from next i ok l a rest later = record {
  rest = rest;
  same = λ j low high. let above : (read ps i).species < (read ps j).species = ascends 0 n ps i j ok (omega arith) high in
      later (read ps j).species (omega arith) ∙ a.same j (omega arith) high;
}
