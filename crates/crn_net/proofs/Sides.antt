-- The test of a side, part by part.
use Rattle.std.proofs.Common.{◌≡◌, ℕ, ◌+◌, ◌<◌, ◌≤◌, List, ◌∷◌, length, get_or, drop, sym, subst, arith}
use Rattle.std.proofs.lemmas.List.{drop_more, drop_all}
use Rattle.std.proofs.lemmas.Int.{ints}
use Rattle.std.specs.Prelude.{ℤ, pos, negsuc, ◌≤ℤ◌}
use Rattle.crn_net.specs.Network.{AreParts}
use Rattle.crn_net.specs.Views.{natural, part_of, parts_of}
use Rattle.crn_net.specs.declared.Part.{Part}

-- what is left after i parts, the last of species `low`, is well formed where all are
pub record RestIsSide (n : ℕ) (ps : List Part) (i low : ℕ) : Type 0 where
  pub down : AreParts 0 n (parts_of ps) → AreParts low n (parts_of (drop i ps))
  pub up : AreParts low n (parts_of (drop i ps)) → AreParts 0 n (parts_of ps)

abbrev pub read : List Part → ℕ → Part
read ps i = get_or ps i (record { species = 0; count = pos 0 })

dropped : (ps : List Part) (i : ℕ) → i < length ps → drop i ps ≡ read ps i ∷ drop (i + 1) ps
dropped ps i l = drop_more ps i (record { species = 0; count = pos 0 }) l

pub side_more : (n : ℕ) (ps : List Part) (i low : ℕ) → i < length ps → low < (read ps i).species → (read ps i).species ≤ n → 0 < natural (read ps i).count → RestIsSide n ps i low → RestIsSide n ps (i + 1) (read ps i).species
side_more n ps i low l a b d e =
    let same = dropped ps i l in
    record {
      down = λ k. (subst (λ (xs : List Part). AreParts low n (parts_of xs)) same (e.down k)).3;
      up = λ k. e.up (subst (λ (xs : List Part). AreParts low n (parts_of xs)) (sym same) (a, b, d, k));
    }

pub side_stops : (n : ℕ) (ps : List Part) (i low : ℕ) → i < length ps → (low < (read ps i).species → (read ps i).species ≤ n → 0 < natural (read ps i).count → ⊥) → RestIsSide n ps i low → AreParts 0 n (parts_of ps) → ⊥
side_stops n ps i low l stops e k =
    let here : AreParts low n (part_of (read ps i) ∷ parts_of (drop (i + 1) ps)) = subst (λ (xs : List Part). AreParts low n (parts_of xs)) (dropped ps i l) (e.down k) in
    stops here.0 here.1 here.2

pub side_all : (n : ℕ) (ps : List Part) (i low : ℕ) → length ps ≤ i → RestIsSide n ps i low → AreParts 0 n (parts_of ps)
side_all n ps i low l e = e.up (subst (λ (xs : List Part). AreParts low n (parts_of xs)) (sym (drop_all i ps l)) tt)

pub natural_positive : (z : ℤ) → pos 1 ≤ℤ z → 0 < natural z
natural_positive (pos n) h = omega (arith, ints, h)
natural_positive (negsuc n) h = absurd (omega (arith, ints, h))

pub positive_natural : (z : ℤ) → 0 < natural z → pos 1 ≤ℤ z
positive_natural (pos n) h = omega (arith, ints, h)
positive_natural (negsuc n) h = absurd (omega arith)
