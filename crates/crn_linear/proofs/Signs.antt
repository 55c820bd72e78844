-- Entries with every sign changed.
use Rattle.std.proofs.Common.{◌≡◌, ℕ, List, length, get_or, arith}
use Rattle.std.specs.Prelude.{ℤ, pos, neg_ℤ}
use Rattle.std.proofs.lemmas.Int.{ints}
use Rattle.std.proofs.lemmas.List.{length-map}
use Rattle.std.proofs.lemmas.List.Elements.{All-map}
use Rattle.std.proofs.Math.ListN.{get_or-map}
use Rattle.crn_linear.specs.Rows.{IsSmall, AreSmall, opposite_of}
use Rattle.crn_linear.specs.Views.{HasColumns}

-- as many entries
pub length-opposite_of : (xs : List ℤ) → length (opposite_of xs) ≡ length xs
length-opposite_of xs = length-map xs neg_ℤ

-- each entry has its sign changed
pub get_or-opposite_of : (xs : List ℤ) (i : ℕ) → get_or (opposite_of xs) i (pos 0) ≡ neg_ℤ (get_or xs i (pos 0))
get_or-opposite_of xs i = get_or-map neg_ℤ xs i (pos 0)

-- and is as small
pub AreSmall-opposite_of : (xs : List ℤ) → AreSmall xs → AreSmall (opposite_of xs)
AreSmall-opposite_of xs s = All-map IsSmall neg_ℤ xs (λ k d h. negated (s k d h))
  where
    negated : {x : ℤ} → IsSmall x → IsSmall (neg_ℤ x)
    negated h = record { size = omega (arith, ints, h.size) }

-- in as many columns
pub HasColumns-opposite_of : (xs : List ℤ) → HasColumns xs → HasColumns (opposite_of xs)
HasColumns-opposite_of xs c =
    let long = length-opposite_of xs in
    record { some = omega (arith, long, c.some); few = omega (arith, long, c.few) }
