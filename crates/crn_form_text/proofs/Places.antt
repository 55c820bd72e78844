-- Lists of nine places that are filled from the first.
use Rattle.std.proofs.Common.{◌≡◌, ℕ, suc, ◌+◌, ◌-◌, ◌<◌, List, [], ◌∷◌, ◌++◌, length, take, get_or, refl, sym, ap, ◌∙◌, arith, append_assoc}
use Rattle.std.specs.Prelude.{replicate, slice_set}
use Rattle.std.proofs.Math.Seq.{set-append_seam, take-suc}
use Rattle.std.proofs.lemmas.List.{length-take-le}

split_last : {X : Type 0} (n i : ℕ) (z : X) → i < n → replicate (n - i) z ≡ z ∷ replicate (n - (i + 1)) z
split_last n i z h = let e : n - i ≡ suc (n - (i + 1)) = omega arith in rw e refl

-- the next place
pub fill_next : {X : Type 0} (n : ℕ) (xs places : List X) (i : ℕ) (v z : X) → i < length xs → i < n → places ≡ take i xs ++ replicate (n - i) z → v ≡ get_or xs i z
    → slice_set places i v ≡ take (i + 1) xs ++ replicate (n - (i + 1)) z
fill_next n xs places i v z h k e f =
    let long : length (take i xs) ≡ i = length-take-le i xs (omega arith) in
    let more : i + 1 ≡ suc i = omega arith in
    let next : take (i + 1) xs ≡ take i xs ++ v ∷ [] = rw (more, f) (take-suc xs i z h) in
    ap (λ p. slice_set p i v) (e ∙ ap (λ r. take i xs ++ r) (split_last n i z k))
    ∙ ap (λ j. slice_set (take i xs ++ z ∷ replicate (n - (i + 1)) z) j v) (sym long)
    ∙ set-append_seam (take i xs) z (replicate (n - (i + 1)) z) v
    ∙ sym (append_assoc (take i xs) (v ∷ []) (replicate (n - (i + 1)) z))
    ∙ ap (λ t. t ++ replicate (n - (i + 1)) z) (sym next)
