-- The elements of a list, replaced one after another.
use Rattle.std.proofs.Common.{◌≡◌, ℕ, suc, ◌+◌, ◌<◌, ◌≤◌, List, [], ◌∷◌, ◌++◌, length, get_or, set, take, drop, map, sym, ◌∙◌, ap, ap₂, arith, add-one, append_assoc, append-nil, take_all, drop-cons}
use Rattle.std.proofs.Math.Seq.{take-suc-set}
use Rattle.std.proofs.lemmas.List.{map-append, drop-set-lt, drop_all}

-- what is done shows as what was left to do
pub replaced : {X Y : Type 0} (done left : X → Y) (xs : List X) (i : ℕ) (y d : X) → i < length xs → done y ≡ left (get_or xs i d)
    → map done (take (i + 1) (set xs i y)) ++ map left (drop (i + 1) (set xs i y)) ≡ map done (take i xs) ++ map left (drop i xs)
replaced done left xs i y d within same =
    let front : take (i + 1) (set xs i y) ≡ take i xs ++ y ∷ [] = ap (λ n. take n (set xs i y)) (add-one i) ∙ take-suc-set xs i y within in
    let back : drop (i + 1) (set xs i y) ≡ drop (suc i) xs = drop-set-lt (i + 1) xs i y (omega arith) ∙ ap (λ n. drop n xs) (add-one i) in
    let rest : map left (drop i xs) ≡ left (get_or xs i d) ∷ map left (drop (suc i) xs) = ap (map left) (drop-cons xs i d within) in
    ap₂ (λ a b. map done a ++ map left b) front back
    ∙ ap (λ a. a ++ map left (drop (suc i) xs)) (map-append done (take i xs) (y ∷ []))
    ∙ append_assoc (map done (take i xs)) (done y ∷ []) (map left (drop (suc i) xs))
    ∙ ap (λ z. map done (take i xs) ++ z ∷ map left (drop (suc i) xs)) same
    ∙ ap (λ a. map done (take i xs) ++ a) (sym rest)

-- where nothing is left, all is done
pub all_replaced : {X Y : Type 0} (done left : X → Y) (xs : List X) (n : ℕ) (whole : List Y) → length xs ≤ n → map done (take n xs) ++ map left (drop n xs) ≡ whole → map done xs ≡ whole
all_replaced done left xs n whole past told =
    sym (append-nil (map done xs)) ∙ ap₂ (λ a b. map done a ++ map left b) (sym (take_all n xs past)) (sym (drop_all n xs past)) ∙ told
