-- Free rails of which some are taken: the others stay free.
use Rattle.std.proofs.Common.{ℕ, zero, suc, List, [], ◌∷◌, take, drop, sym}
use Rattle.crn_net.specs.Network.{IsApart, AreDifferent}
use Rattle.crn_gates.proofs.BuildingLaws.{free_different}
use Rattle.crn_gates.specs.Building.{AllFree}
use Rattle.crn_gates.specs.Calls.{Moves}
use Rattle.crn_gates.specs.Gates.{Built}

-- the first rails, and the others
pub IsApart-take : (n x : ℕ) (xs : List ℕ) → IsApart x xs → IsApart x (take n xs)
IsApart-take zero x xs h = tt
IsApart-take (suc n) x [] h = tt
IsApart-take (suc n) x (y ∷ xs) h = (h.0, IsApart-take n x xs h.1)

pub IsApart-drop : (n x : ℕ) (xs : List ℕ) → IsApart x xs → IsApart x (drop n xs)
IsApart-drop zero x xs h = h
IsApart-drop (suc n) x [] h = tt
IsApart-drop (suc n) x (y ∷ xs) h = IsApart-drop n x xs h.1

pub AllFree-take : (b : Built) (n : ℕ) (xs : List ℕ) → AllFree b xs → AllFree b (take n xs)
AllFree-take b zero xs h = tt
AllFree-take b (suc n) [] h = tt
AllFree-take b (suc n) (x ∷ xs) h = (h.0, IsApart-take n x xs h.1, AllFree-take b n xs h.2)

pub AllFree-drop : (b : Built) (n : ℕ) (xs : List ℕ) → AllFree b xs → AllFree b (drop n xs)
AllFree-drop b zero xs h = h
AllFree-drop b (suc n) [] h = tt
AllFree-drop b (suc n) (x ∷ xs) h = AllFree-drop b n xs h.2

-- each of ys is none of xs
abbrev pub AreApart : List ℕ → List ℕ → Type 0
AreApart [] xs = Unit {0}
AreApart (y ∷ ys) xs = IsApart y xs × AreApart ys xs

pub nothing_apart : (ys : List ℕ) → AreApart ys []
nothing_apart [] = tt
nothing_apart (y ∷ ys) = (tt, nothing_apart ys)

pub AreApart-cons : (x : ℕ) (xs ys : List ℕ) → IsApart x ys → AreApart ys xs → AreApart ys (x ∷ xs)
AreApart-cons x xs [] h k = tt
AreApart-cons x xs (y ∷ ys) h k = ((λ e. h.0 (sym e), k.0), AreApart-cons x xs ys h.1 k.1)

-- of different rails, the later ones are none of the first
parts_apart : (n : ℕ) (xs : List ℕ) → AreDifferent xs → AreApart (drop n xs) (take n xs)
parts_apart zero xs h = nothing_apart xs
parts_apart (suc n) [] h = tt
parts_apart (suc n) (x ∷ xs) h = AreApart-cons x (take n xs) (drop n xs) (IsApart-drop n x xs h.0) (parts_apart n xs h.1)

-- rails that are not taken stay free
pub stay_free : (b b' : Built) (xs ys zs : List ℕ) → Moves b b' xs zs → AllFree b ys → AreApart ys xs → AllFree b' ys
stay_free b b' xs [] zs m h k = tt
stay_free b b' xs (y ∷ ys) zs m h k = (m.others y h.0 k.0, h.1, stay_free b b' xs ys zs m h.2 k.1)

-- so do the later ones of free rails of which the first are taken
pub later_free : (b b' : Built) (n : ℕ) (xs zs : List ℕ) → Moves b b' (take n xs) zs → AllFree b xs → AllFree b' (drop n xs)
later_free b b' n xs zs m h = stay_free b b' (take n xs) (drop n xs) zs m (AllFree-drop b n xs h) (parts_apart n xs (free_different b xs h))

-- and those that are none of two that are taken
pub none_of_two : (x y : ℕ) (ys : List ℕ) → IsApart x ys → IsApart y ys → AreApart ys (x ∷ y ∷ [])
none_of_two x y ys h k = AreApart-cons x (y ∷ []) ys h (AreApart-cons y [] ys k (nothing_apart ys))
