-- The reactions that take a species, and the table of them.
use Rattle.std.specs.Prelude.{◌≡◌, ℕ, zero, suc, ◌≤◌, ◌<◌, ◌+◌, ◌==◌, if◌then◌else◌, List, [], ◌∷◌, ◌++◌, length, get_or, filter, nat_lt, slice_range}
use Rattle.std.specs.List.{range_with_len}
use Rattle.crn_net.specs.Network.{Network, Reaction, Part, taken}
use Rattle.crn_net.specs.declared.takers.Entry.{Entry}

-- ascending
abbrev pub takers_of : Network → ℕ → List ℕ
takers_of net s = filter (λ r. nat_lt 0 (taken net r s)) (range_with_len 1 (length net.reactions))

-- of n species, the numbers of species s stand from the start of s up to that of the next species
pub record IsTable (n : ℕ) (listed : ℕ → List ℕ) (starts numbers : List ℕ) : Type 0 where
  pub long : length starts ≡ n + 1
  pub ordered : (i : ℕ) → i < n → get_or starts i 0 ≤ get_or starts (i + 1) 0
  pub ends : (i : ℕ) → i ≤ n → get_or starts i 0 ≤ length numbers
  pub exact : (i : ℕ) → i < n → slice_range numbers (get_or starts i 0) (get_or starts (i + 1) 0) ≡ listed (i + 1)

-- ---- how the table is made

-- an entry for each part that reaction r takes
abbrev pub entries_of : ℕ → List Part → List Entry
entries_of r [] = []
entries_of r (p ∷ ps) = record { species = p.species; reaction = r } ∷ entries_of r ps

-- and for each of reactions, numbered from r
abbrev pub entries_from : ℕ → List Reaction → List Entry
entries_from r [] = []
entries_from r (q ∷ qs) = entries_of r q.takes ++ entries_from (suc r) qs

-- the reactions of the entries of species s
abbrev pub numbers_of : ℕ → List Entry → List ℕ
numbers_of s [] = []
numbers_of s (e ∷ es) = if e.species == s then e.reaction ∷ numbers_of s es else numbers_of s es

-- f 0 + .. + f n
abbrev pub sum_upto : (ℕ → ℕ) → ℕ → ℕ
sum_upto f zero = f zero
sum_upto f (suc n) = sum_upto f n + f (suc n)

-- where the entries of species s begin, where each species has its own one after another
abbrev pub start_of : List Entry → ℕ → ℕ
start_of es i = sum_upto (λ s. length (numbers_of s es)) i

-- each entry is of a species from 1 to n
abbrev pub AreEntries : ℕ → List Entry → Type 0
AreEntries n [] = Unit {0}
AreEntries n (e ∷ es) = (1 ≤ e.species) × (e.species ≤ n) × AreEntries n es
