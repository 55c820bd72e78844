-- Chemical reaction networks over nonnegative rational amounts. Species and reactions are numbered from 1.
use Rattle.std.specs.Prelude.{◌≡◌, ◌≢◌, ℕ, zero, suc, ◌+◌, ◌<◌, ◌≤◌, ◌==◌, if◌then◌else◌, List, [], ◌∷◌, ◌++◌, map, length, get_or, Option, None, Some, pos}
use Rattle.std.specs.List.{range_with_len}
use Rattle.crn_fraction.specs.Rational.{ℚ, 0ℚ, ◌+ℚ◌, ◌-ℚ◌, ◌*ℚ◌, ◌/ℚ◌, ◌≤ℚ◌, ◌<ℚ◌, whole, min_ℚ, is_zero_ℚ}
pub use Rattle.crn_net.specs.declared.Rails.{Rails}
pub use Rattle.crn_net.specs.declared.Rails.TheVariants.{Dual, Direct}
pub use Rattle.crn_net.specs.declared.Ends.{Ends}
pub use Rattle.crn_net.specs.declared.Ends.TheVariants.{Pair, One}
pub use Rattle.crn_net.specs.declared.Flow.{Flow}

-- ---- networks

-- so many of a species, on one side of a reaction
pub record Part : Type 0 where
  pub species : ℕ
  pub count : ℕ

-- what a reaction takes, and what it gives
pub record Reaction : Type 0 where
  pub takes : List Part
  pub gives : List Part

-- the context species, where there is one, begins with the amount 1 whatever the inputs are
pub record Network : Type 0 where
  pub rails : Rails
  pub species : ℕ
  pub reactions : List Reaction
  pub inputs : List Ends
  pub output : Ends
  pub context : Option ℕ

-- how many of species s a side of a reaction has
abbrev pub count_of : List Part → ℕ → ℕ
count_of [] s = 0
count_of (p ∷ ps) s = (if p.species == s then p.count else 0) + count_of ps s

-- reaction r of a list; one that does not exist takes and gives nothing
abbrev pub numbered : List Reaction → ℕ → Reaction
numbered rs zero = record { takes = []; gives = [] }
numbered rs (suc i) = get_or rs i (record { takes = []; gives = [] })

-- how many of species s reaction r takes
unfoldable pub taken : Network → ℕ → ℕ → ℕ
taken net r s = count_of (numbered net.reactions r).takes s

-- how many of species s reaction r gives
unfoldable pub given : Network → ℕ → ℕ → ℕ
given net r s = count_of (numbered net.reactions r).gives s

-- ---- well formed networks

-- the parts are of species above `low` and up to n, ascending, and no count is 0
abbrev pub AreParts : ℕ → ℕ → List Part → Type 0
AreParts low n [] = Unit {0}
AreParts low n (p ∷ ps) = (low < p.species) × (p.species ≤ n) × (0 < p.count) × AreParts p.species n ps

-- a reaction of a network of n species takes something, and its sides are well formed
pub record IsReaction (n : ℕ) (r : Reaction) : Type 0 where
  pub some_reactant : 0 < length r.takes
  pub takes : AreParts 0 n r.takes
  pub gives : AreParts 0 n r.gives

abbrev pub AreReactions : Network → Type 0
AreReactions net = (r : ℕ) → 1 ≤ r → r ≤ length net.reactions → IsReaction net.species (numbered net.reactions r)

-- the ends are of the sort of the rails, their species exist, and those of a pair differ
abbrev pub IsEnds : Rails → ℕ → Ends → Type 0
IsEnds Dual n (Pair a b) = (1 ≤ a) × (a ≤ n) × (1 ≤ b) × (b ≤ n) × (a ≢ b)
IsEnds Dual n (One a) = ⊥
IsEnds Direct n (Pair a b) = ⊥
IsEnds Direct n (One a) = (1 ≤ a) × (a ≤ n)

abbrev pub AreEnds : Rails → ℕ → List Ends → Type 0
AreEnds rails n [] = Unit {0}
AreEnds rails n (e ∷ es) = IsEnds rails n e × AreEnds rails n es

-- the species of the inputs, in order; of a pair, plus before minus
abbrev pub input_species : List Ends → List ℕ
input_species [] = []
input_species (Pair a b ∷ is) = a ∷ b ∷ input_species is
input_species (One a ∷ is) = a ∷ input_species is

-- x is not among them
abbrev pub IsApart : ℕ → List ℕ → Type 0
IsApart x [] = Unit {0}
IsApart x (y ∷ ys) = (x ≢ y) × IsApart x ys

-- no two of them are the same
abbrev pub AreDifferent : List ℕ → Type 0
AreDifferent [] = Unit {0}
AreDifferent (x ∷ xs) = IsApart x xs × AreDifferent xs

-- the context species, where there is one, exists and belongs to no input
abbrev pub IsContext : ℕ → List Ends → Option ℕ → Type 0
IsContext n inputs None = Unit {0}
IsContext n inputs (Some k) = (1 ≤ k) × (k ≤ n) × IsApart k (input_species inputs)

-- a well formed network
pub record IsNetwork (net : Network) : Type 0 where
  pub reactions : AreReactions net
  pub inputs : AreEnds net.rails net.species net.inputs
  pub different : AreDifferent (input_species net.inputs)
  pub output : IsEnds net.rails net.species net.output
  pub context : IsContext net.species net.inputs net.context

-- ---- states and segments

-- the amount of species s in a state
abbrev pub amount : List ℚ → ℕ → ℚ
amount c zero = 0ℚ
amount c (suc i) = get_or c i 0ℚ

abbrev pub IsNotNegative : List ℚ → Type 0
IsNotNegative c = (s : ℕ) → 0ℚ ≤ℚ amount c s

-- one amount for each species, none negative
pub record IsState (net : Network) (c : List ℚ) : Type 0 where
  pub long : length c ≡ net.species
  pub not_negative : IsNotNegative c

-- f 1 + .. + f n
abbrev pub sum_to : ℕ → (ℕ → ℚ) → ℚ
sum_to zero f = 0ℚ
sum_to (suc n) f = sum_to n f +ℚ f (suc n)

-- the flux of reaction r in a segment; 0 where the segment does not name r
abbrev pub flux_of : List Flow → ℕ → ℚ
flux_of [] r = 0ℚ
flux_of (f ∷ fs) r = (if f.reaction == r then f.flux else 0ℚ) +ℚ flux_of fs r

-- the state after a segment: of each species its amount, and of each reaction (given - taken) times its flux
unfoldable pub after : Network → List ℚ → List Flow → List ℚ
after net c u =
    map (λ s. amount c s +ℚ sum_to (length net.reactions) (λ r. (whole (pos (given net r s)) -ℚ whole (pos (taken net r s))) *ℚ flux_of u r))
    (range_with_len 1 net.species)

-- each species that reaction r takes is there
abbrev pub IsApplicable : Network → ℕ → List ℚ → Type 0
IsApplicable net r c = (s : ℕ) → 0 < taken net r s → 0ℚ <ℚ amount c s

-- each flow is of a reaction from 1 to n, and not negative
abbrev pub AreFlows : ℕ → List Flow → Type 0
AreFlows n [] = Unit {0}
AreFlows n (f ∷ fs) = (1 ≤ f.reaction) × (f.reaction ≤ n) × (0ℚ ≤ℚ f.flux) × AreFlows n fs

-- the segment may happen at c: its reactions exist, what has a flux has its reactants, and no amount gets negative
pub record IsLegal (net : Network) (c : List ℚ) (u : List Flow) : Type 0 where
  pub flows : AreFlows (length net.reactions) u
  pub applicable : (r : ℕ) → 0ℚ <ℚ flux_of u r → IsApplicable net r c
  pub enough : (s : ℕ) → 0ℚ ≤ℚ amount (after net c u) s

-- the segments are legal in turn, and lead from c to d
abbrev pub Run : Network → List ℚ → List (List Flow) → List ℚ → Type 0
Run net c [] d = d ≡ c
Run net c (u ∷ us) d = IsLegal net c u × Run net (after net c u) us d

-- the state after segments in turn
abbrev pub after_all : Network → List ℚ → List (List Flow) → List ℚ
after_all net c [] = c
after_all net c (u ∷ us) = after_all net (after net c u) us

-- ---- starts and outputs

abbrev pub AreNotNegative : List ℚ → Type 0
AreNotNegative [] = Unit {0}
AreNotNegative (x ∷ xs) = (0ℚ ≤ℚ x) × AreNotNegative xs

-- one amount for each species of the inputs, none negative
pub record AreAmounts (net : Network) (xs : List ℚ) : Type 0 where
  pub long : length xs ≡ length (input_species net.inputs)
  pub not_negative : AreNotNegative xs

-- the amount that the lists give to species s
abbrev pub given_to : List ℕ → List ℚ → ℕ → ℚ
given_to [] xs s = 0ℚ
given_to (i ∷ is) [] s = 0ℚ
given_to (i ∷ is) (x ∷ xs) s = if i == s then x else given_to is xs s

-- 1 where s is the context species, and otherwise x
abbrev pub or_context : Option ℕ → ℕ → ℚ → ℚ
or_context None s x = x
or_context (Some k) s x = if k == s then whole (pos 1) else x

-- the state with these amounts on the inputs, 1 on the context species where there is one, and 0 elsewhere
unfoldable pub start : Network → List ℚ → List ℚ
start net xs = map (λ s. or_context net.context s (given_to (input_species net.inputs) xs s)) (range_with_len 1 net.species)

-- of plus and minus in turn, plus less minus
abbrev pub differences : List ℚ → List ℚ
differences [] = []
differences (p ∷ []) = []
differences (p ∷ m ∷ xs) = (p -ℚ m) ∷ differences xs

-- the point that amounts of the inputs encode
abbrev pub encoded : Rails → List ℚ → List ℚ
encoded Dual xs = differences xs
encoded Direct xs = xs

-- the value of a pair or of a single species
abbrev pub value_at : Ends → (ℕ → ℚ) → ℚ
value_at (Pair a b) m = m a -ℚ m b
value_at (One a) m = m a

abbrev pub output : Network → List ℚ → ℚ
output net c = value_at net.output (amount c)

-- the output is v at the end of every run from c
abbrev pub IsSettled : Network → List ℚ → ℚ → Type 0
IsSettled net c v = (us : List (List Flow)) (d : List ℚ) → Run net c us d → output net d ≡ v

-- ---- the completion

-- the least quotient of amount and count over the parts, by the amounts m
abbrev pub greatest : List Part → (ℕ → ℚ) → ℚ
greatest [] m = 0ℚ
greatest (p ∷ []) m = m p.species /ℚ whole (pos p.count)
greatest (p ∷ q ∷ ps) m = min_ℚ (m p.species /ℚ whole (pos p.count)) (greatest (q ∷ ps) m)

-- the greatest flux for which no reactant of reaction r runs short
unfoldable pub greatest_flux : Network → ℕ → (ℕ → ℚ) → ℚ
greatest_flux net r m = greatest (numbered net.reactions r).takes m

-- a segment of one reaction
abbrev pub alone : ℕ → ℚ → List Flow
alone r u = record { reaction = r; flux = u } ∷ []

-- reaction r alone with its greatest flux; no segment where that is 0
abbrev pub with_greatest : Network → ℕ → List ℚ → List (List Flow)
with_greatest net r c =
    if is_zero_ℚ (greatest_flux net r (amount c)) then [] else alone r (greatest_flux net r (amount c)) ∷ []

-- the completion from c by the first r reactions, in ascending order
unfoldable pub completion_to : Network → ℕ → List ℚ → List (List Flow)
completion_to net zero c = []
completion_to net (suc r) c = completion_to net r c ++ with_greatest net (suc r) (after_all net c (completion_to net r c))

abbrev pub completion : Network → List ℚ → List (List Flow)
completion net c = completion_to net (length net.reactions) c

-- the state after it
abbrev pub completed : Network → List ℚ → List ℚ
completed net c = after_all net c (completion net c)

-- ---- stable computation, for one list of amounts and one number

-- whatever run comes first from the start with these amounts, the completion after it is a run, and its end has the output v, which no further run changes
pub record StablyComputes (net : Network) (xs : List ℚ) (v : ℚ) : Type 0 where
  pub completes : (us : List (List Flow)) (c : List ℚ) → Run net (start net xs) us c → Run net c (completion net c) (completed net c)
  pub settles : (us : List (List Flow)) (c : List ℚ) → Run net (start net xs) us c → IsSettled net (completed net c) v

-- ---- feed-forward networks

-- each species is taken by at most one reaction, and each reaction that gives it has a smaller number than the one that takes it
pub record IsFeedForward (net : Network) : Type 0 where
  pub one_taker : (q r s : ℕ) → 0 < taken net q s → 0 < taken net r s → q ≡ r
  pub givers_first : (q r s : ℕ) → 0 < given net q s → 0 < taken net r s → q < r
