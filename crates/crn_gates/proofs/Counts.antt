-- The counts of gates: 1, and the numerators and denominators of factors.
use Rattle.std.proofs.Common.{ℕ, zero, suc, ◌<◌, ◌^◌, ◌==◌, Bool, true, false, cond, ℤ, pos, negsuc, List, [], ◌∷◌, ◌++◌, length, lit<}
use Rattle.std.specs.Prelude.{unsigned_abs}
use Rattle.crn_fraction.specs.Rational.{ℚ}
use Rattle.crn_fraction.specs.Frac.{IsFrac}
use Rattle.crn_net.specs.Network.{Part, Reaction}
use Rattle.crn_net.specs.Reactions.{EachCount, EachCountOn}
use Rattle.crn_gates.specs.Gates.{renamed_parts, renamed, Built, stamped, slot_species, Factor, Zero, Up, Down, signed, factor_of, transfer, scale_table, transfer_single, Operand, OfPair, OfRail, leaf_from, leaf_table, width_of, transfer_one, leaf_one_from, leaf_one_table, min_one_table, add_table, sub_table, min_table, max_table}
use Rattle.crn_gates.specs.FanOut.{copies_of, fan, fans, fanned}

-- a fact that holds of each number below 2^63
module _ (P : ℕ → Type 0) (small : (n : ℕ) → n < 2 ^ 63 → P n) where
  one_is : P 1
  one_is = small 1 (lit< tt)

  -- ---- stamping

  pub counts_append : (xs ys : List Reaction) → EachCountOn P xs → EachCountOn P ys → EachCountOn P (xs ++ ys)
  counts_append [] ys first second = second
  counts_append (x ∷ xs) ys first second = (first.0, first.1, counts_append xs ys first.2 second)

  renamed_part_counts : (f : ℕ → ℕ) (ps : List Part) → EachCount P ps → EachCount P (renamed_parts f ps)
  renamed_part_counts f [] all = tt
  renamed_part_counts f (p ∷ ps) all = (all.0, renamed_part_counts f ps all.1)

  renamed_counts : (f : ℕ → ℕ) (rs : List Reaction) → EachCountOn P rs → EachCountOn P (renamed f rs)
  renamed_counts f [] all = tt
  renamed_counts f (r ∷ rs) all = (renamed_part_counts f r.takes all.0, renamed_part_counts f r.gives all.1, renamed_counts f rs all.2)

  pub stamped_counts : (xs : List ℕ) (new : ℕ) (t : List Reaction) (b : Built) → EachCountOn P t → EachCountOn P b.reactions → EachCountOn P (stamped xs new t b).reactions
  stamped_counts xs new t b table before = counts_append b.reactions (renamed (slot_species xs b.species) t) before (renamed_counts (slot_species xs b.species) t table)

  -- ---- fan-out

  copies_counts : (rail : ℕ) (rs : List ℕ) (n : ℕ) → EachCount P (copies_of rail rs n)
  copies_counts rail [] n = tt
  copies_counts rail (r ∷ rs) n = go (r == rail) (copies_counts rail rs (suc n))
    where
      go : (b : Bool) → EachCount P (copies_of rail rs (suc n)) → EachCount P (cond b (record { species = suc n; count = 1 } ∷ copies_of rail rs (suc n)) (copies_of rail rs (suc n)))
      go true rest = (one_is, rest)
      go false rest = rest

  fan_counts : (rail : ℕ) (cs : List Part) → EachCount P cs → EachCountOn P (fan rail cs)
  fan_counts rail [] all = tt
  fan_counts rail (c ∷ cs) all = ((one_is, tt), all, tt)

  fans_counts : (rail j : ℕ) (rs : List ℕ) (n : ℕ) → EachCountOn P (fans rail j rs n)
  fans_counts rail zero rs n = tt
  fans_counts rail (suc j) rs n = counts_append (fan rail (copies_of rail rs n)) (fans (suc rail) j rs n) (fan_counts rail (copies_of rail rs n) (copies_counts rail rs n)) (fans_counts (suc rail) j rs n)

  pub fanned_counts : (n : ℕ) (rs : List ℕ) → EachCountOn P (fanned n rs).reactions
  fanned_counts n rs = fans_counts 1 n rs n

  -- ---- factors

  abbrev pub IsCounted : Factor → Type 0
  IsCounted Zero = Unit {0}
  IsCounted (Up p q) = P p × P q
  IsCounted (Down p q) = P p × P q

  signed_counts : (n : ℤ) (d : ℕ) → unsigned_abs n < 2 ^ 63 → d < 2 ^ 63 → IsCounted (signed n d)
  signed_counts (pos zero) d low below = tt
  signed_counts (pos (suc n)) d low below = (small (suc n) low, small d below)
  signed_counts (negsuc n) d low below = (small (suc n) low, small d below)

  pub factor_counts : (q : ℚ) → IsFrac q → IsCounted (factor_of q)
  factor_counts q fits = signed_counts q.num q.den fits.num_fits fits.den_fits

  -- ---- tables of factors

  transfer_counts : (f : Factor) (a b y z : ℕ) → IsCounted f → EachCountOn P (transfer f a b y z)
  transfer_counts Zero a b y z counts = tt
  transfer_counts (Up p q) a b y z counts = ((counts.1, tt), (counts.0, tt), ((counts.1, tt), (counts.0, tt), tt))
  transfer_counts (Down p q) a b y z counts = ((counts.1, tt), (counts.0, tt), ((counts.1, tt), (counts.0, tt), tt))

  pub scale_counts : (f : Factor) → IsCounted f → EachCountOn P (scale_table f)
  scale_counts f counts = transfer_counts f 0 1 2 3 counts

  transfer_single_counts : (f : Factor) (a y z : ℕ) → IsCounted f → EachCountOn P (transfer_single f a y z)
  transfer_single_counts Zero a y z counts = tt
  transfer_single_counts (Up p q) a y z counts = ((counts.1, tt), (counts.0, tt), tt)
  transfer_single_counts (Down p q) a y z counts = ((counts.1, tt), (counts.0, tt), tt)

  abbrev pub AreCountedOperands : List Operand → Type 0
  AreCountedOperands [] = Unit {0}
  AreCountedOperands (OfPair f ∷ ts) = IsCounted f × AreCountedOperands ts
  AreCountedOperands (OfRail f ∷ ts) = IsCounted f × AreCountedOperands ts

  leaf_counts_from : (i : ℕ) (ts : List Operand) (y : ℕ) → AreCountedOperands ts → EachCountOn P (leaf_from i ts y)
  leaf_counts_from i [] y counts = tt
  leaf_counts_from i (OfPair f ∷ ts) y counts =
      counts_append (transfer f i (suc i) y (suc y)) (leaf_from (suc (suc i)) ts y) (transfer_counts f i (suc i) y (suc y) counts.0) (leaf_counts_from (suc (suc i)) ts y counts.1)
  leaf_counts_from i (OfRail f ∷ ts) y counts =
      counts_append (transfer_single f i y (suc y)) (leaf_from (suc i) ts y) (transfer_single_counts f i y (suc y) counts.0) (leaf_counts_from (suc i) ts y counts.1)

  pub leaf_counts : (ts : List Operand) → AreCountedOperands ts → EachCountOn P (leaf_table ts)
  leaf_counts ts counts = leaf_counts_from 0 ts (width_of ts) counts

  transfer_one_counts : (f : Factor) (a y : ℕ) → IsCounted f → EachCountOn P (transfer_one f a y)
  transfer_one_counts Zero a y counts = tt
  transfer_one_counts (Up p q) a y counts = ((counts.1, tt), (counts.0, tt), tt)
  transfer_one_counts (Down p q) a y counts = tt

  abbrev pub AreCounted : List Factor → Type 0
  AreCounted [] = Unit {0}
  AreCounted (f ∷ fs) = IsCounted f × AreCounted fs

  leaf_one_counts_from : (i : ℕ) (fs : List Factor) (y : ℕ) → AreCounted fs → EachCountOn P (leaf_one_from i fs y)
  leaf_one_counts_from i [] y counts = tt
  leaf_one_counts_from i (f ∷ fs) y counts = counts_append (transfer_one f i y) (leaf_one_from (suc i) fs y) (transfer_one_counts f i y counts.0) (leaf_one_counts_from (suc i) fs y counts.1)

  pub leaf_one_counts : (fs : List Factor) → AreCounted fs → EachCountOn P (leaf_one_table fs)
  leaf_one_counts fs counts = leaf_one_counts_from 0 fs (length fs) counts

  -- ---- tables of ones

  pub min_one_counts : EachCountOn P min_one_table
  min_one_counts = ((one_is, (one_is, tt)), (one_is, tt), tt)

  pub add_counts : EachCountOn P add_table
  add_counts = ((one_is, tt), (one_is, tt), ((one_is, tt), (one_is, tt), ((one_is, tt), (one_is, tt), ((one_is, tt), (one_is, tt), tt))))

  pub sub_counts : EachCountOn P sub_table
  sub_counts = ((one_is, tt), (one_is, tt), ((one_is, tt), (one_is, tt), ((one_is, tt), (one_is, tt), ((one_is, tt), (one_is, tt), tt))))

  pub min_counts : EachCountOn P min_table
  min_counts = ((one_is, tt), (one_is, tt), ((one_is, tt), (one_is, (one_is, tt)), ((one_is, tt), (one_is, tt), ((one_is, tt), (one_is, (one_is, tt)), ((one_is, (one_is, tt)), (one_is, tt), tt)))))

  pub max_counts : EachCountOn P max_table
  max_counts = ((one_is, tt), (one_is, tt), ((one_is, tt), (one_is, (one_is, tt)), ((one_is, tt), (one_is, tt), ((one_is, tt), (one_is, (one_is, tt)), ((one_is, (one_is, tt)), (one_is, tt), tt)))))
