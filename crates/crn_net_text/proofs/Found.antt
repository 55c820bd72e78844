-- What is known where a line was read.
use Rattle.std.proofs.Common.{◌≡◌, ℕ, zero, suc, ◌+◌, ◌<◌, ◌≤◌, Bool, true, false, cond, ◌&&◌, ◌==◌, List, [], ◌∷◌, length, drop, Option, Some, None, sym, ap, subst, arith, false-eqb}
use Rattle.std.proofs.lemmas.Bool.{ltb-true, leb-true, and_parts}
use Rattle.std.specs.Prelude.{codes, nat_lt, nat_le}
use Rattle.std.specs.Option.{option_map, option_and_then}
use Rattle.std.proofs.lemmas.Option.{same_Some}
use Rattle.crn_token.specs.Plain.{Plain}
use Rattle.crn_token.specs.Words.{rest_of, begins, number_at}
use Rattle.crn_net.specs.Network.{Part, Reaction, AreParts, IsReaction, IsEnds}
use Rattle.crn_net.specs.declared.Rails.{Rails}
use Rattle.crn_net.specs.declared.Rails.TheVariants.{Dual, Direct}
use Rattle.crn_net.specs.declared.Ends.{Ends}
use Rattle.crn_net.specs.declared.Ends.TheVariants.{Pair, One}
use Rattle.crn_net_text.specs.Grammar.{within, species_at, many, part_by, part_at, side_at, side_of, gives_of, reaction_with, reaction_of, one_of, pair_with, ends_of, is_plus, is_arrow, is_nothing}
use Rattle.crn_token.proofs.Options.{then_found, map_found, if_found, else_found}

-- ---- parts and sides
pub within_found : (low n m a : ℕ) → within low n m ≡ Some a → (low < a) × (a ≤ n) × (m ≡ a)
within_found low n m a is =
    let (test, same) = if_found (nat_lt low m && nat_le m n) (Some m) a is in
    let m_is : m ≡ a = same_Some m a same in
    let (above, below) = and_parts (nat_lt low m) (nat_le m n) test in
    (subst (λ k. low < k) m_is (ltb-true low m above), subst (λ k. k ≤ n) m_is (leb-true m n below), m_is)

pub species_found : (low n a : ℕ) (ts : List Plain) → species_at low n ts ≡ Some a → (low < a) × (a ≤ n)
species_found low n a ts is =
    let (test, rest) = if_found (begins (codes "S") ts) (option_and_then (within low n) (number_at (rest_of ts))) a is in
    let (m, number, here) = then_found (within low n) (number_at (rest_of ts)) a rest in
    let (above, below, same) = within_found low n m a here in
    (above, below)

-- a part of a species above `low` and up to n, of which there is some
abbrev IsPart : ℕ → ℕ → Part → Type 0
IsPart low n p = (low < p.species) × (p.species ≤ n) × (0 < p.count)

part_found_by : (low n : ℕ) (ts : List Plain) (o : Option ℕ) (p : Part) (k : ℕ) → part_by low n ts o ≡ Some (p, k) → IsPart low n p
part_found_by low n ts None p k is =
    let (a, here, same) = map_found {A = ℕ} {B = Part × ℕ} (λ b. (many 1 b, 2)) (species_at low n ts) (p, k) is in
    let (above, below) = species_found low n a ts here in
    subst (IsPart low n) (ap (λ q. q.0) same) (above, below, omega arith)
part_found_by low n ts (Some c) p k is =
    let (test, rest) = if_found (nat_lt 1 c) (option_map (λ b. (many c b, 3)) (species_at low n (rest_of ts))) (p, k) is in
    let (a, here, same) = map_found {A = ℕ} {B = Part × ℕ} (λ b. (many c b, 3)) (species_at low n (rest_of ts)) (p, k) rest in
    let (above, below) = species_found low n a (rest_of ts) here in
    let some = ltb-true 1 c test in
    subst (IsPart low n) (ap (λ q. q.0) same) (above, below, omega (arith, some))

pub part_found : (low n : ℕ) (ts : List Plain) (p : Part) (k : ℕ) → part_at low n ts ≡ Some (p, k) → IsPart low n p
part_found low n ts p k is = part_found_by low n ts (number_at ts) p k is

-- the parts of a side
abbrev IsSide : ℕ → ℕ → List Part → Type 0
IsSide low n ps = (0 < length ps) × AreParts low n ps

abbrev pub next_side : ℕ → ℕ → List Plain → Part × ℕ → Option (List Part × ℕ)
next_side k n ts p = cond (is_plus (drop p.1 ts)) (option_map (λ q. (p.0 ∷ q.0, p.1 + 1 + q.1)) (side_at k p.0.species n (drop (p.1 + 1) ts))) (Some (p.0 ∷ [], p.1))

pub side_found : (k low n : ℕ) (ts : List Plain) (ps : List Part) (m : ℕ) → side_at k low n ts ≡ Some (ps, m) → IsSide low n ps
side_found zero low n ts ps m is = let wrong : ◌≡◌ {A = Option (List Part × ℕ)} None (Some (ps, m)) = is in cc
side_found (suc k) low n ts ps m is =
    let (p, here, rest) = then_found (next_side k n ts) (part_at low n ts) (ps, m) is in
    go (λ low us qs j there. side_found k low n us qs j there) p (part_found low n ts p.0 p.1 here) (is_plus (drop p.1 ts)) rest
  where
    go : ((low : ℕ) (us : List Plain) (qs : List Part) (j : ℕ) → side_at k low n us ≡ Some (qs, j) → IsSide low n qs) → (p : Part × ℕ) → IsPart low n p.0 → (b : Bool)
        → cond b (option_map {U = List Part × ℕ} (λ q. (p.0 ∷ q.0, p.1 + 1 + q.1)) (side_at k p.0.species n (drop (p.1 + 1) ts))) (Some (p.0 ∷ [], p.1)) ≡ Some (ps, m) → IsSide low n ps
    go again p part false is =
        let same : p.0 ∷ [] ≡ ps = ap (λ q. q.0) (same_Some (p.0 ∷ [], p.1) (ps, m) is) in
        subst (IsSide low n) same (omega arith, (part.0, part.1, part.2, tt))
    go again p part true is =
        let (q, here, whole) = map_found {A = List Part × ℕ} {B = List Part × ℕ} (λ q. (p.0 ∷ q.0, p.1 + 1 + q.1)) (side_at k p.0.species n (drop (p.1 + 1) ts)) (ps, m) is in
        let more = again p.0.species (drop (p.1 + 1) ts) q.0 q.1 here in
        subst (IsSide low n) (ap (λ q. q.0) whole) (omega arith, (part.0, part.1, part.2, more.1))

gives_found : (n : ℕ) (ts : List Plain) (ps : List Part) → gives_of n ts ≡ Some ps → AreParts 0 n ps
gives_found n ts ps is = go (is_nothing ts) is
  where
    go : (b : Bool) → cond b (Some []) (side_of n ts) ≡ Some ps → AreParts 0 n ps
    go true is = subst (AreParts 0 n) (same_Some [] ps is) tt
    go false is =
        let (q, here, rest) = then_found (λ q. cond (q.1 == length ts) (Some q.0) None) (side_at (length ts) 0 n ts) ps is in
        let (test, same) = if_found (q.1 == length ts) (Some q.0) ps rest in
        subst (AreParts 0 n) (same_Some q.0 ps same) (side_found (length ts) 0 n ts q.0 q.1 here).1

pub reaction_found : (n : ℕ) (ts : List Plain) (r : Reaction) → reaction_of n ts ≡ Some r → IsReaction n r
reaction_found n ts r is =
    let (q, here, rest) = then_found (λ q. reaction_with n q.0 (drop q.1 ts)) (side_at (length ts) 0 n ts) r is in
    let (test, more) = if_found (is_arrow (drop q.1 ts)) (option_map (λ gives. record { takes = q.0; gives = gives }) (gives_of n (rest_of (drop q.1 ts)))) r rest in
    let (gives, there, whole) = map_found (λ gives. record { takes = q.0; gives = gives }) (gives_of n (rest_of (drop q.1 ts))) r more in
    let side = side_found (length ts) 0 n ts q.0 q.1 here in
    subst (IsReaction n) whole (record { some_reactant = side.0; takes = side.1; gives = gives_found n (rest_of (drop q.1 ts)) gives there })

-- ---- inputs and outputs
pub one_found : (n a : ℕ) (ts : List Plain) → one_of n ts ≡ Some a → (1 ≤ a) × (a ≤ n)
one_found n a ts is =
    let (test, here) = if_found (length ts == 2) (species_at 0 n ts) a is in
    let (above, below) = species_found 0 n a ts here in
    (omega (arith, above), below)

pub ends_found : (rails : Rails) (n : ℕ) (ts : List Plain) (e : Ends) → ends_of rails n ts ≡ Some e → IsEnds rails n e
ends_found Direct n ts e is =
    let (a, here, same) = map_found (λ a. One a) (one_of n ts) e is in
    subst (IsEnds Direct n) same (one_found n a ts here)
ends_found Dual n ts e is =
    let (a, here, rest) = then_found (λ a. pair_with n a (drop 2 ts)) (species_at 0 n ts) e is in
    let (b, there, more) = then_found (λ b. cond (a == b) None (Some (Pair a b))) (one_of n (drop 2 ts)) e rest in
    let (test, same) = else_found (a == b) (Some (Pair a b)) e more in
    let first = species_found 0 n a ts here in
    let second = one_found n b (drop 2 ts) there in
    subst (IsEnds Dual n) (same_Some (Pair a b) e same) (omega (arith, first.0), first.1, second.0, second.1, false-eqb a b (sym test))
