-- Nodes on free copies keep a network sound, make a free pair, and leave the other free rails free.
use Rattle.std.proofs.Common.{◌≡◌, ℕ, zero, suc, ◌+◌, ◌<◌, ◌≤◌, List, [], ◌∷◌, ◌++◌, length, drop, refl, sym, ◌∙◌, ap, subst, arith, length-drop}
use Rattle.std.specs.List.{zip}
use Rattle.std.proofs.lemmas.List.{drop-drop}
use Rattle.crn_fraction.specs.Rational.{ℚ}
use Rattle.crn_net.specs.Network.{Reaction, IsApart}
use Rattle.crn_net.proofs.InputLists.{apart_left, apart_right}
use Rattle.crn_net.specs.Reactions.{AreAtMost}
use Rattle.crn_gates.specs.declared.Pair.{Pair}
use Rattle.std.specs.Prelude.{Result, Ok, Err, IfOk, OnOk}
use Rattle.crn_gates.specs.declared.BuildError.{BuildError}
use Rattle.crn_gates.specs.Drafts.{Draft}
use Rattle.crn_gates.specs.declared.Copied.{Copied}
use Rattle.crn_gates.specs.declared.Copied.TheVariants.{Both, Single}
use Rattle.crn_gates.specs.Gates.{Built, slot_species, stamped, factor_of, width_of, leaf_table, scale_table, add_table, sub_table, min_table, max_table}
use Rattle.crn_gates.specs.Building.{IsSound, IsFree, AllFree, Stamps}
use Rattle.crn_gates.specs.Pairs.{rails_of_pair, rails_of_pairs, rails_of_copies, rails_of_terms, operands_of, pair_after}
use Rattle.crn_gates.specs.Calls.{AreAbove, Moves}
use Rattle.crn_gates.proofs.BuildingLaws.{free_low, leaf_stamps, add_stamps, sub_stamps, min_stamps, max_stamps, scale_stamps}
use Rattle.crn_gates.proofs.Factors.{factor_is}
use Rattle.crn_formula.specs.Formulas.{Formula, Lin, Add, Sub, Scale, Min, Max}
use Rattle.crn_gates.specs.Terms.{nonzero}
use Rattle.crn_gates.proofs.FreeRails.{AreApart, nothing_apart, AreApart-cons}
use Rattle.crn_gates.proofs.GateCalls.{apart_above, operands_are, rails_width, slot_after}
use Rattle.crn_dual.specs.OnCopies.{use_count, terms_on, Made, leaf_on, nodes_on, second_on}

-- ---- lists of rails

-- free rails in two lists one after the other
free_front : (b : Built) (xs ys : List ℕ) → AllFree b (xs ++ ys) → AllFree b xs
free_front b [] ys h = tt
free_front b (x ∷ xs) ys h = (h.0, apart_left x xs ys h.1, free_front b xs ys h.2)

free_back : (b : Built) (xs ys : List ℕ) → AllFree b (xs ++ ys) → AllFree b ys
free_back b [] ys h = h
free_back b (x ∷ xs) ys h = free_back b xs ys h.2

free_apart_lists : (b : Built) (xs ys : List ℕ) → AllFree b (xs ++ ys) → AreApart ys xs
free_apart_lists b [] ys h = nothing_apart ys
free_apart_lists b (x ∷ xs) ys h = AreApart-cons x xs ys (apart_right x xs ys h.1) (free_apart_lists b xs ys h.2)

-- rails up to n are none of a pair above n
apart_low : (n p m : ℕ) (ys : List ℕ) → AreAtMost n ys → n < p → n < m → AreApart ys (p ∷ m ∷ [])
apart_low n p m [] h k l = tt
apart_low n p m (y ∷ ys) h k l = ((omega (arith, h.0), (omega (arith, h.0), tt)), apart_low n p m ys h.1 k l)

-- rails that stay free
stay_free : (b b' : Built) (xs ys : List ℕ) → AllFree b ys → AreApart ys xs → ((s : ℕ) → IsFree b s → IsApart s xs → IsFree b' s) → AllFree b' ys
stay_free b b' xs [] h k others = tt
stay_free b b' xs (y ∷ ys) h k others = (others y h.0 k.0, h.1, stay_free b b' xs ys h.2 k.1 others)

-- the later copies are among all of them
low_drop : (k n : ℕ) (cs : List Copied) → AreAtMost k (rails_of_copies cs) → AreAtMost k (rails_of_copies (drop n cs))
low_drop k zero cs h = h
low_drop k (suc n) [] h = h
low_drop k (suc n) (Both p ∷ cs) h = low_drop k n cs h.1.1
low_drop k (suc n) (Single r ∷ cs) h = low_drop k n cs h.1

apart_drop : (s n : ℕ) (cs : List Copied) → IsApart s (rails_of_copies cs) → IsApart s (rails_of_copies (drop n cs))
apart_drop s zero cs h = h
apart_drop s (suc n) [] h = h
apart_drop s (suc n) (Both p ∷ cs) h = apart_drop s n cs h.1.1
apart_drop s (suc n) (Single r ∷ cs) h = apart_drop s n cs h.1

-- ---- what nodes do

-- on copies, of which they take n
pub record Keeps (b : Built) (cs : List Copied) (n : ℕ) (m : Made) : Type 0 where
  pub sound : IsSound m.built
  pub moves : Moves b m.built (rails_of_copies cs) (rails_of_pair m.pair)
  pub rest : AllFree m.built (rails_of_copies (drop n cs))

-- the pair after n is the new pair of a table whose first new slot is the next
abbrev AreSlots : List ℕ → ℕ → Pair → ℕ → ℕ → Type 0
AreSlots xs n pair p q = (slot_species xs n p ≡ pair.plus) × (slot_species xs n q ≡ pair.minus)

-- a stamped table makes a free pair
stamped_pair : (b : Built) (xs : List ℕ) (new p q : ℕ) (t : List Reaction) (pair : Pair) → Stamps b xs new p q t → AreSlots xs b.species pair p q → AllFree (stamped xs new t b) (rails_of_pair pair)
stamped_pair b xs new p q t pair it slots = (
  subst (IsFree (stamped xs new t b)) slots.0 it.plus,
  (λ e. it.apart (slots.0 ∙ e ∙ sym slots.1), tt),
  (subst (IsFree (stamped xs new t b)) slots.1 it.minus, tt, tt),
)

-- ---- a leaf

-- the copies of terms, and the rest
split_rails : (qs : List ℚ) (cs : List Copied) → rails_of_copies cs ≡ rails_of_terms (zip qs cs) ++ rails_of_copies (drop (length (zip qs cs)) cs)
split_rails [] cs = refl
split_rails (q ∷ qs) [] = refl
split_rails (q ∷ qs) (Both p ∷ cs) = ap (λ rs. p.plus ∷ p.minus ∷ rs) (split_rails qs cs)
split_rails (q ∷ qs) (Single r ∷ cs) = ap (λ rs. r ∷ rs) (split_rails qs cs)

-- where there are enough copies each coefficient has one
length-terms : (qs : List ℚ) (cs : List Copied) → length qs ≤ length cs → length (zip qs cs) ≡ length qs
length-terms [] cs l = refl
length-terms (q ∷ qs) [] l = absurd (omega arith)
length-terms (q ∷ qs) (c ∷ cs) l = ap suc (length-terms qs cs (omega arith))

-- terms on free copies
leaf_keeps : (qs : List ℚ) (cs : List Copied) (b : Built) → IsSound b → AllFree b (rails_of_copies cs) → length qs ≤ length cs → Keeps b cs (length qs) (leaf_on (zip qs cs) b)
leaf_keeps qs cs b ok free enough =
    let xs : List ℕ = rails_of_terms (zip qs cs) in
    let later : List ℕ = rails_of_copies (drop (length (zip qs cs)) cs) in
    let both : AllFree b (xs ++ later) = subst (AllFree b) (split_rails qs cs) free in
    let it : Stamps b xs 2 (width_of (operands_of (zip qs cs))) (suc (width_of (operands_of (zip qs cs)))) (leaf_table (operands_of (zip qs cs))) = leaf_stamps b xs (operands_of (zip qs cs)) (operands_are (zip qs cs)) (rails_width (zip qs cs)) ok (free_front b xs later both) in
    record {
      sound = it.sound;
      moves = record {
        made = stamped_pair b xs 2 _ _ _ (pair_after b.species) it (first, second);
        fresh = (omega arith, (omega arith, tt));
        others = λ s f away. it.others s f (apart_left s xs later (subst (IsApart s) (split_rails qs cs) away));
      };
      rest = subst (λ n. AllFree (stamped xs 2 (leaf_table (operands_of (zip qs cs))) b) (rails_of_copies (drop n cs))) (length-terms qs cs enough)
          (stay_free b (stamped xs 2 (leaf_table (operands_of (zip qs cs))) b) xs later (free_back b xs later both) (free_apart_lists b xs later both) it.others);
    }
  where
    first : slot_species (rails_of_terms (zip qs cs)) b.species (width_of (operands_of (zip qs cs))) ≡ suc b.species
    first =
        let e : width_of (operands_of (zip qs cs)) ≡ length (rails_of_terms (zip qs cs)) + 0 = omega (arith, rails_width (zip qs cs)) in
        ap (slot_species (rails_of_terms (zip qs cs)) b.species) e ∙ slot_after (rails_of_terms (zip qs cs)) b.species 0 ∙ omega arith

    second : slot_species (rails_of_terms (zip qs cs)) b.species (suc (width_of (operands_of (zip qs cs)))) ≡ suc (suc b.species)
    second =
        let e : suc (width_of (operands_of (zip qs cs))) ≡ length (rails_of_terms (zip qs cs)) + 1 = omega (arith, rails_width (zip qs cs)) in
        ap (slot_species (rails_of_terms (zip qs cs)) b.species) e ∙ slot_after (rails_of_terms (zip qs cs)) b.species 1 ∙ omega arith

-- ---- a gate of one pair

module _ (b : Built) (cs : List Copied) (n : ℕ) (free : AllFree b (rails_of_copies cs)) (a : Made) (first : Keeps b cs n a) where
  one_keeps : (new p q : ℕ) (t : List Reaction) (pair : Pair) → Stamps a.built (rails_of_pair a.pair) new p q t → AreSlots (rails_of_pair a.pair) a.built.species pair p q →
      AreAbove b.species (rails_of_pair pair) → Keeps b cs n (record { built = stamped (rails_of_pair a.pair) new t a.built; pair = pair })
  one_keeps new p q t pair it slots above = record {
    sound = it.sound;
    moves = record {
      made = stamped_pair a.built (rails_of_pair a.pair) new p q t pair it slots;
      fresh = above;
      others = λ s f away. it.others s (first.moves.others s f away) (omega (arith, f.high, first.moves.fresh.0), (omega (arith, f.high, first.moves.fresh.1.0), tt));
    };
    rest = stay_free a.built _ (rails_of_pair a.pair) (rails_of_copies (drop n cs)) first.rest
        (apart_low b.species a.pair.plus a.pair.minus _ (low_drop b.species n cs (free_low b _ free)) first.moves.fresh.0 first.moves.fresh.1.0) it.others;
  }

-- ---- a gate of two pairs

module _ (b : Built) (cs : List Copied) (n n' : ℕ) (free : AllFree b (rails_of_copies cs)) (x y : Made) (first : Keeps b cs n x) (second : Keeps x.built (drop n cs) n' y) where
  later : List Copied
  later = drop n' (drop n cs)

  -- the copies are older than both pairs
  low : AreAtMost b.species (rails_of_copies cs)
  low = free_low b (rails_of_copies cs) free

  grown : b.species < x.built.species
  grown = omega (arith, first.moves.fresh.0, first.moves.made.0.high)

  above : (b.species < y.pair.plus) × (b.species < y.pair.minus)
  above = (omega (arith, grown, second.moves.fresh.0), omega (arith, grown, second.moves.fresh.1.0))

  -- the first pair is still free
  kept : (s : ℕ) → IsFree x.built s → b.species < s → IsFree y.built s
  kept s f l = second.moves.others s f (apart_above b.species s (rails_of_copies (drop n cs)) (low_drop b.species n cs low) l)

  -- the two pairs are free, and all different
  both_free : AllFree y.built (rails_of_pairs x.pair y.pair)
  both_free = (
    kept x.pair.plus first.moves.made.0 first.moves.fresh.0,
    (first.moves.made.1.0, (omega (arith, first.moves.made.0.high, second.moves.fresh.0), (omega (arith, first.moves.made.0.high, second.moves.fresh.1.0), tt))),
    (
      kept x.pair.minus first.moves.made.2.0 first.moves.fresh.1.0,
      (omega (arith, first.moves.made.2.0.high, second.moves.fresh.0), (omega (arith, first.moves.made.2.0.high, second.moves.fresh.1.0), tt)),
      second.moves.made,
    ),
  )

  -- rails up to those of b are none of them
  apart_pairs : (ys : List ℕ) → AreAtMost b.species ys → AreApart ys (rails_of_pairs x.pair y.pair)
  apart_pairs [] h = tt
  apart_pairs (z ∷ ys) h = (
    (omega (arith, h.0, first.moves.fresh.0), (omega (arith, h.0, first.moves.fresh.1.0), (omega (arith, h.0, above.0), (omega (arith, h.0, above.1), tt)))),
    apart_pairs ys h.1,
  )

  two_keeps : (new p q : ℕ) (t : List Reaction) (pair : Pair) → Stamps y.built (rails_of_pairs x.pair y.pair) new p q t → AreSlots (rails_of_pairs x.pair y.pair) y.built.species pair p q →
      AreAbove y.built.species (rails_of_pair pair) → Keeps b cs (n + n') (record { built = stamped (rails_of_pairs x.pair y.pair) new t y.built; pair = pair })
  two_keeps new p q t pair it slots fresh = record {
    sound = it.sound;
    moves = record {
      made = stamped_pair y.built (rails_of_pairs x.pair y.pair) new p q t pair it slots;
      fresh = (omega (arith, fresh.0, second.moves.fresh.0, second.moves.made.0.high, above.0), (omega (arith, fresh.1.0, second.moves.made.0.high, above.0), tt));
      others = λ s f away. it.others s (second.moves.others s (first.moves.others s f away) (apart_drop s n cs away)) (apart_pairs (s ∷ []) (f.high, tt)).0;
    };
    rest = subst (λ ds. AllFree (stamped (rails_of_pairs x.pair y.pair) new t y.built) (rails_of_copies ds)) (drop-drop n' n cs)
        (stay_free y.built (stamped (rails_of_pairs x.pair y.pair) new t y.built) (rails_of_pairs x.pair y.pair) (rails_of_copies (drop n' (drop n cs))) second.rest
        (apart_pairs (rails_of_copies (drop n' (drop n cs))) (low_drop b.species n' (drop n cs) (low_drop b.species n cs low))) it.others);
  }

-- ---- the induction

-- the pair after n is a pair above it
next_above : (n : ℕ) → AreAbove n (rails_of_pair (pair_after n))
next_above n = (omega arith, (omega arith, tt))

past_above : (n : ℕ) → AreAbove n (rails_of_pair (pair_after (n + 2)))
past_above n = (omega arith, (omega arith, tt))

-- nodes on free copies
pub nodes_keep : (e : Formula) (cs : List Copied) (b : Built) → IsSound b → AllFree b (rails_of_copies cs) → use_count e ≤ length cs → Keeps b cs (use_count e) (nodes_on e cs b)
unfolding nodes_on
nodes_keep (Lin form) cs b ok free enough = leaf_keeps (nonzero form) cs b ok free enough
nodes_keep (Scale q e) cs b ok free enough =
    let a : Made = nodes_on e cs b in
    let first : Keeps b cs (use_count e) a = nodes_keep e cs b ok free enough in
    one_keeps b cs (use_count e) free a first 2 2 3 (scale_table (factor_of q)) (pair_after a.built.species)
    (scale_stamps (factor_of q) (factor_is q) a.built a.pair.plus a.pair.minus first.sound first.moves.made) (omega arith, omega arith)
    (omega (arith, first.moves.fresh.0, first.moves.made.0.high), (omega (arith, first.moves.fresh.0, first.moves.made.0.high), tt))
nodes_keep (Add e f) cs b ok free enough =
    let x : Made = nodes_on e cs b in
    let y : Made = nodes_on f (drop (use_count e) cs) x.built in
    let first : Keeps b cs (use_count e) x = nodes_keep e cs b ok free (omega arith) in
    let second : Keeps x.built (drop (use_count e) cs) (use_count f) y = nodes_keep f (drop (use_count e) cs) x.built first.sound first.rest (omega (arith, length-drop (use_count e) cs)) in
    two_keeps b cs (use_count e) (use_count f) free x y first second 2 4 5 add_table (pair_after y.built.species)
    (add_stamps y.built x.pair.plus x.pair.minus y.pair.plus y.pair.minus second.sound (both_free b cs (use_count e) (use_count f) free x y first second)) (omega arith, omega arith) (next_above _)
nodes_keep (Sub e f) cs b ok free enough =
    let x : Made = nodes_on e cs b in
    let y : Made = nodes_on f (drop (use_count e) cs) x.built in
    let first : Keeps b cs (use_count e) x = nodes_keep e cs b ok free (omega arith) in
    let second : Keeps x.built (drop (use_count e) cs) (use_count f) y = nodes_keep f (drop (use_count e) cs) x.built first.sound first.rest (omega (arith, length-drop (use_count e) cs)) in
    two_keeps b cs (use_count e) (use_count f) free x y first second 2 4 5 sub_table (pair_after y.built.species)
    (sub_stamps y.built x.pair.plus x.pair.minus y.pair.plus y.pair.minus second.sound (both_free b cs (use_count e) (use_count f) free x y first second)) (omega arith, omega arith) (next_above _)
nodes_keep (Min e f) cs b ok free enough =
    let x : Made = nodes_on e cs b in
    let y : Made = nodes_on f (drop (use_count e) cs) x.built in
    let first : Keeps b cs (use_count e) x = nodes_keep e cs b ok free (omega arith) in
    let second : Keeps x.built (drop (use_count e) cs) (use_count f) y = nodes_keep f (drop (use_count e) cs) x.built first.sound first.rest (omega (arith, length-drop (use_count e) cs)) in
    two_keeps b cs (use_count e) (use_count f) free x y first second 4 6 7 min_table (pair_after (y.built.species + 2))
    (min_stamps y.built x.pair.plus x.pair.minus y.pair.plus y.pair.minus second.sound (both_free b cs (use_count e) (use_count f) free x y first second)) (omega arith, omega arith) (past_above _)
nodes_keep (Max e f) cs b ok free enough =
    let x : Made = nodes_on e cs b in
    let y : Made = nodes_on f (drop (use_count e) cs) x.built in
    let first : Keeps b cs (use_count e) x = nodes_keep e cs b ok free (omega arith) in
    let second : Keeps x.built (drop (use_count e) cs) (use_count f) y = nodes_keep f (drop (use_count e) cs) x.built first.sound first.rest (omega (arith, length-drop (use_count e) cs)) in
    two_keeps b cs (use_count e) (use_count f) free x y first second 4 6 7 max_table (pair_after (y.built.species + 2))
    (max_stamps y.built x.pair.plus x.pair.minus y.pair.plus y.pair.minus second.sound (both_free b cs (use_count e) (use_count f) free x y first second)) (omega arith, omega arith) (past_above _)

-- ---- for the code, which knows networks, pairs and copies by equations

-- a pair that was made may be used
pub one_ready : (e : Formula) (cs : List Copied) (b b' : Built) (x : Pair) → b' ≡ (nodes_on e cs b).built → x ≡ (nodes_on e cs b).pair →
    IsSound b → AllFree b (rails_of_copies cs) → use_count e ≤ length cs → AllFree b' (rails_of_pair x)
one_ready e cs b b' x is made ok free enough =
    subst (λ d. AllFree d (rails_of_pair x)) (sym is) (subst (λ (p : Pair). AllFree (nodes_on e cs b).built (rails_of_pair p)) (sym made) (nodes_keep e cs b ok free enough).moves.made)

-- and so may two
pub two_ready : (e f : Formula) (cs : List Copied) (b b' : Built) (x y : Pair) → b' ≡ (second_on e f cs b).built → x ≡ (nodes_on e cs b).pair → y ≡ (second_on e f cs b).pair →
    IsSound b → AllFree b (rails_of_copies cs) → use_count e + use_count f ≤ length cs → AllFree b' (rails_of_pairs x y)
two_ready e f cs b b' x y is made made' ok free enough =
    let first : Keeps b cs (use_count e) (nodes_on e cs b) = nodes_keep e cs b ok free (omega arith) in
    let second : Keeps (nodes_on e cs b).built (drop (use_count e) cs) (use_count f) (second_on e f cs b) =
    nodes_keep f (drop (use_count e) cs) (nodes_on e cs b).built first.sound first.rest (omega (arith, length-drop (use_count e) cs)) in
    subst (λ d. AllFree d (rails_of_pairs x y)) (sym is)
    (subst (λ (p : Pair). AllFree (second_on e f cs b).built (rails_of_pairs p y)) (sym made)
    (subst (λ (p : Pair). AllFree (second_on e f cs b).built (rails_of_pairs (nodes_on e cs b).pair p)) (sym made')
    (both_free b cs (use_count e) (use_count f) free (nodes_on e cs b) (second_on e f cs b) first second)))

-- the copies that are left stay free
pub left_free : (r : Result (Draft × Pair) BuildError) (e : Formula) (cs cs' : List Copied) (d : Draft) → IfOk r (λ x. x.0 ≡ record d { built = (nodes_on e cs d.built).built }) → OnOk r (cs' ≡ drop (use_count e) cs) →
    IsSound d.built → AllFree d.built (rails_of_copies cs) → use_count e ≤ length cs → IfOk r (λ x. AllFree x.0.built (rails_of_copies cs'))
left_free (Ok x) e cs cs' d is left ok free enough =
    subst (λ (y : Draft). AllFree y.built (rails_of_copies cs')) (sym is) (subst (λ z. AllFree (nodes_on e cs d.built).built (rails_of_copies z)) (sym left) (nodes_keep e cs d.built ok free enough).rest)
left_free (Err x) e cs cs' d is left ok free enough = tt

-- a leaf may take its copies
pub leaf_ready : (form : List ℚ) (cs : List Copied) (b : Built) (ts : List (ℚ × Copied)) → ts ≡ terms_on form cs → AllFree b (rails_of_copies cs) → AllFree b (rails_of_terms ts)
leaf_ready form cs b ts is free =
    subst (λ x. AllFree b (rails_of_terms x)) (sym is) (free_front b (rails_of_terms (terms_on form cs)) (rails_of_copies (drop (length (terms_on form cs)) cs)) (subst (AllFree b) (split_rails (nonzero form) cs) free))

-- nodes add species
pub nodes_on_grow : (e : Formula) (cs : List Copied) (b : Built) → b.species ≤ (nodes_on e cs b).built.species
unfolding nodes_on
nodes_on_grow (Lin form) cs b = omega arith
nodes_on_grow (Scale q e) cs b = omega (arith, nodes_on_grow e cs b)
nodes_on_grow (Add e f) cs b = omega (arith, nodes_on_grow e cs b, nodes_on_grow f (drop (use_count e) cs) (nodes_on e cs b).built)
nodes_on_grow (Sub e f) cs b = omega (arith, nodes_on_grow e cs b, nodes_on_grow f (drop (use_count e) cs) (nodes_on e cs b).built)
nodes_on_grow (Min e f) cs b = omega (arith, nodes_on_grow e cs b, nodes_on_grow f (drop (use_count e) cs) (nodes_on e cs b).built)
nodes_on_grow (Max e f) cs b = omega (arith, nodes_on_grow e cs b, nodes_on_grow f (drop (use_count e) cs) (nodes_on e cs b).built)
