-- Forms and minima, one after another: what stands after each, and what it makes.
use Rattle.std.proofs.Common.{◌≡◌, ℕ, zero, suc, ◌+◌, ◌<◌, ◌≤◌, List, [], ◌∷◌, ◌++◌, map, length, take, drop, get_or, refl, sym, ◌∙◌, ap, ap₂, subst, arith, length-append, length-drop}
use Rattle.std.specs.List.{All, zip, fold}
use Rattle.std.proofs.lemmas.List.Elements.{All-head, All-tail}
use Rattle.crn_fraction.specs.Rational.{ℚ, 0ℚ, ◌≤ℚ◌, min_ℚ}
use Rattle.crn_net.specs.Network.{amount, IsApart}
use Rattle.crn_net.specs.Totals.{made_in}
use Rattle.crn_linear.specs.Forms.{at}
use Rattle.crn_gates.proofs.BuildingLaws.{free_low}
use Rattle.crn_gates.proofs.Chain.{made_from}
use Rattle.crn_gates.proofs.FreeRails.{IsApart-take, IsApart-drop, AllFree-take, later_free, stay_free, none_of_two}
use Rattle.crn_gates.proofs.GateCalls.{apart_above}
use Rattle.crn_gates.proofs.RailCalls.{leaf_one_sound, leaf_one_moves, leaf_one_makes, leaf_one_keeps, min_one_sound, min_one_moves, min_one_makes, min_one_keeps}
use Rattle.crn_gates.specs.Building.{IsSound, IsFree, AllFree}
use Rattle.crn_gates.specs.Calls.{Moves, IsMade}
use Rattle.crn_gates.specs.Gates.{Built}
use Rattle.crn_gates.specs.Singles.{rails_of_singles, value_of_singles, rails_after}
use Rattle.crn_gates.specs.Terms.{nonzero}
use Rattle.crn_direct.specs.Layout.{variables_from, uses_of, Laid, leaf_on, minimum_with, least_on}
use Rattle.crn_direct.proofs.Leaves.{count_variables, rails_are, positive_terms, terms_value, rest_held}

-- ---- the network stays sound, and rails free

-- a sound network in which the last rail and the copies that are left are free
pub record IsReady (l : Laid) (copies : List ℕ) : Type 0 where
  pub sound : IsSound l.built
  pub free : AllFree l.built (l.rail ∷ copies)

-- a form takes the first of the copies
pub terms_free : (form : List ℚ) (copies : List ℕ) (b : Built) → AllFree b copies → length (nonzero form) ≤ length copies → AllFree b (rails_of_singles (zip (nonzero form) copies))
terms_free form copies b free enough = subst (AllFree b) (sym (rails_are (nonzero form) copies enough)) (AllFree-take b (length (nonzero form)) copies free)

module _ (form : List ℚ) (copies : List ℕ) (b : Built) (ok : IsSound b) (free : AllFree b copies) (enough : length (nonzero form) ≤ length copies) (nonnegative : All (λ c. 0ℚ ≤ℚ c) form) where
  leaf_moves : Moves b (leaf_on form copies b).built (take (length (nonzero form)) copies) (suc b.species ∷ [])
  leaf_moves =
      subst (λ xs. Moves b (leaf_on form copies b).built xs (suc b.species ∷ [])) (rails_are (nonzero form) copies enough)
      (leaf_one_moves b (zip (nonzero form) copies) (leaf_on form copies b).built (suc b.species) (positive_terms form copies nonnegative) ok (terms_free form copies b free enough) refl refl)

  -- other rails stay free
  pub leaf_others : (x : ℕ) → IsFree b x → IsApart x copies → IsFree (leaf_on form copies b).built x
  leaf_others x f away = leaf_moves.others x f (IsApart-take (length (nonzero form)) x copies away)

  -- the copies that are left too
  pub leaf_ready : IsReady (leaf_on form copies b) (drop (length (nonzero form)) copies)
  leaf_ready = record {
    sound = leaf_one_sound b (zip (nonzero form) copies) (leaf_on form copies b).built (suc b.species) (positive_terms form copies nonnegative) ok (terms_free form copies b free enough) refl refl;
    free = (
      leaf_moves.made.0,
      IsApart-drop (length (nonzero form)) (suc b.species) copies (apart_above b.species (suc b.species) copies (free_low b copies free) (omega arith)),
      later_free b (leaf_on form copies b).built (length (nonzero form)) copies (suc b.species ∷ []) leaf_moves free,
    );
  }

module _ (form : List ℚ) (copies : List ℕ) (l : Laid) (ready : IsReady l copies) (enough : length (nonzero form) ≤ length copies) (nonnegative : All (λ c. 0ℚ ≤ℚ c) form) where
  next_leaf : IsReady (leaf_on form copies l.built) (drop (length (nonzero form)) copies)
  next_leaf = leaf_ready form copies l.built ready.sound ready.free.2 enough nonnegative

  -- a later form and the rail before it are free
  pub pair_free : AllFree (leaf_on form copies l.built).built (l.rail ∷ suc l.built.species ∷ [])
  pair_free =
      let high : l.rail ≤ l.built.species = ready.free.0.high in (
        leaf_others form copies l.built ready.sound ready.free.2 enough nonnegative l.rail ready.free.0 ready.free.1,
        (omega arith, tt),
        (next_leaf.free.0, tt, tt),
      )

  minimum_moves : Moves (leaf_on form copies l.built).built (minimum_with l.rail (leaf_on form copies l.built)).built (l.rail ∷ suc l.built.species ∷ []) ((minimum_with l.rail (leaf_on form copies l.built)).rail ∷ [])
  minimum_moves = min_one_moves (leaf_on form copies l.built).built _ l.rail (suc l.built.species) _ next_leaf.sound pair_free refl refl

  -- their minimum leaves the other copies free
  pub minimum_ready : IsReady (minimum_with l.rail (leaf_on form copies l.built)) (drop (length (nonzero form)) copies)
  minimum_ready = record {
    sound = min_one_sound (leaf_on form copies l.built).built _ l.rail (suc l.built.species) (minimum_with l.rail (leaf_on form copies l.built)).rail next_leaf.sound pair_free refl refl;
    free = (
      minimum_moves.made.0,
      apart_above (leaf_on form copies l.built).built.species _ (drop (length (nonzero form)) copies) (free_low (leaf_on form copies l.built).built (drop (length (nonzero form)) copies) next_leaf.free.2) (omega arith),
      stay_free (leaf_on form copies l.built).built _ (l.rail ∷ suc l.built.species ∷ []) (drop (length (nonzero form)) copies) _ minimum_moves next_leaf.free.2
          (none_of_two l.rail (suc l.built.species) (drop (length (nonzero form)) copies) (IsApart-drop (length (nonzero form)) l.rail copies ready.free.1) next_leaf.free.1),
    );
  }

-- ---- values

-- the amounts of k inputs
abbrev pub inputs_at : ℕ → List ℚ → List ℚ
inputs_at k a = map (amount a) (rails_after 0 k)

pub length-amounts : (f : ℕ → ℚ) (n k : ℕ) → length (map f (rails_after n k)) ≡ k
length-amounts f n zero = refl
length-amounts f n (suc k) = ap suc (length-amounts f (suc n) k)

pub amount_at : (f : ℕ → ℚ) (n k i : ℕ) → i < k → get_or (map f (rails_after n k)) i 0ℚ ≡ f (suc (n + i))
amount_at f n zero i l = absurd (omega arith)
amount_at f n (suc k) zero l = let e : suc n ≡ suc (n + 0) = omega arith in ap f e
amount_at f n (suc k) (suc i) l = let e : suc (suc n + i) ≡ suc (n + suc i) = omega arith in amount_at f (suc n) k i (omega arith) ∙ ap f e

-- what the last rail has made is f of the inputs, and the copies that are left hold the variables us
pub record Holds (k : ℕ) (l : Laid) (f : List ℚ → ℚ) (copies us : List ℕ) : Type 0 where
  pub ready : IsReady l copies
  pub room : k ≤ l.built.species
  pub count : length copies ≡ length us
  pub value : IsMade k l.built (λ a m. m l.rail ≡ f (inputs_at k a))
  pub held : IsMade k l.built (λ a m. map m copies ≡ map (amount a) us)

module _ (k : ℕ) (form : List ℚ) (copies us : List ℕ) (count : length copies ≡ length (variables_from 1 form ++ us)) where
  -- there are copies for the form
  pub enough_copies : length (nonzero form) ≤ length copies
  enough_copies = omega (arith, count, length-append (variables_from 1 form) us, count_variables 1 form)

  count_left : length (drop (length (nonzero form)) copies) ≡ length us
  count_left = omega (arith, count, length-append (variables_from 1 form) us, count_variables 1 form, length-drop (length (nonzero form)) copies)

  module _ (b : Built) (ok : IsSound b) (free : AllFree b copies) (room : k ≤ b.species) (long : length form ≡ k) (nonnegative : All (λ c. 0ℚ ≤ℚ c) form)
      (held : IsMade k b (λ a m. map m copies ≡ map (amount a) (variables_from 1 form ++ us))) where
    pub kept : (Claim : List ℚ → (ℕ → ℚ) → Type 0) → IsMade k b Claim → IsMade k (leaf_on form copies b).built Claim
    kept Claim h =
        leaf_one_keeps b (zip (nonzero form) copies) (leaf_on form copies b).built (suc b.species) (positive_terms form copies nonnegative) ok (terms_free form copies b free enough_copies) refl refl k Claim h

    -- a form makes its value
    pub leaf_holds : Holds k (leaf_on form copies b) (at form) (drop (length (nonzero form)) copies) us
    leaf_holds = record {
      ready = leaf_ready form copies b ok free enough_copies nonnegative;
      room = omega arith;
      count = count_left;
      value = λ net later a vs c goes empty.
          made_from k b.species (leaf_on form copies b).built (λ _ m. m (suc b.species) ≡ value_of_singles (zip (nonzero form) copies) m) room
          (leaf_one_makes b (zip (nonzero form) copies) (leaf_on form copies b).built (suc b.species) (positive_terms form copies nonnegative) ok (terms_free form copies b free enough_copies) refl refl)
          net later a vs c goes empty
          ∙ terms_value form 1 copies us (made_in net vs c) (amount a) (inputs_at k a) (kept (λ a m. map m copies ≡ map (amount a) (variables_from 1 form ++ us)) held net later a vs c goes empty)
          (omega (arith, long, length-amounts (amount a) 0 k))
          (λ i j. let e : 1 + i ≡ suc (0 + i) = omega arith in ap (amount a) e ∙ sym (amount_at (amount a) 0 k i (omega (arith, j, length-amounts (amount a) 0 k))));
      held = λ net later a vs c goes empty.
          ap (λ n. map (made_in net vs c) (drop n copies)) (sym (count_variables 1 form))
          ∙ rest_held (variables_from 1 form) us copies (made_in net vs c) (amount a) (kept (λ a m. map m copies ≡ map (amount a) (variables_from 1 form ++ us)) held net later a vs c goes empty);
    }

module _ (k : ℕ) (form : List ℚ) (copies us : List ℕ) (l : Laid) (f : List ℚ → ℚ) (h : Holds k l f copies (variables_from 1 form ++ us)) (long : length form ≡ k) (nonnegative : All (λ c. 0ℚ ≤ℚ c) form) where
  leaf : Holds k (leaf_on form copies l.built) (at form) (drop (length (nonzero form)) copies) us
  leaf = leaf_holds k form copies us h.count l.built h.ready.sound h.ready.free.2 h.room long nonnegative h.held

  rails : AllFree (leaf_on form copies l.built).built (l.rail ∷ suc l.built.species ∷ [])
  rails = pair_free form copies l h.ready (enough_copies k form copies us h.count) nonnegative

  -- what was made before a minimum stays
  stays : (Claim : List ℚ → (ℕ → ℚ) → Type 0) → IsMade k (leaf_on form copies l.built).built Claim → IsMade k (minimum_with l.rail (leaf_on form copies l.built)).built Claim
  stays Claim made = min_one_keeps (leaf_on form copies l.built).built _ l.rail (suc l.built.species) (suc (leaf_on form copies l.built).built.species) leaf.ready.sound rails refl refl k Claim made

  -- a later form and its minimum make the lesser
  pub minimum_holds : Holds k (minimum_with l.rail (leaf_on form copies l.built)) (λ x. min_ℚ (f x) (at form x)) (drop (length (nonzero form)) copies) us
  minimum_holds = record {
    ready = minimum_ready form copies l h.ready (enough_copies k form copies us h.count) nonnegative;
    room = omega (arith, h.room);
    count = leaf.count;
    value = λ net later a vs c goes empty.
        made_from k (leaf_on form copies l.built).built.species (minimum_with l.rail (leaf_on form copies l.built)).built
        (λ _ m. m (minimum_with l.rail (leaf_on form copies l.built)).rail ≡ min_ℚ (m l.rail) (m (suc l.built.species))) leaf.room
        (min_one_makes (leaf_on form copies l.built).built _ l.rail (suc l.built.species) (minimum_with l.rail (leaf_on form copies l.built)).rail leaf.ready.sound rails refl refl)
        net later a vs c goes empty
        ∙ ap₂ min_ℚ
        (stays (λ a m. m l.rail ≡ f (inputs_at k a)) (earlier (λ a m. m l.rail ≡ f (inputs_at k a)) h.value) net later a vs c goes empty)
        (stays (λ a m. m (suc l.built.species) ≡ at form (inputs_at k a)) leaf.value net later a vs c goes empty);
    held = stays (λ a m. map m (drop (length (nonzero form)) copies) ≡ map (amount a) us) leaf.held;
  }
    where
      earlier : (Claim : List ℚ → (ℕ → ℚ) → Type 0) → IsMade k l.built Claim → IsMade k (leaf_on form copies l.built).built Claim
      earlier Claim made = kept k form copies us h.count l.built h.ready.sound h.ready.free.2 h.room long nonnegative h.held Claim made

-- ---- all forms

-- a sound network in which what the last rail has made is f of the inputs
pub record Makes (k : ℕ) (l : Laid) (f : List ℚ → ℚ) : Type 0 where
  pub sound : IsSound l.built
  pub free : IsFree l.built l.rail
  pub room : k ≤ l.built.species
  pub value : IsMade k l.built (λ a m. m l.rail ≡ f (inputs_at k a))

pub least_makes : (k : ℕ) (forms : List (List ℚ)) → All (λ g. length g ≡ k) forms → All (All (λ c. 0ℚ ≤ℚ c)) forms → (copies : List ℕ) (l : Laid) (f : List ℚ → ℚ) → Holds k l f copies (uses_of forms) →
    Makes k (least_on l forms copies) (λ x. fold (λ m g. min_ℚ m (at g x)) (f x) forms)
unfolding least_on
least_makes k [] long nonnegative copies l f h = record { sound = h.ready.sound; free = h.ready.free.0; room = h.room; value = h.value }
least_makes k (form ∷ forms) long nonnegative copies l f h =
    least_makes k forms (All-tail (λ g. length g ≡ k) form forms long) (All-tail (All (λ c. 0ℚ ≤ℚ c)) form forms nonnegative) (drop (length (nonzero form)) copies)
    (minimum_with l.rail (leaf_on form copies l.built)) (λ x. min_ℚ (f x) (at form x))
    (minimum_holds k form copies (uses_of forms) l f h (All-head (λ g. length g ≡ k) form forms long) (All-head (All (λ c. 0ℚ ≤ℚ c)) form forms nonnegative))
