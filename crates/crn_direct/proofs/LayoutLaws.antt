-- The direct layout is a network that feeds forward, and stably computes the least value of its forms.
use Rattle.std.proofs.Common.{◌≡◌, ℕ, zero, suc, Bool, true, false, if◌then◌else◌, ◌+◌, ◌<◌, ◌≤◌, List, [], ◌∷◌, map, length, drop, refl, ◌∙◌, ap, ap₂, arith}
use Rattle.std.specs.List.{All}
use Rattle.std.proofs.lemmas.List.Elements.{All-nil, All-cons, All-head, All-tail, All-append}
use Rattle.crn_fraction.specs.Rational.{ℚ, 0ℚ, ◌≤ℚ◌, is_zero_ℚ}
use Rattle.crn_net.specs.Network.{Network, IsNetwork, IsFeedForward, amount, start, completion, completed, given_to, input_species}
use Rattle.crn_net.specs.declared.Rails.TheVariants.{Direct}
use Rattle.crn_net.specs.declared.Ends.TheVariants.{One}
use Rattle.crn_net.proofs.Completion.{completion_runs, completion_exhausts}
use Rattle.crn_net.proofs.FeedForward.{feed_forward, not_taken, untaken}
use Rattle.crn_net.proofs.Start.{amount-start, start_not_negative, pick_yes, pick_no}
use Rattle.crn_linear.specs.Forms.{at}
use Rattle.crn_net.proofs.FewReactions.{few_reactions}
use Rattle.crn_gates.proofs.Drafting.{length-inputs_after, draft_is_network, direct_past}
use Rattle.crn_gates.proofs.Chain.{goes_to_end}
use Rattle.crn_gates.proofs.FanLaws.{fanned_sound}
use Rattle.crn_gates.proofs.RailCalls.{fan_one_moves, fan_one_makes}
use Rattle.crn_gates.proofs.Settled.{start_empty, computes_made_value}
use Rattle.crn_gates.specs.Building.{IsEmptyAfter}
use Rattle.crn_gates.specs.Computes.{Computes}
use Rattle.crn_gates.specs.Drafts.{Draft, inputs_after}
use Rattle.crn_gates.specs.FanOut.{fanned}
use Rattle.crn_gates.specs.Gates.{Built}
use Rattle.crn_gates.specs.Singles.{rails_after}
use Rattle.crn_gates.specs.Terms.{nonzero}
use Rattle.crn_formula.specs.Functions.{least_value}
use Rattle.crn_direct.specs.Layout.{variables_from, uses_of, copies_for, leaf_on, laid_out, direct_layout}
use Rattle.crn_direct.proofs.Laying.{inputs_at, Holds, leaf_holds, Makes, least_makes}

-- ---- uses

-- the variables of a form over k variables
pub variables_within : (k v : ℕ) (form : List ℚ) → 1 ≤ v → v + length form ≤ suc k → All (λ u. (1 ≤ u) × (u ≤ k)) (variables_from v form)
variables_within k v [] low high = All-nil (λ u. (1 ≤ u) × (u ≤ k))
variables_within k v (q ∷ qs) low high = step (is_zero_ℚ q) (variables_within k (suc v) qs (omega arith) (omega arith))
  where
    step : (z : Bool) → All (λ u. (1 ≤ u) × (u ≤ k)) (variables_from (suc v) qs) → All (λ u. (1 ≤ u) × (u ≤ k)) (if z then variables_from (suc v) qs else v ∷ variables_from (suc v) qs)
    step true rest = rest
    step false rest = All-cons (λ u. (1 ≤ u) × (u ≤ k)) v (variables_from (suc v) qs) (low, omega arith) rest

-- the uses of forms
pub uses_within : (k : ℕ) (forms : List (List ℚ)) → All (λ g. length g ≡ k) forms → All (λ u. (1 ≤ u) × (u ≤ k)) (uses_of forms)
uses_within k [] long = All-nil (λ u. (1 ≤ u) × (u ≤ k))
uses_within k (form ∷ forms) long =
    All-append (λ u. (1 ≤ u) × (u ≤ k)) (variables_from 1 form) (uses_of forms) (variables_within k 1 form (omega arith) (omega (arith, All-head (λ g. length g ≡ k) form forms long)))
    (uses_within k forms (All-tail (λ g. length g ≡ k) form forms long))

pub length-rails_after : (n k : ℕ) → length (rails_after n k) ≡ k
length-rails_after n zero = refl
length-rails_after n (suc k) = ap suc (length-rails_after (suc n) k)

-- ---- what is laid out

module _ (k : ℕ) (form : List ℚ) (forms : List (List ℚ)) (long : All (λ g. length g ≡ k) (form ∷ forms)) (nonnegative : All (All (λ c. 0ℚ ≤ℚ c)) (form ∷ forms)) where
  -- the first form on the copies
  first_holds : Holds k (leaf_on form (copies_for k (form ∷ forms)) (fanned k (uses_of (form ∷ forms)))) (at form) (drop (length (nonzero form)) (copies_for k (form ∷ forms))) (uses_of forms)
  first_holds =
      let us : List ℕ = uses_of (form ∷ forms) in
      let b : Built = record { species = k; reactions = [] } in
      leaf_holds k form (copies_for k (form ∷ forms)) (uses_of forms) (length-rails_after k (length us)) (fanned k us) (fanned_sound k us)
      (fan_one_moves b (fanned k us) us (copies_for k (form ∷ forms)) refl refl).made (omega arith) (All-head (λ g. length g ≡ k) form forms long) (All-head (All (λ c. 0ℚ ≤ℚ c)) form forms nonnegative)
      (fan_one_makes b (fanned k us) us (copies_for k (form ∷ forms)) refl refl (uses_within k (form ∷ forms) long))

-- the last rail makes the least of the forms
pub laid_makes : (k : ℕ) (forms : List (List ℚ)) → 1 ≤ length forms → All (λ g. length g ≡ k) forms → All (All (λ c. 0ℚ ≤ℚ c)) forms → Makes k (laid_out k forms) (least_value forms)
laid_makes k [] some long nonnegative = absurd (omega arith)
laid_makes k (form ∷ forms) some long nonnegative =
    least_makes k forms (All-tail (λ g. length g ≡ k) form forms long) (All-tail (All (λ c. 0ℚ ≤ℚ c)) form forms nonnegative) (drop (length (nonzero form)) (copies_for k (form ∷ forms)))
    (leaf_on form (copies_for k (form ∷ forms)) (fanned k (uses_of (form ∷ forms)))) (at form) (first_holds k form forms long nonnegative)

-- ---- a start

-- amounts by an equal rule
pub same_amounts : (f g : ℕ → ℚ) (n k : ℕ) → ((s : ℕ) → n < s → s ≤ n + k → f s ≡ g s) → map f (rails_after n k) ≡ map g (rails_after n k)
same_amounts f g n zero h = refl
same_amounts f g n (suc k) h = ap₂ (λ x xs. x ∷ xs) (h (suc n) (omega arith) (omega arith)) (same_amounts f g (suc n) k (λ s l m. h s (omega arith) (omega arith)))

-- the inputs are given the amounts in turn
pub given_amounts : (n k : ℕ) (xs : List ℚ) → length xs ≡ k → map (given_to (input_species (inputs_after Direct n k)) xs) (rails_after n k) ≡ xs
given_amounts n zero [] e = refl
given_amounts n zero (x ∷ xs) e = absurd (omega arith)
given_amounts n (suc k) [] e = absurd (omega arith)
given_amounts n (suc k) (x ∷ xs) e =
    ap₂ (λ y ys. y ∷ ys) (pick_yes (suc n) (suc n) x _ refl)
    (same_amounts (given_to (input_species (inputs_after Direct n (suc k))) (x ∷ xs)) (given_to (input_species (inputs_after Direct (suc n) k)) xs) (suc n) k (λ s l m. pick_no (suc n) s x _ (omega arith))
    ∙ given_amounts (suc n) k xs (omega arith))

pub length-inputs_direct : (n k : ℕ) → length (input_species (inputs_after Direct n k)) ≡ k
length-inputs_direct n zero = refl
length-inputs_direct n (suc k) = ap suc (length-inputs_direct (suc n) k)

-- a direct layout has a species for each variable
pub length-inputs : (k : ℕ) (forms : List (List ℚ)) → length (input_species (direct_layout k forms).inputs) ≡ k
length-inputs k forms = length-inputs_direct 0 k

-- and an input for each variable
pub layout_inputs : (k : ℕ) (forms : List (List ℚ)) → length (direct_layout k forms).inputs ≡ k
layout_inputs k forms = length-inputs_after Direct 0 k

-- ---- the theorems

module _ (k : ℕ) (forms : List (List ℚ)) (some : 1 ≤ length forms) (long : All (λ g. length g ≡ k) forms) (nonnegative : All (All (λ c. 0ℚ ≤ℚ c)) forms) where
  makes : Makes k (laid_out k forms) (least_value forms)
  makes = laid_makes k forms some long nonnegative

  -- the layout as a draft
  draft : Draft
  draft = record { rails = Direct; variables = k; context = false; built = (laid_out k forms).built }

  -- the layout is a network
  pub layout_is_network : IsNetwork (direct_layout k forms)
  unfolding draft
  layout_is_network = draft_is_network draft (One (laid_out k forms).rail) makes.sound makes.room (makes.free.low, makes.free.high)

  -- with no more reactions than species
  pub layout_few_reactions : length (direct_layout k forms).reactions ≤ (direct_layout k forms).species
  layout_few_reactions = few_reactions (laid_out k forms).built.species (laid_out k forms).built.reactions makes.sound.feeds makes.sound.each

  -- room for its inputs
  pub layout_room : k ≤ (direct_layout k forms).species
  layout_room = makes.room

  -- it feeds forward
  pub layout_feeds_forward : IsFeedForward (direct_layout k forms)
  layout_feeds_forward = feed_forward (direct_layout k forms) makes.sound.feeds

  -- a start has the amounts on the inputs
  start_is : (xs : List ℚ) → length xs ≡ k → inputs_at k (start (direct_layout k forms) xs) ≡ xs
  start_is xs e =
      same_amounts (amount (start (direct_layout k forms) xs)) (given_to (input_species (inputs_after Direct 0 k)) xs) 0 k
      (λ s l m. amount-start (direct_layout k forms) xs s (omega arith) (omega (arith, makes.room)))
      ∙ given_amounts 0 k xs e

  -- and nothing elsewhere
  start_is_empty : (xs : List ℚ) → IsEmptyAfter k (start (direct_layout k forms) xs)
  start_is_empty xs s l = start_empty (direct_layout k forms) xs s (direct_past 0 k s (omega arith)) refl (omega arith)

  -- it stably computes the least value
  pub layout_computes : Computes (direct_layout k forms) (least_value forms)
  layout_computes xs amounts =
      let net : Network = direct_layout k forms in
      let a : List ℚ = start (direct_layout k forms) xs in
      let nn = start_not_negative net xs amounts.not_negative in
      let run = completion_runs net layout_is_network.reactions layout_feeds_forward a nn in
      let lack = completion_exhausts net layout_is_network.reactions layout_feeds_forward a nn in
      computes_made_value net layout_is_network layout_feeds_forward (untaken net (laid_out k forms).rail (not_taken net.reactions (laid_out k forms).rail makes.free.untaken)) xs amounts.not_negative (least_value forms xs)
      (makes.value net [] a (completion net a) (completed net a)
      (goes_to_end net layout_is_network layout_feeds_forward (laid_out k forms).built refl (omega arith) a (completion net a) (completed net a) nn run lack) (start_is_empty xs)
      ∙ ap (least_value forms) (start_is xs (amounts.long ∙ length-inputs k forms)))
