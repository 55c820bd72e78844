-- The gated layout stably computes the least of its forms: at each start it runs alike with a plain twin, which feeds forward and computes it.
use Rattle.std.specs.List.{All, fold}
use Rattle.std.proofs.Common.{◌≡◌, ◌≢◌, ℕ, zero, suc, Bool, true, false, if◌then◌else◌, ◌+◌, ◌*◌, ◌<◌, ◌≤◌, List, [], ◌∷◌, ◌++◌, map, length, drop, get_or, Option, None, Some, option_to_list, refl, sym, ◌∙◌, ap, ap₂, subst, ◌⊎◌, inl, inr, ⊎_elim, arith, length-append}
use Rattle.std.proofs.lemmas.List.Elements.{All-nil, All-head, All-tail, All-append}
use Rattle.crn_fraction.proofs.Order.{≤ℚ_antisymm}
use Rattle.crn_fraction.proofs.Products.{is_zero_ℚ_cases, nonzero_of_is_zero_ℚ}
use Rattle.crn_fraction.specs.Rational.{ℚ, 0ℚ, ◌≤ℚ◌, min_ℚ, is_zero_ℚ}
use Rattle.crn_net.specs.Network.{Network, Reaction, Run, IsNetwork, IsFeedForward, IsNotNegative, IsSettled, AreAmounts, AreNotNegative, IsReaction, StablyComputes, amount, start, completion, completed, given_to, input_species}
use Rattle.crn_net.specs.declared.Flow.{Flow}
use Rattle.crn_net.specs.Reactions.{EachReaction}
use Rattle.crn_net.specs.Totals.{FirstLack, made_in}
use Rattle.crn_net.specs.declared.Rails.TheVariants.{Direct}
use Rattle.crn_net.specs.declared.Ends.TheVariants.{One}
use Rattle.crn_net.proofs.Completion.{completion_runs, completion_exhausts, run-append, run_end, run_not_negative}
use Rattle.crn_net.specs.Limits.{IsValid}
use Rattle.crn_net.proofs.FewReactions.{few_reactions}
use Rattle.crn_net.proofs.FeedForward.{feed_forward, not_taken, untaken, are_reactions}
use Rattle.crn_net.proofs.Start.{amount-start, start_not_negative, start_is_state}
use Rattle.crn_linear.specs.Forms.{at}
use Rattle.crn_gates.proofs.Drafting.{draft_is_network, direct_past, length-inputs_after}
use Rattle.crn_gates.proofs.Chain.{goes_to_end}
use Rattle.crn_gates.proofs.FanLaws.{fanned_sound}
use Rattle.crn_gates.proofs.RailCalls.{fan_one_moves, fan_one_makes}
use Rattle.crn_gates.proofs.Settled.{start_empty, made_untaken, computes_made_value}
use Rattle.crn_gates.specs.Building.{GoesOn, IsEmptyAfter, IsFree}
use Rattle.crn_gates.specs.Calls.{IsMade}
use Rattle.crn_gates.specs.Drafts.{inputs_after}
use Rattle.crn_gates.specs.FanOut.{fanned}
use Rattle.crn_gates.specs.Gates.{Built}
use Rattle.crn_gates.specs.Terms.{nonzero}
use Rattle.crn_direct.specs.Layout.{variables_from, Laid}
use Rattle.crn_direct.proofs.Laying.{inputs_at, Holds, Makes}
use Rattle.crn_direct.proofs.LayoutLaws.{variables_within, length-rails_after, same_amounts, given_amounts, length-inputs_direct}
use Rattle.crn_gated.proofs.Alike.{swap, IsCopy, AreCopies, copies_from, copies_rest, IsOpenGate, IsShutGate, IsAlike, AreAlike, begin, Follows, form_follows, form_grows, all_grow, all_follow}
use Rattle.crn_gated.proofs.Flux.{gate, carry}
use Rattle.crn_gated.proofs.Passing.{carried, passed_value, form_value, form_holds, form_open, all_make, all_spare, input_amount}
use Rattle.crn_gated.proofs.Sizes.{few_species}
use Rattle.crn_net.proofs.There.{there_made}
use Rattle.crn_gated.proofs.Twin.{IsSame, IsOpen, IsShut, IsTwin, computes_through, same_ends}
use Rattle.crn_gated.specs.Completion.{gated_completion, gated_completed}
use Rattle.crn_gated.specs.Computes.{StablyComputesGated, ComputesGated}
use Rattle.crn_gated.specs.Forms.{GatedForm, IsGatedForm, AreGatedForms, AreFewGatedForms, gated_form_value, gated_value, is_shut}
use Rattle.crn_gated.specs.Layout.{uses_of_form, gated_uses, gated_copies, gate_on, form_by, least_by, laid_by, network_of_laid, gated_layout}

-- ---- uses

-- the uses of forms are of their variables
pub gated_within : (k : ℕ) (fs : List GatedForm) → All (IsGatedForm k) fs → All (λ v. (1 ≤ v) × (v ≤ k)) (gated_uses fs)
gated_within k [] each = All-nil (λ v. (1 ≤ v) × (v ≤ k))
gated_within k (f ∷ fs) each =
    let it : IsGatedForm k f = All-head (IsGatedForm k) f fs each in
    All-append (λ v. (1 ≤ v) × (v ≤ k)) (uses_of_form f) (gated_uses fs)
    (All-append (λ v. (1 ≤ v) × (v ≤ k)) (variables_from 1 f.form) (option_to_list f.gate) (variables_within k 1 f.form (omega arith) (omega (arith, it.long))) it.gate)
    (gated_within k fs (All-tail (IsGatedForm k) f fs each))

-- ---- the value

-- the value of the twin
pub twin_value : (ℕ → Bool) → List GatedForm → List ℚ → ℚ
twin_value shut [] x = 0ℚ
twin_value shut (f ∷ fs) x = fold (λ m g. min_ℚ m (form_value shut g x)) (form_value shut f x) fs

-- where just the variables that are 0 are shut
abbrev pub shut_at : List ℚ → ℕ → Bool
shut_at x v = is_zero_ℚ (amount x v)

same_form_value : (f : GatedForm) (x : List ℚ) → form_value (shut_at x) f x ≡ gated_form_value f x
same_form_value f x = go f.gate
  where
    go : (gate : Option ℕ) → passed_value (shut_at x) gate (at f.form x) x ≡ (if is_shut gate x then 0ℚ else at f.form x)
    go None = refl
    go (Some v) =
        ⊎_elim (λ (z : (amount x v ≡ 0ℚ) × (is_zero_ℚ (amount x v) ≡ true)).
        ap (λ b. if b then amount x v else at f.form x) z.1 ∙ z.0 ∙ sym (ap (λ b. if b then 0ℚ else at f.form x) z.1))
        (λ (z : (amount x v ≢ 0ℚ) × (is_zero_ℚ (amount x v) ≡ false)).
        ap (λ b. if b then amount x v else at f.form x) z.1 ∙ sym (ap (λ b. if b then 0ℚ else at f.form x) z.1)) (is_zero_ℚ_cases (amount x v))

-- the values are the same
same_value : (fs : List GatedForm) (x : List ℚ) → twin_value (shut_at x) fs x ≡ gated_value fs x
unfolding twin_value
same_value [] x = refl
same_value (f ∷ fs) x = go fs (form_value (shut_at x) f x) (gated_form_value f x) (same_form_value f x)
  where
    go : (gs : List GatedForm) (p q : ℚ) → p ≡ q → fold (λ m g. min_ℚ m (form_value (shut_at x) g x)) p gs ≡ fold (λ m g. min_ℚ m (gated_form_value g x)) q gs
    go [] p q e = e
    go (g ∷ gs) p q e = go gs (min_ℚ p (form_value (shut_at x) g x)) (min_ℚ q (gated_form_value g x)) (ap₂ min_ℚ e (same_form_value g x))

-- ---- reactions one by one

abbrev pub none : Reaction
none = record { takes = []; gives = [] }

module _ (k : ℕ) (uses : List ℕ) (shut : ℕ → Bool) (final : Built) where
  -- reaction i of two lists is the same, or past n and alike
  abbrev pub AreAlikeAt : ℕ → List Reaction → List Reaction → ℕ → Type 0
  AreAlikeAt n xs ys i = (get_or xs i none ≡ get_or ys i none) ⊎ ((n ≤ i) × IsAlike k uses shut final (get_or xs i none) (get_or ys i none))

  alike_at : (xs ys : List Reaction) → AreAlike k uses shut final xs ys → (i : ℕ) → IsAlike k uses shut final (get_or xs i none) (get_or ys i none)
  alike_at [] [] h i = inl refl
  alike_at [] (y ∷ ys) h i = absurd h
  alike_at (x ∷ xs) [] h i = absurd h
  alike_at (x ∷ xs) (y ∷ ys) h zero = h.0
  alike_at (x ∷ xs) (y ∷ ys) h (suc i) = alike_at xs ys h.1 i

  alike_after : (zs xs ys : List Reaction) → AreAlike k uses shut final xs ys → (i : ℕ) → AreAlikeAt (length zs) (zs ++ xs) (zs ++ ys) i
  alike_after [] xs ys h i = inr (omega arith, alike_at xs ys h i)
  alike_after (z ∷ zs) xs ys h zero = inl refl
  alike_after (z ∷ zs) xs ys h (suc i) = ⊎_elim (λ e. inl e) (λ p. inr (omega (arith, p.0), p.1)) (alike_after zs xs ys h i)

  same_length : (xs ys : List Reaction) → AreAlike k uses shut final xs ys → length xs ≡ length ys
  same_length [] [] h = refl
  same_length [] (y ∷ ys) h = absurd h
  same_length (x ∷ xs) [] h = absurd h
  same_length (x ∷ xs) (y ∷ ys) h = ap suc (same_length xs ys h.1)

  -- a gate is a reaction where what the twin has for it is
  gate_well : (n g l h : ℕ) → 1 ≤ g → g < l → l < h → h ≤ n → IsReaction n (gate g l h)
  gate_well n g l h a b c d = record {
    some_reactant = omega arith;
    takes = (omega arith, omega arith, omega arith, (omega arith, omega arith, omega arith, tt));
    gives = (omega arith, omega arith, omega arith, (omega arith, omega arith, omega arith, tt));
  }

  well : (n : ℕ) (x y : Reaction) → IsAlike k uses shut final x y → IsReaction n y → IsReaction n x
  well n x y h is =
      ⊎_elim (λ (e : x ≡ y). subst (IsReaction n) (sym e) is)
      (λ h. ⊎_elim (λ (o : IsOpenGate k uses shut final x y).
      let there : IsReaction n (carry o.form o.result) = subst (IsReaction n) o.plain is in
      subst (IsReaction n) (sym o.gated) (gate_well n o.copy o.form o.result o.copied.low (omega (arith, o.copied.high, o.rising.0)) o.rising.1 there.gives.1))
      (λ (o : IsShutGate k uses shut final x y).
      let there : IsReaction n (carry o.copy o.result) = subst (IsReaction n) o.plain is in
      subst (IsReaction n) (sym o.gated) (gate_well n o.copy o.form o.result o.copied.low (omega (arith, o.copied.high, o.rising.0)) o.rising.1 there.gives.1)) h) h

  all_well : (n : ℕ) (zs xs ys : List Reaction) → AreAlike k uses shut final xs ys → EachReaction n (zs ++ ys) → EachReaction n (zs ++ xs)
  all_well n (z ∷ zs) xs ys h each = (each.0, all_well n zs xs ys h each.1)
  all_well n [] [] [] h each = tt
  all_well n [] [] (y ∷ ys) h each = absurd h
  all_well n [] (x ∷ xs) [] h each = absurd h
  all_well n [] (x ∷ xs) (y ∷ ys) h each = (well n x y h.0 each.0, all_well n [] xs ys h.1 each.1)

-- ---- starts

module _ (k : ℕ) (l : Laid) (room : k ≤ l.built.species) where
  -- a start has the amounts on the inputs
  start_is : (xs : List ℚ) → length xs ≡ k → inputs_at k (start (network_of_laid k l) xs) ≡ xs
  start_is xs e =
      same_amounts (amount (start (network_of_laid k l) xs)) (given_to (input_species (inputs_after Direct 0 k)) xs) 0 k
      (λ s low high. amount-start (network_of_laid k l) xs s (omega arith) (omega (arith, room)))
      ∙ given_amounts 0 k xs e

  -- and nothing elsewhere
  start_is_empty : (xs : List ℚ) → IsEmptyAfter k (start (network_of_laid k l) xs)
  start_is_empty xs s above = start_empty (network_of_laid k l) xs s (direct_past 0 k s (omega arith)) refl (omega arith)

-- ---- the twin

module _ (k : ℕ) (f : GatedForm) (fs : List GatedForm) (each : All (IsGatedForm k) (f ∷ fs)) (shut : ℕ → Bool) where
  it : IsGatedForm k f
  it = All-head (IsGatedForm k) f fs each

  rest : All (IsGatedForm k) fs
  rest = All-tail (IsGatedForm k) f fs each

  abbrev uses : List ℕ
  uses = gated_uses (f ∷ fs)

  abbrev copies : List ℕ
  copies = gated_copies k (f ∷ fs)

  abbrev begun : Built
  begun = record { species = k; reactions = [] }

  held : IsMade k (fanned k uses) (λ a m. map m copies ≡ map (amount a) uses)
  held = fan_one_makes begun (fanned k uses) uses copies refl refl (gated_within k (f ∷ fs) each)

  -- the first form and its gate
  first_holds : Holds k (form_by (carried shut) f copies (fanned k uses)) (form_value shut f) (drop (length (uses_of_form f)) copies) (gated_uses fs)
  first_holds =
      form_holds k shut f it copies (gated_uses fs) (length-rails_after k (length uses)) (fanned k uses) (fanned_sound k uses) (fan_one_moves begun (fanned k uses) uses copies refl refl).made (omega arith) held

  abbrev laid : Laid
  laid = laid_by (carried shut) k (f ∷ fs)

  abbrev pub twin : Network
  twin = network_of_laid k laid

  makes : Makes k laid (twin_value shut (f ∷ fs))
  unfolding twin_value
  makes = all_make k shut fs rest (drop (length (uses_of_form f)) copies) (form_by (carried shut) f copies (fanned k uses)) (form_value shut f) first_holds

  twin_is_network : IsNetwork twin
  twin_is_network = draft_is_network (record { rails = Direct; variables = k; context = false; built = laid.built }) (One laid.rail) makes.sound makes.room (makes.free.low, makes.free.high)

  pub twin_feeds_forward : IsFeedForward twin
  twin_feeds_forward = feed_forward twin makes.sound.feeds

  twin_computes : (xs : List ℚ) → AreNotNegative xs → length xs ≡ k → StablyComputes twin xs (twin_value shut (f ∷ fs) xs)
  twin_computes xs nonneg e =
      let a : List ℚ = start twin xs in
      let nn : IsNotNegative a = start_not_negative twin xs nonneg in
      let run = completion_runs twin twin_is_network.reactions twin_feeds_forward a nn in
      let lack = completion_exhausts twin twin_is_network.reactions twin_feeds_forward a nn in
      computes_made_value twin twin_is_network twin_feeds_forward (untaken twin laid.rail (not_taken twin.reactions laid.rail makes.free.untaken)) xs nonneg (twin_value shut (f ∷ fs) xs)
      (makes.value twin [] a (completion twin a) (completed twin a)
      (goes_to_end twin twin_is_network twin_feeds_forward laid.built refl (omega arith) a (completion twin a) (completed twin a) nn run lack) (start_is_empty k laid makes.room xs)
      ∙ ap (twin_value shut (f ∷ fs)) (start_is k laid makes.room xs e))

  -- ---- alike

  first_copies : AreCopies k uses shut copies uses
  first_copies = copies_from k uses shut k uses (omega arith) (gated_within k (f ∷ fs) each) held

  pub follows : Follows k uses shut laid.built (laid_by gate_on k (f ∷ fs)) laid
  follows =
      let left : List ℕ = drop (length (uses_of_form f)) copies in
      let l : Laid = form_by (carried shut) f copies (fanned k uses) in
      let step : Follows k uses shut laid.built (form_by gate_on f copies (fanned k uses)) l =
      form_follows k uses shut laid.built f copies (gated_uses fs) (fanned k uses).reactions (fanned k uses) (omega arith) first_copies
      (λ v is lets. all_spare k shut fs rest left l (form_value shut f) first_holds (get_or (drop (length (nonzero f.form)) copies) 0 0)
      (form_open k shut f it copies (gated_uses fs) (length-rails_after k (length uses)) (fanned k uses) (fanned_sound k uses) (fan_one_moves begun (fanned k uses) uses copies refl refl).made (omega arith) held v is lets))
      (begin k uses shut laid.built) in
      let grown : (fanned k uses).species ≤ l.built.species = form_grows k uses shut laid.built f copies (fanned k uses) in
      subst (λ g. Follows k uses shut laid.built (least_by gate_on g fs left) laid) (sym step.is)
      (all_follow k uses shut laid.built fs rest left l (form_value shut f) first_holds (copies_rest k uses shut (uses_of_form f) (gated_uses fs) copies first_copies) (omega arith) refl step.reactions step.tracks)

  -- reaction by reaction the lists are alike
  pub alike_here : (i : ℕ) → AreAlikeAt k uses shut laid.built (length (fanned k uses).reactions) follows.reactions laid.built.reactions i
  alike_here i =
      subst (λ rs. AreAlikeAt k uses shut laid.built (length (fanned k uses).reactions) rs laid.built.reactions i) (sym follows.tracks.gated_is)
      (subst (λ ts. AreAlikeAt k uses shut laid.built (length (fanned k uses).reactions) ((fanned k uses).reactions ++ follows.tracks.more) ts i) (sym follows.tracks.plain_is)
      (alike_after k uses shut laid.built (fanned k uses).reactions follows.tracks.more follows.tracks.plain follows.tracks.alike i))

  -- it has the species of the fan-out
  many : k + length uses ≤ laid.built.species
  many =
      let first : (fanned k uses).species ≤ (form_by (carried shut) f copies (fanned k uses)).built.species = form_grows k uses shut laid.built f copies (fanned k uses) in
      let others = all_grow k uses shut laid.built fs (form_by (carried shut) f copies (fanned k uses)) (drop (length (uses_of_form f)) copies) in
      omega arith

  -- the gated layout, with its reactions
  abbrev gated : Network
  gated = network_of_laid k (swap follows.reactions laid)

  -- they are as many as those of the twin, and so no more than the species
  same_count : length gated.reactions ≡ length twin.reactions
  same_count =
      ap length follows.tracks.gated_is ∙ length-append (fanned k uses).reactions follows.tracks.more
      ∙ ap (λ n. length (fanned k uses).reactions + n) (same_length k uses shut laid.built follows.tracks.more follows.tracks.plain follows.tracks.alike)
      ∙ sym (ap length follows.tracks.plain_is ∙ length-append (fanned k uses).reactions follows.tracks.plain)

  gated_few_reactions : length gated.reactions ≤ gated.species
  gated_few_reactions = omega (arith, same_count, few_reactions laid.built.species laid.built.reactions makes.sound.feeds makes.sound.each)

  gated_species : k ≤ gated.species
  gated_species = omega (arith, many)

  -- ---- the twin at a start

  module _ (xs : List ℚ) (nonneg : AreNotNegative xs) (e : length xs ≡ k) (at_start : (v : ℕ) → shut v ≡ is_zero_ℚ (amount xs v)) where
    abbrev a : List ℚ
    a = start twin xs

    nn : IsNotNegative a
    nn = start_not_negative twin xs nonneg

    -- a run to where the fan-out is done
    goes : (us : List (List Flow)) (c : List ℚ) → Run twin a us c → FirstLack twin (length (fanned k uses).reactions) c → GoesOn twin (fanned k uses) follows.tracks.plain a us c
    goes us c run lack = record {
      network = twin_is_network.reactions;
      feed_forward = twin_feeds_forward;
      reactions = follows.tracks.plain_is;
      species = many;
      later_gives = λ s l. follows.tracks.gives s l;
      not_negative = nn;
      run = run;
      lack = lack;
    }

    -- has made of a copy what the start has of the variable
    copy_made : (us : List (List Flow)) (c : List ℚ) → Run twin a us c → FirstLack twin (length (fanned k uses).reactions) c → (g v : ℕ) → IsCopy k uses shut g v → made_in twin us c g ≡ amount xs v
    copy_made us c run lack g v is =
        is.made twin follows.tracks.plain a us c (goes us c run lack) (start_is_empty k laid makes.room xs)
        ∙ sym (input_amount k a v is.variable.0 is.variable.1) ∙ ap (λ ys. amount ys v) (start_is k laid makes.room xs e)

    -- so of an open gate's copy there is some
    present : (g v : ℕ) → IsCopy k uses shut g v → shut v ≡ false → IsFree laid.built g → (us : List (List Flow)) (c : List ℚ) → Run twin a us c → FirstLack twin (length (fanned k uses).reactions) c → amount c g ≢ 0ℚ
    present g v is lets free us c run lack none =
        nonzero_of_is_zero_ℚ (amount xs v) (sym (at_start v) ∙ lets)
        (sym (copy_made us c run lack g v is) ∙ made_untaken twin us c g (untaken twin g (not_taken twin.reactions g free.untaken)) ∙ none)

    -- and of a shut gate's copy there is never any
    absent : (g v : ℕ) → IsCopy k uses shut g v → shut v ≡ true → (us : List (List Flow)) (c : List ℚ) → Run twin a us c → amount c g ≡ 0ℚ
    absent g v is closed us c run =
        let here : IsNotNegative c = run_not_negative twin us a c nn run in
        let vs : List (List Flow) = completion twin c in
        let d : List ℚ = completed twin c in
        let on : Run twin c vs d = completion_runs twin twin_is_network.reactions twin_feeds_forward c here in
        let lack = completion_exhausts twin twin_is_network.reactions twin_feeds_forward c here in
        let none : amount xs v ≡ 0ℚ = ⊎_elim (λ c. c.0) (λ c. absurd (cc (c.1, at_start v, closed))) (is_zero_ℚ_cases (amount xs v)) in
        let made : made_in twin (us ++ vs) d g ≡ 0ℚ =
        copy_made (us ++ vs) d (run-append twin us vs a c d run on) (λ q low high. lack q low (omega (arith, ap length follows.tracks.plain_is, length-append (fanned k uses).reactions follows.tracks.plain))) g v is ∙ none in
        ≤ℚ_antisymm _ _ (subst (λ x. amount c g ≤ℚ x) made (there_made twin us vs a c d run on g is.low (omega (arith, is.high, many)))) (here g)

    -- reaction by reaction
    found : (i : ℕ) → AreAlikeAt k uses shut laid.built (length (fanned k uses).reactions) follows.reactions laid.built.reactions i →
        IsSame gated twin (suc i) ⊎ (IsOpen gated twin (length (fanned k uses).reactions) a (suc i) ⊎ IsShut gated twin a (suc i))
    found i h =
        ⊎_elim (λ e. inl (record { same = e }))
        (λ p. ⊎_elim (λ e. inl (record { same = e }))
        (λ q. inr (⊎_elim (λ (o : IsOpenGate k uses shut laid.built (get_or follows.reactions i none) (get_or laid.built.reactions i none)). inl (record {
          copy = o.copy;
          form = o.form;
          result = o.result;
          three = record { form = omega (arith, o.copied.high, o.rising.0); result = omega (arith, o.copied.high, o.rising.0, o.rising.1); across = omega (arith, o.rising.1) };
          gated = o.gated;
          plain = o.plain;
          later = omega (arith, p.0);
          present = present o.copy o.variable o.copied o.lets o.free;
        }))
        (λ (o : IsShutGate k uses shut laid.built (get_or follows.reactions i none) (get_or laid.built.reactions i none)). inr (record {
          copy = o.copy;
          form = o.form;
          result = o.result;
          three = record { form = omega (arith, o.copied.high, o.rising.0); result = omega (arith, o.copied.high, o.rising.0, o.rising.1); across = omega (arith, o.rising.1) };
          gated = o.gated;
          plain = o.plain;
          absent = absent o.copy o.variable o.copied o.closed;
        })) q)) p.1) h

    is_twin : IsTwin gated twin (length (fanned k uses).reactions) a
    is_twin = record {
      species = refl;
      count = same_count;
      alike = λ r low high. one_by_one r low;
    }
      where
        one_by_one : (r : ℕ) → 1 ≤ r → IsSame gated twin r ⊎ (IsOpen gated twin (length (fanned k uses).reactions) a r ⊎ IsShut gated twin a r)
        one_by_one zero low = absurd (omega arith)
        one_by_one (suc i) low = found i (alike_here i)

    same_start : start gated xs ≡ start twin xs
    unfolding start
    same_start = refl

    gated_computes : StablyComputesGated gated xs (twin_value shut (f ∷ fs) xs)
    gated_computes =
        computes_through gated twin (length (fanned k uses).reactions) xs twin_is_network.reactions twin_feeds_forward same_start nn refl is_twin (twin_value shut (f ∷ fs) xs) (twin_computes xs nonneg e)

    gated_same_ends : (us : List (List Flow)) (c : List ℚ) → Run gated (start gated xs) us c → gated_completed gated c ≡ gated_completed gated (start gated xs)
    gated_same_ends us c run =
        same_ends gated twin (length (fanned k uses).reactions) a twin_is_network twin_feeds_forward (start_is_state twin xs nonneg) is_twin us c (subst (λ x. Run gated x us c) same_start run)
        ∙ ap (gated_completed gated) (sym same_start)

  -- the gated layout is a network
  gated_is_network : IsNetwork gated
  gated_is_network = record {
    reactions = are_reactions gated
        (subst (EachReaction laid.built.species) (sym follows.tracks.gated_is)
        (all_well k uses shut laid.built laid.built.species (fanned k uses).reactions follows.tracks.more follows.tracks.plain follows.tracks.alike
        (subst (EachReaction laid.built.species) follows.tracks.plain_is makes.sound.each)));
    inputs = twin_is_network.inputs;
    different = twin_is_network.different;
    output = twin_is_network.output;
    context = twin_is_network.context;
  }

-- ---- the theorems

-- the gated layout is a network
pub layout_is_network : (k : ℕ) (fs : List GatedForm) → AreGatedForms k fs → IsNetwork (gated_layout k fs)
layout_is_network k [] are = absurd (omega (arith, are.some))
layout_is_network k (f ∷ fs) are =
    subst (λ l. IsNetwork (network_of_laid k l)) (sym (follows k f fs are.each (λ v. false)).is) (gated_is_network k f fs are.each (λ v. false))

-- that can be made
pub layout_is_valid : (k : ℕ) (fs : List GatedForm) → AreFewGatedForms k fs → IsValid (gated_layout k fs)
layout_is_valid k [] are = absurd (omega (arith, are.forms.some))
layout_is_valid k (f ∷ fs) are =
    let e = follows k f fs are.forms.each (λ v. false) in
    let reactions : length (gated_layout k (f ∷ fs)).reactions ≤ (gated_layout k (f ∷ fs)).species =
    subst (λ l. length (network_of_laid k l).reactions ≤ (network_of_laid k l).species) (sym e.is) (gated_few_reactions k f fs are.forms.each (λ v. false)) in
    let species : k ≤ (gated_layout k (f ∷ fs)).species = subst (λ l. k ≤ (network_of_laid k l).species) (sym e.is) (gated_species k f fs are.forms.each (λ v. false)) in
    let few : (gated_layout k (f ∷ fs)).species ≤ 8 + 12 * length (f ∷ fs) = few_species k (f ∷ fs) are.high are.forms.each in
    let inputs : length (gated_layout k (f ∷ fs)).inputs ≡ k = length-inputs_after Direct 0 k in
    record {
      network = layout_is_network k (f ∷ fs) are.forms;
      limits = record {
        some_species = omega (arith, species, are.low);
        few_species = omega (arith, few, are.few);
        few_reactions = omega (arith, reactions, few, are.few);
        some_input = omega (arith, inputs, are.low);
        few_inputs = omega (arith, inputs, are.high);
      };
    }

-- and stably computes the least of its forms
pub layout_computes : (k : ℕ) (fs : List GatedForm) → AreGatedForms k fs → ComputesGated (gated_layout k fs) (gated_value fs)
layout_computes k [] are xs amounts = absurd (omega (arith, are.some))
layout_computes k (f ∷ fs) are xs amounts =
    subst (StablyComputesGated (gated_layout k (f ∷ fs)) xs) (same_value (f ∷ fs) xs)
    (subst (λ l. StablyComputesGated (network_of_laid k l) xs (twin_value (shut_at xs) (f ∷ fs) xs)) (sym (follows k f fs are.each (shut_at xs)).is)
    (gated_computes k f fs are.each (shut_at xs) xs amounts.not_negative (amounts.long ∙ length-inputs_direct 0 k) (λ v. refl)))

-- where a gated completion after a run from a start ends, the output is settled at the least of the forms
pub settled_after : (net : Network) (k : ℕ) (fs : List GatedForm) → AreGatedForms k fs → net ≡ gated_layout k fs → (xs : List ℚ) → AreAmounts net xs →
    (us : List (List Flow)) (c : List ℚ) → Run net (start net xs) us c → (d : List ℚ) → Run net c (gated_completion net c) d → IsSettled net d (gated_value fs xs)
settled_after net k fs are e =
    subst (λ n. (xs : List ℚ) → AreAmounts n xs → (us : List (List Flow)) (c : List ℚ) → Run n (start n xs) us c → (d : List ℚ) → Run n c (gated_completion n c) d → IsSettled n d (gated_value fs xs)) (sym e)
    (λ xs amounts us c run d on. subst (λ x. IsSettled (gated_layout k fs) x (gated_value fs xs)) (sym (run_end (gated_layout k fs) (gated_completion (gated_layout k fs) c) c d on)) ((layout_computes k fs are xs amounts).settles us c run))

-- whatever run comes first from a start, the gated completion ends in the same state
pub layout_same_ends : (k : ℕ) (fs : List GatedForm) → AreGatedForms k fs → (xs : List ℚ) → AreAmounts (gated_layout k fs) xs → (us : List (List Flow)) (c : List ℚ) →
    Run (gated_layout k fs) (start (gated_layout k fs) xs) us c → gated_completed (gated_layout k fs) c ≡ gated_completed (gated_layout k fs) (start (gated_layout k fs) xs)
layout_same_ends k [] are xs amounts us c run = absurd (omega (arith, are.some))
layout_same_ends k (f ∷ fs) are xs amounts us c run =
    let Ends : Network → Type 0 = λ n. Run n (start n xs) us c → gated_completed n c ≡ gated_completed n (start n xs) in
    subst (λ l. Ends (network_of_laid k l)) (sym (follows k f fs are.each (shut_at xs)).is)
    (gated_same_ends k f fs are.each (shut_at xs) xs amounts.not_negative (amounts.long ∙ length-inputs_direct 0 k) (λ v. refl) us c) run
