-- What the steps of the compiler come to: the direct layout.
use Rattle.std.proofs.Common.{◌≡◌, ℕ, suc, false, take, ◌-◌, ◌+◌, ◌<◌, ◌≤◌, List, [], ◌∷◌, length, drop, drop-cons, get_or, refl, sym, ◌∙◌, ap, ap₂, subst, arith, add-one, length-append, length-drop}
use Rattle.std.specs.List.{All}
use Rattle.std.proofs.Math.Seq.{take-length}
use Rattle.std.proofs.lemmas.List.Elements.{All-head, All-tail}
use Rattle.crn_fraction.specs.Rational.{ℚ, 0ℚ, ◌≤ℚ◌}
use Rattle.crn_gates.specs.Building.{IsSound, AllFree}
use Rattle.crn_net.specs.Network.{Network}
use Rattle.crn_net.specs.declared.Rails.TheVariants.{Direct}
use Rattle.crn_net.specs.declared.Ends.TheVariants.{One}
use Rattle.crn_gates.proofs.FanLaws.{fanned_sound}
use Rattle.crn_gates.specs.Computes.{Computes}
use Rattle.crn_gates.specs.Drafts.{Draft, begun, network_of_draft}
use Rattle.crn_gates.specs.FanOut.{fanned}
use Rattle.crn_gates.specs.declared.BuildError.{BuildError}
use Rattle.crn_gates.specs.declared.BuildError.TheVariants.{TooLarge, Memory}
use Rattle.crn_formula.specs.Functions.{AreFewForms, least_value}
use Rattle.crn_gates.specs.Gates.{Built, stamped, min_one_table}
use Rattle.crn_gates.specs.Singles.{rails_after, ascending}
use Rattle.crn_gates.specs.Terms.{nonzero}
use Rattle.crn_direct.specs.Layout.{column_count, variables_from, uses_of, copies_for, Laid, leaf_on, minimum_with, least_on, laid_out, direct_layout}
use Rattle.crn_direct.proofs.Leaves.{count_variables}
use Rattle.crn_direct.proofs.Laying.{IsReady, leaf_ready, minimum_ready, pair_free}
use Rattle.crn_direct.proofs.LayoutLaws.{uses_within, length-rails_after, layout_computes}
use Rattle.crn_direct.proofs.Loops.{past}
use Rattle.crn_direct.proofs.Sizes.{least_grows, few_species}

-- a builder and the rail that was made last
abbrev pub laid : Draft → ℕ → Laid
laid d x = record { built = d.built; rail = x }

-- after i forms: the forms that are left, on what stands then, come to what all of them come to on what stood before
pub record GoesOn (start : Draft) (first : ℕ) (forms : List (List ℚ)) (all : List ℕ) (i : ℕ) (now : Draft) (last : ℕ) (copies : List ℕ) : Type 0 where
  pub same : now ≡ record start { built = now.built }
  pub steps : least_on (laid now last) (drop i forms) copies ≡ least_on (laid start first) forms all
  pub ready : IsReady (laid now last) copies
  pub enough : length (uses_of (drop i forms)) ≤ length copies

-- the least of one form more
unrolled : (m : Laid) (form : List ℚ) (forms : List (List ℚ)) (copies : List ℕ) →
    least_on m (form ∷ forms) copies ≡ least_on (minimum_with m.rail (leaf_on form copies m.built)) forms (drop (length (nonzero form)) copies)
unfolding least_on
unrolled m form forms copies = refl

-- and of none
ended : (m : Laid) (copies : List ℕ) → least_on m [] copies ≡ m
unfolding least_on
ended m copies = refl

module _ (start : Draft) (first : ℕ) (forms : List (List ℚ)) (all : List ℕ) (i : ℕ) (now : Draft) (last : ℕ) (copies : List ℕ) (goes : GoesOn start first forms all i now last copies)
    (form : List ℚ) (l : i < length forms) (at_i : form ≡ get_or forms i form) (nonnegative : All (λ c. 0ℚ ≤ℚ c) form) where
  here : drop i forms ≡ form ∷ drop (i + 1) forms
  here = rw add-one (drop-cons forms i form l ∙ ap (λ v. v ∷ drop (suc i) forms) (sym at_i))

  -- there are copies for the next form
  pub enough_for : length (nonzero form) ≤ length copies
  enough_for = omega (arith, goes.enough, ap (λ fs. length (uses_of fs)) here, length-append (variables_from 1 form) (uses_of (drop (i + 1) forms)), count_variables 1 form)

  -- the form and the rail before it are free
  pub both_free : (d : Draft) (y : ℕ) → d ≡ record now { built = (leaf_on form copies now.built).built } → y ≡ suc now.built.species → AllFree d.built (last ∷ y ∷ [])
  both_free d y d_is y_is =
      subst (λ v. AllFree d.built (last ∷ v ∷ [])) (sym y_is)
      (subst (λ (v : Draft). AllFree v.built (last ∷ suc now.built.species ∷ [])) (sym d_is) (pair_free form copies (laid now last) goes.ready enough_for nonnegative))

  -- and the species of both are species of all
  pub more_species : now.built.species + 2 ≤ (least_on (laid start first) forms all).built.species
  more_species =
      omega (arith, ap (λ (m : Laid). m.built.species) goes.steps, least_grows (drop i forms) (laid now last) copies, ap (λ fs. length fs) here)

  module _ (d : Draft) (y : ℕ) (d_is : d ≡ record now { built = (leaf_on form copies now.built).built }) (y_is : y ≡ suc now.built.species)
      (e : Draft) (z : ℕ) (e_is : e ≡ record d { built = stamped (ascending last y) 1 min_one_table d.built }) (z_is : z ≡ suc d.built.species)
      (copies' : List ℕ) (copies_are : copies' ≡ drop (length (nonzero form)) copies) where
    -- the minimum stands then
    minimum_is : laid e z ≡ minimum_with last (leaf_on form copies now.built)
    minimum_is =
        let both : Built → ℕ → Laid = λ b x. record { built = b; rail = x } in
        ap₂ both (ap (λ (v : Draft). v.built) e_is ∙ ap₂ (λ x (v : Draft). stamped (ascending last x) 1 min_one_table v.built) y_is d_is) (z_is ∙ ap (λ (v : Draft). suc v.built.species) d_is)

    -- and the rest goes on from there
    pub goes_next : GoesOn start first forms all (i + 1) e z copies'
    goes_next =
        let with_built : Draft → Built → Draft = λ v b. record v { built = b } in
        record {
          same = e_is ∙ ap (λ v. with_built v (stamped (ascending last y) 1 min_one_table d.built)) d_is
              ∙ ap (λ v. with_built v (stamped (ascending last y) 1 min_one_table d.built)) goes.same ∙ ap (λ (v : Draft). with_built start v.built) (sym e_is);
          steps = ap₂ (λ l cs. least_on l (drop (i + 1) forms) cs) minimum_is copies_are ∙ sym (unrolled (laid now last) form (drop (i + 1) forms) copies)
              ∙ ap (λ fs. least_on (laid now last) fs copies) (sym here) ∙ goes.steps;
          ready = subst (λ l. IsReady l copies') (sym minimum_is)
              (subst (IsReady (minimum_with last (leaf_on form copies now.built))) (sym copies_are) (minimum_ready form copies (laid now last) goes.ready enough_for nonnegative));
          enough = omega (
            arith,
            goes.enough,
            ap (λ fs. length (uses_of fs)) here,
            length-append (variables_from 1 form) (uses_of (drop (i + 1) forms)),
            count_variables 1 form,
            ap (λ cs. length cs) copies_are,
            length-drop (length (nonzero form)) copies,
          );
        }

-- after the last form, what stands is the least of all
module _ (start : Draft) (first : ℕ) (forms : List (List ℚ)) (all : List ℕ) (i : ℕ) (now : Draft) (last : ℕ) (copies : List ℕ) (goes : GoesOn start first forms all i now last copies) (l : length forms ≤ i) where
  all_laid : laid now last ≡ least_on (laid start first) forms all
  all_laid = sym (ended (laid now last) copies) ∙ ap (λ fs. least_on (laid now last) fs copies) (sym (past forms i l)) ∙ goes.steps

  pub end_network : now ≡ record start { built = (least_on (laid start first) forms all).built }
  end_network = let with_built : Draft → Built → Draft = λ v b. record v { built = b } in goes.same ∙ ap (λ (m : Laid). with_built start m.built) all_laid

  pub end_rail : last ≡ (least_on (laid start first) forms all).rail
  end_rail = ap (λ (m : Laid). m.rail) all_laid

-- at first nothing is laid
pub goes_first : (start : Draft) (first : ℕ) (forms : List (List ℚ)) (all : List ℕ) → IsSound start.built → AllFree start.built (first ∷ all) → length (uses_of forms) ≤ length all → GoesOn start first forms all 0 start first all
goes_first start first forms all ok free enough = record { same = refl; steps = refl; ready = record { sound = ok; free = free }; enough = enough }

-- ---- the whole

-- forms are the first of them, and the rest
split_first : (forms : List (List ℚ)) → 1 ≤ length forms → (form : List ℚ) → form ≡ get_or forms 0 form → forms ≡ form ∷ take (length forms - 1) (drop 1 forms)
split_first [] some form e = absurd (omega arith)
split_first (f ∷ fs) some form e =
    let n : suc (length fs) - 1 ≡ length fs = omega arith in
    ap₂ (λ x xs. x ∷ xs) (sym e) (sym (ap (λ m. take m fs) n ∙ take-length fs))

module _ (forms : List (List ℚ)) (few : AreFewForms forms) (long : All (λ f. length f ≡ column_count forms) forms) (start : Draft) (v : ℕ) (uses : List ℕ) (form : List ℚ)
    (form_is : form ≡ get_or forms 0 form) (v_is : v ≡ length form) (start_is : start ≡ begun Direct v false) (uses_are : uses ≡ uses_of forms) where
  abbrev rest : List (List ℚ)
  rest = take (length forms - 1) (drop 1 forms)

  forms_are : forms ≡ form ∷ rest
  forms_are = split_first forms few.some form form_is

  count_is : v ≡ column_count forms
  count_is = v_is ∙ sym (ap column_count forms_are)

  variables_are : start.variables ≡ column_count forms
  variables_are = ap (λ (d : Draft). d.variables) start_is ∙ count_is

  species_are : start.built.species ≡ column_count forms
  species_are = ap (λ (d : Draft). d.built.species) start_is ∙ count_is

  -- the uses are of variables
  pub uses_fit : All (λ u. (1 ≤ u) × (u ≤ start.variables)) uses
  uses_fit =
      subst (λ n. All (λ u. (1 ≤ u) × (u ≤ n)) uses) (sym variables_are)
      (subst (All (λ u. (1 ≤ u) × (u ≤ column_count forms))) (sym uses_are) (uses_within (column_count forms) forms long))

  -- the layout has the species of the inputs, the copies and the first form
  pub copies_fit : start.built.species + length uses + 1 ≤ (direct_layout (column_count forms) forms).species
  copies_fit =
      omega (
        arith,
        species_are,
        ap (λ us. length us) uses_are,
        ap (λ fs. (laid_out (column_count forms) fs).built.species) forms_are,
        ap (λ fs. length (uses_of fs)) forms_are,
        least_grows rest (leaf_on form (copies_for (column_count forms) (form ∷ rest)) (fanned (column_count forms) (uses_of (form ∷ rest)))) (drop (length (nonzero form)) (copies_for (column_count forms) (form ∷ rest))),
      )

  module _ (with_copies : Draft) (items : List ℕ) (copied_is : with_copies ≡ record start { built = fanned start.built.species uses }) (items_are : items ≡ rails_after start.built.species (length uses)) where
    built_is : with_copies.built ≡ fanned (column_count forms) (uses_of (form ∷ rest))
    built_is = ap (λ (d : Draft). d.built) copied_is ∙ ap₂ fanned species_are (uses_are ∙ ap uses_of forms_are)

    copies_are : items ≡ copies_for (column_count forms) (form ∷ rest)
    copies_are = items_are ∙ ap₂ (λ n us. rails_after n (length us)) species_are (uses_are ∙ ap uses_of forms_are)

    -- as many as there are uses
    copy_count : length items ≡ length (variables_from 1 form) + length (uses_of rest)
    copy_count = ap (λ cs. length cs) copies_are ∙ length-rails_after (column_count forms) (length (uses_of (form ∷ rest))) ∙ length-append (variables_from 1 form) (uses_of rest)

    -- there are copies for the first form
    pub first_enough : length (nonzero form) ≤ length items
    first_enough = omega (arith, copy_count, count_variables 1 form)

    -- and its species is one of the layout's
    pub first_fits : with_copies.built.species + 1 ≤ (direct_layout (column_count forms) forms).species
    first_fits = omega (arith, copies_fit, ap (λ (d : Draft). d.built.species) copied_is)

    first_nonnegative : All (λ c. 0ℚ ≤ℚ c) form
    first_nonnegative = All-head (All (λ c. 0ℚ ≤ℚ c)) form rest (subst (All (All (λ c. 0ℚ ≤ℚ c))) forms_are few.nonnegative)

    module _ (with_first : Draft) (rail : ℕ) (left : List ℕ) (first_is : with_first ≡ record with_copies { built = (leaf_on form items with_copies.built).built }) (rail_is : rail ≡ suc with_copies.built.species)
        (left_is : left ≡ drop (length (nonzero form)) items) where
      -- the rail of the first form and the copies that are left are free
      pub left_free : AllFree with_copies.built items → AllFree with_first.built (rail ∷ left)
      left_free free =
          let ready : IsReady (leaf_on form items with_copies.built) (drop (length (nonzero form)) items) =
          leaf_ready form items with_copies.built (subst IsSound (sym built_is) (fanned_sound (column_count forms) (uses_of (form ∷ rest)))) free first_enough first_nonnegative in
          subst (λ (d : Draft). AllFree d.built (rail ∷ left)) (sym first_is)
          (subst (λ x. AllFree (leaf_on form items with_copies.built).built (x ∷ left)) (sym rail_is)
          (subst (λ xs. AllFree (leaf_on form items with_copies.built).built (suc with_copies.built.species ∷ xs)) (sym left_is) ready.free))

      -- enough for the rest
      pub left_enough : length (uses_of rest) ≤ length left
      left_enough = omega (arith, copy_count, count_variables 1 form, ap (λ cs. length cs) left_is, length-drop (length (nonzero form)) items)

      pub rest_nonnegative : All (All (λ c. 0ℚ ≤ℚ c)) rest
      rest_nonnegative = All-tail (All (λ c. 0ℚ ≤ℚ c)) form rest (subst (All (All (λ c. 0ℚ ≤ℚ c))) forms_are few.nonnegative)

      -- the least of the first form and the rest is what is laid out
      pub all_is : least_on (laid with_first rail) rest left ≡ laid_out (column_count forms) forms
      all_is =
          let both : Built → ℕ → Laid = λ b x. record { built = b; rail = x } in
          ap₂ (λ l cs. least_on l rest cs)
          (ap₂ both (ap (λ (d : Draft). d.built) first_is) rail_is ∙ ap₂ (leaf_on form) copies_are built_is)
          (left_is ∙ ap (drop (length (nonzero form))) copies_are)
          ∙ sym (ap (laid_out (column_count forms)) forms_are)

      -- so the network is the layout
      pub network_is : (end : Draft) (last : ℕ) → end ≡ record with_first { built = (least_on (laid with_first rail) rest left).built } → last ≡ (least_on (laid with_first rail) rest left).rail →
          network_of_draft end (One last) ≡ direct_layout (column_count forms) forms
      network_is end last end_is last_is =
          let with_built : Draft → Built → Draft = λ d b. record d { built = b } in
          let with_variables : ℕ → Built → Draft = λ n b. record { rails = Direct; variables = n; context = false; built = b } in
          let draft : end ≡ record { rails = Direct; variables = column_count forms; context = false; built = (laid_out (column_count forms) forms).built } =
          end_is ∙ ap (λ d. with_built d (least_on (laid with_first rail) rest left).built) first_is ∙ ap (λ d. with_built d (least_on (laid with_first rail) rest left).built) copied_is
          ∙ ap (λ d. with_built d (least_on (laid with_first rail) rest left).built) start_is
          ∙ ap₂ with_variables count_is (ap (λ (m : Laid). m.built) all_is) in
          ap₂ network_of_draft draft (ap One (last_is ∙ ap (λ (m : Laid). m.rail) all_is))

-- the layout of few forms is never too large
pub only_memory : (forms : List (List ℚ)) (error : BuildError) → AreFewForms forms → column_count forms ≤ 8 → All (λ f. length f ≡ column_count forms) forms →
    (error ≡ TooLarge → 65536 < (direct_layout (column_count forms) forms).species) → error ≡ Memory
only_memory forms TooLarge few low long large = let big : 65536 < (direct_layout (column_count forms) forms).species = large refl in absurd (omega (arith, big, few_species (column_count forms) forms low long, few.few))
only_memory forms Memory few low long large = refl

-- a network that is the layout stably computes the least value
pub computes_as_layout : (forms : List (List ℚ)) (net : Network) → AreFewForms forms → All (λ f. length f ≡ column_count forms) forms → net ≡ direct_layout (column_count forms) forms →
    Computes net (least_value forms)
computes_as_layout forms net few long is =
    subst (λ n. Computes n (least_value forms)) (sym is) (layout_computes (column_count forms) forms few.some long few.nonnegative)
