-- What the steps of the compiler come to: the layout.
use Rattle.std.proofs.Common.{◌≡◌, ℕ, Bool, ◌+◌, ◌≤◌, List, [], length, sym, ◌∙◌, ap, ap₂, subst, arith, append-nil}
use Rattle.crn_net.specs.Network.{Network}
use Rattle.crn_net.specs.declared.Rails.TheVariants.{Dual}
use Rattle.crn_net.specs.declared.Ends.TheVariants as ends
use Rattle.crn_gates.specs.declared.Pair.{Pair}
use Rattle.crn_gates.specs.declared.Use.{Use}
use Rattle.crn_gates.specs.declared.Copied.{Copied}
use Rattle.crn_gates.specs.Gates.{Built}
use Rattle.crn_gates.specs.FanOut.{fanned}
use Rattle.crn_gates.specs.Building.{IsSound, AllFree}
use Rattle.crn_gates.specs.Pairs.{rails_of_pair, rails_of_copies, rails_of_uses, copies_after, AreUses}
use Rattle.crn_gates.specs.Drafts.{Draft, begun, width_before, network_of_draft}
use Rattle.crn_gates.proofs.FanLaws.{fanned_sound}
use Rattle.crn_formula.specs.Formulas.{Formula}
use Rattle.crn_dual.specs.Columns.{IsOverVariables, has_context}
use Rattle.crn_dual.specs.Computes.{Computes}
use Rattle.crn_dual.specs.Layout.{uses_of, rails_of, laid_out, layout}
use Rattle.crn_dual.specs.OnCopies.{use_count, Made, nodes_on}
use Rattle.crn_dual.proofs.Laying.{nodes_grow}
use Rattle.crn_dual.proofs.LayoutLaws.{layout_uses, over_columns, layout_computes}
use Rattle.crn_dual.proofs.Keeping.{one_ready}
use Rattle.crn_dual.proofs.Agreeing.{use_count-uses, length-copies_after, as_made, nodes_agree}

-- a formula over k variables, whether it has a context, a builder that has just begun, and the uses
module _ (k : ℕ) (e : Formula) (over : IsOverVariables k e) (context : Bool) (start : Draft) (us : List Use)
    (context_is : context ≡ has_context k e) (start_is : start ≡ begun Dual k context) (uses_are : us ≡ uses_of k e) where
  -- the uses are of variables and, where there is one, of the context
  pub uses_fit : AreUses start.variables start.context us
  uses_fit =
      subst (λ (d : Draft). AreUses d.variables d.context us) (sym start_is)
      (subst (λ c. AreUses k c us) (sym context_is) (subst (AreUses k (has_context k e)) (sym uses_are) (layout_uses k (has_context k e) e (over_columns k e over))))

  -- how many species there are before the copies
  width_is : start.built.species ≡ width_before Dual k (has_context k e)
  width_is = ap (λ (d : Draft). d.built.species) start_is ∙ ap (width_before Dual k) context_is

  -- the rails that are fanned out
  rails_are : rails_of_uses start.variables us ≡ rails_of k e
  rails_are = ap₂ rails_of_uses (ap (λ (d : Draft). d.variables) start_is) uses_are

  -- the layout has at least the species of the inputs, the context and the copies
  pub copies_fit : start.built.species + length (rails_of_uses start.variables us) ≤ (layout k e).species
  copies_fit = omega (arith, width_is, ap length rails_are, nodes_grow k e (width_before Dual k (has_context k e)) (fanned (width_before Dual k (has_context k e)) (rails_of k e)))

  module _ (fanned_out : Draft) (items : List Copied) (fanned_is : fanned_out ≡ record start { built = fanned start.built.species (rails_of_uses start.variables us) }) (items_are : items ≡ copies_after start.built.species us) where
    -- there is a copy for each coefficient that is not 0
    pub copies_suffice : use_count e ≤ length items
    copies_suffice = omega (arith, ap length items_are, length-copies_after start.built.species us, ap length uses_are, use_count-uses k e)

    built_is : fanned_out.built ≡ fanned (width_before Dual k (has_context k e)) (rails_of k e)
    built_is = ap (λ (d : Draft). d.built) fanned_is ∙ ap₂ fanned width_is rails_are

    -- the nodes on the copies are those of the layout
    pub nodes_are : nodes_on e items fanned_out.built ≡ as_made (laid_out k (has_context k e) e)
    nodes_are =
        ap₂ (nodes_on e) (items_are ∙ ap₂ copies_after width_is uses_are ∙ sym (append-nil _)) built_is
        ∙ nodes_agree k e (width_before Dual k (has_context k e)) [] (fanned (width_before Dual k (has_context k e)) (rails_of k e))

    -- so they have its species
    pub species_are : (nodes_on e items fanned_out.built).built.species ≡ (layout k e).species
    species_are = ap (λ (m : Made). m.built.species) nodes_are

    -- the network is sound
    pub fanned_out_sound : IsSound fanned_out.built
    fanned_out_sound = subst IsSound (sym built_is) (fanned_sound (width_before Dual k (has_context k e)) (rails_of k e))

    module _ (end : Draft) (root : Pair) (end_is : end ≡ record fanned_out { built = (nodes_on e items fanned_out.built).built }) (root_is : root ≡ (nodes_on e items fanned_out.built).pair) where
      -- the pair of the root is free
      pub root_free : AllFree fanned_out.built (rails_of_copies items) → AllFree end.built (rails_of_pair root)
      root_free free = one_ready e items fanned_out.built end.built root (ap (λ (d : Draft). d.built) end_is) root_is fanned_out_sound free copies_suffice

      -- the network is the layout
      pub network_is : network_of_draft end (ends.Pair root.plus root.minus) ≡ layout k e
      network_is =
          let hc : Bool = has_context k e in
          let made : Made = nodes_on e items fanned_out.built in
          let draft : end ≡ record { rails = Dual; variables = k; context = hc; built = (laid_out k hc e).built } =
          end_is ∙ ap (λ (d : Draft). let x : Draft = record d { built = made.built } in x) fanned_is
          ∙ ap (λ (d : Draft). let x : Draft = record d { built = made.built } in x) start_is
          ∙ ap₂ (λ c (b : Built). let x : Draft = record { rails = Dual; variables = k; context = c; built = b } in x) context_is (ap (λ (m : Made). m.built) nodes_are) in
          ap₂ network_of_draft draft (ap (λ (p : Pair). ends.Pair p.plus p.minus) (root_is ∙ ap (λ (m : Made). m.pair) nodes_are))

-- a network that is the layout stably computes the formula's value
pub computes_as_layout : (k : ℕ) (e : Formula) → IsOverVariables k e → (net : Network) → net ≡ layout k e → Computes net k e
computes_as_layout k e over net is = subst (λ (n : Network). Computes n k e) (sym is) (layout_computes k e over)
