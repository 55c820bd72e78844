-- The counts of a gated layout.
use Rattle.std.proofs.Common.{ℕ, suc, ◌<◌, ◌^◌, List, [], ◌∷◌, length, drop, get_or, Option, Some, None, lit<}
use Rattle.std.proofs.lemmas.List.Elements.{All-head, All-tail}
use Rattle.std.specs.Prelude.{All}
use Rattle.crn_net.specs.Reactions.{EachCountOn}
use Rattle.crn_gates.specs.FanOut.{fanned}
use Rattle.crn_gates.specs.Gated.{gate_reaction}
use Rattle.crn_gates.specs.Gates.{Built}
use Rattle.crn_gates.specs.Terms.{nonzero}
use Rattle.crn_gates.proofs.Counts.{counts_append, fanned_counts}
use Rattle.crn_direct.specs.Layout.{Laid, leaf_on, minimum_with}
use Rattle.crn_direct.proofs.Counts.{leaf_on_counts, minimum_counts}
use Rattle.crn_gated.specs.Forms.{GatedForm, HasFracs}
use Rattle.crn_gated.specs.Layout.{uses_of_form, gated_uses, gate_on, passed, form_by, least_by, gated_copies, gated_layout}

module _ (P : ℕ → Type 0) (small : (n : ℕ) → n < 2 ^ 63 → P n) where
  one_is : P 1
  one_is = small 1 (lit< tt)

  gate_counts : (v copy : ℕ) (l : Laid) → EachCountOn P l.built.reactions → EachCountOn P (gate_on v copy l).built.reactions
  gate_counts v copy l before =
      counts_append P small l.built.reactions (gate_reaction copy l.rail (suc l.built.species) ∷ []) before ((one_is, (one_is, tt)), (one_is, (one_is, tt)), tt)

  passed_counts : (gate : Option ℕ) (copies : List ℕ) (l : Laid) → EachCountOn P l.built.reactions → EachCountOn P (passed gate_on gate copies l).built.reactions
  passed_counts None copies l before = before
  passed_counts (Some v) copies l before = gate_counts v (get_or copies 0 0) l before

  form_counts : (f : GatedForm) (copies : List ℕ) (b : Built) → HasFracs f → EachCountOn P b.reactions → EachCountOn P (form_by gate_on f copies b).built.reactions
  form_counts f copies b fits before =
      passed_counts f.gate (drop (length (nonzero f.form)) copies) (leaf_on f.form copies b) (leaf_on_counts P small f.form copies b fits before)

  least_counts : (fs : List GatedForm) (l : Laid) (copies : List ℕ) → All HasFracs fs → EachCountOn P l.built.reactions → EachCountOn P (least_by gate_on l fs copies).built.reactions
  unfolding least_by
  least_counts [] l copies fits before = before
  least_counts (f ∷ fs) l copies fits before =
      least_counts fs (minimum_with l.rail (form_by gate_on f copies l.built)) (drop (length (uses_of_form f)) copies) (All-tail HasFracs f fs fits)
      (minimum_counts P small l.rail (form_by gate_on f copies l.built) (form_counts f copies l.built (All-head HasFracs f fs fits) before))

  pub gated_counts : (k : ℕ) (fs : List GatedForm) → All HasFracs fs → EachCountOn P (gated_layout k fs).reactions
  gated_counts k [] fits = fanned_counts P small k []
  gated_counts k (f ∷ fs) fits =
      let copies = gated_copies k (f ∷ fs) in
      let begun = form_by gate_on f copies (fanned k (gated_uses (f ∷ fs))) in
      least_counts fs begun (drop (length (uses_of_form f)) copies) (All-tail HasFracs f fs fits)
      (form_counts f copies (fanned k (gated_uses (f ∷ fs))) (All-head HasFracs f fs fits) (fanned_counts P small k (gated_uses (f ∷ fs))))
