-- What refuses a step, flow by flow and species by species.
use Rattle.std.proofs.Common.{◌≡◌, ℕ, zero, suc, ◌+◌, ◌<◌, ◌≤◌, if◌then◌else◌, false, List, [], ◌∷◌, length, get_or, drop, Some, None, sym, ◌∙◌, ap, subst, arith}
use Rattle.std.proofs.lemmas.List.{drop_more, drop_all}
use Rattle.std.specs.Option.{option_or, option_map}
use Rattle.std.proofs.lemmas.Bool.{le-ltb, lt-ltb}
use Rattle.crn_fraction.specs.Rational.{ℚ}
use Rattle.crn_net.specs.Network as Plain
use Rattle.crn_net.specs.Network.{Network, amount}
use Rattle.crn_net.specs.declared.Flow.{Flow}
use Rattle.crn_net.specs.Views.{parts_of}
use Rattle.crn_net.specs.declared.Part.{Part}
use Rattle.crn_segments.proofs.Products.{dropped}
use Rattle.crn_segments.specs.Flows.{AreAscending}
use Rattle.crn_segments.specs.Signs.{is_positive_ℚ}
use Rattle.crn_segments.specs.Step.{first_absent, flow_refusal, flows_refusal}
use Rattle.crn_segments.specs.declared.StepError.TheVariants.{NoReaction, NotPresent}

-- ---- parts

pub parts_dropped : (ps : List Part) (i : ℕ) (p : Part) → i < length ps → p ≡ get_or ps i p → drop i ps ≡ p ∷ drop (i + 1) ps
parts_dropped ps i p l h = drop_more ps i p l ∙ ap (λ x. x ∷ drop (i + 1) ps) (sym h)

pub part_in_range : (low n : ℕ) (ps : List Part) (i : ℕ) (p : Part) → Plain.AreParts low n (parts_of ps) → i < length ps → p ≡ get_or ps i p → (low < p.species) × (p.species ≤ n)
part_in_range low n [] i p h l e = absurd (omega arith)
part_in_range low n (q ∷ ps) zero p h l e = (subst (λ x. low < x.species) (sym e) h.0, subst (λ x. x.species ≤ n) (sym e) h.1)
part_in_range low n (q ∷ ps) (suc i) p h l e =
    let rest : (q.species < p.species) × (p.species ≤ n) = part_in_range q.species n ps i p h.3 (omega arith) e in
    let first : low < q.species = h.0 in
    (omega arith, rest.1)

pub absent_here : (m : ℕ → ℚ) (ps : List Part) (i : ℕ) (p : Part) → i < length ps → p ≡ get_or ps i p → is_positive_ℚ (m p.species) ≡ false →
    first_absent m (parts_of ps) ≡ first_absent m (parts_of (drop i ps)) → first_absent m (parts_of ps) ≡ Some p.species
absent_here m ps i p l h t e =
    e ∙ ap (λ x. first_absent m (parts_of x)) (parts_dropped ps i p l h) ∙ ap (λ b. if b then first_absent m (parts_of (drop (i + 1) ps)) else Some p.species) t

pub none_absent : (m : ℕ → ℚ) (ps : List Part) (i : ℕ) → length ps ≤ i →
    first_absent m (parts_of ps) ≡ first_absent m (parts_of (drop i ps)) → first_absent m (parts_of ps) ≡ None
none_absent m ps i l e = e ∙ ap (λ x. first_absent m (parts_of x)) (drop_all i ps l)

-- ---- one flow

pub flow_without_reaction : (net : Network) (c : List ℚ) (f : Flow) → length net.reactions < f.reaction → flow_refusal net c f ≡ Some (NoReaction f.reaction)
flow_without_reaction net c f h =
    ap (λ b. if b then Some (NoReaction f.reaction) else option_map (λ s. NotPresent f.reaction s) (first_absent (amount c) (Plain.numbered net.reactions f.reaction).takes)) (lt-ltb _ _ h)

pub flow_with_reaction : (net : Network) (c : List ℚ) (f : Flow) → f.reaction ≤ length net.reactions →
    flow_refusal net c f ≡ option_map (λ s. NotPresent f.reaction s) (first_absent (amount c) (Plain.numbered net.reactions f.reaction).takes)
flow_with_reaction net c f h =
    ap (λ b. if b then Some (NoReaction f.reaction) else option_map (λ s. NotPresent f.reaction s) (first_absent (amount c) (Plain.numbered net.reactions f.reaction).takes)) (le-ltb _ _ h)

-- ---- flows

pub flows_more : (net : Network) (c : List ℚ) (u : List Flow) (i : ℕ) (f : Flow) → i < length u → f ≡ get_or u i f → flow_refusal net c f ≡ None →
    flows_refusal net c u ≡ flows_refusal net c (drop i u) → flows_refusal net c u ≡ flows_refusal net c (drop (i + 1) u)
flows_more net c u i f l h none e =
    e ∙ ap (flows_refusal net c) (dropped u i f l h) ∙ ap (λ o. option_or o (flows_refusal net c (drop (i + 1) u))) none

pub number_above : (low : ℕ) (u : List Flow) (i : ℕ) (f : Flow) → AreAscending low u → i < length u → f ≡ get_or u i f → low < f.reaction
number_above low [] i f h l e = absurd (omega arith)
number_above low (g ∷ u) zero f h l e = subst (λ x. low < x.reaction) (sym e) h.0
number_above low (g ∷ u) (suc i) f h l e =
    let above : g.reaction < f.reaction = number_above g.reaction u i f h.2 (omega arith) e in
    let first : low < g.reaction = h.0 in
    omega arith
