-- What a builder begins with, and the network that it closes.
use Rattle.std.proofs.Common.{◌≡◌, ℕ, zero, suc, ◌+◌, ◌<◌, ◌≤◌, Bool, true, false, List, [], ◌∷◌, length, refl, sym, ◌∙◌, ap, subst, arith}
use Rattle.crn_net.proofs.FeedForward.{feed_forward, are_reactions}
use Rattle.crn_net.proofs.FewReactions.{few_reactions}
use Rattle.crn_net.specs.Limits.{IsValid}
use Rattle.crn_net.specs.Network.{Reaction, IsApart, AreDifferent, IsEnds, AreEnds, IsContext, IsNetwork, IsFeedForward, input_species}
use Rattle.crn_net.specs.declared.Rails.{Rails}
use Rattle.crn_net.specs.declared.Rails.TheVariants.{Dual, Direct}
use Rattle.crn_net.specs.declared.Ends.{Ends}
use Rattle.crn_net.specs.declared.Ends.TheVariants.{Pair, One}
use Rattle.crn_gates.specs.Building.{IsSound, IsFree, AllFree}
use Rattle.crn_gates.specs.Gates.{Built}
use Rattle.crn_gates.specs.Drafts.{Draft, IsDraft, begun, width_before, inputs_after, inputs_of, context_of, network_of_draft}

-- ---- the beginning

pub length-inputs_after : (rails : Rails) (v k : ℕ) → length (inputs_after rails v k) ≡ k
length-inputs_after rails v zero = refl
length-inputs_after rails v (suc k) = ap suc (length-inputs_after rails (suc v) k)

-- inputs and a context are few
width_few : (rails : Rails) (k : ℕ) (context : Bool) → k ≤ 8 → width_before rails k context ≤ 65536
width_few Dual k true h = omega arith
width_few Dual k false h = omega arith
width_few Direct k true h = omega arith
width_few Direct k false h = omega arith

pub begun_is : (rails : Rails) (k : ℕ) (context : Bool) → 1 ≤ k → k ≤ 8 → IsDraft (begun rails k context)
begun_is rails k context low high = record {
  sound = record { feeds = tt; takes = tt; gives = tt; each = tt };
  few_species = width_few rails k context high;
  begins = omega arith;
  some_variable = low;
  few_variables = high;
}

-- a draft of these parts has begun
pub draft_of : (rails : Rails) (k n : ℕ) (context : Bool) (s : ℕ) (rs : List Reaction) → n ≡ k → s ≡ width_before rails k context → rs ≡ [] →
    record (begun rails k context) { variables = n; built = record { species = s; reactions = rs } } ≡ begun rails k context
draft_of rails k n context s rs e f g =
    let with_parts : ℕ → ℕ → List Reaction → Draft = λ u v w. record (begun rails k context) { variables = u; built = record { species = v; reactions = w } } in
    ap (λ u. with_parts u s rs) e ∙ ap (λ v. with_parts k v rs) f ∙ ap (λ w. with_parts k (width_before rails k context) w) g

-- so it is kept
pub draft_kept : (rails : Rails) (k n : ℕ) (context : Bool) (s : ℕ) (rs : List Reaction) → 1 ≤ k → k ≤ 8 → n ≡ k → s ≡ width_before rails k context → rs ≡ [] →
    IsDraft (record (begun rails k context) { variables = n; built = record { species = s; reactions = rs } })
draft_kept rails k n context s rs low high e f g = subst IsDraft (sym (draft_of rails k n context s rs e f g)) (begun_is rails k context low high)

-- its inputs are as many as it has
pub inputs_seen : (rails : Rails) (k : ℕ) (items : List Ends) → items ≡ inputs_of rails k → items ≡ inputs_of rails (length items)
inputs_seen rails k items e = e ∙ ap (inputs_of rails) (sym (ap length e ∙ length-inputs_after rails 0 k))

-- ---- the inputs

-- those of a dual network are in range
dual_ends : (top v k : ℕ) → v + v + (k + k) ≤ top → AreEnds Dual top (inputs_after Dual v k)
dual_ends top v zero l = tt
dual_ends top v (suc k) l = ((omega arith, omega arith, omega arith, omega arith, omega arith), dual_ends top (suc v) k (omega arith))

-- and after the species before them
dual_apart : (v k x : ℕ) → x ≤ v + v → IsApart x (input_species (inputs_after Dual v k))
dual_apart v zero x l = tt
dual_apart v (suc k) x l = (omega arith, (omega arith, dual_apart (suc v) k x (omega arith)))

-- and different
dual_different : (v k : ℕ) → AreDifferent (input_species (inputs_after Dual v k))
dual_different v zero = tt
dual_different v (suc k) =
    ((omega arith, dual_apart (suc v) k (suc (v + v)) (omega arith)), (dual_apart (suc v) k (suc (suc (v + v))) (omega arith), dual_different (suc v) k))

-- a species after them is none of them
dual_past : (v k x : ℕ) → v + v + (k + k) < x → IsApart x (input_species (inputs_after Dual v k))
dual_past v zero x l = tt
dual_past v (suc k) x l = (omega arith, (omega arith, dual_past (suc v) k x (omega arith)))

-- those of a direct network
direct_ends : (top v k : ℕ) → v + k ≤ top → AreEnds Direct top (inputs_after Direct v k)
direct_ends top v zero l = tt
direct_ends top v (suc k) l = ((omega arith, omega arith), direct_ends top (suc v) k (omega arith))

direct_apart : (v k x : ℕ) → x ≤ v → IsApart x (input_species (inputs_after Direct v k))
direct_apart v zero x l = tt
direct_apart v (suc k) x l = (omega arith, direct_apart (suc v) k x (omega arith))

direct_different : (v k : ℕ) → AreDifferent (input_species (inputs_after Direct v k))
direct_different v zero = tt
direct_different v (suc k) = (direct_apart (suc v) k (suc v) (omega arith), direct_different (suc v) k)

pub direct_past : (v k x : ℕ) → v + k < x → IsApart x (input_species (inputs_after Direct v k))
direct_past v zero x l = tt
direct_past v (suc k) x l = (omega arith, direct_past (suc v) k x (omega arith))

-- the inputs and the context of a network with so many species
pub record AreInputs (rails : Rails) (k n : ℕ) (has_context : Bool) : Type 0 where
  pub ends : AreEnds rails n (inputs_of rails k)
  pub different : AreDifferent (input_species (inputs_of rails k))
  pub context : IsContext n (inputs_of rails k) (context_of rails k has_context)

pub are_inputs : (rails : Rails) (k n : ℕ) (context : Bool) → width_before rails k context ≤ n → AreInputs rails k n context
are_inputs Dual k n true l = record { ends = dual_ends n 0 k (omega arith); different = dual_different 0 k; context = (omega arith, l, dual_past 0 k (suc (k + k)) (omega arith)) }
are_inputs Dual k n false l = record { ends = dual_ends n 0 k (omega arith); different = dual_different 0 k; context = tt }
are_inputs Direct k n true l = record { ends = direct_ends n 0 k (omega arith); different = direct_different 0 k; context = (omega arith, l, direct_past 0 k (suc k) (omega arith)) }
are_inputs Direct k n false l = record { ends = direct_ends n 0 k (omega arith); different = direct_different 0 k; context = tt }

pub some_before : (rails : Rails) (k : ℕ) (context : Bool) → 1 ≤ k → 1 ≤ width_before rails k context
some_before Dual k true l = omega arith
some_before Dual k false l = omega arith
some_before Direct k true l = omega arith
some_before Direct k false l = omega arith

-- ---- the network

-- a sound draft with an output is a network
pub draft_is_network : (d : Draft) (e : Ends) → IsSound d.built → width_before d.rails d.variables d.context ≤ d.built.species → IsEnds d.rails d.built.species e → IsNetwork (network_of_draft d e)
draft_is_network d e sound begins output =
    let inputs : AreInputs d.rails d.variables d.built.species d.context = are_inputs d.rails d.variables d.built.species d.context begins in
    record {
      reactions = are_reactions (network_of_draft d e) sound.each;
      inputs = inputs.ends;
      different = inputs.different;
      output = output;
      context = inputs.context;
    }

module _ (d : Draft) (e : Ends) (it : IsDraft d) where
  -- and within the limits
  pub draft_valid : IsEnds d.rails d.built.species e → IsValid (network_of_draft d e)
  draft_valid output =
      record {
        network = draft_is_network d e it.sound it.begins output;
        limits = record {
          some_species = omega (arith, it.begins, some_before d.rails d.variables d.context it.some_variable);
          few_species = it.few_species;
          few_reactions = omega (arith, few_reactions d.built.species d.built.reactions it.sound.feeds it.sound.each, it.few_species);
          some_input = omega (arith, it.some_variable, length-inputs_after d.rails 0 d.variables);
          few_inputs = omega (arith, it.few_variables, length-inputs_after d.rails 0 d.variables);
        };
      }

  -- that feeds forward
  pub closes_forward : IsFeedForward (network_of_draft d e)
  closes_forward = feed_forward (network_of_draft d e) it.sound.feeds

-- a free pair can be the output of a dual network
pub pair_ends : (rails : Rails) (b : Built) (x y : ℕ) → rails ≡ Dual → AllFree b (x ∷ y ∷ []) → IsEnds rails b.species (Pair x y)
pair_ends rails b x y dual free = subst (λ r. IsEnds r b.species (Pair x y)) (sym dual) (free.0.low, free.0.high, free.2.0.low, free.2.0.high, free.1.0)

-- and a free rail that of a direct one
pub rail_ends : (rails : Rails) (b : Built) (x : ℕ) → rails ≡ Direct → IsFree b x → IsEnds rails b.species (One x)
rail_ends rails b x direct free = subst (λ r. IsEnds r b.species (One x)) (sym direct) (free.low, free.high)
