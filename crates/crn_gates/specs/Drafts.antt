-- What a builder holds: a network in the making.
use Rattle.std.specs.Prelude.{ℕ, zero, suc, ◌+◌, ◌≤◌, Bool, true, false, Option, Some, None, List, [], ◌∷◌}
use Rattle.crn_net.specs.Network.{Network}
use Rattle.crn_net.specs.declared.Rails.{Rails}
use Rattle.crn_net.specs.declared.Rails.TheVariants.{Dual, Direct}
use Rattle.crn_net.specs.declared.Ends.{Ends}
use Rattle.crn_net.specs.declared.Ends.TheVariants.{Pair, One}
use Rattle.crn_gates.specs.Gates.{Built}
use Rattle.crn_gates.specs.Building.{IsSound}

-- the kind of the network, how many variables it has, whether it has a context, and its species and reactions so far
pub record Draft : Type 0 where
  pub rails : Rails
  pub variables : ℕ
  pub context : Bool
  pub built : Built

-- how many species the inputs of k variables have
abbrev pub input_width : Rails → ℕ → ℕ
input_width Dual k = k + k
input_width Direct k = k

-- the inputs and the context, before any copy
abbrev pub width_before : Rails → ℕ → Bool → ℕ
width_before rails k true = suc (input_width rails k)
width_before rails k false = input_width rails k

-- no reaction yet
abbrev pub begun : Rails → ℕ → Bool → Draft
begun rails k context = record { rails = rails; variables = k; context = context; built = record { species = width_before rails k context; reactions = [] } }

-- the input of a variable, numbered from 0
abbrev pub input_of : Rails → ℕ → Ends
input_of Dual v = Pair (suc (v + v)) (suc (suc (v + v)))
input_of Direct v = One (suc v)

-- the inputs of k variables from v on
abbrev pub inputs_after : Rails → ℕ → ℕ → List Ends
inputs_after rails v zero = []
inputs_after rails v (suc k) = input_of rails v ∷ inputs_after rails (suc v) k

abbrev pub inputs_of : Rails → ℕ → List Ends
inputs_of rails k = inputs_after rails 0 k

-- the context is the species after those of the inputs
abbrev pub context_of : Rails → ℕ → Bool → Option ℕ
context_of rails k true = Some (suc (input_width rails k))
context_of rails k false = None

-- the draft as a network with this output
abbrev pub network_of_draft : Draft → Ends → Network
network_of_draft d output = record {
  rails = d.rails;
  species = d.built.species;
  reactions = d.built.reactions;
  inputs = inputs_of d.rails d.variables;
  output = output;
  context = context_of d.rails d.variables d.context;
}

-- what a builder keeps: each species is taken by at most one reaction, each reaction that gives a species stands before the one that takes it, and the sizes
-- are those of a network
pub record IsDraft (d : Draft) : Type 0 where
  pub sound : IsSound d.built
  pub few_species : d.built.species ≤ 65536
  pub begins : width_before d.rails d.variables d.context ≤ d.built.species
  pub some_variable : 1 ≤ d.variables
  pub few_variables : d.variables ≤ 8
