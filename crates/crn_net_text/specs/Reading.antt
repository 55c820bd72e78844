-- What the reader's places show, and what holds at them.
use Rattle.std.specs.Prelude.{ℕ, ◌+◌, ◌≡◌, ◌≤◌, ◌<◌, Bool, true, IsTrue, List, [], length, Some}
use Rattle.crn_net.specs.Network.{Network, IsNetwork, AreEnds, AreDifferent, IsContext, input_species}
use Rattle.crn_net.specs.declared.Rails.{Rails}
use Rattle.crn_net.specs.declared.Ends.{Ends}
use Rattle.crn_net.specs.Views.{network_of}
use Rattle.crn_net_text.specs.declared.place.Place.{Place}
use Rattle.crn_net_text.specs.declared.place.Place.TheVariants as place
use Rattle.crn_net_text.specs.Grammar as grammar

-- a place with what was read
abbrev pub place_of : Place → grammar.Place
place_of place.Start = grammar.Start
place_of (place.Titled rails two) = grammar.Titled rails two
place_of (place.Naming rails two n inputs) = grammar.Naming rails two n inputs.items
place_of (place.Placed rails n inputs k) = grammar.Placed rails n inputs.items k
place_of (place.Closed parts) = grammar.Closed (network_of parts)
place_of (place.Listing m parts) = grammar.Listing m (network_of parts)

-- inputs of species that exist and differ, with one left for a context that is to come
pub record AreNamed (rails : Rails) (two : Bool) (n : ℕ) (inputs : List Ends) : Type 0 where
  pub enough : grammar.least rails two ≤ n
  pub ends : AreEnds rails n inputs
  pub different : AreDifferent (input_species inputs)
  pub leaves : IsTrue (grammar.leaves_one two n inputs)

-- a network with an input
pub record IsFramed (net : Network) : Type 0 where
  pub network : IsNetwork net
  pub some_input : 0 < length net.inputs

-- what holds at each place to which lines lead
abbrev pub IsFine : grammar.Place → Type 0
IsFine grammar.Start = Unit {0}
IsFine (grammar.Titled rails two) = Unit {0}
IsFine (grammar.Naming rails two n inputs) = AreNamed rails two n inputs
IsFine (grammar.Placed rails n inputs k) = AreNamed rails true n inputs × (0 < length inputs) × IsContext n inputs (Some k)
IsFine (grammar.Closed net) = IsFramed net × (net.reactions ≡ [])
IsFine (grammar.Listing m net) = IsFramed net

-- the sizes that the lines so far give
abbrev pub AreFew : ℕ → List Ends → Type 0
AreFew n inputs = (1 ≤ n) × (n ≤ grammar.most_species) × (length inputs ≤ grammar.most_inputs)

abbrev pub IsLow : grammar.Place → Type 0
IsLow grammar.Start = Unit {0}
IsLow (grammar.Titled rails two) = Unit {0}
IsLow (grammar.Naming rails two n inputs) = AreFew n inputs
IsLow (grammar.Placed rails n inputs k) = AreFew n inputs
IsLow (grammar.Closed net) = AreFew net.species net.inputs
IsLow (grammar.Listing m net) = AreFew net.species net.inputs × (length net.reactions + m ≤ grammar.most_reactions)

-- what holds at each place to which lines lead of which none passed a limit
abbrev pub IsKept : grammar.Place → Type 0
IsKept place = IsFine place × IsLow place
