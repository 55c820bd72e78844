-- How the parts of a network are seen: as a network whose numbers may be of any size.
use Rattle.std.specs.Prelude.{ℕ, ℤ, pos, negsuc, List, map}
use Rattle.crn_net.specs.Network as Plain
use Rattle.crn_net.specs.declared.Part.{Part}
use Rattle.crn_net.specs.declared.Reaction.{Reaction}
use Rattle.crn_net.specs.declared.Parts.{Parts}

-- a whole number that is not negative; a negative one counts as 0
abbrev pub natural : ℤ → ℕ
natural (pos n) = n
natural (negsuc n) = 0

abbrev pub part_of : Part → Plain.Part
part_of p = record { species = p.species; count = natural p.count }

abbrev pub parts_of : List Part → List Plain.Part
parts_of ps = map part_of ps

abbrev pub reaction_of : Reaction → Plain.Reaction
reaction_of r = record { takes = parts_of r.takes.items; gives = parts_of r.gives.items }

abbrev pub reactions_of : List Reaction → List Plain.Reaction
reactions_of rs = map reaction_of rs

abbrev pub network_of : Parts → Plain.Network
network_of p = record {
  rails = p.rails;
  species = p.species;
  reactions = reactions_of p.reactions.items;
  inputs = p.inputs.items;
  output = p.output;
  context = p.context;
}
