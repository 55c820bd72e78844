-- The direct layout of two forms, written out.
use Rattle.std.specs.Prelude.{pos, List, [], ◌∷◌, None}
use Rattle.crn_fraction.specs.Rational.{ℚ, whole}
use Rattle.crn_net.specs.Network.{Network}
use Rattle.crn_net.specs.declared.Rails.TheVariants.{Direct}
use Rattle.crn_net.specs.declared.Ends.TheVariants.{One}
use Rattle.crn_gates.specs.Gates.{part, one, reaction}

-- 2x1 + x2 and 3x2
abbrev pub two_forms : List (List ℚ)
two_forms = (whole (pos 2) ∷ whole (pos 1) ∷ []) ∷ (whole (pos 0) ∷ whole (pos 3) ∷ []) ∷ []

-- species 1 and 2 are the inputs, 3 to 5 their copies, 6 and 7 the forms, and 8 the minimum
abbrev pub two_forms_network : Network
two_forms_network = record {
  rails = Direct;
  species = 8;
  reactions =
      reaction (one 1 ∷ []) (one 3 ∷ [])
      ∷ reaction (one 2 ∷ []) (one 4 ∷ one 5 ∷ [])
      ∷ reaction (one 3 ∷ []) (part 2 6 ∷ [])
      ∷ reaction (one 4 ∷ []) (one 6 ∷ [])
      ∷ reaction (one 5 ∷ []) (part 3 7 ∷ [])
      ∷ reaction (one 6 ∷ one 7 ∷ []) (one 8 ∷ [])
      ∷ [];
  inputs = One 1 ∷ One 2 ∷ [];
  output = One 8;
  context = None;
}
