-- Networks of formulas, written out: of the maximum of a variable and 3, and of one that has a node of each kind that the minimum and the maximum lack.
use Rattle.std.specs.Prelude.{ℕ, pos, negsuc, [], ◌∷◌, Some}
use Rattle.crn_fraction.specs.Rational.{ratio, whole}
use Rattle.crn_net.specs.Network.{Network, Part}
use Rattle.crn_net.specs.declared.Rails.TheVariants.{Dual}
use Rattle.crn_net.specs.declared.Ends.TheVariants.{Pair}
use Rattle.crn_net.specs.Minimum.{one, into}
use Rattle.crn_formula.specs.Formulas.{Formula, Lin, Add, Sub, Scale, Min, Max}

-- min(x1, x2)
abbrev pub lesser_of_two : Formula
lesser_of_two = Min (Lin (whole (pos 1) ∷ whole (pos 0) ∷ [])) (Lin (whole (pos 0) ∷ whole (pos 1) ∷ []))

-- max(x1, 3)
abbrev pub at_least_three : Formula
at_least_three = Max (Lin (whole (pos 1) ∷ whole (pos 0) ∷ [])) (Lin (whole (pos 0) ∷ whole (pos 3) ∷ []))

-- species 1 and 2 are the input, 3 is the context, 4 to 6 are copies, 7 and 8 the variable, 9 and 10 the constant, and 13 and 14 the output.
-- 11 gets x1 minus with 3 plus, 12 gets 3 minus with x1 plus, and the last reaction takes the least of both
abbrev pub at_least_three_network : Network
at_least_three_network = record {
  rails = Dual;
  species = 14;
  reactions =
      into 1 4 ∷ into 2 5 ∷ into 3 6
      ∷ into 4 7 ∷ into 5 8
      ∷ record { takes = one 6 ∷ []; gives = record { species = 9; count = 3 } ∷ [] }
      ∷ into 8 11
      ∷ record { takes = one 9 ∷ []; gives = one 11 ∷ one 13 ∷ [] }
      ∷ into 10 12
      ∷ record { takes = one 7 ∷ []; gives = one 12 ∷ one 13 ∷ [] }
      ∷ record { takes = one 11 ∷ one 12 ∷ []; gives = one 14 ∷ [] }
      ∷ [];
  inputs = Pair 1 2 ∷ [];
  output = Pair 13 14;
  context = Some 3;
}

-- sub(scale(-2/3, x1 - 1/2x2 + 3), add(x2, x1))
abbrev pub scaled_less_sum : Formula
scaled_less_sum =
    Sub (Scale (ratio (negsuc 1) 3) (Lin (whole (pos 1) ∷ ratio (negsuc 0) 2 ∷ whole (pos 3) ∷ [])))
    (Add (Lin (whole (pos 0) ∷ whole (pos 1) ∷ whole (pos 0) ∷ [])) (Lin (whole (pos 1) ∷ whole (pos 0) ∷ whole (pos 0) ∷ [])))

-- so many of a species
abbrev pub several : ℕ → ℕ → Part
several k s = record { species = s; count = k }

-- species 1 to 4 are the inputs and 5 the context, 6 to 14 are copies for the three leaves, 15 and 16 the first leaf, 17 and 18 its multiple,
-- 19 to 22 the other leaves, 23 and 24 their sum, and 25 and 26 the output
abbrev pub scaled_less_sum_network : Network
scaled_less_sum_network = record {
  rails = Dual;
  species = 26;
  reactions =
      record { takes = one 1 ∷ []; gives = one 6 ∷ one 13 ∷ [] }
      ∷ record { takes = one 2 ∷ []; gives = one 7 ∷ one 14 ∷ [] }
      ∷ record { takes = one 3 ∷ []; gives = one 8 ∷ one 11 ∷ [] }
      ∷ record { takes = one 4 ∷ []; gives = one 9 ∷ one 12 ∷ [] }
      ∷ into 5 10
      ∷ into 6 15 ∷ into 7 16
      ∷ record { takes = several 2 8 ∷ []; gives = one 16 ∷ [] }
      ∷ record { takes = several 2 9 ∷ []; gives = one 15 ∷ [] }
      ∷ record { takes = one 10 ∷ []; gives = several 3 15 ∷ [] }
      ∷ record { takes = several 3 15 ∷ []; gives = several 2 18 ∷ [] }
      ∷ record { takes = several 3 16 ∷ []; gives = several 2 17 ∷ [] }
      ∷ into 11 19 ∷ into 12 20
      ∷ into 13 21 ∷ into 14 22
      ∷ into 19 23 ∷ into 20 24 ∷ into 21 23 ∷ into 22 24
      ∷ into 17 25 ∷ into 18 26 ∷ into 23 26 ∷ into 24 25
      ∷ [];
  inputs = Pair 1 2 ∷ Pair 3 4 ∷ [];
  output = Pair 25 26;
  context = Some 5;
}
