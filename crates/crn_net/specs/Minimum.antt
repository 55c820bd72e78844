-- The network of the minimum of two variables, written out.
use Rattle.std.specs.Prelude.{ℕ, List, [], ◌∷◌, None, pos}
use Rattle.crn_fraction.specs.Rational.{ℚ, 0ℚ, ratio, whole}
use Rattle.crn_net.specs.Network.{Network, Part, Reaction, Flow, Dual, Pair, alone}

-- 1 of a species
abbrev pub one : ℕ → Part
one s = record { species = s; count = 1 }

-- a reaction that takes 1 of a and gives 1 of b
abbrev pub into : ℕ → ℕ → Reaction
into a b = record { takes = one a ∷ []; gives = one b ∷ [] }

-- species 1 to 4 are the inputs, 5 to 8 their copies, 9 to 12 the two variables, and 15 and 16 the output.
-- 13 gets x1 plus with x2 minus, 14 gets x2 plus with x1 minus, and the last reaction takes the least of both
abbrev pub minimum : Network
minimum = record {
  rails = Dual;
  species = 16;
  reactions =
      into 1 5 ∷ into 2 6 ∷ into 3 7 ∷ into 4 8
      ∷ into 5 9 ∷ into 6 10 ∷ into 7 11 ∷ into 8 12
      ∷ into 9 13
      ∷ record { takes = one 12 ∷ []; gives = one 13 ∷ one 16 ∷ [] }
      ∷ into 11 14
      ∷ record { takes = one 10 ∷ []; gives = one 14 ∷ one 16 ∷ [] }
      ∷ record { takes = one 13 ∷ one 14 ∷ []; gives = one 15 ∷ [] }
      ∷ [];
  inputs = Pair 1 2 ∷ Pair 3 4 ∷ [];
  output = Pair 15 16;
  context = None;
}

-- ---- a case: 3/2 and 1/2 for the first variable, 2 and 0 for the second

abbrev pub amounts : List ℚ
amounts = ratio (pos 3) 2 ∷ ratio (pos 1) 2 ∷ whole (pos 2) ∷ 0ℚ ∷ []

-- the ten segments of its completion
abbrev pub segments : List (List Flow)
segments =
    alone 1 (ratio (pos 3) 2) ∷ alone 2 (ratio (pos 1) 2) ∷ alone 3 (whole (pos 2))
    ∷ alone 5 (ratio (pos 3) 2) ∷ alone 6 (ratio (pos 1) 2) ∷ alone 7 (whole (pos 2))
    ∷ alone 9 (ratio (pos 3) 2)
    ∷ alone 11 (whole (pos 2))
    ∷ alone 12 (ratio (pos 1) 2)
    ∷ alone 13 (ratio (pos 3) 2)
    ∷ []
