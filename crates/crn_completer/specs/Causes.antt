-- Why a completion is refused: the first number in it that does not fit.
use Rattle.std.specs.Prelude.{ℕ, ◌-◌, ◌<◌, List, length, ◌⊎◌}
use Rattle.crn_fraction.specs.Rational.{ℚ}
use Rattle.crn_net.specs.Causes.{IsFirst}
use Rattle.crn_net.specs.Network.{Network, amount, after_all, alone, completion_to, greatest_flux, taken}
use Rattle.crn_net.specs.Totals.{LacksReactant}
use Rattle.crn_segments.specs.Fits.{QuotientFits, QuotientsFit, SpeciesFits, TurnFits}
use Rattle.crn_completer.specs.declared.CompletionTooBig.{CompletionTooBig}

-- the state at which the turn of reaction r begins, in the completion from c
abbrev pub turn_state : Network → List ℚ → ℕ → List ℚ
turn_state net c r = after_all net c (completion_to net (r - 1) c)

-- the turn of reaction r in the completion from c fits
abbrev pub TurnGoes : Network → List ℚ → ℕ → Type 0
TurnGoes net c r = TurnFits net r (turn_state net c r)

-- s is the least reactant of reaction r whose quotient does not fit
pub record IsFirstQuotient (net : Network) (r : ℕ) (c : List ℚ) (s : ℕ) : Type 0 where
  pub reactant : 0 < taken net r s
  pub unfit : QuotientFits net r c s → ⊥
  pub earlier : (t : ℕ) → t < s → 0 < taken net r t → QuotientFits net r c t

-- the quotients fit, and in the step of the greatest flux alone s is the least species whose sum does not
pub record IsFirstSum (net : Network) (r : ℕ) (c : List ℚ) (s : ℕ) : Type 0 where
  pub quotients : QuotientsFit net r c
  pub sum : IsFirst (SpeciesFits net c (alone r (greatest_flux net r (amount c)))) net.species s

-- no reactant is absent at c, and the turn of reaction r stops at species s
pub record TurnStopsAt (net : Network) (r : ℕ) (c : List ℚ) (s : ℕ) : Type 0 where
  pub present : LacksReactant net r c → ⊥
  pub place : IsFirstQuotient net r c s ⊎ IsFirstSum net r c s

-- the completion from c is refused for this: the first reaction whose turn does not fit, and the species at which it stops
pub record IsCompletionCause (net : Network) (c : List ℚ) (e : CompletionTooBig) : Type 0 where
  pub first : IsFirst (TurnGoes net c) (length net.reactions) e.reaction
  pub stops : TurnStopsAt net e.reaction (turn_state net c e.reaction) e.species
