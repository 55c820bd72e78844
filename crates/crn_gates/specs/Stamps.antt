-- The tables of the code as plain tables, over the species of their slots.
use Rattle.std.specs.Prelude.{ℕ, ◌==◌, ◌&&◌, not, if◌then◌else◌, Bool, true, List, [], ◌∷◌, map}
use Rattle.crn_net.specs.Network as Plain
use Rattle.crn_gates.specs.declared.stamp.Slot.{Slot}
use Rattle.crn_gates.specs.declared.stamp.Slot.TheVariants.{APlus, AMinus, BPlus, BMinus, P, Q, YPlus, YMinus}
use Rattle.crn_gates.specs.declared.stamp.Count.{Count}
use Rattle.crn_gates.specs.declared.stamp.Count.TheVariants.{One, Numerator, Denominator}
use Rattle.crn_gates.specs.declared.stamp.Entry.{Entry}
use Rattle.crn_gates.specs.declared.stamp.Side.{Side}
use Rattle.crn_gates.specs.declared.stamp.Side.TheVariants as side
use Rattle.crn_gates.specs.declared.stamp.Row.{Row}
use Rattle.crn_gates.specs.declared.stamp.Slots.{Slots}

-- ---- stamping

-- the species that a slot stands for
abbrev pub species_at : Slots → Slot → ℕ
species_at s APlus = s.a.0
species_at s AMinus = s.a.1
species_at s BPlus = s.b.0
species_at s BMinus = s.b.1
species_at s P = s.inner.0
species_at s Q = s.inner.1
species_at s YPlus = s.made.0
species_at s YMinus = s.made.1

-- the number that a count stands for, at the factor p/q
abbrev pub count_at : ℕ → ℕ → Count → ℕ
count_at p q One = 1
count_at p q Numerator = p
count_at p q Denominator = q

abbrev pub part_at : ℕ → ℕ → Slots → Entry → Plain.Part
part_at p q s e = record { species = species_at s e.slot; count = count_at p q e.count }

abbrev pub side_at : ℕ → ℕ → Slots → Side → List Plain.Part
side_at p q s (side.One e) = part_at p q s e ∷ []
side_at p q s (side.Two e f) = part_at p q s e ∷ part_at p q s f ∷ []

abbrev pub reaction_at : ℕ → ℕ → Slots → Row → Plain.Reaction
reaction_at p q s r = record { takes = side_at p q s r.takes; gives = side_at p q s r.gives }

-- the reactions of a table, at the factor p/q and the species of the slots
abbrev pub reactions_at : ℕ → ℕ → Slots → List Row → List Plain.Reaction
reactions_at p q s rows = map (reaction_at p q s) rows

-- ---- what a table keeps

abbrev pub number : Slot → ℕ
number APlus = 0
number AMinus = 1
number BPlus = 2
number BMinus = 3
number P = 4
number Q = 5
number YPlus = 6
number YMinus = 7

abbrev pub is_on : Slot → Side → Bool
is_on s (side.One e) = number s == number e.slot
is_on s (side.Two e f) = if number s == number e.slot then true else number s == number f.slot

-- the slot is on no side of the rows
abbrev pub is_left_alone : Slot → List Row → Bool
is_left_alone s [] = true
is_left_alone s (r ∷ rs) = not (is_on s r.takes) && not (is_on s r.gives) && is_left_alone s rs

-- a slot that a row takes is neither given by it, nor on a side of a later row
abbrev pub is_kept : Slot → Row → List Row → Bool
is_kept s r rs = not (is_on s r.gives) && is_left_alone s rs

abbrev pub keeps_slots : Side → Row → List Row → Bool
keeps_slots (side.One e) r rs = is_kept e.slot r rs
keeps_slots (side.Two e f) r rs = not (number e.slot == number f.slot) && is_kept e.slot r rs && is_kept f.slot r rs

-- each slot is taken at most once, and what gives it stands before what takes it
abbrev pub is_in_order : List Row → Bool
is_in_order [] = true
is_in_order (r ∷ rs) = keeps_slots r.takes r rs && is_in_order rs
