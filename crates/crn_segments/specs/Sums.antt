-- The sums of a step, as they are kept: of the species that are marked, and of every other its amount.
use Rattle.std.specs.Prelude.{◌≡◌, ◌≢◌, ◌<◌, ℕ, zero, suc, ◌+◌, ◌≤◌, ◌&&◌, Bool, not, nat_lt, if◌then◌else◌, List, [], ◌∷◌, ◌⊎◌, length, get_or, Option, Some, None, pos, ◌-ℤ◌}
use Rattle.std.specs.List.{Contains}
use Rattle.std.specs.Vec.{vec_capacity}
use Rattle.crn_fraction.specs.Rational.{ℚ, ◌+ℚ◌, ◌*ℚ◌, whole}
use Rattle.crn_net.specs.Network.{Part, Reaction, amount, count_of}
use Rattle.crn_net.specs.declared.Flow.{Flow}
use Rattle.crn_segments.specs.Signs.{is_frac}
use Rattle.crn_segments.specs.Step.{fitting_sum, sum_refusal}
use Rattle.crn_segments.specs.declared.StepError.{StepError}
use Rattle.crn_segments.specs.declared.work.Mark.{Mark}
use Rattle.crn_segments.specs.declared.work.Mark.TheVariants.{Untouched, Fits, TooBig}
use Rattle.crn_segments.specs.declared.work.Sums.{Sums}

-- the mark of species s
abbrev pub mark_of : List Mark → ℕ → Mark
mark_of ms zero = Untouched
mark_of ms (suc i) = get_or ms i Untouched

-- of a species with this mark, the sum x or the amount a
abbrev pub by_mark : Mark → ℚ → ℚ → Option ℚ
by_mark Untouched x a = Some a
by_mark Fits x a = Some x
by_mark TooBig x a = None

-- the sum of species s, by its mark and what is kept for it
abbrev pub sum_at : List Mark → List ℚ → List ℚ → ℕ → Option ℚ
sum_at ms xs c s = by_mark (mark_of ms s) (amount xs s) (amount c s)

-- the sum of species s so far
abbrev pub sum_in : Sums → List ℚ → ℕ → Option ℚ
sum_in k c s = sum_at k.marks.items k.next.items c s

-- what refuses the sum x of a species with this mark
abbrev pub mark_refusal : ℕ → Mark → ℚ → Option StepError
mark_refusal s Untouched x = None
mark_refusal s Fits x = sum_refusal s (Some x)
mark_refusal s TooBig x = sum_refusal s None

abbrev pub refusal_in : Sums → ℕ → Option StepError
refusal_in k s = mark_refusal s (mark_of k.marks.items s) (amount k.next.items s)

-- of n species none below t is refused, and t is, or comes after all
pub record IsLeastRefused (n : ℕ) (k : Sums) (t : ℕ) : Type 0 where
  pub low : 1 ≤ t
  pub high : t ≤ n + 1
  pub below : (s : ℕ) → 1 ≤ s → s < t → refusal_in k s ≡ None
  pub here : t ≤ n → refusal_in k t ≢ None

abbrev pub is_free : Mark → ℕ
is_free Untouched = 1
is_free Fits = 0
is_free TooBig = 0

-- how many species have no mark
abbrev pub free : List Mark → ℕ
free [] = 0
free (m ∷ ms) = is_free m + free ms

-- room for n species: the marked ones are listed, and the list has room for those without a mark
pub record RoomOf (n room : ℕ) (ms : List Mark) (xs : List ℚ) (touched : List ℕ) : Type 0 where
  pub marks : length ms ≡ n
  pub sums : length xs ≡ n
  pub in_range : (s : ℕ) → Contains touched s → (1 ≤ s) × (s ≤ n)
  pub listed : (s : ℕ) → (mark_of ms s ≡ Untouched) ⊎ Contains touched s
  pub count : length touched + free ms ≡ n
  pub enough : n ≤ room

abbrev pub IsRoom : ℕ → Sums → Type 0
IsRoom n k = RoomOf n (vec_capacity k.touched) k.marks.items k.next.items k.touched.items

-- room for a step, in which no species is marked yet
abbrev pub IsReady : ℕ → Sums → Type 0
IsReady n k = IsRoom n k × (k.touched.items ≡ [])

-- a sum with a product added, where both fit
abbrev pub sum_with : ℚ → Option ℚ → Option ℚ
sum_with p None = None
sum_with p (Some a) = if is_frac p && is_frac (a +ℚ p) then Some (a +ℚ p) else None

-- the same where the test holds, and the sum as it was where it does not
abbrev pub sum_where : Bool → ℚ → Option ℚ → Option ℚ
sum_where b p o = if b then sum_with p o else o

-- a sum so far, and the product of each flow in turn
abbrev pub sum_from : (ℕ → ℚ) → Option ℚ → List Flow → Option ℚ
sum_from k None u = None
sum_from k (Some a) u = fitting_sum k a u

-- what a reaction changes of species s by the flux u
abbrev pub gained : Reaction → ℚ → ℕ → ℚ
gained r u s = u *ℚ whole (pos (count_of r.gives s) -ℤ pos (count_of r.takes s))

-- whether species s is among the parts, and not among those seen
abbrev pub is_new : List Part → List Part → ℕ → Bool
is_new ps seen s = nat_lt 0 (count_of ps s) && not (nat_lt 0 (count_of seen s))
