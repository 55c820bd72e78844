-- The completion of the minimum of two variables fits in the written case.
use Rattle.std.proofs.Common.{◌≡◌, ℕ, suc, ◌<◌, List, refl, sym, ◌∙◌, ap, subst, true, arith, below_more}
use Rattle.crn_fraction.specs.Gcd.{gcd}
use Rattle.crn_fraction.specs.Rational.{ℚ, ratio, neg_ℚ, inverse_ℚ, min_ℚ, ◌+ℚ◌, ◌-ℚ◌, ◌*ℚ◌, ◌/ℚ◌}
use Rattle.crn_net.proofs.MinimumRun.{starts, minimum_is_network, state_0, state_1, state_2, state_3, state_4, state_5, state_6, state_7, state_8, state_9, turn_0, turn_1, turn_2, turn_3, turn_4, turn_5, turn_6, turn_7, turn_8, turn_9, turn_10, turn_11, turn_12}
use Rattle.crn_net.proofs.Turns.{Reaches}
use Rattle.crn_net.specs.Minimum.{minimum, amounts}
use Rattle.crn_net.specs.Network.{after_all, completion_to, start, taken, given, greatest_flux}
use Rattle.crn_net.specs.declared.Flow.{Flow}
use Rattle.crn_segments.proofs.FitTests.{turn_fits, turn_is}
use Rattle.crn_segments.specs.Fits.{TurnFits, CompletionFits, is_on_side}
use Rattle.crn_segments.specs.Signs.{is_frac}

-- the turn of reaction r + 1
abbrev TurnAfter : ℕ → Type 0
TurnAfter r = TurnFits minimum (suc r) (after_all minimum state_0 (completion_to minimum r state_0))

at : (r : ℕ) (us : List (List Flow)) (d : List ℚ) → Reaches minimum state_0 r us d → turn_fits minimum (suc r) d ≡ true → TurnAfter r
at r us d h t =
    subst (λ c. TurnFits minimum (suc r) c) (sym (ap (λ xs. after_all minimum state_0 xs) h.segments ∙ h.state))
    (turn_is minimum minimum_is_network.reactions (suc r) d t)

abbrev AllBelow : ℕ → Type 0
AllBelow n = (r : ℕ) → r < n → TurnAfter r

below_0 : AllBelow 0
below_0 r h = absurd (omega arith)

below_1 : AllBelow 1
unfolding greatest_flux ratio gcd ◌+ℚ◌ ◌-ℚ◌ ◌*ℚ◌ ◌/ℚ◌ neg_ℚ inverse_ℚ min_ℚ taken given is_on_side is_frac
below_1 = below_more TurnAfter 0 below_0 (at 0 _ state_0 turn_0 refl)

below_2 : AllBelow 2
unfolding greatest_flux ratio gcd ◌+ℚ◌ ◌-ℚ◌ ◌*ℚ◌ ◌/ℚ◌ neg_ℚ inverse_ℚ min_ℚ taken given is_on_side is_frac
below_2 = below_more TurnAfter 1 below_1 (at 1 _ state_1 turn_1 refl)

below_3 : AllBelow 3
unfolding greatest_flux ratio gcd ◌+ℚ◌ ◌-ℚ◌ ◌*ℚ◌ ◌/ℚ◌ neg_ℚ inverse_ℚ min_ℚ taken given is_on_side is_frac
below_3 = below_more TurnAfter 2 below_2 (at 2 _ state_2 turn_2 refl)

below_4 : AllBelow 4
unfolding greatest_flux ratio gcd ◌+ℚ◌ ◌-ℚ◌ ◌*ℚ◌ ◌/ℚ◌ neg_ℚ inverse_ℚ min_ℚ taken given is_on_side is_frac
below_4 = below_more TurnAfter 3 below_3 (at 3 _ state_3 turn_3 refl)

below_5 : AllBelow 5
unfolding greatest_flux ratio gcd ◌+ℚ◌ ◌-ℚ◌ ◌*ℚ◌ ◌/ℚ◌ neg_ℚ inverse_ℚ min_ℚ taken given is_on_side is_frac
below_5 = below_more TurnAfter 4 below_4 (at 4 _ state_3 turn_4 refl)

below_6 : AllBelow 6
unfolding greatest_flux ratio gcd ◌+ℚ◌ ◌-ℚ◌ ◌*ℚ◌ ◌/ℚ◌ neg_ℚ inverse_ℚ min_ℚ taken given is_on_side is_frac
below_6 = below_more TurnAfter 5 below_5 (at 5 _ state_4 turn_5 refl)

below_7 : AllBelow 7
unfolding greatest_flux ratio gcd ◌+ℚ◌ ◌-ℚ◌ ◌*ℚ◌ ◌/ℚ◌ neg_ℚ inverse_ℚ min_ℚ taken given is_on_side is_frac
below_7 = below_more TurnAfter 6 below_6 (at 6 _ state_5 turn_6 refl)

below_8 : AllBelow 8
unfolding greatest_flux ratio gcd ◌+ℚ◌ ◌-ℚ◌ ◌*ℚ◌ ◌/ℚ◌ neg_ℚ inverse_ℚ min_ℚ taken given is_on_side is_frac
below_8 = below_more TurnAfter 7 below_7 (at 7 _ state_6 turn_7 refl)

below_9 : AllBelow 9
unfolding greatest_flux ratio gcd ◌+ℚ◌ ◌-ℚ◌ ◌*ℚ◌ ◌/ℚ◌ neg_ℚ inverse_ℚ min_ℚ taken given is_on_side is_frac
below_9 = below_more TurnAfter 8 below_8 (at 8 _ state_6 turn_8 refl)

below_10 : AllBelow 10
unfolding greatest_flux ratio gcd ◌+ℚ◌ ◌-ℚ◌ ◌*ℚ◌ ◌/ℚ◌ neg_ℚ inverse_ℚ min_ℚ taken given is_on_side is_frac
below_10 = below_more TurnAfter 9 below_9 (at 9 _ state_7 turn_9 refl)

below_11 : AllBelow 11
unfolding greatest_flux ratio gcd ◌+ℚ◌ ◌-ℚ◌ ◌*ℚ◌ ◌/ℚ◌ neg_ℚ inverse_ℚ min_ℚ taken given is_on_side is_frac
below_11 = below_more TurnAfter 10 below_10 (at 10 _ state_7 turn_10 refl)

below_12 : AllBelow 12
unfolding greatest_flux ratio gcd ◌+ℚ◌ ◌-ℚ◌ ◌*ℚ◌ ◌/ℚ◌ neg_ℚ inverse_ℚ min_ℚ taken given is_on_side is_frac
below_12 = below_more TurnAfter 11 below_11 (at 11 _ state_8 turn_11 refl)

below_13 : AllBelow 13
unfolding greatest_flux ratio gcd ◌+ℚ◌ ◌-ℚ◌ ◌*ℚ◌ ◌/ℚ◌ neg_ℚ inverse_ℚ min_ℚ taken given is_on_side is_frac
below_13 = below_more TurnAfter 12 below_12 (at 12 _ state_9 turn_12 refl)

pub completion_fits : CompletionFits minimum (start minimum amounts)
completion_fits = subst (CompletionFits minimum) (sym starts) below_13
