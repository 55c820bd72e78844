-- The completion of the minimum of two variables in the written case, turn by turn.
use Rattle.std.proofs.Common.{◌≡◌, List, [], ◌∷◌, refl, ◌∙◌, ap, subst, arith}
use Rattle.std.specs.Prelude.{pos}
use Rattle.std.proofs.lemmas.Int.{ints}
use Rattle.crn_fraction.proofs.Products.{nonneg_ratio, whole_nonneg}
use Rattle.crn_fraction.specs.Gcd.{gcd}
use Rattle.crn_fraction.specs.Rational.{ℚ, 0ℚ, ratio, whole, is_zero_ℚ, neg_ℚ, inverse_ℚ, min_ℚ, ◌+ℚ◌, ◌-ℚ◌, ◌*ℚ◌, ◌/ℚ◌}
use Rattle.crn_net.proofs.Completion.{completion_runs}
use Rattle.crn_net.proofs.FeedForward.{feed_forward, are_reactions}
use Rattle.crn_net.proofs.Settling.{computes}
use Rattle.crn_net.proofs.Start.{start_not_negative}
use Rattle.crn_net.proofs.Turns.{Reaches, begins, skips, happens, number_is}
use Rattle.crn_net.specs.Minimum.{minimum, amounts, segments}
use Rattle.crn_net.specs.Network.{Run, StablyComputes, IsNetwork, IsFeedForward, IsNotNegative, AreNotNegative, start, output, after, after_all, alone, taken, given, greatest_flux, completion_to, completion}
use Rattle.crn_net.specs.Reactions.{FeedsForward, EachReaction}

abbrev pub state_0 : List ℚ
state_0 = ratio (pos 3) 2 ∷ ratio (pos 1) 2 ∷ whole (pos 2) ∷ 0ℚ ∷ 0ℚ ∷ 0ℚ ∷ 0ℚ ∷ 0ℚ ∷ 0ℚ ∷ 0ℚ ∷ 0ℚ ∷ 0ℚ ∷ 0ℚ ∷ 0ℚ ∷ 0ℚ ∷ 0ℚ ∷ []

abbrev pub state_1 : List ℚ
state_1 = 0ℚ ∷ ratio (pos 1) 2 ∷ whole (pos 2) ∷ 0ℚ ∷ ratio (pos 3) 2 ∷ 0ℚ ∷ 0ℚ ∷ 0ℚ ∷ 0ℚ ∷ 0ℚ ∷ 0ℚ ∷ 0ℚ ∷ 0ℚ ∷ 0ℚ ∷ 0ℚ ∷ 0ℚ ∷ []

abbrev pub state_2 : List ℚ
state_2 = 0ℚ ∷ 0ℚ ∷ whole (pos 2) ∷ 0ℚ ∷ ratio (pos 3) 2 ∷ ratio (pos 1) 2 ∷ 0ℚ ∷ 0ℚ ∷ 0ℚ ∷ 0ℚ ∷ 0ℚ ∷ 0ℚ ∷ 0ℚ ∷ 0ℚ ∷ 0ℚ ∷ 0ℚ ∷ []

abbrev pub state_3 : List ℚ
state_3 = 0ℚ ∷ 0ℚ ∷ 0ℚ ∷ 0ℚ ∷ ratio (pos 3) 2 ∷ ratio (pos 1) 2 ∷ whole (pos 2) ∷ 0ℚ ∷ 0ℚ ∷ 0ℚ ∷ 0ℚ ∷ 0ℚ ∷ 0ℚ ∷ 0ℚ ∷ 0ℚ ∷ 0ℚ ∷ []

abbrev pub state_4 : List ℚ
state_4 = 0ℚ ∷ 0ℚ ∷ 0ℚ ∷ 0ℚ ∷ 0ℚ ∷ ratio (pos 1) 2 ∷ whole (pos 2) ∷ 0ℚ ∷ ratio (pos 3) 2 ∷ 0ℚ ∷ 0ℚ ∷ 0ℚ ∷ 0ℚ ∷ 0ℚ ∷ 0ℚ ∷ 0ℚ ∷ []

abbrev pub state_5 : List ℚ
state_5 = 0ℚ ∷ 0ℚ ∷ 0ℚ ∷ 0ℚ ∷ 0ℚ ∷ 0ℚ ∷ whole (pos 2) ∷ 0ℚ ∷ ratio (pos 3) 2 ∷ ratio (pos 1) 2 ∷ 0ℚ ∷ 0ℚ ∷ 0ℚ ∷ 0ℚ ∷ 0ℚ ∷ 0ℚ ∷ []

abbrev pub state_6 : List ℚ
state_6 = 0ℚ ∷ 0ℚ ∷ 0ℚ ∷ 0ℚ ∷ 0ℚ ∷ 0ℚ ∷ 0ℚ ∷ 0ℚ ∷ ratio (pos 3) 2 ∷ ratio (pos 1) 2 ∷ whole (pos 2) ∷ 0ℚ ∷ 0ℚ ∷ 0ℚ ∷ 0ℚ ∷ 0ℚ ∷ []

abbrev pub state_7 : List ℚ
state_7 = 0ℚ ∷ 0ℚ ∷ 0ℚ ∷ 0ℚ ∷ 0ℚ ∷ 0ℚ ∷ 0ℚ ∷ 0ℚ ∷ 0ℚ ∷ ratio (pos 1) 2 ∷ whole (pos 2) ∷ 0ℚ ∷ ratio (pos 3) 2 ∷ 0ℚ ∷ 0ℚ ∷ 0ℚ ∷ []

abbrev pub state_8 : List ℚ
state_8 = 0ℚ ∷ 0ℚ ∷ 0ℚ ∷ 0ℚ ∷ 0ℚ ∷ 0ℚ ∷ 0ℚ ∷ 0ℚ ∷ 0ℚ ∷ ratio (pos 1) 2 ∷ 0ℚ ∷ 0ℚ ∷ ratio (pos 3) 2 ∷ whole (pos 2) ∷ 0ℚ ∷ 0ℚ ∷ []

abbrev pub state_9 : List ℚ
state_9 = 0ℚ ∷ 0ℚ ∷ 0ℚ ∷ 0ℚ ∷ 0ℚ ∷ 0ℚ ∷ 0ℚ ∷ 0ℚ ∷ 0ℚ ∷ 0ℚ ∷ 0ℚ ∷ 0ℚ ∷ ratio (pos 3) 2 ∷ ratio (pos 5) 2 ∷ 0ℚ ∷ ratio (pos 1) 2 ∷ []

abbrev pub state_10 : List ℚ
state_10 = 0ℚ ∷ 0ℚ ∷ 0ℚ ∷ 0ℚ ∷ 0ℚ ∷ 0ℚ ∷ 0ℚ ∷ 0ℚ ∷ 0ℚ ∷ 0ℚ ∷ 0ℚ ∷ 0ℚ ∷ 0ℚ ∷ whole (pos 1) ∷ ratio (pos 3) 2 ∷ ratio (pos 1) 2 ∷ []

pub turn_0 : Reaches minimum state_0 0 [] state_0
turn_0 = begins minimum state_0

pub turn_1 : Reaches minimum state_0 1 (alone 1 (ratio (pos 3) 2) ∷ []) state_1
unfolding after completion_to greatest_flux ratio gcd is_zero_ℚ ◌+ℚ◌ ◌-ℚ◌ ◌*ℚ◌ ◌/ℚ◌ neg_ℚ inverse_ℚ min_ℚ taken given
turn_1 = happens minimum state_0 0 [] state_0 turn_0 (ratio (pos 3) 2) state_1 refl refl refl

pub turn_2 : Reaches minimum state_0 2 (alone 1 (ratio (pos 3) 2) ∷ alone 2 (ratio (pos 1) 2) ∷ []) state_2
unfolding after completion_to greatest_flux ratio gcd is_zero_ℚ ◌+ℚ◌ ◌-ℚ◌ ◌*ℚ◌ ◌/ℚ◌ neg_ℚ inverse_ℚ min_ℚ taken given
turn_2 = happens minimum state_0 1 (alone 1 (ratio (pos 3) 2) ∷ []) state_1 turn_1 (ratio (pos 1) 2) state_2 refl refl refl

pub turn_3 : Reaches minimum state_0 3 (alone 1 (ratio (pos 3) 2) ∷ alone 2 (ratio (pos 1) 2) ∷ alone 3 (whole (pos 2)) ∷ []) state_3
unfolding after completion_to greatest_flux ratio gcd is_zero_ℚ ◌+ℚ◌ ◌-ℚ◌ ◌*ℚ◌ ◌/ℚ◌ neg_ℚ inverse_ℚ min_ℚ taken given
turn_3 = happens minimum state_0 2 (alone 1 (ratio (pos 3) 2) ∷ alone 2 (ratio (pos 1) 2) ∷ []) state_2 turn_2 (whole (pos 2)) state_3 refl refl refl

pub turn_4 : Reaches minimum state_0 4 (alone 1 (ratio (pos 3) 2) ∷ alone 2 (ratio (pos 1) 2) ∷ alone 3 (whole (pos 2)) ∷ []) state_3
unfolding after completion_to greatest_flux ratio gcd is_zero_ℚ ◌+ℚ◌ ◌-ℚ◌ ◌*ℚ◌ ◌/ℚ◌ neg_ℚ inverse_ℚ min_ℚ taken given
turn_4 = skips minimum state_0 3 (alone 1 (ratio (pos 3) 2) ∷ alone 2 (ratio (pos 1) 2) ∷ alone 3 (whole (pos 2)) ∷ []) state_3 turn_3 refl

pub turn_5 : Reaches minimum state_0 5 (alone 1 (ratio (pos 3) 2) ∷ alone 2 (ratio (pos 1) 2) ∷ alone 3 (whole (pos 2)) ∷ alone 5 (ratio (pos 3) 2) ∷ []) state_4
unfolding after completion_to greatest_flux ratio gcd is_zero_ℚ ◌+ℚ◌ ◌-ℚ◌ ◌*ℚ◌ ◌/ℚ◌ neg_ℚ inverse_ℚ min_ℚ taken given
turn_5 = happens minimum state_0 4 (alone 1 (ratio (pos 3) 2) ∷ alone 2 (ratio (pos 1) 2) ∷ alone 3 (whole (pos 2)) ∷ []) state_3 turn_4 (ratio (pos 3) 2) state_4 refl refl refl

pub turn_6 : Reaches minimum state_0 6 (alone 1 (ratio (pos 3) 2) ∷ alone 2 (ratio (pos 1) 2) ∷ alone 3 (whole (pos 2)) ∷ alone 5 (ratio (pos 3) 2) ∷ alone 6 (ratio (pos 1) 2) ∷ []) state_5
unfolding after completion_to greatest_flux ratio gcd is_zero_ℚ ◌+ℚ◌ ◌-ℚ◌ ◌*ℚ◌ ◌/ℚ◌ neg_ℚ inverse_ℚ min_ℚ taken given
turn_6 = happens minimum state_0 5 (alone 1 (ratio (pos 3) 2) ∷ alone 2 (ratio (pos 1) 2) ∷ alone 3 (whole (pos 2)) ∷ alone 5 (ratio (pos 3) 2) ∷ []) state_4 turn_5 (ratio (pos 1) 2) state_5 refl refl refl

pub turn_7 : Reaches minimum state_0 7 (alone 1 (ratio (pos 3) 2) ∷ alone 2 (ratio (pos 1) 2) ∷ alone 3 (whole (pos 2)) ∷ alone 5 (ratio (pos 3) 2) ∷ alone 6 (ratio (pos 1) 2) ∷ alone 7 (whole (pos 2)) ∷ []) state_6
unfolding after completion_to greatest_flux ratio gcd is_zero_ℚ ◌+ℚ◌ ◌-ℚ◌ ◌*ℚ◌ ◌/ℚ◌ neg_ℚ inverse_ℚ min_ℚ taken given
turn_7 = happens minimum state_0 6 (alone 1 (ratio (pos 3) 2) ∷ alone 2 (ratio (pos 1) 2) ∷ alone 3 (whole (pos 2)) ∷ alone 5 (ratio (pos 3) 2) ∷ alone 6 (ratio (pos 1) 2) ∷ []) state_5 turn_6 (whole (pos 2)) state_6 refl refl refl

pub turn_8 : Reaches minimum state_0 8 (alone 1 (ratio (pos 3) 2) ∷ alone 2 (ratio (pos 1) 2) ∷ alone 3 (whole (pos 2)) ∷ alone 5 (ratio (pos 3) 2) ∷ alone 6 (ratio (pos 1) 2) ∷ alone 7 (whole (pos 2)) ∷ []) state_6
unfolding after completion_to greatest_flux ratio gcd is_zero_ℚ ◌+ℚ◌ ◌-ℚ◌ ◌*ℚ◌ ◌/ℚ◌ neg_ℚ inverse_ℚ min_ℚ taken given
turn_8 = skips minimum state_0 7 (alone 1 (ratio (pos 3) 2) ∷ alone 2 (ratio (pos 1) 2) ∷ alone 3 (whole (pos 2)) ∷ alone 5 (ratio (pos 3) 2) ∷ alone 6 (ratio (pos 1) 2) ∷ alone 7 (whole (pos 2)) ∷ []) state_6 turn_7 refl

pub turn_9 : Reaches minimum state_0 9 (alone 1 (ratio (pos 3) 2) ∷ alone 2 (ratio (pos 1) 2) ∷ alone 3 (whole (pos 2)) ∷ alone 5 (ratio (pos 3) 2) ∷ alone 6 (ratio (pos 1) 2) ∷ alone 7 (whole (pos 2)) ∷ alone 9 (ratio (pos 3) 2) ∷ []) state_7
unfolding after completion_to greatest_flux ratio gcd is_zero_ℚ ◌+ℚ◌ ◌-ℚ◌ ◌*ℚ◌ ◌/ℚ◌ neg_ℚ inverse_ℚ min_ℚ taken given
turn_9 = happens minimum state_0 8 (alone 1 (ratio (pos 3) 2) ∷ alone 2 (ratio (pos 1) 2) ∷ alone 3 (whole (pos 2)) ∷ alone 5 (ratio (pos 3) 2) ∷ alone 6 (ratio (pos 1) 2) ∷ alone 7 (whole (pos 2)) ∷ []) state_6 turn_8 (ratio (pos 3) 2) state_7 refl refl refl

pub turn_10 : Reaches minimum state_0 10 (alone 1 (ratio (pos 3) 2) ∷ alone 2 (ratio (pos 1) 2) ∷ alone 3 (whole (pos 2)) ∷ alone 5 (ratio (pos 3) 2) ∷ alone 6 (ratio (pos 1) 2) ∷ alone 7 (whole (pos 2)) ∷ alone 9 (ratio (pos 3) 2) ∷ []) state_7
unfolding after completion_to greatest_flux ratio gcd is_zero_ℚ ◌+ℚ◌ ◌-ℚ◌ ◌*ℚ◌ ◌/ℚ◌ neg_ℚ inverse_ℚ min_ℚ taken given
turn_10 = skips minimum state_0 9 (alone 1 (ratio (pos 3) 2) ∷ alone 2 (ratio (pos 1) 2) ∷ alone 3 (whole (pos 2)) ∷ alone 5 (ratio (pos 3) 2) ∷ alone 6 (ratio (pos 1) 2) ∷ alone 7 (whole (pos 2)) ∷ alone 9 (ratio (pos 3) 2) ∷ []) state_7 turn_9 refl

pub turn_11 : Reaches minimum state_0 11 (alone 1 (ratio (pos 3) 2) ∷ alone 2 (ratio (pos 1) 2) ∷ alone 3 (whole (pos 2)) ∷ alone 5 (ratio (pos 3) 2) ∷ alone 6 (ratio (pos 1) 2) ∷ alone 7 (whole (pos 2)) ∷ alone 9 (ratio (pos 3) 2) ∷ alone 11 (whole (pos 2)) ∷ []) state_8
unfolding after completion_to greatest_flux ratio gcd is_zero_ℚ ◌+ℚ◌ ◌-ℚ◌ ◌*ℚ◌ ◌/ℚ◌ neg_ℚ inverse_ℚ min_ℚ taken given
turn_11 = happens minimum state_0 10 (alone 1 (ratio (pos 3) 2) ∷ alone 2 (ratio (pos 1) 2) ∷ alone 3 (whole (pos 2)) ∷ alone 5 (ratio (pos 3) 2) ∷ alone 6 (ratio (pos 1) 2) ∷ alone 7 (whole (pos 2)) ∷ alone 9 (ratio (pos 3) 2) ∷ []) state_7 turn_10 (whole (pos 2)) state_8 refl refl refl

pub turn_12 : Reaches minimum state_0 12 (alone 1 (ratio (pos 3) 2) ∷ alone 2 (ratio (pos 1) 2) ∷ alone 3 (whole (pos 2)) ∷ alone 5 (ratio (pos 3) 2) ∷ alone 6 (ratio (pos 1) 2) ∷ alone 7 (whole (pos 2)) ∷ alone 9 (ratio (pos 3) 2) ∷ alone 11 (whole (pos 2)) ∷ alone 12 (ratio (pos 1) 2) ∷ []) state_9
unfolding after completion_to greatest_flux ratio gcd is_zero_ℚ ◌+ℚ◌ ◌-ℚ◌ ◌*ℚ◌ ◌/ℚ◌ neg_ℚ inverse_ℚ min_ℚ taken given
turn_12 = happens minimum state_0 11 (alone 1 (ratio (pos 3) 2) ∷ alone 2 (ratio (pos 1) 2) ∷ alone 3 (whole (pos 2)) ∷ alone 5 (ratio (pos 3) 2) ∷ alone 6 (ratio (pos 1) 2) ∷ alone 7 (whole (pos 2)) ∷ alone 9 (ratio (pos 3) 2) ∷ alone 11 (whole (pos 2)) ∷ []) state_8 turn_11 (ratio (pos 1) 2) state_9 refl refl refl

pub turn_13 : Reaches minimum state_0 13 (alone 1 (ratio (pos 3) 2) ∷ alone 2 (ratio (pos 1) 2) ∷ alone 3 (whole (pos 2)) ∷ alone 5 (ratio (pos 3) 2) ∷ alone 6 (ratio (pos 1) 2) ∷ alone 7 (whole (pos 2)) ∷ alone 9 (ratio (pos 3) 2) ∷ alone 11 (whole (pos 2)) ∷ alone 12 (ratio (pos 1) 2) ∷ alone 13 (ratio (pos 3) 2) ∷ []) state_10
unfolding after completion_to greatest_flux ratio gcd is_zero_ℚ ◌+ℚ◌ ◌-ℚ◌ ◌*ℚ◌ ◌/ℚ◌ neg_ℚ inverse_ℚ min_ℚ taken given
turn_13 = happens minimum state_0 12 (alone 1 (ratio (pos 3) 2) ∷ alone 2 (ratio (pos 1) 2) ∷ alone 3 (whole (pos 2)) ∷ alone 5 (ratio (pos 3) 2) ∷ alone 6 (ratio (pos 1) 2) ∷ alone 7 (whole (pos 2)) ∷ alone 9 (ratio (pos 3) 2) ∷ alone 11 (whole (pos 2)) ∷ alone 12 (ratio (pos 1) 2) ∷ []) state_9 turn_12 (ratio (pos 3) 2) state_10 refl refl refl

-- ---- the network

each_reaction : EachReaction 16 minimum.reactions
each_reaction = (
  record { some_reactant = omega arith; takes = (omega arith, omega arith, omega arith, tt); gives = (omega arith, omega arith, omega arith, tt) },
  (
    record { some_reactant = omega arith; takes = (omega arith, omega arith, omega arith, tt); gives = (omega arith, omega arith, omega arith, tt) },
    (
      record { some_reactant = omega arith; takes = (omega arith, omega arith, omega arith, tt); gives = (omega arith, omega arith, omega arith, tt) },
      (
        record { some_reactant = omega arith; takes = (omega arith, omega arith, omega arith, tt); gives = (omega arith, omega arith, omega arith, tt) },
        (
          record { some_reactant = omega arith; takes = (omega arith, omega arith, omega arith, tt); gives = (omega arith, omega arith, omega arith, tt) },
          (
            record { some_reactant = omega arith; takes = (omega arith, omega arith, omega arith, tt); gives = (omega arith, omega arith, omega arith, tt) },
            (
              record { some_reactant = omega arith; takes = (omega arith, omega arith, omega arith, tt); gives = (omega arith, omega arith, omega arith, tt) },
              (
                record { some_reactant = omega arith; takes = (omega arith, omega arith, omega arith, tt); gives = (omega arith, omega arith, omega arith, tt) },
                (
                  record { some_reactant = omega arith; takes = (omega arith, omega arith, omega arith, tt); gives = (omega arith, omega arith, omega arith, tt) },
                  (
                    record { some_reactant = omega arith; takes = (omega arith, omega arith, omega arith, tt); gives = (omega arith, omega arith, omega arith, (omega arith, omega arith, omega arith, tt)) },
                    (
                      record { some_reactant = omega arith; takes = (omega arith, omega arith, omega arith, tt); gives = (omega arith, omega arith, omega arith, tt) },
                      (
                        record { some_reactant = omega arith; takes = (omega arith, omega arith, omega arith, tt); gives = (omega arith, omega arith, omega arith, (omega arith, omega arith, omega arith, tt)) },
                        (
                          record { some_reactant = omega arith; takes = (omega arith, omega arith, omega arith, (omega arith, omega arith, omega arith, tt)); gives = (omega arith, omega arith, omega arith, tt) },
                          tt,
                        ),
                      ),
                    ),
                  ),
                ),
              ),
            ),
          ),
        ),
      ),
    ),
  ),
)

pub minimum_is_network : IsNetwork minimum
minimum_is_network = record {
  reactions = are_reactions minimum each_reaction;
  inputs = ((omega arith, omega arith, omega arith, omega arith, omega arith), ((omega arith, omega arith, omega arith, omega arith, omega arith), tt));
  different = ((omega arith, (omega arith, (omega arith, tt))), ((omega arith, (omega arith, tt)), ((omega arith, tt), (tt, tt))));
  output = (omega arith, omega arith, omega arith, omega arith, omega arith);
  context = tt;
}

pub minimum_feeds_forward : IsFeedForward minimum
minimum_feeds_forward = feed_forward minimum along
  where
    along : FeedsForward minimum.reactions
    along = ((refl, tt), ((refl, refl), tt), ((refl, tt), ((refl, refl), tt), ((refl, tt), ((refl, refl), tt), ((refl, tt), ((refl, refl), tt), ((refl, tt), ((refl, refl), tt), ((refl, tt), ((refl, refl), tt), ((refl, tt), ((refl, refl), tt), ((refl, tt), ((refl, refl), tt), ((refl, tt), ((refl, refl), tt), ((refl, tt), ((refl, refl), tt), ((refl, tt), ((refl, refl), tt), ((refl, tt), ((refl, refl), tt), ((refl, (refl, tt)), ((refl, refl), ((refl, refl), tt)), tt)))))))))))))

pub starts : start minimum amounts ≡ state_0
unfolding start
starts = refl

pub completion_is : completion minimum (start minimum amounts) ≡ segments
completion_is = ap (λ c. completion minimum c) starts ∙ turn_13.segments

amounts_not_negative : AreNotNegative amounts
amounts_not_negative =
    ((nonneg_ratio (pos 3) 2 (omega arith)).1 (omega (arith, ints)), ((nonneg_ratio (pos 1) 2 (omega arith)).1 (omega (arith, ints)), (whole_nonneg 2, (whole_nonneg 0, tt))))

start_is_not_negative : IsNotNegative (start minimum amounts)
start_is_not_negative = start_not_negative minimum amounts amounts_not_negative

pub segments_run : Run minimum (start minimum amounts) segments (after_all minimum (start minimum amounts) segments)
segments_run =
    subst (λ us. Run minimum (start minimum amounts) us (after_all minimum (start minimum amounts) us)) completion_is
    (completion_runs minimum minimum_is_network.reactions minimum_feeds_forward (start minimum amounts) start_is_not_negative)

end_output : output minimum state_10 ≡ whole (pos 1)
unfolding ratio gcd ◌+ℚ◌ ◌-ℚ◌ neg_ℚ
end_output = number_is (output minimum state_10) (whole (pos 1)) refl

pub output_is : output minimum (after_all minimum (start minimum amounts) segments) ≡ whole (pos 1)
output_is = ap (output minimum) (ap (λ c. after_all minimum c segments) starts ∙ ends) ∙ end_output
  where
    ends : after_all minimum state_0 segments ≡ state_10
    ends = turn_13.state

pub minimum_computes : StablyComputes minimum amounts (whole (pos 1))
minimum_computes =
    computes minimum minimum_is_network minimum_feeds_forward amounts (whole (pos 1)) start_is_not_negative
    (ap (λ us. output minimum (after_all minimum (start minimum amounts) us)) completion_is ∙ output_is)
