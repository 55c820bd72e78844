-- A feed-forward network stably computes what its reactions make, one after another, of the start.
use Rattle.std.proofs.Common.{◌≡◌, ℕ, ◌≤◌, List, length, sym, ◌∙◌, ap, ap₂, le_refl, take_all}
use Rattle.std.specs.Prelude.{pos}
use Rattle.crn_fraction.proofs.Ring.{+ℚ-zero}
use Rattle.crn_fraction.specs.Rational.{ℚ, ◌+ℚ◌, ◌-ℚ◌, ◌*ℚ◌, whole}
use Rattle.crn_net.proofs.Balance.{all_lead}
use Rattle.crn_net.proofs.Completion.{run_not_negative, completion_runs, completion_exhausts}
use Rattle.crn_net.proofs.Made.{made_is}
use Rattle.crn_net.proofs.Settling.{computes}
use Rattle.crn_net.proofs.Sums.{sum_none}
use Rattle.crn_net.proofs.Taken.{giver_exists}
use Rattle.crn_net.proofs.Unique.{none_of}
use Rattle.crn_net.specs.Network.{Network, Ends, Pair, One, amount, taken, completion, completed, start, value_at, IsNetwork, IsFeedForward, IsNotNegative, StablyComputes, IsEnds, Rails, Dual, Direct}
use Rattle.crn_net.specs.Totals.{total, made_by, IsUntaken, AreUntaken}

-- at the end of the completion there is of a species that is not taken what the reactions make of it
pub completed_amount : (net : Network) → IsNetwork net → IsFeedForward net → (a : List ℚ) → IsNotNegative a → (s : ℕ) → 1 ≤ s → s ≤ net.species → IsUntaken net s →
    amount (completed net a) s ≡ made_by net.reactions (amount a) s
completed_amount net ok ff a nn s low high untaken =
    let m : ℕ = length net.reactions in
    let w : ℕ → ℚ = total (completion net a) in
    sym (+ℚ-zero _) ∙ ap (λ x. amount (completed net a) s +ℚ x) (sym (sum_none m (λ r. whole (pos (taken net r s)) *ℚ w r) (λ r _ _. none_of _ (w r) (untaken r))))
    ∙ made_is net ok.reactions ff a (completed net a) w (all_lead net (completion net a) a)
    (run_not_negative net (completion net a) a (completed net a) nn (completion_runs net ok.reactions ff a nn))
    m (le_refl m) (completion_exhausts net ok.reactions ff a nn) s low high (λ q g. (giver_exists net q s g).1)
    ∙ ap (λ rs. made_by rs (amount a) s) (take_all m net.reactions (le_refl m))

-- so the output settles to what the reactions make of the start
pub computes_made : (net : Network) → IsNetwork net → IsFeedForward net → AreUntaken net net.output → (xs : List ℚ) → IsNotNegative (start net xs) →
    StablyComputes net xs (value_at net.output (made_by net.reactions (amount (start net xs))))
computes_made net ok ff free xs nn = computes net ok ff xs _ nn (go net.rails net.output ok.output free)
  where
    at : (s : ℕ) → 1 ≤ s → s ≤ net.species → IsUntaken net s → amount (completed net (start net xs)) s ≡ made_by net.reactions (amount (start net xs)) s
    at s low high u = completed_amount net ok ff (start net xs) nn s low high u

    go : (r : Rails) (e : Ends) → IsEnds r net.species e → AreUntaken net e → value_at e (amount (completed net (start net xs))) ≡ value_at e (made_by net.reactions (amount (start net xs)))
    go Dual (Pair a b) k u = ap₂ (λ x y. x -ℚ y) (at a k.0 k.1 u.0) (at b k.2 k.3 u.1)
    go Dual (One a) k u = absurd k
    go Direct (Pair a b) k u = absurd k
    go Direct (One a) k u = at a k.0 k.1 u
