-- Made amounts of inputs, copies and outputs, and what a network settles to by them.
use Rattle.std.proofs.Common.{◌≡◌, ℕ, suc, ◌+◌, ◌<◌, ◌≤◌, List, length, get_or, sym, ◌∙◌, ap, ap₂, ⊎_elim, arith}
use Rattle.crn_fraction.proofs.Ring.{+ℚ-zero, zero-+ℚ}
use Rattle.crn_fraction.specs.Rational.{ℚ, 0ℚ, ◌+ℚ◌, ◌-ℚ◌}
use Rattle.crn_gates.proofs.FanLaws.{fans_low, fans_make}
use Rattle.crn_gates.specs.Building.{IsFanned}
use Rattle.crn_gates.specs.FanOut.{fanned}
use Rattle.crn_net.proofs.InRun.{made_in_run}
use Rattle.crn_net.proofs.Settling.{computes}
use Rattle.crn_net.proofs.Start.{amount-start, amount-start-past, start_not_negative}
use Rattle.crn_net.proofs.StartLists.{given_nothing}
use Rattle.crn_net.proofs.Sums.{sum_none}
use Rattle.crn_net.proofs.Unique.{none_of}
use Rattle.crn_net.specs.Network.{Network, Reaction, amount, input_species, or_context, start, completion, completed, value_at, IsApart, IsNetwork, IsFeedForward, AreNotNegative, StablyComputes}
use Rattle.crn_net.specs.declared.Flow.{Flow}
use Rattle.crn_net.specs.declared.Ends.{Ends}
use Rattle.crn_net.specs.declared.Ends.TheVariants.{Pair, One}
use Rattle.crn_net.specs.Totals.{made_in, total, IsUntaken, AreUntaken}

-- ---- a start

-- a start has nothing of a species that is neither an input's nor the context
pub start_empty : (net : Network) (xs : List ℚ) (s : ℕ) → IsApart s (input_species net.inputs) → or_context net.context s 0ℚ ≡ 0ℚ → 1 ≤ s → amount (start net xs) s ≡ 0ℚ
start_empty net xs s apart other low =
    ⊎_elim (λ (l : s ≤ net.species). amount-start net xs s low l ∙ ap (or_context net.context s) (given_nothing (input_species net.inputs) xs s apart) ∙ other)
    (λ (l : net.species < s). amount-start-past net xs s l)
    (grind arith)

-- ---- fan-out in a run

module _ (net : Network) (n : ℕ) (rs : List ℕ) (later : List Reaction) (a : List ℚ) (us : List (List Flow)) (c : List ℚ) (done : IsFanned net n rs later a us c) where
  -- what was made of a rail is what was there of it
  pub rail_in_run : (s : ℕ) → 1 ≤ s → s ≤ n → made_in net us c s ≡ amount a s
  rail_in_run s low high =
      made_in_run net done.goes_on.network done.goes_on.feed_forward (fanned n rs).reactions later done.goes_on.reactions a done.goes_on.not_negative us c done.goes_on.run done.goes_on.lack s low (omega (arith, done.goes_on.species)) (done.goes_on.later_gives s (omega arith))
      ∙ fans_low rs n 1 n (amount a) s high

  -- and of a copy as much as of its rail
  pub copy_in_run : (i : ℕ) → i < length rs → 1 ≤ get_or rs i 0 → get_or rs i 0 ≤ n → made_in net us c (suc (n + i)) ≡ made_in net us c (get_or rs i 0)
  copy_in_run i l low high =
      made_in_run net done.goes_on.network done.goes_on.feed_forward (fanned n rs).reactions later done.goes_on.reactions a done.goes_on.not_negative us c done.goes_on.run done.goes_on.lack (suc (n + i)) (omega arith) (omega (arith, done.goes_on.species)) (done.goes_on.later_gives (suc (n + i)) (omega arith))
      ∙ fans_make rs n 1 n (amount a) i l low (omega arith) high
      ∙ ap (λ x. x +ℚ amount a (get_or rs i 0)) (done.empty (suc (n + i)) (omega arith)) ∙ zero-+ℚ _
      ∙ sym (rail_in_run (get_or rs i 0) low high)

-- ---- the output

-- of a species that is not taken, what was made is there
pub made_untaken : (net : Network) (us : List (List Flow)) (c : List ℚ) (s : ℕ) → IsUntaken net s → made_in net us c s ≡ amount c s
made_untaken net us c s free = ap (λ x. amount c s +ℚ x) (sum_none _ _ (λ r _ _. none_of _ (total us r) (free r))) ∙ +ℚ-zero _

-- a feed-forward network stably computes what its completion has made of the output, if no reaction takes that
pub computes_made_value : (net : Network) → IsNetwork net → IsFeedForward net → AreUntaken net net.output → (xs : List ℚ) → AreNotNegative xs →
    (v : ℚ) → value_at net.output (made_in net (completion net (start net xs)) (completed net (start net xs))) ≡ v → StablyComputes net xs v
computes_made_value net ok ff free xs nn v is = computes net ok ff xs v (start_not_negative net xs nn) (there net.output free ∙ is)
  where
    there : (e : Ends) → AreUntaken net e → value_at e (amount (completed net (start net xs))) ≡ value_at e (made_in net (completion net (start net xs)) (completed net (start net xs)))
    there (Pair p q) h = ap₂ (λ x y. x -ℚ y) (sym (made_untaken net (completion net (start net xs)) (completed net (start net xs)) p h.0)) (sym (made_untaken net (completion net (start net xs)) (completed net (start net xs)) q h.1))
    there (One p) h = sym (made_untaken net (completion net (start net xs)) (completed net (start net xs)) p h)
