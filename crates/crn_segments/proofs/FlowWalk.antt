-- What flows change, one after another.
use Rattle.std.proofs.Common.{◌≡◌, ℕ, ◌+◌, ◌<◌, ◌≤◌, ◌&&◌, cond, if◌then◌else◌, Bool, true, false, List, [], ◌∷◌, length, get_or, drop, Option, Some, None, refl, sym, ◌∙◌, ap}
use Rattle.std.proofs.lemmas.List.{drop_all}
use Rattle.crn_fraction.specs.Rational.{ℚ, ◌+ℚ◌, ◌*ℚ◌}
use Rattle.crn_net.specs.Network.{Network}
use Rattle.crn_net.specs.Totals.{change}
use Rattle.crn_net.specs.declared.Flow.{Flow}
use Rattle.crn_segments.proofs.Products.{dropped}
use Rattle.crn_segments.specs.Fits.{flows_with, is_on_side}
use Rattle.crn_segments.specs.Signs.{is_frac}
use Rattle.crn_segments.specs.Step.{fitting_sum}
use Rattle.crn_segments.specs.Sums.{IsRoom, sum_in, sum_with, sum_where, sum_from}
use Rattle.crn_segments.specs.declared.work.Sums.{Sums}

pub record FlowWalk (net : Network) (c : List ℚ) (u : List Flow) (old now : Sums) (i : ℕ) : Type 0 where
  pub room : IsRoom (length c) now
  pub same : (s : ℕ) → sum_from (change net s) (sum_in old c s) (flows_with net s u) ≡ sum_from (change net s) (sum_in now c s) (flows_with net s (drop i u))

from_if : (k : ℕ → ℚ) (b : ℚ) (t : Bool) (u : List Flow) → (if t then fitting_sum k b u else None) ≡ sum_from k (if t then Some b else None) u
from_if k b true u = refl
from_if k b false u = refl

from_flow : (k : ℕ → ℚ) (o : Option ℚ) (f : Flow) (u : List Flow) → sum_from k o (f ∷ u) ≡ sum_from k (sum_with (k f.reaction *ℚ f.flux) o) u
from_flow k None f u = refl
from_flow k (Some a) f u = from_if k (a +ℚ k f.reaction *ℚ f.flux) (is_frac (k f.reaction *ℚ f.flux) && is_frac (a +ℚ k f.reaction *ℚ f.flux)) u

from_where : (k : ℕ → ℚ) (o : Option ℚ) (t : Bool) (f : Flow) (u : List Flow) → sum_from k o (cond t (f ∷ u) u) ≡ sum_from k (sum_where t (k f.reaction *ℚ f.flux) o) u
from_where k o true f u = from_flow k o f u
from_where k o false f u = refl

pub flow_walks : (net : Network) (c : List ℚ) (u : List Flow) (old now next : Sums) (i : ℕ) (f : Flow) → i < length u → f ≡ get_or u i f → FlowWalk net c u old now i → IsRoom (length c) next →
    ((s : ℕ) → sum_in next c s ≡ sum_where (is_on_side net f.reaction s) (change net s f.reaction *ℚ f.flux) (sum_in now c s)) → FlowWalk net c u old next (i + 1)
flow_walks net c u old now next i f l h w room adds = record {
  room = room;
  same = λ s. w.same s ∙ ap (λ xs. sum_from (change net s) (sum_in now c s) (flows_with net s xs)) (dropped u i f l h)
      ∙ from_where (change net s) (sum_in now c s) (is_on_side net f.reaction s) f (flows_with net s (drop (i + 1) u))
      ∙ ap (λ o. sum_from (change net s) o (flows_with net s (drop (i + 1) u))) (sym (adds s));
}

from_none : (k : ℕ → ℚ) (o : Option ℚ) → sum_from k o [] ≡ o
from_none k None = refl
from_none k (Some a) = refl

pub flows_end : (net : Network) (c : List ℚ) (u : List Flow) (old now : Sums) (i : ℕ) → length u ≤ i → FlowWalk net c u old now i →
    (s : ℕ) → sum_in now c s ≡ sum_from (change net s) (sum_in old c s) (flows_with net s u)
flows_end net c u old now i l w s =
    sym (w.same s ∙ ap (λ xs. sum_from (change net s) (sum_in now c s) (flows_with net s xs)) (drop_all i u l) ∙ from_none (change net s) (sum_in now c s))
