-- A text passes no limit exactly where its network is within the limits.
use Rattle.std.proofs.Common.{◌≡◌, ℕ, zero, suc, ◌+◌, ◌<◌, ◌≤◌, Bool, true, false, cond, ◌&&◌, ◌==◌, List, [], ◌∷◌, ◌++◌, length, take, Option, Some, None, refl, sym, ap, ap₂, ◌∙◌, subst, arith, length-append}
use Rattle.std.specs.Prelude.{codes}
use Rattle.std.specs.Option.{option_map, option_and_then}
use Rattle.std.proofs.lemmas.Option.{same_Some}
use Rattle.crn_token.specs.declared.Counted.TheVariants as counted
use Rattle.crn_token.specs.Plain.{Plain, PlainLine}
use Rattle.crn_grammar.specs.Table.{IsText, PassesNone, after}
use Rattle.crn_token.specs.Words.{rest_of, says, begins}
use Rattle.crn_grammar.specs.Limits.{or_else}
use Rattle.crn_grammar.proofs.LimitLaws.{not_above}
use Rattle.crn_net.specs.Network.{Network}
use Rattle.crn_net.specs.Limits.{IsWithinLimits}
use Rattle.crn_net.specs.declared.Rails.{Rails}
use Rattle.crn_net.specs.declared.Ends.{Ends}
use Rattle.crn_net_text.specs.Grammar.{Place, Start, Titled, Naming, Placed, Closed, Listing, frame, with_reaction, number_of, one_of, ends_of, is_named, is_new, leaves_one, with_input, with_context, with_output, after_inputs, naming, reaction_of, follow, limit, network_table, most_species, most_reactions, most_inputs}
use Rattle.crn_net_text.specs.Reading.{IsFine, AreFew, IsLow}
use Rattle.crn_token.proofs.Options.{then_found, map_found, if_found, else_found}
use Rattle.crn_net_text.proofs.Kept.{leads}
use Rattle.crn_net_text.proofs.Spelled.{whole_at}

low_passes : (s : Place) → IsLow s → limit s ≡ None
low_passes Start low = refl
low_passes (Titled rails two) low = refl
low_passes (Naming rails two n inputs) low = ap₂ or_else (not_above most_species counted.Species n low.1) (not_above most_inputs counted.Inputs (length inputs) low.2)
low_passes (Placed rails n inputs k) low = refl
low_passes (Closed net) low = refl
low_passes (Listing m net) low = not_above most_reactions counted.Reactions (length net.reactions + m) low.1

-- ---- where a line leads to a small place, it comes from one
output_few : (rails : Rails) (n : ℕ) (inputs : List Ends) (context : Option ℕ) (ts : List Plain) (t : Place) → with_output rails n inputs context ts ≡ Some t → IsLow t → AreFew n inputs
output_few rails n inputs context ts t is =
    let (test, rest) = if_found (begins (codes "output") ts) (option_map (λ e. Closed (frame rails n inputs context e)) (ends_of rails n (rest_of ts))) t is in
    let (e, here, same) = map_found (λ e. Closed (frame rails n inputs context e)) (ends_of rails n (rest_of ts)) t rest in
    subst (λ u. IsLow u → AreFew n inputs) same (λ low. low)

input_few : (rails : Rails) (two : Bool) (n : ℕ) (inputs : List Ends) (ts : List Plain) (t : Place) → option_and_then (with_input rails two n inputs) (ends_of rails n ts) ≡ Some t → IsLow t → AreFew n inputs
input_few rails two n inputs ts t is =
    let (e, here, rest) = then_found (with_input rails two n inputs) (ends_of rails n ts) t is in
    let (test, same) = if_found (is_new inputs e && leaves_one two n (inputs ++ e ∷ [])) (Some (Naming rails two n (inputs ++ e ∷ []))) t rest in
    subst (λ u. IsLow u → AreFew n inputs) (same_Some (Naming rails two n (inputs ++ e ∷ [])) t same) (λ low. (low.0, low.1, omega (arith, low.2, length-append inputs (e ∷ []))))

later_few : (rails : Rails) (two : Bool) (n : ℕ) (inputs : List Ends) (ts : List Plain) (t : Place) → after_inputs rails two n inputs ts ≡ Some t → IsLow t → AreFew n inputs
later_few rails false n inputs ts t is = output_few rails n inputs None ts t is
later_few rails true n inputs ts t is =
    let (test, rest) = if_found (begins (codes "context") ts) (option_and_then (with_context rails n inputs) (one_of n (rest_of ts))) t is in
    let (k, here, more) = then_found (with_context rails n inputs) (one_of n (rest_of ts)) t rest in
    let (free, same) = else_found (is_named inputs k) (Some (Placed rails n inputs k)) t more in
    subst (λ u. IsLow u → AreFew n inputs) (same_Some (Placed rails n inputs k) t same) (λ low. low)

named_few : (rails : Rails) (two : Bool) (n : ℕ) (inputs : List Ends) (ts : List Plain) (t : Place) → naming rails two n inputs ts ≡ Some t → IsLow t → AreFew n inputs
named_few rails two n inputs ts t is = go (begins (codes "input") ts) is
  where
    go : (b : Bool) → cond b (option_and_then (with_input rails two n inputs) (ends_of rails n (rest_of ts))) (cond (length inputs == 0) None (after_inputs rails two n inputs ts)) ≡ Some t → IsLow t → AreFew n inputs
    go true there = input_few rails two n inputs (rest_of ts) t there
    go false there = let (test, rest) = else_found (length inputs == 0) (after_inputs rails two n inputs ts) t there in later_few rails two n inputs ts t rest

from_low : (s t : Place) (ts : List Plain) → follow s ts ≡ Some t → IsLow t → IsLow s
from_low Start t ts is low = tt
from_low (Titled rails two) t ts is low = tt
from_low (Naming rails two n inputs) t ts is low = named_few rails two n inputs ts t is low
from_low (Placed rails n inputs k) t ts is low = output_few rails n inputs (Some k) ts t is low
from_low (Closed net) t ts is low =
    let (test, rest) = if_found (begins (codes "reactions") ts) (option_map (λ m. Listing m net) (number_of (rest_of ts))) t is in
    let (m, here, same) = map_found (λ m. Listing m net) (number_of (rest_of ts)) t rest in
    let small : IsLow (Listing m net) = subst IsLow (sym same) low in
    small.0
from_low (Listing zero net) t ts is low = let wrong : None ≡ Some t = is in cc
from_low (Listing (suc m) net) t ts is low =
    let (r, here, same) = map_found (λ r. Listing m (with_reaction net r)) (reaction_of net.species ts) t is in
    let small : IsLow (Listing m (with_reaction net r)) = subst IsLow (sym same) low in
    (small.0, omega (arith, small.1, length-append net.reactions (r ∷ [])))

lines_from_low : (s t : Place) (lines : List PlainLine) → after network_table s lines ≡ Some t → IsLow t → IsLow s
lines_from_low s t [] there low = subst IsLow (sym (same_Some s t there)) low
lines_from_low s t (line ∷ lines) there low =
    let (u, here, rest) = then_found (λ v. after network_table v lines) (follow s (says line)) t there in
    from_low s u (says line) here (lines_from_low u t lines rest low)

-- each place on the way to a small one is small
low_before : (s t u : Place) (lines : List PlainLine) (n : ℕ) → after network_table s lines ≡ Some t → IsLow t → after network_table s (take n lines) ≡ Some u → IsLow u
low_before s t u lines zero there low is = subst IsLow (same_Some s u is) (lines_from_low s t lines there low)
low_before s t u [] (suc n) there low is = subst IsLow (same_Some s u is) (lines_from_low s t [] there low)
low_before s t u (line ∷ lines) (suc n) there low is =
    let (v, here, rest) = then_found (λ v. after network_table v lines) (follow s (says line)) t there in
    let onward : after network_table v (take n lines) ≡ Some u = ap (option_and_then (λ w. after network_table w (take n lines))) (sym here) ∙ is in
    low_before v t u lines n rest low onward

-- ---- lines that pass no limit lead to a small place
abbrev PassNone : Place → List PlainLine → Type 0
PassNone s lines = (n : ℕ) (u : Place) → 0 < n → n ≤ length lines → after network_table s (take n lines) ≡ Some u → limit u ≡ None

to_low : (s t : Place) (lines : List PlainLine) → IsFine s → IsLow s → after network_table s lines ≡ Some t → PassNone s lines → IsLow t
to_low s t [] fine low there none = subst IsLow (same_Some s t there) low
to_low s t (line ∷ lines) fine low there none =
    let (v, here, rest) = then_found (λ v. after network_table v lines) (follow s (says line)) t there in
    let (fine_v, low_v) = leads s v (says line) fine here in
    let first : after network_table s (take 1 (line ∷ lines)) ≡ Some v = ap (option_and_then (λ w. Some w)) here in
    to_low v t lines fine_v (low_v low (none 1 v (omega arith) (omega arith) first)) rest
    (λ n u some within is. none (suc n) u (omega arith) (omega (arith, within)) (ap (option_and_then (λ w. after network_table w (take n lines))) here ∙ is))

-- ---- texts
pub small_text : (lines : List PlainLine) (net : Network) → IsText network_table lines net → IsWithinLimits net → PassesNone network_table lines
small_text lines net (s, there, is) few n u some within here =
    let led : after network_table Start lines ≡ Some (Listing 0 net) = there ∙ ap (λ v. Some v) (whole_at s net is) in
    low_passes u (low_before Start (Listing 0 net) u lines n led ((few.some_species, few.few_species, few.few_inputs), omega (arith, few.few_reactions)) here)

pub text_small : (lines : List PlainLine) (net : Network) → IsText network_table lines net → PassesNone network_table lines → IsWithinLimits net
text_small lines net (s, there, is) none =
    let led : after network_table Start lines ≡ Some (Listing 0 net) = there ∙ ap (λ v. Some v) (whole_at s net is) in
    let low = to_low Start (Listing 0 net) lines tt tt led none in
    let framed = lines_lead Start (Listing 0 net) lines tt led in
    record {
      some_species = low.0.0;
      few_species = low.0.1;
      few_reactions = omega (arith, low.1);
      some_input = omega (arith, framed.some_input);
      few_inputs = low.0.2;
    }
  where
    lines_lead : (s t : Place) (lines : List PlainLine) → IsFine s → after network_table s lines ≡ Some t → IsFine t
    lines_lead s t [] fine there = subst IsFine (same_Some s t there) fine
    lines_lead s t (line ∷ lines) fine there =
        let (v, here, rest) = then_found (λ v. after network_table v lines) (follow s (says line)) t there in
        lines_lead v t lines (leads s v (says line) fine here).0 rest
