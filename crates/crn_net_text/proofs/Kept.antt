-- What holds at each place to which lines lead, and that each place can end.
use Rattle.std.proofs.Common.{◌≡◌, ℕ, zero, suc, ◌+◌, ◌<◌, ◌≤◌, Bool, true, false, cond, ◌&&◌, ◌||◌, ◌==◌, List, [], ◌∷◌, ◌++◌, length, Option, Some, None, refl, sym, ap, ◌∙◌, subst, arith, false-eqb, le-leb, lt-ltb, ne_eqb, length-append}
use Rattle.std.proofs.lemmas.Bool.{leb-true, and_parts, not-true, or_parts}
use Rattle.std.specs.Prelude.{pos, codes, nat_lt, nat_le, not}
use Rattle.std.specs.Option.{option_map, option_and_then}
use Rattle.std.proofs.lemmas.Option.{same_Some}
use Rattle.crn_token.specs.declared.Counted.TheVariants as counted
use Rattle.crn_token.specs.declared.Sign.TheVariants.{Arrow}
use Rattle.crn_token.specs.Plain.{Plain, PlainLine, PlainWord, PlainNumber, PlainSign}
use Rattle.crn_grammar.specs.Table.{Read, after, CanEnd}
use Rattle.crn_grammar.specs.Reading.{judged}
use Rattle.crn_grammar.proofs.LimitLaws.{not_passed, neither}
use Rattle.crn_grammar.proofs.Turns.{judged_read}
use Rattle.crn_grammar.proofs.TableLaws.{can_end}
use Rattle.crn_token.specs.Words.{rest_of, says, begins, number_at}
use Rattle.crn_grammar.specs.Limits.{above}
use Rattle.crn_net.specs.Network.{Reaction, Network, IsReaction, IsEnds, AreDifferent, IsApart, IsContext, input_species, numbered}
use Rattle.crn_net.specs.Inputs.{species_of, AreNew}
use Rattle.crn_net.specs.Limits.{IsValid}
use Rattle.crn_net.specs.declared.Rails.{Rails}
use Rattle.crn_net.specs.declared.Rails.TheVariants.{Dual, Direct}
use Rattle.crn_net.specs.declared.Ends.{Ends}
use Rattle.crn_net.specs.declared.Ends.TheVariants.{Pair, One}
use Rattle.crn_net.proofs.InputLists.{species_push, ends_push, different-append, end_different}
use Rattle.crn_net_text.specs.Grammar.{Place, Start, Titled, Naming, Placed, Closed, Listing, least, frame, with_reaction, is_named, is_new, leaves_one, rails_of, version_of, title_with, title, sized, size, with_input, with_context, with_output, after_inputs, naming, count, listing, follow, limit, network_table, number_of, one_of, ends_of, reaction_of, most_species, most_reactions, most_inputs}
use Rattle.crn_net_text.specs.Reading.{AreNamed, IsFramed, IsFine, AreFew, IsLow, IsKept}
use Rattle.crn_net_text.proofs.Found.{ends_found, one_found, reaction_found}
use Rattle.crn_token.proofs.Options.{then_found, map_found, if_found, else_found}
use Rattle.crn_net_text.proofs.Left.{left_here, left}
use Rattle.crn_net.proofs.EndsSpecies.{some_species}

-- ---- names

named_apart : (inputs : List Ends) (x : ℕ) → is_named inputs x ≡ false → IsApart x (input_species inputs)
named_apart [] x free = tt
named_apart (Pair a b ∷ es) x free =
    let (here, rest) = or_parts (a == x || b == x) (is_named es x) free in
    let (first, second) = or_parts (a == x) (b == x) here in
    ((λ e. false-eqb a x (sym first) (sym e)), ((λ e. false-eqb b x (sym second) (sym e)), named_apart es x rest))
named_apart (One a ∷ es) x free =
    let (here, rest) = or_parts (a == x) (is_named es x) free in
    ((λ e. false-eqb a x (sym here) (sym e)), named_apart es x rest)

new_input : (inputs : List Ends) (e : Ends) → is_new inputs e ≡ true → AreNew (species_of e) (input_species inputs)
new_input inputs (Pair a b) is =
    let (first, second) = and_parts (not (is_named inputs a)) (not (is_named inputs b)) is in
    (named_apart inputs a (not-true (is_named inputs a) first), (named_apart inputs b (not-true (is_named inputs b) second), tt))
new_input inputs (One a) is = (named_apart inputs a (not-true (is_named inputs a) is), tt)

some_least : (rails : Rails) (two : Bool) → 1 ≤ least rails two
some_least Dual false = omega arith
some_least Direct false = omega arith
some_least Dual true = omega arith
some_least Direct true = omega arith

none_named : (two : Bool) (n : ℕ) → 1 ≤ n → leaves_one two n [] ≡ true
none_named false n some = refl
none_named true n some = left_here [] n 1 (omega arith) some refl

-- ---- one line more
-- what holds after a line
abbrev Leads : Place → Place → Type 0
Leads s t = IsFine t × (IsLow s → limit t ≡ None → IsLow t)

after_title : (ts : List Plain) (t : Place) → title ts ≡ Some t → Leads Start t
after_title ts t is =
    let (test, rest) = if_found (begins (codes "crn") ts) (title_with (rest_of ts)) t is in
    let (n, number, more) = then_found (λ n. option_and_then (λ two. option_map (λ r. Titled r two) (rails_of (rest_of (rest_of ts)))) (version_of n)) (number_at (rest_of ts)) t rest in
    let (two, version, last) = then_found (λ two. option_map (λ r. Titled r two) (rails_of (rest_of (rest_of ts)))) (version_of n) t more in
    let (r, rails, same) = map_found (λ r. Titled r two) (rails_of (rest_of (rest_of ts))) t last in
    subst (Leads Start) same (tt, λ low none. tt)

after_size : (rails : Rails) (two : Bool) (ts : List Plain) (t : Place) → size rails two ts ≡ Some t → Leads (Titled rails two) t
after_size rails two ts t is =
    let (test, rest) = if_found (begins (codes "species") ts) (option_and_then (sized rails two) (number_of (rest_of ts))) t is in
    let (n, number, more) = then_found (sized rails two) (number_of (rest_of ts)) t rest in
    let (enough, same) = if_found (nat_le (least rails two) n) (Some (Naming rails two n [])) t more in
    let fits = leb-true (least rails two) n enough in
    let some : 1 ≤ n = omega (arith, fits, some_least rails two) in
    subst (Leads (Titled rails two)) (same_Some (Naming rails two n []) t same) (
      record { enough = fits; ends = tt; different = tt; leaves = none_named two n some },
      λ low none. (some, not_passed most_species counted.Species n (neither (above most_species counted.Species n) (above most_inputs counted.Inputs 0) none).0, omega arith),
    )

no_reactions : (rails : Rails) (n : ℕ) (inputs : List Ends) (two : Bool) (context : Option ℕ) (e : Ends) → AreNamed rails two n inputs → 0 < length inputs → IsContext n inputs context → IsEnds rails n e → IsFramed (frame rails n inputs context e)
no_reactions rails n inputs two context e named some is output = record {
  network = record {
    reactions = λ r low high. absurd (omega arith);
    inputs = named.ends;
    different = named.different;
    output = output;
    context = is;
  };
  some_input = some;
}

after_output : (s : Place) (rails : Rails) (n : ℕ) (inputs : List Ends) (two : Bool) (context : Option ℕ) (ts : List Plain) (t : Place) → AreNamed rails two n inputs → 0 < length inputs → IsContext n inputs context → (IsLow s → AreFew n inputs)
    → with_output rails n inputs context ts ≡ Some t → Leads s t
after_output s rails n inputs two context ts t named some is few there =
    let (test, rest) = if_found (begins (codes "output") ts) (option_map (λ e. Closed (frame rails n inputs context e)) (ends_of rails n (rest_of ts))) t there in
    let (e, here, same) = map_found (λ e. Closed (frame rails n inputs context e)) (ends_of rails n (rest_of ts)) t rest in
    subst (Leads s) same ((no_reactions rails n inputs two context e named some is (ends_found rails n (rest_of ts) e here), refl), λ low none. few low)

after_input : (rails : Rails) (two : Bool) (n : ℕ) (inputs : List Ends) (ts : List Plain) (t : Place) → AreNamed rails two n inputs → option_and_then (with_input rails two n inputs) (ends_of rails n ts) ≡ Some t → Leads (Naming rails two n inputs) t
after_input rails two n inputs ts t named is =
    let (e, here, rest) = then_found (with_input rails two n inputs) (ends_of rails n ts) t is in
    let (test, same) = if_found (is_new inputs e && leaves_one two n (inputs ++ e ∷ [])) (Some (Naming rails two n (inputs ++ e ∷ []))) t rest in
    let (new, leaves) = and_parts (is_new inputs e) (leaves_one two n (inputs ++ e ∷ [])) test in
    let end = ends_found rails n ts e here in
    subst (Leads (Naming rails two n inputs)) (same_Some (Naming rails two n (inputs ++ e ∷ [])) t same) (
      record {
        enough = named.enough;
        ends = ends_push rails n inputs e named.ends end;
        different = subst AreDifferent (sym (species_push inputs e)) (different-append (input_species inputs) (species_of e) named.different (end_different rails n e end) (new_input inputs e new));
        leaves = leaves;
      },
      λ low none. let (species, many) = neither (above most_species counted.Species n) (above most_inputs counted.Inputs (length (inputs ++ e ∷ []))) none in (low.0, low.1, not_passed most_inputs counted.Inputs (length (inputs ++ e ∷ [])) many),
    )

after_naming : (rails : Rails) (two : Bool) (n : ℕ) (inputs : List Ends) (ts : List Plain) (t : Place) → AreNamed rails two n inputs → 0 < length inputs → after_inputs rails two n inputs ts ≡ Some t → Leads (Naming rails two n inputs) t
after_naming rails false n inputs ts t named some is = after_output (Naming rails false n inputs) rails n inputs false None ts t named some tt (λ low. low) is
after_naming rails true n inputs ts t named some is =
    let (test, rest) = if_found (begins (codes "context") ts) (option_and_then (with_context rails n inputs) (one_of n (rest_of ts))) t is in
    let (k, here, more) = then_found (with_context rails n inputs) (one_of n (rest_of ts)) t rest in
    let (free, same) = else_found (is_named inputs k) (Some (Placed rails n inputs k)) t more in
    let (low, high) = one_found n k (rest_of ts) here in
    subst (Leads (Naming rails true n inputs)) (same_Some (Placed rails n inputs k) t same) ((named, some, (low, high, named_apart inputs k free)), λ few none. few)

after_named : (rails : Rails) (two : Bool) (n : ℕ) (inputs : List Ends) (ts : List Plain) (t : Place) → AreNamed rails two n inputs → naming rails two n inputs ts ≡ Some t → Leads (Naming rails two n inputs) t
after_named rails two n inputs ts t named is = go (begins (codes "input") ts) is
  where
    some : length inputs == 0 ≡ false → 0 < length inputs
    some e = omega (arith, false-eqb (length inputs) 0 (sym e))

    go : (b : Bool) → cond b (option_and_then (with_input rails two n inputs) (ends_of rails n (rest_of ts))) (cond (length inputs == 0) None (after_inputs rails two n inputs ts)) ≡ Some t → Leads (Naming rails two n inputs) t
    go true there = after_input rails two n inputs (rest_of ts) t named there
    go false there = let (test, rest) = else_found (length inputs == 0) (after_inputs rails two n inputs ts) t there in after_naming rails two n inputs ts t named (some test) rest

after_count : (net : Network) (ts : List Plain) (t : Place) → IsFramed net → net.reactions ≡ [] → count net ts ≡ Some t → Leads (Closed net) t
after_count net ts t framed none is =
    let (test, rest) = if_found (begins (codes "reactions") ts) (option_map (λ m. Listing m net) (number_of (rest_of ts))) t is in
    let (m, number, same) = map_found (λ m. Listing m net) (number_of (rest_of ts)) t rest in
    subst (Leads (Closed net)) same (framed, λ low few. (low, not_passed most_reactions counted.Reactions (length net.reactions + m) few))

-- one reaction more
pub each_later : (P : Reaction → Type 0) (x : Reaction) (xs : List Reaction) → ((q : ℕ) → 1 ≤ q → q ≤ length (x ∷ xs) → P (numbered (x ∷ xs) q)) → (q : ℕ) → 1 ≤ q → q ≤ length xs → P (numbered xs q)
each_later P x xs all zero low high = absurd (omega arith)
each_later P x xs all (suc q) low high = all (suc (suc q)) (omega arith) (omega arith)

each_more : (P : Reaction → Type 0) (rs : List Reaction) (r : Reaction) → ((q : ℕ) → 1 ≤ q → q ≤ length rs → P (numbered rs q)) → P r → (q : ℕ) → 1 ≤ q → q ≤ length (rs ++ r ∷ []) → P (numbered (rs ++ r ∷ []) q)
each_more P rs r all here zero low high = absurd (omega arith)
each_more P [] r all here (suc zero) low high = here
each_more P [] r all here (suc (suc q)) low high = absurd (omega arith)
each_more P (x ∷ xs) r all here (suc zero) low high = all 1 (omega arith) (omega arith)
each_more P (x ∷ xs) r all here (suc (suc q)) low high = each_more P xs r (each_later P x xs all) here (suc q) (omega arith) (omega arith)

pub framed_more : (net : Network) (r : Reaction) → IsFramed net → IsReaction net.species r → IsFramed (with_reaction net r)
framed_more net r framed is = record {
  network = record {
    reactions = each_more (IsReaction net.species) net.reactions r framed.network.reactions is;
    inputs = framed.network.inputs;
    different = framed.network.different;
    output = framed.network.output;
    context = framed.network.context;
  };
  some_input = framed.some_input;
}

after_listing : (m : ℕ) (net : Network) (ts : List Plain) (t : Place) → IsFramed net → listing m net ts ≡ Some t → Leads (Listing m net) t
after_listing zero net ts t framed is = let wrong : None ≡ Some t = is in cc
after_listing (suc m) net ts t framed is =
    let (r, here, same) = map_found (λ r. Listing m (with_reaction net r)) (reaction_of net.species ts) t is in
    subst (Leads (Listing (suc m) net)) same (framed_more net r framed (reaction_found net.species ts r here), λ low few. (low.0, omega (arith, low.1, length-append net.reactions (r ∷ []))))

pub leads : (s t : Place) (ts : List Plain) → IsFine s → follow s ts ≡ Some t → Leads s t
leads Start t ts fine is = after_title ts t is
leads (Titled rails two) t ts fine is = after_size rails two ts t is
leads (Naming rails two n inputs) t ts fine is = after_named rails two n inputs ts t fine is
leads (Placed rails n inputs k) t ts fine is = after_output (Placed rails n inputs k) rails n inputs true (Some k) ts t fine.0 fine.1 fine.2 (λ low. low) is
leads (Closed net) t ts fine is = after_count net ts t fine.0 fine.1 is
leads (Listing m net) t ts fine is = after_listing m net ts t fine is

pub kept_judged : (number : ℕ) (s t : Place) (ts : List Plain) → IsKept s → judged limit number (follow s ts) ≡ Read t → IsKept t
kept_judged number s t ts kept is =
    let (there, low) = judged_read limit number (follow s ts) t is in
    let (fine, few) = leads s t ts kept.0 there in
    (fine, few kept.1 low)

-- ---- each place can end
abbrev CanStop : Place → Type 0
CanStop s = (more : List PlainLine) × (t : Place) × (f : Network) × (after network_table s more ≡ Some t) × (network_table.whole t ≡ Some f)

abbrev line_of : List Plain → PlainLine
line_of ts = record { number = 0; bad = false; tokens = ts }

ends_after : (s t : Place) (ts : List Plain) → follow s ts ≡ Some t → CanStop t → CanStop s
ends_after s t ts is (more, u, f, there, end) = (line_of ts ∷ more, u, f, ap (option_and_then (λ v. after network_table v more)) is ∙ there, end)

abbrev species : ℕ → List Plain
species a = PlainWord (codes "S") ∷ PlainNumber (pos a) ∷ []

abbrev first_ends : Rails → Ends
first_ends Dual = Pair 1 2
first_ends Direct = One 1

abbrev first_tokens : Rails → List Plain
first_tokens Dual = species 1 ++ species 2
first_tokens Direct = species 1

first_are : (rails : Rails) (two : Bool) (n : ℕ) → least rails two ≤ n → ends_of rails n (first_tokens rails) ≡ Some (first_ends rails)
first_are Dual false n enough = let one : nat_le 1 n ≡ true = le-leb 1 n (omega arith) in let two' : nat_le 2 n ≡ true = le-leb 2 n (omega arith) in rw (one, two') refl
first_are Dual true n enough = let one : nat_le 1 n ≡ true = le-leb 1 n (omega arith) in let two' : nat_le 2 n ≡ true = le-leb 2 n (omega arith) in rw (one, two') refl
first_are Direct false n enough = let one : nat_le 1 n ≡ true = le-leb 1 n (omega arith) in rw one refl
first_are Direct true n enough = let one : nat_le 1 n ≡ true = le-leb 1 n (omega arith) in rw one refl

first_new : (rails : Rails) → is_new [] (first_ends rails) ≡ true
first_new Dual = refl
first_new Direct = refl

first_leaves : (rails : Rails) (two : Bool) (n : ℕ) → least rails two ≤ n → leaves_one two n (first_ends rails ∷ []) ≡ true
first_leaves rails false n enough = refl
first_leaves Dual true n enough = left_here (Pair 1 2 ∷ []) n 3 (omega arith) enough refl
first_leaves Direct true n enough = left_here (One 1 ∷ []) n 2 (omega arith) enough refl

abbrev one_lost : Reaction
one_lost = record { takes = record { species = 1; count = 1 } ∷ []; gives = [] }

lost_is : (n : ℕ) → 1 ≤ n → reaction_of n (species 1 ++ PlainSign Arrow ∷ PlainNumber (pos 0) ∷ []) ≡ Some one_lost
lost_is n some = let one : nat_le 1 n ≡ true = le-leb 1 n some in rw one refl

ends_listing : (m : ℕ) (net : Network) → 1 ≤ net.species → CanStop (Listing m net)
ends_listing zero net some = ([], Listing 0 net, net, refl, refl)
ends_listing (suc m) net some =
    ends_after (Listing (suc m) net) (Listing m (with_reaction net one_lost)) (species 1 ++ PlainSign Arrow ∷ PlainNumber (pos 0) ∷ [])
    (ap (option_map (λ r. Listing m (with_reaction net r))) (lost_is net.species some)) (ends_listing m (with_reaction net one_lost) some)

ends_closed : (net : Network) → CanStop (Closed net)
ends_closed net = ends_after (Closed net) (Listing 0 net) (PlainWord (codes "reactions") ∷ PlainNumber (pos 0) ∷ []) refl ([], Listing 0 net, net, refl, refl)

abbrev output_tokens : Rails → List Plain
output_tokens rails = PlainWord (codes "output") ∷ first_tokens rails

output_is : (rails : Rails) (two : Bool) (n : ℕ) (inputs : List Ends) (context : Option ℕ) → least rails two ≤ n → with_output rails n inputs context (output_tokens rails) ≡ Some (Closed (frame rails n inputs context (first_ends rails)))
output_is rails two n inputs context enough = ap (option_map (λ e. Closed (frame rails n inputs context e))) (first_are rails two n enough)

ends_placed : (rails : Rails) (n : ℕ) (inputs : List Ends) (k : ℕ) → least rails true ≤ n → CanStop (Placed rails n inputs k)
ends_placed rails n inputs k enough =
    ends_after (Placed rails n inputs k) (Closed (frame rails n inputs (Some k) (first_ends rails))) (output_tokens rails) (output_is rails true n inputs (Some k) enough) (ends_closed _)

context_is : (rails : Rails) (n k : ℕ) (inputs : List Ends) → 1 ≤ k → k ≤ n → is_named inputs k ≡ false → option_and_then (with_context rails n inputs) (one_of n (species k)) ≡ Some (Placed rails n inputs k)
context_is rails n k inputs low high free =
    let above_is : nat_lt 0 k ≡ true = lt-ltb 0 k (omega arith) in
    let below_is : nat_le k n ≡ true = le-leb k n high in
    rw (above_is, below_is, free) refl

pub named_on : (rails : Rails) (two : Bool) (n : ℕ) (es : List Ends) (ts : List Plain) (t : Place) → 0 < length es → begins (codes "input") ts ≡ false → after_inputs rails two n es ts ≡ Some t → naming rails two n es ts ≡ Some t
named_on rails two n es ts t some other is =
    ap (λ b. cond b (option_and_then (with_input rails two n es) (ends_of rails n (rest_of ts))) (cond (length es == 0) None (after_inputs rails two n es ts))) other
    ∙ ap (λ b. cond b None (after_inputs rails two n es ts)) (ne_eqb (length es) 0 (omega arith)) ∙ is

ends_named : (rails : Rails) (two : Bool) (n : ℕ) (e : Ends) (es : List Ends) → least rails two ≤ n → leaves_one two n (e ∷ es) ≡ true → CanStop (Naming rails two n (e ∷ es))
ends_named rails false n e es enough leaves =
    ends_after (Naming rails false n (e ∷ es)) (Closed (frame rails n (e ∷ es) None (first_ends rails))) (output_tokens rails)
    (named_on rails false n (e ∷ es) (output_tokens rails) _ (omega arith) refl (output_is rails false n (e ∷ es) None enough)) (ends_closed _)
ends_named rails true n e es enough leaves =
    let (k, low, high, free) = left (e ∷ es) n leaves in
    ends_after (Naming rails true n (e ∷ es)) (Placed rails n (e ∷ es) k) (PlainWord (codes "context") ∷ species k)
    (named_on rails true n (e ∷ es) (PlainWord (codes "context") ∷ species k) _ (omega arith) refl (context_is rails n k (e ∷ es) low high free)) (ends_placed rails n (e ∷ es) k enough)

ends_naming : (rails : Rails) (two : Bool) (n : ℕ) (inputs : List Ends) → least rails two ≤ n → leaves_one two n inputs ≡ true → CanStop (Naming rails two n inputs)
ends_naming rails two n (e ∷ es) enough leaves = ends_named rails two n e es enough leaves
ends_naming rails two n [] enough leaves =
    ends_after (Naming rails two n []) (Naming rails two n (first_ends rails ∷ [])) (PlainWord (codes "input") ∷ first_tokens rails)
    (ap (option_and_then (with_input rails two n [])) (first_are rails two n enough)
    ∙ ap (λ b. cond (b && leaves_one two n (first_ends rails ∷ [])) (Some (Naming rails two n (first_ends rails ∷ []))) None) (first_new rails)
    ∙ ap (λ b. cond b (Some (Naming rails two n (first_ends rails ∷ []))) None) (first_leaves rails two n enough))
    (ends_named rails two n (first_ends rails) [] enough (first_leaves rails two n enough))

ends_titled : (rails : Rails) (two : Bool) → CanStop (Titled rails two)
ends_titled rails two =
    let n = least rails two in
    ends_after (Titled rails two) (Naming rails two n []) (PlainWord (codes "species") ∷ PlainNumber (pos n) ∷ [])
    (ap (λ b. cond b (Some (Naming rails two n [])) None) (le-leb n n (omega arith))) (ends_naming rails two n [] (omega arith) (none_named two n (some_least rails two)))

ends : (s : Place) → IsFine s → CanStop s
ends Start fine = ends_after Start (Titled Direct false) (PlainWord (codes "crn") ∷ PlainNumber (pos 1) ∷ PlainWord (codes "direct") ∷ []) refl (ends_titled Direct false)
ends (Titled rails two) fine = ends_titled rails two
ends (Naming rails two n inputs) fine = ends_naming rails two n inputs fine.enough fine.leaves
ends (Placed rails n inputs k) fine = ends_placed rails n inputs k fine.0.enough
ends (Closed net) fine = ends_closed net
ends (Listing m net) fine = ends_listing m net (some_species net.rails net.species net.output fine.network.output)

pub network_can_end : CanEnd network_table
network_can_end = can_end network_table IsFine tt (λ s line t fine is. (leads s t (says line) fine is).0) ends

-- ---- the network of a whole text is one that can be made
pub kept_is_valid : (net : Network) → IsKept (Listing 0 net) → IsValid net
kept_is_valid net (fine, low) = record {
  network = fine.network;
  limits = record { some_species = low.0.0; few_species = low.0.1; few_reactions = omega (arith, low.1); some_input = fine.some_input; few_inputs = low.0.2 };
}
