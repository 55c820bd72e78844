-- The grammar of network text, line by line, apart from how a text is read.
use Rattle.std.specs.Prelude.{ℕ, zero, suc, ◌+◌, ◌≡◌, ◌<◌, Bool, true, false, ◌&&◌, ◌||◌, not, nat_lt, nat_le, ◌==◌, pos, List, [], ◌∷◌, ◌++◌, length, drop, codes, Option, Some, None, if◌then◌else◌}
use Rattle.std.specs.List.{list_any}
use Rattle.std.specs.Option.{option_map, option_and_then}
use Rattle.crn_token.specs.declared.Sign.TheVariants.{Plus, Arrow}
use Rattle.crn_token.specs.declared.Counted.{Counted}
use Rattle.crn_token.specs.declared.Counted.TheVariants as counted
use Rattle.crn_token.specs.Plain.{Plain, PlainLine, PlainNumber, PlainSign, plain_lines, line_number, end_of}
use Rattle.crn_token.specs.Words.{rest_of, says, begins, number_at}
use Rattle.crn_token.specs.Printed.{Item, shown}
use Rattle.crn_grammar.specs.Table.{Table, Answer, answer}
use Rattle.crn_grammar.specs.Part.{PartAnswer, part_answer}
use Rattle.crn_grammar.specs.Limits.{above, or_else}
use Rattle.crn_net.specs.Network.{Part, Reaction, Network, IsNetwork}
use Rattle.crn_net.specs.declared.Rails.{Rails}
use Rattle.crn_net.specs.declared.Rails.TheVariants.{Dual, Direct}
use Rattle.crn_net.specs.declared.Ends.{Ends}
use Rattle.crn_net.specs.declared.Ends.TheVariants.{Pair, One}
use Rattle.crn_net_text.specs.NetworkText.{network_lines}

-- ---- the texts of the grammar
-- the lines say these lines of tokens, and none is bad
abbrev pub Say : List PlainLine → List (List Item) → Type 0
Say [] [] = Unit {0}
Say [] (items ∷ more) = ⊥
Say (line ∷ lines) [] = ⊥
Say (line ∷ lines) (items ∷ more) = (line.bad ≡ false) × (line.tokens ≡ shown items) × Say lines more

-- a text of the grammar is the printed lines of a well formed network with an input
pub record IsNetworkText (lines : List PlainLine) (net : Network) : Type 0 where
  pub network : IsNetwork net
  pub some_input : 0 < length net.inputs
  pub say : Say lines (network_lines net)

-- ---- what stands in a line
-- the number that is all the tokens
abbrev pub number_of : List Plain → Option ℕ
number_of (PlainNumber (pos n) ∷ []) = Some n
number_of _ = None

abbrev pub is_plus : List Plain → Bool
is_plus (PlainSign Plus ∷ tokens) = true
is_plus _ = false

abbrev pub is_arrow : List Plain → Bool
is_arrow (PlainSign Arrow ∷ tokens) = true
is_arrow _ = false

-- `0` alone
abbrev pub is_nothing : List Plain → Bool
is_nothing (PlainNumber (pos zero) ∷ []) = true
is_nothing _ = false

-- the species, if it is above `low` and up to n
abbrev pub within : ℕ → ℕ → ℕ → Option ℕ
within low n a = if nat_lt low a && nat_le a n then Some a else None

-- the species `Sa` that begins the tokens; it has two of them
abbrev pub species_at : ℕ → ℕ → List Plain → Option ℕ
species_at low n tokens = if begins (codes "S") tokens then option_and_then (within low n) (number_at (rest_of tokens)) else None

abbrev pub many : ℕ → ℕ → Part
many count a = record { species = a; count = count }

-- a part after its count, or without one, and how many tokens it has
abbrev pub part_by : ℕ → ℕ → List Plain → Option ℕ → Option (Part × ℕ)
part_by low n tokens None = option_map (λ a. (many 1 a, 2)) (species_at low n tokens)
part_by low n tokens (Some c) = if nat_lt 1 c then option_map (λ a. (many c a, 3)) (species_at low n (rest_of tokens)) else None

-- the part that begins the tokens, of a species above `low` and up to n
abbrev pub part_at : ℕ → ℕ → List Plain → Option (Part × ℕ)
part_at low n tokens = part_by low n tokens (number_at tokens)

-- The side that begins the tokens, and how many it has: parts of ascending species above `low`, joined by `+`, at most so many.
abbrev pub side_at : ℕ → ℕ → ℕ → List Plain → Option (List Part × ℕ)
side_at zero low n tokens = None
side_at (suc k) low n tokens =
    option_and_then (λ p. if is_plus (drop p.1 tokens)
    then option_map (λ q. (p.0 ∷ q.0, p.1 + 1 + q.1)) (side_at k p.0.species n (drop (p.1 + 1) tokens))
    else Some (p.0 ∷ [], p.1))
    (part_at low n tokens)

-- the side that is all the tokens
abbrev pub side_of : ℕ → List Plain → Option (List Part)
side_of n tokens = option_and_then (λ q. if q.1 == length tokens then Some q.0 else None) (side_at (length tokens) 0 n tokens)

-- what a reaction gives, by all the tokens
abbrev pub gives_of : ℕ → List Plain → Option (List Part)
gives_of n tokens = if is_nothing tokens then Some [] else side_of n tokens

abbrev pub reaction_with : ℕ → List Part → List Plain → Option Reaction
reaction_with n takes tokens = if is_arrow tokens then option_map (λ gives. record { takes = takes; gives = gives }) (gives_of n (rest_of tokens)) else None

-- the reaction that is all the tokens
abbrev pub reaction_of : ℕ → List Plain → Option Reaction
reaction_of n tokens = option_and_then (λ q. reaction_with n q.0 (drop q.1 tokens)) (side_at (length tokens) 0 n tokens)

-- the species that is all the tokens
abbrev pub one_of : ℕ → List Plain → Option ℕ
one_of n tokens = if length tokens == 2 then species_at 0 n tokens else None

-- two different species that are all the tokens
abbrev pub pair_with : ℕ → ℕ → List Plain → Option Ends
pair_with n a tokens = option_and_then (λ b. if a == b then None else Some (Pair a b)) (one_of n tokens)

abbrev pub pair_of : ℕ → List Plain → Option Ends
pair_of n tokens = option_and_then (λ a. pair_with n a (drop 2 tokens)) (species_at 0 n tokens)

-- an input or an output
abbrev pub ends_of : Rails → ℕ → List Plain → Option Ends
ends_of Dual n tokens = pair_of n tokens
ends_of Direct n tokens = option_map (λ a. One a) (one_of n tokens)

-- ---- which species are named
abbrev pub names : Ends → ℕ → Bool
names (Pair a b) s = a == s || b == s
names (One a) s = a == s

abbrev pub is_named : List Ends → ℕ → Bool
is_named inputs s = list_any (λ e. names e s) inputs

-- an input names no species that an earlier one names
abbrev pub is_new : List Ends → Ends → Bool
is_new inputs (Pair a b) = not (is_named inputs a) && not (is_named inputs b)
is_new inputs (One a) = not (is_named inputs a)

-- some species from 1 to n is not named
abbrev pub some_left : ℕ → List Ends → Bool
some_left zero inputs = false
some_left (suc n) inputs = not (is_named inputs (suc n)) || some_left n inputs

-- one is left for the context, where there is to be one
abbrev pub leaves_one : Bool → ℕ → List Ends → Bool
leaves_one false n inputs = true
leaves_one true n inputs = some_left n inputs

-- ---- the table of what may follow
-- where a text stands: at its start, or after a line of each kind, with what was read; whether a context is to come
pub data Place : Type 0 where
  Start : Place
  Titled : Rails → Bool → Place
  Naming : Rails → Bool → ℕ → List Ends → Place
  Placed : Rails → ℕ → List Ends → ℕ → Place
  Closed : Network → Place
  Listing : ℕ → Network → Place

-- how many species there are at least
abbrev pub least : Rails → Bool → ℕ
least Dual false = 2
least Direct false = 1
least Dual true = 3
least Direct true = 2

-- the network without its reactions
abbrev pub frame : Rails → ℕ → List Ends → Option ℕ → Ends → Network
frame rails n inputs context output = record { rails = rails; species = n; reactions = []; inputs = inputs; output = output; context = context }

abbrev pub with_reaction : Network → Reaction → Network
with_reaction net r = record { rails = net.rails; species = net.species; reactions = net.reactions ++ r ∷ []; inputs = net.inputs; output = net.output; context = net.context }

abbrev pub rails_of : List Plain → Option Rails
rails_of tokens = if length tokens == 1 then (if begins (codes "dual") tokens then Some Dual else (if begins (codes "direct") tokens then Some Direct else None)) else None

-- whether a network of this version has a context
abbrev pub version_of : ℕ → Option Bool
version_of n = if n == 1 then Some false else (if n == 2 then Some true else None)

-- the version and the rails
abbrev pub title_with : List Plain → Option Place
title_with tokens = option_and_then (λ n. option_and_then (λ two. option_map (λ r. Titled r two) (rails_of (rest_of tokens))) (version_of n)) (number_at tokens)

abbrev pub title : List Plain → Option Place
title tokens = if begins (codes "crn") tokens then title_with (rest_of tokens) else None

abbrev pub sized : Rails → Bool → ℕ → Option Place
sized rails two n = if nat_le (least rails two) n then Some (Naming rails two n []) else None

abbrev pub size : Rails → Bool → List Plain → Option Place
size rails two tokens = if begins (codes "species") tokens then option_and_then (sized rails two) (number_of (rest_of tokens)) else None

abbrev pub with_input : Rails → Bool → ℕ → List Ends → Ends → Option Place
with_input rails two n inputs e = if is_new inputs e && leaves_one two n (inputs ++ e ∷ []) then Some (Naming rails two n (inputs ++ e ∷ [])) else None

abbrev pub with_context : Rails → ℕ → List Ends → ℕ → Option Place
with_context rails n inputs k = if is_named inputs k then None else Some (Placed rails n inputs k)

abbrev pub with_output : Rails → ℕ → List Ends → Option ℕ → List Plain → Option Place
with_output rails n inputs context tokens =
    if begins (codes "output") tokens
    then option_map (λ e. Closed (frame rails n inputs context e)) (ends_of rails n (rest_of tokens))
    else None

-- the context, in a text that has one, or else the output
abbrev pub after_inputs : Rails → Bool → ℕ → List Ends → List Plain → Option Place
after_inputs rails true n inputs tokens =
    if begins (codes "context") tokens then option_and_then (with_context rails n inputs) (one_of n (rest_of tokens)) else None
after_inputs rails false n inputs tokens = with_output rails n inputs None tokens

-- one more input, or what comes after one input or more
abbrev pub naming : Rails → Bool → ℕ → List Ends → List Plain → Option Place
naming rails two n inputs tokens =
    if begins (codes "input") tokens then option_and_then (with_input rails two n inputs) (ends_of rails n (rest_of tokens))
    else (if length inputs == 0 then None else after_inputs rails two n inputs tokens)

abbrev pub count : Network → List Plain → Option Place
count net tokens = if begins (codes "reactions") tokens then option_map (λ m. Listing m net) (number_of (rest_of tokens)) else None

abbrev pub listing : ℕ → Network → List Plain → Option Place
listing zero net tokens = None
listing (suc m) net tokens = option_map (λ r. Listing m (with_reaction net r)) (reaction_of net.species tokens)

abbrev pub follow : Place → List Plain → Option Place
follow Start tokens = title tokens
follow (Titled rails two) tokens = size rails two tokens
follow (Naming rails two n inputs) tokens = naming rails two n inputs tokens
follow (Placed rails n inputs k) tokens = with_output rails n inputs (Some k) tokens
follow (Closed net) tokens = count net tokens
follow (Listing m net) tokens = listing m net tokens

abbrev pub next : Place → PlainLine → Option Place
next place line = follow place (says line)

-- the network, where no reaction is to come
abbrev pub whole : Place → Option Network
whole (Listing zero net) = Some net
whole _ = None

-- the network part goes on until it is whole
abbrev pub is_open : Place → Bool
is_open (Listing zero net) = false
is_open _ = true

abbrev pub goes_on : Place → PlainLine → Bool
goes_on place line = is_open place

-- ---- limits, which do not belong to the grammar
-- the greatest numbers of species, of reactions and of inputs
abbrev pub most_species : ℕ
most_species = 65536

abbrev pub most_reactions : ℕ
most_reactions = 65536

abbrev pub most_inputs : ℕ
most_inputs = 8

-- the limit that the last line passed
abbrev pub limit : Place → Option (Counted × ℕ)
limit Start = None
limit (Titled rails two) = None
limit (Naming rails two n inputs) = or_else (above most_species counted.Species n) (above most_inputs counted.Inputs (length inputs))
limit (Placed rails n inputs k) = None
limit (Closed net) = None
limit (Listing m net) = above most_reactions counted.Reactions (length net.reactions + m)

abbrev pub network_table : Table Place PlainLine Network (Counted × ℕ)
network_table = record { start = Start; next = next; whole = whole; limit = limit }

-- ---- texts
-- the answer to lines of a text, and to a text
abbrev pub lines_answer : List ℕ → List PlainLine → Answer Network (Counted × ℕ)
lines_answer bytes lines = answer network_table line_number (end_of bytes) Start lines

abbrev pub network_answer : List ℕ → Answer Network (Counted × ℕ)
network_answer bytes = lines_answer bytes (plain_lines bytes)

-- the answer to the network part that lines of a text begin with, and to the one that begins a text
abbrev pub part_of_lines : List ℕ → List PlainLine → PartAnswer PlainLine Network (Counted × ℕ)
part_of_lines bytes lines = part_answer network_table goes_on line_number (end_of bytes) Start lines

abbrev pub network_part : List ℕ → PartAnswer PlainLine Network (Counted × ℕ)
network_part bytes = part_of_lines bytes (plain_lines bytes)
