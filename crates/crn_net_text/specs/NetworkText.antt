-- The text of a network, as lines of tokens with a blank between two or none.
use Rattle.std.specs.Prelude.{ℕ, zero, suc, pos, ◌≤◌, ◌==◌, if◌then◌else◌, List, [], ◌∷◌, ◌++◌, length, map, codes, All, Option, None, Some}
use Rattle.crn_token.specs.declared.Sign.{Sign}
use Rattle.crn_token.specs.declared.Sign.TheVariants.{Plus, Arrow}
use Rattle.crn_token.specs.Plain.{PlainWord, PlainNumber, PlainSign}
use Rattle.crn_token.specs.Printed.{Item, Shown, Blank, printed}
use Rattle.crn_net.specs.Network.{Part, Reaction, Network}
use Rattle.crn_net.specs.declared.Rails.{Rails}
use Rattle.crn_net.specs.declared.Rails.TheVariants.{Dual, Direct}
use Rattle.crn_net.specs.declared.Ends.{Ends}
use Rattle.crn_net.specs.declared.Ends.TheVariants.{Pair, One}

abbrev pub word : List ℕ → Item
word letters = Shown (PlainWord letters)

abbrev pub number : ℕ → Item
number n = Shown (PlainNumber (pos n))

abbrev pub symbol : Sign → Item
symbol sign = Shown (PlainSign sign)

-- `Sa`
abbrev pub species_items : ℕ → List Item
species_items a = word (codes "S") ∷ number a ∷ []

-- `Sa`, or `n Sa` where there is more than one of it
abbrev pub part_items : Part → List Item
part_items p = if p.count == 1 then species_items p.species else number p.count ∷ Blank ∷ species_items p.species

-- the parts, with ` + ` between two
abbrev pub side_items : List Part → List Item
side_items [] = []
side_items (p ∷ []) = part_items p
side_items (p ∷ q ∷ ps) = part_items p ++ (Blank ∷ symbol Plus ∷ Blank ∷ side_items (q ∷ ps))

-- a part that stands after so many others
abbrev pub next_items : ℕ → Part → List Item
next_items zero p = part_items p
next_items (suc i) p = Blank ∷ symbol Plus ∷ Blank ∷ part_items p

-- what a reaction gives, `0` where that is nothing
abbrev pub gives_items : List Part → List Item
gives_items [] = number 0 ∷ []
gives_items (p ∷ ps) = side_items (p ∷ ps)

abbrev pub reaction_items : Reaction → List Item
reaction_items r = side_items r.takes ++ (Blank ∷ symbol Arrow ∷ Blank ∷ gives_items r.gives)

-- the species of an input or an output, each after a blank
abbrev pub ends_items : Ends → List Item
ends_items (Pair a b) = Blank ∷ species_items a ++ (Blank ∷ species_items b)
ends_items (One a) = Blank ∷ species_items a

-- a network with a context is of version 2
abbrev pub version : Option ℕ → ℕ
version None = 1
version (Some k) = 2

abbrev pub rails_word : Rails → List ℕ
rails_word Dual = codes "dual"
rails_word Direct = codes "direct"

abbrev pub context_lines : Option ℕ → List (List Item)
context_lines None = []
context_lines (Some k) = (word (codes "context") ∷ Blank ∷ species_items k) ∷ []

-- a word and a number
abbrev pub count_line : List ℕ → ℕ → List Item
count_line what n = word what ∷ Blank ∷ number n ∷ []

abbrev pub header_lines : Network → List (List Item)
header_lines net =
    (word (codes "crn") ∷ Blank ∷ number (version net.context) ∷ Blank ∷ word (rails_word net.rails) ∷ [])
    ∷ count_line (codes "species") net.species ∷ []

abbrev pub input_line : Ends → List Item
input_line e = word (codes "input") ∷ ends_items e

abbrev pub output_line : Ends → List Item
output_line e = word (codes "output") ∷ ends_items e

abbrev pub ends_lines : Network → List (List Item)
ends_lines net = map input_line net.inputs ++ (context_lines net.context ++ (output_line net.output ∷ []))

abbrev pub reaction_lines : Network → List (List Item)
reaction_lines net = count_line (codes "reactions") (length net.reactions) ∷ map reaction_items net.reactions

-- the lines of a network
abbrev pub network_lines : Network → List (List Item)
network_lines net = header_lines net ++ (ends_lines net ++ reaction_lines net)

-- the text of a network
abbrev pub network_text : Network → List ℕ
network_text net = printed (network_lines net)

-- ---- counts that a text can have
-- the count is at most the greatest number of a text
abbrev pub IsSmall : Part → Type 0
IsSmall p = p.count ≤ 9223372036854775807

abbrev pub IsSmallReaction : Reaction → Type 0
IsSmallReaction r = All IsSmall r.takes × All IsSmall r.gives

abbrev pub HasSmallCounts : Network → Type 0
HasSmallCounts net = All IsSmallReaction net.reactions
