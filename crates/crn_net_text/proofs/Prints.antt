-- What is printed of a network within the limits is lines of tokens, and reads as this network.
use Rattle.std.proofs.Common.{◌≡◌, ℕ, ◌+◌, ◌<◌, ◌≤◌, Bool, true, false, cond, ◌==◌, List, [], ◌∷◌, ◌++◌, length, map, Option, Some, None, refl, sym, ap, subst, arith, length-append}
use Rattle.std.proofs.lemmas.List.Elements.{All-head, All-tail}
use Rattle.std.specs.Prelude.{pos, codes, All, IsTrue}
use Rattle.crn_token.specs.declared.Sign.TheVariants.{Plus, Arrow}
use Rattle.crn_token.specs.Plain.{Plain, PlainWord, PlainNumber, PlainSign, plain_lines, line_number, end_of}
use Rattle.crn_token.specs.Printed.{Item, Shown, Blank, shown, IsToken, IsPrinted, ends_before, AreLines, lines_read}
use Rattle.crn_token.proofs.PrintedLaws.{text_reads, IsToken-number, AreLines-append}
use Rattle.crn_grammar.specs.Table.{IsText, IsAnswer, Read}
use Rattle.crn_net.specs.Network.{Part, Reaction, Network, AreParts, IsReaction, IsNetwork, IsEnds, AreEnds, IsContext}
use Rattle.crn_net.specs.Reactions.{EachReaction}
use Rattle.crn_net.specs.Limits.{IsValid}
use Rattle.crn_net.specs.declared.Rails.{Rails}
use Rattle.crn_net.specs.declared.Rails.TheVariants.{Dual, Direct}
use Rattle.crn_net.specs.declared.Ends.{Ends}
use Rattle.crn_net.specs.declared.Ends.TheVariants.{Pair, One}
use Rattle.crn_net.proofs.TakersTable.{each_reaction}
use Rattle.crn_net_text.specs.NetworkText.{symbol, species_items, part_items, side_items, gives_items, reaction_items, ends_items, rails_word, version, count_line, context_lines, input_line, output_line, header_lines, ends_lines, reaction_lines, network_lines, network_text, IsSmall, IsSmallReaction, HasSmallCounts}
use Rattle.crn_net_text.specs.Grammar.{Say, network_table}
use Rattle.crn_token.proofs.Joins.{shown-append}
use Rattle.crn_net_text.proofs.Spells.{text_is_grammar}
use Rattle.crn_net_text.proofs.Sizes.{small_text}

ends_more : (t : Plain) (xs ys : List Item) → IsTrue (ends_before t xs) → IsTrue (ends_before t (xs ++ Blank ∷ ys))
ends_more t [] ys is = refl
ends_more t (Blank ∷ xs) ys is = refl
ends_more t (Shown u ∷ xs) ys is = is

printed_blank : (xs ys : List Item) → IsPrinted xs → IsPrinted ys → IsPrinted (xs ++ Blank ∷ ys)
printed_blank [] ys p q = q
printed_blank (Blank ∷ xs) ys p q = printed_blank xs ys p q
printed_blank (Shown t ∷ xs) ys p q = (p.0, ends_more t xs ys p.1, printed_blank xs ys p.2 q)

species_printed : (a : ℕ) → a ≤ 9223372036854775807 → IsPrinted (species_items a)
species_printed a few = (refl, refl, (IsToken-number a few, refl, tt))

part_printed : (p : Part) → p.species ≤ 9223372036854775807 → p.count ≤ 9223372036854775807 → IsPrinted (part_items p)
part_printed p few_species few_count = go (p.count == 1)
  where
    go : (b : Bool) → IsPrinted (cond b (species_items p.species) (Shown (PlainNumber (pos p.count)) ∷ Blank ∷ species_items p.species))
    go true = species_printed p.species few_species
    go false = (IsToken-number p.count few_count, refl, species_printed p.species few_species)

-- ---- sides and reactions
side_printed : (low n : ℕ) (ps : List Part) → n ≤ 9223372036854775807 → AreParts low n ps → All IsSmall ps → IsPrinted (side_items ps)
side_printed low n [] few are small_counts = tt
side_printed low n (p ∷ []) few are small_counts = part_printed p (omega (arith, few, are.1)) (All-head IsSmall p [] small_counts)
side_printed low n (p ∷ q ∷ ps) few are small_counts =
    printed_blank (part_items p) (symbol Plus ∷ Blank ∷ side_items (q ∷ ps))
    (part_printed p (omega (arith, few, are.1)) (All-head IsSmall p (q ∷ ps) small_counts))
    (tt, refl, side_printed p.species n (q ∷ ps) few are.3 (All-tail IsSmall p (q ∷ ps) small_counts))

gives_printed : (n : ℕ) (ps : List Part) → n ≤ 9223372036854775807 → AreParts 0 n ps → All IsSmall ps → IsPrinted (gives_items ps)
gives_printed n [] few are small_counts = (IsToken-number 0 (omega arith), refl, tt)
gives_printed n (p ∷ ps) few are small_counts = side_printed 0 n (p ∷ ps) few are small_counts

reaction_printed : (n : ℕ) (r : Reaction) → n ≤ 9223372036854775807 → IsReaction n r → IsSmallReaction r → IsPrinted (reaction_items r)
reaction_printed n r few is small_counts =
    printed_blank (side_items r.takes) (symbol Arrow ∷ Blank ∷ gives_items r.gives)
    (side_printed 0 n r.takes few is.takes small_counts.0)
    (tt, refl, gives_printed n r.gives few is.gives small_counts.1)

reaction_says : (r : Reaction) → 0 < length (shown (reaction_items r))
reaction_says r =
    omega (
      arith,
      ap length (shown-append (side_items r.takes) (Blank ∷ symbol Arrow ∷ Blank ∷ gives_items r.gives)),
      length-append (shown (side_items r.takes)) (PlainSign Arrow ∷ shown (gives_items r.gives)),
    )

-- ---- lines

reactions_are : (n : ℕ) (rs : List Reaction) → n ≤ 9223372036854775807 → EachReaction n rs → All IsSmallReaction rs → AreLines (map reaction_items rs)
reactions_are n [] few each small_counts = tt
reactions_are n (r ∷ rs) few each small_counts = (
  reaction_printed n r few each.0 (All-head IsSmallReaction r rs small_counts),
  reaction_says r,
  reactions_are n rs few each.1 (All-tail IsSmallReaction r rs small_counts),
)

ends_printed : (rails : Rails) (n : ℕ) (e : Ends) → n ≤ 9223372036854775807 → IsEnds rails n e → IsPrinted (ends_items e)
ends_printed Dual n (One a) few is = absurd is
ends_printed Direct n (Pair a b) few is = absurd is
ends_printed Dual n (Pair a b) few is = (refl, refl, (IsToken-number a (omega (arith, few, is.1)), refl, species_printed b (omega (arith, few, is.3))))
ends_printed Direct n (One a) few is = species_printed a (omega (arith, few, is.1))

inputs_are : (rails : Rails) (n : ℕ) (es : List Ends) → n ≤ 9223372036854775807 → AreEnds rails n es → AreLines (map input_line es)
inputs_are rails n [] few are = tt
inputs_are rails n (e ∷ es) few are = ((refl, input_parts e, ends_printed rails n e few are.0), omega arith, inputs_are rails n es few are.1)
  where
    input_parts : (e : Ends) → IsTrue (ends_before (PlainWord (codes "input")) (ends_items e))
    input_parts (Pair a b) = refl
    input_parts (One a) = refl

output_is : (rails : Rails) (n : ℕ) (e : Ends) → n ≤ 9223372036854775807 → IsEnds rails n e → AreLines (output_line e ∷ [])
output_is rails n e few is = ((refl, output_parts e, ends_printed rails n e few is), omega arith, tt)
  where
    output_parts : (e : Ends) → IsTrue (ends_before (PlainWord (codes "output")) (ends_items e))
    output_parts (Pair a b) = refl
    output_parts (One a) = refl

context_is : (n : ℕ) (es : List Ends) (context : Option ℕ) → n ≤ 9223372036854775807 → IsContext n es context → AreLines (context_lines context)
context_is n es None few is = tt
context_is n es (Some k) few is = ((refl, refl, species_printed k (omega (arith, few, is.1))), omega arith, tt)

-- a word and a number
count_is : (w : List ℕ) (n : ℕ) → IsToken (PlainWord w) → n ≤ 9223372036854775807 → IsPrinted (count_line w n)
count_is w n is few = (is, refl, (IsToken-number n few, refl, tt))

header_are : (net : Network) → net.species ≤ 9223372036854775807 → AreLines (header_lines net)
header_are net few = (title net.rails net.context, omega arith, (count_is (codes "species") net.species refl few, omega arith, tt))
  where
    title : (rails : Rails) (context : Option ℕ) → IsPrinted (Shown (PlainWord (codes "crn")) ∷ Blank ∷ Shown (PlainNumber (pos (version context))) ∷ Blank ∷ Shown (PlainWord (rails_word rails)) ∷ [])
    title Dual None = (refl, refl, (IsToken-number 1 (omega arith), refl, (refl, refl, tt)))
    title Direct None = (refl, refl, (IsToken-number 1 (omega arith), refl, (refl, refl, tt)))
    title Dual (Some k) = (refl, refl, (IsToken-number 2 (omega arith), refl, (refl, refl, tt)))
    title Direct (Some k) = (refl, refl, (IsToken-number 2 (omega arith), refl, (refl, refl, tt)))

pub network_are : (net : Network) → IsValid net → HasSmallCounts net → AreLines (network_lines net)
network_are net valid small_counts =
    let is = valid.network in
    let species : net.species ≤ 9223372036854775807 = omega (arith, valid.limits.few_species) in
    AreLines-append (header_lines net) (ends_lines net ++ reaction_lines net) (header_are net species)
    (AreLines-append (ends_lines net) (reaction_lines net)
    (AreLines-append (map input_line net.inputs) (context_lines net.context ++ (output_line net.output ∷ [])) (inputs_are net.rails net.species net.inputs species is.inputs)
    (AreLines-append (context_lines net.context) (output_line net.output ∷ []) (context_is net.species net.inputs net.context species is.context) (output_is net.rails net.species net.output species is.output)))
    (count_is (codes "reactions") (length net.reactions) refl (omega (arith, valid.limits.few_reactions)), omega arith, reactions_are net.species net.reactions species (each_reaction net is.reactions) small_counts))

-- ---- the lines as they are read
say_read : (number : ℕ) (texts : List (List Item)) → Say (lines_read number texts) texts
say_read number [] = tt
say_read number (items ∷ more) = (refl, refl, say_read (number + 1) more)

pub printed_is_text : (net : Network) → IsNetwork net → 0 < length net.inputs → AreLines (network_lines net) → IsText network_table (plain_lines (network_text net)) net
printed_is_text net is some fine =
    subst (λ lines. IsText network_table lines net) (sym (text_reads (network_lines net) fine).1)
    (text_is_grammar (lines_read 1 (network_lines net)) net (record { network = is; some_input = some; say = say_read 1 (network_lines net) }))

-- ---- networks within the limits
pub lines_are : (net : Network) → IsValid net → HasSmallCounts net → plain_lines (network_text net) ≡ lines_read 1 (network_lines net)
lines_are net valid small_counts = (text_reads (network_lines net) (network_are net valid small_counts)).1

pub answer_is_network : (net : Network) → IsValid net → HasSmallCounts net → IsAnswer network_table line_number (end_of (network_text net)) (plain_lines (network_text net)) (Read net)
answer_is_network net valid small_counts =
    let text = printed_is_text net valid.network (omega (arith, valid.limits.some_input)) (network_are net valid small_counts) in
    (text, small_text (plain_lines (network_text net)) net text valid.limits)
