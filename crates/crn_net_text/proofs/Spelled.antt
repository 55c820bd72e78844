-- Each text of the grammar is the printed lines of its network.
use Rattle.std.proofs.Common.{◌≡◌, ℕ, zero, suc, ◌+◌, Bool, true, false, cond, ◌&&◌, ◌==◌, List, [], ◌∷◌, ◌++◌, length, drop, map, Option, Some, None, refl, sym, ap, ap₂, ◌∙◌, subst, arith, eqb-true, ne_eqb, drop-drop, append_assoc, append-nil, length-append}
use Rattle.std.proofs.lemmas.Bool.{ltb-true}
use Rattle.std.proofs.lemmas.List.{map-append}
use Rattle.std.proofs.lemmas.Slice.Eq.{bytes_eq-Decides}
use Rattle.std.specs.Prelude.{pos, codes, nat_lt, nat_le}
use Rattle.std.specs.Option.{option_map, option_and_then}
use Rattle.std.proofs.lemmas.Option.{same_Some}
use Rattle.crn_token.specs.declared.Sign.TheVariants.{Plus, Arrow}
use Rattle.crn_token.specs.Plain.{Plain, PlainLine, PlainWord, PlainNumber, PlainSign}
use Rattle.crn_token.specs.Printed.{Item, Blank, shown}
use Rattle.crn_grammar.specs.Table.{IsText, after}
use Rattle.crn_token.specs.Words.{rest_of, says, begins, number_at}
use Rattle.crn_net.specs.Network.{Part, Reaction, Network}
use Rattle.crn_net.specs.declared.Rails.{Rails}
use Rattle.crn_net.specs.declared.Rails.TheVariants.{Dual, Direct}
use Rattle.crn_net.specs.declared.Ends.{Ends}
use Rattle.crn_net.specs.declared.Ends.TheVariants.{Pair, One}
use Rattle.crn_net_text.specs.NetworkText.{word, number, symbol, rails_word, side_items, gives_items, reaction_items, ends_items, count_line, input_line, context_lines, output_line, header_lines, ends_lines, network_lines}
use Rattle.crn_net_text.specs.Grammar.{Say, IsNetworkText, Place, Start, Titled, Naming, Placed, Closed, Listing, least, frame, with_reaction, number_of, is_plus, is_arrow, is_nothing, within, species_at, many, part_by, part_at, side_at, side_of, gives_of, reaction_with, reaction_of, one_of, pair_with, ends_of, is_named, is_new, leaves_one, rails_of, version_of, title_with, title, sized, size, with_input, with_context, with_output, after_inputs, naming, count, listing, follow, whole, network_table}
use Rattle.crn_net_text.specs.Reading.{IsFine}
use Rattle.crn_net_text.proofs.Found.{within_found, next_side}
use Rattle.crn_token.proofs.Options.{then_found, map_found, if_found, else_found}
use Rattle.crn_net_text.proofs.Kept.{leads}
use Rattle.crn_net_text.proofs.Readers.{none_read}
use Rattle.crn_token.proofs.Joins.{shown-append}
use Rattle.crn_net_text.proofs.Spells.{species_tokens, part_tokens, size_of, part_left, side_tokens, side_size, side_shown, side_long, side_left}

-- ---- the first tokens
word_found : (w : List ℕ) (ts : List Plain) → begins w ts ≡ true → ts ≡ PlainWord w ∷ rest_of ts
word_found w [] is = let wrong : false ≡ true = is in cc
word_found w (PlainWord letters ∷ ts) is = ap (λ l. PlainWord l ∷ ts) ((bytes_eq-Decides letters w).0 is)
word_found w (PlainNumber n ∷ ts) is = let wrong : false ≡ true = is in cc
word_found w (PlainSign sign ∷ ts) is = let wrong : false ≡ true = is in cc

number_found : (ts : List Plain) (n : ℕ) → number_at ts ≡ Some n → ts ≡ PlainNumber (pos n) ∷ rest_of ts
number_found (PlainNumber (pos m) ∷ ts) n is = ap (λ k. PlainNumber (pos k) ∷ ts) (same_Some m n is)
number_found ts n is = let wrong : None ≡ Some n = is in cc

number_alone : (ts : List Plain) (n : ℕ) → number_of ts ≡ Some n → ts ≡ PlainNumber (pos n) ∷ []
number_alone (PlainNumber (pos m) ∷ []) n is = ap (λ k. PlainNumber (pos k) ∷ []) (same_Some m n is)
number_alone ts n is = let wrong : None ≡ Some n = is in cc

plus_found : (ts : List Plain) → is_plus ts ≡ true → ts ≡ PlainSign Plus ∷ rest_of ts
plus_found (PlainSign Plus ∷ ts) is = refl
plus_found ts is = let wrong : false ≡ true = is in cc

arrow_found : (ts : List Plain) → is_arrow ts ≡ true → ts ≡ PlainSign Arrow ∷ rest_of ts
arrow_found (PlainSign Arrow ∷ ts) is = refl
arrow_found ts is = let wrong : false ≡ true = is in cc

nothing_found : (ts : List Plain) → is_nothing ts ≡ true → ts ≡ PlainNumber (pos 0) ∷ []
nothing_found (PlainNumber (pos zero) ∷ []) is = refl
nothing_found ts is = let wrong : false ≡ true = is in cc

none_more : (n : ℕ) (more : List Plain) → n + length more ≡ n → more ≡ []
none_more n [] is = refl
none_more n (t ∷ ts) is = absurd (omega (arith, is))

-- ---- parts and sides
pub species_spelled : (low n a : ℕ) (ts : List Plain) → species_at low n ts ≡ Some a → (more : List Plain) × (ts ≡ species_tokens a more)
species_spelled low n a ts is =
    let (test, rest) = if_found (begins (codes "S") ts) (option_and_then (within low n) (number_at (rest_of ts))) a is in
    let (m, here, fits) = then_found (within low n) (number_at (rest_of ts)) a rest in
    let (above, below, same) = within_found low n m a fits in (
      rest_of (rest_of ts),
      word_found (codes "S") ts test ∙ ap (λ us. PlainWord (codes "S") ∷ us) (number_found (rest_of ts) m here) ∙ ap (λ k. species_tokens k (rest_of (rest_of ts))) same,
    )

-- a part begins the tokens
record Parted (ts : List Plain) (p : Part) (k : ℕ) : Type 0 where
  pub more : List Plain
  pub tokens : ts ≡ part_tokens p more
  pub size : k ≡ size_of p

parted_by : (low n : ℕ) (ts : List Plain) (o : Option ℕ) (p : Part) (k : ℕ) → number_at ts ≡ o → part_by low n ts o ≡ Some (p, k) → Parted ts p k
parted_by low n ts None p k e is =
    let (a, here, same) = map_found {A = ℕ} {B = Part × ℕ} (λ b. (many 1 b, 2)) (species_at low n ts) (p, k) is in
    let (more, tokens) = species_spelled low n a ts here in
    subst (λ (q : Part × ℕ). Parted ts q.0 q.1) same (record { more = more; tokens = tokens; size = refl })
parted_by low n ts (Some c) p k e is =
    let (test, rest) = if_found (nat_lt 1 c) (option_map (λ b. (many c b, 3)) (species_at low n (rest_of ts))) (p, k) is in
    let (a, here, same) = map_found {A = ℕ} {B = Part × ℕ} (λ b. (many c b, 3)) (species_at low n (rest_of ts)) (p, k) rest in
    let (more, tokens) = species_spelled low n a (rest_of ts) here in
    let some = ltb-true 1 c test in
    let other : c == 1 ≡ false = ne_eqb c 1 (omega (arith, some)) in
    subst (λ (q : Part × ℕ). Parted ts q.0 q.1) same (record {
      more = more;
      tokens = number_found ts c e ∙ ap (λ us. PlainNumber (pos c) ∷ us) tokens ∙ ap (λ b. cond b (species_tokens a more) (PlainNumber (pos c) ∷ species_tokens a more)) (sym other);
      size = ap (λ b. cond b 2 3) (sym other);
    })

part_spelled : (low n : ℕ) (ts : List Plain) (p : Part) (k : ℕ) → part_at low n ts ≡ Some (p, k) → Parted ts p k
part_spelled low n ts p k is = parted_by low n ts (number_at ts) p k refl is

-- what follows the part
after_part : (ts : List Plain) (p : Part) (k : ℕ) (part : Parted ts p k) → drop k ts ≡ part.more
after_part ts p k part = ap₂ drop part.size part.tokens ∙ part_left p part.more

-- a side begins the tokens
record Sided (ts : List Plain) (ps : List Part) (k : ℕ) : Type 0 where
  pub first : Part
  pub others : List Part
  pub more : List Plain
  pub parts : ps ≡ first ∷ others
  pub tokens : ts ≡ side_tokens first others more
  pub size : k ≡ side_size first others

-- a part, `+`, and a side
side_more : (ts us : List Plain) (p q : Part) (qs : List Part) (k : ℕ) (part : Parted ts p k) → is_plus (drop k ts) ≡ true → drop (k + 1) ts ≡ side_tokens q qs us → ts ≡ side_tokens p (q ∷ qs) us
side_more ts us p q qs k part plus more =
    let left = after_part ts p k part in
    let sign : part.more ≡ PlainSign Plus ∷ rest_of part.more = plus_found part.more (ap is_plus (sym left) ∙ plus) in
    let rest : rest_of part.more ≡ side_tokens q qs us = sym (ap (drop 1) (left ∙ sign)) ∙ drop-drop 1 k ts ∙ more in
    part.tokens ∙ ap (part_tokens p) (sign ∙ ap (λ l. PlainSign Plus ∷ l) rest)

side_spelled : (k low n : ℕ) (ts : List Plain) (ps : List Part) (m : ℕ) → side_at k low n ts ≡ Some (ps, m) → Sided ts ps m
side_spelled zero low n ts ps m is = let wrong : ◌≡◌ {A = Option (List Part × ℕ)} None (Some (ps, m)) = is in cc
side_spelled (suc k) low n ts ps m is =
    let (p, here, rest) = then_found (next_side k n ts) (part_at low n ts) (ps, m) is in
    go (λ low us qs j there. side_spelled k low n us qs j there) p (part_spelled low n ts p.0 p.1 here) (is_plus (drop p.1 ts)) refl rest
  where
    go : ((low : ℕ) (us : List Plain) (qs : List Part) (j : ℕ) → side_at k low n us ≡ Some (qs, j) → Sided us qs j) → (p : Part × ℕ) → Parted ts p.0 p.1 → (b : Bool) → is_plus (drop p.1 ts) ≡ b
        → cond b (option_map {U = List Part × ℕ} (λ q. (p.0 ∷ q.0, p.1 + 1 + q.1)) (side_at k p.0.species n (drop (p.1 + 1) ts))) (Some (p.0 ∷ [], p.1)) ≡ Some (ps, m) → Sided ts ps m
    go again p part false stop is =
        let same = same_Some (p.0 ∷ [], p.1) (ps, m) is in
        record { first = p.0; others = []; more = part.more; parts = sym (ap (λ q. q.0) same); tokens = part.tokens; size = sym (ap (λ q. q.1) same) ∙ part.size }
    go again p part true plus is =
        let (q, here, whole) = map_found {A = List Part × ℕ} {B = List Part × ℕ} (λ q. (p.0 ∷ q.0, p.1 + 1 + q.1)) (side_at k p.0.species n (drop (p.1 + 1) ts)) (ps, m) is in
        let side = again p.0.species (drop (p.1 + 1) ts) q.0 q.1 here in
        record {
          first = p.0;
          others = side.first ∷ side.others;
          more = side.more;
          parts = sym (ap (λ r. r.0) whole) ∙ ap (λ l. p.0 ∷ l) side.parts;
          tokens = side_more ts side.more p.0 side.first side.others p.1 part plus side.tokens;
          size = sym (ap (λ r. r.1) whole) ∙ ap₂ (λ i j. i + 1 + j) part.size side.size;
        }

-- ---- reactions
side_alone : (n : ℕ) (ts : List Plain) (ps : List Part) → side_of n ts ≡ Some ps → ts ≡ shown (gives_items ps)
side_alone n ts ps is =
    let (q, here, rest) = then_found (λ q. cond (q.1 == length ts) (Some q.0) None) (side_at (length ts) 0 n ts) ps is in
    let (test, same) = if_found (q.1 == length ts) (Some q.0) ps rest in
    let side = side_spelled (length ts) 0 n ts q.0 q.1 here in
    let all : q.1 ≡ length ts = eqb-true q.1 (length ts) test in
    let none : side.more ≡ [] = none_more (side_size side.first side.others) side.more (sym (side_long side.first side.others side.more) ∙ ap length (sym side.tokens) ∙ sym all ∙ side.size) in
    let is_side : ps ≡ side.first ∷ side.others = sym (same_Some q.0 ps same) ∙ side.parts in
    side.tokens ∙ ap (side_tokens side.first side.others) none ∙ sym (side_shown side.first side.others []) ∙ append-nil (shown (side_items (side.first ∷ side.others)))
    ∙ ap (λ l. shown (gives_items l)) (sym is_side)

gives_spelled : (n : ℕ) (ts : List Plain) (ps : List Part) → gives_of n ts ≡ Some ps → ts ≡ shown (gives_items ps)
gives_spelled n ts ps is = go (is_nothing ts) refl is
  where
    go : (b : Bool) → is_nothing ts ≡ b → cond b (Some []) (side_of n ts) ≡ Some ps → ts ≡ shown (gives_items ps)
    go true none there = nothing_found ts none ∙ ap (λ l. shown (gives_items l)) (same_Some [] ps there)
    go false some there = side_alone n ts ps there

reaction_spelled : (n : ℕ) (ts : List Plain) (r : Reaction) → reaction_of n ts ≡ Some r → ts ≡ shown (reaction_items r)
reaction_spelled n ts r is =
    let (q, here, rest) = then_found (λ q. reaction_with n q.0 (drop q.1 ts)) (side_at (length ts) 0 n ts) r is in
    let (test, given) = if_found (is_arrow (drop q.1 ts)) (option_map (λ gives. record { takes = q.0; gives = gives }) (gives_of n (rest_of (drop q.1 ts)))) r rest in
    let (gives, there, whole) = map_found (λ gives. record { takes = q.0; gives = gives }) (gives_of n (rest_of (drop q.1 ts))) r given in
    let side = side_spelled (length ts) 0 n ts q.0 q.1 here in
    let left : drop q.1 ts ≡ side.more = ap₂ drop side.size side.tokens ∙ side_left side.first side.others side.more in
    let arrow : drop q.1 ts ≡ PlainSign Arrow ∷ shown (gives_items gives) = arrow_found (drop q.1 ts) test ∙ ap (λ us. PlainSign Arrow ∷ us) (gives_spelled n (rest_of (drop q.1 ts)) gives there) in
    side.tokens ∙ ap (side_tokens side.first side.others) (sym left ∙ arrow)
    ∙ sym (side_shown side.first side.others (PlainSign Arrow ∷ shown (gives_items gives)))
    ∙ ap (λ l. shown (side_items l) ++ (PlainSign Arrow ∷ shown (gives_items gives))) (sym side.parts)
    ∙ sym (shown-append (side_items q.0) (Blank ∷ symbol Arrow ∷ Blank ∷ gives_items gives))
    ∙ ap (λ x. shown (reaction_items x)) whole

-- ---- inputs and outputs
one_spelled : (n a : ℕ) (ts : List Plain) → one_of n ts ≡ Some a → ts ≡ species_tokens a []
one_spelled n a ts is =
    let (test, here) = if_found (length ts == 2) (species_at 0 n ts) a is in
    let (more, tokens) = species_spelled 0 n a ts here in
    let two : length ts ≡ 2 = eqb-true (length ts) 2 test in
    let none : more ≡ [] = none_more 2 more (omega (arith, ap length tokens, two)) in
    tokens ∙ ap (species_tokens a) none

ends_spelled : (rails : Rails) (n : ℕ) (ts : List Plain) (e : Ends) → ends_of rails n ts ≡ Some e → ts ≡ shown (ends_items e)
ends_spelled Direct n ts e is =
    let (a, here, same) = map_found (λ a. One a) (one_of n ts) e is in
    one_spelled n a ts here ∙ ap (λ x. shown (ends_items x)) same
ends_spelled Dual n ts e is =
    let (a, here, rest) = then_found (λ a. pair_with n a (drop 2 ts)) (species_at 0 n ts) e is in
    let (b, there, more) = then_found (λ b. cond (a == b) None (Some (Pair a b))) (one_of n (drop 2 ts)) e rest in
    let (test, same) = else_found (a == b) (Some (Pair a b)) e more in
    let (us, tokens) = species_spelled 0 n a ts here in
    let left : us ≡ species_tokens b [] = ap (drop 2) (sym tokens) ∙ one_spelled n b (drop 2 ts) there in
    tokens ∙ ap (species_tokens a) left ∙ ap (λ x. shown (ends_items x)) (same_Some (Pair a b) e same)

-- ---- what was printed up to a place
abbrev title_line : Rails → Bool → List Item
title_line rails two = word (codes "crn") ∷ Blank ∷ number (cond two 2 1) ∷ Blank ∷ word (rails_word rails) ∷ []

abbrev named_lines : Rails → Bool → ℕ → List Ends → List (List Item)
named_lines rails two n inputs = title_line rails two ∷ count_line (codes "species") n ∷ map input_line inputs

abbrev pub place_lines : Place → List (List Item)
place_lines Start = []
place_lines (Titled rails two) = title_line rails two ∷ []
place_lines (Naming rails two n inputs) = named_lines rails two n inputs
place_lines (Placed rails n inputs k) = named_lines rails true n inputs ++ context_lines (Some k)
place_lines (Closed net) = header_lines net ++ ends_lines net
place_lines (Listing m net) = header_lines net ++ (ends_lines net ++ (count_line (codes "reactions") (length net.reactions + m) ∷ map reaction_items net.reactions))

-- the tokens are the line that the place has more
abbrev Adds : Place → List Plain → Place → Type 0
Adds s ts t = (items : List Item) × (ts ≡ shown items) × (place_lines t ≡ place_lines s ++ items ∷ [])

-- ---- one line more
rails_found : (ts : List Plain) (r : Rails) → rails_of ts ≡ Some r → ts ≡ PlainWord (rails_word r) ∷ []
rails_found ts r is =
    let (test, rest) = if_found (length ts == 1) (cond (begins (codes "dual") ts) (Some Dual) (cond (begins (codes "direct") ts) (Some Direct) None)) r is in
    go (eqb-true (length ts) 1 test) (begins (codes "dual") ts) refl rest
  where
    alone : (w : List ℕ) → length ts ≡ 1 → begins w ts ≡ true → ts ≡ PlainWord w ∷ []
    alone w one begin =
        let first = word_found w ts begin in
        first ∙ ap (λ us. PlainWord w ∷ us) (none_more 1 (rest_of ts) (omega (arith, ap length first, one)))

    go : length ts ≡ 1 → (b : Bool) → begins (codes "dual") ts ≡ b → cond b (Some Dual) (cond (begins (codes "direct") ts) (Some Direct) None) ≡ Some r → ts ≡ PlainWord (rails_word r) ∷ []
    go one true begin there = alone (codes "dual") one begin ∙ ap (λ x. PlainWord (rails_word x) ∷ []) (same_Some Dual r there)
    go one false begin there =
        let (test, same) = if_found (begins (codes "direct") ts) (Some Direct) r there in
        alone (codes "direct") one test ∙ ap (λ x. PlainWord (rails_word x) ∷ []) (same_Some Direct r same)

version_found : (n : ℕ) (two : Bool) → version_of n ≡ Some two → n ≡ cond two 2 1
version_found n two is = go (n == 1) refl is
  where
    go : (b : Bool) → n == 1 ≡ b → cond b (Some false) (cond (n == 2) (Some true) None) ≡ Some two → n ≡ cond two 2 1
    go true e there = eqb-true n 1 e ∙ ap (λ t. cond t 2 1) (same_Some false two there)
    go false e there =
        let (test, same) = if_found (n == 2) (Some true) two there in
        eqb-true n 2 test ∙ ap (λ t. cond t 2 1) (same_Some true two same)

adds_title : (ts : List Plain) (t : Place) → title ts ≡ Some t → Adds Start ts t
adds_title ts t is =
    let (test, rest) = if_found (begins (codes "crn") ts) (title_with (rest_of ts)) t is in
    let (n, here, more) = then_found (λ n. option_and_then (λ two. option_map (λ r. Titled r two) (rails_of (rest_of (rest_of ts)))) (version_of n)) (number_at (rest_of ts)) t rest in
    let (two, version, last) = then_found (λ two. option_map (λ r. Titled r two) (rails_of (rest_of (rest_of ts)))) (version_of n) t more in
    let (r, rails, same) = map_found (λ r. Titled r two) (rails_of (rest_of (rest_of ts))) t last in
    subst (Adds Start ts) same (
      title_line r two,
      word_found (codes "crn") ts test
          ∙ ap (λ us. PlainWord (codes "crn") ∷ us)
          (number_found (rest_of ts) n here ∙ ap₂ (λ k us. PlainNumber (pos k) ∷ us) (version_found n two version) (rails_found (rest_of (rest_of ts)) r rails)),
      refl,
    )

adds_size : (rails : Rails) (two : Bool) (ts : List Plain) (t : Place) → size rails two ts ≡ Some t → Adds (Titled rails two) ts t
adds_size rails two ts t is =
    let (test, rest) = if_found (begins (codes "species") ts) (option_and_then (sized rails two) (number_of (rest_of ts))) t is in
    let (n, here, more) = then_found (sized rails two) (number_of (rest_of ts)) t rest in
    let (enough, same) = if_found (nat_le (least rails two) n) (Some (Naming rails two n [])) t more in
    subst (Adds (Titled rails two) ts) (same_Some (Naming rails two n []) t same) (
      count_line (codes "species") n,
      word_found (codes "species") ts test ∙ ap (λ us. PlainWord (codes "species") ∷ us) (number_alone (rest_of ts) n here),
      refl,
    )

-- an output after these lines
adds_output : (s : Place) (rails : Rails) (n : ℕ) (inputs : List Ends) (context : Option ℕ) (ts : List Plain) (t : Place)
    → ((e : Ends) → place_lines (Closed (frame rails n inputs context e)) ≡ place_lines s ++ output_line e ∷ [])
    → with_output rails n inputs context ts ≡ Some t → Adds s ts t
adds_output s rails n inputs context ts t lines is =
    let (test, rest) = if_found (begins (codes "output") ts) (option_map (λ e. Closed (frame rails n inputs context e)) (ends_of rails n (rest_of ts))) t is in
    let (e, here, same) = map_found (λ e. Closed (frame rails n inputs context e)) (ends_of rails n (rest_of ts)) t rest in
    subst (Adds s ts) same (
      output_line e,
      word_found (codes "output") ts test ∙ ap (λ us. PlainWord (codes "output") ∷ us) (ends_spelled rails n (rest_of ts) e here),
      lines e,
    )

adds_input : (rails : Rails) (two : Bool) (n : ℕ) (inputs : List Ends) (ts : List Plain) (t : Place) → begins (codes "input") ts ≡ true
    → option_and_then (with_input rails two n inputs) (ends_of rails n (rest_of ts)) ≡ Some t → Adds (Naming rails two n inputs) ts t
adds_input rails two n inputs ts t begin is =
    let (e, here, rest) = then_found (with_input rails two n inputs) (ends_of rails n (rest_of ts)) t is in
    let (test, same) = if_found (is_new inputs e && leaves_one two n (inputs ++ e ∷ [])) (Some (Naming rails two n (inputs ++ e ∷ []))) t rest in
    subst (Adds (Naming rails two n inputs) ts) (same_Some (Naming rails two n (inputs ++ e ∷ [])) t same) (
      input_line e,
      word_found (codes "input") ts begin ∙ ap (λ us. PlainWord (codes "input") ∷ us) (ends_spelled rails n (rest_of ts) e here),
      ap (λ l. title_line rails two ∷ count_line (codes "species") n ∷ l) (map-append input_line inputs (e ∷ [])),
    )

adds_later : (rails : Rails) (two : Bool) (n : ℕ) (inputs : List Ends) (ts : List Plain) (t : Place) → after_inputs rails two n inputs ts ≡ Some t → Adds (Naming rails two n inputs) ts t
adds_later rails false n inputs ts t is = adds_output (Naming rails false n inputs) rails n inputs None ts t (λ e. refl) is
adds_later rails true n inputs ts t is =
    let (test, rest) = if_found (begins (codes "context") ts) (option_and_then (with_context rails n inputs) (one_of n (rest_of ts))) t is in
    let (k, here, more) = then_found (with_context rails n inputs) (one_of n (rest_of ts)) t rest in
    let (free, same) = else_found (is_named inputs k) (Some (Placed rails n inputs k)) t more in
    subst (Adds (Naming rails true n inputs) ts) (same_Some (Placed rails n inputs k) t same) (
      word (codes "context") ∷ Blank ∷ word (codes "S") ∷ number k ∷ [],
      word_found (codes "context") ts test ∙ ap (λ us. PlainWord (codes "context") ∷ us) (one_spelled n k (rest_of ts) here),
      refl,
    )

adds_named : (rails : Rails) (two : Bool) (n : ℕ) (inputs : List Ends) (ts : List Plain) (t : Place) → naming rails two n inputs ts ≡ Some t → Adds (Naming rails two n inputs) ts t
adds_named rails two n inputs ts t is = go (begins (codes "input") ts) refl is
  where
    go : (b : Bool) → begins (codes "input") ts ≡ b → cond b (option_and_then (with_input rails two n inputs) (ends_of rails n (rest_of ts))) (cond (length inputs == 0) None (after_inputs rails two n inputs ts)) ≡ Some t
        → Adds (Naming rails two n inputs) ts t
    go true begin there = adds_input rails two n inputs ts t begin there
    go false begin there = let (test, rest) = else_found (length inputs == 0) (after_inputs rails two n inputs ts) t there in adds_later rails two n inputs ts t rest

adds_count : (net : Network) (ts : List Plain) (t : Place) → net.reactions ≡ [] → count net ts ≡ Some t → Adds (Closed net) ts t
adds_count net ts t none is =
    let (test, rest) = if_found (begins (codes "reactions") ts) (option_map (λ m. Listing m net) (number_of (rest_of ts))) t is in
    let (m, here, same) = map_found (λ m. Listing m net) (number_of (rest_of ts)) t rest in
    subst (Adds (Closed net) ts) same (
      count_line (codes "reactions") m,
      word_found (codes "reactions") ts test ∙ ap (λ us. PlainWord (codes "reactions") ∷ us) (number_alone (rest_of ts) m here),
      ap₂ (λ k rs. header_lines net ++ (ends_lines net ++ (count_line (codes "reactions") k ∷ map reaction_items rs))) (none_read m net none) none
          ∙ sym (append_assoc (header_lines net) (ends_lines net) (count_line (codes "reactions") m ∷ [])),
    )

adds_reaction : (m : ℕ) (net : Network) (ts : List Plain) (t : Place) → listing m net ts ≡ Some t → Adds (Listing m net) ts t
adds_reaction zero net ts t is = let wrong : None ≡ Some t = is in cc
adds_reaction (suc m) net ts t is =
    let (r, here, same) = map_found (λ r. Listing m (with_reaction net r)) (reaction_of net.species ts) t is in
    let counted : length (net.reactions ++ r ∷ []) + m ≡ length net.reactions + suc m = omega (arith, length-append net.reactions (r ∷ [])) in
    let so_far = count_line (codes "reactions") (length net.reactions + suc m) ∷ map reaction_items net.reactions in
    subst (Adds (Listing (suc m) net) ts) same (
      reaction_items r,
      reaction_spelled net.species ts r here,
      ap₂ (λ k l. header_lines net ++ (ends_lines net ++ (count_line (codes "reactions") k ∷ l))) counted (map-append reaction_items net.reactions (r ∷ []))
          ∙ ap (λ l. header_lines net ++ l) (sym (append_assoc (ends_lines net) so_far (reaction_items r ∷ [])))
          ∙ sym (append_assoc (header_lines net) (ends_lines net ++ so_far) (reaction_items r ∷ [])),
    )

adds : (s t : Place) (ts : List Plain) → IsFine s → follow s ts ≡ Some t → Adds s ts t
adds Start t ts fine is = adds_title ts t is
adds (Titled rails two) t ts fine is = adds_size rails two ts t is
adds (Naming rails two n inputs) t ts fine is = adds_named rails two n inputs ts t is
adds (Placed rails n inputs k) t ts fine is =
    adds_output (Placed rails n inputs k) rails n inputs (Some k) ts t
    (λ e. ap (λ l. title_line rails true ∷ count_line (codes "species") n ∷ l) (sym (append_assoc (map input_line inputs) (context_lines (Some k)) (output_line e ∷ [])))) is
adds (Closed net) t ts fine is = adds_count net ts t fine.1 is
adds (Listing m net) t ts fine is = adds_reaction m net ts t is

-- a line without tokens follows nowhere
not_empty : (s t : Place) → follow s [] ≡ Some t → ⊥
not_empty Start t is = let wrong : None ≡ Some t = is in cc
not_empty (Titled rails two) t is = let wrong : None ≡ Some t = is in cc
not_empty (Naming rails false n inputs) t is = let (test, rest) = else_found {A = Place} (length inputs == 0) None t is in let wrong : None ≡ Some t = rest in cc
not_empty (Naming rails true n inputs) t is = let (test, rest) = else_found {A = Place} (length inputs == 0) None t is in let wrong : None ≡ Some t = rest in cc
not_empty (Placed rails n inputs k) t is = let wrong : None ≡ Some t = is in cc
not_empty (Closed net) t is = let wrong : None ≡ Some t = is in cc
not_empty (Listing zero net) t is = let wrong : None ≡ Some t = is in cc
not_empty (Listing (suc m) net) t is = let wrong : None ≡ Some t = is in cc

said_well : (s t : Place) (line : PlainLine) → follow s (says line) ≡ Some t → (line.bad ≡ false) × (line.tokens ≡ says line)
said_well s t line is = go line.bad refl is
  where
    go : (b : Bool) → line.bad ≡ b → follow s (cond b [] line.tokens) ≡ Some t → (line.bad ≡ false) × (line.tokens ≡ says line)
    go true e there = absurd (not_empty s t there)
    go false e there = (e, ap (λ b. cond b [] line.tokens) (sym e))

-- ---- lines in turn
-- the lines say what the place has more
abbrev Written : Place → List PlainLine → Place → Type 0
Written s lines t = (texts : List (List Item)) × Say lines texts × (place_lines t ≡ place_lines s ++ texts) × IsFine t

lines_written : (s t : Place) (lines : List PlainLine) → IsFine s → after network_table s lines ≡ Some t → Written s lines t
lines_written s t [] fine there =
    let same : s ≡ t = same_Some s t there in
    subst (Written s []) same ([], tt, sym (append-nil (place_lines s)), fine)
lines_written s t (line ∷ lines) fine there =
    let (u, here, rest) = then_found (λ v. after network_table v lines) (follow s (says line)) t there in
    let (items, tokens, more) = adds s u (says line) fine here in
    let (good, said) = said_well s u line here in
    let (texts, say, last, end) = lines_written u t lines (leads s u (says line) fine here).0 rest in (
      items ∷ texts,
      (good, said ∙ tokens, say),
      last ∙ ap (λ l. l ++ texts) more ∙ append_assoc (place_lines s) (items ∷ []) texts,
      end,
    )

pub whole_at : (s : Place) (net : Network) → whole s ≡ Some net → s ≡ Listing 0 net
whole_at (Listing zero found) net is = ap (λ x. Listing 0 x) (same_Some found net is)
whole_at s net is = let wrong : None ≡ Some net = is in cc

pub text_is_printed : (lines : List PlainLine) (net : Network) → IsText network_table lines net → IsNetworkText lines net
text_is_printed lines net (s, there, whole) =
    let led : after network_table Start lines ≡ Some (Listing 0 net) = there ∙ ap (λ u. Some u) (whole_at s net whole) in
    let (texts, say, last, framed) = lines_written Start (Listing 0 net) lines tt led in
    let none : length net.reactions + 0 ≡ length net.reactions = omega arith in
    let all : texts ≡ network_lines net = sym last ∙ ap (λ k. header_lines net ++ (ends_lines net ++ (count_line (codes "reactions") k ∷ map reaction_items net.reactions))) none in
    record { network = framed.network; some_input = framed.some_input; say = subst (Say lines) all say }
