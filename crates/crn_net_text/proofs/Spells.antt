-- A text of the grammar is read: its lines lead on, one after another, to its network.
use Rattle.std.proofs.Common.{◌≡◌, ◌≢◌, ℕ, zero, suc, ◌+◌, ◌<◌, ◌≤◌, Bool, true, false, cond, ◌&&◌, ◌||◌, ◌==◌, List, [], ◌∷◌, ◌++◌, length, drop, map, Option, Some, None, refl, sym, ap, ap₂, ◌∙◌, subst, arith, le-leb, lt-ltb, ne_eqb, eq-eqb, eqb-true, false-eqb, drop-drop, append_assoc, append-nil}
use Rattle.std.specs.Prelude.{pos, codes, nat_lt, nat_le, not}
use Rattle.std.specs.Option.{option_map, option_and_then}
use Rattle.crn_token.specs.declared.Sign.TheVariants.{Plus, Arrow}
use Rattle.crn_token.specs.Plain.{Plain, PlainLine, PlainWord, PlainNumber, PlainSign}
use Rattle.crn_token.specs.Printed.{Item, Shown, Blank, shown}
use Rattle.crn_token.proofs.Joins.{shown-append}
use Rattle.crn_grammar.specs.Table.{IsText, after}
use Rattle.crn_token.specs.Words.{says}
use Rattle.crn_net.specs.Network.{Part, Reaction, Network, IsNetwork, IsReaction, AreParts, IsEnds, AreEnds, AreDifferent, IsApart, IsContext, input_species, numbered}
use Rattle.crn_net.specs.Inputs.{species_of, AreNew}
use Rattle.crn_net.specs.declared.Rails.{Rails}
use Rattle.crn_net.specs.declared.Rails.TheVariants.{Dual, Direct}
use Rattle.crn_net.specs.declared.Ends.{Ends}
use Rattle.crn_net.specs.declared.Ends.TheVariants.{Pair, One}
use Rattle.crn_net.proofs.InputLists.{species_push, last_end, new_of_different, apart_left}
use Rattle.crn_net_text.specs.NetworkText.{version, rails_word, species_items, part_items, side_items, gives_items, reaction_items, ends_items, count_line, input_line, context_lines, output_line, ends_lines, reaction_lines, network_lines}
use Rattle.crn_net_text.specs.Grammar.{Say, IsNetworkText, Place, Start, Titled, Naming, Placed, Closed, Listing, least, frame, with_reaction, with_input, with_context, pair_with, is_named, is_new, leaves_one, with_output, one_of, ends_of, side_at, part_at, species_at, reaction_of, reaction_with, gives_of, side_of, is_plus, is_nothing, many, follow, network_table}
use Rattle.crn_net_text.proofs.Left.{left_here}
use Rattle.crn_net_text.proofs.Kept.{each_later, named_on}
use Rattle.crn_net_text.proofs.Found.{next_side}

-- ---- lines of tokens, one after another
abbrev goes : Place → List (List Item) → Option Place
goes s [] = Some s
goes s (items ∷ more) = option_and_then (λ t. goes t more) (follow s (shown items))

said : (line : PlainLine) (items : List Item) → line.bad ≡ false → line.tokens ≡ shown items → says line ≡ shown items
said line items good tokens = ap (λ b. cond b [] line.tokens) good ∙ tokens

say_goes : (s : Place) (lines : List PlainLine) (texts : List (List Item)) → Say lines texts → after network_table s lines ≡ goes s texts
say_goes s [] [] say = refl
say_goes s [] (items ∷ more) say = absurd say
say_goes s (line ∷ lines) [] say = absurd say
say_goes s (line ∷ lines) (items ∷ more) say =
    ap (λ ts. option_and_then (λ t. after network_table t lines) (follow s ts)) (said line items say.0 say.1)
    ∙ go (λ t. say_goes t lines more say.2) (follow s (shown items))
  where
    go : ((t : Place) → after network_table t lines ≡ goes t more) → (o : Option Place) → option_and_then (λ t. after network_table t lines) o ≡ option_and_then (λ t. goes t more) o
    go again None = refl
    go again (Some t) = again t

goes-append : (s t : Place) (xs ys : List (List Item)) → goes s xs ≡ Some t → goes s (xs ++ ys) ≡ goes t ys
goes-append s t [] ys is = let same : s ≡ t = cc in ap (λ u. goes u ys) same
goes-append s t (x ∷ xs) ys is = go (λ u there. goes-append u t xs ys there) (follow s (shown x)) is
  where
    go : ((u : Place) → goes u xs ≡ Some t → goes u (xs ++ ys) ≡ goes t ys) → (o : Option Place) → option_and_then (λ u. goes u xs) o ≡ Some t → option_and_then (λ u. goes u (xs ++ ys)) o ≡ goes t ys
    go again None there = let wrong : ◌≡◌ {A = Option Place} None (Some t) = there in cc
    go again (Some u) there = again u there

-- ---- species and parts
abbrev pub species_tokens : ℕ → List Plain → List Plain
species_tokens a more = PlainWord (codes "S") ∷ PlainNumber (pos a) ∷ more

pub species_here : (low n a : ℕ) (more : List Plain) → low < a → a ≤ n → species_at low n (species_tokens a more) ≡ Some a
species_here low n a more above below =
    let above_is : nat_lt low a ≡ true = lt-ltb low a above in
    let below_is : nat_le a n ≡ true = le-leb a n below in
    rw (above_is, below_is) refl

abbrev pub part_tokens : Part → List Plain → List Plain
part_tokens p more = cond (p.count == 1) (species_tokens p.species more) (PlainNumber (pos p.count) ∷ species_tokens p.species more)

abbrev pub size_of : Part → ℕ
size_of p = cond (p.count == 1) 2 3

module _ (low n : ℕ) (p : Part) (more : List Plain) (above : low < p.species) (below : p.species ≤ n) (some : 0 < p.count) where
  part_by_count : (b : Bool) → p.count == 1 ≡ b → part_at low n (cond b (species_tokens p.species more) (PlainNumber (pos p.count) ∷ species_tokens p.species more)) ≡ Some (p, cond b 2 3)
  part_by_count true is =
      let one : p.count ≡ 1 = eqb-true p.count 1 is in
      ap (option_map (λ a. (many 1 a, 2))) (species_here low n p.species more above below) ∙ ap (λ c. Some (many c p.species, 2)) (sym one)
  part_by_count false is =
      let other : 1 < p.count = omega (arith, false-eqb p.count 1 (sym is)) in
      ap (λ b. cond b (option_map (λ a. (many p.count a, 3)) (species_at low n (species_tokens p.species more))) None) (lt-ltb 1 p.count other)
      ∙ ap (option_map (λ a. (many p.count a, 3))) (species_here low n p.species more above below)

  part_here : part_at low n (part_tokens p more) ≡ Some (p, size_of p)
  part_here = part_by_count (p.count == 1) refl

pub part_left : (p : Part) (more : List Plain) → drop (size_of p) (part_tokens p more) ≡ more
part_left p more = go (p.count == 1)
  where
    go : (b : Bool) → drop (cond b 2 3) (cond b (species_tokens p.species more) (PlainNumber (pos p.count) ∷ species_tokens p.species more)) ≡ more
    go true = refl
    go false = refl

part_long : (p : Part) (more : List Plain) → length (part_tokens p more) ≡ size_of p + length more
part_long p more = go (p.count == 1)
  where
    go : (b : Bool) → length (cond b (species_tokens p.species more) (PlainNumber (pos p.count) ∷ species_tokens p.species more)) ≡ cond b 2 3 + length more
    go true = omega arith
    go false = omega arith

part_shown : (p : Part) (more : List Plain) → shown (part_items p) ++ more ≡ part_tokens p more
part_shown p more = go (p.count == 1)
  where
    go : (b : Bool) → shown (cond b (species_items p.species) (Shown (PlainNumber (pos p.count)) ∷ Blank ∷ species_items p.species)) ++ more ≡ cond b (species_tokens p.species more) (PlainNumber (pos p.count) ∷ species_tokens p.species more)
    go true = refl
    go false = refl

-- ---- sides
abbrev pub side_tokens : Part → List Part → List Plain → List Plain
side_tokens p [] more = part_tokens p more
side_tokens p (q ∷ ps) more = part_tokens p (PlainSign Plus ∷ side_tokens q ps more)

abbrev pub side_size : Part → List Part → ℕ
side_size p [] = size_of p
side_size p (q ∷ ps) = size_of p + 1 + side_size q ps

pub side_shown : (p : Part) (ps : List Part) (more : List Plain) → shown (side_items (p ∷ ps)) ++ more ≡ side_tokens p ps more
side_shown p [] more = part_shown p more
side_shown p (q ∷ ps) more =
    ap (λ l. l ++ more) (shown-append (part_items p) (Blank ∷ Shown (PlainSign Plus) ∷ Blank ∷ side_items (q ∷ ps)))
    ∙ append_assoc (shown (part_items p)) (PlainSign Plus ∷ shown (side_items (q ∷ ps))) more
    ∙ part_shown p (PlainSign Plus ∷ (shown (side_items (q ∷ ps)) ++ more))
    ∙ ap (λ l. part_tokens p (PlainSign Plus ∷ l)) (side_shown q ps more)

pub side_long : (p : Part) (ps : List Part) (more : List Plain) → length (side_tokens p ps more) ≡ side_size p ps + length more
side_long p [] more = part_long p more
side_long p (q ∷ ps) more = omega (arith, part_long p (PlainSign Plus ∷ side_tokens q ps more), side_long q ps more)

pub some_size : (p : Part) → 2 ≤ size_of p
some_size p = go (p.count == 1)
  where
    go : (b : Bool) → 2 ≤ cond b 2 3
    go true = omega arith
    go false = omega arith

side_enough : (p : Part) (ps : List Part) → length (p ∷ ps) ≤ side_size p ps
side_enough p [] = omega (arith, some_size p)
side_enough p (q ∷ ps) = omega (arith, some_size p, side_enough q ps)

pub side_left : (p : Part) (ps : List Part) (more : List Plain) → drop (side_size p ps) (side_tokens p ps more) ≡ more
side_left p [] more = part_left p more
side_left p (q ∷ ps) more =
    sym (drop-drop (side_size q ps) (size_of p + 1) (side_tokens p (q ∷ ps) more))
    ∙ ap (drop (side_size q ps)) (sym (drop-drop 1 (size_of p) (side_tokens p (q ∷ ps) more)) ∙ ap (drop 1) (part_left p (PlainSign Plus ∷ side_tokens q ps more)))
    ∙ side_left q ps more

side_here : (k low n : ℕ) (p : Part) (ps : List Part) (more : List Plain) → length (p ∷ ps) ≤ k → AreParts low n (p ∷ ps) → is_plus more ≡ false → side_at k low n (side_tokens p ps more) ≡ Some (p ∷ ps, side_size p ps)
side_here zero low n p ps more enough are stop = absurd (omega arith)
side_here (suc k) low n p [] more enough are stop =
    ap (option_and_then (next_side k n (part_tokens p more))) (part_here low n p more are.0 are.1 are.2)
    ∙ ap (λ b. cond b (option_map (λ q. (p ∷ q.0, size_of p + 1 + q.1)) (side_at k p.species n (drop (size_of p + 1) (part_tokens p more)))) (Some (p ∷ [], size_of p))) (ap is_plus (part_left p more) ∙ stop)
side_here (suc k) low n p (q ∷ ps) more enough are stop =
    let rest = PlainSign Plus ∷ side_tokens q ps more in
    let ts = part_tokens p rest in
    ap (option_and_then (next_side k n ts)) (part_here low n p rest are.0 are.1 are.2)
    ∙ ap (λ b. cond b (option_map (λ r. (p ∷ r.0, size_of p + 1 + r.1)) (side_at k p.species n (drop (size_of p + 1) ts))) (Some (p ∷ [], size_of p))) (ap is_plus (part_left p rest))
    ∙ ap (λ us. option_map (λ r. (p ∷ r.0, size_of p + 1 + r.1)) (side_at k p.species n us)) (sym (drop-drop 1 (size_of p) ts) ∙ ap (drop 1) (part_left p rest))
    ∙ ap (option_map (λ r. (p ∷ r.0, size_of p + 1 + r.1))) (side_here k p.species n q ps more (omega arith) are.3 stop)

-- ---- reactions
gives_open : (q : Part) (qs : List Part) → 0 < q.count → is_nothing (side_tokens q qs []) ≡ false
gives_open q qs some = by_count q.count refl
  where
    after_part : (more : List Plain) (c : ℕ) → q.count ≡ c → is_nothing (part_tokens q more) ≡ false
    after_part more zero is = absurd (omega arith)
    after_part more (suc zero) is = ap (λ m. is_nothing (cond (m == 1) (species_tokens q.species more) (PlainNumber (pos m) ∷ species_tokens q.species more))) is
    after_part more (suc (suc c)) is = ap (λ m. is_nothing (cond (m == 1) (species_tokens q.species more) (PlainNumber (pos m) ∷ species_tokens q.species more))) is ∙ later (suc (suc c) == 1)
      where
        later : (b : Bool) → is_nothing (cond b (species_tokens q.species more) (PlainNumber (pos (suc (suc c))) ∷ species_tokens q.species more)) ≡ false
        later true = refl
        later false = refl

    by_count : (c : ℕ) → q.count ≡ c → is_nothing (side_tokens q qs []) ≡ false
    by_count c is = tails qs
      where
        tails : (qs : List Part) → is_nothing (side_tokens q qs []) ≡ false
        tails [] = after_part [] c is
        tails (r ∷ rs) = after_part (PlainSign Plus ∷ side_tokens r rs []) c is

gives_here : (n : ℕ) (gives : List Part) → AreParts 0 n gives → gives_of n (shown (gives_items gives)) ≡ Some gives
gives_here n [] are = refl
gives_here n (q ∷ qs) are =
    let ts = side_tokens q qs [] in
    let long : length ts ≡ side_size q qs = omega (arith, side_long q qs []) in
    let shown_is : shown (side_items (q ∷ qs)) ≡ ts = sym (append-nil (shown (side_items (q ∷ qs)))) ∙ side_shown q qs [] in
    ap (gives_of n) shown_is
    ∙ ap (λ b. cond b (Some []) (side_of n ts)) (gives_open q qs are.2)
    ∙ ap (option_and_then (λ r. cond (r.1 == length ts) (Some r.0) None)) (side_here (length ts) 0 n q qs [] (omega (arith, side_enough q qs)) are refl)
    ∙ ap (λ b. cond b (Some (q ∷ qs)) None) (eq-eqb (side_size q qs) (length ts) (sym long))

reaction_here : (n : ℕ) (r : Reaction) → IsReaction n r → reaction_of n (shown (reaction_items r)) ≡ Some r
reaction_here n r is = go r.takes refl
  where
    go : (takes : List Part) → r.takes ≡ takes → reaction_of n (shown (reaction_items r)) ≡ Some r
    go [] e = absurd (omega (arith, is.some_reactant, ap length e))
    go (p ∷ ps) e =
        let more = PlainSign Arrow ∷ shown (gives_items r.gives) in
        let ts = side_tokens p ps more in
        let shown_is : shown (reaction_items r) ≡ ts = shown-append (side_items r.takes) (Blank ∷ Shown (PlainSign Arrow) ∷ Blank ∷ gives_items r.gives) ∙ ap (λ l. shown (side_items l) ++ more) e ∙ side_shown p ps more in
        let parts : AreParts 0 n (p ∷ ps) = subst (AreParts 0 n) e is.takes in
        ap (reaction_of n) shown_is
        ∙ ap (option_and_then (λ q. reaction_with n q.0 (drop q.1 ts))) (side_here (length ts) 0 n p ps more (omega (arith, side_enough p ps, side_long p ps more)) parts refl)
        ∙ ap (reaction_with n (p ∷ ps)) (side_left p ps more)
        ∙ ap (option_map (λ gives. record { takes = p ∷ ps; gives = gives })) (gives_here n r.gives is.gives)
        ∙ ap (λ l. Some (record { takes = l; gives = r.gives })) (sym e)

-- ---- inputs and outputs
one_here : (n a : ℕ) → 1 ≤ a → a ≤ n → one_of n (species_tokens a []) ≡ Some a
one_here n a low high = species_here 0 n a [] (omega (arith, low)) high

ends_here : (rails : Rails) (n : ℕ) (e : Ends) → IsEnds rails n e → ends_of rails n (shown (ends_items e)) ≡ Some e
ends_here Dual n (One a) is = absurd is
ends_here Direct n (Pair a b) is = absurd is
ends_here Direct n (One a) is = ap (option_map (λ s. One s)) (one_here n a is.0 is.1)
ends_here Dual n (Pair a b) is =
    ap (option_and_then (λ s. pair_with n s (drop 2 (species_tokens a (species_tokens b []))))) (species_here 0 n a (species_tokens b []) (omega (arith, is.0)) is.1)
    ∙ ap (option_and_then (λ s. cond (a == s) None (Some (Pair a s)))) (one_here n b is.2 is.3)
    ∙ ap (λ t. cond t None (Some (Pair a b))) (ne_eqb a b is.4)

-- ---- the lines in turn
apart_free : (es : List Ends) (x : ℕ) → IsApart x (input_species es) → is_named es x ≡ false
apart_free [] x apart = refl
apart_free (Pair a b ∷ es) x apart =
    ap₂ (λ p q. p || q) (ap₂ (λ p q. p || q) (ne_eqb a x (λ e. apart.0 (sym e))) (ne_eqb b x (λ e. apart.1.0 (sym e)))) (apart_free es x apart.1.1)
apart_free (One a ∷ es) x apart = ap₂ (λ p q. p || q) (ne_eqb a x (λ e. apart.0 (sym e))) (apart_free es x apart.1)

new_here : (es : List Ends) (e : Ends) → AreNew (species_of e) (input_species es) → is_new es e ≡ true
new_here es (Pair a b) new = ap₂ (λ p q. not p && not q) (apart_free es a new.0) (apart_free es b new.1.0)
new_here es (One a) new = ap not (apart_free es a new.0)

abbrev pub has_context : Option ℕ → Bool
has_context None = false
has_context (Some k) = true

left_for : (n : ℕ) (es : List Ends) (context : Option ℕ) → IsContext n es context → leaves_one (has_context context) n es ≡ true
left_for n es None is = refl
left_for n es (Some k) is = left_here es n k is.0 is.1 (apart_free es k is.2)

species-append : (xs ys : List Ends) → input_species (xs ++ ys) ≡ input_species xs ++ input_species ys
species-append [] ys = refl
species-append (Pair a b ∷ xs) ys = ap (λ l. a ∷ b ∷ l) (species-append xs ys)
species-append (One a ∷ xs) ys = ap (λ l. a ∷ l) (species-append xs ys)

context_of : (n : ℕ) (es : List Ends) (e : Ends) (fs : List Ends) (context : Option ℕ) → IsContext n (es ++ e ∷ fs) context → IsContext n (es ++ e ∷ []) context
context_of n es e fs None is = tt
context_of n es e fs (Some k) is =
    (is.0, is.1, apart_left k (input_species (es ++ e ∷ [])) (input_species fs) (subst (IsApart k) (ap input_species (sym (append_assoc es (e ∷ []) fs)) ∙ species-append (es ++ e ∷ []) fs) is.2))

input_goes : (rails : Rails) (n : ℕ) (context : Option ℕ) (es : List Ends) (e : Ends) → AreEnds rails n (es ++ e ∷ []) → AreDifferent (input_species (es ++ e ∷ [])) → IsContext n (es ++ e ∷ []) context
    → follow (Naming rails (has_context context) n es) (shown (input_line e)) ≡ Some (Naming rails (has_context context) n (es ++ e ∷ []))
input_goes rails n context es e ends different is =
    let two = has_context context in
    ap (option_and_then (with_input rails two n es)) (ends_here rails n e (last_end rails n es e ends))
    ∙ ap₂ (λ p q. cond (p && q) (Some (Naming rails two n (es ++ e ∷ []))) None)
    (new_here es e (new_of_different (input_species es) (species_of e) (subst AreDifferent (species_push es e) different)))
    (left_for n (es ++ e ∷ []) context is)

ends_first : (rails : Rails) (n : ℕ) (es fs : List Ends) → AreEnds rails n (es ++ fs) → AreEnds rails n es
ends_first rails n [] fs are = tt
ends_first rails n (e ∷ es) fs are = (are.0, ends_first rails n es fs are.1)

different_first : (xs ys : List ℕ) → AreDifferent (xs ++ ys) → AreDifferent xs
different_first [] ys are = tt
different_first (x ∷ xs) ys are = (apart_left x xs ys are.0, different_first xs ys are.1)

inputs_go : (rails : Rails) (n : ℕ) (context : Option ℕ) (es fs : List Ends) → AreEnds rails n (es ++ fs) → AreDifferent (input_species (es ++ fs)) → IsContext n (es ++ fs) context
    → goes (Naming rails (has_context context) n es) (map input_line fs) ≡ Some (Naming rails (has_context context) n (es ++ fs))
inputs_go rails n context es [] ends different is = ap (λ l. Some (Naming rails (has_context context) n l)) (sym (append-nil es))
inputs_go rails n context es (f ∷ fs) ends different is =
    let parts : es ++ f ∷ fs ≡ (es ++ f ∷ []) ++ fs = sym (append_assoc es (f ∷ []) fs) in
    let ends' : AreEnds rails n ((es ++ f ∷ []) ++ fs) = subst (AreEnds rails n) parts ends in
    let different' : AreDifferent (input_species ((es ++ f ∷ []) ++ fs)) = subst (λ l. AreDifferent (input_species l)) parts different in
    ap (option_and_then (λ t. goes t (map input_line fs)))
    (input_goes rails n context es f (ends_first rails n (es ++ f ∷ []) fs ends')
    (different_first (input_species (es ++ f ∷ [])) (input_species fs) (subst AreDifferent (species-append (es ++ f ∷ []) fs) different'))
    (context_of n es f fs context is))
    ∙ inputs_go rails n context (es ++ f ∷ []) fs ends' different' (subst (λ l. IsContext n l context) parts is)
    ∙ ap (λ l. Some (Naming rails (has_context context) n l)) (sym parts)

-- the reactions that are to come
abbrev with_reactions : Network → List Reaction → Network
with_reactions net rs = record { rails = net.rails; species = net.species; reactions = net.reactions ++ rs; inputs = net.inputs; output = net.output; context = net.context }

reactions_go : (net : Network) (rs : List Reaction) → ((r : ℕ) → 1 ≤ r → r ≤ length rs → IsReaction net.species (numbered rs r)) → goes (Listing (length rs) net) (map reaction_items rs) ≡ Some (Listing 0 (with_reactions net rs))
reactions_go net [] are = ap (λ l. Some (Listing 0 (record { rails = net.rails; species = net.species; reactions = l; inputs = net.inputs; output = net.output; context = net.context }))) (sym (append-nil net.reactions))
reactions_go net (r ∷ rs) are =
    ap (λ o. option_and_then (λ t. goes t (map reaction_items rs)) (option_map (λ x. Listing (length rs) (with_reaction net x)) o)) (reaction_here net.species r (are 1 (omega arith) (omega arith)))
    ∙ reactions_go (with_reaction net r) rs (each_later (IsReaction net.species) r rs are)
    ∙ ap (λ l. Some (Listing 0 (record { rails = net.rails; species = net.species; reactions = l; inputs = net.inputs; output = net.output; context = net.context }))) (append_assoc net.reactions (r ∷ []) rs)

-- ---- how many species there are
pub enough : (rails : Rails) (n : ℕ) (inputs : List Ends) (output : Ends) (context : Option ℕ) → 0 < length inputs → AreEnds rails n inputs → IsEnds rails n output → IsContext n inputs context → least rails (has_context context) ≤ n
enough rails n [] output context some ends out is = absurd (omega arith)
enough Dual n (e ∷ es) (One a) context some ends out is = absurd out
enough Direct n (e ∷ es) (Pair a b) context some ends out is = absurd out
enough Dual n (e ∷ es) (Pair a b) None some ends out is = let differ : a ≢ b = out.4 in omega (arith, out.0, out.1, out.2, out.3, differ)
enough Direct n (e ∷ es) (One a) None some ends out is = omega (arith, out.0, out.1)
enough Dual n (One c ∷ es) (Pair a b) (Some k) some ends out is = absurd ends.0
enough Direct n (Pair c d ∷ es) (One a) (Some k) some ends out is = absurd ends.0
enough Dual n (Pair c d ∷ es) (Pair a b) (Some k) some ends out is =
    let one : c ≢ d = ends.0.4 in
    let two : k ≢ c = is.2.0 in
    let three : k ≢ d = is.2.1.0 in
    omega (arith, ends.0.0, ends.0.1, ends.0.2, ends.0.3, is.0, is.1, one, two, three)
enough Direct n (One c ∷ es) (One a) (Some k) some ends out is = let two : k ≢ c = is.2.0 in omega (arith, ends.0.0, ends.0.1, is.0, is.1, two)

abbrev title_items : Rails → Option ℕ → List Item
title_items rails context = Shown (PlainWord (codes "crn")) ∷ Blank ∷ Shown (PlainNumber (pos (version context))) ∷ Blank ∷ Shown (PlainWord (rails_word rails)) ∷ []

title_goes : (rails : Rails) (context : Option ℕ) → follow Start (shown (title_items rails context)) ≡ Some (Titled rails (has_context context))
title_goes Dual None = refl
title_goes Direct None = refl
title_goes Dual (Some k) = refl
title_goes Direct (Some k) = refl

size_goes : (rails : Rails) (two : Bool) (n : ℕ) → least rails two ≤ n → follow (Titled rails two) (shown (count_line (codes "species") n)) ≡ Some (Naming rails two n [])
size_goes rails two n fits = ap (λ b. cond b (Some (Naming rails two n [])) None) (le-leb (least rails two) n fits)

output_goes : (rails : Rails) (n : ℕ) (es : List Ends) (context : Option ℕ) (e : Ends) → IsEnds rails n e → with_output rails n es context (shown (output_line e)) ≡ Some (Closed (frame rails n es context e))
output_goes rails n es context e is = ap (option_map (λ e. Closed (frame rails n es context e))) (ends_here rails n e is)

closes : (rails : Rails) (n : ℕ) (es : List Ends) (context : Option ℕ) (e : Ends) → 0 < length es → IsContext n es context → IsEnds rails n e
    → goes (Naming rails (has_context context) n es) (context_lines context ++ (output_line e ∷ [])) ≡ Some (Closed (frame rails n es context e))
closes rails n es None e some is out =
    ap (option_and_then (λ t. Some t)) (named_on rails false n es (shown (output_line e)) _ some refl (output_goes rails n es None e out))
closes rails n es (Some k) e some is out =
    ap (option_and_then (λ t. goes t (output_line e ∷ [])))
    (named_on rails true n es (PlainWord (codes "context") ∷ species_tokens k []) _ some refl
    (ap (option_and_then (with_context rails n es)) (one_here n k is.0 is.1) ∙ ap (λ b. cond b None (Some (Placed rails n es k))) (apart_free es k is.2)))
    ∙ ap (option_and_then (λ t. Some t)) (output_goes rails n es (Some k) e out)

network_goes : (net : Network) → IsNetwork net → 0 < length net.inputs → goes Start (network_lines net) ≡ Some (Listing 0 net)
network_goes net is some =
    let two = has_context net.context in
    let fits = enough net.rails net.species net.inputs net.output net.context some is.inputs is.output is.context in
    ap (option_and_then (λ t. goes t (count_line (codes "species") net.species ∷ (ends_lines net ++ reaction_lines net)))) (title_goes net.rails net.context)
    ∙ ap (option_and_then (λ t. goes t (ends_lines net ++ reaction_lines net))) (size_goes net.rails two net.species fits)
    ∙ goes-append (Naming net.rails two net.species []) (Closed (frame net.rails net.species net.inputs net.context net.output)) (ends_lines net) (reaction_lines net)
    (goes-append (Naming net.rails two net.species []) (Naming net.rails two net.species net.inputs) (map input_line net.inputs) (context_lines net.context ++ (output_line net.output ∷ []))
    (inputs_go net.rails net.species net.context [] net.inputs is.inputs is.different is.context)
    ∙ closes net.rails net.species net.inputs net.context net.output some is.context is.output)
    ∙ reactions_go (frame net.rails net.species net.inputs net.context net.output) net.reactions is.reactions

pub text_is_grammar : (lines : List PlainLine) (net : Network) → IsNetworkText lines net → IsText network_table lines net
text_is_grammar lines net text = (Listing 0 net, say_goes Start lines (network_lines net) text.say ∙ network_goes net text.network text.some_input, refl)
