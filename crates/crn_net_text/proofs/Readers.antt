-- What the readers of a line answer, step by step.
use Rattle.std.proofs.Common.{◌≡◌, ℕ, suc, ◌+◌, ◌<◌, ◌≤◌, Bool, true, false, cond, List, [], ◌∷◌, ◌++◌, length, drop, Option, Some, None, refl, sym, ap, ◌∙◌, arith, lt-ltb, append_assoc}
use Rattle.std.proofs.lemmas.Bool.{le-ltb}
use Rattle.std.specs.Prelude.{codes}
use Rattle.std.specs.Option.{option_map, option_and_then, option_map_or}
use Rattle.crn_token.specs.declared.Counted.TheVariants as counted
use Rattle.crn_token.specs.Plain.{Plain}
use Rattle.crn_grammar.specs.Table.{Read, Limited}
use Rattle.crn_token.specs.Words.{rest_of, begins, number_at}
use Rattle.crn_grammar.specs.Limits.{above}
use Rattle.crn_net.specs.Network.{Part, Reaction, Network}
use Rattle.crn_net.specs.declared.Rails.{Rails}
use Rattle.crn_net_text.specs.Grammar.{Titled, Listing, within, species_at, many, part_by, part_at, side_at, side_of, gives_of, reaction_with, reaction_of, is_arrow, is_nothing, number_of, is_plus, rails_of, version_of, title_with, sized, size, count, limit, most_reactions}
use Rattle.crn_grammar.specs.Reading.{judged}
use Rattle.crn_net_text.proofs.Found.{next_side}

pub species_by : (low n : ℕ) (ts us : List Plain) (o : Option ℕ) → begins (codes "S") ts ≡ true → us ≡ rest_of ts → o ≡ number_at us → option_and_then (within low n) o ≡ species_at low n ts
species_by low n ts us o begin us_is o_is =
    ap (option_and_then (within low n)) (o_is ∙ ap number_at us_is) ∙ sym (ap (λ b. cond b (option_and_then (within low n) (number_at (rest_of ts))) None) begin)

pub part_counted : (low n c : ℕ) (ts us : List Plain) (o : Option ℕ) → Some c ≡ number_at ts → 1 < c → us ≡ rest_of ts → o ≡ species_at low n us → option_map (λ a. (many c a, 3)) o ≡ part_at low n ts
part_counted low n c ts us o number some us_is o_is =
    ap (option_map (λ a. (many c a, 3))) (o_is ∙ ap (species_at low n) us_is)
    ∙ sym (ap (λ b. cond b (option_map (λ a. (many c a, 3)) (species_at low n (rest_of ts))) None) (lt-ltb 1 c some))
    ∙ ap (part_by low n ts) number

pub part_few : (low n c : ℕ) (ts : List Plain) → Some c ≡ number_at ts → c ≤ 1 → None ≡ part_at low n ts
part_few low n c ts number few =
    sym (ap (λ b. cond b (option_map (λ a. (many c a, 3)) (species_at low n (rest_of ts))) None) (le-ltb 1 c few)) ∙ ap (part_by low n ts) number

pub part_one : (low n : ℕ) (ts : List Plain) (o : Option ℕ) → None ≡ number_at ts → o ≡ species_at low n ts → option_map (λ a. (many 1 a, 2)) o ≡ part_at low n ts
part_one low n ts o number o_is = ap (option_map (λ a. (many 1 a, 2))) o_is ∙ ap (part_by low n ts) number

-- ---- sides
abbrev pub onto : List Part → ℕ → Option (List Part × ℕ) → Option (List Part × ℕ)
onto ps taken o = option_map (λ q. (ps ++ q.0, taken + q.1)) o

side_step : (k m low n : ℕ) (ts : List Plain) (o : Option (Part × ℕ)) → k ≡ suc m → o ≡ part_at low n ts → side_at k low n ts ≡ option_and_then (next_side m n ts) o
side_step k m low n ts o k_is part = ap (λ j. side_at j low n ts) k_is ∙ ap (option_and_then (next_side m n ts)) (sym part)

pub side_ends : (k m low n taken size : ℕ) (ts : List Plain) (ps : List Part) (p : Part) → k ≡ suc m → Some (p, size) ≡ part_at low n ts → is_plus (drop size ts) ≡ false
    → Some (ps ++ p ∷ [], taken + size) ≡ onto ps taken (side_at k low n ts)
side_ends k m low n taken size ts ps p k_is part plus =
    sym (ap (onto ps taken) (side_step k m low n ts (Some (p, size)) k_is part
    ∙ ap (λ b. cond b (option_map (λ q. (p ∷ q.0, size + 1 + q.1)) (side_at m p.species n (drop (size + 1) ts))) (Some (p ∷ [], size))) plus))

pub side_stuck : (k m low n taken : ℕ) (ts : List Plain) (ps : List Part) → k ≡ suc m → None ≡ part_at low n ts → None ≡ onto ps taken (side_at k low n ts)
side_stuck k m low n taken ts ps k_is part = sym (ap (onto ps taken) (side_step k m low n ts None k_is part))

pub side_goes : (k m low n taken size : ℕ) (ts us : List Plain) (ps : List Part) (p : Part) → k ≡ suc m → Some (p, size) ≡ part_at low n ts → is_plus (drop size ts) ≡ true → us ≡ drop (size + 1) ts
    → onto (ps ++ p ∷ []) (taken + (size + 1)) (side_at m p.species n us) ≡ onto ps taken (side_at k low n ts)
side_goes k m low n taken size ts us ps p k_is part plus us_is =
    ap (λ vs. onto (ps ++ p ∷ []) (taken + (size + 1)) (side_at m p.species n vs)) us_is
    ∙ nested (side_at m p.species n (drop (size + 1) ts))
    ∙ sym (ap (onto ps taken) (side_step k m low n ts (Some (p, size)) k_is part
    ∙ ap (λ b. cond b (option_map (λ q. (p ∷ q.0, size + 1 + q.1)) (side_at m p.species n (drop (size + 1) ts))) (Some (p ∷ [], size))) plus))
  where
    nested : (o : Option (List Part × ℕ)) → onto (ps ++ p ∷ []) (taken + (size + 1)) o ≡ onto ps taken (option_map (λ q. (p ∷ q.0, size + 1 + q.1)) o)
    nested None = refl
    nested (Some q) = let sum : taken + (size + 1) + q.1 ≡ taken + (size + 1 + q.1) = omega arith in rw (append_assoc ps (p ∷ []) q.0, sum) refl

-- ---- reactions
pub gives_nothing : (n : ℕ) (ts : List Plain) → is_nothing ts ≡ true → gives_of n ts ≡ Some []
gives_nothing n ts is = ap (λ b. cond b (Some []) (side_of n ts)) is

pub gives_other : (n : ℕ) (ts : List Plain) → is_nothing ts ≡ false → gives_of n ts ≡ side_of n ts
gives_other n ts is = ap (λ b. cond b (Some []) (side_of n ts)) is

abbrev given : List Part → List Part → Reaction
given takes gives = record { takes = takes; gives = gives }

pub reaction_none : (n : ℕ) (takes : List Part) (ts : List Plain) → is_arrow ts ≡ false → None ≡ reaction_with n takes ts
reaction_none n takes ts is = sym (ap (λ b. cond b (option_map (given takes) (gives_of n (rest_of ts))) None) is)

pub reaction_by : (n : ℕ) (takes : List Part) (ts us : List Plain) (o : Option (List Part)) → is_arrow ts ≡ true → us ≡ rest_of ts → o ≡ gives_of n us → option_map (given takes) o ≡ reaction_with n takes ts
reaction_by n takes ts us o is us_is gives =
    ap (option_map (given takes)) (gives ∙ ap (gives_of n) us_is) ∙ sym (ap (λ b. cond b (option_map (given takes) (gives_of n (rest_of ts))) None) is)

pub reaction_is : (n taken : ℕ) (takes : List Part) (ts us : List Plain) → Some (takes, taken) ≡ side_at (length ts) 0 n ts → us ≡ drop taken ts → reaction_with n takes us ≡ reaction_of n ts
reaction_is n taken takes ts us side us_is = ap (reaction_with n takes) us_is ∙ ap (option_and_then (λ q. reaction_with n q.0 (drop q.1 ts))) side

-- ---- lines
pub title_by : (ts us : List Plain) (o : Option ℕ) → o ≡ number_at ts → us ≡ rest_of ts → option_and_then (λ n. option_and_then (λ two. option_map (λ r. Titled r two) (rails_of us)) (version_of n)) o ≡ title_with ts
title_by ts us o number us_is =
    ap (λ vs. option_and_then (λ n. option_and_then (λ two. option_map (λ r. Titled r two) (rails_of vs)) (version_of n)) o) us_is
    ∙ ap (option_and_then (λ n. option_and_then (λ two. option_map (λ r. Titled r two) (rails_of (rest_of ts))) (version_of n))) number

pub size_by : (rails : Rails) (two : Bool) (ts us : List Plain) (o : Option ℕ) → begins (codes "species") ts ≡ true → us ≡ rest_of ts → o ≡ number_of us → option_and_then (sized rails two) o ≡ size rails two ts
size_by rails two ts us o begin us_is number =
    ap (option_and_then (sized rails two)) (number ∙ ap number_of us_is) ∙ sym (ap (λ b. cond b (option_and_then (sized rails two) (number_of (rest_of ts))) None) begin)

pub count_by : (net : Network) (ts us : List Plain) (o : Option ℕ) → begins (codes "reactions") ts ≡ true → us ≡ rest_of ts → o ≡ number_of us → option_map (λ m. Listing m net) o ≡ count net ts
count_by net ts us o begin us_is number =
    ap (option_map (λ m. Listing m net)) (number ∙ ap number_of us_is) ∙ sym (ap (λ b. cond b (option_map (λ m. Listing m net) (number_of (rest_of ts))) None) begin)

-- how many reactions there are is known where none is read
pub none_read : (m : ℕ) (net : Network) → net.reactions ≡ [] → length net.reactions + m ≡ m
none_read m net none = omega (arith, ap length none)

pub count_past : (line m : ℕ) (net : Network) → net.reactions ≡ [] → most_reactions < m → judged limit line (Some (Listing m net)) ≡ Limited (counted.Reactions, m)
count_past line m net none past =
    ap (λ k. option_map_or (λ what. Limited what) (above most_reactions counted.Reactions k) (Read (Listing m net))) (none_read m net none)
    ∙ ap (λ b. option_map_or (λ what. Limited what) (cond b (Some (counted.Reactions, m)) None) (Read (Listing m net))) (lt-ltb most_reactions m past)

pub count_low : (line m : ℕ) (net : Network) → net.reactions ≡ [] → m ≤ most_reactions → judged limit line (Some (Listing m net)) ≡ Read (Listing m net)
count_low line m net none low =
    ap (λ k. option_map_or (λ what. Limited what) (above most_reactions counted.Reactions k) (Read (Listing m net))) (none_read m net none)
    ∙ ap (λ b. option_map_or (λ what. Limited what) (cond b (Some (counted.Reactions, m)) None) (Read (Listing m net))) (le-ltb most_reactions m low)
