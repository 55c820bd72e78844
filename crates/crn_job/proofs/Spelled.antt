-- What lines are texts of is what is read of them, and nothing else.
use Rattle.std.proofs.Common.{◌≡◌, inl, inr, ℕ, zero, suc, ◌+◌, ◌<◌, ◌≤◌, Bool, true, false, cond, pos, List, [], ◌∷◌, ◌++◌, length, take, drop, Option, Some, None, refl, sym, ◌∙◌, ap, subst, arith, length-append, append-nil}
use Rattle.std.specs.Prelude.{codes}
use Rattle.std.specs.Str.{bytes_eq}
use Rattle.std.specs.Option.{option_map, option_and_then}
use Rattle.std.proofs.lemmas.List.{take-append-drop}
use Rattle.std.proofs.lemmas.Option.{same_Some}
use Rattle.std.proofs.lemmas.Slice.Eq.{bytes_eq-Decides}
use Rattle.std.proofs.Math.Seq.{drop-append_seam}
use Rattle.crn_fraction.specs.Rational.{ℚ}
use Rattle.crn_token.specs.declared.Sign.TheVariants.{Colon}
use Rattle.crn_token.specs.Plain.{Plain, PlainWord, PlainNumber, PlainSign}
use Rattle.crn_token.specs.Words.{rest_of}
use Rattle.crn_token.proofs.Options.{then_found, map_found, if_found}
use Rattle.crn_form_text.specs.Grammar.{SpellsNumber}
use Rattle.crn_form_text.specs.Reading.{denominator_at, fraction_at}
use Rattle.crn_form_text.proofs.Numbers.{number_here, number_starts, number_spelled}
use Rattle.crn_net.specs.declared.Flow.{Flow}
use Rattle.crn_net_text.specs.Grammar.{species_at}
use Rattle.crn_net_text.proofs.Found.{species_found}
use Rattle.crn_net_text.proofs.Spelled.{species_spelled}
use Rattle.crn_net_text.proofs.Spells.{species_here}
use Rattle.crn_job.specs.declared.words.Word.{Word}
use Rattle.crn_job.specs.declared.words.Word.TheVariants as word
use Rattle.crn_job.specs.Words.{word_of, first_word}
use Rattle.crn_job.specs.Grammar.{Tail, numbers_of, number_of, flow, reaction_at, flow_to, flow_at, flows_of, segment_of, amounts_of, segments_with, tail_follow}
use Rattle.crn_job.specs.Grammar as grammar
use Rattle.crn_job.specs.RunGrammar.{Given, RunTail, given, given_of, last_species, run_follow}
use Rattle.crn_job.specs.RunGrammar as run
use Rattle.crn_job.specs.Spelled.{SpellsNumbers, SpellsFlow, SpellsFlows, SpellsSegment, SpellsAmount, Follows, FollowsRun}
use Rattle.crn_job.proofs.Numbers.{one_is}
use Rattle.crn_job.proofs.Flows.{segment_found}
use Rattle.crn_job.proofs.Segments.{segment_found_is}
use Rattle.crn_job.proofs.RunSteps.{follow_segments}

-- ---- numbers
numbers_start : (qs : List ℚ) (ts : List Plain) → SpellsNumbers qs ts → denominator_at ts ≡ None
numbers_start [] ts is = ap denominator_at is
numbers_start (q ∷ qs) ts (x, y, one, more, is) = ap denominator_at is ∙ number_starts q x y one

pub numbers_spelled : (n : ℕ) (ts : List Plain) (qs : List ℚ) → numbers_of n ts ≡ Some qs → (length qs ≡ n) × SpellsNumbers qs ts
numbers_spelled zero [] qs is = let none : [] ≡ qs = same_Some [] qs is in (sym (ap length none), subst (λ rs. SpellsNumbers rs []) none refl)
numbers_spelled zero (t ∷ ts) qs is = let wrong : ◌≡◌ {A = Option (List ℚ)} None (Some qs) = is in cc
numbers_spelled (suc n) ts qs is =
    let (p, first, rest) = then_found {A = ℚ × ℕ} {B = List ℚ} (λ p. option_map (λ rs. p.0 ∷ rs) (numbers_of n (drop p.1 ts))) (fraction_at ts) qs is in
    let (rs, others, same) = map_found (λ rs. p.0 ∷ rs) (numbers_of n (drop p.1 ts)) qs rest in
    let (long, more) = numbers_spelled n (drop p.1 ts) rs others in
    let (within, one) = number_spelled ts p.0 p.1 first in (
      sym (ap length same) ∙ ap suc long,
      subst (λ l. SpellsNumbers l ts) same (take p.1 ts, drop p.1 ts, one, more, sym (take-append-drop p.1 ts)),
    )

pub spelled_numbers : (n : ℕ) (ts : List Plain) (qs : List ℚ) → length qs ≡ n → SpellsNumbers qs ts → numbers_of n ts ≡ Some qs
spelled_numbers zero ts [] long is = ap (numbers_of zero) is
spelled_numbers zero ts (q ∷ qs) long is = absurd (omega (arith, long))
spelled_numbers (suc n) ts [] long is = absurd (omega (arith, long))
spelled_numbers (suc n) ts (q ∷ qs) long (x, y, one, more, is) =
    ap (numbers_of (suc n)) is
    ∙ ap (option_and_then {T = ℚ × ℕ} (λ p. option_map (λ rs. p.0 ∷ rs) (numbers_of n (drop p.1 (x ++ y))))) (number_here q x y one (numbers_start qs y more))
    ∙ ap (λ l. option_map (λ rs. q ∷ rs) (numbers_of n l)) (drop-append_seam x y)
    ∙ ap (option_map (λ rs. q ∷ rs)) (spelled_numbers n y qs (omega (arith, long)) more)

-- one number, as a list of numbers
number_spelled_alone : (ts : List Plain) (q : ℚ) → number_of ts ≡ Some q → SpellsNumber q ts
number_spelled_alone ts q is =
    let (long, (x, y, one, none, all)) = numbers_spelled 1 ts (q ∷ []) (sym (one_is ts) ∙ ap (option_map (λ p. p ∷ [])) is) in
    subst (SpellsNumber q) (sym (all ∙ ap (λ l. x ++ l) none ∙ append-nil x)) one

spelled_number_alone : (ts : List Plain) (q : ℚ) → SpellsNumber q ts → number_of ts ≡ Some q
spelled_number_alone ts q one =
    let all : numbers_of 1 ts ≡ Some (q ∷ []) = spelled_numbers 1 ts (q ∷ []) refl (ts, [], one, refl, sym (append-nil ts)) in
    let (p, is, same) = map_found (λ p. p ∷ []) (number_of ts) (q ∷ []) (one_is ts ∙ all) in
    is ∙ ap Some (cc same)

-- ---- flows
reaction_is : (ts : List Plain) (r : ℕ) → reaction_at ts ≡ Some r → ts ≡ PlainNumber (pos r) ∷ PlainSign Colon ∷ drop 2 ts
reaction_is (PlainNumber (pos x) ∷ PlainSign Colon ∷ ts) r is = ap (λ n. PlainNumber (pos n) ∷ PlainSign Colon ∷ ts) (same_Some x r is)
reaction_is ts r is = let wrong : None ≡ Some r = is in cc

flow_spelled : (ts : List Plain) (f : Flow) (m : ℕ) → flow_at ts ≡ Some (f, m) → SpellsFlow f (take m ts)
flow_spelled ts f m is =
    let (r, here, rest) = then_found {A = ℕ} {B = Flow × ℕ} (λ n. flow_to n (drop 2 ts)) (reaction_at ts) (f, m) is in
    let (p, found, same) = map_found {A = ℚ × ℕ} {B = Flow × ℕ} (λ p. (flow r p.0, 2 + p.1)) (fraction_at (drop 2 ts)) (f, m) rest in
    let (within, one) = number_spelled (drop 2 ts) p.0 p.1 found in
    let two : 2 + p.1 ≡ suc (suc p.1) = omega arith in
    subst (λ (g : Flow × ℕ). SpellsFlow g.0 (take g.1 ts)) same (take p.1 (drop 2 ts), one, ap (λ k. take k ts) two ∙ ap (take (suc (suc p.1))) (reaction_is ts r here))

flow_here : (f : Flow) (x y : List Plain) → SpellsFlow f x → denominator_at y ≡ None → flow_at (x ++ y) ≡ Some (f, length x)
flow_here f x y (n, one, is) none =
    ap (λ l. flow_at (l ++ y)) is
    ∙ ap (option_map {T = ℚ × ℕ} {U = Flow × ℕ} (λ p. (flow f.reaction p.0, 2 + p.1))) (number_here f.flux n y one none)
    ∙ ap (λ k. Some (f, k)) (let long : 2 + length n ≡ length x = omega (arith, ap length is) in long)

flows_start : (fs : List Flow) (ts : List Plain) → SpellsFlows fs ts → denominator_at ts ≡ None
flows_start [] ts is = ap denominator_at is
flows_start (f ∷ fs) ts (x, y, (n, one, first), more, is) = ap denominator_at is ∙ ap (λ l. denominator_at (l ++ y)) first

flows_spelled : (n : ℕ) (ts : List Plain) (fs : List Flow) → flows_of n ts ≡ Some fs → SpellsFlows fs ts
flows_spelled n [] fs is = subst (λ gs. SpellsFlows gs []) (same_Some [] fs is) refl
flows_spelled zero (t ∷ ts) fs is = let wrong : ◌≡◌ {A = Option (List Flow)} None (Some fs) = is in cc
flows_spelled (suc n) (t ∷ ts) fs is =
    let (p, first, rest) = then_found {A = Flow × ℕ} {B = List Flow} (λ p. option_map (λ gs. p.0 ∷ gs) (flows_of n (drop p.1 (t ∷ ts)))) (flow_at (t ∷ ts)) fs is in
    let (gs, others, same) = map_found (λ gs. p.0 ∷ gs) (flows_of n (drop p.1 (t ∷ ts))) fs rest in
    let more = flows_spelled n (drop p.1 (t ∷ ts)) gs others in
    subst (λ l. SpellsFlows l (t ∷ ts)) same (take p.1 (t ∷ ts), drop p.1 (t ∷ ts), flow_spelled (t ∷ ts) p.0 p.1 first, more, sym (take-append-drop p.1 (t ∷ ts)))

-- a flow has some tokens
flow_some : (f : Flow) (x : List Plain) → SpellsFlow f x → 0 < length x
flow_some f x (n, one, is) = omega (arith, ap length is)

-- what follows the first flow
flows_go : (n : ℕ) (ts : List Plain) → 0 < length ts → flows_of (suc n) ts ≡ option_and_then {T = Flow × ℕ} (λ p. option_map (λ gs. p.0 ∷ gs) (flows_of n (drop p.1 ts))) (flow_at ts)
flows_go n [] some = absurd (omega arith)
flows_go n (t ∷ ts) some = refl

spelled_flows : (n : ℕ) (ts : List Plain) (fs : List Flow) → length ts ≤ n → SpellsFlows fs ts → flows_of n ts ≡ Some fs
spelled_flows zero ts [] within is = ap (flows_of zero) is
spelled_flows (suc n) ts [] within is = ap (flows_of (suc n)) is
spelled_flows zero ts (f ∷ fs) within (x, y, one, more, is) = absurd (omega (arith, within, flow_some f x one, ap length is, length-append x y))
spelled_flows (suc n) ts (f ∷ fs) within (x, y, one, more, is) =
    let some = flow_some f x one in
    ap (flows_of (suc n)) is
    ∙ flows_go n (x ++ y) (omega (arith, some, length-append x y))
    ∙ ap (option_and_then {T = Flow × ℕ} (λ p. option_map (λ gs. p.0 ∷ gs) (flows_of n (drop p.1 (x ++ y))))) (flow_here f x y one (flows_start fs y more))
    ∙ ap (λ l. option_map (λ gs. f ∷ gs) (flows_of n l)) (drop-append_seam x y)
    ∙ ap (option_map (λ gs. f ∷ gs)) (spelled_flows n y fs (omega (arith, some, within, ap length is, length-append x y)) more)

pub segment_spelled : (ts : List Plain) (u : List Flow) → segment_of ts ≡ Some u → SpellsSegment u ts
segment_spelled ts u is =
    let (fs, here, rest) = then_found (λ fs. cond (grammar.is_segment fs) (Some fs) None) (flows_of (length ts) ts) u is in
    let (test, same) = if_found (grammar.is_segment fs) (Some fs) u rest in
    (segment_found_is ts u is, subst (λ l. SpellsFlows l ts) (same_Some fs u same) (flows_spelled (length ts) ts fs here))

pub spelled_segment : (ts : List Plain) (u : List Flow) → SpellsSegment u ts → segment_of ts ≡ Some u
spelled_segment ts u (is, flows) = sym (segment_found ts u (sym (spelled_flows (length ts) ts u (omega arith) flows)) is)

-- ---- amounts
pub amount_spelled : (low n : ℕ) (ts : List Plain) (g : Given) → given_of low n ts ≡ Some g → SpellsAmount low n g ts
amount_spelled low n ts g is =
    let (a, here, rest) = then_found (λ b. option_map (given b) (number_of (drop 2 ts))) (species_at low n ts) g is in
    let (q, there, same) = map_found (given a) (number_of (drop 2 ts)) g rest in
    let (above, below) = species_found low n a ts here in
    let (more, tokens) = species_spelled low n a ts here in
    subst (λ h. SpellsAmount low n h ts) same (above, below, (more, subst (SpellsNumber q) (ap (drop 2) tokens) (number_spelled_alone (drop 2 ts) q there), tokens))

pub spelled_amount : (low n : ℕ) (ts : List Plain) (g : Given) → SpellsAmount low n g ts → given_of low n ts ≡ Some g
spelled_amount low n ts g (above, below, (x, one, is)) =
    ap (given_of low n) is
    ∙ ap (option_and_then (λ b. option_map (given b) (number_of x))) (species_here low n g.species x above below)
    ∙ ap (option_map (given g.species)) (spelled_number_alone x g.amount one)

-- ---- whole lines
-- the line begins with the letters of this word
abbrev Begins : Word → List Plain → Type 0
Begins word.Input ts = ts ≡ PlainWord (codes "input") ∷ rest_of ts
Begins word.Amount ts = ts ≡ PlainWord (codes "amount") ∷ rest_of ts
Begins word.Segment ts = ts ≡ PlainWord (codes "segment") ∷ rest_of ts
Begins word.Other ts = Unit {0}

letters_begin : (letters : List ℕ) (ts : List Plain) → Begins (word_of letters) (PlainWord letters ∷ ts)
letters_begin letters ts = first (bytes_eq letters (codes "input")) refl
  where
    same : (name : List ℕ) → bytes_eq letters name ≡ true → ◌≡◌ {A = List Plain} (PlainWord letters ∷ ts) (PlainWord name ∷ ts)
    same name is = ap (λ l. PlainWord l ∷ ts) ((bytes_eq-Decides letters name).0 is)

    third : (c : Bool) → bytes_eq letters (codes "segment") ≡ c → Begins (cond c word.Segment word.Other) (PlainWord letters ∷ ts)
    third true is = same (codes "segment") is
    third false is = tt

    second : (b : Bool) → bytes_eq letters (codes "amount") ≡ b → Begins (cond b word.Amount (cond (bytes_eq letters (codes "segment")) word.Segment word.Other)) (PlainWord letters ∷ ts)
    second true is = same (codes "amount") is
    second false is = third (bytes_eq letters (codes "segment")) refl

    first : (a : Bool) → bytes_eq letters (codes "input") ≡ a
        → Begins (cond a word.Input (cond (bytes_eq letters (codes "amount")) word.Amount (cond (bytes_eq letters (codes "segment")) word.Segment word.Other))) (PlainWord letters ∷ ts)
    first true is = same (codes "input") is
    first false is = second (bytes_eq letters (codes "amount")) refl

word_begins : (ts : List Plain) → Begins (first_word ts) ts
word_begins [] = tt
word_begins (PlainWord letters ∷ ts) = letters_begin letters ts
word_begins (PlainNumber n ∷ ts) = tt
word_begins (PlainSign sign ∷ ts) = tt

-- one segment more
more_segments : (us vs : List (List Flow)) (ts : List Plain) → segments_with us ts ≡ Some vs → (v : List Flow) × SpellsSegment v ts × (vs ≡ us ++ v ∷ [])
more_segments us vs ts is = let (v, here, same) = map_found (λ v. us ++ v ∷ []) (segment_of ts) vs is in (v, segment_spelled ts v here, sym same)

segments_more : (us : List (List Flow)) (v : List Flow) (ts : List Plain) → SpellsSegment v ts → segments_with us ts ≡ Some (us ++ v ∷ [])
segments_more us v ts spells = ap (option_map (λ w. us ++ w ∷ [])) (spelled_segment ts v spells)

input_follows : (t u : Tail) (n : ℕ) (ts : List Plain) → t.left ≡ suc n → ts ≡ PlainWord (codes "input") ∷ rest_of ts
    → option_map (λ qs. grammar.with_input t n qs) (numbers_of (amounts_of t.rails) (rest_of ts)) ≡ Some u → Follows t ts u
input_follows t u n ts left begins is =
    let (qs, here, same) = map_found (λ qs. grammar.with_input t n qs) (numbers_of (amounts_of t.rails) (rest_of ts)) u is in
    let (long, spells) = numbers_spelled (amounts_of t.rails) (rest_of ts) qs here in
    inl (n, qs, left, (rest_of ts, long, spells, begins), sym same)

segment_follows : (t u : Tail) (ts : List Plain) → t.left ≡ 0 → ts ≡ PlainWord (codes "segment") ∷ rest_of ts
    → option_map (λ us. grammar.with_segments t us) (segments_with t.segments (rest_of ts)) ≡ Some u → Follows t ts u
segment_follows t u ts left begins is =
    let (us, here, same) = map_found (λ us. grammar.with_segments t us) (segments_with t.segments (rest_of ts)) u is in
    let (v, spells, us_is) = more_segments t.segments us (rest_of ts) here in
    inr (v, left, (rest_of ts, spells, begins), sym same ∙ ap (grammar.with_segments t) us_is)

follow_spelled : (t u : Tail) (left : ℕ) (w : Word) (ts : List Plain) → t.left ≡ left → Begins w ts → tail_follow t left w (rest_of ts) ≡ Some u → Follows t ts u
follow_spelled t u (suc n) word.Input ts left begins is = input_follows t u n ts left begins is
follow_spelled t u zero word.Segment ts left begins is = segment_follows t u ts left begins is
follow_spelled t u _ _ ts left begins is = let wrong : ◌≡◌ {A = Option Tail} None (Some u) = is in cc

-- a line after a function part
pub line_spelled : (t u : Tail) (ts : List Plain) → tail_follow t t.left (first_word ts) (rest_of ts) ≡ Some u → Follows t ts u
line_spelled t u ts is = follow_spelled t u t.left (first_word ts) ts refl (word_begins ts) is

pub spelled_line : (t u : Tail) (ts : List Plain) → Follows t ts u → tail_follow t t.left (first_word ts) (rest_of ts) ≡ Some u
spelled_line t u ts (inl (n, qs, left, (rest, long, spells, is), u_is)) =
    ap (λ l. tail_follow t t.left (first_word l) (rest_of l)) is
    ∙ ap (λ m. tail_follow t m word.Input rest) left
    ∙ ap (option_map (λ l. grammar.with_input t n l)) (spelled_numbers (amounts_of t.rails) rest qs long spells)
    ∙ ap Some (sym u_is)
spelled_line t u ts (inr (v, left, (rest, spells, is), u_is)) =
    ap (λ l. tail_follow t t.left (first_word l) (rest_of l)) is
    ∙ ap (λ m. tail_follow t m word.Segment rest) left
    ∙ ap (option_map (λ us. grammar.with_segments t us)) (segments_more t.segments v rest spells)
    ∙ ap Some (sym u_is)

amount_follows : (t u : RunTail) (ts : List Plain) → t.segments ≡ [] → ts ≡ PlainWord (codes "amount") ∷ rest_of ts
    → option_map (run.with_amount t) (given_of (last_species t.amounts) t.species (rest_of ts)) ≡ Some u → FollowsRun t ts u
amount_follows t u ts none begins is =
    let (g, here, same) = map_found (run.with_amount t) (given_of (last_species t.amounts) t.species (rest_of ts)) u is in
    inl (g, none, (rest_of ts, amount_spelled (last_species t.amounts) t.species (rest_of ts) g here, begins), sym same)

run_segment_follows : (t u : RunTail) (ts : List Plain) → ts ≡ PlainWord (codes "segment") ∷ rest_of ts
    → option_map (run.with_segments t) (segments_with t.segments (rest_of ts)) ≡ Some u → FollowsRun t ts u
run_segment_follows t u ts begins is =
    let (us, here, same) = map_found (run.with_segments t) (segments_with t.segments (rest_of ts)) u is in
    let (v, spells, us_is) = more_segments t.segments us (rest_of ts) here in
    inr (v, (rest_of ts, spells, begins), sym same ∙ ap (run.with_segments t) us_is)

run_follow_spelled : (t u : RunTail) (us : List (List Flow)) (w : Word) (ts : List Plain) → t.segments ≡ us → Begins w ts → run_follow t us w (rest_of ts) ≡ Some u → FollowsRun t ts u
run_follow_spelled t u [] word.Amount ts same begins is = amount_follows t u ts same begins is
run_follow_spelled t u us word.Segment ts same begins is =
    run_segment_follows t u ts begins (ap (λ vs. option_map (run.with_segments t) (segments_with vs (rest_of ts))) same ∙ sym (follow_segments t us (rest_of ts)) ∙ is)
run_follow_spelled t u _ _ ts same begins is = let wrong : ◌≡◌ {A = Option RunTail} None (Some u) = is in cc

-- a line after a network part
pub run_line_spelled : (t u : RunTail) (ts : List Plain) → run_follow t t.segments (first_word ts) (rest_of ts) ≡ Some u → FollowsRun t ts u
run_line_spelled t u ts is = run_follow_spelled t u t.segments (first_word ts) ts refl (word_begins ts) is

pub spelled_run_line : (t u : RunTail) (ts : List Plain) → FollowsRun t ts u → run_follow t t.segments (first_word ts) (rest_of ts) ≡ Some u
spelled_run_line t u ts (inl (g, none, (rest, spells, is), u_is)) =
    ap (λ l. run_follow t t.segments (first_word l) (rest_of l)) is
    ∙ ap (λ us. run_follow t us word.Amount rest) none
    ∙ ap (option_map (run.with_amount t)) (spelled_amount (last_species t.amounts) t.species rest g spells)
    ∙ ap Some (sym u_is)
spelled_run_line t u ts (inr (v, (rest, spells, is), u_is)) =
    ap (λ l. run_follow t t.segments (first_word l) (rest_of l)) is
    ∙ follow_segments t t.segments rest
    ∙ ap (option_map (run.with_segments t)) (segments_more t.segments v rest spells)
    ∙ ap Some (sym u_is)
