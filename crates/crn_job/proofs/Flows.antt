-- Flows that stand one after another, and the segment that they are.
use Rattle.std.proofs.Common.{◌≡◌, ℕ, zero, suc, ◌-◌, ◌<◌, ◌≤◌, ◌++◌, List, [], ◌∷◌, length, drop, map, Option, Some, None, refl, sym, ◌∙◌, ap, arith, append_assoc, append-nil, cond, true, false, Bool}
use Rattle.std.proofs.lemmas.List.{drop-map, length-map}
use Rattle.std.specs.Option.{option_map, option_and_then, option_map_or}
use Rattle.crn_grammar.specs.Table.{Read, Limited}
use Rattle.crn_grammar.proofs.LimitLaws.{not_above, is_above}
use Rattle.crn_token.specs.declared.Counted.{Counted}
use Rattle.crn_token.specs.declared.Counted.TheVariants as counted
use Rattle.crn_net.specs.declared.Flow.{Flow}
use Rattle.crn_token.specs.declared.Token.{Token}
use Rattle.crn_token.specs.Plain.{Plain, plain_token}
use Rattle.crn_segments.specs.Flows.{IsSegment}
use Rattle.crn_job.specs.Grammar.{Tail, most_segments, reaction_at, flow_to, flow_at, amounts_of, numbers_of, with_input, with_segments, segments_with, segments_limit, tail_follow, tail_limit, flows_of, is_segment, segment_of}
use Rattle.crn_job.specs.declared.words.Word.TheVariants as word
use Rattle.crn_grammar.specs.Followed.{answer_map}
use Rattle.crn_grammar.specs.Reading.{judged}
use Rattle.crn_job.proofs.Segments.{segment_is, is_segment_of}

-- what follows the first flow
abbrev flows_after : ℕ → Option (Flow × ℕ) → List Plain → Option (List Flow)
flows_after n o ts = option_and_then (λ p. option_map (λ fs. p.0 ∷ fs) (flows_of n (drop p.1 ts))) o

flows_step : (n : ℕ) (ts : List Plain) → 0 < length ts → flows_of (suc n) ts ≡ flows_after n (flow_at ts) ts
flows_step n [] some = absurd (omega arith)
flows_step n (t ∷ ts) some = refl

onto : (fs : List Flow) (f : Flow) (o : Option (List Flow)) → option_map (λ gs. (fs ++ f ∷ []) ++ gs) o ≡ option_map (λ gs. fs ++ gs) (option_map (λ gs. f ∷ gs) o)
onto fs f None = refl
onto fs f (Some gs) = ap Some (append_assoc fs (f ∷ []) gs)

-- one flow more
pub flows_more : (m n : ℕ) (bytes : List ℕ) (fs : List Flow) (f : Flow) (taken : ℕ) (ts rest : List Token) → m ≡ suc n → 0 < length ts → Some (f, taken) ≡ flow_at (map (plain_token bytes) ts) → rest ≡ drop taken ts
    → option_map (λ gs. (fs ++ f ∷ []) ++ gs) (flows_of n (map (plain_token bytes) rest)) ≡ option_map (λ gs. fs ++ gs) (flows_of m (map (plain_token bytes) ts))
flows_more m n bytes fs f taken ts rest m_is some first is =
    onto fs f (flows_of n (map (plain_token bytes) rest))
    ∙ ap (option_map (λ gs. fs ++ gs)) (sym (
    ap (λ k. flows_of k (map (plain_token bytes) ts)) m_is
    ∙ flows_step n (map (plain_token bytes) ts) (omega (arith, length-map ts (plain_token bytes)))
    ∙ ap (λ o. flows_after n o (map (plain_token bytes) ts)) (sym first)
    ∙ ap (λ l. option_map (λ gs. f ∷ gs) (flows_of n l)) (drop-map (plain_token bytes) taken ts ∙ ap (map (plain_token bytes)) (sym is))))

pub flows_none : (m n : ℕ) (bytes : List ℕ) (fs : List Flow) (ts : List Token) → m ≡ suc n → 0 < length ts → None ≡ flow_at (map (plain_token bytes) ts) → option_map (λ gs. fs ++ gs) (flows_of m (map (plain_token bytes) ts)) ≡ None
flows_none m n bytes fs ts m_is some none =
    ap (option_map (λ gs. fs ++ gs)) (
    ap (λ k. flows_of k (map (plain_token bytes) ts)) m_is
    ∙ flows_step n (map (plain_token bytes) ts) (omega (arith, length-map ts (plain_token bytes)))
    ∙ ap (λ o. flows_after n o (map (plain_token bytes) ts)) (sym none))

pub flows_end : (n : ℕ) (bytes : List ℕ) (fs : List Flow) (ts : List Token) → length ts ≡ 0 → option_map (λ gs. fs ++ gs) (flows_of n (map (plain_token bytes) ts)) ≡ Some fs
flows_end zero bytes fs [] none = ap Some (append-nil fs)
flows_end (suc n) bytes fs [] none = ap Some (append-nil fs)
flows_end n bytes fs (t ∷ ts) none = absurd (omega arith)

-- flows that are a segment
abbrev if_segment : List Flow → Option (List Flow)
if_segment fs = cond (is_segment fs) (Some fs) None

pub segment_found : (ts : List Plain) (fs : List Flow) → Some fs ≡ flows_of (length ts) ts → IsSegment fs → Some fs ≡ segment_of ts
segment_found ts fs all is = sym (ap (option_and_then if_segment) (sym all) ∙ ap (λ b. cond b (Some fs) None) (is_segment_of fs is))

pub segment_none : (ts : List Plain) (fs : List Flow) → Some fs ≡ flows_of (length ts) ts → ¬ IsSegment fs → None ≡ segment_of ts
segment_none ts fs all never = sym (ap (option_and_then if_segment) (sym all) ∙ go (is_segment fs) refl)
  where
    go : (b : Bool) → is_segment fs ≡ b → cond (is_segment fs) (Some fs) None ≡ None
    go true is = absurd (never (segment_is fs is))
    go false is = ap (λ b. cond b (Some fs) None) is

pub no_flows : (ts : List Plain) → None ≡ flows_of (length ts) ts → None ≡ segment_of ts
no_flows ts none = ap (option_and_then if_segment) none

-- a segment or an input more passes no limit
pub few_segments : (us : List (List Flow)) → length us ≤ most_segments → segments_limit us ≡ None
few_segments us few = not_above most_segments counted.Segments (length us) few

pub many_segments : (us : List (List Flow)) → most_segments < length us → segments_limit us ≡ Some (counted.Segments, length us)
many_segments us many = is_above most_segments counted.Segments (length us) many

pub judged_few : (number : ℕ) (t : Tail) → length t.segments ≤ most_segments → judged tail_limit number (Some t) ≡ Read t
judged_few number t few = ap (λ l. option_map_or (λ what. Limited what) l (Read t)) (few_segments t.segments few)

-- the answer to a segment line is that to its segments
pub judged_segments : {S : Type 0} (limit : S → Option (Counted × ℕ)) (number : ℕ) (f : List (List Flow) → S) (o : Option (List (List Flow))) → ((us : List (List Flow)) → limit (f us) ≡ segments_limit us)
    → judged limit number (option_map f o) ≡ answer_map f (judged segments_limit number o)
judged_segments limit number f None same = refl
judged_segments limit number f (Some us) same = ap (λ l. option_map_or (λ what. Limited what) l (Read (f us))) (same us) ∙ go (segments_limit us)
  where
    go : (l : Option (Counted × ℕ)) → option_map_or (λ what. Limited what) l (Read (f us)) ≡ answer_map f (option_map_or (λ what. Limited what) l (Read us))
    go None = refl
    go (Some what) = refl

-- an input line while one is to come, and a segment line after the last
pub follow_input : (t : Tail) (left : ℕ) (ts : List Plain) → 0 < left → tail_follow t left word.Input ts ≡ option_map (λ qs. with_input t (left - 1) qs) (numbers_of (amounts_of t.rails) ts)
follow_input t zero ts some = absurd (omega arith)
follow_input t (suc n) ts some = let e : n ≡ suc n - 1 = omega arith in ap (λ m. option_map (λ qs. with_input t m qs) (numbers_of (amounts_of t.rails) ts)) e

pub follow_segment : (t : Tail) (left : ℕ) (ts : List Plain) → left ≤ 0 → tail_follow t left word.Segment ts ≡ option_map (λ us. with_segments t us) (segments_with t.segments ts)
follow_segment t zero ts none = refl
follow_segment t (suc n) ts none = absurd (omega arith)

-- the flow that begins the tokens
pub flow_first : (bytes : List ℕ) (ts rest : List Token) (r : ℕ) (o : Option (Flow × ℕ)) → o ≡ flow_to r (map (plain_token bytes) rest) → rest ≡ drop 2 ts → Some r ≡ reaction_at (map (plain_token bytes) ts) → o ≡ flow_at (map (plain_token bytes) ts)
flow_first bytes ts rest r o is rest_is number =
    is ∙ ap (flow_to r) (ap (map (plain_token bytes)) rest_is ∙ sym (drop-map (plain_token bytes) 2 ts))
    ∙ ap (option_and_then (λ n. flow_to n (drop 2 (map (plain_token bytes) ts)))) number

pub flow_none : (bytes : List ℕ) (ts : List Token) → None ≡ reaction_at (map (plain_token bytes) ts) → None ≡ flow_at (map (plain_token bytes) ts)
flow_none bytes ts none = ap (option_and_then (λ n. flow_to n (drop 2 (map (plain_token bytes) ts)))) none
