-- One line more after the network part.
use Rattle.std.proofs.Common.{◌≡◌, ℕ, cond, List, [], ◌∷◌, length, drop, map, Option, Some, None, refl, sym, ◌∙◌, ap, ap₂, subst, arith}
use Rattle.std.specs.Option.{option_map, option_map_or, option_and_then}
use Rattle.std.specs.Prelude.{Result, Ok, Err, IsErrAnd}
use Rattle.crn_fraction.specs.Rational.{ℚ, 0ℚ, ◌≤ℚ◌}
use Rattle.crn_token.specs.declared.Counted.TheVariants as counted
use Rattle.crn_token.specs.declared.Token.{Token}
use Rattle.crn_token.specs.declared.Line.{Line}
use Rattle.crn_token.specs.Plain.{Plain, plain_token, plain_line}
use Rattle.crn_grammar.specs.Table.{Read, Limited, Answer}
use Rattle.crn_token.specs.Words.{rest_of}
use Rattle.crn_net.specs.declared.Flow.{Flow}
use Rattle.crn_net_text.specs.Grammar.{species_at}
use Rattle.crn_token.proofs.Options.{then_found, map_found}
use Rattle.crn_token.specs.declared.Counted.{Counted}
use Rattle.crn_job.specs.declared.run_tail.RunTail.{RunTail as CodeTail}
use Rattle.crn_job.specs.declared.words.Word.{Word}
use Rattle.crn_job.specs.declared.words.Word.TheVariants as word
use Rattle.crn_job.specs.Words.{first_word}
use Rattle.crn_job.specs.Grammar.{most_segments, number_of, segments_with, segments_limit}
use Rattle.crn_job.specs.RunGrammar.{Given, RunTail, RunValue, given, state_given, given_of, last_species, with_amount, with_segments, run_follow, run_next, run_limit}
use Rattle.crn_grammar.specs.Reading.{judged, Refuses}
use Rattle.crn_job.specs.Reading.{Shows, IsRunKept, Leads}
use Rattle.crn_job.proofs.Numbers.{number_of_nonnegative}
use Rattle.crn_job.proofs.Segments.{segments_are}
use Rattle.crn_segments.specs.Steps.{AreSegments}
use Rattle.crn_grammar.specs.Followed.{answer_map}
use Rattle.crn_job.proofs.Flows.{judged_segments}
use Rattle.crn_grammar.proofs.LimitLaws.{not_passed}
use Rattle.crn_grammar.proofs.Turns.{judged_read}
use Rattle.crn_grammar.specs.declared.error.TextError.{TextError}
use Rattle.crn_job.proofs.LineLaws.{word_is, rest_is}

-- what is read of a line is what it says
pub run_line_next : (bytes : List ℕ) (line : Line) (tokens rest : List Token) (t : RunTail) (w : Word) → tokens ≡ cond line.bad [] line.tokens.items → w ≡ first_word (map (plain_token bytes) tokens) → rest ≡ rest_of tokens
    → run_follow t t.segments w (map (plain_token bytes) rest) ≡ run_next t (plain_line bytes line)
run_line_next bytes line tokens rest t w tokens_are is rest_are =
    ap₂ (run_follow t t.segments) (word_is bytes line tokens w tokens_are is) (rest_is bytes line tokens rest tokens_are rest_are)

-- ---- amounts
no_segments : (us : List (List Flow)) → length us ≡ 0 → us ≡ []
no_segments [] none = refl
no_segments (u ∷ us) none = absurd (omega arith)

-- an amount line before the first segment line
pub amount_first : (t : RunTail) (us : List (List Flow)) (ts : List Plain) → length us ≡ 0 → run_follow t us word.Amount ts ≡ option_map (with_amount t) (given_of (last_species t.amounts) t.species ts)
amount_first t us ts none = ap (λ vs. run_follow t vs word.Amount ts) (no_segments us none)

pub judged_amount : (number : ℕ) (t : RunTail) (g : Given) → length t.segments ≡ 0 → judged run_limit number (Some (with_amount t g)) ≡ Read (with_amount t g)
judged_amount number t g none = ap (λ us. option_map_or (λ what. Limited what) (segments_limit us) (Read (with_amount t g))) (no_segments t.segments none)

-- ---- segments
pub follow_segments : (t : RunTail) (us : List (List Flow)) (ts : List Plain) → run_follow t us word.Segment ts ≡ option_map (λ vs. with_segments t vs) (segments_with us ts)
follow_segments t [] ts = refl
follow_segments t (u ∷ us) ts = refl

-- ---- other lines

-- ---- the tokens of an amount line
pub given_is : (low n a : ℕ) (ts us : List Plain) (o : Option ℚ) → Some a ≡ species_at low n ts → o ≡ number_of us → us ≡ drop 2 ts → option_map (given a) o ≡ given_of low n ts
given_is low n a ts us o species number us_is =
    ap (option_map (given a)) (number ∙ ap number_of us_is) ∙ ap (option_and_then (λ b. option_map (given b) (number_of (drop 2 ts)))) species

pub given_none : (low n : ℕ) (ts : List Plain) → None ≡ species_at low n ts → None ≡ given_of low n ts
given_none low n ts species = ap (option_and_then (λ b. option_map (given b) (number_of (drop 2 ts)))) species

given_nonnegative : (low n : ℕ) (ts : List Plain) (g : Given) → given_of low n ts ≡ Some g → 0ℚ ≤ℚ g.amount
given_nonnegative low n ts g is =
    let (a, here, rest) = then_found (λ b. option_map (given b) (number_of (drop 2 ts))) (species_at low n ts) g is in
    let (q, there, same) = map_found (given a) (number_of (drop 2 ts)) g rest in
    subst (λ h. 0ℚ ≤ℚ h.amount) same (number_of_nonnegative (drop 2 ts) q there)

-- ---- what is kept
abbrev KeptNext : ℕ → Option RunTail → Type 0
KeptNext n None = Unit {0}
KeptNext n (Some t) = run_limit t ≡ None → IsRunKept n t

kept_map : {X : Type 0} (n : ℕ) (f : X → RunTail) (o : Option X) → ((x : X) → o ≡ Some x → run_limit (f x) ≡ None → IsRunKept n (f x)) → KeptNext n (option_map f o)
kept_map n f None kept = tt
kept_map n f (Some x) kept = kept x refl

kept_follow : (n : ℕ) (t : RunTail) (us : List (List Flow)) (w : Word) (ts : List Plain) → IsRunKept n t → AreSegments us → KeptNext n (run_follow t us w ts)
kept_follow n t [] word.Amount ts kept all =
    kept_map n (with_amount t) (given_of (last_species t.amounts) t.species ts) (λ g is low. record {
      species = kept.species;
      few = kept.few;
      not_negative = (given_nonnegative (last_species t.amounts) t.species ts g is, kept.not_negative);
      segments = kept.segments;
    })
kept_follow n t us word.Segment ts kept all =
    subst (KeptNext n) (sym (follow_segments t us ts)) (kept_map n (λ vs. with_segments t vs) (segments_with us ts) (λ vs is low. record {
      species = kept.species;
      few = not_passed most_segments counted.Segments (length vs) low;
      not_negative = kept.not_negative;
      segments = segments_are us vs ts all is;
    }))
kept_follow n t _ _ ts kept all = tt

pub run_kept : (n number : ℕ) (t u : RunTail) (w : Word) (ts : List Plain) → IsRunKept n t → judged run_limit number (run_follow t t.segments w ts) ≡ Read u → IsRunKept n u
run_kept n number t u w ts kept is =
    let (there, low) = judged_read run_limit number (run_follow t t.segments w ts) u is in
    let next : KeptNext n (Some u) = subst (KeptNext n) there (kept_follow n t t.segments w ts kept kept.segments) in
    next low

-- the answer to a segment line is that to its segments
pub judged_follow_segments : (number : ℕ) (t : RunTail) (ts : List Plain) → judged run_limit number (run_follow t t.segments word.Segment ts) ≡ answer_map (λ us. with_segments t us) (judged segments_limit number (segments_with t.segments ts))
judged_follow_segments number t ts = ap (judged run_limit number) (follow_segments t t.segments ts) ∙ judged_segments run_limit number (λ us. with_segments t us) (segments_with t.segments ts) (λ us. refl)

-- what the code has is what its place says
pub value_shown : (c : CodeTail) (t : RunTail) → Shows c t → ◌≡◌ {A = RunValue} (record { state = c.state; segments = c.segments.items }) (record { state = state_given t.species t.amounts; segments = t.segments })
value_shown c t shows = ap₂ (λ (state : List ℚ) (us : List (List Flow)). let v : RunValue = record { state = state; segments = us } in v) shows.state shows.segments

-- what is refused with an error of a call is refused so
pub leads_nowhere : (r : Result CodeTail TextError) (e : TextError) (a : Answer RunTail (Counted × ℕ)) → IsErrAnd r (λ f. f ≡ e) → Refuses e a → Leads r a
leads_nowhere (Ok c) e a is refuses = absurd is
leads_nowhere (Err f) e a is refuses = subst (λ g. Refuses g a) (sym is) refuses
