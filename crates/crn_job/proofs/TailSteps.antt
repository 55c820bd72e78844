-- One line more after the function part, and the end of the text.
use Rattle.std.proofs.Common.{◌≡◌, ℕ, zero, suc, ◌+◌, ◌*◌, cond, List, [], ◌∷◌, length, drop, map, Option, Some, None, refl, ◌∙◌, ap, ap₂, subst, arith, length-append}
use Rattle.std.specs.Option.{option_map, option_and_then}
use Rattle.std.proofs.lemmas.Option.{same_Some}
use Rattle.crn_fraction.specs.Rational.{ℚ}
use Rattle.crn_token.specs.declared.Counted.TheVariants as counted
use Rattle.crn_token.specs.declared.Token.{Token}
use Rattle.crn_token.specs.declared.Line.{Line}
use Rattle.crn_token.specs.Plain.{Plain, plain_token, plain_line}
use Rattle.crn_grammar.specs.Table.{Read}
use Rattle.crn_form_text.specs.Reading.{fraction_at}
use Rattle.crn_token.specs.Words.{rest_of}
use Rattle.crn_grammar.proofs.LimitLaws.{not_passed}
use Rattle.crn_grammar.proofs.Turns.{judged_read}
use Rattle.crn_net.specs.Network.{AreNotNegative}
use Rattle.crn_net.specs.declared.Rails.{Rails}
use Rattle.crn_net.proofs.Start.{AreNotNegative-append}
use Rattle.crn_job.specs.declared.words.Word.{Word}
use Rattle.crn_job.specs.declared.words.Word.TheVariants as word
use Rattle.crn_job.specs.Words.{first_word}
use Rattle.crn_job.specs.Grammar.{Tail, most_segments, amounts_of, numbers_of, segments_with, with_input, with_segments, tail_follow, tail_next, tail_limit}
use Rattle.crn_grammar.specs.Reading.{judged}
use Rattle.crn_job.specs.Reading.{IsKept}
use Rattle.crn_job.proofs.Numbers.{found_nonnegative}
use Rattle.crn_job.proofs.Segments.{segments_are}
use Rattle.crn_job.proofs.LineLaws.{word_is, rest_is}

-- what is read of a line is what it says
pub line_next : (bytes : List ℕ) (line : Line) (tokens rest : List Token) (t : Tail) (w : Word) → tokens ≡ cond line.bad [] line.tokens.items → w ≡ first_word (map (plain_token bytes) tokens) → rest ≡ rest_of tokens
    → tail_follow t t.left w (map (plain_token bytes) rest) ≡ tail_next t (plain_line bytes line)
line_next bytes line tokens rest t w tokens_are is rest_are =
    ap₂ (tail_follow t t.left) (word_is bytes line tokens w tokens_are is) (rest_is bytes line tokens rest tokens_are rest_are)

-- ---- what is kept
-- the numbers of a line
record AreNumbers (n : ℕ) (qs : List ℚ) : Type 0 where
  long : length qs ≡ n
  not_negative : AreNotNegative qs

numbers_are : (n : ℕ) (ts : List Plain) (qs : List ℚ) → numbers_of n ts ≡ Some qs → AreNumbers n qs
numbers_are zero [] qs is = subst (AreNumbers 0) (same_Some [] qs is) (record { long = refl; not_negative = tt })
numbers_are zero (t ∷ ts) qs is = let wrong : ◌≡◌ {A = Option (List ℚ)} None (Some qs) = is in cc
numbers_are (suc n) ts qs is = go (fraction_at ts) refl is (λ m rs there. numbers_are n (drop m ts) rs there)
  where
    go : (o : Option (ℚ × ℕ)) → fraction_at ts ≡ o → option_and_then (λ p. option_map (λ rs. p.0 ∷ rs) (numbers_of n (drop p.1 ts))) o ≡ Some qs
        → ((m : ℕ) (rs : List ℚ) → numbers_of n (drop m ts) ≡ Some rs → AreNumbers n rs) → AreNumbers (suc n) qs
    go None e found again = let wrong : ◌≡◌ {A = Option (List ℚ)} None (Some qs) = found in cc
    go (Some (q, m)) e found again = more (numbers_of n (drop m ts)) refl found
      where
        more : (o : Option (List ℚ)) → numbers_of n (drop m ts) ≡ o → option_map (λ rs. q ∷ rs) o ≡ Some qs → AreNumbers (suc n) qs
        more None f found = let wrong : ◌≡◌ {A = Option (List ℚ)} None (Some qs) = found in cc
        more (Some rs) f found =
            let are = again m rs f in
            subst (AreNumbers (suc n)) (same_Some (q ∷ rs) qs found) (record { long = omega (arith, are.long); not_negative = (found_nonnegative ts q m e, are.not_negative) })

abbrev KeptNext : Rails → ℕ → Option Tail → Type 0
KeptNext rails inputs None = Unit {0}
KeptNext rails inputs (Some t) = tail_limit t ≡ None → IsKept rails inputs t

kept_map : {X : Type 0} (rails : Rails) (inputs : ℕ) (f : X → Tail) (o : Option X) → ((x : X) → o ≡ Some x → tail_limit (f x) ≡ None → IsKept rails inputs (f x)) → KeptNext rails inputs (option_map f o)
kept_map rails inputs f None kept = tt
kept_map rails inputs f (Some x) kept = kept x refl

kept_input : (rails : Rails) (inputs n : ℕ) (t : Tail) (rest : List Plain) → t.left ≡ suc n → IsKept rails inputs t → KeptNext rails inputs (option_map (λ qs. with_input t n qs) (numbers_of (amounts_of t.rails) rest))
kept_input rails inputs n t rest left kept =
    kept_map rails inputs (λ qs. with_input t n qs) (numbers_of (amounts_of t.rails) rest) (λ qs is low.
    let are = numbers_are (amounts_of t.rails) rest qs is in
    let long : length qs ≡ amounts_of rails = are.long ∙ ap amounts_of kept.rails_are in
    let one_less : t.left * amounts_of rails ≡ amounts_of rails + n * amounts_of rails = ap (λ m. m * amounts_of rails) left ∙ omega arith in
    record {
      rails_are = kept.rails_are;
      few = kept.few;
      inputs_are = omega (arith, kept.inputs_are, long, one_less, length-append t.amounts qs);
      not_negative = AreNotNegative-append t.amounts qs kept.not_negative are.not_negative;
      segments = kept.segments;
    })

kept_segment : (rails : Rails) (inputs : ℕ) (t : Tail) (rest : List Plain) → IsKept rails inputs t → KeptNext rails inputs (option_map (λ us. with_segments t us) (segments_with t.segments rest))
kept_segment rails inputs t rest kept =
    kept_map rails inputs (λ us. with_segments t us) (segments_with t.segments rest) (λ us is low. record {
      rails_are = kept.rails_are;
      few = not_passed most_segments counted.Segments (length us) low;
      inputs_are = kept.inputs_are;
      not_negative = kept.not_negative;
      segments = segments_are t.segments us rest kept.segments is;
    })

kept_follow : (rails : Rails) (inputs left : ℕ) (t : Tail) (w : Word) (rest : List Plain) → t.left ≡ left → IsKept rails inputs t → KeptNext rails inputs (tail_follow t left w rest)
kept_follow rails inputs (suc n) t word.Input rest left kept = kept_input rails inputs n t rest left kept
kept_follow rails inputs zero t word.Segment rest left kept = kept_segment rails inputs t rest kept
kept_follow rails inputs _ t _ rest left kept = tt

pub kept_judged : (rails : Rails) (inputs number : ℕ) (t u : Tail) (w : Word) (rest : List Plain) → IsKept rails inputs t → judged tail_limit number (tail_follow t t.left w rest) ≡ Read u → IsKept rails inputs u
kept_judged rails inputs number t u w rest kept is =
    let (there, low) = judged_read tail_limit number (tail_follow t t.left w rest) u is in
    let next : KeptNext rails inputs (Some u) = subst (KeptNext rails inputs) there (kept_follow rails inputs t.left t w rest refl kept) in
    next low
