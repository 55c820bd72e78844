-- The table of gated function text: what is not allowed, that each place can end, and what holds within the limits.
use Rattle.std.proofs.Common.{◌≡◌, ℕ, suc, ◌≤◌, Bool, true, false, cond, List, [], ◌∷◌, ◌++◌, length, Option, Some, None, refl, sym, ◌∙◌, ap, subst, arith, lt-ltb, length-append}
use Rattle.std.proofs.lemmas.List.Elements.{All-nil, All-push}
use Rattle.std.proofs.lemmas.Option.{none-some, same_Some}
use Rattle.std.specs.Prelude.{All, pos, codes, slice_set}
use Rattle.std.specs.Str.{bytes_eq}
use Rattle.std.specs.Option.{option_map, option_and_then}
use Rattle.crn_fraction.specs.Rational.{ℚ, whole}
use Rattle.crn_token.specs.declared.Counted.TheVariants as counted
use Rattle.crn_token.specs.Plain.{Plain, PlainLine, PlainWord, PlainNumber}
use Rattle.crn_token.specs.Words.{rest_of, says}
use Rattle.crn_grammar.specs.Table.{Read, IsText, PassesNone, after, CanEnd}
use Rattle.crn_grammar.specs.Reading.{judged}
use Rattle.crn_grammar.proofs.LimitLaws.{not_passed}
use Rattle.crn_grammar.proofs.TableLaws.{can_end, kept_to_the_end}
use Rattle.crn_grammar.proofs.Turns.{judged_read}
use Rattle.crn_form_text.specs.Grammar.{signed}
use Rattle.crn_form_text.specs.Reading.{no_entries, form_with}
use Rattle.crn_gated.specs.Forms.{GatedForm, IsGatedForm, AreFewGatedForms}
use Rattle.crn_gated.specs.Grammar as grammar
use Rattle.crn_gated.specs.Grammar.{PlainGated, Place, Start, Header, Sized, InForms, gated, gated_form_of, header, size, follow, goes_on, next, limit, gated_table}
use Rattle.crn_gated.specs.Reading.{IsKept}
use Rattle.crn_gated.proofs.GateText.{gated_spelled, spelled_fits}

-- ---- one line more

-- it does not go on
pub never_next : (s : Place) (line : PlainLine) → goes_on s line ≡ false → next s line ≡ None
never_next s line off = ap (λ b. cond b (follow s (rest_of (says line))) None) off

-- it does
pub next_on : (s : Place) (line : PlainLine) → goes_on s line ≡ true → next s line ≡ follow s (rest_of (says line))
next_on s line on = ap (λ b. cond b (follow s (rest_of (says line))) None) on

-- where it is allowed, it does
pub next_goes : (s : Place) (line : PlainLine) (t : Place) → next s line ≡ Some t → goes_on s line ≡ true
next_goes s line t is = go (goes_on s line) refl
  where
    go : (b : Bool) → goes_on s line ≡ b → goes_on s line ≡ true
    go true on = on
    go false off = absurd (none-some t (sym (never_next s line off) ∙ is))

-- ---- each place can end
abbrev pub Fine : Place → Type 0
Fine (Sized k) = 1 ≤ k
Fine _ = Unit {0}

abbrev FineNext : Option Place → Type 0
FineNext None = Unit {0}
FineNext (Some t) = Fine t

fine_map : {X : Type 0} (f : X → Place) → ((x : X) → Fine (f x)) → (o : Option X) → FineNext (option_map f o)
fine_map f fine None = tt
fine_map f fine (Some x) = fine x

fine_header : (rest : List Plain) → FineNext (header rest)
fine_header (PlainWord letters ∷ []) = go (bytes_eq letters (codes "gated"))
  where
    go : (b : Bool) → FineNext (cond b (Some Header) None)
    go true = tt
    go false = tt
fine_header _ = tt

fine_size : (rest : List Plain) → FineNext (size rest)
fine_size (PlainNumber (pos (suc k)) ∷ []) = omega arith
fine_size _ = tt

fine_follow : (s : Place) (rest : List Plain) → FineNext (follow s rest)
fine_follow Start rest = fine_header rest
fine_follow Header rest = fine_size rest
fine_follow (Sized k) rest = fine_map (λ f. InForms k (f ∷ [])) (λ f. tt) (gated_form_of k rest)
fine_follow (InForms k forms) rest = fine_map (λ f. InForms k (forms ++ f ∷ [])) (λ f. tt) (gated_form_of k rest)

pub fine_next : (s : Place) (line : PlainLine) (t : Place) → Fine s → next s line ≡ Some t → Fine t
fine_next s line t fine is = subst FineNext (sym (next_on s line (next_goes s line t is)) ∙ is) (fine_follow s (rest_of (says line)))

-- some lines lead on to the end of a text
abbrev Ends : Place → Type 0
Ends s = (more : List PlainLine) × (t : Place) × (f : PlainGated) × (after gated_table s more ≡ Some t) × (grammar.whole t ≡ Some f)

abbrev said_line : List Plain → PlainLine
said_line tokens = record { number = 0; bad = false; tokens = tokens }

-- one line more
ends_after : (s t : Place) (line : PlainLine) → next s line ≡ Some t → Ends t → Ends s
ends_after s t line is (more, u, f, there, end) = (line ∷ more, u, f, ap (option_and_then (λ v. after gated_table v more)) is ∙ there, end)

-- the first variable, and what stands in each column after it
abbrev x1 : List Plain
x1 = PlainWord (codes "x") ∷ PlainNumber (pos 1) ∷ []

abbrev x1_entries : List (Option ℚ)
x1_entries = slice_set no_entries 0 (Some (whole (signed false 1)))

some_gated : (k : ℕ) → 1 ≤ k → gated_form_of k x1 ≡ Some (gated (form_with k x1_entries) None)
some_gated k some = rw (lt-ltb 0 k some) refl

ends_sized : (k : ℕ) → 1 ≤ k → Ends (Sized k)
ends_sized k some =
    ends_after (Sized k) (InForms k (gated (form_with k x1_entries) None ∷ [])) (said_line (PlainWord (codes "form") ∷ x1)) (ap (option_map (λ d. InForms k (d ∷ []))) (some_gated k some))
    ([], InForms k (gated (form_with k x1_entries) None ∷ []), _, refl, refl)

ends_header : Ends Header
ends_header = ends_after Header (Sized 1) (said_line (PlainWord (codes "variables") ∷ PlainNumber (pos 1) ∷ [])) refl (ends_sized 1 (omega arith))

ends : (s : Place) → Fine s → Ends s
ends Start fine = ends_after Start Header (said_line (PlainWord (codes "function") ∷ PlainWord (codes "gated") ∷ [])) refl ends_header
ends Header fine = ends_header
ends (Sized k) fine = ends_sized k fine
ends (InForms k forms) fine = ([], InForms k forms, _, refl, refl)

pub gated_can_end : CanEnd gated_table
gated_can_end = can_end gated_table Fine tt fine_next ends

-- ---- within the limits
abbrev KeptNext : Option Place → Type 0
KeptNext None = Unit {0}
KeptNext (Some t) = limit t ≡ None → IsKept t

kept_map : {X : Type 0} (f : X → Place) (o : Option X) → ((x : X) → o ≡ Some x → limit (f x) ≡ None → IsKept (f x)) → KeptNext (option_map f o)
kept_map f None kept = tt
kept_map f (Some x) kept = kept x refl

kept_header : (rest : List Plain) → KeptNext (header rest)
kept_header (PlainWord letters ∷ []) = go (bytes_eq letters (codes "gated"))
  where
    go : (b : Bool) → KeptNext (cond b (Some Header) None)
    go true = λ low. tt
    go false = tt
kept_header _ = tt

kept_size : (rest : List Plain) → KeptNext (size rest)
kept_size (PlainNumber (pos (suc k)) ∷ []) = λ low. (omega arith, not_passed 8 counted.Variables (suc k) low)
kept_size _ = tt

kept_forms : (k : ℕ) (forms : List GatedForm) (rest : List Plain) → 1 ≤ k → k ≤ 8 → All (IsGatedForm k) forms → KeptNext (option_map (λ f. InForms k (forms ++ f ∷ [])) (gated_form_of k rest))
kept_forms k forms rest some few each =
    kept_map (λ f. InForms k (forms ++ f ∷ [])) (gated_form_of k rest) (λ f is low. record {
      low = some;
      high = few;
      forms = record {
        some = omega (arith, length-append forms (f ∷ []));
        each = All-push (IsGatedForm k) forms f each (spelled_fits k f rest (gated_spelled k f rest few is));
      };
      few = not_passed 32 counted.Forms (length (forms ++ f ∷ [])) low;
    })

kept_follow : (s : Place) (rest : List Plain) → IsKept s → KeptNext (follow s rest)
kept_follow Start rest kept = kept_header rest
kept_follow Header rest kept = kept_size rest
kept_follow (Sized k) rest kept = kept_forms k [] rest kept.0 kept.1 (All-nil (IsGatedForm k))
kept_follow (InForms k forms) rest kept = kept_forms k forms rest kept.low kept.high kept.forms.each

-- a line that leads on keeps what holds
pub kept_judged : (number : ℕ) (s t : Place) (rest : List Plain) → IsKept s → judged limit number (follow s rest) ≡ Read t → IsKept t
kept_judged number s t rest kept is =
    let (there, low) = judged_read limit number (follow s rest) t is in
    let next : KeptNext (Some t) = subst KeptNext there (kept_follow s rest kept) in
    next low

pub kept_next : (s : Place) (line : PlainLine) (t : Place) → IsKept s → next s line ≡ Some t → limit t ≡ None → IsKept t
kept_next s line t kept is low =
    subst KeptNext (sym (next_on s line (next_goes s line t is)) ∙ is) (kept_follow s (rest_of (says line)) kept) low

-- a text within the limits gives forms by the rule
pub whole_fits : (s : Place) (f : PlainGated) → IsKept s → grammar.whole s ≡ Some f → AreFewGatedForms f.variables f.forms
whole_fits (InForms k forms) f kept is = subst (λ g. AreFewGatedForms g.variables g.forms) (same_Some _ f is) kept
whole_fits Start f kept is = absurd (none-some f is)
whole_fits Header f kept is = absurd (none-some f is)
whole_fits (Sized k) f kept is = absurd (none-some f is)

pub text_fits : (lines : List PlainLine) (f : PlainGated) → IsText gated_table lines f → PassesNone gated_table lines → AreFewGatedForms f.variables f.forms
text_fits lines f text low = let (s, kept, is) = kept_to_the_end gated_table IsKept tt kept_next lines f text low in whole_fits s f kept is
