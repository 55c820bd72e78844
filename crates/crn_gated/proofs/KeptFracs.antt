-- The numbers of a gated function that a text gives are fractions that fit.
use Rattle.std.proofs.Common.{◌≡◌, ℕ, suc, ◌≤◌, Bool, true, false, cond, List, [], ◌∷◌, ◌++◌, length, take, Option, Some, None, refl, sym, ◌∙◌, ap, subst, arith, take_all}
use Rattle.std.proofs.lemmas.List.Elements.{All-nil, All-push}
use Rattle.std.proofs.lemmas.Option.{none-some, same_Some}
use Rattle.std.specs.Prelude.{All, pos, codes}
use Rattle.std.specs.Str.{bytes_eq}
use Rattle.std.specs.Option.{option_map}
use Rattle.crn_token.specs.Plain.{Plain, PlainLine, PlainWord, PlainNumber, plain_lines}
use Rattle.crn_token.specs.Small.{AreSmall, AreSmallLines}
use Rattle.crn_token.specs.Words.{rest_of, says}
use Rattle.crn_token.proofs.SmallNumbers.{small_front, lines_small}
use Rattle.crn_grammar.specs.Table.{IsText, PassesNone}
use Rattle.crn_grammar.proofs.TableLaws.{EachLine, kept_where}
use Rattle.crn_linear.specs.Fracs.{AreFracs}
use Rattle.crn_form_text.proofs.Meanings.{plain_long}
use Rattle.crn_form_text.proofs.SmallSpelled.{plain_spelled_fits}
use Rattle.crn_gated.specs.Forms.{GatedForm, HasFracs}
use Rattle.crn_gated.specs.Grammar as grammar
use Rattle.crn_gated.specs.Grammar.{PlainGated, Place, Start, Header, Sized, InForms, SpellsGated, gate_tokens, gated_form_of, header, size, follow, next, limit, gated_table}
use Rattle.crn_gated.specs.Reading.{IsKept}
use Rattle.crn_gated.proofs.GateText.{gated_spelled}
use Rattle.crn_gated.proofs.GrammarLaws.{next_on, next_goes, kept_next}

-- small tokens spell a form of fractions that fit
spelled_fracs : (k : ℕ) (f : GatedForm) (ts : List Plain) → SpellsGated k f ts → AreSmall ts → HasFracs f
spelled_fracs k f ts spelled small =
    let fits = plain_spelled_fits k f.form spelled.plain spelled.spells (small_front spelled.plain (gate_tokens f.gate) (subst AreSmall spelled.tokens_are small)) in
    let long = plain_long k f.form spelled.plain spelled.spells in
    subst AreFracs (ap (λ n. take n f.form) (sym long) ∙ take_all (length f.form) f.form (omega arith)) fits.0

-- the numbers of a place are fractions that fit
abbrev AreFitting : Place → Type 0
AreFitting (InForms k forms) = All HasFracs forms
AreFitting _ = Unit {0}

abbrev FittingNext : Option Place → Type 0
FittingNext None = Unit {0}
FittingNext (Some t) = AreFitting t

fitting_map : {X : Type 0} (f : X → Place) (o : Option X) → ((x : X) → o ≡ Some x → AreFitting (f x)) → FittingNext (option_map f o)
fitting_map f None fits = tt
fitting_map f (Some x) fits = fits x refl

fitting_header : (rest : List Plain) → FittingNext (header rest)
fitting_header (PlainWord letters ∷ []) = go (bytes_eq letters (codes "gated"))
  where
    go : (b : Bool) → FittingNext (cond b (Some Header) None)
    go true = tt
    go false = tt
fitting_header _ = tt

fitting_size : (rest : List Plain) → FittingNext (size rest)
fitting_size (PlainNumber (pos (suc k)) ∷ []) = tt
fitting_size _ = tt

fitting_forms : (k : ℕ) (forms : List GatedForm) (rest : List Plain) → k ≤ 8 → AreSmall rest → All HasFracs forms → FittingNext (option_map (λ f. InForms k (forms ++ f ∷ [])) (gated_form_of k rest))
fitting_forms k forms rest few small fits =
    fitting_map (λ f. InForms k (forms ++ f ∷ [])) (gated_form_of k rest) (λ f is. All-push HasFracs forms f fits (spelled_fracs k f rest (gated_spelled k f rest few is) small))

fitting_follow : (s : Place) (rest : List Plain) → AreSmall rest → IsKept s → AreFitting s → FittingNext (follow s rest)
fitting_follow Start rest small kept fits = fitting_header rest
fitting_follow Header rest small kept fits = fitting_size rest
fitting_follow (Sized k) rest small kept fits = fitting_forms k [] rest kept.1 small (All-nil HasFracs)
fitting_follow (InForms k forms) rest small kept fits = fitting_forms k forms rest kept.high small fits

-- what a line says after its first token is small
rest_small : (ts : List Plain) → AreSmall ts → AreSmall (rest_of ts)
rest_small [] small = tt
rest_small (t ∷ ts) small = small.1

says_small : (line : PlainLine) → AreSmall line.tokens → AreSmall (says line)
says_small line small = go line.bad
  where
    go : (b : Bool) → AreSmall (cond b [] line.tokens)
    go true = tt
    go false = small

abbrev IsBoth : Place → Type 0
IsBoth s = IsKept s × AreFitting s

both_next : (s : Place) (line : PlainLine) (t : Place) → AreSmall line.tokens → IsBoth s → next s line ≡ Some t → limit t ≡ None → IsBoth t
both_next s line t small both is low = (
  kept_next s line t both.0 is low,
  subst FittingNext (sym (next_on s line (next_goes s line t is)) ∙ is) (fitting_follow s (rest_of (says line)) (rest_small (says line) (says_small line small)) both.0 both.1),
)

whole_fracs : (s : Place) (f : PlainGated) → AreFitting s → grammar.whole s ≡ Some f → All HasFracs f.forms
whole_fracs (InForms k forms) f fits is = subst (λ (g : PlainGated). All HasFracs g.forms) (same_Some _ f is) fits
whole_fracs Start f fits is = absurd (none-some f is)
whole_fracs Header f fits is = absurd (none-some f is)
whole_fracs (Sized k) f fits is = absurd (none-some f is)

each_small : (lines : List PlainLine) → AreSmallLines lines → EachLine gated_table (λ line. AreSmall line.tokens) lines
each_small [] small = tt
each_small (line ∷ lines) small = (small.0, each_small lines small.1)

pub text_fracs : (bytes : List ℕ) (f : PlainGated) → IsText gated_table (plain_lines bytes) f → PassesNone gated_table (plain_lines bytes) → All HasFracs f.forms
text_fracs bytes f text low =
    let (s, both, is) = kept_where gated_table (λ line. AreSmall line.tokens) IsBoth (tt, tt) both_next (plain_lines bytes) f (each_small (plain_lines bytes) (lines_small bytes)) text low in
    whole_fracs s f both.1 is
