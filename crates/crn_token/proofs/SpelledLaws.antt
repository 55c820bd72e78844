-- Each token of a line is what the bytes of its span spell.
use Rattle.std.proofs.Common.{◌≡◌, ℕ, ◌+◌, ◌-◌, ◌==◌, List, [], ◌∷◌, ◌++◌, take, drop, Option, Some, None, sym, refl, ap, ◌∙◌, subst, ⊎_elim, drop-drop}
use Rattle.std.proofs.lemmas.Bool.{cases_Bool}
use Rattle.std.proofs.lemmas.List.Elements.{All-cons, All-nil}
use Rattle.std.specs.Prelude.{All, slice_range}
use Rattle.std.proofs.lemmas.Option.{none-some, same_Some}
use Rattle.crn_token.specs.declared.Span.{Span}
use Rattle.crn_token.specs.declared.Token.{Token}
use Rattle.crn_token.specs.Piece.{longest, token_of, span_of}
use Rattle.crn_token.specs.Lines.{tokens_from, joined}
use Rattle.crn_token.specs.Plain.{plain_of}
use Rattle.crn_token.specs.Spans.{IsSpelled}
use Rattle.crn_token.proofs.SpanLaws.{HasSpan, token_span}
use Rattle.crn_token.proofs.PlainLaws.{plains, plains-token, piece_here}

-- the token of a piece, if there is one, is what the piece says, and so are those of the rest
spelled_joined : (whole p : List ℕ) (s : Span) (a b : Option (List Token)) (ts : List Token) → HasSpan s a → slice_range whole s.start s.end ≡ p → plains whole a ≡ plain_of p → joined a b ≡ Some ts
    → ((us : List Token) → b ≡ Some us → All (IsSpelled whole) us) → All (IsSpelled whole) ts
spelled_joined whole p s None b ts has here says e rest = absurd (none-some ts e)
spelled_joined whole p s (Some []) None ts has here says e rest = absurd (none-some ts e)
spelled_joined whole p s (Some []) (Some us) ts has here says e rest = subst (All (IsSpelled whole)) (same_Some us ts e) (rest us refl)
spelled_joined whole p s (Some (t ∷ [])) None ts has here says e rest = absurd (none-some ts e)
spelled_joined whole p s (Some (t ∷ [])) (Some us) ts has here says e rest =
    subst (All (IsSpelled whole)) (same_Some (t ∷ us) ts e)
    (All-cons (IsSpelled whole) t us (ap (λ (x : Span). plain_of (slice_range whole x.start x.end)) has ∙ ap plain_of here ∙ sym says) (rest us refl))
spelled_joined whole p s (Some (t ∷ u ∷ us)) b ts has here says e rest = absurd has

-- the tokens of what is left of a line are what their spans spell
pub tokens_spelled : (whole : List ℕ) (line : ℕ) (bs : List ℕ) (covered at : ℕ) (post : List ℕ) (ts : List Token) → drop at whole ≡ bs ++ post → tokens_from line covered at bs ≡ Some ts → All (IsSpelled whole) ts
tokens_spelled whole line [] covered at post ts here e = subst (All (IsSpelled whole)) (same_Some [] ts e) (All-nil (IsSpelled whole))
tokens_spelled whole line (b ∷ bs) covered at post ts here e =
    let next : drop (at + 1) whole ≡ bs ++ post = sym (drop-drop 1 at whole) ∙ ap (drop 1) here in
    let piece = take (longest (b ∷ bs)) (b ∷ bs) in
    let text : slice_range whole (span_of line at piece).start (span_of line at piece).end ≡ piece = piece_here whole (b ∷ bs) at post here in
    ⊎_elim
    (λ t.
    let cut : joined (token_of line at (take (longest (b ∷ bs)) (b ∷ bs))) (tokens_from line (longest (b ∷ bs) - 1) (at + 1) bs) ≡ Some ts = rw t at e in
    spelled_joined whole piece (span_of line at piece) _ _ ts (token_span line at piece) text (plains-token whole line at piece text) cut
    (λ us rest. tokens_spelled whole line bs (longest (b ∷ bs) - 1) (at + 1) post us next rest))
    (λ f.
    let skipped : tokens_from line (covered - 1) (at + 1) bs ≡ Some ts = rw f at e in
    tokens_spelled whole line bs (covered - 1) (at + 1) post ts next skipped)
    (cases_Bool (covered == 0))
