-- The answer to a text that begins with a part, by the answers to the part and to what follows it, and that each place of it can end.
use Rattle.std.proofs.Common.{◌≡◌, ℕ, Bool, true, false, cond, List, [], ◌∷◌, ◌++◌, Option, Some, None, refl, ◌∙◌, ap, subst}
use Rattle.std.specs.Option.{option_map, option_and_then, option_map_or}
use Rattle.crn_token.specs.declared.Counted.{Counted}
use Rattle.crn_grammar.specs.declared.error.TextError.{TextError}
use Rattle.crn_grammar.specs.declared.error.TextError.TheVariants as error
use Rattle.crn_grammar.specs.Reading.{Refuses, RefusesPart}
use Rattle.crn_grammar.specs.Table.{Table, Answer, Read, Malformed, Limited, answer, after, CanEnd}
use Rattle.crn_grammar.specs.Part.{Either, Part, After, PartAnswer, Ends, Wrong, Past, part_answer, Leaves, go_on}
use Rattle.crn_grammar.proofs.TableLaws.{can_end, after_then}
use Rattle.crn_grammar.proofs.PartLaws.{answer_parts}
use Rattle.crn_grammar.specs.Followed.{Following, following_start, following_next, following_whole, following_limit, followed_table, answer_map}

-- ---- the answer
module _ {S R L F V G W : Type 0} (table : Table S L F W) (goes_on : S → L → Bool) (rest : F → Table R L V W) (value : F → V → G) (number : L → ℕ) (end : ℕ) where
  abbrev of_text : F → R → List L → Answer G W
  of_text f p lines = answer (followed_table table goes_on rest value) number end (After (record { part = f; place = p })) lines

  abbrev of_rest : F → R → List L → Answer V W
  of_rest f p lines = answer (rest f) number end p lines

  abbrev ends_with : {X : Type 0} → Option X → Answer X W
  ends_with o = option_map_or (λ x. Read x) o (Malformed end)

  ended : (f : F) (o : Option V) → ends_with (option_map (value f) o) ≡ answer_map (value f) (ends_with o)
  ended f None = refl
  ended f (Some v) = refl

  abbrev after_line : F → List L → ℕ → Option R → Answer V W
  after_line f lines n o = option_map_or (λ p. option_map_or (λ what. Limited what) ((rest f).limit p) (of_rest f p lines)) o (Malformed n)

  past : (f : F) (lines : List L) (p : R) → of_text f p lines ≡ answer_map (value f) (of_rest f p lines) → (o : Option W)
      → option_map_or (λ what. Limited what) o (of_text f p lines) ≡ answer_map (value f) (option_map_or (λ what. Limited what) o (of_rest f p lines))
  past f lines p again None = again
  past f lines p again (Some what) = refl

  -- from the part on
  started : (f : F) (lines : List L) (n : ℕ) → ((p : R) → of_text f p lines ≡ answer_map (value f) (of_rest f p lines)) → (o : Option R)
      → option_map_or (λ r. option_map_or (λ what. Limited what) (following_limit rest r) (answer (followed_table table goes_on rest value) number end (After r) lines)) (option_map (λ p. record { part = f; place = p }) o) (Malformed n)
      ≡ answer_map (value f) (after_line f lines n o)
  started f lines n again None = refl
  started f lines n again (Some p) = past f lines p (again p) ((rest f).limit p)

  -- and from one line to the next
  stepped : (f : F) (lines : List L) (n : ℕ) → ((p : R) → of_text f p lines ≡ answer_map (value f) (of_rest f p lines)) → (o : Option R)
      → option_map_or (λ s. option_map_or (λ what. Limited what) ((followed_table table goes_on rest value).limit s) (answer (followed_table table goes_on rest value) number end s lines)) (option_map (λ r. After r) (option_map (λ p. record { part = f; place = p }) o)) (Malformed n)
      ≡ answer_map (value f) (after_line f lines n o)
  stepped f lines n again None = refl
  stepped f lines n again (Some p) = past f lines p (again p) ((rest f).limit p)

  after_is : (f : F) (p : R) (lines : List L) → of_text f p lines ≡ answer_map (value f) (of_rest f p lines)
  after_is f p [] = ended f ((rest f).whole p)
  after_is f p (line ∷ lines) = stepped f lines (number line) (λ q. after_is f q lines) ((rest f).next p line)

  abbrev pub followed_on : PartAnswer L F W → Answer G W
  followed_on (Ends f lines) = answer_map (value f) (answer (rest f) number end (rest f).start lines)
  followed_on (Wrong n) = Malformed n
  followed_on (Past what) = Limited what

  on_is : (part : PartAnswer L F W) → go_on table goes_on (following_start rest) (following_next rest) (following_whole rest value) (following_limit rest) number end part ≡ followed_on part
  on_is (Ends f []) = ended f ((rest f).whole (rest f).start)
  on_is (Ends f (line ∷ lines)) = started f lines (number line) (λ q. after_is f q lines) ((rest f).next (rest f).start line)
  on_is (Wrong n) = refl
  on_is (Past what) = refl

  -- the answer to a text, by that to its part
  pub followed_is : (s : S) (lines : List L) → answer (followed_table table goes_on rest value) number end (Part s) lines ≡ followed_on (part_answer table goes_on number end s lines)
  followed_is s lines =
      answer_parts table goes_on (following_start rest) (following_next rest) (following_whole rest value) (following_limit rest) number end s lines
      ∙ on_is (part_answer table goes_on number end s lines)

-- a refusal of what an answer belongs to
pub refused_with : {V G : Type 0} (value : V → G) (e : TextError) (a : Answer V (Counted × ℕ)) → Refuses e a → Refuses e (answer_map value a)
refused_with value (error.Malformed n) a is = ap (answer_map value) is
refused_with value (error.Limit what count) a is = ap (answer_map value) is
refused_with value error.Memory a is = tt

-- a refusal of the part is one of the text
module _ {S R L F V G : Type 0} (table : Table S L F (Counted × ℕ)) (goes_on : S → L → Bool) (rest : F → Table R L V (Counted × ℕ)) (value : F → V → G) (number : L → ℕ) (end : ℕ) where
  pub followed_refused : (e : TextError) (part : PartAnswer L F (Counted × ℕ)) → RefusesPart e part → Refuses e (followed_on table goes_on rest value number end part)
  followed_refused (error.Malformed n) part is = ap (followed_on table goes_on rest value number end) is
  followed_refused (error.Limit what count) part is = ap (followed_on table goes_on rest value number end) is
  followed_refused error.Memory part is = tt

-- ---- each place can end
-- some lines more lead to the end of a text
abbrev pub Stops : {S L F W : Type 0} → Table S L F W → S → Type 0
Stops {S} {L} {F} table s = (more : List L) × (t : S) × (f : F) × (after table s more ≡ Some t) × (table.whole t ≡ Some f)

module _ {S R L F V G W : Type 0} (table : Table S L F W) (goes_on : S → L → Bool) (rest : F → Table R L V W) (value : F → V → G) where
  abbrev text : Table (Either S (Following F R)) L G W
  text = followed_table table goes_on rest value

  abbrev at : F → R → Either S (Following F R)
  at f p = After (record { part = f; place = p })

  -- lines of what follows are lines of the text
  rest_after : (f : F) (more : List L) (p q : R) → after (rest f) p more ≡ Some q → after text (at f p) more ≡ Some (at f q)
  rest_after f [] p q there = let same : p ≡ q = cc in ap (λ r. Some (at f r)) same
  rest_after f (line ∷ more) p q there = go ((rest f).next p line) refl there (λ u here. rest_after f more u q here)
    where
      go : (o : Option R) → (rest f).next p line ≡ o → option_and_then (λ u. after (rest f) u more) o ≡ Some q → ((u : R) → after (rest f) u more ≡ Some q → after text (at f u) more ≡ Some (at f q))
          → after text (at f p) (line ∷ more) ≡ Some (at f q)
      go None e here again = let wrong : ◌≡◌ {A = Option R} None (Some q) = here in cc
      go (Some u) e here again = ap (λ o. option_and_then (λ v. after text v more) (option_map (λ r. After r) (option_map (λ p. record { part = f; place = p }) o))) e ∙ again u here

  -- and so are lines of the part
  part_after : ((s : S) (line : L) (t : S) → table.next s line ≡ Some t → goes_on s line ≡ true) → (more : List L) (s t : S) → after table s more ≡ Some t → after text (Part s) more ≡ Some (Part t)
  part_after goes [] s t there = let same : s ≡ t = cc in ap (λ u. Some (Part u)) same
  part_after goes (line ∷ more) s t there = go (table.next s line) refl there (λ u here. part_after goes more u t here)
    where
      go : (o : Option S) → table.next s line ≡ o → option_and_then (λ u. after table u more) o ≡ Some t → ((u : S) → after table u more ≡ Some t → after text (Part u) more ≡ Some (Part t))
          → after text (Part s) (line ∷ more) ≡ Some (Part t)
      go None e here again = let wrong : ◌≡◌ {A = Option S} None (Some t) = here in cc
      go (Some u) e here again =
          ap (option_and_then (λ v. after text v more)) (
          ap (λ b. cond b (option_map (λ v. Part v) (table.next s line)) (option_and_then (λ g. option_map (λ r. After r) (following_next rest (following_start rest g) line)) (table.whole s))) (goes s line u e)
          ∙ ap (option_map (λ v. Part v)) e)
          ∙ again u here

  -- where the part is whole, lines of what follows end the text
  stops_whole : (s : S) (f : F) (more : List L) (p : R) (v : V) → table.whole s ≡ Some f → after (rest f) (rest f).start more ≡ Some p → (rest f).whole p ≡ Some v → Leaves goes_on s more → Stops text (Part s)
  stops_whole s f [] p v is there end leaves =
      let same : (rest f).start ≡ p = cc in (
        [],
        Part s,
        value f v,
        refl,
        ap (option_and_then (λ g. following_whole rest value (following_start rest g))) is ∙ ap (λ q. option_map (value f) ((rest f).whole q)) same ∙ ap (option_map (value f)) end,
      )
  stops_whole s f (line ∷ more) p v is there end leaves =
      (line ∷ more, at f p, value f v, led ∙ go ((rest f).next (rest f).start line) there, ap (option_map (value f)) end)
    where
      led : after text (Part s) (line ∷ more) ≡ option_and_then (λ u. after text u more) (option_map (λ r. After r) (following_next rest (following_start rest f) line))
      led =
          ap (option_and_then (λ u. after text u more)) (
          ap (λ b. cond b (option_map (λ v. Part v) (table.next s line)) (option_and_then (λ g. option_map (λ r. After r) (following_next rest (following_start rest g) line)) (table.whole s))) leaves
          ∙ ap (option_and_then (λ g. option_map (λ r. After r) (following_next rest (following_start rest g) line))) is)

      go : (o : Option R) → option_and_then (λ u. after (rest f) u more) o ≡ Some p
          → option_and_then (λ u. after text u more) (option_map (λ r. After r) (option_map (λ q. record { part = f; place = q }) o)) ≡ Some (at f p)
      go None here = let wrong : ◌≡◌ {A = Option R} None (Some p) = here in cc
      go (Some u) here = rest_after f more u p here

  -- what is known of a place, in the part or in what follows: lines lead to it
  abbrev fine : Either S (Following F R) → Type 0
  fine (Part s) = (lines : List L) × (after table table.start lines ≡ Some s)
  fine (After r) = (lines : List L) × (after (rest r.part) (rest r.part).start lines ≡ Some r.place)

  abbrev fine_option : Option (Either S (Following F R)) → Type 0
  fine_option None = Unit {0}
  fine_option (Some t) = fine t

  -- a line more after these
  fine_after : (f : F) (lines : List L) (p : R) (line : L) → after (rest f) (rest f).start lines ≡ Some p → (o : Option R) → (rest f).next p line ≡ o
      → fine_option (option_map (λ r. After r) (option_map (λ q. record { part = f; place = q }) o))
  fine_after f lines p line there None e = tt
  fine_after f lines p line there (Some q) e = (lines ++ line ∷ [], after_then (rest f) (rest f).start p lines (line ∷ []) there ∙ ap (option_and_then (λ u. Some u)) e)

  fine_enters : (line : L) (o : Option F) → fine_option (option_and_then (λ g. option_map (λ r. After r) (following_next rest (following_start rest g) line)) o)
  fine_enters line None = tt
  fine_enters line (Some g) = fine_after g [] (rest g).start line refl ((rest g).next (rest g).start line) refl

  fine_next : (s : Either S (Following F R)) (line : L) → fine s → fine_option (text.next s line)
  fine_next (After r) line (lines, there) = fine_after r.part lines r.place line there ((rest r.part).next r.place line) refl
  fine_next (Part s) line (lines, there) = go (goes_on s line) (inside (table.next s line) refl)
    where
      inside : (o : Option S) → table.next s line ≡ o → fine_option (option_map (λ t. Part t) o)
      inside None e = tt
      inside (Some t) e = (lines ++ line ∷ [], after_then table table.start s lines (line ∷ []) there ∙ ap (option_and_then (λ u. Some u)) e)

      go : (b : Bool) → fine_option (option_map (λ t. Part t) (table.next s line))
          → fine_option (cond b (option_map (λ t. Part t) (table.next s line)) (option_and_then (λ g. option_map (λ r. After r) (following_next rest (following_start rest g) line)) (table.whole s)))
      go true here = here
      go false here = fine_enters line (table.whole s)

  kept : (s : Either S (Following F R)) (line : L) (t : Either S (Following F R)) → fine s → text.next s line ≡ Some t → fine t
  kept s line t is e = subst fine_option e (fine_next s line is)

  -- Each place of the text can end where each of the part and of what follows can, the part goes on with each line that is allowed in it,
  -- and a line that may come first after the whole part is none of it.
  pub followed_can_end : CanEnd table → ((s : S) (line : L) (t : S) → table.next s line ≡ Some t → goes_on s line ≡ true) → ((f : F) → CanEnd (rest f))
      → ((s : S) (f : F) → table.whole s ≡ Some f → (more : List L) × (p : R) × (v : V) × (after (rest f) (rest f).start more ≡ Some p) × ((rest f).whole p ≡ Some v) × Leaves goes_on s more)
      → CanEnd text
  followed_can_end part_ends goes rest_ends begins = can_end text fine ([], refl) kept ends
    where
      along : (s t : Either S (Following F R)) (more : List L) → after text s more ≡ Some t → Stops text t → Stops text s
      along s t more there (lines, u, g, then, end) = (more ++ lines, u, g, after_then text s t more lines there ∙ then, end)

      ends : (s : Either S (Following F R)) → fine s → Stops text s
      ends (Part s) (lines, there) =
          let (more, t, f, led, whole) = part_ends lines s there in
          let (lines', p, v, after_is, end, leaves) = begins t f whole in
          along (Part s) (Part t) more (part_after goes more s t led) (stops_whole t f lines' p v whole after_is end leaves)
      ends (After r) (lines, there) =
          let (more, p, v, led, end) = rest_ends r.part lines r.place there in
          (more, at r.part p, value r.part v, rest_after r.part more r.place p led, ap (option_map (value r.part)) end)
