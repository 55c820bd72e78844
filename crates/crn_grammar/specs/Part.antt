-- A part of a text that ends at the first line that does not begin as the part goes on, and the text around it.
use Rattle.std.specs.Prelude.{ℕ, ◌≡◌, ◌⊎◌, Bool, true, false, List, [], ◌∷◌, ◌++◌, Option, Some, if◌then◌else◌}
use Rattle.std.specs.Bool.{MatchBool}
use Rattle.std.specs.Option.{option_map, option_and_then, option_map_or}
use Rattle.crn_grammar.specs.Table.{Table, Answer, Read, Malformed, Limited, after, IsText, Begins, PassesNone, IsTooShort, IsFirstPast, answer}

-- the part's value with the lines after it, or why it is none
pub data PartAnswer (L F W : Type 0) : Type 0 where
  Ends : F → List L → PartAnswer L F W
  Wrong : ℕ → PartAnswer L F W
  Past : W → PartAnswer L F W

-- where the part must end
abbrev pub part_end : {S L F W : Type 0} → Table S L F W → ℕ → S → List L → PartAnswer L F W
part_end table n s lines = option_map_or (λ f. Ends f lines) (table.whole s) (Wrong n)

-- the answer to the part, line by line
abbrev pub part_answer : {S L F W : Type 0} → Table S L F W → (S → L → Bool) → (L → ℕ) → ℕ → S → List L → PartAnswer L F W
part_answer table goes_on number end s [] = part_end table end s []
part_answer table goes_on number end s (line ∷ lines) =
    if goes_on s line
    then option_map_or (λ t. option_map_or (λ what. Past what) (table.limit t) (part_answer table goes_on number end t lines)) (table.next s line) (Wrong (number line))
    else part_end table (number line) s (line ∷ lines)

-- ---- what is right for a part

-- each of the lines goes on where it stands
abbrev pub AllGoOn : {S L F W : Type 0} → Table S L F W → (S → L → Bool) → S → List L → Type 0
AllGoOn table goes_on s [] = Unit {0}
AllGoOn {S} table goes_on s (line ∷ lines) = (goes_on s line ≡ true) × ((t : S) → table.next s line ≡ Some t → AllGoOn table goes_on t lines)

-- the first of the lines, if there is one, does not go on
abbrev pub Leaves : {S L : Type 0} → (S → L → Bool) → S → List L → Type 0
Leaves goes_on s [] = Unit {0}
Leaves goes_on s (line ∷ lines) = goes_on s line ≡ false

-- The lines are a part with this value, and then the rest: those of the part are a text, each of them goes on and passes no limit, and the
-- line after them does not go on.
pub record IsPart {S L F W : Type 0} (table : Table S L F W) (goes_on : S → L → Bool) (lines : List L) (f : F) (rest : List L) : Type 0 where
  pub part : List L
  pub lines_are : lines ≡ part ++ rest
  pub text : IsText table part f
  pub goes : AllGoOn table goes_on table.start part
  pub leaves : (s : S) → after table table.start part ≡ Some s → Leaves goes_on s rest
  pub passes_none : PassesNone table part

-- The lines before this one go on, begin a text and pass no limit. Where this line goes on, it begins none with them; where it does not, they are none.
pub record IsFirstWrongInPart {S L F W : Type 0} (table : Table S L F W) (goes_on : S → L → Bool) (before : List L) (line : L) : Type 0 where
  pub begins : Begins table before
  pub goes : AllGoOn table goes_on table.start before
  pub wrong : (s : S) → after table table.start before ≡ Some s → MatchBool (goes_on s line) (¬ Begins table (before ++ line ∷ [])) ((f : F) → ¬ IsText table before f)
  pub passes_none : PassesNone table before

-- What the right answer to a part is. The end is the number of a line past the last.
abbrev pub IsPartAnswer : {S L F W : Type 0} → Table S L F W → (S → L → Bool) → (L → ℕ) → ℕ → List L → PartAnswer L F W → Type 0
IsPartAnswer table goes_on number end lines (Ends f rest) = IsPart table goes_on lines f rest
IsPartAnswer {S} {L} table goes_on number end lines (Wrong n) =
    ((before : List L) × (line : L) × (rest : List L) × (lines ≡ before ++ line ∷ rest) × IsFirstWrongInPart table goes_on before line × (n ≡ number line))
    ⊎ (IsTooShort table lines × AllGoOn table goes_on table.start lines × (n ≡ end))
IsPartAnswer {S} {L} table goes_on number end lines (Past what) =
    (before : List L) × (line : L) × (rest : List L) × (lines ≡ before ++ line ∷ rest) × IsFirstPast table before line what × AllGoOn table goes_on table.start (before ++ line ∷ [])

-- ---- the text around it

-- a place in the part, or after it
pub data Either (S R : Type 0) : Type 0 where
  Part : S → Either S R
  After : R → Either S R

-- The text that begins with the part. What follows is a table whose start is a function of the part's value.
abbrev pub part_next : {S R L F W : Type 0} → Table S L F W → (S → L → Bool) → (F → R) → (R → L → Option R) → Either S R → L → Option (Either S R)
part_next table goes_on start next (Part s) line =
    if goes_on s line then option_map (λ t. Part t) (table.next s line)
    else option_and_then (λ f. option_map (λ r. After r) (next (start f) line)) (table.whole s)
part_next table goes_on start next (After r) line = option_map (λ q. After q) (next r line)

abbrev pub part_whole : {S R L F G W : Type 0} → Table S L F W → (F → R) → (R → Option G) → Either S R → Option G
part_whole table start whole (Part s) = option_and_then (λ f. whole (start f)) (table.whole s)
part_whole table start whole (After r) = whole r

abbrev pub part_limit : {S R L F W : Type 0} → Table S L F W → (R → Option W) → Either S R → Option W
part_limit table limit (Part s) = table.limit s
part_limit table limit (After r) = limit r

abbrev pub joined_table : {S R L F G W : Type 0} → Table S L F W → (S → L → Bool) → (F → R) → (R → L → Option R) → (R → Option G) → (R → Option W) → Table (Either S R) L G W
joined_table table goes_on start next whole limit = record {
  start = Part table.start;
  next = part_next table goes_on start next;
  whole = part_whole table start whole;
  limit = part_limit table limit;
}

-- the answer to what follows a part with this value
abbrev pub rest_answer : {S R L F G W : Type 0} → Table S L F W → (S → L → Bool) → (F → R) → (R → L → Option R) → (R → Option G) → (R → Option W) → (L → ℕ) → ℕ → F → List L → Answer G W
rest_answer table goes_on start next whole limit number end f [] = option_map_or (λ g. Read g) (whole (start f)) (Malformed end)
rest_answer table goes_on start next whole limit number end f (line ∷ lines) =
    option_map_or (λ r. option_map_or (λ what. Limited what) (limit r) (answer (joined_table table goes_on start next whole limit) number end (After r) lines)) (next (start f) line) (Malformed (number line))

-- the answer to a text by the answer to the part that it begins with
abbrev pub go_on : {S R L F G W : Type 0} → Table S L F W → (S → L → Bool) → (F → R) → (R → L → Option R) → (R → Option G) → (R → Option W) → (L → ℕ) → ℕ → PartAnswer L F W → Answer G W
go_on table goes_on start next whole limit number end (Ends f lines) = rest_answer table goes_on start next whole limit number end f lines
go_on table goes_on start next whole limit number end (Wrong n) = Malformed n
go_on table goes_on start next whole limit number end (Past what) = Limited what
