-- A grammar of lines as a table of what may follow, and what it says of a text that is in it and of one that is not.
use Rattle.std.specs.Prelude.{ℕ, ◌≡◌, ◌<◌, ◌≤◌, ◌⊎◌, List, [], ◌∷◌, ◌++◌, length, take, Option, Some, None}
use Rattle.std.specs.Option.{option_and_then, option_map_or}

pub record Table (S L F W : Type 0) : Type 0 where
  -- before the first line
  pub start : S
  -- after a line more, if it is allowed there
  pub next : S → L → Option S
  -- the value of the text, if it may end there
  pub whole : S → Option F
  -- the limit that the last line passed
  pub limit : S → Option W

-- where the lines lead, if each is allowed
abbrev pub after : {S L F W : Type 0} → Table S L F W → S → List L → Option S
after table s [] = Some s
after table s (line ∷ lines) = option_and_then (λ t. after table t lines) (table.next s line)

-- the lines are a text of the grammar, with this value
abbrev pub IsText : {S L F W : Type 0} → Table S L F W → List L → F → Type 0
IsText {S} table lines f = (s : S) × (after table table.start lines ≡ Some s) × (table.whole s ≡ Some f)

-- the lines begin a text of the grammar
abbrev pub Begins : {S L F W : Type 0} → Table S L F W → List L → Type 0
Begins {S} {L} {F} table lines = (more : List L) × (f : F) × IsText table (lines ++ more) f

-- no line of these passes a limit
abbrev pub PassesNone : {S L F W : Type 0} → Table S L F W → List L → Type 0
PassesNone {S} table lines = (n : ℕ) (s : S) → 0 < n → n ≤ length lines → after table table.start (take n lines) ≡ Some s → table.limit s ≡ None

-- the answers to a text
pub data Answer (F W : Type 0) : Type 0 where
  Read : F → Answer F W
  Malformed : ℕ → Answer F W
  Limited : W → Answer F W

-- this line is the first such that the lines up to it begin no text, and no line before it passes a limit
pub record IsFirstWrong {S L F W : Type 0} (table : Table S L F W) (before : List L) (line : L) : Type 0 where
  pub begins : Begins table before
  pub wrong : ¬ Begins table (before ++ line ∷ [])
  pub passes_none : PassesNone table before

-- the lines begin a text and are none
pub record IsTooShort {S L F W : Type 0} (table : Table S L F W) (lines : List L) : Type 0 where
  pub begins : Begins table lines
  pub none : (f : F) → ¬ IsText table lines f
  pub passes_none : PassesNone table lines

-- this line is the first that passes a limit, and the lines up to it begin a text
pub record IsFirstPast {S L F W : Type 0} (table : Table S L F W) (before : List L) (line : L) (what : W) : Type 0 where
  pub begins : Begins table (before ++ line ∷ [])
  pub past : (s : S) × (after table table.start (before ++ line ∷ []) ≡ Some s) × (table.limit s ≡ Some what)
  pub passes_none : PassesNone table before

-- What the right answer to a text is. The end is the number of a line past the last.
abbrev pub IsAnswer : {S L F W : Type 0} → Table S L F W → (L → ℕ) → ℕ → List L → Answer F W → Type 0
IsAnswer table number end lines (Read f) = IsText table lines f × PassesNone table lines
IsAnswer {S} {L} table number end lines (Malformed n) =
    ((before : List L) × (line : L) × (rest : List L) × (lines ≡ before ++ line ∷ rest) × IsFirstWrong table before line × (n ≡ number line))
    ⊎ (IsTooShort table lines × (n ≡ end))
IsAnswer {S} {L} table number end lines (Limited what) =
    (before : List L) × (line : L) × (rest : List L) × (lines ≡ before ++ line ∷ rest) × IsFirstPast table before line what

-- each place that lines lead to can still end
abbrev pub CanEnd : {S L F W : Type 0} → Table S L F W → Type 0
CanEnd {S} {L} {F} table = (lines : List L) (s : S) → after table table.start lines ≡ Some s → (more : List L) × (t : S) × (f : F) × (after table s more ≡ Some t) × (table.whole t ≡ Some f)

-- the answer, line by line
abbrev pub answer : {S L F W : Type 0} → Table S L F W → (L → ℕ) → ℕ → S → List L → Answer F W
answer table number end s [] = option_map_or (λ f. Read f) (table.whole s) (Malformed end)
answer table number end s (line ∷ lines) =
    option_map_or (λ t. option_map_or (λ what. Limited what) (table.limit t) (answer table number end t lines)) (table.next s line) (Malformed (number line))
