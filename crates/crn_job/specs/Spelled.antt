-- What the lines after a function part or a network part say, by cases on what stands in them, apart from how they are read.
use Rattle.std.specs.Prelude.{ℕ, suc, ◌≡◌, ◌<◌, ◌≤◌, ◌⊎◌, pos, List, [], ◌∷◌, ◌++◌, length, codes}
use Rattle.crn_fraction.specs.Rational.{ℚ}
use Rattle.crn_token.specs.declared.Sign.TheVariants.{Colon}
use Rattle.crn_token.specs.Plain.{Plain, PlainWord, PlainNumber, PlainSign}
use Rattle.crn_form_text.specs.Grammar.{SpellsNumber}
use Rattle.crn_net.specs.declared.Rails.{Rails}
use Rattle.crn_net.specs.declared.Flow.{Flow}
use Rattle.crn_segments.specs.Flows.{IsSegment}
use Rattle.crn_job.specs.Grammar.{Tail, amounts_of}
use Rattle.crn_job.specs.Grammar as grammar
use Rattle.crn_job.specs.RunGrammar.{Given, RunTail, last_species}
use Rattle.crn_job.specs.RunGrammar as run

-- `N N .. N`: a text of each number in turn, and nothing more
abbrev pub SpellsNumbers : List ℚ → List Plain → Type 0
SpellsNumbers [] tokens = tokens ≡ []
SpellsNumbers (q ∷ qs) tokens = (x : List Plain) × (y : List Plain) × SpellsNumber q x × SpellsNumbers qs y × (tokens ≡ x ++ y)

-- `R:N`
abbrev pub SpellsFlow : Flow → List Plain → Type 0
SpellsFlow f tokens = (x : List Plain) × SpellsNumber f.flux x × (tokens ≡ PlainNumber (pos f.reaction) ∷ PlainSign Colon ∷ x)

-- `R:N R:N .. R:N`
abbrev pub SpellsFlows : List Flow → List Plain → Type 0
SpellsFlows [] tokens = tokens ≡ []
SpellsFlows (f ∷ fs) tokens = (x : List Plain) × (y : List Plain) × SpellsFlow f x × SpellsFlows fs y × (tokens ≡ x ++ y)

-- one or more of `R:N`, the R strictly ascending from 1 on and each N positive
abbrev pub SpellsSegment : List Flow → List Plain → Type 0
SpellsSegment u tokens = IsSegment u × SpellsFlows u tokens

-- `Sa N`, of a species above `low` and up to n
abbrev pub SpellsAmount : (low n : ℕ) → Given → List Plain → Type 0
SpellsAmount low n g tokens =
    (low < g.species) × (g.species ≤ n) × ((x : List Plain) × SpellsNumber g.amount x × (tokens ≡ PlainWord (codes "S") ∷ PlainNumber (pos g.species) ∷ x))

-- ---- whole lines

-- an `input` line: two numbers where inputs are pairs, one where they are single species
abbrev pub SpellsInputLine : Rails → List ℚ → List Plain → Type 0
SpellsInputLine rails qs tokens = (rest : List Plain) × (length qs ≡ amounts_of rails) × SpellsNumbers qs rest × (tokens ≡ PlainWord (codes "input") ∷ rest)

abbrev pub SpellsAmountLine : (low n : ℕ) → Given → List Plain → Type 0
SpellsAmountLine low n g tokens = (rest : List Plain) × SpellsAmount low n g rest × (tokens ≡ PlainWord (codes "amount") ∷ rest)

abbrev pub SpellsSegmentLine : List Flow → List Plain → Type 0
SpellsSegmentLine v tokens = (rest : List Plain) × SpellsSegment v rest × (tokens ≡ PlainWord (codes "segment") ∷ rest)

-- After a function part: an `input` line while one is to come, then `segment` lines. What was read before is t, and with this line it is u.
abbrev pub Follows : Tail → List Plain → Tail → Type 0
Follows t tokens u =
    ((n : ℕ) × (qs : List ℚ) × (t.left ≡ suc n) × SpellsInputLine t.rails qs tokens × (u ≡ grammar.with_input t n qs))
    ⊎ ((v : List Flow) × (t.left ≡ 0) × SpellsSegmentLine v tokens × (u ≡ grammar.with_segments t (t.segments ++ v ∷ [])))

-- After a network part: `amount` lines of ascending species before the first segment, and `segment` lines.
abbrev pub FollowsRun : RunTail → List Plain → RunTail → Type 0
FollowsRun t tokens u =
    ((g : Given) × (t.segments ≡ []) × SpellsAmountLine (last_species t.amounts) t.species g tokens × (u ≡ run.with_amount t g))
    ⊎ ((v : List Flow) × SpellsSegmentLine v tokens × (u ≡ run.with_segments t (t.segments ++ v ∷ [])))
