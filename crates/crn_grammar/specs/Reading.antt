-- What a call that reads a text answers, beside the right answer.
use Rattle.std.specs.Prelude.{ℕ, ◌≡◌, List, drop, Option, Some, None, Result, Ok, Err}
use Rattle.std.specs.Option.{option_map_or}
use Rattle.crn_token.specs.declared.Counted.{Counted}
use Rattle.crn_grammar.specs.declared.error.TextError.{TextError}
use Rattle.crn_grammar.specs.declared.error.TextError.TheVariants as error
use Rattle.crn_grammar.specs.Table.{Answer, Read, Malformed, Limited}
use Rattle.crn_grammar.specs.Part.{PartAnswer, Ends, Wrong, Past}

-- the answer to one line more, by the limit that it may pass
abbrev pub judged : {S : Type 0} → (S → Option (Counted × ℕ)) → ℕ → Option S → Answer S (Counted × ℕ)
judged limit number None = Malformed number
judged limit number (Some t) = option_map_or (λ what. Limited what) (limit t) (Read t)

-- a refusal is this answer, or there was no memory
abbrev pub Refuses : {Y : Type 0} → TextError → Answer Y (Counted × ℕ) → Type 0
Refuses (error.Malformed n) answer = answer ≡ Malformed n
Refuses (error.Limit what count) answer = answer ≡ Limited (what, count)
Refuses error.Memory answer = Unit {0}

-- a call gives this answer, or there was no memory
abbrev pub Gives : {X Y : Type 0} → (X → Y) → Result X TextError → Answer Y (Counted × ℕ) → Type 0
Gives view (Ok x) answer = answer ≡ Read (view x)
Gives view (Err e) answer = Refuses e answer

-- a call gives what is right for a text, or there was no memory
abbrev pub IsRight : {X Y : Type 0} → (X → Y) → Result X TextError → (Answer Y (Counted × ℕ) → Type 0) → Type 0
IsRight view (Ok x) Right = Right (Read (view x))
IsRight view (Err (error.Malformed n)) Right = Right (Malformed n)
IsRight view (Err (error.Limit what count)) Right = Right (Limited (what, count))
IsRight view (Err error.Memory) Right = Unit {0}

-- a refusal is this answer to a part, or there was no memory
abbrev pub RefusesPart : {L Y : Type 0} → TextError → PartAnswer L Y (Counted × ℕ) → Type 0
RefusesPart (error.Malformed n) part = part ≡ Wrong n
RefusesPart (error.Limit what count) part = part ≡ Past (what, count)
RefusesPart error.Memory part = Unit {0}

-- a call gives this answer to a part of these lines: its value and the index of the line after it
abbrev pub GivesPart : {L X Y : Type 0} → (X → Y) → List L → Result (X × ℕ) TextError → PartAnswer L Y (Counted × ℕ) → Type 0
GivesPart view lines (Ok (x, next)) part = part ≡ Ends (view x) (drop next lines)
GivesPart view lines (Err e) part = RefusesPart e part

-- a call gives what is right for a part of these lines, or there was no memory
abbrev pub IsRightPart : {L X Y : Type 0} → (X → Y) → List L → Result (X × ℕ) TextError → (PartAnswer L Y (Counted × ℕ) → Type 0) → Type 0
IsRightPart view lines (Ok (x, next)) Right = Right (Ends (view x) (drop next lines))
IsRightPart view lines (Err (error.Malformed n)) Right = Right (Wrong n)
IsRightPart view lines (Err (error.Limit what count)) Right = Right (Past (what, count))
IsRightPart view lines (Err error.Memory) Right = Unit {0}

-- a call gives this answer to a part, and these lines are left after it
abbrev pub GivesUpTo : {L X Y : Type 0} → (X → Y) → List L → Result X TextError → PartAnswer L Y (Counted × ℕ) → Type 0
GivesUpTo view left (Ok x) part = part ≡ Ends (view x) left
GivesUpTo view left (Err e) part = RefusesPart e part

-- a call gives what is right for a part, and these lines are left after it, or there was no memory
abbrev pub IsRightUpTo : {L X Y : Type 0} → (X → Y) → List L → Result X TextError → (PartAnswer L Y (Counted × ℕ) → Type 0) → Type 0
IsRightUpTo view left (Ok x) Right = Right (Ends (view x) left)
IsRightUpTo view left (Err (error.Malformed n)) Right = Right (Wrong n)
IsRightUpTo view left (Err (error.Limit what count)) Right = Right (Past (what, count))
IsRightUpTo view left (Err error.Memory) Right = Unit {0}
