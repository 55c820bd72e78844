-- Limits of what a text counts, which do not belong to its grammar.
use Rattle.std.specs.Prelude.{ℕ, nat_lt, Option, Some, None, if◌then◌else◌}
use Rattle.crn_token.specs.declared.Counted.{Counted}

-- the count, where it is above the greatest that is allowed
abbrev pub above : ℕ → Counted → ℕ → Option (Counted × ℕ)
above greatest what count = if nat_lt greatest count then Some (what, count) else None

-- the first that is passed
abbrev pub or_else : {W : Type 0} → Option W → Option W → Option W
or_else (Some what) other = Some what
or_else None other = other
