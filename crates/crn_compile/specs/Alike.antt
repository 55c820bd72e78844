-- How two refusals of one function may differ.
use Rattle.std.specs.Prelude.{◌≡◌, ◌⊎◌}
use Rattle.crn_compile.specs.declared.CompileError.{CompileError}
use Rattle.crn_compile.specs.declared.CompileError.TheVariants.{TooManyForms, BigCondition, BigDifference, Disagree, NotCovered, TooBig, TooManyRows, Memory}

-- elimination of a system passes a limit
abbrev pub IsSolvingLimit : CompileError → Type 0
IsSolvingLimit (TooBig kept) = Unit {0}
IsSolvingLimit (TooManyRows kept) = Unit {0}
IsSolvingLimit error = ⊥

-- all rows clear, so it may be that systems are solved before it is found
abbrev pub IsFoundBySolving : CompileError → Type 0
IsFoundBySolving (TooManyForms count) = ⊥
IsFoundBySolving (BigCondition piece condition) = ⊥
IsFoundBySolving (BigDifference first second) = ⊥
IsFoundBySolving Memory = ⊥
IsFoundBySolving error = Unit {0}

-- the same two pieces disagree, or no piece holds, each time at some point
abbrev pub AreSameButForPoint : CompileError → CompileError → Type 0
AreSameButForPoint (Disagree i j p) (Disagree k l q) = (i ≡ k) × (j ≡ l)
AreSameButForPoint (NotCovered p) (NotCovered q) = Unit {0}
AreSameButForPoint first second = ⊥

-- a solving limit, and what the search would have found
abbrev pub IsLimitBeside : CompileError → CompileError → Type 0
IsLimitBeside limit found = IsSolvingLimit limit × IsFoundBySolving found

-- they are the same, but for the point, or one is a solving limit beside what the search would have found
abbrev pub AreAlike : CompileError → CompileError → Type 0
AreAlike first second =
    (first ≡ second) ⊎ (AreSameButForPoint first second ⊎ (IsLimitBeside first second ⊎ IsLimitBeside second first))
