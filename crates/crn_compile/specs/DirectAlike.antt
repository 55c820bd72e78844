-- How two refusals of one function may differ, where a direct network was asked for.
use Rattle.std.specs.Prelude.{◌≡◌, ◌⊎◌}
use Rattle.crn_compile.specs.Alike as compile
use Rattle.crn_compile.specs.declared.direct.DirectError.{DirectError}
use Rattle.crn_compile.specs.declared.direct.DirectError.TheVariants.{Compile, NotSuperadditive}

-- elimination of a system passes a limit
abbrev pub IsSolvingLimit : DirectError → Type 0
IsSolvingLimit (Compile error) = compile.IsSolvingLimit error
IsSolvingLimit error = ⊥

-- all rows clear, so it may be that systems are solved before it is found
abbrev pub IsFoundBySolving : DirectError → Type 0
IsFoundBySolving (Compile error) = compile.IsFoundBySolving error
IsFoundBySolving error = Unit {0}

-- the same two pieces disagree, no piece holds, or the function is not superadditive, each time at some points
abbrev pub AreSameButForPoint : DirectError → DirectError → Type 0
AreSameButForPoint (Compile first) (Compile second) = compile.AreSameButForPoint first second
AreSameButForPoint (NotSuperadditive p t q) (NotSuperadditive r u s) = Unit {0}
AreSameButForPoint first second = ⊥

-- a solving limit, and what the search would have found
abbrev pub IsLimitBeside : DirectError → DirectError → Type 0
IsLimitBeside limit found = IsSolvingLimit limit × IsFoundBySolving found

-- they are the same, but for the points, or one is a solving limit beside what the search would have found
abbrev pub AreAlike : DirectError → DirectError → Type 0
AreAlike first second =
    (first ≡ second) ⊎ (AreSameButForPoint first second ⊎ (IsLimitBeside first second ⊎ IsLimitBeside second first))
