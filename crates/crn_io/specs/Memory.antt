-- What a source and a sink in memory hold, and how a call changes it.
use Rattle.std.specs.Prelude.{ℕ, ◌≤◌, List, [], ◌++◌, drop, take, Contains, nat_eq, if◌then◌else◌}
use Rattle.crn_io.specs.Causes.{raised, next_call}

-- a source in memory: the bytes left, how many a call gives at most, the numbers of the calls that fail, and so far the calls, the faults and the calls that gave no byte
pub record Supply : Type 0 where
  pub left : List ℕ
  pub step : ℕ
  pub fails : List ℕ
  pub calls : ℕ
  pub faults : ℕ
  pub nothing : ℕ

-- a source that was not called yet
abbrev pub supply_of : List ℕ → ℕ → List ℕ → Supply
supply_of bytes step fails = record { left = bytes; step = step; fails = fails; calls = 0; faults = 0; nothing = 0 }

-- the next call is one that fails
abbrev pub IsListed : List ℕ → ℕ → Type 0
IsListed fails calls = Contains fails (next_call calls)

-- the last of these calls was one that fails
abbrev pub WasListed : List ℕ → ℕ → Type 0
WasListed fails calls = (1 ≤ calls) × Contains fails calls

-- the source after a call that gave n bytes
abbrev pub after_read : Supply → ℕ → Supply
after_read s n = record { left = drop n s.left; step = s.step; fails = s.fails; calls = next_call s.calls; faults = s.faults; nothing = if nat_eq n 0 then raised s.nothing else s.nothing }

-- the source after a call that failed
abbrev pub after_read_fault : Supply → Supply
after_read_fault s = record { left = s.left; step = s.step; fails = s.fails; calls = next_call s.calls; faults = raised s.faults; nothing = raised s.nothing }

-- a sink in memory: the bytes written, how many there is room for, how many a call takes at most, the numbers of the calls that fail, the calls and the faults so far
pub record Store : Type 0 where
  pub written : List ℕ
  pub capacity : ℕ
  pub step : ℕ
  pub fails : List ℕ
  pub calls : ℕ
  pub faults : ℕ

-- a sink that was not called yet
abbrev pub store_of : ℕ → ℕ → List ℕ → Store
store_of capacity step fails = record { written = []; capacity = capacity; step = step; fails = fails; calls = 0; faults = 0 }

-- the sink after a call that took the first n bytes of a piece
abbrev pub after_write : Store → List ℕ → ℕ → Store
after_write s piece n = record { written = s.written ++ take n piece; capacity = s.capacity; step = s.step; fails = s.fails; calls = next_call s.calls; faults = s.faults }

-- the sink after a call that failed
abbrev pub after_write_fault : Store → Store
after_write_fault s = record { written = s.written; capacity = s.capacity; step = s.step; fails = s.fails; calls = next_call s.calls; faults = raised s.faults }
