-- What a call does to a count of faults, and to one of the calls that gave no byte.
use Rattle.std.specs.Prelude.{◌≡◌, ℕ, ◌+◌, ◌-◌, ◌^◌, ◌<◌, ◌≤◌, ◌⊎◌, min, Some, None, IfOk, OnOk, OnErr}
use Rattle.std.specs.declared.result.Result.{Result}
use Rattle.std.specs.declared.option.Option.{Option}

-- one more than n, as a count that stays at the greatest u64
abbrev pub raised : ℕ → ℕ
raised n = min (n + 1) (2 ^ 64 - 1)

-- the number of the call after n calls
abbrev pub next_call : ℕ → ℕ
next_call n = raised n

-- the count doesn't fall; it is one more where the call failed, and as it was where the call did not
pub record HasCause {T E : Type 0} (before now : ℕ) (result : Result T E) : Type 0 where
  pub later : before ≤ now
  pub served : OnOk result (now ≡ before)
  pub failed : OnErr result (now ≡ raised before)

-- one more, where the count is told
abbrev pub once_more : Option ℕ → Option ℕ
once_more None = None
once_more (Some n) = Some (raised n)

-- the count is as it was, or one more
abbrev pub AtMostOnce : Option ℕ → Option ℕ → Type 0
AtMostOnce before now = (now ≡ before) ⊎ (now ≡ once_more before)

-- the count is one more where a read gave no byte, which is at the end and where it failed, and as it was where it gave some
pub record CountsNothing {E : Type 0} (before now : Option ℕ) (result : Result ℕ E) : Type 0 where
  pub gave : IfOk result (λ n. 0 < n → now ≡ before)
  pub ended : IfOk result (λ n. n ≡ 0 → now ≡ once_more before)
  pub failed : OnErr result (now ≡ once_more before)
