-- What a source over a reader, or a sink over a writer, holds.
use Rattle.std.specs.Prelude.{ℕ, List}
use Rattle.std.specs.declared.option.Option.{Option}

-- the bytes that the reader has left, or that the writer holds, where it tells them, and the faults so far
pub record Adapter : Type 0 where
  pub known : Option (List ℕ)
  pub faults : ℕ
