-- A status and a text that say something.
use Rattle.std.specs.Prelude.{ℕ, List, ◌≡◌}
use Rattle.crn_program.specs.declared.status.Status.{Status}

-- they say something that is so, by the status and the text of each thing that may be said
pub record Said {X : Type 0} (status_of : X → Status) (text_of : X → List ℕ) (IsSo : X → Type 0) (status : Status) (text : List ℕ) : Type 0 where
  pub what : X
  pub found : IsSo what
  pub status_is : status ≡ status_of what
  pub text_is : text ≡ text_of what
