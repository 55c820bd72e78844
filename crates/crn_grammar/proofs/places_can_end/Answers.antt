use Rattle.std.specs.Prelude.{IsTrue}
use Rattle.crn_grammar.proofs.TableLaws.{can_end}
use Rattle.crn_grammar.proofs.places_can_end.Goals as goal

pub returns : goal.returns
returns g c = λ table is_fine first kept ends. can_end table (λ s. IsTrue (is_fine s)) first kept ends
