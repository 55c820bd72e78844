use Rattle.std.proofs.Common.{◌≡◌, ◌<◌, length}
use Rattle.crn_bulk.specs.Generator.{leaves}
use Rattle.crn_bulk.proofs.leaves.Given as goal

abbrev pub invariant-loop : goal.invariant-loop
invariant-loop l = record {
  made : l.forms.items ≡ (leaves l.counter l.count).made;
  number : l.z ≡ (leaves l.counter l.count).number;
  small : l.z < 65537;
  long : length l.forms.items ≡ l.counter;
}
