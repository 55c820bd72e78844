use Rattle.std.proofs.Common.{◌≡◌, ◌<◌}
use Rattle.crn_bulk.specs.Generator.{amounts}
use Rattle.crn_bulk.proofs.amounts.Given as goal

abbrev pub invariant-loop : goal.invariant-loop
invariant-loop l = record {
  made : l.amounts.items ≡ (amounts l.counter l.start).made;
  number : l.z ≡ (amounts l.counter l.start).number;
  small : l.z < 65537;
}
