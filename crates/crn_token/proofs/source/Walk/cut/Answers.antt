use Rattle.crn_token.proofs.SourceLaws.{rest_after}
use Rattle.crn_token.proofs.source.Walk.cut.Goals as goal

pub invariant_of-next : goal.invariant_of-next
invariant_of-next c = record {
  place = rest_after c.args.self.bytes.now c.args.self.rest.now c.first_line.result.0.now c.first_line.result.1.now c.args.self.at c.args.self.count c.args.self.place c.requires c.first_line.ensures.line c.first_line.ensures.rest c.first_line.ensures.bound;
}
