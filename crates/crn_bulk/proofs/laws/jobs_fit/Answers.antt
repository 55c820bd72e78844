use Rattle.crn_bulk.proofs.BulkLaws.{bulk_fits, bulk_amounts_long, bulk_amounts_not_negative, next_small}
use Rattle.crn_bulk.proofs.laws.jobs_fit.Goals as goal

pub returns : goal.returns
returns c = record { function = bulk_fits; amounts = bulk_amounts_long; not_negative = bulk_amounts_not_negative; numbers = next_small }
