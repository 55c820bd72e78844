use Rattle.std.proofs.Common.{◌≤◌, ◌*◌, ◌^◌, subst}
use Rattle.crn_feasible.proofs.Fits.{one_column_passes, two_columns_pass, three_columns_pass, each_within, fourth, eighth}
use Rattle.crn_feasible.proofs.laws.small_entries.Goals as goal

pub returns : goal.returns
returns c = record {
  one = λ s m p small n l. one_column_passes s m p n (each_within m s.rows small) (subst (λ k. 8 * k ≤ 2 ^ 59) (fourth m) l);
  two = λ s m p small n l. two_columns_pass s m p n (each_within m s.rows small) (subst (λ k. 8 * k ≤ 2 ^ 59) (fourth m) l);
  three = λ s m p small n l. three_columns_pass s m p n (each_within m s.rows small) (subst (λ k. 128 * k ≤ 2 ^ 59) (eighth m) l);
}
