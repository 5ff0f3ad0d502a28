use Rattle.tensor_reduce.proofs.Combining.{combine-assoc, combine-comm, combine-unit}
use Rattle.tensor_reduce.proofs.laws.reducers_combine_in_any_grouping.Goals as goal

pub returns : goal.returns
returns c = record {
  grouping = combine-assoc;
  order = combine-comm;
  unit = combine-unit;
}
