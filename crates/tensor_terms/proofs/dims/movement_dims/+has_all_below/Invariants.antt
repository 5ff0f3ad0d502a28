use Rattle.tensor_terms.proofs.dims.movement_dims.+has_all_below.Given as goal

abbrev pub decreases-has_all_below : goal.decreases-has_all_below
decreases-has_all_below l = l.limit
