use Rattle.std.proofs.Common.{◌∙◌}
use Rattle.std.proofs.lemmas.List.{length-map}
use Rattle.tensor_dots.proofs.SimdLanes.{bits-product, wrapped_fits, length-lanes, value_in-zipped}
use Rattle.tensor_dots.proofs.lanes.small.add_product.Goals as goal

pub returns-clause-each : goal.returns-clause-each
returns-clause-each c r h =
    value_in-zipped _ _ c.args.sums c.args.x c.args.y c.requires.sums.0 c.requires.x.0
    c.requires.y.0 r h
    ∙ bits-product _ _ _ (c.requires.sums.1 r h) (c.requires.x.1 r h) (c.requires.y.1 r h)

pub returns-clause-lanes : goal.returns-clause-lanes
returns-clause-lanes c = (
  simp length-map (length-lanes _ _ c.args.sums c.args.x c.args.y c.requires.sums.0 c.requires.x.0
      c.requires.y.0),
  λ r h. wrapped_fits _ _ (returns-clause-each c r h),
)
