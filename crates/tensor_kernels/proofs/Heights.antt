-- How high panels can be.
use Rattle.std.proofs.Common.{◌<◌, ◌≤◌, arith}
use Rattle.tensor_kernels.specs.private.Cells.{height_of}
use Rattle.tensor_kernels.specs.declared.panels.height.Height.{Height}
use Rattle.tensor_kernels.specs.declared.panels.height.Height.TheVariants.{Sixteen, Four}

-- a panel has a row
pub height-some : (h : Height) → 0 < height_of h
height-some Sixteen = omega arith
height-some Four = omega arith

-- and no more than sixteen
pub height-low : (h : Height) → height_of h ≤ 16
height-low Sixteen = omega arith
height-low Four = omega arith
