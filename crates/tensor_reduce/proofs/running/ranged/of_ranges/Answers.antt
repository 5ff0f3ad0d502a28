use Rattle.std.proofs.Common.{◌≡◌, ◌-◌, length, ap, sym, ◌∙◌, arith}
use Rattle.tensor_ops.specs.Index.{size_of}
use Rattle.tensor_ops.proofs.Evaluated.{length-values_from}
use Rattle.tensor_reduce.specs.Kernels.{kernel_term, kernel_tensors}
use Rattle.tensor_reduce.proofs.running.ranged.of_ranges.Goals as goal

pub new-requires : goal.new-requires
new-requires g c =
    let kernel = c.in_ok-kernel.kernel in
    let count : c.size-size.result - 0 ≡ c.size-size.result = omega arith in
    ap length c.in_ok-values.ensures.items
    ∙ length-values_from (kernel_tensors kernel) (kernel_term kernel) 0 (c.size-size.result - 0)
    ∙ count ∙ c.size-size.ensures.value ∙ ap size_of (sym c.copied.ensures)
