use Rattle.std.proofs.Common.{◌≡◌, ◌+◌, ◌*◌, ◌<◌, ◌≤◌, [], length, List, ℕ, IsOk, refl, ap, subst}
use Rattle.std.proofs.Common.{sym, ◌∙◌, arith}
use Rattle.std.proofs.Math.Nat.{mul-le-mul}
use Rattle.std.specs.Result.{result_unwrap_or}
use Rattle.tensor_shape.specs.Index.{size_of}
use Rattle.tensor_shape.specs.Legal.{widest, most_elements}
use Rattle.tensor_terms.specs.Movement.{moved_dims, shuffled_dims}
use Rattle.tensor_terms.specs.Term.{shuffle}
use Rattle.tensor_terms.specs.Merged.{dims_at}
use Rattle.tensor_terms.proofs.Dropped.{axes_first}
use Rattle.tensor_terms.proofs.TwoParts.{order, shuffle-first, part-below, parts-read, size_of-others}
use Rattle.tensor_terms.proofs.Shapes.{place_read}
use Rattle.tensor_terms.proofs.index.index_parts.merged_place.Goals as goal

pub axes_first-order-requires-clause-axes : goal.axes_first-order-requires-clause-axes
axes_first-order-requires-clause-axes c =
    rw (ap length c.as_slice-sizes.ensures.value) c.requires.axes

pub overflow_mul-count : goal.overflow_mul-count
overflow_mul-count c =
    let few : c.args.outer ≤ most_elements =
    omega (
      arith,
      c.requires.outer,
      size_of-others c.args.axes.now c.args.dims.now
          c.as_slice-sizes.ensures.legal,
    ) in
    omega (arith, mul-le-mul c.size-count.ensures.small few)

pub overflow_add-inner : goal.overflow_add-inner
overflow_add-inner c =
    let few : c.args.outer ≤ most_elements =
    omega (
      arith,
      c.requires.outer,
      size_of-others c.args.axes.now c.args.dims.now
          c.as_slice-sizes.ensures.legal,
    ) in
    omega (
      arith,
      mul-le-mul c.size-count.ensures.small few,
      c.ranges.inner.fits,
      c.requires.inner,
      c.size-count.ensures.value,
      ap size_of c.dims_at.ensures,
    )

pub moved_place-requires : goal.moved_place-requires
moved_place-requires c =
    let axes : List ℕ = c.args.axes.now in
    let ds : List ℕ = c.args.dims.now in
    let all : c.as_slice.result.now ≡ order axes ds c.requires.axes =
    c.as_slice.ensures.value ∙ c.axes_first-order.ensures
    ∙ ap (λ xs. axes_first axes (length xs)) c.as_slice-sizes.ensures.value in
    let count : c.size-count.result ≡ size_of (dims_at axes ds) = c.size-count.ensures.value
    ∙ ap size_of c.dims_at.ensures in
    let shape : size_of (result_unwrap_or (moved_dims widest (shuffle
    (order axes ds c.requires.axes)) ds) [])
    ≡ size_of (shuffled_dims ds (order axes ds c.requires.axes)) =
    ap (λ r. size_of (result_unwrap_or r [])) (shuffle-first axes ds c.requires.axes) in
    record {
      dims = subst (λ l. IsOk (moved_dims widest (shuffle l) ds)) (sym all)
          (subst (λ r. IsOk r) (sym (shuffle-first axes ds c.requires.axes)) refl);
      below = subst (λ l. c.args.inner + c.size-count.result * c.args.outer < size_of
          (result_unwrap_or (moved_dims widest (shuffle l) ds) [])) (sym all)
          (subst (λ n. c.args.inner + n * c.args.outer < size_of (result_unwrap_or (moved_dims widest
          (shuffle (order axes ds c.requires.axes)) ds) [])) (sym count)
          (omega (
            arith,
            shape,
            part-below axes ds c.requires.axes c.args.inner c.args.outer
                c.requires.inner c.requires.outer,
          )));
    }

pub returns-clause-value : goal.returns-clause-value
returns-clause-value c =
    let axes : List ℕ = c.args.axes.now in
    let ds : List ℕ = c.args.dims.now in
    let all : c.as_slice.result.now ≡ order axes ds c.requires.axes =
    c.as_slice.ensures.value ∙ c.axes_first-order.ensures
    ∙ ap (λ xs. axes_first axes (length xs)) c.as_slice-sizes.ensures.value in
    let count : c.size-count.result ≡ size_of (dims_at axes ds) = c.size-count.ensures.value
    ∙ ap size_of c.dims_at.ensures in
    c.moved_place.ensures.value
    ∙ ap (λ l. place_read (shuffle l) ds (c.args.inner + c.size-count.result * c.args.outer)) all
    ∙ ap (λ n. place_read (shuffle (order axes ds c.requires.axes)) ds
    (c.args.inner + n * c.args.outer)) count
    ∙ parts-read axes ds c.requires.axes c.args.inner c.args.outer c.requires.inner c.requires.outer
