use Rattle.std.proofs.Common.{◌≡◌, ℕ, ◌+◌, ◌<◌, ◌≤◌, ℤ, List, [], ◌∷◌, ◌++◌, length, slice_index}
use Rattle.std.proofs.Common.{◌-◌, ap, sym, subst, ◌∙◌, arith, inl, inr, le_antisymm, zero-add}
use Rattle.std.proofs.Common.{length-append}
use Rattle.std.specs.Cow.{cow_slice_items}
use Rattle.tensor_shape.specs.Legal.{most_elements}
use Rattle.tensor_kernels.specs.Panels.{AreInside}
use Rattle.tensor_values.specs.Values.{value_in}
use Rattle.std.proofs.lemmas.Bool.{cases_lt}
use Rattle.std.proofs.lemmas.List.{get_or_append_left, get_or-append_right}
use Rattle.tensor_ops.proofs.operands.rows.one_row.Goals as goal

-- the numbers below one more
module _ (xs new : List ℕ) (n : ℕ) (is : new ≡ xs ++ n ∷ []) (long : length xs ≡ n) where
  long-more : length new ≡ n + 1
  long-more = ap length is ∙ length-append xs (n ∷ []) ∙ ap (λ m. m + 1) long

  counted-more : ((q : ℕ) → q < n → slice_index xs q ≡ q)
      → (q : ℕ) → q < n + 1 → slice_index new q ≡ q
  counted-more so_far q below =
      ap (λ xs. slice_index xs q) is
      ∙ elim (cases_lt q n) [
        | inl before ↦ get_or_append_left xs (n ∷ []) 0 q (omega arith) ∙ so_far q before
        | inr last ↦
            let first : q - n ≡ 0 = omega arith in
            let same : n ≡ q = omega arith in
            get_or-append_right xs (n ∷ []) n q 0 long last
            ∙ ap (λ k. slice_index (n ∷ []) k) first ∙ same
      ]

-- one row, whose offsets are the numbers below the length of a list
module _ (starts offsets : List ℕ) (n : ℕ) (one : starts ≡ 0 ∷ [])
    (long : length offsets ≡ n) (each : (q : ℕ) → q < n → slice_index offsets q ≡ q) where
  place : (q : ℕ) → q < length offsets → slice_index starts 0 + slice_index offsets q ≡ q
  place q below =
      ap (λ starts. slice_index starts 0 + slice_index offsets q) one ∙ zero-add _
      ∙ each q (subst (λ n. q < n) long below)

  are_inside : (values : List ℤ) → length values ≡ n → AreInside values starts offsets
  are_inside values size x q row below =
      let here = place q below in
      let first : x ≡ 0 = omega (arith, ap length one) in
      rw first (omega (arith, here))

pub loop-place-preserved : goal.loop-place-preserved
loop-place-preserved c =
    let l = c.loop-place.invariant in
    let old = c.loop-place.offsets.items in
    let new = c.push_reserved.new.self.items in
    let place = c.loop-place.place in
    record {
      long = long-more old new place c.push_reserved.ensures.items l.long;
      room = c.push_reserved.ensures.capacity ∙ l.room;
      each = counted-more old new place c.push_reserved.ensures.items l.long l.each;
    }

pub new-requires-clause-inside : goal.new-requires-clause-inside
new-requires-clause-inside c =
    let l = c.loop-place.invariant in
    let offsets = c.loop-place.offsets.items in
    let all : c.loop-place.place ≡ c.size-count.result =
    le_antisymm c.loop-place.auto.place-end c.loop-place-test.false in
    are_inside c.in_ok-starts.starts.items offsets c.loop-place.place
    c.in_ok-starts.ensures.items l.long l.each (cow_slice_items c.args.values)
    (c.requires ∙ sym c.size-count.ensures.value ∙ sym all)

pub new-requires-clause-few : goal.new-requires-clause-few
new-requires-clause-few c =
    subst (λ starts. length starts ≤ most_elements) (sym c.in_ok-starts.ensures.items)
    (omega arith)

pub new-requires-clause-short : goal.new-requires-clause-short
new-requires-clause-short c =
    let l = c.loop-place.invariant in
    let all : c.loop-place.place ≡ c.size-count.result =
    le_antisymm c.loop-place.auto.place-end c.loop-place-test.false in
    subst (λ n. n ≤ most_elements) (sym (l.long ∙ all)) c.size-count.ensures.small

pub returns : goal.returns
returns c =
    let l = c.loop-place.invariant in
    let offsets = c.loop-place.offsets.items in
    record {
      one = c.new.ensures.count ∙ ap length c.in_ok-starts.ensures.items;
      len = c.new.ensures.len ∙ l.long ∙ le_antisymm c.loop-place.auto.place-end c.loop-place-test.false
          ∙ c.size-count.ensures.value;
      each = λ q below. c.new.ensures.each 0 q
          ∙ ap (value_in (cow_slice_items c.args.values))
          (place c.in_ok-starts.starts.items offsets c.loop-place.place
          c.in_ok-starts.ensures.items l.long l.each q (omega (arith, c.new.ensures.len)));
    }
