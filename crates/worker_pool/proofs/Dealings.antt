-- Facts about seats that are numbered one after the other.
use Rattle.std.proofs.Common.{◌≡◌, ℕ, ◌+◌, List, [], ◌∷◌, ◌++◌, map, length}
use Rattle.std.proofs.Common.{sym, ap, ◌∙◌, arith}
use Rattle.std.specs.List.{range_with_len}
use Rattle.std.proofs.lemmas.List.{map-id, map_push, same_from_push}
use Rattle.std.proofs.lemmas.List.FromFn.{map-range_with_len_more}
use Rattle.worker_pool.specs.declared.queues.queue.Queue as queue
use Rattle.worker_pool.specs.Openings.{AreRows, AreWakers}
use Rattle.worker_pool.proofs.Growing.{All-front, All-rest, length-snoc}

-- one number more stands at the end
pub range_with_len-more : (n : ℕ) → range_with_len 0 (n + 1) ≡ range_with_len 0 n ++ n ∷ []
range_with_len-more n =
    let more = map-range_with_len_more (λ k. k) 0 n n (omega arith) in
    sym (map-id (range_with_len 0 (n + 1)))
    ∙ (more ∙ ap (λ ks. ks ++ n ∷ []) (map-id (range_with_len 0 n)))

module _ {X : Type 0} (number_of : X → ℕ) where
  -- the numbers of the items before the last
  numbers-front : (all xs : List X) (x : X) → all ≡ xs ++ x ∷ []
      → map number_of all ≡ range_with_len 0 (length all)
      → map number_of xs ≡ range_with_len 0 (length xs)
  numbers-front all xs x is numbers =
      let long = length-snoc xs x all is in
      let same = sym (map_push number_of xs x) ∙ (sym (ap (map number_of) is)
      ∙ (numbers ∙ (ap (range_with_len 0) long ∙ range_with_len-more (length xs)))) in
      (same_from_push _ _ _ _ same).0

  both-numbers : (n : ℕ) (all : List X) (x : X) (xs : List X) → all ≡ x ∷ xs
      → map number_of all ≡ range_with_len n (length all)
      → number_of x ∷ map number_of xs ≡ n ∷ range_with_len (n + 1) (length xs)
  both-numbers n all x xs is numbers =
      sym (ap (map number_of) is) ∙ (numbers ∙ ap (λ ys. range_with_len n (length ys)) is)

  -- the number of the first item
  pub numbers-first : (n : ℕ) (all : List X) (x : X) (xs : List X) → all ≡ x ∷ xs
      → map number_of all ≡ range_with_len n (length all) → number_of x ≡ n
  numbers-first n all x xs is numbers =
      let both = both-numbers n all x xs is numbers in
      cc

  -- and the numbers of the items behind it
  numbers-rest : (n : ℕ) (all : List X) (x : X) (xs : List X) → all ≡ x ∷ xs
      → map number_of all ≡ range_with_len n (length all)
      → map number_of xs ≡ range_with_len (n + 1) (length xs)
  numbers-rest n all x xs is numbers =
      let both = both-numbers n all x xs is numbers in
      cc

  -- one item more, that has the next number
  pub numbers-snoc : (xs : List X) (x : X) (all : List X) → all ≡ xs ++ x ∷ []
      → map number_of xs ≡ range_with_len 0 (length xs) → number_of x ≡ length xs
      → map number_of all ≡ range_with_len 0 (length all)
  numbers-snoc xs x all is numbers next =
      let long = length-snoc xs x all is in
      ap (map number_of) is ∙ (map_push number_of xs x
      ∙ (ap (λ ks. ks ++ number_of x ∷ []) numbers
      ∙ (ap (λ k. range_with_len 0 (length xs) ++ k ∷ []) next
      ∙ (sym (range_with_len-more (length xs)) ∙ sym (ap (range_with_len 0) long)))))

module _ {Q J A B D S P : Type 0} (at : queue.Ghosts Q J A B D S P) (queue : Q) where
  -- all seats at the rows but the last
  pub AreRows-front : (all xs : List B) (x : B) → all ≡ xs ++ x ∷ []
      → AreRows at queue 0 all → AreRows at queue 0 xs
  AreRows-front all xs x is rows = record {
    ours = All-front (at.is_row queue) all xs x is rows.ours;
    numbers = numbers-front at.row_number all xs x is rows.numbers;
    untouched = λ on. All-front (λ row. (at.puts_of row ≡ []) × (at.takes_of row ≡ [])) all xs
        x is (rows.untouched on);
  }

  -- all but the first
  pub AreRows-rest : (n : ℕ) (all : List B) (x : B) (xs : List B) → all ≡ x ∷ xs
      → AreRows at queue n all → AreRows at queue (n + 1) xs
  AreRows-rest n all x xs is rows = record {
    ours = All-rest (at.is_row queue) all x xs is rows.ours;
    numbers = numbers-rest at.row_number n all x xs is rows.numbers;
    untouched = λ on. All-rest (λ row. (at.puts_of row ≡ []) × (at.takes_of row ≡ [])) all x xs
        is (rows.untouched on);
  }

  -- all seats at the point but the last
  pub AreWakers-front : (all xs : List D) (x : D) → all ≡ xs ++ x ∷ []
      → AreWakers at queue 0 all → AreWakers at queue 0 xs
  AreWakers-front all xs x is wakers = record {
    ours = All-front (at.is_waker queue) all xs x is wakers.ours;
    numbers = numbers-front at.waker_number all xs x is wakers.numbers;
  }

  -- all but the first
  pub AreWakers-rest : (n : ℕ) (all : List D) (x : D) (xs : List D) → all ≡ x ∷ xs
      → AreWakers at queue n all → AreWakers at queue (n + 1) xs
  AreWakers-rest n all x xs is wakers = record {
    ours = All-rest (at.is_waker queue) all x xs is wakers.ours;
    numbers = numbers-rest at.waker_number n all x xs is wakers.numbers;
  }
