-- Words as the library reads and writes them, eight bytes with the least first. Assumes nothing.
--     chunk_word       chunk i of eight bytes is word i
--     bytes_put        word i is set by its eight bytes
use Rattle.std.proofs.Common.{◌≡◌, ℕ, zero, suc, ◌+◌, ◌*◌, ◌/◌, ◌^◌, ◌<◌, ◌≤◌, ◌⊎◌, List, [], length, get_or, drop, ap, ◌∙◌, sym, inl, inr, lit<, arith}
use Rattle.std.specs.Int.{w64, from_le_bytes, to_le_bytes}
use Rattle.std.specs.Simd.{first_chunks}
use Rattle.std.proofs.lemmas.List.{get_or-take, get_or-drop, places}
use Rattle.std.proofs.lemmas.Nat.{from_le_bytes-to_le_bytes_8}
use borrow.Rule.Slice.PartMut.{put_mid}
use Rattle.octets.specs.Octets.{two, four, eight, word, Puts}

-- element i of the chunks is the n elements from n i on
chunk_at : (n k i : ℕ) (xs : List ℕ) (j : ℕ) → i < k → j < n → get_or (get_or (first_chunks n k xs) i []) j 0 ≡ get_or xs (n * i + j) 0
chunk_at n zero i xs j h l = absurd (omega arith)
chunk_at n (suc k) zero xs j h l = get_or-take n xs j 0 l ∙ ap (λ (x : ℕ). get_or xs x 0) (omega arith)
chunk_at n (suc k) (suc i) xs j h l = chunk_at n k i (drop n xs) j (omega arith) l ∙ get_or-drop n xs (n * i + j) 0 ∙ ap (λ (x : ℕ). get_or xs x 0) (omega arith)

-- eight bytes that stand from k on
eight_read : (xs : List ℕ) (k : ℕ) (ys : List ℕ) → ((j i : ℕ) → j < 8 → i ≡ k + j → get_or ys j 0 ≡ get_or xs i 0) → from_le_bytes w64 ys ≡ eight xs k
unfolding two four eight
eight_read xs k ys e =
    let a = e 0 k (lit< tt) (omega arith) in
    let b = e 1 (k + 1) (lit< tt) (omega arith) in
    let c = e 2 (k + 2) (lit< tt) (omega arith) in
    let d = e 3 (k + 2 + 1) (lit< tt) (omega arith) in
    let f = e 4 (k + 4) (lit< tt) (omega arith) in
    let g = e 5 (k + 4 + 1) (lit< tt) (omega arith) in
    let h = e 6 (k + 4 + 2) (lit< tt) (omega arith) in
    let i = e 7 (k + 4 + 2 + 1) (lit< tt) (omega arith) in
    rw (a, b, c, d, f, g, h, i) (omega arith)

pub chunk_word : (k i : ℕ) (bs : List ℕ) → i < k → from_le_bytes w64 (get_or (first_chunks 8 k bs) i []) ≡ word bs i
unfolding word
chunk_word k i bs h = eight_read bs (8 * i) (get_or (first_chunks 8 k bs) i []) (λ j y l e. chunk_at 8 k i bs j h l ∙ ap (λ (x : ℕ). get_or bs x 0) (sym e))

module _ (a n : ℕ) (xs ys : List ℕ) (h : a + n ≤ length xs) (l : length ys ≡ n) where
  put_at : (j i : ℕ) → j < n → i ≡ a + j → get_or (put_mid a n xs ys) i 0 ≡ get_or ys j 0
  put_at j i b e = grind (arith, places)

  put_other : (j : ℕ) → (j < a) ⊎ (a + n ≤ j) → get_or (put_mid a n xs ys) j 0 ≡ get_or xs j 0
  put_other j (inl b) = grind (arith, places)
  put_other j (inr b) = grind (arith, places)

  put_length : length (put_mid a n xs ys) ≡ length xs
  put_length = grind (arith, places)

pub bytes_put : (bs : List ℕ) (i x k : ℕ) (ys : List ℕ) → i < length bs / 8 → x < 2 ^ 64 → k ≡ 8 → ys ≡ to_le_bytes w64 x → Puts bs i x (put_mid (8 * i) k bs ys)
unfolding word
bytes_put bs i x k ys h f e q =
    let z : 8 * i + k ≤ length bs = omega arith in
    let l : length ys ≡ k = ap length q ∙ sym e in
    record {
      long = put_length (8 * i) k bs ys z l;
      says = λ _. sym (eight_read (put_mid (8 * i) k bs ys) (8 * i) ys (λ j y b c. sym (put_at (8 * i) k bs ys z l j y (omega arith) c))) ∙ ap (from_le_bytes w64) q ∙ from_le_bytes-to_le_bytes_8 x f;
      other = λ j d. put_other (8 * i) k bs ys z l j (rw e d);
      none = λ n. absurd (n (omega arith));
    }
