-- A block's starts and tags after `put`, `grow` and `shrink`. Assumes nothing.
use Prim.Native.Nat.{ℕ, ◌+◌, ◌-◌, ◌*◌, ◌%◌, ◌≤◌, ◌<◌}
use mathlib.Core.Path.{◌≡◌, sym, ap, ◌∙◌}
use mathlib.Core.List.{List, [], ◌∷◌, ◌++◌}
use native.Mathlib.Numerals.{add-one}
use native.Mathlib.Omega.{arith}
use lib.ListN.{length, get_or, take, drop, set, length-drop}
use lib.Seq.{set_split, length-take-le, drop-set-add, take-set-le, take-set-lt, drop-set-lt}
use Rattle.blocks.specs.Blocks.{count_of, blocks_of, size_at, starts_at, tags_at, Sound}
use Rattle.blocks.proofs.Parts.{part_get, part_length, fits, block_room, starts_length, tags_length}
use Rattle.spread.proofs.Agree.{small, two_length, two_other, two_first, two_second}
use Rattle.splice.specs.Splice.{Widened, Narrowed, Spliced, Grown}
use Rattle.splice.proofs.Lists.{more_list, less_list}

-- memory m' is m₁ with the block's number of ranges, and the table's
module _ (m m₁ : List ℕ) (b w v : ℕ) (long : 136 + b * 129 + 129 ≤ length m) (len : length m₁ ≡ length m) where
  abbrev after : List ℕ
  after = set (set m₁ (136 + b * 129) w) 1 v

  after_size : w < 64 → size_at b after ≡ w
  after_size h = ap (λ (x : ℕ). x % 64) (two_first m₁ (136 + b * 129) w 1 v (omega arith) (λ z. omega arith)) ∙ small w h

  after_count : get_or after 1 0 ≡ v
  after_count = two_second m₁ (136 + b * 129) w 1 v (omega arith)

  after_other : (j : ℕ) → (j ≡ 136 + b * 129 → ⊥) → (j ≡ 1 → ⊥) → get_or after j 0 ≡ get_or m₁ j 0
  after_other j p q = two_other m₁ (136 + b * 129) w 1 v j p q

  after_length : length after ≡ length m
  after_length = two_length m₁ (136 + b * 129) w 1 v ∙ len

module _ (m : List ℕ) (sound : Sound m) (b : ℕ) (h : b < blocks_of m) where
  -- `grow`
  pub grow_grown : (m₁ : List ℕ) (i by w v : ℕ) → i ≤ size_at b m → size_at b m + by ≤ 63 → Widened m m₁ (137 + b * 129) (size_at b m) i by → w ≡ size_at b m + by → v ≡ count_of m + by → Grown m (set (set m₁ (136 + b * 129) w) 1 v) b i by
  grow_grown m₁ i by w v hi fit o ew ev =
      let long = block_room m sound b h in
      let n : ℕ = size_at b m in
      let m' : List ℕ = set (set m₁ (136 + b * 129) w) 1 v in
      let es : size_at b m' ≡ n + by = after_size m m₁ b w v long o.len (omega arith) ∙ ew in
      let len : length m' ≡ length m = after_length m m₁ b w v long o.len in
      let x : List ℕ = starts_at b m in
      let y : List ℕ = tags_at b m in
      let z : List ℕ = take (n + by) (drop (137 + b * 129) m') in
      let u : List ℕ = take (n + by) (drop (201 + b * 129) m') in
      let lx : length x ≡ n = starts_length m sound b h in
      let ly : length y ≡ n = tags_length m sound b h in
      let lz : length z ≡ n + by = part_length m' (137 + b * 129) (n + by) (omega arith) in
      let lu : length u ≡ n + by = part_length m' (201 + b * 129) (n + by) (omega arith) in
      let ez : z ≡ take i x ++ (take by (drop i z) ++ drop i x) =
      more_list x z i by (omega arith) (omega arith)
      (λ k q. part_get m' (137 + b * 129) (n + by) k 0 (omega arith) ∙ after_other m m₁ b w v long o.len (137 + b * 129 + k) (λ t. omega arith) (λ t. omega arith) ∙ o.below (137 + b * 129 + k) (omega arith) ∙ sym (part_get m (137 + b * 129) n k 0 (omega arith)))
      (λ k p q. let t : 137 + b * 129 + (k + by) ≡ 137 + b * 129 + k + by = omega arith in part_get m' (137 + b * 129) (n + by) (k + by) 0 (omega arith) ∙ rw t (after_other m m₁ b w v long o.len (137 + b * 129 + k + by) (λ t. omega arith) (λ t. omega arith) ∙ o.starts k p (omega arith) ∙ sym (part_get m (137 + b * 129) n k 0 (omega arith)))) in
      let eu : u ≡ take i y ++ (take by (drop i u) ++ drop i y) =
      more_list y u i by (omega arith) (omega arith)
      (λ k q. part_get m' (201 + b * 129) (n + by) k 0 (omega arith) ∙ after_other m m₁ b w v long o.len (201 + b * 129 + k) (λ t. omega arith) (λ t. omega arith) ∙ o.between (201 + b * 129 + k) (omega arith) (omega arith) ∙ sym (part_get m (201 + b * 129) n k 0 (omega arith)))
      (λ k p q. let t : 201 + b * 129 + (k + by) ≡ 137 + b * 129 + 64 + k + by = omega arith in let t' : 201 + b * 129 + k ≡ 137 + b * 129 + 64 + k = omega arith in part_get m' (201 + b * 129) (n + by) (k + by) 0 (omega arith) ∙ ap (λ (q : ℕ). get_or m' q 0) t ∙ after_other m m₁ b w v long o.len (137 + b * 129 + 64 + k + by) (λ t. omega arith) (λ t. omega arith) ∙ o.tags k p (omega arith) ∙ ap (λ (q : ℕ). get_or m q 0) (sym t') ∙ sym (part_get m (201 + b * 129) n k 0 (omega arith))) in
      let ns : List ℕ = take by (drop i z) in
      let nt : List ℕ = take by (drop i u) in
      let ls : length ns ≡ by = length-take-le by (drop i z) (simp length-drop (omega arith)) in
      let lt : length nt ≡ by = length-take-le by (drop i u) (simp length-drop (omega arith)) in
      let i0 : i + 0 ≡ i = omega arith in
      let ez' : z ≡ take i x ++ (ns ++ drop (i + 0) x) = rw i0 ez in
      let eu' : u ≡ take i y ++ (nt ++ drop (i + 0) y) = rw i0 eu in
      record {
        ns = ns;
        nt = nt;
        many = ls;
        as_many = lt;
        spliced = record {
          touched = record {
            len = len;
            below = λ j p q. after_other m m₁ b w v long o.len j (λ t. omega arith) q ∙ o.below j (omega arith);
            above = λ j p. after_other m m₁ b w v long o.len j (λ t. omega arith) (λ t. omega arith) ∙ o.above j (omega arith);
          };
          size = omega arith;
          count = let ec = after_count m m₁ b w v long o.len in omega arith;
          starts = rw es ez';
          tags = rw es eu';
        };
      }

  -- `shrink`
  pub shrink_spliced : (m₁ : List ℕ) (i by w v : ℕ) → i + by ≤ size_at b m → Narrowed m m₁ (137 + b * 129) (size_at b m - by) i by → w ≡ size_at b m - by → v ≡ count_of m - by → Spliced m (set (set m₁ (136 + b * 129) w) 1 v) b i by [] []
  shrink_spliced m₁ i by w v hi o ew ev =
      let fit = fits m b in
      let long = block_room m sound b h in
      let n : ℕ = size_at b m in
      let m' : List ℕ = set (set m₁ (136 + b * 129) w) 1 v in
      let es : size_at b m' ≡ n - by = after_size m m₁ b w v long o.len (omega arith) ∙ ew in
      let len : length m' ≡ length m = after_length m m₁ b w v long o.len in
      let x : List ℕ = starts_at b m in
      let y : List ℕ = tags_at b m in
      let z : List ℕ = take (n - by) (drop (137 + b * 129) m') in
      let u : List ℕ = take (n - by) (drop (201 + b * 129) m') in
      let lx : length x ≡ n = starts_length m sound b h in
      let ly : length y ≡ n = tags_length m sound b h in
      let lz : length z ≡ n - by = part_length m' (137 + b * 129) (n - by) (omega arith) in
      let lu : length u ≡ n - by = part_length m' (201 + b * 129) (n - by) (omega arith) in
      let ez : z ≡ take i x ++ drop (i + by) x =
      less_list x z i by (omega arith) (omega arith)
      (λ k q. part_get m' (137 + b * 129) (n - by) k 0 (omega arith) ∙ after_other m m₁ b w v long o.len (137 + b * 129 + k) (λ t. omega arith) (λ t. omega arith) ∙ o.below (137 + b * 129 + k) (omega arith) ∙ sym (part_get m (137 + b * 129) n k 0 (omega arith)))
      (λ k p q. let t : 137 + b * 129 + k + by ≡ 137 + b * 129 + (k + by) = omega arith in part_get m' (137 + b * 129) (n - by) k 0 (omega arith) ∙ after_other m m₁ b w v long o.len (137 + b * 129 + k) (λ t. omega arith) (λ t. omega arith) ∙ o.starts k p (omega arith) ∙ rw t (sym (part_get m (137 + b * 129) n (k + by) 0 (omega arith)))) in
      let eu : u ≡ take i y ++ drop (i + by) y =
      less_list y u i by (omega arith) (omega arith)
      (λ k q. part_get m' (201 + b * 129) (n - by) k 0 (omega arith) ∙ after_other m m₁ b w v long o.len (201 + b * 129 + k) (λ t. omega arith) (λ t. omega arith) ∙ o.between (201 + b * 129 + k) (omega arith) (omega arith) ∙ sym (part_get m (201 + b * 129) n k 0 (omega arith)))
      (λ k p q. let t : 201 + b * 129 + k ≡ 137 + b * 129 + 64 + k = omega arith in let t' : 137 + b * 129 + 64 + k + by ≡ 201 + b * 129 + (k + by) = omega arith in part_get m' (201 + b * 129) (n - by) k 0 (omega arith) ∙ ap (λ (q : ℕ). get_or m' q 0) t ∙ after_other m m₁ b w v long o.len (137 + b * 129 + 64 + k) (λ t. omega arith) (λ t. omega arith) ∙ o.tags k p (omega arith) ∙ ap (λ (q : ℕ). get_or m q 0) t' ∙ sym (part_get m (201 + b * 129) n (k + by) 0 (omega arith))) in
      record {
        touched = record {
          len = len;
          below = λ j p q. after_other m m₁ b w v long o.len j (λ t. omega arith) q ∙ o.below j (omega arith);
          above = λ j p. after_other m m₁ b w v long o.len j (λ t. omega arith) (λ t. omega arith) ∙ o.above j (omega arith);
        };
        size = omega arith;
        count = let ec = after_count m m₁ b w v long o.len in omega arith;
        starts = rw es ez;
        tags = rw es eu;
      }

  -- `put`
  pub put_spliced : (i s t : ℕ) → i < size_at b m → Spliced m (set (set m (137 + b * 129 + i) s) (201 + b * 129 + i) t) b i 1 (s ∷ []) (t ∷ [])
  put_spliced i s t hi =
      let long = block_room m sound b h in
      let fit = fits m b in
      let n : ℕ = size_at b m in
      let m' : List ℕ = set (set m (137 + b * 129 + i) s) (201 + b * 129 + i) t in
      let other : (j : ℕ) → (j ≡ 137 + b * 129 + i → ⊥) → (j ≡ 201 + b * 129 + i → ⊥) → get_or m' j 0 ≡ get_or m j 0 = two_other m (137 + b * 129 + i) s (201 + b * 129 + i) t in
      let es : size_at b m' ≡ n = ap (λ (x : ℕ). x % 64) (other (136 + b * 129) (λ z. omega arith) (λ z. omega arith)) in
      let far : 201 + b * 129 + i ≡ 137 + b * 129 + (64 + i) = omega arith in
      let ex : take n (drop (137 + b * 129) m') ≡ set (starts_at b m) i s =
      rw (far, drop-set-add (137 + b * 129) (set m (137 + b * 129 + i) s) (64 + i) t, drop-set-add (137 + b * 129) m i s, take-set-le n (set (drop (137 + b * 129) m) i s) (64 + i) t (omega arith)) (take-set-lt n (drop (137 + b * 129) m) i s hi) in
      let ey : take n (drop (201 + b * 129) m') ≡ set (tags_at b m) i t =
      rw (drop-set-add (201 + b * 129) (set m (137 + b * 129 + i) s) i t, drop-set-lt (201 + b * 129) m (137 + b * 129 + i) s (omega arith)) (take-set-lt n (drop (201 + b * 129) m) i t hi) in
      record {
        touched = record { len = two_length m (137 + b * 129 + i) s (201 + b * 129 + i) t; below = λ j p q. other j (λ z. omega arith) (λ z. omega arith); above = λ j p. other j (λ z. omega arith) (λ z. omega arith) };
        size = omega arith;
        count = let e1 = other 1 (λ z. omega arith) (λ z. omega arith) in omega arith;
        starts = rw (es, ex) (set_split (starts_at b m) i s (omega (arith, starts_length m sound b h)) ∙ rw (add-one i));
        tags = rw (es, ey) (set_split (tags_at b m) i t (omega (arith, tags_length m sound b h)) ∙ rw (add-one i));
      }
