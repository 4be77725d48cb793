-- What `free_before` and `give` answer and leave. Assumes nothing.
use Prim.Native.Nat.{ℕ, ◌+◌, ◌-◌, ◌*◌, ◌≤◌, ◌<◌}
use mathlib.Core.Path.{◌≡◌, sym, ◌∙◌}
use mathlib.Core.List.{List, [], ◌∷◌}
use mathlib.Core.Bool.{Bool, true, false}
use native.Mathlib.Decide.{ℕ_discrete, dec_lt}
use native.Mathlib.Omega.{arith}
use borrow.Author.Tests.{eq-eqb, ne_eqb}
use Rattle.std.proofs.Common.{nat_eq}
use lib.ListN.{length, get_or}
use Rattle.ranges.specs.Align.{Decides}
use Rattle.blocks.specs.Blocks.{count_of, blocks_of, limit_of, size_at, starts_at, starts_of, tags_of, index, Sound, Bounded, Ready}
use Rattle.blocks.proofs.Flat.{flat_start, flat_within}
use Rattle.spread.specs.Spread.{Turned, Nearly}
use Rattle.splice.specs.Splice.{splice, Spliced}
use Rattle.splice.proofs.Turns.{other_size, other_first, other_within, spliced_sound, spliced_blocks, spliced_starts, spliced_tags, spliced_total, first_behind}
use Rattle.melting.specs.Melting.{Free, FreeBefore, Almost, Given}
use Rattle.melting.proofs.Frees.{free_by, not_free, before_here, pos_here, before_there, before_none}

-- what is answered by a test of a number against 0
pub by_test : (x : ℕ) (P : Bool → Type 0) → (x ≡ 0 → P true) → ((x ≡ 0 → ⊥) → P false) → P (nat_eq x 0)
by_test x P yes_ no_ = elim (ℕ_discrete x 0) [ yes z ↦ rw (eq-eqb x 0 z) (yes_ z) | no n ↦ rw (ne_eqb x 0 n) (no_ n) ]

-- the answers of `free_before`
module _ (m : List ℕ) (sound : Sound m) (b : ℕ) (h : b < blocks_of m) (i : ℕ) (t : i < size_at b m) where
  pub here_free : 0 < i → get_or m (201 + b * 129 + (i - 1)) 0 ≡ 0 → FreeBefore m b i true
  here_free p z f = (pos_here m b i p, free_by m sound b h (i - 1) (omega arith) (index b i m - 1) (before_here m b i p) z)

  pub here_granted : 0 < i → (get_or m (201 + b * 129 + (i - 1)) 0 ≡ 0 → ⊥) → FreeBefore m b i false
  here_granted p n f = λ q. not_free m sound b h (i - 1) (omega arith) (index b i m - 1) (before_here m b i p) n q.1

  pub none_before : i ≡ 0 → b ≡ 0 → FreeBefore m b i false
  none_before e z f = λ q. before_none m b i e z q.0

  pub empty_before : 0 < b → size_at (b - 1) m ≡ 0 → FreeBefore m b i false
  empty_before p e f = absurd (omega (arith, f p))

  module _ (e : i ≡ 0) (p : 0 < b) (n : ℕ) (en : n ≡ size_at (b - 1) m) (q : 0 < n) where
    there : (0 < index b i m) × (index b i m - 1 ≡ index (b - 1) (size_at (b - 1) m - 1) m)
    there = before_there m b i e p (omega arith)

    pub there_free : get_or m (201 + (b - 1) * 129 + (n - 1)) 0 ≡ 0 → FreeBefore m b i true
    there_free z f =
        let y : get_or m (201 + (b - 1) * 129 + (size_at (b - 1) m - 1)) 0 ≡ 0 = rw en at z in
        (there.0, free_by m sound (b - 1) (omega arith) (size_at (b - 1) m - 1) (omega arith) (index b i m - 1) there.1 y)

    pub there_granted : (get_or m (201 + (b - 1) * 129 + (n - 1)) 0 ≡ 0 → ⊥) → FreeBefore m b i false
    there_granted z f =
        let y : get_or m (201 + (b - 1) * 129 + (size_at (b - 1) m - 1)) 0 ≡ 0 → ⊥ = rw en at z in
        λ g. not_free m sound (b - 1) (omega arith) (size_at (b - 1) m - 1) (omega arith) (index b i m - 1) there.1 y g.1

-- a change by another name
pub turned_by : (m m₁ m₂ : List ℕ) (ss ts ss' ts' : List ℕ) → limit_of m₁ ≡ limit_of m → get_or m₁ 2 0 ≡ get_or m 2 0 → get_or m₁ 3 0 ≡ get_or m 3 0 → ss ≡ ss' → ts ≡ ts' → Turned m₁ m₂ ss ts → Turned m m₂ ss' ts'
turned_by m m₁ m₂ ss ts ss' ts' a b c d e u =
    let l = u.laid in
    record { laid = record { settled = l.settled; limit = l.limit ∙ a; first = l.first ∙ b; last = l.last ∙ c; starts = l.starts ∙ d; tags = l.tags ∙ e }; bounded = u.bounded }

-- a table, as one that has yet to be changed
pub ready_almost : (m : List ℕ) (b hi : ℕ) → Ready m → Almost m b hi
unfolding Bounded
ready_almost m b hi ready =
    let st = ready.settled in
    record { total = st.total; some = λ c k z. st.some c k; spare = st.spare; low = λ c k l. ready.bounded c k; high = λ c k l. ready.bounded c k }

-- `by` ranges at range i of block b are given up for as many or fewer
module _ (m m₁ : List ℕ) (sound : Sound m) (nb b i by lo hi : ℕ) (eb : nb ≡ blocks_of m) (h : b < hi) (k : hi ≤ nb) (t : i + by ≤ size_at b m) (ns nt : List ℕ) (few : length ns ≤ by) (s : Spliced m m₁ b i by ns nt) where
  here : b < blocks_of m
  here = omega arith

  sound₁ : Sound m₁
  sound₁ = spliced_sound m m₁ b sound here i by ns nt s (omega (arith, sound.count))

  pub give_ready : lo ≤ b → Sound m₁ × (nb ≡ blocks_of m₁) × (lo ≤ b) × (b < hi) × (hi ≤ nb)
  give_ready l = (sound₁, eb ∙ sym (spliced_blocks m m₁ b sound here i by ns nt s), l, h, k)

  nearly : lo ≤ b → b ≤ lo + 1 → (i ≡ 0 → 0 < b → lo < b) → 0 < count_of m₁ → Almost m b hi → Nearly m₁ lo b hi
  nearly l₁ l₂ l₃ many a =
      let x = s.touched in
      let e4 = spliced_blocks m m₁ b sound here i by ns nt s in
      let next : (c : ℕ) → (c < lo) → c + 1 < blocks_of m → get_or m₁ (137 + (c + 1) * 129) 0 ≡ get_or m (137 + (c + 1) * 129) 0 = λ c z q. elim (ℕ_discrete (c + 1) b) [ yes y ↦ rw y (first c z y) | no y ↦ other_first m m₁ b sound here x (c + 1) y ] in
      record {
        many = many;
        total = spliced_total m m₁ b sound here i by ns nt s (omega arith) a.total;
        some = λ c q z y. rw (other_size m m₁ b sound here x c z) (a.some c (rw e4 at q) y);
        spare = λ c q z. rw (other_size m m₁ b sound here x c z) (a.spare c (rw e4 at q));
        low = λ c q l. other_within m m₁ b sound here x c (rw e4 at q) (λ z. omega arith) (next c l) (a.low c (rw e4 at q) (omega arith));
        high = λ c q l. other_within m m₁ b sound here x c (rw e4 at q) (λ z. omega arith) (λ r. other_first m m₁ b sound here x (c + 1) (λ z. omega arith)) (a.high c (rw e4 at q) l);
      }
    where
      first : (c : ℕ) → c < lo → c + 1 ≡ b → get_or m₁ (137 + b * 129) 0 ≡ get_or m (137 + b * 129) 0
      first c z y = elim (dec_lt 0 i) [ yes p ↦ first_behind m m₁ b sound here i by ns nt s p (omega arith) sound₁ | no p ↦ absurd (omega (arith, l₃ (omega arith) (omega arith))) ]

  pub give_turned : lo ≤ b → b ≤ lo + 1 → (i ≡ 0 → 0 < b → lo < b) → 0 < count_of m₁ → Almost m b hi → (m₂ : List ℕ) → (Nearly m₁ lo b hi → Turned m₁ m₂ (starts_of m₁) (tags_of m₁)) → Turned m m₂ (splice (index b i m) by ns (starts_of m)) (splice (index b i m) by nt (tags_of m))
  give_turned l₁ l₂ l₃ many a m₂ f =
      let x = s.touched in
      turned_by m m₁ m₂ (starts_of m₁) (tags_of m₁) (splice (index b i m) by ns (starts_of m)) (splice (index b i m) by nt (tags_of m)) (x.below 5 (omega arith) (λ z. omega arith)) (x.below 2 (omega arith) (λ z. omega arith)) (x.below 3 (omega arith) (λ z. omega arith)) (spliced_starts m m₁ b sound here i by ns nt s (omega arith)) (spliced_tags m m₁ b sound here i by ns nt s (omega arith)) (f (nearly l₁ l₂ l₃ many a))

-- what `give` leaves
module _ (m : List ℕ) (sound : Sound m) (nb b i lo hi : ℕ) (eb : nb ≡ blocks_of m) (h : b < hi) (k : hi ≤ nb) (t : i < size_at b m) (l₁ : lo ≤ b) (l₂ : b ≤ lo + 1) (l₃ : i ≡ 0 → 0 < b → lo < b) (r : Bool) (fb : FreeBefore m b i r) (m₁ m₂ : List ℕ) (f : Nearly m₁ lo b hi → Turned m₁ m₂ (starts_of m₁) (tags_of m₁)) where
  told : Almost m b hi → Decides r ((0 < index b i m) × Free m (index b i m - 1))
  told a = fb (λ p. a.some (b - 1) (omega arith) (λ z. omega arith))

  pub given_up : r ≡ true → Spliced m m₁ b i 1 [] [] → Almost m b hi → Given m m₂ (index b i m)
  given_up e s a =
      let d : (0 < index b i m) × Free m (index b i m - 1) = rw e at (told a) in
      let w = flat_within m sound b (omega arith) i t in
      record { before = true; told = d; turned = give_turned m m₁ sound nb b i 1 lo hi eb h k (omega arith) [] [] (omega arith) s l₁ l₂ l₃ (omega (arith, s.count, d.0, a.total)) a m₂ f }

  pub given_free : r ≡ false → (s : ℕ) → s ≡ get_or (starts_at b m) i 0 → Spliced m m₁ b i 1 (s ∷ []) (0 ∷ []) → Almost m b hi → Given m m₂ (index b i m)
  given_free e s es u a =
      let d : (0 < index b i m) × Free m (index b i m - 1) → ⊥ = rw e at (told a) in
      let w = flat_within m sound b (omega arith) i t in
      let q : get_or (starts_of m) (index b i m) 0 ≡ s = flat_start m sound b (omega arith) i 0 t ∙ sym es in
      record { before = false; told = d; turned = rw q (give_turned m m₁ sound nb b i 1 lo hi eb h k (omega arith) (s ∷ []) (0 ∷ []) (omega arith) u l₁ l₂ l₃ (omega (arith, u.count, a.total)) a m₂ f) }
