-- Words that are a pool's, both ways. Assumes nothing.
--     sensible_pool     numbers and words that pass the tests are those of a valid pool
--     pool_sensible     those of a valid pool pass them
--     good_more         one range more passes the test
--     tests_both        what one statement decides, an equivalent one does
use Rattle.std.proofs.Common.{◌≡◌, ℕ, zero, suc, ◌+◌, ◌-◌, ◌*◌, ◌^◌, ◌<◌, ◌≤◌, List, [], ◌∷◌, length, sym, refl, ap, ◌∙◌, subst, ⊎_elim, Result, Ok, Err, arith}
use mathlib.Core.List.Memᴰ
use mathlib.Core.List.{Memᴰ}
use Rattle.octets.specs.Octets.{word}
use Rattle.octets.proofs.Words.{below_or_not}
use Rattle.frame.specs.Frame.{Frame}
use Rattle.frame.proofs.FrameLaws.{frame_same}
use Rattle.table.specs.Row.{Tile, Covers}
use Rattle.addresses.specs.Meaning.{row_of}
use Rattle.addresses.specs.Operations.{Pool}
use Rattle.addresses.specs.Runs.{Valid}
use Rattle.addresses.proofs.TableLaws.{Table, pool_of, table_pool, table_valid, state_table}
use Rattle.saved.specs.Format.{kind, Tiles, Message}
use Rattle.loaded.specs.Contract.{Begins}
use Rattle.frame.specs.declared.Fault.{Fault}
use Rattle.loaded.specs.Steps.{Good, AllGood, Sensible, Tests}

-- ---- the row that words say

-- the n ranges from word k on
unfoldable pub row_at : (ℕ → ℕ) → ℕ → ℕ → List Tile
row_at w k zero = []
row_at w k (suc n) = record { start = w k; tag = w (k + 1) } ∷ row_at w (k + 2) n

pub row_tiles : (w : ℕ → ℕ) (k n : ℕ) → Tiles w k (row_at w k n)
unfolding row_at Tiles
row_tiles w k zero = _
row_tiles w k (suc n) = (refl, refl, row_tiles w (k + 2) n)

pub row_length : (w : ℕ → ℕ) (k n : ℕ) → length (row_at w k n) ≡ n
unfolding row_at
row_length w k zero = refl
row_length w k (suc n) = ap suc (row_length w (k + 2) n)

-- the ranges behind the first are as they are to be
good_rest : (w : ℕ → ℕ) (last k n : ℕ) → AllGood w last k (suc n) → AllGood w last (k + 2) n
good_rest w last k n g i more e =
    let z : k + 2 * (i + 1) ≡ k + 2 + 2 * i = omega arith in
    subst (λ (x : ℕ). Good w last x more) z (g (i + 1) more (omega arith))

good_first : (w : ℕ → ℕ) (last k n : ℕ) → AllGood w last k (suc n) → Good w last k n
good_first w last k n g =
    let z : k + 2 * 0 ≡ k = omega arith in
    subst (λ (x : ℕ). Good w last x n) z (g 0 n (omega arith))

good_covers : (w : ℕ → ℕ) (last k n : ℕ) → AllGood w last k (suc n) → Covers (w k) (last + 1) (row_at w k (suc n))
unfolding row_at Covers
good_covers w last k zero g = (refl, omega (arith, (good_first w last k zero g).inside))
good_covers w last k (suc n) g =
    let p = (good_first w last k (suc n) g).pair (omega arith) in
    let z : k + 2 + 1 ≡ k + 3 = omega arith in
    (refl, p.rising, λ a b. p.apart a (sym (ap w z) ∙ b), good_covers w last (k + 2) n (good_rest w last k (suc n) g))

good_tags : (w : ℕ → ℕ) (last k n : ℕ) → AllGood w last k n → (t : Tile) → Memᴰ t (row_at w k n) → t.tag ≤ 1
unfolding row_at
good_tags w last k zero g t m = absurd (Memᴰ.not-nil m)
good_tags w last k (suc n) g t m =
    ⊎_elim
    (λ (e : t ≡ record { start = w k; tag = w (k + 1) }). omega (arith, ap (λ (y : Tile). y.tag) e, (good_first w last k n g).state))
    (λ (l : Memᴰ t (row_at w (k + 2) n)). good_tags w last (k + 2) n (good_rest w last k n g) t l)
    (Memᴰ.cases_cons m)

-- and the other way: a row that covers the pool, with tags 0 and 1, passes the tests
covers_good : (w : ℕ → ℕ) (from last k : ℕ) (row : List Tile) → Tiles w k row → Covers from (last + 1) row → ((t : Tile) → Memᴰ t row → t.tag ≤ 1) → AllGood w last k (length row)
unfolding Tiles Covers
covers_good w from last k [] t c g i more e = absurd c
covers_good w from last k (x ∷ []) t c g zero more e =
    let z : k ≡ k + 2 * 0 = omega arith in
    subst (λ (y : ℕ). Good w last y more) z (record { state = omega (arith, t.1, g x (Memᴰ.head refl)); inside = omega (arith, t.0, c.0, c.1); pair = λ l. absurd (omega arith) })
covers_good w from last k (x ∷ []) t c g (suc i) more e = absurd (omega arith)
covers_good w from last k (x ∷ y ∷ row) t c g zero more e =
    let z : k ≡ k + 2 * 0 = omega arith in
    let u : k + 2 + 1 ≡ k + 3 = omega arith in
    let rest = covers_good w y.start last (k + 2) (y ∷ row) t.2 c.3 (λ s m. g s (Memᴰ.tail m)) 0 (length row) (omega arith) in
    let v : k + 2 + 2 * 0 ≡ k + 2 = omega arith in
    subst (λ (y : ℕ). Good w last y more) z (record {
      state = omega (arith, t.1, g x (Memᴰ.head refl));
      inside = omega (arith, t.0, c.0, c.1, t.2.0, rest.inside, ap w v);
      pair = λ l. record { rising = omega (arith, t.0, c.0, c.1, t.2.0); apart = λ a b. c.2 (sym t.1 ∙ a) (sym t.2.1 ∙ ap w u ∙ b) };
    })
covers_good w from last k (x ∷ y ∷ row) t c g (suc i) more e =
    let z : k + 2 + 2 * i ≡ k + 2 * suc i = omega arith in
    subst (λ (y : ℕ). Good w last y more) z (covers_good w y.start last (k + 2) (y ∷ row) t.2 c.3 (λ s m. g s (Memᴰ.tail m)) i more (omega arith))

-- ---- the theorem, both ways

covers_first : (w : ℕ → ℕ) (from top k : ℕ) (row : List Tile) → Tiles w k row → Covers from top row → (w k ≡ from) × (0 < length row)
unfolding Tiles Covers
covers_first w from top k [] t c = absurd c
covers_first w from top k (x ∷ []) t c = (t.0 ∙ c.0, omega arith)
covers_first w from top k (x ∷ y ∷ row) t c = (t.0 ∙ c.0, omega arith)

good_table : (w : ℕ → ℕ) (base last n : ℕ) → base ≤ last → 0 < n → w 7 ≡ base → AllGood w last 7 n → Table base (last + 1) (row_at w 7 n)
good_table w base last zero o s f g = absurd (omega arith)
good_table w base last (suc n) o s f g = record {
  some = omega arith;
  covers = subst (λ (x : ℕ). Covers x (last + 1) (row_at w 7 (suc n))) f (good_covers w last 7 n g);
  tags = good_tags w last 7 (suc n) g;
}

-- the pool that the words say
abbrev pub pool_at : (ℕ → ℕ) → ℕ → ℕ → ℕ → ℕ → Pool
pool_at w base last limit n = pool_of base (last + 1) limit (row_at w 7 n)

pub sensible_pool : (bs : List ℕ) (base last limit words : ℕ) → last < 2 ^ 64 → Frame kind base last limit words bs → (s : Sensible (word bs) base last limit words) → Begins bs (64 + 8 * words) (pool_at (word bs) base last limit s.count)
sensible_pool bs base last limit words below f s =
    let w = word bs in
    let n = s.count in
    let t = good_table w base last n s.order s.some s.first s.ranges in
    let p : Pool = pool_at w base last limit n in
    let e : row_of p.state ≡ row_at w 7 n = (table_pool base (last + 1) limit (row_at w 7 n) t).1 in
    let l : length (row_of p.state) ≡ n = ap length e ∙ row_length w 7 n in
    record {
      message = record {
        frame = frame_same kind base last limit words base (last + 1 - 1) limit (2 * length (row_of p.state)) bs f refl (omega arith) refl (omega (arith, s.even, l));
        row = subst (Tiles w 7) (sym e) (row_tiles w 7 n);
      };
      valid = table_valid base (last + 1) limit (row_at w 7 n) t (omega arith) (omega (arith, s.within)) (omega (arith, row_length w 7 n, s.room)) s.most;
      taken = omega (arith, s.even, l);
    }

pub pool_sensible : (bs : List ℕ) (base last limit words : ℕ) (p : Pool) → Frame kind base last limit words bs → Valid p → Message bs p → Sensible (word bs) base last limit words
pool_sensible bs base last limit words p f v m =
    let w = word bs in
    let first : p.state.base ≡ base = sym m.frame.first ∙ f.first in
    let second : p.state.top - 1 ≡ last = sym m.frame.second ∙ f.second in
    let top : p.state.top ≡ last + 1 = omega (arith, second, v.sound.some) in
    let third : p.limit ≡ limit = sym m.frame.third ∙ f.third in
    let number : 2 * length (row_of p.state) ≡ words = sym m.frame.count ∙ f.count in
    let t = state_table p.state v.sound in
    let c : Covers p.state.base (last + 1) (row_of p.state) = subst (λ (x : ℕ). Covers p.state.base x (row_of p.state)) top t.covers in
    let k = covers_first w p.state.base (last + 1) 7 (row_of p.state) m.row c in
    record {
      order = omega (arith, first, top, v.sound.some);
      within = omega (arith, first, top, v.within);
      most = omega (arith, third, v.most);
      count = length (row_of p.state);
      even = sym number;
      some = k.1;
      room = omega (arith, third, v.room);
      first = k.0 ∙ first;
      ranges = covers_good w p.state.base last 7 (row_of p.state) m.row c t.tags;
    }

-- ---- for the loop of tests

-- the ranges before range i are as they are to be
abbrev pub GoodTo : (ℕ → ℕ) → ℕ → ℕ → ℕ → Type 0
GoodTo w last n i = (j more : ℕ) → j < i → j + more + 1 ≡ n → Good w last (7 + 2 * j) more

pub good_more : (w : ℕ → ℕ) (last n i : ℕ) → GoodTo w last n i → Good w last (7 + 2 * i) (n - i - 1) → GoodTo w last n (i + 1)
good_more w last n i f g j more l e =
    ⊎_elim
    (λ (h : j < i). f j more h e)
    (λ (h : i ≤ j).
    let z : i ≡ j = omega arith in
    let y : n - i - 1 ≡ more = omega arith in
    subst (λ (x : ℕ). Good w last (7 + 2 * x) more) z (subst (Good w last (7 + 2 * i)) y g))
    (below_or_not j i)

pub tests_both : (w : ℕ → ℕ) (r : Result (Unit {0}) Fault) (P Q : Type 0) → (P → Q) → (Q → P) → Tests w r P → Tests w r Q
unfolding Tests
tests_both w (Ok u) P Q f g t = f t
tests_both w (Err e) P Q f g t = (λ q. t.0 (g q), t.1)
