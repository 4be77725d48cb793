-- Laws of `copy`, and what a caller has of it. From the public contracts and laws of `ids` alone.
--     copy_none, copy_cut, copy_short, copy_done     the four ways in which `copy` ends
--     put_more                                       one word more
--     apart                                          of calls on two blocks in any order, those on one are answered as with no other block there
--     untouched                                      so a block of which nothing is asked keeps its words
--     copy_alike                                     a copy gives to the same calls the same answers, whatever is done to the other in between
-- Assumes nothing.
use Rattle.std.proofs.Common.{Option, Some, None, Ok, Err}
use Prim.Native.Nat.{ℕ, ◌+◌, ◌≤◌, ◌<◌}
use mathlib.Core.Path.{◌≡◌, refl, ◌∙◌, subst}
use mathlib.Core.Logic.{inl, inr}
use mathlib.Core.List.{List, [], ◌∷◌}
use borrow.Author.Count.{below_more}
use native.Mathlib.Omega.{arith}
use lib.ListN.{length, get_or, set}
use lib.Seq.{get_or-set_same, get_or-set_other}
use Rattle.ranges.specs.declared.Error.{Error}
use Rattle.ids.specs.State.{State}
use Rattle.ids.specs.Runs.{Event, questions, SameFuture}
use Rattle.ids.specs.Held.{Holds, Needs}
use Rattle.ids.specs.Contract.{Describes, Chain}
use Rattle.ids.specs.declared.Interval.{Interval}
use Rattle.ids.proofs.FirstWords.{holds_words, holds_long}
use Rattle.ids.proofs.Futures.{runs_one}
use Rattle.ids.proofs.Chains.{chain_runs}
use Rattle.copied_ids.specs.Copy.{Begins, Copies}
use Rattle.copied_ids.specs.Two.{Turn, One, Other, Happen, ones, others}

-- one word more
pub put_more : (src dst : List ℕ) (k : ℕ) → k < length dst → Begins k src dst → Begins (k + 1) src (set dst k (get_or src k 0))
put_more src dst k l b =
    below_more (λ (i : ℕ). get_or (set dst k (get_or src k 0)) i 0 ≡ get_or src i 0) k (λ i u. get_or-set_other dst k i (get_or src k 0) 0 (λ e. omega arith) ∙ b i u) (get_or-set_same dst k (get_or src k 0) 0 l)

pub copy_none : (m n : List ℕ) (x : Option Interval) → Describes m x → x ≡ None → Copies m (Err Error.NoState) n n
unfolding Copies
copy_none m n x w e = (refl, inl (refl, subst (Describes m) e w))

module _ (m n : List ℕ) (x : Option Interval) (w : Describes m x) (i : Interval) (k : ℕ) (e : x ≡ Some i) (need : Needs i.low i.high k) where
  needed : (s : State) → Holds m s → Needs s.low s.high k
  needed s h =
      let d = subst (Describes m) e w s h in
      subst (λ (y : ℕ). Needs s.low y k) d.1 (subst (λ (y : ℕ). Needs y i.high k) d.0 need)

  pub copy_cut : length m < k → Copies m (Err Error.NoState) n n
  unfolding Copies
  copy_cut l = (refl, inl (refl, λ s h. omega (arith, holds_long m s k h (needed s h))))

  pub copy_short : length n < k → Copies m (Err Error.NoRoom) n n
  unfolding Copies
  copy_short l = (refl, inr (refl, λ s h. (k, needed s h, l)))

  pub copy_done : k ≤ length n → (n' : List ℕ) → length n' ≡ length n → Begins k m n' → Copies m (Ok tt) n n'
  unfolding Copies
  copy_done l n' same b s h = ((k, needed s h, l), holds_words m n' s k h (needed s h) (omega arith) b)

-- ---- two blocks

-- of calls on two blocks in any order, those on one get the answers that they would get with no other block there
pub apart : (m n m' n' : List ℕ) (ts : List Turn) → Happen m n ts m' n' → Chain m (ones ts) m' × Chain n (others ts) n'
unfolding Happen Chain ones others
apart m n m' n' [] h = h
apart m n m' n' (One e ∷ ts) h = let w = apart h.0 n m' n' ts h.2 in ((h.0, h.1, w.0), w.1)
apart m n m' n' (Other e ∷ ts) h = let w = apart m h.0 m' n' ts h.2 in (w.0, (h.0, h.1, w.1))

-- calls on the one block alone leave the other word for word as it was
pub untouched : (m n m' n' : List ℕ) (ts : List Turn) → Happen m n ts m' n' → ones ts ≡ [] → m' ≡ m
unfolding Chain
untouched m n m' n' ts h e = subst (λ (es : List Event). Chain m es m') e (apart m n m' n' ts h).0

pub untouched_other : (m n m' n' : List ℕ) (ts : List Turn) → Happen m n ts m' n' → others ts ≡ [] → n' ≡ n
unfolding Chain
untouched_other m n m' n' ts h e = subst (λ (es : List Event). Chain n es n') e (apart m n m' n' ts h).1

pub copy_alike : (m n k m' k' : List ℕ) (s : State) (ts : List Turn) → Holds m s → Copies m (Ok tt) n k → Happen m k ts m' k' → questions (ones ts) ≡ questions (others ts) → ones ts ≡ others ts
unfolding Copies SameFuture
copy_alike m n k m' k' s ts h c w e =
    let a = apart m k m' k' ts w in
    let x = chain_runs m m' s (ones ts) h a.0 in
    let y = chain_runs k k' s (others ts) (c s h).1 a.1 in
    runs_one s (ones ts) (others ts) x.0 y.0 x.1 y.1 e
