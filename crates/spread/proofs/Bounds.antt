-- New bounds, block by block. Assumes nothing.
use Prim.Native.Nat.{ℕ, ◌+◌, ◌-◌, ◌≤◌, ◌<◌}
use mathlib.Core.Path.{◌≡◌, refl, sym, ◌∙◌}
use mathlib.Core.List.{List}
use native.Mathlib.Decide.{ℕ_discrete, dec_lt}
use native.Mathlib.Omega.{arith}
use lib.ListN.{set, length-set}
use lib.Seq.{get_or-set_other, get_or-set_same}
use Rattle.blocks.specs.Blocks.{blocks_of, size_at, bound_at, starts_at, tags_at, past_at, starts_of, tags_of, Within, Sound, Bounded}
use Rattle.spread.specs.Spread.{Same, Tightened, Trimmed, Laid, Turned, Nearly, Covered}
use Rattle.spread.proofs.Agree.{same_self, same_last, same_sound, same_starts, same_tags, same_settled, same_all_starts, same_all_tags}

pub trim_none : (m : List ℕ) (lo : ℕ) → Trimmed m m lo lo
trim_none m lo = record { same = same_self m 8 136; within = λ c p q. absurd (omega arith); before = λ c p. refl; behind = λ c p. refl }

-- one block more
module _ (m x y : List ℕ) (lo b : ℕ) (sound : Sound m) (h : b < blocks_of m) (t : Trimmed m x lo b) (u : Tightened x y b) where
  step_same : Same x y 8 136
  step_same =
      let s = sound in
      rw u.is (record {
        len = length-set x (8 + b) u.bound;
        below = λ i l. get_or-set_other x (8 + b) i u.bound 0 (λ z. omega arith);
        above = λ i l. get_or-set_other x (8 + b) i u.bound 0 (λ z. omega arith);
      })

  here : bound_at b y ≡ u.bound
  here = let s = sound in rw u.is (get_or-set_same x (8 + b) u.bound 0 (omega (arith, t.same.len)))

  other : (c : ℕ) → (c ≡ b → ⊥) → bound_at c y ≡ bound_at c x
  other c n = rw u.is (get_or-set_other x (8 + b) (8 + c) u.bound 0 (λ z. n (omega arith)))

  within_here : Within (past_at b m) (starts_at b m) (tags_at b m) (bound_at b y)
  within_here = rw (here, sym (same_last m x t.same b), sym (same_starts m x t.same sound b h), sym (same_tags m x t.same sound b h)) u.within

  pub trim_more : lo ≤ b → Trimmed m y lo (b + 1)
  trim_more l =
      let s = step_same in
      record {
        same = record { len = s.len ∙ t.same.len; below = λ i p. s.below i p ∙ t.same.below i p; above = λ i p. s.above i p ∙ t.same.above i p };
        within = λ c p q. elim (ℕ_discrete c b) [ yes z ↦ rw z within_here | no z ↦ rw (other c z) (t.within c p (omega arith)) ];
        before = λ c p. other c (λ z. omega arith) ∙ t.before c p;
        behind = λ c p. other c (λ z. omega arith) ∙ t.behind c (omega arith);
      }

-- what the next block of `trim` asks
pub trim_next : (m x : List ℕ) (nb lo b : ℕ) → Sound m → nb ≡ blocks_of m → b < nb → Trimmed m x lo b → Sound x × (nb ≡ blocks_of x) × (b < nb)
trim_next m x nb lo b sound e h t = (same_sound m x t.same sound, e ∙ sym (t.same.below 4 (omega arith)), h)

-- where all blocks that need one have a new bound, each bound is one
pub trim_all : (m₀ m m' : List ℕ) (ss ts : List ℕ) (lo hi : ℕ) → Laid m₀ m ss ts → ((c : ℕ) → c < blocks_of m → c < lo → Within (past_at c m) (starts_at c m) (tags_at c m) (bound_at c m)) → ((c : ℕ) → c < blocks_of m → hi ≤ c → Within (past_at c m) (starts_at c m) (tags_at c m) (bound_at c m)) → Trimmed m m' lo hi → Turned m₀ m' ss ts
unfolding Bounded
trim_all m₀ m m' ss ts lo hi laid f g t =
    let s = t.same in
    let u = laid.settled.sound in
    record {
      laid = record {
        settled = same_settled m m' s laid.settled;
        limit = s.below 5 (omega arith) ∙ laid.limit;
        first = s.below 2 (omega arith) ∙ laid.first;
        last = s.below 3 (omega arith) ∙ laid.last;
        starts = same_all_starts m m' s u ∙ laid.starts;
        tags = same_all_tags m m' s u ∙ laid.tags;
      };
      bounded = λ c h.
          let l : c < blocks_of m = rw (s.below 4 (omega arith)) at h in
          rw (same_last m m' s c, same_starts m m' s u c l, same_tags m m' s u c l) (by c l);
    }
  where
    by : (c : ℕ) → c < blocks_of m → Within (past_at c m) (starts_at c m) (tags_at c m) (bound_at c m')
    by c l =
        elim (dec_lt c lo) [
          | yes p ↦ rw (t.before c p) (f c l p)
          | no p ↦ elim (dec_lt c hi) [ yes q ↦ t.within c (omega arith) q | no q ↦ rw (t.behind c (omega arith)) (g c l (omega arith)) ]
        ]

-- where nothing is to be spread
pub nearly_laid : (m : List ℕ) (lo b hi : ℕ) → Sound m → b < hi → hi ≤ blocks_of m → Nearly m lo b hi → 0 < size_at b m → size_at b m ≤ 61 → 0 < size_at (hi - 1) m → Laid m m (starts_of m) (tags_of m)
nearly_laid m lo b hi u h l n p q r =
    record {
      settled = record {
        sound = u;
        some = λ c k. elim (ℕ_discrete c b) [
          | yes z ↦ rw z p
          | no z ↦ elim (ℕ_discrete (c + 1) hi) [ yes y ↦ let e : c ≡ hi - 1 = omega arith in rw e r | no y ↦ n.some c k z y ]
        ];
        spare = λ c k. elim (ℕ_discrete c b) [ yes z ↦ rw z q | no z ↦ n.spare c k z ];
        total = n.total;
      };
      limit = refl;
      first = refl;
      last = refl;
      starts = refl;
      tags = refl;
    }

-- a bound of block b alone that is raised
pub raised : (m : List ℕ) (b w x : ℕ) → Sound m → b < blocks_of m → Nearly m b b (b + 1) → Covered m b w → 0 < size_at b m → size_at b m ≤ 61 → bound_at b m ≤ x → w ≤ x → Turned m (set m (8 + b) x) (starts_of m) (tags_of m)
unfolding Covered
raised m b w x u h n v p q l k =
    let e : b + 1 - 1 ≡ b = omega arith in
    trim_all m m (set m (8 + b) x) (starts_of m) (tags_of m) b (b + 1)
    (nearly_laid m b b (b + 1) u (omega arith) (omega arith) n p q (rw e p))
    n.low
    n.high
    (trim_more m m (set m (8 + b) x) b b u h (trim_none m b) (record { bound = x; is = refl; within = v x l k }) (omega arith))
