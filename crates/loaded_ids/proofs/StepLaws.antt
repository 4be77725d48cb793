-- Granting the lowest ids and giving the freed ones back, from the contracts of `allocate` and `free`. Assumes nothing.
--     granted_start, granted_step     after n allocations of a fresh allocator its n lowest ids are granted
--     given_start, given_step         after i frees the first i of the freed ids are free, and no others
use Rattle.std.proofs.Common.{ℕ, zero, suc, ◌+◌, ◌≤◌, ◌<◌, ◌≡◌, refl, sym, ap, ◌∙◌, subst, Bool, true, false, not, ◌&&◌, ◌⊎◌, ⊎_elim, inl, inr, List, eqb, Result, Ok, arith, eq-eqb}
use borrow.Author.Tests.{eqb-true}
use Rattle.octets.proofs.Words.{below_or_not}
use Rattle.ranges.specs.declared.Error.{Error}
use Rattle.ids.specs.State.{State, fresh, grant, release, Allocates, Frees}
use Rattle.ids.specs.Runs.{Allocate, Release, after}
use Rattle.ids.specs.Held.{Holds}
use Rattle.ids.specs.Contract.{Performs}
use Rattle.ids.proofs.Tests.{or_left, or_right, and_both, false_true, is_either, not_true}
use Rattle.ids.proofs.Validity.{valid_fresh, valid_allocated, valid_freed}
use Rattle.ids.proofs.Unique.{allocates_one, frees_one}
use Rattle.loaded_ids.specs.Steps.{AllGood, Full, Given}

-- ---- the lowest ids are granted

pub granted_start : (low high : ℕ) → low ≤ high → Full (fresh low high) low high (low + 0)
granted_start low high l = record { first = refl; last = refl; new = omega arith; valid = valid_fresh low high l; held = λ j a b. absurd (omega arith) }

module _ (s : State) (low high n : ℕ) (f : Full s low high (low + n)) (l : low + n ≤ high) where
  is_lowest : Allocates s (Ok (low + n))
  is_lowest =
      (((omega (arith, f.first), omega (arith, f.last, l)), not_true (s.granted (low + n)) (λ e. omega (arith, f.new, (f.valid.below (low + n) e).1))), λ j g. ⊎_elim (λ (k : j < low + n). absurd (false_true (s.granted j) g.1 (f.held j (omega (arith, f.first, g.0.0)) k))) (λ (k : low + n ≤ j). k) (below_or_not j (low + n)))

  granted_next : Full (grant s (low + n)) low high (low + (n + 1))
  granted_next = record {
    first = f.first;
    last = f.last;
    new = omega (arith, f.new);
    valid = valid_allocated s (Ok (low + n)) f.valid is_lowest;
    held = λ j a b.
        ⊎_elim
        (λ (k : j < low + n). or_right (eqb j (low + n)) (s.granted j) (f.held j a k))
        (λ (k : low + n ≤ j). or_left (eqb j (low + n)) (s.granted j) (eq-eqb j (low + n) (omega arith)))
        (below_or_not j (low + n));
  }

  pub granted_step : (r : Result ℕ Error) (m m' : List ℕ) → Holds m s → Performs m Allocate r m' → (t : State) × Full t low high (low + (n + 1)) × Holds m' t
  granted_step r m m' h p = (grant s (low + n), granted_next, subst (λ (y : Result ℕ Error). Holds m' (after s Allocate y)) (allocates_one s r (Ok (low + n)) (p.right s h).0 is_lowest) (p.right s h).1)

-- there is such a state
pub granted_some : (low high n : ℕ) → low ≤ high → low + n ≤ high + 1 → (s : State) × Full s low high (low + n)
granted_some low high zero o l = (fresh low high, granted_start low high o)
granted_some low high (suc n) o l =
    let q = granted_some low high n o (omega arith) in
    (grant q.0 (low + n), subst (λ (x : ℕ). Full (grant q.0 (low + n)) low high (low + x)) (omega arith) (granted_next q.0 low high n q.1 (omega arith)))

-- ---- the freed ones are given back

-- the freed ids rise
rise : (w : ℕ → ℕ) (low next k l i : ℕ) → AllGood w low next k → l < i → i < k → w (7 + l) < w (7 + i)
rise w low next k l zero g h u = absurd (omega arith)
rise w low next k l (suc i) g h u =
    let z : 8 + i ≡ 7 + suc i = omega arith in
    let r = (g i (omega arith)).rising (omega arith) in
    ⊎_elim
    (λ (b : l < i). omega (arith, rise w low next k l i g b (omega arith), ap w z))
    (λ (b : i ≤ l). let e : l ≡ i = omega arith in omega (arith, ap (λ (x : ℕ). w (7 + x)) e, ap w z))
    (below_or_not l i)

pub given_start : (w : ℕ → ℕ) (low high next : ℕ) (s : State) → Full s low high next → Given w low high next 0 s
given_start w low high next s f = record {
  first = f.first;
  last = f.last;
  new = f.new;
  valid = f.valid;
  freed = record { rising = λ i l. absurd (omega arith); only = λ i l. absurd (omega arith); all = λ j a b c. absurd (false_true (s.granted j) c (f.held j (omega (arith, f.first)) (omega (arith, f.new)))) };
}

-- a bool that is false on the right
and_false : (a b : Bool) → b ≡ false → not a && b ≡ false
and_false true b e = refl
and_false false b e = e

and_left : (a b : Bool) → a ≡ true → not a && b ≡ false
and_left true b e = refl
and_left false b e = absurd (false_true false refl e)

module _ (w : ℕ → ℕ) (low high next k i x : ℕ) (s : State) (f : Given w low high next i s) (g : AllGood w low next k) (l : i < k) (e : x ≡ w (7 + i)) where
  held : s.granted x ≡ true
  held =
      ⊎_elim
      (λ (z : s.granted x ≡ false).
      let a = f.freed.all x (omega (arith, f.first, e, (g i l).from)) (omega (arith, f.new, e, (g i l).below)) z in
      absurd (omega (arith, e, a.2, rise w low next k a.0 i g a.1 l)))
      (λ (z : s.granted x ≡ true). z)
      (is_either (s.granted x))

  is : Frees s x (Ok x)
  is = (refl, (omega (arith, f.first, e, (g i l).from), omega (arith, f.last, f.new, f.valid.to_high, e, (g i l).below)), omega (arith, f.new, e, (g i l).below), held)

  only : (j : ℕ) → j < i + 1 → (s.low ≤ w (7 + j)) × (w (7 + j) < s.next) × ((release s x).granted (w (7 + j)) ≡ false)
  only j b =
      ⊎_elim
      (λ (u : j < i). let o = f.freed.only j u in (o.0, o.1, and_false (eqb (w (7 + j)) x) (s.granted (w (7 + j))) o.2))
      (λ (u : i ≤ j).
      let z : j ≡ i = omega arith in
      let q : w (7 + j) ≡ x = ap (λ (y : ℕ). w (7 + y)) z ∙ sym e in
      (omega (arith, q, e, f.first, (g i l).from), omega (arith, q, e, f.new, (g i l).below), and_left (eqb (w (7 + j)) x) (s.granted (w (7 + j))) (eq-eqb (w (7 + j)) x q)))
      (below_or_not j i)

  all : (j : ℕ) → s.low ≤ j → j < s.next → (release s x).granted j ≡ false → (y : ℕ) × (y < i + 1) × (w (7 + y) ≡ j)
  all j a b c = go (is_either (eqb j x)) (is_either (s.granted j))
    where
      go : (eqb j x ≡ false) ⊎ (eqb j x ≡ true) → (s.granted j ≡ false) ⊎ (s.granted j ≡ true) → (y : ℕ) × (y < i + 1) × (w (7 + y) ≡ j)
      go (inr z) d = (i, omega arith, sym e ∙ sym (eqb-true j x z))
      go (inl z) (inl d) = let o = f.freed.all j a b d in (o.0, omega (arith, o.1), o.2)
      go (inl z) (inr d) = absurd (false_true (not (eqb j x) && s.granted j) c (and_both (eqb j x) (s.granted j) z d))

  given_next : Given w low high next (i + 1) (release s x)
  given_next = record {
    first = f.first;
    last = f.last;
    new = f.new;
    valid = valid_freed s x (Ok x) f.valid is;
    freed = record { rising = λ y u. (g y (omega arith)).rising (omega arith); only = only; all = all };
  }

  pub given_step : (r : Result ℕ Error) (m m' : List ℕ) → Holds m s → Performs m (Release x) r m' → (t : State) × Given w low high next (i + 1) t × Holds m' t
  given_step r m m' h p = (release s x, given_next, subst (λ (y : Result ℕ Error). Holds m' (after s (Release x) y)) (frees_one s x r (Ok x) (p.right s h).0 is) (p.right s h).1)

-- there is such a state
pub given_some : (w : ℕ → ℕ) (low high next k i : ℕ) (s : State) → Full s low high next → AllGood w low next k → i ≤ k → (t : State) × Given w low high next i t
given_some w low high next k zero s f g l = (s, given_start w low high next s f)
given_some w low high next k (suc i) s f g l =
    let q = given_some w low high next k i s f g (omega arith) in
    (release q.0 (w (7 + i)), subst (λ (y : ℕ). Given w low high next y (release q.0 (w (7 + i)))) (omega arith) (given_next w low high next k i (w (7 + i)) q.0 q.1 g (omega arith) refl))
