-- What a caller of the names of copies, and of several things or none, learns from a number alone.
--     copied_zero, copied_ids_zero      0: the copy holds what the source holds
--     copied_refused                    a reason's number: the other block is as it was
--     both_zero, three_zero             0: all is granted, where the out-parameters say
--     both_refused, three_refused       a reason's number: each block holds just what it held, and only *refused was written
-- Assumes nothing.
use Prim.Native.Nat.{ℕ}
use mathlib.Core.Path.{◌≡◌, refl, sym, ap, subst}
use mathlib.Core.Logic.{inl, inr}
use mathlib.Core.List.{List}
use native.Mathlib.Omega.{arith}
use Rattle.std.proofs.Common.{Result, Ok, Err}
use Rattle.ranges.specs.declared.Constraint.{Constraint}
use Rattle.ranges.specs.declared.Error.{Error}
use Rattle.ranges.specs.declared.RangeInclusive.{RangeInclusive}
use Rattle.ranges.specs.Reasons.{number_of}
use Rattle.ranges.proofs.ReasonLaws.{number_one, number_some}
use Rattle.addresses.specs.Operations.{Pool}
use Rattle.addresses.specs.Held.{Holds}
use Rattle.ids.specs.State.{State}
use Rattle.ids.specs.Held as ids_held
use Rattle.copied.specs.Copy as copied
use Rattle.copied.proofs.DoneLaws.{copy_kept}
use Rattle.copied_ids.specs.Copy as copied_ids
use Rattle.both.specs.declared.PairError.TheVariants as pair
use Rattle.both.specs.declared.TripleError.TheVariants as triple
use Rattle.both.specs.Both.{Grants, GrantsId, Pairs, Triples}
use Rattle.both.proofs.NoneLaws as none
use Rattle.rangekeeper_together.specs.Copy.{copied_number, Copies, CopiesIds}
use Rattle.rangekeeper_together.specs.Together.{Numbers, Means, Outs, PairAnswer, pair_number, pair_outs, Offers, OutsThree, TripleAnswer, triple_number, triple_outs, OffersThree}

-- ---- copies

done_of : (x : Result (Unit {0}) Error) → 0 ≡ copied_number x → x ≡ Ok tt
done_of (Ok tt) e = refl
done_of (Err y) e = absurd (omega (arith, e, number_some y))

refused_of : (x : Result (Unit {0}) Error) (y : Error) → number_of y ≡ copied_number x → x ≡ Err y
refused_of (Ok tt) y e = absurd (omega (arith, e, number_some y))
refused_of (Err d) y e = ap Err (number_one d y (sym e))

pub copied_zero : (m n n' : List ℕ) (limit : ℕ) (p : Pool) → Copies m limit n 0 n' → Holds m p → Holds n' (copied.limited p limit)
unfolding copied.Copies
copied_zero m n n' limit p c h = ((subst (λ (x : Result (Unit {0}) Error). copied.Copies m limit x n n') (done_of c.answer c.number) c.done).1 p h).1

pub copied_refused : (m n n' : List ℕ) (limit : ℕ) (y : Error) → Copies m limit n (number_of y) n' → n' ≡ n
copied_refused m n n' limit y c = copy_kept m n n' limit y (subst (λ (x : Result (Unit {0}) Error). copied.Copies m limit x n n') (refused_of c.answer y c.number) c.done)

pub copied_ids_zero : (m n n' : List ℕ) (s : State) → CopiesIds m n 0 n' → ids_held.Holds m s → ids_held.Holds n' s
unfolding copied_ids.Copies
copied_ids_zero m n n' s c h = (subst (λ (x : Result (Unit {0}) Error). copied_ids.Copies m x n n') (done_of c.answer c.number) c.done s h).1

-- ---- two pools

-- what is granted, and where
pub record Two (a : List ℕ) (m : Numbers) (b : List ℕ) (n : Numbers) (a' b' : List ℕ) (first second : ℕ) : Type 0 where
  pub q : Constraint
  pub w : Constraint
  pub means : Means m q
  pub other : Means n w
  pub r : RangeInclusive
  pub s : RangeInclusive
  pub starts : first ≡ r.start
  pub starts_other : second ≡ s.start
  pub granted : Grants a q r a'
  pub granted_other : Grants b w s b'

module _ (a b a' b' : List ℕ) (m n : Numbers) (o o' : Outs) where
  two_of : (q w : Constraint) (x : PairAnswer) → Means m q → Means n w → 0 ≡ pair_number x → o' ≡ pair_outs o x → Pairs a q b w x a' b' → Two a m b n a' b' o'.first o'.second
  unfolding Pairs
  two_of q w (Ok (r, s)) i j e k d =
      record { q = q; w = w; means = i; other = j; r = r; s = s; starts = ap (λ (y : Outs). y.first) k; starts_other = ap (λ (y : Outs). y.second) k; granted = d.0; granted_other = d.1 }
  two_of q w (Err (pair.First y)) i j e k d = absurd (omega (arith, e, number_some y))
  two_of q w (Err (pair.Second y)) i j e k d = absurd (omega (arith, e, number_some y))

  pub both_zero : Offers a m b n o 0 a' b' o' → Two a m b n a' b' o'.first o'.second
  both_zero (inl d) = two_of d.0 d.1 d.4.answer d.2 d.3 d.4.number d.4.out d.4.done
  both_zero (inr (inl d)) = absurd (omega (arith, d.1.number, number_some Error.InvalidPolicy))
  both_zero (inr (inr d)) = absurd (omega (arith, d.1.number, number_some Error.InvalidPolicy))

  kept_of : (q w : Constraint) (x : PairAnswer) (y : Error) → number_of y ≡ pair_number x → o' ≡ pair_outs o x → Pairs a q b w x a' b' → none.Same a a' × none.Same b b' × (o'.first ≡ o.first) × (o'.second ≡ o.second)
  unfolding none.Refused
  kept_of q w (Ok (r, s)) y e k d = absurd (omega (arith, e, number_some y))
  kept_of q w (Err (pair.First z)) y e k d = let w' = none.neither a b a' b' q w (Err (pair.First z)) tt d in (w'.0, w'.1, ap (λ (u : Outs). u.first) k, ap (λ (u : Outs). u.second) k)
  kept_of q w (Err (pair.Second z)) y e k d = let w' = none.neither a b a' b' q w (Err (pair.Second z)) tt d in (w'.0, w'.1, ap (λ (u : Outs). u.first) k, ap (λ (u : Outs). u.second) k)

  same : (c c' : List ℕ) → c' ≡ c → none.Same c c'
  same c c' e p h = subst (λ (l : List ℕ). Holds l p) (sym e) h

  pub both_refused : (y : Error) → Offers a m b n o (number_of y) a' b' o' → none.Same a a' × none.Same b b' × (o'.first ≡ o.first) × (o'.second ≡ o.second)
  both_refused y (inl d) = kept_of d.0 d.1 d.4.answer y d.4.number d.4.out d.4.done
  both_refused y (inr (inl d)) = (same a a' d.1.kept, same b b' d.1.kept_other, ap (λ (u : Outs). u.first) d.1.out, ap (λ (u : Outs). u.second) d.1.out)
  both_refused y (inr (inr d)) = (same a a' d.1.kept, same b b' d.1.kept_other, ap (λ (u : Outs). u.first) d.1.out, ap (λ (u : Outs). u.second) d.1.out)

-- ---- two pools and ids

module _ (a b c a' b' c' : List ℕ) (m n : Numbers) (o o' : OutsThree) where
  three_of : (q w : Constraint) (x : TripleAnswer) → Means m q → Means n w → 0 ≡ triple_number x → o' ≡ triple_outs o x → Triples a q b w c x a' b' c' → Two a m b n a' b' o'.first o'.second × GrantsId c o'.id c'
  unfolding Triples
  three_of q w (Ok (r, s, i)) u v e k d = (
    record { q = q; w = w; means = u; other = v; r = r; s = s; starts = ap (λ (y : OutsThree). y.first) k; starts_other = ap (λ (y : OutsThree). y.second) k; granted = d.0; granted_other = d.1 },
    subst (λ (y : ℕ). GrantsId c y c') (sym (ap (λ (y : OutsThree). y.id) k)) d.2,
  )
  three_of q w (Err (triple.First y)) u v e k d = absurd (omega (arith, e, number_some y))
  three_of q w (Err (triple.Second y)) u v e k d = absurd (omega (arith, e, number_some y))
  three_of q w (Err (triple.Third y)) u v e k d = absurd (omega (arith, e, number_some y))

  pub three_zero : OffersThree a m b n c o 0 a' b' c' o' → Two a m b n a' b' o'.first o'.second × GrantsId c o'.id c'
  three_zero (inl d) = three_of d.0 d.1 d.4.answer d.2 d.3 d.4.number d.4.out d.4.done
  three_zero (inr (inl d)) = absurd (omega (arith, d.1.number, number_some Error.InvalidPolicy))
  three_zero (inr (inr d)) = absurd (omega (arith, d.1.number, number_some Error.InvalidPolicy))

  -- each block holds just what it held, and what was to be granted was not written
  abbrev pub Nothing : Type 0
  Nothing = none.Same a a' × none.Same b b' × none.SameIds c c' × (o'.first ≡ o.first) × (o'.second ≡ o.second) × (o'.id ≡ o.id)

  written : (which : ℕ) → o' ≡ record { first = o.first; second = o.second; id = o.id; which = which } → (o'.first ≡ o.first) × (o'.second ≡ o.second) × (o'.id ≡ o.id)
  written which k = (ap (λ (u : OutsThree). u.first) k, ap (λ (u : OutsThree). u.second) k, ap (λ (u : OutsThree). u.id) k)

  nothing_of : (q w : Constraint) (x : TripleAnswer) (y : Error) → number_of y ≡ triple_number x → o' ≡ triple_outs o x → Triples a q b w c x a' b' c' → Nothing
  unfolding none.RefusedOne
  nothing_of q w (Ok (r, s, i)) y e k d = absurd (omega (arith, e, number_some y))
  nothing_of q w (Err (triple.First z)) y e k d = let v = none.none a b c a' b' c' q w (Err (triple.First z)) tt d in let u = written 1 k in (v.0, v.1, v.2, u.0, u.1, u.2)
  nothing_of q w (Err (triple.Second z)) y e k d = let v = none.none a b c a' b' c' q w (Err (triple.Second z)) tt d in let u = written 2 k in (v.0, v.1, v.2, u.0, u.1, u.2)
  nothing_of q w (Err (triple.Third z)) y e k d = let v = none.none a b c a' b' c' q w (Err (triple.Third z)) tt d in let u = written 3 k in (v.0, v.1, v.2, u.0, u.1, u.2)

  same_pool : (k k' : List ℕ) → k' ≡ k → none.Same k k'
  same_pool k k' e p h = subst (λ (l : List ℕ). Holds l p) (sym e) h

  same_ids : (k k' : List ℕ) → k' ≡ k → none.SameIds k k'
  same_ids k k' e s h = subst (λ (l : List ℕ). ids_held.Holds l s) (sym e) h

  pub three_refused : (y : Error) → OffersThree a m b n c o (number_of y) a' b' c' o' → Nothing
  three_refused y (inl d) = nothing_of d.0 d.1 d.4.answer y d.4.number d.4.out d.4.done
  three_refused y (inr (inl d)) = let u = written 1 d.1.out in (same_pool a a' d.1.kept, same_pool b b' d.1.kept_other, same_ids c c' d.1.kept_ids, u.0, u.1, u.2)
  three_refused y (inr (inr d)) = let u = written 2 d.1.out in (same_pool a a' d.1.kept, same_pool b b' d.1.kept_other, same_ids c c' d.1.kept_ids, u.0, u.1, u.2)
