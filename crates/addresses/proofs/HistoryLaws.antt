-- What the past leaves behind, and what it does not.
--     history_free, same_future     what is answered next depends only on which ranges are granted now
--     keeps, before                 a step changes nothing of a range that it does not name
--     was_granted, still_granted    what is granted now is what was granted and not freed since
-- Assumes nothing.
use Rattle.std.proofs.Common.{◌≡◌, ℕ, suc, ◌≤◌, ◌⊎◌, ◌↔◌, List, [], ◌∷◌, sym, refl, ap, ◌∙◌, subst, inl, inr, ⊎_elim, arith}
use mathlib.Core.List.Memᴰ
use mathlib.Core.List.{Memᴰ}
use native.Mathlib.Decide.{ℕ_discrete}
use Rattle.addresses.specs.declared.Answer.{Answer}
use Rattle.addresses.specs.declared.Answer.TheVariants.{Granted, Freed, Refused}
use Rattle.ranges.specs.declared.RangeInclusive.{RangeInclusive}
use Rattle.addresses.specs.Meaning.{Ordered, remove, granting, releasing}
use Rattle.addresses.proofs.Room.{ordered_mem}
use Rattle.addresses.proofs.Tiles.{granted_once, insert_keeps, insert_only, remove_keeps, remove_only}
use Rattle.addresses.specs.Operations.{Pool, next, Allocates, Frees}
use Rattle.addresses.specs.Runs.{Operation, Allocate, Release, Does, Runs, Valid}
use Rattle.addresses.proofs.PoolLaws.{next_valid}
use Rattle.addresses.proofs.RunLaws.{runs_unique, runs_valid, runs_same}

-- ---- the history does not matter

-- two lists of ranges in order with the same members are the same
pub ordered_same : (from from' top : ℕ) (qs rs : List RangeInclusive) → Ordered from top qs → Ordered from' top rs → ((r : RangeInclusive) → Memᴰ r qs → Memᴰ r rs) → ((r : RangeInclusive) → Memᴰ r rs → Memᴰ r qs) → qs ≡ rs
unfolding Ordered
ordered_same from from' top [] [] o o' f g = refl
ordered_same from from' top [] (r ∷ rs) o o' f g = absurd (Memᴰ.not-nil (g r (Memᴰ.head refl)))
ordered_same from from' top (q ∷ qs) [] o o' f g = absurd (Memᴰ.not-nil (f q (Memᴰ.head refl)))
ordered_same from from' top (q ∷ qs) (r ∷ rs) o o' f g =
    let rest : qs ≡ rs =
    ordered_same (suc q.end) (suc r.end) top qs rs o.2 o'.2
    (λ c m. drop from q r qs rs o e c m (f c (Memᴰ.tail m)))
    (λ c m. drop from' r q rs qs o' (sym e) c m (g c (Memᴰ.tail m)))
    in
    λ i. e i ∷ rest i
  where
    least : (from : ℕ) (a b : RangeInclusive) (bs : List RangeInclusive) → Ordered from top (b ∷ bs) → Memᴰ a (b ∷ bs) → b.start ≤ a.start
    least from a b bs w m = ⊎_elim (λ (t : a ≡ b). omega (arith, ap (λ (y : RangeInclusive). y.start) t)) (λ (n : Memᴰ a bs). omega (arith, ordered_mem (suc b.end) top bs a w.2 n)) (Memᴰ.cases_cons m)

    mr : Memᴰ r (q ∷ qs)
    mr = g r (Memᴰ.head refl)

    e : q ≡ r
    e =
        let l : q.start ≤ r.start = least from r q qs o mr in
        let l' : r.start ≤ q.start = least from' q r rs o' (f q (Memᴰ.head refl)) in
        granted_once from top q.start (q ∷ qs) q r o (Memᴰ.head refl) mr (omega arith) o.1 l' (omega (arith, o'.1))

    drop : (from : ℕ) (a b : RangeInclusive) (cs bs : List RangeInclusive) → Ordered from top (a ∷ cs) → a ≡ b → (c : RangeInclusive) → Memᴰ c cs → Memᴰ c (b ∷ bs) → Memᴰ c bs
    drop from a b cs bs w t c m n =
        ⊎_elim
        (λ (u : c ≡ b). absurd (omega (arith, ap (λ (y : RangeInclusive). y.start) (u ∙ sym t), w.1, ordered_mem (suc a.end) top cs c w.2 m)))
        (λ (u : Memᴰ c bs). u)
        (Memᴰ.cases_cons n)

-- two valid pools of the same addresses and limit with the same granted ranges are the same
pub same_granted : (y z : Pool) → Valid y → Valid z → y.state.base ≡ z.state.base → y.state.top ≡ z.state.top → y.limit ≡ z.limit → ((r : RangeInclusive) → Memᴰ r y.state.granted ↔ Memᴰ r z.state.granted) → y ≡ z
same_granted y z v w eb et el s =
    let o : Ordered z.state.base z.state.top y.state.granted = rw (← eb, ← et) v.sound.ordered in
    let e = ordered_same z.state.base z.state.base z.state.top y.state.granted z.state.granted o w.sound.ordered (λ r. (s r).0) (λ r. (s r).1) in
    λ i. record { state = record { base = eb i; top = et i; granted = e i }; limit = el i }

-- the theorem: two runs from one pool that end with the same granted ranges end in the same pool
pub history_free : (p : Pool) (os os' : List Operation) (xs xs' : List Answer) (y z : Pool) → Valid p → Runs p os xs y → Runs p os' xs' z → ((r : RangeInclusive) → Memᴰ r y.state.granted ↔ Memᴰ r z.state.granted) → y ≡ z
history_free p os os' xs xs' y z v r r' s =
    let a = runs_same p os xs y r in
    let b = runs_same p os' xs' z r' in
    same_granted y z (runs_valid p os xs y v r) (runs_valid p os' xs' z v r') (a.0 ∙ sym b.0) (a.1 ∙ sym b.1) (a.2 ∙ sym b.2) s

-- so that from then on every list of operations gets the same answers
pub same_future : (p : Pool) (os os' ws : List Operation) (xs xs' us us' : List Answer) (y z y' z' : Pool) → Valid p → Runs p os xs y → Runs p os' xs' z → ((r : RangeInclusive) → Memᴰ r y.state.granted ↔ Memᴰ r z.state.granted) → Runs y ws us y' → Runs z ws us' z' → us ≡ us'
same_future p os os' ws xs xs' us us' y z y' z' v r r' s t t' =
    let e = history_free p os os' xs xs' y z v r r' s in
    (runs_unique y ws us us' y' z' (runs_valid p os xs y v r) t (subst (λ (w : Pool). Runs w ws us' z') (sym e) t')).0

-- ---- what a step does to one range

-- a granted range stays granted, until it is freed
pub keeps : (p : Pool) (o : Operation) (x : Answer) (q : RangeInclusive) → Valid p → Does p o x → Memᴰ q p.state.granted → (Freed q ≡ x) ⊎ Memᴰ q (next p x).state.granted
unfolding Does Allocates Frees next granting releasing
keeps p (Allocate a) (Granted r) q v d m = inr (insert_keeps r q p.state.granted m)
keeps p (Allocate a) (Freed r) q v d m = absurd d
keeps p (Allocate a) (Refused e) q v d m = inr m
keeps p (Release s) (Granted r) q v d m = absurd d
keeps p (Release s) (Refused e) q v d m = inr m
keeps p (Release s) (Freed r) q v d m = go (ℕ_discrete q.start s.start)
  where
    o : Ordered p.state.base p.state.top p.state.granted
    o = v.sound.ordered

    go : Dec (q.start ≡ s.start) → (Freed q ≡ Freed r) ⊎ Memᴰ q (remove r.start p.state.granted)
    go (yes e) =
        let a = ordered_mem p.state.base p.state.top p.state.granted q o m in
        let b = ordered_mem p.state.base p.state.top p.state.granted s o d.1 in
        inl (ap Freed (granted_once p.state.base p.state.top q.start p.state.granted q s o m d.1 (omega arith) (omega arith) (omega arith) (omega arith) ∙ sym d.2))
    go (no n) = inr (remove_keeps r.start q p.state.granted (λ e. n (e ∙ ap (λ (y : RangeInclusive). y.start) d.2)) m)

-- what is granted after an answer was so before, or is what was answered
pub before : (p : Pool) (o : Operation) (x : Answer) (r : RangeInclusive) → Valid p → Does p o x → Memᴰ r (next p x).state.granted → Memᴰ r p.state.granted ⊎ (Granted r ≡ x)
unfolding Does Allocates Frees next granting releasing
before p (Allocate a) (Granted q) r v d m = ⊎_elim (λ (e : r ≡ q). inr (ap Granted e)) inl (insert_only q r p.state.granted m)
before p (Allocate a) (Freed q) r v d m = absurd d
before p (Allocate a) (Refused e) r v d m = inl m
before p (Release s) (Granted q) r v d m = absurd d
before p (Release s) (Freed q) r v d m = inl (remove_only p.state.base p.state.top q.start r p.state.granted v.sound.ordered m).0
before p (Release s) (Refused e) r v d m = inl m

-- ---- what is granted now is what was granted and not freed since

-- nothing is granted but what the answers said
pub was_granted : (p : Pool) (os : List Operation) (xs : List Answer) (z : Pool) (r : RangeInclusive) → Valid p → Runs p os xs z → Memᴰ r z.state.granted → Memᴰ r p.state.granted ⊎ Memᴰ (Granted r) xs
unfolding Runs
was_granted p [] [] z r v w m = inl (subst (λ (y : Pool). Memᴰ r y.state.granted) w m)
was_granted p [] (x ∷ xs) z r v w m = absurd w
was_granted p (o ∷ os) [] z r v w m = absurd w
was_granted p (o ∷ os) (x ∷ xs) z r v w m =
    ⊎_elim
    (λ (n : Memᴰ r (next p x).state.granted). ⊎_elim inl (λ (e : Granted r ≡ x). inr (Memᴰ.head e)) (before p o x r v w.0 n))
    (λ (n : Memᴰ (Granted r) xs). inr (Memᴰ.tail n))
    (was_granted (next p x) os xs z r (next_valid p o x v w.0) w.1 m)

-- and what they said stays granted, unless they say that it was freed
pub still_granted : (p : Pool) (os : List Operation) (xs : List Answer) (z : Pool) (r : RangeInclusive) → Valid p → Runs p os xs z → Memᴰ r p.state.granted → Memᴰ (Freed r) xs ⊎ Memᴰ r z.state.granted
unfolding Runs
still_granted p [] [] z r v w m = inr (subst (λ (y : Pool). Memᴰ r y.state.granted) (sym w) m)
still_granted p [] (x ∷ xs) z r v w m = absurd w
still_granted p (o ∷ os) [] z r v w m = absurd w
still_granted p (o ∷ os) (x ∷ xs) z r v w m =
    ⊎_elim
    (λ (e : Freed r ≡ x). inl (Memᴰ.head e))
    (λ (n : Memᴰ r (next p x).state.granted). ⊎_elim (λ (k : Memᴰ (Freed r) xs). inl (Memᴰ.tail k)) inr (still_granted (next p x) os xs z r (next_valid p o x v w.0) w.1 n))
    (keeps p o x r v w.0 m)
