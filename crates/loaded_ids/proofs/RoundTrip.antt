-- Written and read again. Assumes nothing.
--     freed_one           the freed ids of a state are written in one way only
--     message_one         bytes begin with one state at most
--     message_bytes       one state is written in one way only
--     read_written        what `save` wrote `load` accepts, as that state, in every block that is long enough
--     written_read        what `load` accepts `save` writes again, byte for byte
--     loaded_reached      what is accepted is a state that some operations reach
--     reached_loaded      each state of 32-bit ids that some operations reach is accepted where its bytes stand
--     changed_refused     bytes of which one was changed are refused: so it is with one flipped bit
use Rattle.std.proofs.Common.{ℕ, zero, suc, ◌+◌, ◌-◌, ◌*◌, ◌^◌, ◌≤◌, ◌<◌, ◌≡◌, refl, sym, ap, ◌∙◌, subst, true, false, ⊎_elim, List, length, get_or, Result, Ok, Err, arith}
use Rattle.octets.specs.Octets.{word, Bytes}
use Rattle.octets.proofs.Words.{below_or_not}
use Rattle.frame.specs.Frame.{Frame}
use Rattle.frame.specs.declared.Fault.{Fault}
use Rattle.frame.specs.declared.LoadError.{LoadError}
use Rattle.frame.specs.declared.LoadError.TheVariants as load
use Rattle.frame.proofs.FrameLaws.{frame_same, frame_bytes, frame_changed}
use Rattle.ids.specs.State.{State}
use Rattle.ids.specs.Runs.{Valid, Reached}
use Rattle.ids.specs.Held.{Holds, Needs}
use Rattle.ids.proofs.Tests.{same_bool, false_true, is_either}
use Rattle.ids.proofs.Reachable.{reached_valid, valid_reached}
use Rattle.saved_ids.specs.Format.{kind, Freed, Message, freed_of, size}
use Rattle.saved_ids.specs.Contract.{Saves}
use Rattle.loaded_ids.specs.Contract.{Begins, Loads}

-- ---- the freed ids in order

rise : (s : State) (w : ℕ → ℕ) (k l i : ℕ) → Freed s w k → l < i → i < k → w (7 + l) < w (7 + i)
rise s w k l zero f h u = absurd (omega arith)
rise s w k l (suc i) f h u =
    let z : 8 + i ≡ 7 + suc i = omega arith in
    let r = f.rising i (omega arith) in
    ⊎_elim
    (λ (b : l < i). omega (arith, rise s w k l i f b (omega arith), ap w z))
    (λ (b : i ≤ l). let e : l ≡ i = omega arith in omega (arith, ap (λ (x : ℕ). w (7 + x)) e, ap w z))
    (below_or_not l i)

-- where the first i of two lists are alike, the place of the next one of the one in the other is not before i
module _ (s : State) (v w : ℕ → ℕ) (k l i : ℕ) (f : Freed s v k) (g : Freed s w l) (same : (j : ℕ) → j < i → j < k → v (7 + j) ≡ w (7 + j)) (h : i < l) where
  place : (j : ℕ) × (i ≤ j) × (j < k) × (v (7 + j) ≡ w (7 + i))
  place =
      let o = g.only i h in
      let a = f.all (w (7 + i)) o.0 o.1 o.2 in
      ⊎_elim
      (λ (b : a.0 < i). absurd (omega (arith, same a.0 b a.1, a.2, rise s w l a.0 i g b h)))
      (λ (b : i ≤ a.0). (a.0, b, a.1, a.2))
      (below_or_not a.0 i)

  -- so it is not higher
  lower : (i < k) × (v (7 + i) ≤ w (7 + i))
  lower =
      let q = place in
      (omega (arith, q.1, q.2), ⊎_elim (λ (b : i < q.0). omega (arith, q.3, rise s v k i q.0 f b q.2)) (λ (b : q.0 ≤ i). let e : i ≡ q.0 = omega (arith, q.1) in omega (arith, ap (λ (x : ℕ). v (7 + x)) e, q.3)) (below_or_not i q.0))

alike : (s : State) (v w : ℕ → ℕ) (k l : ℕ) → Freed s v k → Freed s w l → (i j : ℕ) → j < i → j < k → v (7 + j) ≡ w (7 + j)
alike s v w k l f g zero j h u = absurd (omega arith)
alike s v w k l f g (suc i) j h u =
    ⊎_elim
    (λ (b : j < i). alike s v w k l f g i j b u)
    (λ (b : i ≤ j).
    let e : i ≡ j = omega arith in
    let old : (x : ℕ) → x < i → x < k → v (7 + x) ≡ w (7 + x) = alike s v w k l f g i in
    let a = lower s w v l k i g f (λ x p q. sym (old x p (omega arith))) (omega arith) in
    let c = lower s v w k l i f g old a.0 in
    subst (λ (x : ℕ). v (7 + x) ≡ w (7 + x)) e (omega (arith, a.1, c.1)))
    (below_or_not j i)

pub record Same (v w : ℕ → ℕ) (k l : ℕ) : Type 0 where
  pub count : k ≡ l
  pub words : (i : ℕ) → i < k → v (7 + i) ≡ w (7 + i)

pub freed_one : (s : State) (v w : ℕ → ℕ) (k l : ℕ) → Freed s v k → Freed s w l → Same v w k l
freed_one s v w k l f g = record { count = omega (arith, most s v w k l f g, most s w v l k g f); words = λ i h. alike s v w k l f g (suc i) i (omega arith) h }
  where
    most : (s : State) (v w : ℕ → ℕ) (k l : ℕ) → Freed s v k → Freed s w l → l ≤ k
    most s v w k l f g =
        ⊎_elim
        (λ (b : k < l). absurd (omega (arith, (lower s v w k l k f g (λ x p q. alike s v w k l f g k x p q) b).0)))
        (λ (b : l ≤ k). b)
        (below_or_not k l)

-- ---- one state, one message

-- what one state has granted the other has, where the same words are freed in both
granted_too : (bs : List ℕ) (s t : State) (k l : ℕ) → Valid s → s.low ≡ t.low → s.next ≡ t.next → Message bs s k → Message bs t l → (j : ℕ) → s.granted j ≡ true → t.granted j ≡ true
granted_too bs s t k l v e n f g j h =
    ⊎_elim
    (λ (z : t.granted j ≡ false).
    let b = v.below j h in
    let a = g.freed.all j (omega (arith, b.0)) (omega (arith, b.1)) z in
    let c : l ≡ k = sym g.frame.count ∙ f.frame.count in
    let o = f.freed.only a.0 (omega (arith, a.1)) in
    absurd (false_true (s.granted j) (ap s.granted (sym a.2) ∙ o.2) h))
    (λ (z : t.granted j ≡ true). z)
    (is_either (t.granted j))

pub message_one : (bs : List ℕ) (s t : State) (k l : ℕ) → Valid s → Valid t → Message bs s k → Message bs t l → s ≡ t
message_one bs s t k l v w f g =
    let low : s.low ≡ t.low = sym f.frame.first ∙ g.frame.first in
    let high : s.high ≡ t.high = sym f.frame.second ∙ g.frame.second in
    let next : s.next ≡ t.next = sym f.frame.third ∙ g.frame.third in
    let granted : (j : ℕ) → s.granted j ≡ t.granted j = λ j. same_bool (s.granted j) (t.granted j) (granted_too bs s t k l v low next f g j) (granted_too bs t s l k w (sym low) (sym next) g f j) in
    λ i. record { low = low i; high = high i; next = next i; granted = λ j. granted j i }

pub message_bytes : (u v : List ℕ) (s : State) (k l : ℕ) → Bytes u → Bytes v → Message u s k → Message v s l → (k ≡ l) × ((j : ℕ) → j < 64 + 8 * k → get_or u j 0 ≡ get_or v j 0)
message_bytes u v s k l a b f g =
    let e = freed_one s (word u) (word v) k l f.freed g.freed in
    let g' : Frame kind s.low s.high s.next k v = frame_same kind s.low s.high s.next l s.low s.high s.next k v g.frame refl refl refl (sym e.count) in
    (e.count, λ j h. frame_bytes kind s.low s.high s.next k u v f.frame g' (λ i p q. let z : 7 + (i - 7) ≡ i = omega arith in subst (λ (x : ℕ). word u x ≡ word v x) z (e.words (i - 7) (omega arith))) a b j (omega arith))

-- ---- round trips

-- what reading answers where the bytes begin with the state s, in n bytes
unfoldable pub Resumes : List ℕ → State → ℕ → Result ℕ LoadError → List ℕ → Type 0
Resumes m s k (Ok n) m' = (n ≡ k) × Holds m' s
Resumes m s k (Err load.NoRoom) m' = (m' ≡ m) × (words : ℕ) × Needs s.low s.high words × (length m < words)
Resumes m s k (Err (load.Bad fault)) m' = ⊥

resumes : (bs m m' : List ℕ) (s : State) (n : ℕ) (r : Result ℕ LoadError) → Begins bs n s → Loads bs m r m' → Resumes m s n r m'
unfolding Loads Resumes
resumes bs m m' s n (Ok k) b l =
    let e : l.0 ≡ s = message_one bs l.0 s l.1.freed b.freed l.1.valid b.valid l.1.message b.message in
    (omega (arith, l.1.taken, b.taken, l.1.message.frame.count, b.message.frame.count), subst (Holds m') e l.2)
resumes bs m m' s n (Err load.NoRoom) b l =
    let e : l.1 ≡ s = message_one bs l.1 s l.3.freed b.freed l.3.valid b.valid l.3.message b.message in
    (l.0, l.4, subst (λ (t : State). Needs t.low t.high l.4) e l.5, l.6)
resumes bs m m' s n (Err (load.Bad fault)) b l = l.2 s n b

-- the theorem, one way: from the block k the state s is written into the bytes, and they are read into the block m
pub read_written : (k bs bs' m m' : List ℕ) (n : ℕ) (s : State) (r : Result ℕ LoadError) → Holds k s → Valid s → s.high < 2 ^ 32 → Saves k bs (Ok n) bs' → Loads bs' m r m' → Resumes m s (size s) r m'
unfolding Saves
read_written k bs bs' m m' n s r h v small w l = resumes bs' m m' s (size s) r (record { freed = freed_of s; message = (w.1 s h v).message; valid = v; small = small; taken = refl }) l

-- the other way: the bytes bs are read into a block, and that block is written into other bytes
pub written_read : (bs m m' cs cs' : List ℕ) (n k : ℕ) → Bytes bs → Bytes cs' → Loads bs m (Ok n) m' → Saves m' cs (Ok k) cs' → (k ≡ n) × ((j : ℕ) → j < n → get_or cs' j 0 ≡ get_or bs j 0)
unfolding Loads Saves
written_read bs m m' cs cs' n k a b l s =
    let w = s.1 l.0 l.2 l.1.valid in
    let e = message_bytes cs' bs l.0 (freed_of l.0) l.1.freed b a w.message l.1.message in
    (omega (arith, w.taken, e.0, l.1.taken), λ j h. e.1 j (omega (arith, e.0, l.1.taken)))

-- what is accepted is what is reached
pub loaded_reached : (bs m m' : List ℕ) (n : ℕ) → Loads bs m (Ok n) m' → (s : State) × Reached s × Begins bs n s × Holds m' s
unfolding Loads
loaded_reached bs m m' n l = (l.0, valid_reached l.0 l.1.valid, l.1, l.2)

pub reached_loaded : (bs m m' : List ℕ) (s : State) (k : ℕ) (r : Result ℕ LoadError) → Reached s → s.high < 2 ^ 32 → Message bs s k → Loads bs m r m' → Resumes m s (64 + 8 * k) r m'
reached_loaded bs m m' s k r q small f l = resumes bs m m' s (64 + 8 * k) r (record { freed = k; message = f; valid = reached_valid s q; small = small; taken = refl }) l

-- one byte is another
caught : (bs bs' : List ℕ) (i k l : ℕ) (s t : State) → Bytes bs → Bytes bs' → Message bs s k → Message bs' t l → i < 64 + 8 * k → ((j : ℕ) → (j ≡ i → ⊥) → get_or bs' j 0 ≡ get_or bs j 0) → get_or bs' i 0 ≡ get_or bs i 0
caught bs bs' i k l s t a b f g h o = frame_changed kind _ _ _ _ _ _ _ _ i bs bs' a b f.frame g.frame (omega arith) o

pub changed_refused : (bs bs' m m' : List ℕ) (i k : ℕ) (s : State) (r : Result ℕ LoadError) → Bytes bs → Bytes bs' → Message bs s k → i < 64 + 8 * k → (get_or bs' i 0 ≡ get_or bs i 0 → ⊥) → ((j : ℕ) → (j ≡ i → ⊥) → get_or bs' j 0 ≡ get_or bs j 0) → Loads bs' m r m' → (fault : Fault) × (r ≡ Err (load.Bad fault))
unfolding Loads
changed_refused bs bs' m m' i k s (Ok n) a b f h d o l = absurd (d (caught bs bs' i k l.1.freed s l.0 a b f l.1.message h o))
changed_refused bs bs' m m' i k s (Err load.NoRoom) a b f h d o l = absurd (d (caught bs bs' i k l.3.freed s l.1 a b f l.3.message h o))
changed_refused bs bs' m m' i k s (Err (load.Bad fault)) a b f h d o l = (fault, refl)
