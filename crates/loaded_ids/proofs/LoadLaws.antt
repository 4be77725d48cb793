-- How the steps of `load` end, from the contracts of what is called. Assumes nothing.
--     wrong_at, tests_fine, tests_both        what a test's answer says
--     good_more                               one freed id more passes the test
--     wrong_frame, wrong_words                the two refusals of the bytes
--     remade_short, remade                    the block is too short; it holds the state
use Rattle.std.proofs.Common.{ℕ, ◌+◌, ◌-◌, ◌*◌, ◌≤◌, ◌<◌, ◌≡◌, refl, sym, ◌∙◌, subst, ⊎_elim, inl, inr, List, length, true, false, Result, Ok, Err, is_err, arith}
use Rattle.octets.specs.Octets.{word}
use Rattle.octets.proofs.Words.{below_or_not}
use Rattle.frame.specs.declared.Flaw.{Flaw}
use Rattle.frame.specs.declared.Fault.{Fault}
use Rattle.frame.specs.declared.LoadError.TheVariants as load
use Rattle.frame.specs.Frame.{Frame, Opens}
use Rattle.frame.proofs.FrameLaws.{flawed_none, frame_same}
use Rattle.ranges.specs.declared.Error.{Error}
use Rattle.ids.specs.State.{State}
use Rattle.ids.specs.Held.{Needs}
use Rattle.ids.specs.Contract.{Makes}
use Rattle.saved_ids.specs.Format.{kind, Freed}
use Rattle.loaded_ids.proofs.StepLaws.{granted_some, given_some}
use Rattle.loaded_ids.specs.Misfits.{Misfit}
use Rattle.loaded_ids.specs.Contract.{Begins, Loads}
use Rattle.loaded_ids.specs.Steps.{Good, AllGood, Sensible, Tests, Full, Grants, Given, Gives}

-- a fault, by its parts
pub wrong_at : (w : ℕ → ℕ) (r : Fault) (P : Type 0) (f : Flaw) (at : ℕ) → r.flaw ≡ f → r.place ≡ at → (P → ⊥) × Misfit w f at → Tests w (Err r) P
unfolding Tests
wrong_at w r P f at p q t = (t.0, rw (p, q) t.1)

pub tests_fine : (w : ℕ → ℕ) (P : Type 0) → Tests w (Ok tt) P → P
unfolding Tests
tests_fine w P t = t

pub tests_both : (w : ℕ → ℕ) (r : Result (Unit {0}) Fault) (P Q : Type 0) → (P → Q) → (Q → P) → Tests w r P → Tests w r Q
unfolding Tests
tests_both w (Ok u) P Q f g t = f t
tests_both w (Err e) P Q f g t = (λ q. t.0 (g q), t.1)

-- the freed ids before i are as they are to be
abbrev pub GoodTo : (ℕ → ℕ) → ℕ → ℕ → ℕ → ℕ → Type 0
GoodTo w low next k i = (j : ℕ) → j < i → Good w low next k j

pub good_more : (w : ℕ → ℕ) (low next k i : ℕ) → GoodTo w low next k i → Good w low next k i → GoodTo w low next k (i + 1)
good_more w low next k i f g j l =
    ⊎_elim
    (λ (h : j < i). f j h)
    (λ (h : i ≤ j). let z : i ≡ j = omega arith in subst (Good w low next k) z g)
    (below_or_not j i)

-- one that is not stands among all
pub wrong_one : (w : ℕ → ℕ) (low next k i : ℕ) (f : Fault) → i < k → Tests w (Err f) (Good w low next k i) → Tests w (Err f) (AllGood w low next k)
unfolding Tests
wrong_one w low next k i f l t = (λ g. t.0 (g i l), t.1)

pub wrong_frame : (bs m : List ℕ) (f : Fault) → Opens bs kind (Err f) → Loads bs m (Err (load.Bad f)) m
unfolding Opens Loads
wrong_frame bs m f n = (refl, inl n, λ s k b. flawed_none bs kind f.flaw f.place _ _ _ _ n b.message.frame)

-- what is saved of a state that operations reach passes the tests
state_sensible : (bs : List ℕ) (low high next k n : ℕ) (s : State) → Frame kind low high next k bs → Begins bs n s → Sensible (word bs) low high next k
state_sensible bs low high next k n s f b =
    let first : s.low ≡ low = sym b.message.frame.first ∙ f.first in
    let last : s.high ≡ high = sym b.message.frame.second ∙ f.second in
    let new : s.next ≡ next = sym b.message.frame.third ∙ f.third in
    let count : b.freed ≡ k = sym b.message.frame.count ∙ f.count in
    let q : Freed s (word bs) k = subst (Freed s (word bs)) count b.message.freed in
    record {
      order = omega (arith, first, last, b.valid.ordered);
      small = omega (arith, last, b.small);
      from = omega (arith, first, new, b.valid.from_low);
      to = omega (arith, last, new, b.valid.to_high);
      ids = λ i l. record { from = omega (arith, first, (q.only i l).0); below = omega (arith, new, (q.only i l).1); rising = q.rising i };
    }

pub wrong_words : (bs m : List ℕ) (low high next k : ℕ) (f : Fault) → Frame kind low high next k bs → Tests (word bs) (Err f) (Sensible (word bs) low high next k) → Loads bs m (Err (load.Bad f)) m
unfolding Tests Loads
wrong_words bs m low high next k f r n = (refl, inr n.1, λ s j b. n.0 (state_sensible bs low high next k j s r b))

-- words that pass the tests are those of a state
module _ (bs m : List ℕ) (low high next k : ℕ) (f : Frame kind low high next k bs) (s : Sensible (word bs) low high next k) where
  begins : (t : State) → Given (word bs) low high next k t → Begins bs (64 + 8 * k) t
  begins t g = record {
    freed = k;
    message = record { frame = frame_same kind low high next k t.low t.high t.next k bs f (sym g.first) (sym g.last) (sym g.new) refl; freed = g.freed };
    valid = g.valid;
    small = omega (arith, g.last, s.small);
    taken = refl;
  }

  pub remade : (u v n : List ℕ) (x : Result (Unit {0}) Error) → Makes m low high x u → false ≡ is_err x → Grants u (next - low) v → Gives (word bs) k v n → Loads bs m (Ok (64 + 8 * k)) n
  unfolding Loads
  remade u v n (Err e) made b grants gives = absurd (cc)
  remade u v n (Ok _) made b grants gives =
      let z : low + (next - low) ≡ next = omega (arith, s.from) in
      let full = grants low high s.order (omega (arith, s.from, s.to)) made.2 in
      let given = gives full.0 low high next (subst (Full full.0 low high) z full.1) s.ids full.2 in
      (given.0, begins given.0 given.1, given.2)

  pub remade_short : (u : List ℕ) (x : Result (Unit {0}) Error) → Makes m low high x u → true ≡ is_err x → Loads bs m (Err load.NoRoom) u
  unfolding Loads
  remade_short u (Ok _) made b = absurd (cc)
  remade_short u (Err e) made b = go given.0 given.1
    where
      z : low + (next - low) ≡ next
      z = omega (arith, s.from)

      full : (t : State) × Full t low high (low + (next - low))
      full = granted_some low high (next - low) s.order (omega (arith, s.from, s.to))

      given : (t : State) × Given (word bs) low high next k t
      given = given_some (word bs) low high next k k full.0 (subst (Full full.0 low high) z full.1) s.ids (omega arith)

      go : (t : State) → Given (word bs) low high next k t → Loads bs m (Err load.NoRoom) u
      go t g =
          let short = ⊎_elim (λ (w : (e ≡ Error.InvalidRange) × (high < low)). absurd (omega (arith, w.1, s.order))) (λ (w : (e ≡ Error.NoRoom) × (low ≤ high) × ((n : ℕ) × Needs low high n × (length m < n))). w.2) made.1 in
          (made.0, t, 64 + 8 * k, begins t g, short.0, subst (λ (y : ℕ). Needs t.low y short.0) (sym g.last) (subst (λ (y : ℕ). Needs y high short.0) (sym g.first) short.1), short.2)
