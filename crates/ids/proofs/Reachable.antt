-- The states that operations lead to are the valid ones, and no others: `reached_valid` and `valid_reached`. A valid state is reached by as many
-- grants as there are ids below next, and then by giving back what is not granted.
-- Assumes nothing.
use Rattle.std.proofs.Common.{Result, Ok}
use Rattle.ranges.specs.declared.Error.{Error}
use mathlib.Core.Path.{◌≡◌, refl, sym, ap, ap₂, ◌∙◌, subst, fun_ext}
use mathlib.Core.Logic.{◌⊎◌, inl, inr, ⊎_elim}
use mathlib.Core.Bool.{Bool, true, false}
use mathlib.Core.List.{List, [], ◌∷◌, ◌++◌}
use Prim.Native.Nat.{ℕ, zero, suc, ◌+◌, ◌-◌, ◌≤◌, ◌<◌}
use native.Mathlib.Omega.{arith}
use Rattle.ids.specs.State.{State, Free, fresh, grant, release, Allocates, Frees}
use Rattle.ids.specs.Runs.{after, Event, event, Runs, Reached, Valid}
use Rattle.ids.specs.Runs.Operation.{Allocate, Release}
use Rattle.ids.proofs.Tests.{order, is_either, false_true, not_true, same_bool}
use Rattle.ids.proofs.Validity.{valid_fresh}
use Rattle.ids.proofs.RunLaws.{step_true, step_back, valid_runs}

pub reached_valid : (s : State) → Reached s → Valid s
reached_valid s r = valid_runs (fresh s.low s.high) s r.events (valid_fresh s.low s.high r.ordered) r.come

-- one event more, behind
runs_more : (s m t : State) (es : List Event) (e : Event) → Runs s es m → Runs m (e ∷ []) t → Runs s (es ++ (e ∷ [])) t
unfolding Runs
runs_more s m t [] e r q = subst (λ (x : State). Runs x (e ∷ []) t) r q
runs_more s m t (d ∷ es) e r q = (r.0, runs_more (after s d.asked d.answer) m t es e r.1 q)

-- states that agree in each part
same_state : (a b : State) → a.low ≡ b.low → a.high ≡ b.high → a.next ≡ b.next → a.granted ≡ b.granted → a ≡ b
same_state a b l h n g =
    ap₂ (λ (x y : ℕ). record { low = x; high = y; next = a.next; granted = a.granted }) l h
    ∙ ap₂ (λ (x : ℕ) (f : ℕ → Bool). record { low = b.low; high = b.high; next = x; granted = f }) n g

module _ (s : State) (v : Valid s) where
  -- a state on the way: the ids from a up to b are all granted, those below a as in s, and none from b on
  record Way (a b : ℕ) : Type 0 where
    pub at : State
    pub events : List Event
    pub come : Runs (fresh s.low s.high) events at
    pub same_low : at.low ≡ s.low
    pub same_high : at.high ≡ s.high
    pub next_is : at.next ≡ b
    pub all : (j : ℕ) → a ≤ j → j < b → at.granted j ≡ true
    pub wanted : (j : ℕ) → j < a → s.granted j ≡ true → at.granted j ≡ true
    pub only : (j : ℕ) → at.granted j ≡ true → (s.low ≤ j) × (j < b) × ((a ≤ j) ⊎ (s.granted j ≡ true))

  start : Way s.low s.low
  unfolding Runs
  start = record {
    at = fresh s.low s.high;
    events = [];
    come = refl;
    same_low = refl;
    same_high = refl;
    next_is = refl;
    all = λ j p q. absurd (omega arith);
    wanted = λ j p g. absurd (omega (arith, (v.below j g).0));
    only = λ j g. absurd (false_true false refl g);
  }

  -- one grant more
  higher : (b : ℕ) → s.low ≤ b → b ≤ s.high → Way s.low b → Way s.low (b + 1)
  unfolding Runs
  higher b l h w =
      let m = w.at in
      let off : m.granted b ≡ false = not_true (m.granted b) (λ g. omega (arith, (w.only b g).1)) in
      let first : (j : ℕ) → Free m j → b ≤ j =
      λ j f. ⊎_elim (λ (k : b ≤ j). k) (λ (k : j < b). absurd (false_true (m.granted j) f.1 (w.all j (omega (arith, f.0.0, w.same_low)) k))) (order b j) in
      let d : Allocates m (Ok b) = (((omega (arith, w.same_low), omega (arith, w.same_high)), off), first) in
      record {
        at = grant m b;
        events = w.events ++ (event Allocate (Ok b) ∷ []);
        come = runs_more (fresh s.low s.high) m (grant m b) w.events (event Allocate (Ok b)) w.come (d, refl);
        same_low = w.same_low;
        same_high = w.same_high;
        next_is = omega (arith, w.next_is);
        all = λ j p q. ⊎_elim
            (λ (k : j < b). step_back m Allocate (Ok b) j d (inr (w.all j p k, λ z. absurd (let y : ◌≡◌ {A = ℕ} 0 1 = cc z.0 in omega arith))))
            (λ (k : b ≤ j). let e : b ≡ j = omega arith in step_back m Allocate (Ok b) j d (inl (refl, ap Ok e)))
            (⊎_elim (λ (k : b ≤ j). inr k) (λ (k : j < b). inl k) (order b j));
        wanted = λ j p g. absurd (omega (arith, (v.below j g).0));
        only = λ j g. ⊎_elim
            (λ z. let e : b ≡ j = cc z.1 in (omega arith, omega arith, inl (omega arith)))
            (λ z. let o = w.only j z.0 in (o.0, omega (arith, o.1), inl o.0))
            (step_true m Allocate (Ok b) j d g);
      }

  -- one id more is as in s: it stays, or is given back
  stays : (a : ℕ) → s.low ≤ a → a < s.next → Way a s.next → s.granted a ≡ true → Way (a + 1) s.next
  stays a l h w g = let m = w.at in record {
    at = m;
    events = w.events;
    come = w.come;
    same_low = w.same_low;
    same_high = w.same_high;
    next_is = w.next_is;
    all = λ j p q. w.all j (omega arith) q;
    wanted = λ j p k. ⊎_elim (λ (i : a ≤ j). w.all j i (omega arith)) (λ (i : j < a). w.wanted j i k) (order a j);
    only = λ j k. let o = w.only j k in (
      o.0,
      o.1,
      ⊎_elim
          (λ (i : a + 1 ≤ j). inl i)
          (λ (i : j < a + 1). inr (⊎_elim (λ (x : a ≤ j). let e : a ≡ j = omega arith in ap s.granted (sym e) ∙ g) (λ x. x) o.2))
          (order (a + 1) j),
    );
  }

  gives : (a : ℕ) → s.low ≤ a → a < s.next → Way a s.next → s.granted a ≡ false → Way (a + 1) s.next
  unfolding Runs
  gives a l h w f =
      let m = w.at in
      let d : Frees m a (Ok a) = (refl, (omega (arith, w.same_low), omega (arith, w.same_high, v.to_high)), omega (arith, w.next_is), w.all a (omega arith) h) in
      let apart : (j : ℕ) → (j ≡ a → ⊥) → ((Release a ≡ Release j) × (◌≡◌ {A = Result ℕ Error} (Ok a) (Ok j))) → ⊥ = λ j n z. n (let e : a ≡ j = cc z.1 in sym e) in
      record {
        at = release m a;
        events = w.events ++ (event (Release a) (Ok a) ∷ []);
        come = runs_more (fresh s.low s.high) m (release m a) w.events (event (Release a) (Ok a)) w.come (d, refl);
        same_low = w.same_low;
        same_high = w.same_high;
        next_is = w.next_is;
        all = λ j p q. step_back m (Release a) (Ok a) j d (inr (w.all j (omega arith) q, apart j (λ e. omega arith)));
        wanted = λ j p k.
            let n : j ≡ a → ⊥ = λ e. false_true (s.granted a) f (ap s.granted (sym e) ∙ k) in
            let i : j < a = ⊎_elim (λ (x : a ≤ j). absurd (n (omega arith))) (λ x. x) (order a j) in
            step_back m (Release a) (Ok a) j d (inr (w.wanted j i k, apart j n));
        only = λ j k. ⊎_elim
            (λ z. absurd (let y : ◌≡◌ {A = ℕ} 0 1 = cc z.0 in omega arith))
            (λ z.
            let o = w.only j z.0 in (
              o.0,
              o.1,
              ⊎_elim
                  (λ (x : a ≤ j). ⊎_elim
                  (λ (y : a + 1 ≤ j). inl y)
                  (λ (y : j < a + 1). let e : a ≡ j = omega arith in absurd (z.1 (ap Release e, ap Ok e)))
                  (order (a + 1) j))
                  (λ x. inr x)
                  o.2,
            ))
            (step_true m (Release a) (Ok a) j d k);
      }

  settled : (a : ℕ) → s.low ≤ a → a < s.next → Way a s.next → Way (a + 1) s.next
  settled a l h w = ⊎_elim (gives a l h w) (stays a l h w) (is_either (s.granted a))

  granted_all : (n : ℕ) → s.low + n ≤ s.next → Way s.low (s.low + n)
  granted_all zero h = subst (λ (b : ℕ). Way s.low b) (let e : s.low ≡ s.low + 0 = omega arith in e) start
  granted_all (suc n) h =
      subst (λ (b : ℕ). Way s.low b) (let e : s.low + n + 1 ≡ s.low + suc n = omega arith in e)
      (higher (s.low + n) (omega arith) (omega (arith, v.to_high)) (granted_all n (omega arith)))

  settled_all : (n : ℕ) → s.low + n ≤ s.next → Way (s.low + n) s.next
  settled_all zero h =
      let e : s.low + (s.next - s.low) ≡ s.next = omega (arith, v.from_low) in
      let z : s.low ≡ s.low + 0 = omega arith in
      subst (λ (a : ℕ). Way a s.next) z (subst (λ (b : ℕ). Way s.low b) e (granted_all (s.next - s.low) (omega arith)))
  settled_all (suc n) h =
      subst (λ (a : ℕ). Way a s.next) (let e : s.low + n + 1 ≡ s.low + suc n = omega arith in e)
      (settled (s.low + n) (omega arith) (omega arith) (settled_all n (omega arith)))

  pub valid_reached : Reached s
  valid_reached =
      let e : s.low + (s.next - s.low) ≡ s.next = omega (arith, v.from_low) in
      let w = subst (λ (a : ℕ). Way a s.next) e (settled_all (s.next - s.low) (omega arith)) in
      let g : w.at.granted ≡ s.granted =
      fun_ext (λ j. same_bool (w.at.granted j) (s.granted j)
      (λ k. let o = w.only j k in ⊎_elim (λ (x : s.next ≤ j). absurd (omega (arith, o.1))) (λ x. x) o.2)
      (λ k. w.wanted j (v.below j k).1 k)) in
      let same : w.at ≡ s = same_state w.at s w.same_low w.same_high w.next_is g in
      record { ordered = v.ordered; events = w.events; come = subst (Runs (fresh s.low s.high) w.events) same w.come }
