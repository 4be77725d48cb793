-- Laws of writing the freed ids, from the contracts of what is called. Assumes nothing.
--     unheld_more, unheld_up            one id more; how many there are grows
--     listed_start, listed_step         after n ids the words say those among them that are free
--     freed_same                        equal words say the same freed ids
--     counted_held, counted_free, noted_free, measured, measures_some, not_measured     how the steps end
--     written                           the ids and the frame around them are the state
use Rattle.std.proofs.Common.{ℕ, zero, suc, ◌+◌, ◌-◌, ◌*◌, ◌^◌, ◌≤◌, ◌<◌, ◌≡◌, refl, sym, ap, ◌∙◌, subst, Bool, true, false, cond, ◌⊎◌, ⊎_elim, inl, inr, List, length, Option, Some, Result, Ok, Err, IsErrAnd, arith, add-one}
use Rattle.std.specs.Option.{ok_or}
use Rattle.octets.specs.Octets.{word, Puts}
use Rattle.octets.proofs.Words.{below_or_not, put_word}
use Rattle.frame.specs.Frame.{Seals}
use Rattle.frame.specs.declared.SaveError.{SaveError}
use Rattle.frame.specs.declared.SaveError.TheVariants.{NoState}
use Rattle.frame.proofs.FrameLaws.{frame_same}
use Rattle.frame.proofs.Passed.{handed, missing}
use Rattle.ids.specs.State.{State, Within}
use Rattle.ids.specs.Held.{Holds}
use Rattle.ids.specs.Contract.{Tells}
use Rattle.ids.proofs.Tests.{is_either, false_true, not_true}
use Rattle.ranges.specs.Align.{Decides}
use Rattle.saved_ids.specs.Format.{kind, Freed, unheld, freed_of}
use Rattle.saved_ids.specs.declared.Extent.{Extent}
use Rattle.saved_ids.specs.Contract.{Saves}
use Rattle.saved_ids.specs.Steps.{Spans, Counts, Measured, Measures, Notes, upto, Lists}

-- ---- how many are not granted

pub unheld_more : (g : ℕ → Bool) (low n : ℕ) → unheld g low (n + 1) ≡ unheld g low n + cond (g (low + n)) 0 1
unfolding unheld
unheld_more g low n = ap (unheld g low) (add-one n)

pub unheld_up : (g : ℕ → Bool) (low n d : ℕ) → unheld g low n ≤ unheld g low (n + d)
unheld_up g low n zero = let e : n + 0 ≡ n = omega arith in rw e (omega arith)
unheld_up g low n (suc d) =
    let e : n + suc d ≡ n + d + 1 = omega arith in
    rw (e, unheld_more g low (n + d)) (omega (arith, unheld_up g low n d))

-- there is one that is not granted
unheld_below : (g : ℕ → Bool) (low i n : ℕ) → i < n → g (low + i) ≡ false → unheld g low i < unheld g low n
unheld_below g low i n l e =
    let z : i + 1 + (n - i - 1) ≡ n = omega arith in
    let u : unheld g low (i + 1) ≤ unheld g low n = subst (λ (x : ℕ). unheld g low (i + 1) ≤ unheld g low x) z (unheld_up g low (i + 1) (n - i - 1)) in
    let m : unheld g low (i + 1) ≡ unheld g low i + 1 = unheld_more g low i ∙ ap (λ (b : Bool). unheld g low i + cond b 0 1) e in
    omega arith

-- ---- the list

pub freed_same : (s : State) (v w : ℕ → ℕ) (k : ℕ) → ((i : ℕ) → 7 ≤ i → i < 7 + k → v i ≡ w i) → Freed s w k → Freed s v k
freed_same s v w k e f = record {
  rising = λ i l. omega (arith, f.rising i l, e (7 + i) (omega arith) (omega arith), e (8 + i) (omega arith) (omega arith));
  only = λ i l. let q : w (7 + i) ≡ v (7 + i) = sym (e (7 + i) (omega arith) (omega arith)) in subst (λ (x : ℕ). (s.low ≤ x) × (x < s.next) × (s.granted x ≡ false)) q (f.only i l);
  all = λ j a b c. let r = f.all j a b c in (r.0, r.1, e (7 + r.0) (omega arith) (omega (arith, r.1)) ∙ r.2);
}

-- a granted id adds nothing
held_more : (s : State) (n : ℕ) (w : ℕ → ℕ) (k : ℕ) → s.granted (s.low + n) ≡ true → Freed (upto s n) w k → Freed (upto s (n + 1)) w k
held_more s n w k t f = record {
  rising = f.rising;
  only = λ i l. let o = f.only i l in (o.0, omega (arith, o.1), o.2);
  all = λ j a b c.
      ⊎_elim
      (λ (l : j < s.low + n). f.all j a l c)
      (λ (l : s.low + n ≤ j). let e : j ≡ s.low + n = omega arith in absurd (false_true (s.granted (s.low + n)) (ap s.granted (sym e) ∙ c) t))
      (below_or_not j (s.low + n));
}

-- a free one is the last
free_more : (s : State) (n : ℕ) (w : ℕ → ℕ) (k : ℕ) → s.granted (s.low + n) ≡ false → w (7 + k) ≡ s.low + n → Freed (upto s n) w k → Freed (upto s (n + 1)) w (k + 1)
free_more s n w k t e f = record {
  rising = λ i l. ⊎_elim (λ (h : i + 1 < k). f.rising i h) (λ (h : k ≤ i + 1). last i (omega arith)) (below_or_not (i + 1) k);
  only = λ i l. ⊎_elim (λ (h : i < k). let o = f.only i h in (o.0, omega (arith, o.1), o.2)) (λ (h : k ≤ i). new i (omega arith)) (below_or_not i k);
  all = λ j a b c.
      ⊎_elim
      (λ (l : j < s.low + n). let r = f.all j a l c in (r.0, omega (arith, r.1), r.2))
      (λ (l : s.low + n ≤ j). (k, omega arith, e ∙ omega (arith, l, b)))
      (below_or_not j (s.low + n));
}
  where
    last : (i : ℕ) → i + 1 ≡ k → w (7 + i) < w (8 + i)
    last i h = let z : 7 + k ≡ 8 + i = omega arith in omega (arith, (f.only i (omega (arith, h))).1, e, ap w z)

    new : (i : ℕ) → k ≡ i → (s.low ≤ w (7 + i)) × (w (7 + i) < s.low + (n + 1)) × (s.granted (w (7 + i)) ≡ false)
    new i h = let z : w (7 + i) ≡ s.low + n = ap (λ (x : ℕ). w (7 + x)) (sym h) ∙ e in (omega (arith, z), omega (arith, z), ap s.granted z ∙ t)

-- after i ids, j of which are free
pub record Listed (s : State) (i j : ℕ) (bs : List ℕ) : Type 0 where
  pub count : j ≡ unheld s.granted s.low i
  pub words : Freed (upto s i) (word bs) j

pub listed_start : (s : State) (bs : List ℕ) → Listed s 0 0 bs
unfolding unheld
listed_start s bs = record {
  count = refl;
  words = record { rising = λ i l. absurd (omega arith); only = λ i l. absurd (omega arith); all = λ j a b c. absurd (omega arith) };
}

pub listed_step : (s : State) (m bs bs' : List ℕ) (low n i j k r : ℕ) → Holds m s → Spans s low n → k ≡ unheld s.granted low n → i < n → Notes m bs (low + i) j k r bs' → Listed s i j bs → Listed s (i + 1) r bs'
listed_step s m bs bs' low n i j k r h p q l d f = go (is_either (s.granted (s.low + i)))
  where
    at : low + i ≡ s.low + i
    at = omega (arith, p.first)

    within : Within s (low + i)
    within = (omega (arith, p.first), omega (arith, p.last, l))

    old : Freed (upto s i) (word bs') j
    old = freed_same (upto s i) (word bs') (word bs) j (λ x a b. d.front x b) f.words

    go : (s.granted (s.low + i) ≡ false) ⊎ (s.granted (s.low + i) ≡ true) → Listed s (i + 1) r bs'
    go (inr t) =
        let e : r ≡ j = d.held s h within (ap s.granted at ∙ t) in
        record {
          count = e ∙ f.count ∙ omega (arith, unheld_more s.granted s.low i ∙ ap (λ (b : Bool). unheld s.granted s.low i + cond b 0 1) t);
          words = subst (Freed (upto s (i + 1)) (word bs')) (sym e) (held_more s i (word bs') j t old);
        }
    go (inl t) =
        let room : j < k = omega (arith, f.count, q, ap (λ (x : ℕ). unheld s.granted x n) p.first, unheld_below s.granted s.low i n l t) in
        let w = d.free s h within (ap s.granted at ∙ t) room in
        record {
          count = omega (arith, w.0, f.count, unheld_more s.granted s.low i ∙ ap (λ (b : Bool). unheld s.granted s.low i + cond b 0 1) t);
          words = subst (Freed (upto s (i + 1)) (word bs')) (sym w.0) (free_more s i (word bs') j t (w.1 ∙ at) old);
        }

pub listed_end : (s : State) (low n j k : ℕ) (bs : List ℕ) → Spans s low n → k ≡ unheld s.granted low n → Listed s n j bs → Freed (upto s n) (word bs) k
listed_end s low n j k bs p q f =
    let e : j ≡ k = f.count ∙ ap (λ (x : ℕ). unheld s.granted x n) p.first ∙ sym q in
    subst (Freed (upto s n) (word bs)) e f.words

-- ---- the whole

pub written : (m u v w : List ℕ) (low high next k : ℕ) → 64 + 8 * k ≤ length u → Measured m low high next k → Lists m u low (next - low) k v → Seals kind low high next k v w → Saves m u (Ok (64 + 8 * k)) w
unfolding Saves
written m u v w low high next k l d r s = (
  s.long ∙ r.long,
  λ x h valid.
      let q = d.right x h valid in
      let spans : Spans x low (next - low) = record { first = sym q.0; last = omega (arith, d.from, d.to, q.1) } in
      let e : k ≡ unheld x.granted low (next - low) = q.3 ∙ ap (λ (y : ℕ). unheld x.granted x.low (y - x.low)) (sym q.2) ∙ ap (λ (y : ℕ). unheld x.granted y (next - y)) (sym q.0) in
      let f : Freed (upto x (next - low)) (word v) k = r.right x h spans e in
      let z : x.low + (next - low) ≡ x.next = omega (arith, q.0, q.2, d.from) in
      let f' : Freed x (word v) k = subst (λ (y : ℕ). Freed (record { low = x.low; high = x.high; next = y; granted = x.granted }) (word v) k) z f in
      record {
        message = record {
          frame = frame_same kind low high next k x.low x.high x.next (freed_of x) w (s.made (omega (arith, r.long))) q.0 q.1 q.2 q.3;
          freed = subst (Freed x (word w)) q.3 (freed_same x (word w) (word v) k (λ i a b. s.words i a b) f');
        };
        taken = omega (arith, q.3);
        behind = λ j a. s.behind j (omega arith) ∙ r.behind j a;
      },
)

-- ---- one id

told_held : (m : List ℕ) (id : ℕ) (b : Bool) → Tells m id b → b ≡ true → (s : State) → Holds m s → s.granted id ≡ true
told_held m id b t e s h = (subst (λ (x : Bool). Decides x (Within s id × (s.granted id ≡ true))) e (t s h)).1

told_free : (m : List ℕ) (id : ℕ) (b : Bool) → Tells m id b → b ≡ false → (s : State) → Holds m s → Within s id → s.granted id ≡ false
told_free m id b t e s h w = not_true (s.granted id) (λ g. subst (λ (x : Bool). Decides x (Within s id × (s.granted id ≡ true))) e (t s h) (w, g))

-- k counts those of the first i ids from low on that are not granted
abbrev pub Counted : List ℕ → ℕ → ℕ → ℕ → ℕ → Type 0
Counted m low n i k = (k ≤ i) × ((s : State) → Holds m s → Spans s low n → k ≡ unheld s.granted low i)

pub counted_held : (m : List ℕ) (low n i k : ℕ) (b : Bool) → Tells m (low + i) b → b ≡ true → Counted m low n i k → Counted m low n (i + 1) k
counted_held m low n i k b t e f = (omega (arith, f.0), λ s h p. omega (arith, f.1 s h p, unheld_more s.granted low i, ap (λ (x : Bool). cond {A = ℕ} x 0 1) (told_held m (low + i) b t e s h)))

pub counted_free : (m : List ℕ) (low n i k : ℕ) (b : Bool) → Tells m (low + i) b → b ≡ false → i < n → Counted m low n i k → Counted m low n (i + 1) (k + 1)
counted_free m low n i k b t e l f = (
  omega (arith, f.0),
  λ s h p. omega (arith, f.1 s h p, unheld_more s.granted low i, ap (λ (x : Bool). cond {A = ℕ} x 0 1) (told_free m (low + i) b t e s h (omega (arith, p.first), omega (arith, p.last)))),
)

pub noted_free : (m bs bs' : List ℕ) (id j k : ℕ) (b : Bool) → Tells m id b → b ≡ false → j < k → 64 + 8 * k ≤ length bs → Puts bs (7 + j) id bs' → Notes m bs id j k (j + 1) bs'
noted_free m bs bs' id j k b t z l r p = record {
  long = p.long;
  front = λ i h. put_word bs bs' (7 + j) id p i (λ (e : i ≡ 7 + j). omega arith);
  behind = λ i h. p.other i (inr (omega arith));
  held = λ s h w g. absurd (false_true (s.granted id) (told_free m id b t z s h w) g);
  free = λ s h w g q. (refl, p.says (omega arith));
}

-- ---- what there is to write

pub measured : (m : List ℕ) (low high next k : ℕ) → low ≤ next → next ≤ high + 1 → high < 2 ^ 32 → Counts m low (next - low) k → ((s : State) → Holds m s → (low ≡ s.low) × (high ≡ s.high) × (next ≡ s.next)) → Measured m low high next k
measured m low high next k a b c d f = record {
  from = a;
  to = b;
  small = c;
  most = omega (arith, d.small);
  right = λ s h v.
      let q = f s h in
      let e : k ≡ unheld s.granted low (next - low) = d.right s h (record { first = sym q.0; last = omega (arith, q.1) }) in
      (q.0, q.1, q.2, e ∙ ap (λ (y : ℕ). unheld s.granted y (next - y)) q.0 ∙ ap (λ (y : ℕ). unheld s.granted s.low (y - s.low)) q.2);
}

pub measures_some : (m : List ℕ) (o : Option Extent) (e : Extent) → Measures m o → o ≡ Some e → Measured m e.ids.low e.ids.high e.ids.next e.freed
measures_some m o e d q = subst (Measures m) q d

pub not_measured : (m bs : List ℕ) (o : Option Extent) (r : Result ℕ SaveError) (e : SaveError) → Measures m o → Err e ≡ ok_or o NoState → IsErrAnd r (λ y. y ≡ e) → Saves m bs r bs
unfolding Saves
not_measured m bs o r e d q h =
    let w = missing o NoState e q in
    handed (λ x. Saves m bs x bs) r e h (subst (λ (x : SaveError). Saves m bs (Err x) bs) (sym w.1) (refl, subst (Measures m) w.0 d))
