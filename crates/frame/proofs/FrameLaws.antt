-- Frames. Assumes nothing.
--     flawed_none      where something is wrong there is no frame
--     flawed_at        what is wrong, by the parts of an answer
--     frame_same       a frame by other names of its numbers
--     frame_words      frames of the same numbers around the same words are the same words
--     headed_none, headed_more, headed_all     the words of the head set one after the other
--     sealed           the steps of `seal` make a frame
--     frame_changed    a frame of which one byte is changed is none any more: so it is with one flipped bit
use Rattle.std.proofs.Common.{ℕ, zero, suc, ◌+◌, ◌*◌, ◌/◌, ◌≤◌, ◌<◌, ◌≡◌, refl, sym, ap, ◌∙◌, subst, ◌⊎◌, ⊎_elim, inl, inr, List, [], ◌∷◌, length, get_or, Err, arith}
use Rattle.octets.specs.Octets.{word, check, Bytes, Puts}
use Rattle.octets.proofs.Words.{below_or_not, word_below, word_same, word_bytes, put_word}
use Rattle.octets.proofs.CheckLaws.{check_same, check_differs}
use Rattle.frame.specs.Frame.{Frame, Flawed, Opens, Seals}
use Rattle.frame.specs.declared.Fault.{Fault}
use Rattle.frame.specs.declared.Flaw.{Flaw}
use Rattle.frame.specs.declared.Flaw.TheVariants.{Short, Kind, Version, Check, Bounds, Limit, Count, State, Order, Outside, Touching}

pub flawed_none : (bs : List ℕ) (k : ℕ) (flaw : Flaw) (at a b c n : ℕ) → Flawed bs k flaw at → Frame k a b c n bs → ⊥
unfolding Flawed
flawed_none bs k Short at a b c n w f = ⊎_elim (λ (l : length bs < 64). omega (arith, f.long)) (λ (l : length bs < 64 + 8 * word bs 5). omega (arith, f.long, f.count)) w.1
flawed_none bs k Kind at a b c n w f = w.1 f.kind
flawed_none bs k Version at a b c n w f = w.1 f.version
flawed_none bs k Check at a b c n w f = w.3 (⊎_elim (λ (e : w.0 ≡ 6). subst (λ (x : ℕ). word bs x ≡ check (word bs) x) (sym e) f.head) (λ (e : w.0 ≡ 7 + word bs 5). subst (λ (x : ℕ). word bs x ≡ check (word bs) x) (sym (e ∙ ap (λ (x : ℕ). 7 + x) f.count)) f.last) w.2)
flawed_none bs k Bounds at a b c n w f = w
flawed_none bs k Limit at a b c n w f = w
flawed_none bs k Count at a b c n w f = w
flawed_none bs k State at a b c n w f = w
flawed_none bs k Order at a b c n w f = w
flawed_none bs k Outside at a b c n w f = w
flawed_none bs k Touching at a b c n w f = w

-- what is wrong, by the parts of an answer
pub flawed_at : (bs : List ℕ) (k : ℕ) (r : Fault) (f : Flaw) (at : ℕ) → r.flaw ≡ f → r.place ≡ at → Flawed bs k f at → Opens bs k (Err r)
unfolding Opens Flawed
flawed_at bs k r f at p q w = rw (p, q) w

-- the first i words are those of the list hs, and no byte behind them is changed
pub record Headed (hs : List ℕ) (i : ℕ) (bs bs' : List ℕ) : Type 0 where
  pub long : length bs' ≡ length bs
  pub says : (j : ℕ) → j < i → word bs' j ≡ get_or hs j 0
  pub behind : (j : ℕ) → 8 * i ≤ j → get_or bs' j 0 ≡ get_or bs j 0

pub headed_none : (hs bs : List ℕ) → Headed hs 0 bs bs
headed_none hs bs = record { long = refl; says = λ j l. absurd (omega arith); behind = λ j l. refl }

pub headed_more : (hs : List ℕ) (i x : ℕ) (a b c : List ℕ) → 8 * i + 8 ≤ length a → x ≡ get_or hs i 0 → Headed hs i a b → Puts b i x c → Headed hs (i + 1) a c
headed_more hs i x a b c l e f p = record {
  long = p.long ∙ f.long;
  says = λ j h.
      ⊎_elim
      (λ (d : j < i). put_word b c i x p j (λ (z : j ≡ i). omega arith) ∙ f.says j d)
      (λ (d : i ≤ j). let z : i ≡ j = omega arith in subst (λ (y : ℕ). word c y ≡ get_or hs y 0) z (p.says (omega (arith, l, f.long)) ∙ e))
      (below_or_not j i);
  behind = λ j h. p.other j (inr (omega arith)) ∙ f.behind j (omega arith);
}

pub headed_all : (hs : List ℕ) (i n : ℕ) (a b : List ℕ) → i ≡ n → Headed hs i a b → Headed hs n a b
headed_all hs i n a b e f = subst (λ (x : ℕ). Headed hs x a b) e f

-- a frame by other names of its numbers
pub frame_same : (k a b c n a' b' c' n' : ℕ) (bs : List ℕ) → Frame k a b c n bs → a ≡ a' → b ≡ b' → c ≡ c' → n ≡ n' → Frame k a' b' c' n' bs
frame_same k a b c n a' b' c' n' bs f p q r s = record {
  long = omega (arith, f.long);
  kind = f.kind;
  version = f.version;
  first = f.first ∙ p;
  second = f.second ∙ q;
  third = f.third ∙ r;
  count = f.count ∙ s;
  head = f.head;
  last = subst (λ (x : ℕ). word bs (7 + x) ≡ check (word bs) (7 + x)) s f.last;
}

-- frames of the same numbers around the same words
module _ (k a b c n : ℕ) (u v : List ℕ) (f : Frame k a b c n u) (g : Frame k a b c n v) (e : (i : ℕ) → 7 ≤ i → i < 7 + n → word u i ≡ word v i) where
  same_front : (i : ℕ) → i < 6 → word u i ≡ word v i
  same_front zero l = f.kind ∙ sym g.kind
  same_front (suc zero) l = f.version ∙ sym g.version
  same_front (suc (suc zero)) l = f.first ∙ sym g.first
  same_front (suc (suc (suc zero))) l = f.second ∙ sym g.second
  same_front (suc (suc (suc (suc zero)))) l = f.third ∙ sym g.third
  same_front (suc (suc (suc (suc (suc zero))))) l = f.count ∙ sym g.count
  same_front (suc (suc (suc (suc (suc (suc i)))))) l = absurd (omega arith)

  same_head : word u 6 ≡ word v 6
  same_head = f.head ∙ check_same (word u) (word v) 6 same_front ∙ sym g.head

  same_before : (i : ℕ) → i < 7 + n → word u i ≡ word v i
  same_before i l =
      ⊎_elim
      (λ (h : i < 6). same_front i h)
      (λ (h : 6 ≤ i). ⊎_elim (λ (d : 6 < i). e i (omega arith) l) (λ (d : i ≤ 6). let z : 6 ≡ i = omega arith in subst (λ (x : ℕ). word u x ≡ word v x) z same_head) (below_or_not 6 i))
      (below_or_not i 6)

  pub frame_words : (i : ℕ) → i < 8 + n → word u i ≡ word v i
  frame_words i l =
      ⊎_elim
      (λ (h : i < 7 + n). same_before i h)
      (λ (h : 7 + n ≤ i). let z : 7 + n ≡ i = omega arith in subst (λ (x : ℕ). word u x ≡ word v x) z (f.last ∙ check_same (word u) (word v) (7 + n) same_before ∙ sym g.last))
      (below_or_not i (7 + n))

  -- so their bytes are the same
  pub frame_bytes : Bytes u → Bytes v → (j : ℕ) → j < 8 * (8 + n) → get_or u j 0 ≡ get_or v j 0
  frame_bytes p q j l = word_bytes u v (j / 8) p q (frame_words (j / 8) (omega arith)) j (omega arith) (omega arith)

-- the steps of `seal`
module _ (k a b c n : ℕ) (v x y z : List ℕ) (l : 8 * (8 + n) ≤ length v) (p : Headed (k ∷ 1 ∷ a ∷ b ∷ c ∷ n ∷ []) 6 v x) (r : Puts x 6 (check (word x) 6) y) (s : Puts y (7 + n) (check (word y) (7 + n)) z) where
  -- a word that neither check is
  front : (i : ℕ) → i < 6 → word z i ≡ word x i
  front i h = put_word y z (7 + n) (check (word y) (7 + n)) s i (λ (e : i ≡ 7 + n). omega arith) ∙ put_word x y 6 (check (word x) 6) r i (λ (e : i ≡ 6). omega arith)

  -- a check is of words that later steps leave alone
  head_check : word z 6 ≡ check (word z) 6
  head_check =
      put_word y z (7 + n) (check (word y) (7 + n)) s 6 (λ (e : 6 ≡ 7 + n). omega arith)
      ∙ r.says (omega (arith, l, p.long))
      ∙ check_same (word x) (word z) 6 (λ j h. sym (front j h))

  last_check : word z (7 + n) ≡ check (word z) (7 + n)
  last_check =
      s.says (omega (arith, l, p.long, r.long))
      ∙ check_same (word y) (word z) (7 + n) (λ j h. sym (put_word y z (7 + n) (check (word y) (7 + n)) s j (λ (e : j ≡ 7 + n). omega arith)))

  pub sealed : Seals k a b c n v z
  sealed = record {
    long = s.long ∙ r.long ∙ p.long;
    made = λ h. record {
      long = omega (arith, l, p.long, r.long, s.long);
      kind = front 0 (omega arith) ∙ p.says 0 (omega arith);
      version = front 1 (omega arith) ∙ p.says 1 (omega arith);
      first = front 2 (omega arith) ∙ p.says 2 (omega arith);
      second = front 3 (omega arith) ∙ p.says 3 (omega arith);
      third = front 4 (omega arith) ∙ p.says 4 (omega arith);
      count = front 5 (omega arith) ∙ p.says 5 (omega arith);
      head = head_check;
      last = last_check;
    };
    words = λ i h m.
        put_word y z (7 + n) (check (word y) (7 + n)) s i (λ (e : i ≡ 7 + n). omega arith)
        ∙ put_word x y 6 (check (word x) 6) r i (λ (e : i ≡ 6). omega arith)
        ∙ word_same x v i (λ j d e. p.behind j (omega arith));
    behind = λ j h. s.other j (inr (omega arith)) ∙ r.other j (inr (omega arith)) ∙ p.behind j (omega arith);
    none = λ f. absurd (f l);
  }

-- a byte of word j is byte i: word j is that of i
quotient : (i j x : ℕ) → x ≡ i → 8 * j ≤ x → x < 8 * j + 8 → j ≡ i / 8
quotient i j x e l u = omega arith

-- the theorem: where one byte of a frame is another, there is no frame
pub frame_changed : (k a b c n a' b' c' n' i : ℕ) (bs bs' : List ℕ) → Bytes bs → Bytes bs' → Frame k a b c n bs → Frame k a' b' c' n' bs' → i < 8 * (8 + n) → ((j : ℕ) → (j ≡ i → ⊥) → get_or bs' j 0 ≡ get_or bs j 0) → get_or bs' i 0 ≡ get_or bs i 0
frame_changed k a b c n a' b' c' n' i bs bs' p q f g h o =
    word_bytes bs' bs (i / 8) q p (which (below_or_not (i / 8) 7)) i (omega arith) (omega arith)
  where
    -- every other word is the same
    same : (j : ℕ) → (j ≡ i / 8 → ⊥) → word bs' j ≡ word bs j
    same j e = word_same bs' bs j (λ x l u. o x (λ (z : x ≡ i). e (quotient i j x z l u)))

    -- a word and a check of those before it
    caught : (t : ℕ) → i / 8 ≤ t → word bs' t ≡ check (word bs') t → word bs t ≡ check (word bs) t → word bs' (i / 8) ≡ word bs (i / 8)
    caught t l u v =
        ⊎_elim
        (λ (s : i / 8 < t). check_differs (word bs') (word bs) t (i / 8) s (λ j. word_below bs' j q) (λ j. word_below bs j p) same (sym u ∙ same t (λ (e : t ≡ i / 8). omega arith) ∙ v))
        (λ (s : t ≤ i / 8).
        let e : t ≡ i / 8 = omega arith in
        subst (λ (x : ℕ). word bs' x ≡ word bs x) e (u ∙ check_same (word bs') (word bs) t (λ j b. same j (λ (z : j ≡ i / 8). omega arith)) ∙ sym v))
        (below_or_not (i / 8) t)

    which : (i / 8 < 7) ⊎ (7 ≤ i / 8) → word bs' (i / 8) ≡ word bs (i / 8)
    which (inl l) = caught 6 (omega (arith, l)) g.head f.head
    which (inr l) =
        let e : n' ≡ n = sym g.count ∙ same 5 (λ (z : 5 ≡ i / 8). omega (arith, l)) ∙ f.count in
        caught (7 + n) (omega (arith, h)) (subst (λ (x : ℕ). word bs' (7 + x) ≡ check (word bs') (7 + x)) e g.last) f.last
