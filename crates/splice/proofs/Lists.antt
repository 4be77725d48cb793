-- Lists with cells given up for others. Assumes nothing.
use Prim.Native.Nat.{ℕ, ◌+◌, ◌-◌, ◌≤◌, ◌<◌}
use mathlib.Core.Path.{◌≡◌, refl, sym, ap, ◌∙◌}
use mathlib.Core.List.{List, [], ◌∷◌, ◌++◌, append_assoc, append-nil}
use native.Mathlib.Numerals.{add-one}
use native.Mathlib.Omega.{arith}
use lib.ListN.{length, get_or, take, drop, length-drop, length-append, take-append-drop}
use lib.Seq.{get_or-take, get_or-drop, ext_get_or, drop-drop, length-take-le, split_at, take-append-add, drop-append-add, take-append-le, drop-append-le}
use Rattle.splice.specs.Splice.{splice}

-- the first cells of two lists, and the last
heads : (x z : List ℕ) (i : ℕ) → i ≤ length x → i ≤ length z → ((k : ℕ) → k < i → get_or z k 0 ≡ get_or x k 0) → take i z ≡ take i x
heads x z i h h' e =
    let l = length-take-le i x h in
    let l' = length-take-le i z h' in
    ext_get_or 0 (take i z) (take i x) (l' ∙ sym l) (λ k b. get_or-take i z k 0 (omega arith) ∙ e k (omega arith) ∙ sym (get_or-take i x k 0 (omega arith)))

tails : (x z : List ℕ) (a b : ℕ) → length z - a ≡ length x - b → ((k : ℕ) → k < length x - b → get_or z (a + k) 0 ≡ get_or x (b + k) 0) → drop a z ≡ drop b x
tails x z a b h e =
    let l = length-drop a z in
    let l' = length-drop b x in
    ext_get_or 0 (drop a z) (drop b x) (l ∙ h ∙ sym l') (λ k q. get_or-drop a z k 0 ∙ e k (omega arith) ∙ sym (get_or-drop b x k 0))

-- a list with `by` more at i, and one with `by` less
pub more_list : (x z : List ℕ) (i by : ℕ) → i ≤ length x → length z ≡ length x + by → ((k : ℕ) → k < i → get_or z k 0 ≡ get_or x k 0) → ((k : ℕ) → i ≤ k → k < length x → get_or z (k + by) 0 ≡ get_or x k 0) → z ≡ take i x ++ (take by (drop i z) ++ drop i x)
more_list x z i by h l e f =
    let a : take i z ≡ take i x = heads x z i h (omega arith) e in
    let b : drop (i + by) z ≡ drop i x = tails x z (i + by) i (omega arith) (λ k q. let y : i + by + k ≡ i + k + by = omega arith in rw y (f (i + k) (omega arith) (omega arith))) in
    sym (take-append-drop i z) ∙ ap (λ (w : List ℕ). take i z ++ w) (sym (take-append-drop by (drop i z))) ∙ rw (drop-drop by i z, a, b)

pub less_list : (x z : List ℕ) (i by : ℕ) → i + by ≤ length x → length z + by ≡ length x → ((k : ℕ) → k < i → get_or z k 0 ≡ get_or x k 0) → ((k : ℕ) → i ≤ k → k < length z → get_or z k 0 ≡ get_or x (k + by) 0) → z ≡ take i x ++ drop (i + by) x
less_list x z i by h l e f =
    let a : take i z ≡ take i x = heads x z i (omega arith) (omega arith) e in
    let b : drop i z ≡ drop (i + by) x = tails x z i (i + by) (omega arith) (λ k q. let y : i + by + k ≡ i + k + by = omega arith in rw y (f (i + k) (omega arith) (omega arith))) in
    sym (take-append-drop i z) ∙ rw (a, b)

-- a cell given up for itself
pub splice_self : (x : List ℕ) (i : ℕ) → i < length x → x ≡ splice i 1 (get_or x i 0 ∷ []) x
splice_self x i h = split_at x i 0 h ∙ rw (add-one i)

-- a change within what was put in
pub splice_in : (x p q r n : List ℕ) (i by k l : ℕ) → i ≤ length x → k ≡ i + length p → l ≡ length q → splice k l n (splice i by (p ++ (q ++ r)) x) ≡ splice i by (p ++ (n ++ r)) x
splice_in x p q r n i by k l h ek el =
    let t : List ℕ = take i x in
    let d : List ℕ = drop (i + by) x in
    let lt : length t ≡ i = length-take-le i x h in
    let flat : (w : List ℕ) → t ++ ((p ++ (w ++ r)) ++ d) ≡ (t ++ p) ++ (w ++ (r ++ d)) = λ w. simp append_assoc in
    let lp : length (t ++ p) + 0 ≡ k = simp length-append (omega arith) in
    let lq : length (t ++ p) + length q ≡ k + l = simp length-append (omega arith) in
    let a : take k (t ++ ((p ++ (q ++ r)) ++ d)) ≡ t ++ p = rw (flat q, sym lp) (take-append-add (t ++ p) (q ++ (r ++ d)) 0 ∙ nil (t ++ p)) in
    let b : drop (k + l) (t ++ ((p ++ (q ++ r)) ++ d)) ≡ r ++ d = rw (flat q, sym lq) (drop-append-add (t ++ p) (q ++ (r ++ d)) (length q) ∙ past q (r ++ d)) in
    rw (a, b) (sym (flat n))
  where
    nil : (w : List ℕ) → w ++ [] ≡ w
    nil w = append-nil w

    past : (q w : List ℕ) → drop (length q) (q ++ w) ≡ w
    past [] w = refl
    past (_ ∷ q) w = past q w

-- a change of a list in the middle of others
pub splice_flat : (f x k n : List ℕ) (c i by : ℕ) → length f ≡ c → i + by ≤ length x → f ++ (splice i by n x ++ k) ≡ splice (c + i) by n (f ++ (x ++ k))
splice_flat f x k n c i by e h =
    let p : take (c + i) (f ++ (x ++ k)) ≡ f ++ take i x = rw (sym e) (take-append-add f (x ++ k) i ∙ ap (λ (y : List ℕ). f ++ y) (take-append-le i x k (omega arith))) in
    let z : c + i + by ≡ length f + (i + by) = omega arith in
    let q : drop (c + i + by) (f ++ (x ++ k)) ≡ drop (i + by) x ++ k = rw z (drop-append-add f (x ++ k) (i + by) ∙ drop-append-le (i + by) x k (omega arith)) in
    rw (p, q) (regroup f (take i x) n (drop (i + by) x) k)
  where
    regroup : (f a n d k : List ℕ) → f ++ ((a ++ (n ++ d)) ++ k) ≡ (f ++ a) ++ (n ++ (d ++ k))
    regroup f a n d k = simp append_assoc
