-- Laws of texts put into lent bytes. Assumes nothing.
--     puts_length    the length stays
--     puts_then      two texts, one behind the other
use mathlib.Core.Path.{◌≡◌, sym, ap, ◌∙◌, subst}
use mathlib.Core.List.{List, ◌++◌, append_assoc}
use Prim.Native.Nat.{ℕ, ◌+◌, ◌-◌, ◌≤◌}
use native.Mathlib.Omega.{arith}
use lib.ListN.{length, take, drop, length-append}
use lib.Seq.{length-take-le, drop_at, take_at, drop-drop}
use Rattle.text.specs.Stored.{Puts}
use Rattle.std.proofs.Common.{Some}

-- a text keeps the length of what it is put into
pub puts_length : (t old new : List ℕ) (at e : ℕ) → Puts t at old new (Some e) → length new ≡ length old
puts_length t old new at e w =
    omega (arith, ap length w.2, length-append (take at old) (t ++ drop e old), length-append t (drop e old), length-take-le at old (omega (arith, w.0)), lib.ListN.length-drop e old, w.0, w.1)

-- the front that is written, and what is behind it
front : (t old new : List ℕ) (at e : ℕ) → Puts t at old new (Some e) → take e new ≡ take at old ++ t
front t old new at e w =
    ap (take e) (w.2 ∙ sym (append_assoc (take at old) t (drop e old)))
    ∙ take_at (take at old ++ t) (drop e old) e (omega (arith, length-append (take at old) t, length-take-le at old (omega (arith, w.0)), w.1))

back : (t old new : List ℕ) (at e k : ℕ) → Puts t at old new (Some e) → e ≤ k → drop k new ≡ drop k old
back t old new at e k w h =
    let d : drop e new ≡ drop e old =
    ap (drop e) (w.2 ∙ sym (append_assoc (take at old) t (drop e old)))
    ∙ drop_at (take at old ++ t) (drop e old) e (omega (arith, length-append (take at old) t, length-take-le at old (omega (arith, w.0)), w.1)) in
    let s : e + (k - e) ≡ k = omega arith in
    subst (λ (x : ℕ). drop x new ≡ drop x old) s (sym (drop-drop (k - e) e new) ∙ ap (drop (k - e)) d ∙ drop-drop (k - e) e old)

pub puts_then : (t u old mid new : List ℕ) (at e f : ℕ) → Puts t at old mid (Some e) → Puts u e mid new (Some f) → Puts (t ++ u) at old new (Some f)
puts_then t u old mid new at e f w v = (
  omega (arith, w.0, v.0, w.1, puts_length t old mid at e w, length-append t u),
  omega (arith, w.1, v.1, length-append t u),
  v.2
      ∙ ap (λ (x : List ℕ). x ++ (u ++ drop f mid)) (front t old mid at e w)
      ∙ append_assoc (take at old) t (u ++ drop f mid)
      ∙ ap (λ (x : List ℕ). take at old ++ x) (sym (append_assoc t u (drop f mid)))
      ∙ ap (λ (x : List ℕ). take at old ++ ((t ++ u) ++ x)) (back t old mid at e f w (omega (arith, v.1))),
)
