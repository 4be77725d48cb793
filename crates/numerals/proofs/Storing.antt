-- Laws of text put into lent bytes. Assumes nothing.
use mathlib.Core.Path.{◌≡◌, refl, sym, ap, ◌∙◌, subst}
use mathlib.Core.List.{List, [], ◌∷◌, ◌++◌, append_assoc, append-nil}
use Prim.Native.Nat.{ℕ, suc, ◌+◌, ◌-◌, ◌/◌, ◌%◌, ◌≤◌, ◌<◌}
use native.Mathlib.Nat.{le_refl}
use native.Mathlib.Omega.{arith}
use lib.ListN.{length, take, drop, set, get_or, length-set, length-append}
use lib.Seq.{take-suc, take_all, set_at, length-take-le, drop-drop}
use borrow.Rule.Slice.PartMut.{put_mid}
use Rattle.std.proofs.Common.{Option, Some, None}
use Rattle.text.specs.Stored.{Puts}
use Rattle.text.proofs.Stores.{puts_length, puts_then}
use Rattle.numerals.specs.Spelled.{glyph, spell}
use Rattle.numerals.proofs.Spelling.{fixed, fixed_step, spell_fixed}

-- a byte stored where a front ends: the front is one shorter, and the byte is the first behind it
pub set_last : (l x : List ℕ) (j g : ℕ) → j < length l → set (take (suc j) l ++ x) j g ≡ take j l ++ (g ∷ x)
set_last l x j g h =
    ap (λ (f : List ℕ). set (f ++ x) j g) (take-suc l j 0 h)
    ∙ ap (λ (f : List ℕ). set f j g) (append_assoc (take j l) (get_or l j 0 ∷ []) x)
    ∙ set_at (take j l) (get_or l j 0) x g j (length-take-le j l (omega arith))

-- the text's digits so far: the last ones stand where they belong, the others are left to write
pub record Filling (old : List ℕ) (n b : ℕ) (new : List ℕ) (i rest : ℕ) : Type 0 where
  pub within : i ≤ length old
  pub long : length new ≡ length old
  pub tail : List ℕ
  pub whole : fixed b i rest ++ tail ≡ spell b 20 n
  pub stored : new ≡ take i old ++ tail

pub filling_start : (old : List ℕ) (n b : ℕ) → length old ≡ length (spell b 20 n) → Filling old n b old (length old) n
filling_start old n b e =
    record {
      within = le_refl (length old);
      long = refl;
      tail = [];
      whole = append-nil (fixed b (length old) n) ∙ ap (λ (x : ℕ). fixed b x n) e ∙ sym (spell_fixed b 20 n);
      stored = sym (append-nil (take (length old) old) ∙ take_all (length old) old (le_refl (length old)));
    }

pub filling_step : (old : List ℕ) (n b : ℕ) (new : List ℕ) (i rest g : ℕ) → 0 < i → g ≡ glyph (rest % b) →
    Filling old n b new i rest → Filling old n b (set new (i - 1) g) (i - 1) (rest / b)
filling_step old n b new i rest g p e w =
    let s : i ≡ suc (i - 1) = omega arith in
    record {
      within = omega (arith, w.within);
      long = length-set new (i - 1) g ∙ w.long;
      tail = g ∷ w.tail;
      whole =
          rw e (sym (append_assoc (fixed b (i - 1) (rest / b)) (glyph (rest % b) ∷ []) w.tail)
          ∙ ap (λ (x : List ℕ). x ++ w.tail) (sym (fixed_step b i rest p)) ∙ w.whole);
      stored =
          ap (λ (x : List ℕ). set x (i - 1) g) (w.stored ∙ ap (λ (x : ℕ). take x old ++ w.tail) s)
          ∙ set_last old w.tail (i - 1) g (omega (arith, w.within));
    }

pub filling_end : (old : List ℕ) (n b : ℕ) (new : List ℕ) (rest : ℕ) → Filling old n b new 0 rest → new ≡ spell b 20 n
filling_end old n b new rest w = w.stored ∙ w.whole

-- a text put behind another that was put first
pub put_behind : (p t old mid part new : List ℕ) (at start e : ℕ) → Puts p at old mid (Some start) → part ≡ t → length t ≡ e - start → start ≤ e → e ≤ length old →
    new ≡ put_mid start (e - start) mid part → Puts (p ++ t) at old new (Some e)
put_behind p t old mid part new at start e w q l h k n =
    let m : length mid ≡ length old = puts_length p old mid at start w in
    puts_then p t old mid new at start e w (
      omega (arith, m),
      omega arith,
      n ∙ ap (λ (x : List ℕ). take start mid ++ (x ++ drop (e - start) (drop start mid))) q
          ∙ ap (λ (x : List ℕ). take start mid ++ (t ++ x)) (drop-drop (e - start) start mid)
          ∙ ap (λ (x : ℕ). take start mid ++ (t ++ drop x mid)) (let s : start + (e - start) ≡ e = omega arith in s),
    )

-- two texts that do not fit, one behind the other
pub no_place : (p t old : List ℕ) (at k : ℕ) (r : Option ℕ) → r ≡ None → k ≡ length t → length old < at + (length p + k) → Puts (p ++ t) at old old r
no_place p t old at k r e q h =
    let n : length old < at + length (p ++ t) = omega (arith, length-append p t) in
    subst (Puts (p ++ t) at old old) (sym e) (n, refl)
