-- Laws of scanning: a run of bytes of a class, byte by byte, and that words lie within the text. Assumes nothing.
use mathlib.Core.Path.{◌≡◌, ap, ◌∙◌}
use mathlib.Core.Bool.{Bool, true, false, cond}
use mathlib.Core.List.{List, [], ◌∷◌}
use Prim.Native.Nat.{ℕ, suc, ◌+◌, ◌≤◌, ◌<◌}
use native.Mathlib.Nat.{min-eq_left, le_refl}
use native.Mathlib.Omega.{arith}
use native.Mathlib.Numerals.{add-one}
use lib.ListN.{length, drop, get_or, drop_of_length-le, length-drop}
use lib.Seq.{drop-cons}
use Rattle.text.specs.Words.{is_in, run, scan_of, Scanned, start_of, end_of}
use Rattle.text.specs.declared.Class.{Class}
use Rattle.text.specs.declared.Class.TheVariants.{Blank, Solid}

-- the run from `at` on goes on at i
pub record Scanning (k : Class) (s : List ℕ) (at i : ℕ) : Type 0 where
  pub behind : at ≤ i
  pub goes : at + run k (drop at s) ≡ i + run k (drop i s)

-- one more byte of the class
pub scanning_step : (k : Class) (s : List ℕ) (at i : ℕ) → i < length s → is_in k (get_or s i 0) ≡ true → Scanning k s at i → Scanning k s at (i + 1)
scanning_step k s at i h e w =
    let r : run k (drop i s) ≡ suc (run k (drop (suc i) s)) =
    ap (run k) (drop-cons s i 0 h) ∙ ap (λ (t : Bool). cond t (suc (run k (drop (suc i) s))) 0) e in
    record {
      behind = omega (arith, w.behind);
      goes = rw (add-one i) (omega (arith, w.goes, r));
    }

-- a byte of another class, and the end of the text
pub scanning_stop : (k : Class) (s : List ℕ) (at i : ℕ) → i < length s → is_in k (get_or s i 0) ≡ false → Scanning k s at i → Scanned k s at i
unfolding scan_of
scanning_stop k s at i h e w =
    let z : run k (drop i s) ≡ 0 = ap (run k) (drop-cons s i 0 h) ∙ ap (λ (t : Bool). cond t (suc (run k (drop (suc i) s))) 0) e in
    record {
      is = omega (arith, w.goes, z, min-eq_left (let l : at ≤ length s = omega (arith, w.behind) in l));
      within = omega arith;
      behind = λ l. w.behind;
    }

pub scanning_end : (k : Class) (s : List ℕ) (at i : ℕ) → length s ≤ i → (at ≤ length s → i ≤ length s) → Scanning k s at i → Scanned k s at (length s)
unfolding scan_of
scanning_end k s at i h b w =
    record {
      is = grind (arith, w.goes, ap (run k) (drop_of_length-le s h), λ (l : length s ≤ at). ap (run k) (drop_of_length-le s l));
      within = le_refl (length s);
      behind = λ l. l;
    }

-- a run is no longer than the text
run_most : (k : Class) (s : List ℕ) → run k s ≤ length s
run_most k [] = omega arith
run_most k (c ∷ s) = go (run_most k s) (is_in k c)
  where
    go : run k s ≤ length s → (t : Bool) → cond t (suc (run k s)) 0 ≤ suc (length s)
    go ih true = omega arith
    go ih false = omega arith

-- what scanning answers is a place of the text
pub scan_within : (k : Class) (s : List ℕ) (at : ℕ) → scan_of k s at ≤ length s
unfolding scan_of
scan_within k s at = omega (arith, run_most k (drop at s), length-drop at s)

-- a word starts before it ends, and ends in the text
pub word_order : (s : List ℕ) (at : ℕ) → start_of s at ≤ end_of s at
unfolding scan_of
word_order s at = omega (arith, min-eq_left (scan_within Blank s at))

pub word_within : (s : List ℕ) (at : ℕ) → end_of s at ≤ length s
word_within s at = scan_within Solid s (start_of s at)
