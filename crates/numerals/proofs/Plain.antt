-- The bytes of a spelled number: digits in lower case, and none in front that is 0. Assumes nothing.
use mathlib.Core.Path.{◌≡◌, refl, sym, ◌∙◌}
use mathlib.Core.Bool.{Bool, true, false, cond}
use mathlib.Core.List.{List, [], ◌∷◌, ◌++◌}
use Prim.Native.Nat.{ℕ, zero, suc, ◌+◌, ◌/◌, ◌%◌, ◌^◌, ◌≤◌, ◌<◌}
use native.Mathlib.Nat.{mod-lt, le-div_iff_mul-le}
use native.Mathlib.Omega.{arith}
use lib.Dec.{ltb}
use lib.ListN.{length, get_or}
use borrow.Author.Tests.{ltb-true, ltb-false, lt-ltb, le-ltb}
use Rattle.numerals.specs.Numeral.{digit}
use Rattle.numerals.specs.Spelled.{glyph, spell}
use Rattle.numerals.proofs.Spelling.{first, quotient}

-- a byte from `0` to `f` that is no `_`
abbrev pub Plain : ℕ → Type 0
Plain c = (48 ≤ c) × (c < 103) × (c ≡ 95 → ⊥)

-- each byte of a text is
abbrev pub AllPlain : List ℕ → Type 0
AllPlain [] = Unit
AllPlain (c ∷ s) = Plain c × AllPlain s

-- the byte of a digit is plain, and reads as that digit
pub glyph_plain : (d : ℕ) → d < 16 → Plain (glyph d)
glyph_plain d h = go (ltb d 10) refl
  where
    go : (t : Bool) → ltb d 10 ≡ t → Plain (cond t (48 + d) (87 + d))
    go true e = let l = ltb-true d 10 e in (omega arith, omega arith, λ q. omega arith)
    go false e = let l = ltb-false d 10 e in (omega arith, omega arith, λ q. omega arith)

pub digit_glyph : (d : ℕ) → d < 16 → digit (glyph d) ≡ d
unfolding digit
digit_glyph d h = go (ltb d 10) refl
  where
    go : (t : Bool) → ltb d 10 ≡ t → digit (cond t (48 + d) (87 + d)) ≡ d
    go true e =
        let l = ltb-true d 10 e in
        rw (le-ltb (48 + d) 48 (omega arith)) (rw (lt-ltb (48 + d) 58 (omega arith)) (omega arith))
    go false e =
        let l = ltb-false d 10 e in
        rw (le-ltb (87 + d) 48 (omega arith)) (rw (le-ltb (87 + d) 58 (omega arith)) (rw (le-ltb (87 + d) 65 (omega arith))
        (rw (le-ltb (87 + d) 71 (omega arith)) (rw (le-ltb (87 + d) 97 (omega arith)) (rw (lt-ltb (87 + d) 103 (omega arith)) (omega arith))))))

plain_snoc : (s : List ℕ) (c : ℕ) → AllPlain s → Plain c → AllPlain (s ++ (c ∷ []))
plain_snoc [] c w p = (p, tt)
plain_snoc (x ∷ s) c w p = (w.0, plain_snoc s c w.1 p)

-- so is each byte of a spelled number
pub spell_plain : (b k n : ℕ) → 0 < b → b ≤ 16 → AllPlain (spell b k n)
spell_plain b zero n p q = tt
spell_plain b (suc k) n p q = go (spell_plain b k (n / b) p q) (ltb n b) refl
  where
    go : AllPlain (spell b k (n / b)) → (t : Bool) → ltb n b ≡ t → AllPlain (cond t (glyph n ∷ []) (spell b k (n / b) ++ (glyph (n % b) ∷ [])))
    go ih true e = (glyph_plain n (omega (arith, ltb-true n b e)), tt)
    go ih false e = plain_snoc (spell b k (n / b)) (glyph (n % b)) ih (glyph_plain (n % b) (omega (arith, mod-lt n {m = b} p)))

-- there is a first byte
pub spell_some : (b k n : ℕ) → 0 < length (spell b (suc k) n)
spell_some b k n = go (ltb n b)
  where
    snoc : (s : List ℕ) (c : ℕ) → 0 < length (s ++ (c ∷ []))
    snoc [] c = omega arith
    snoc (x ∷ s) c = omega arith

    go : (t : Bool) → 0 < length (cond t (glyph n ∷ []) (spell b k (n / b) ++ (glyph (n % b) ∷ [])))
    go true = omega arith
    go false = snoc (spell b k (n / b)) (glyph (n % b))

-- the byte 0 stands for no digit but 0
glyph_zero : (d : ℕ) → glyph d ≡ 48 → d ≡ 0
glyph_zero d = go (ltb d 10)
  where
    go : (t : Bool) → cond t (48 + d) (87 + d) ≡ 48 → d ≡ 0
    go true e = omega arith
    go false e = omega arith

first_snoc : (s : List ℕ) (c : ℕ) → 0 < length s → get_or (s ++ (c ∷ [])) 0 0 ≡ get_or s 0 0
first_snoc [] c h = absurd (omega arith)
first_snoc (x ∷ s) c h = refl

-- no number but 0 is spelled with a 0 in front, where the digits are enough
pub spell_lead : (b k n : ℕ) → 1 < b → n < b ^ suc k → get_or (spell b (suc k) n) 0 0 ≡ 48 → n ≡ 0
spell_lead b zero n p h = go (ltb n b) refl
  where
    go : (t : Bool) → ltb n b ≡ t → get_or (cond t (glyph n ∷ []) (glyph (n % b) ∷ [])) 0 0 ≡ 48 → n ≡ 0
    go true e z = glyph_zero n z
    go false e z = absurd (omega (arith, ltb-false n b e, first b, h))
spell_lead b (suc k) n p h = go (spell_lead b k (n / b) p (quotient b (suc k) n (omega arith) h)) (ltb n b) refl
  where
    go : (get_or (spell b (suc k) (n / b)) 0 0 ≡ 48 → n / b ≡ 0) → (t : Bool) → ltb n b ≡ t → get_or (cond t (glyph n ∷ []) (spell b (suc k) (n / b) ++ (glyph (n % b) ∷ []))) 0 0 ≡ 48 → n ≡ 0
    go ih true e z = glyph_zero n z
    go ih false e z =
        let q = ih (sym (first_snoc (spell b (suc k) (n / b)) (glyph (n % b)) (spell_some b k (n / b))) ∙ z) in
        absurd (omega (arith, q, (le-div_iff_mul-le {k = b} {x = 1} {y = n} (omega arith)).1 (omega (arith, ltb-false n b e))))
