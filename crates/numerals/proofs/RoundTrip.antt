-- What is printed reads back as the number that was printed. Assumes nothing.
--     decimal_reads, hexadecimal_reads     print, then read, is the identity on 64-bit numbers
use mathlib.Core.Path.{◌≡◌, refl, sym, ap, ◌∙◌, subst}
use mathlib.Core.Bool.{Bool, true, false, cond}
use mathlib.Core.List.{List, [], ◌∷◌, ◌++◌}
use Prim.Native.Nat.{ℕ, zero, suc, ◌+◌, ◌*◌, ◌/◌, ◌%◌, ◌^◌, ◌≤◌, ◌<◌}
use native.Mathlib.Nat.{mod-lt, div-lt_iff_lt-mul, div-add-mod', pow-zero, pow-suc, mul_assoc, add-mul}
use native.Mathlib.Omega.{arith}
use lib.Dec.{ltb, eqb}
use lib.ListN.{length, length-append}
use borrow.Author.Tests.{ltb-true, lt-ltb, ne_eqb}
use Rattle.numerals.specs.Numeral.{means, wrong, digit, after, digits, is_hex, fitted, read}
use Rattle.numerals.specs.Spelled.{glyph, spell, decimal, hexadecimal}
use Rattle.std.proofs.Common.{Ok}
use Rattle.numerals.proofs.Spelling.{fixed, spell_fixed, twenty, quotient, first}
use Rattle.numerals.proofs.Plain.{AllPlain, glyph_plain, digit_glyph, spell_plain, spell_some}

-- one more digit behind digits that mean v
after_snoc : (b m i v c : ℕ) (s : List ℕ) → after b m i s ≡ means v → (c ≡ 95 → ⊥) → digit c < b → after b m i (s ++ (c ∷ [])) ≡ means (v * b + digit c)
after_snoc b m i v c [] e h l = let q : m ≡ v = cc in rw (ne_eqb c 95 h) (rw (lt-ltb (digit c) b l) (ap (λ (x : ℕ). means (x * b + digit c)) q))
after_snoc b m i v c (x ∷ s) e h l = go (λ m' i' e'. after_snoc b m' i' v c s e' h l) (eqb x 95) (ltb (digit x) b) e
  where
    go : ((m' i' : ℕ) → after b m' i' s ≡ means v → after b m' i' (s ++ (c ∷ [])) ≡ means (v * b + digit c)) →
        (t u : Bool) → cond t (after b m (suc i) s) (cond u (after b (m * b + digit x) (suc i) s) (wrong i)) ≡ means v →
        cond t (after b m (suc i) (s ++ (c ∷ []))) (cond u (after b (m * b + digit x) (suc i) (s ++ (c ∷ []))) (wrong i)) ≡ means (v * b + digit c)
    go ih true u e = ih m (suc i) e
    go ih false true e = ih (m * b + digit x) (suc i) e
    go ih false false e = absurd (let z : ◌≡◌ {A = ℕ} 0 1 = cc in omega arith)

-- k digits of n, where they are enough, behind digits that mean m
after_fixed : (b k n m i : ℕ) → 0 < b → b ≤ 16 → n < b ^ k → after b m i (fixed b k n) ≡ means (m * b ^ k + n)
after_fixed b zero n m i p q h =
    let z : b ^ zero ≡ 1 = pow-zero b in
    ap means (rw z (omega (arith, h, z)))
after_fixed b (suc k) n m i p q h =
    let l : n % b < b = mod-lt n p in
    let d : digit (glyph (n % b)) ≡ n % b = digit_glyph (n % b) (omega arith) in
    let e = after_snoc b m i (m * b ^ k + n / b) (glyph (n % b)) (fixed b k (n / b)) (after_fixed b k (n / b) m i p q (quotient b k n p h)) (glyph_plain (n % b) (omega arith)).2 (omega arith) in
    e ∙ ap means (omega (arith, d, add-mul (m * b ^ k) (n / b) b, mul_assoc m (b ^ k) b, ap (λ (x : ℕ). m * x) (pow-suc b k), div-add-mod' n b))

-- the digits of n hold it
holds : (b k n : ℕ) → 0 < b → n < b ^ k → n < b ^ length (spell b k n)
holds b zero n p h = h
holds b (suc k) n p h = go (holds b k (n / b) p (quotient b k n p h)) (ltb n b) refl
  where
    go : n / b < b ^ length (spell b k (n / b)) → (t : Bool) → ltb n b ≡ t → n < b ^ length (cond t (glyph n ∷ []) (spell b k (n / b) ++ (glyph (n % b) ∷ [])))
    go ih true e = omega (arith, ltb-true n b e, first b)
    go ih false e =
        let l : length (spell b k (n / b) ++ (glyph (n % b) ∷ [])) ≡ suc (length (spell b k (n / b))) = omega (arith, length-append (spell b k (n / b)) (glyph (n % b) ∷ [])) in
        rw l (subst (λ (x : ℕ). n < x) (sym (pow-suc b (length (spell b k (n / b))))) ((div-lt_iff_lt-mul {k = b} {x = n} {y = b ^ length (spell b k (n / b))} p).0 ih))

-- plain bytes: the first one is a digit as the others are
digits_after : (b i v : ℕ) (s : List ℕ) → AllPlain s → 0 < length s → after b 0 i s ≡ means v → digits b i s ≡ means v
digits_after b i v [] w h e = absurd (omega arith)
digits_after b i v (c ∷ s) w h e = go (ltb (digit c) b) (rw (ne_eqb c 95 w.0.2) at e)
  where
    go : (t : Bool) → cond t (after b (0 * b + digit c) (suc i) s) (wrong i) ≡ means v → cond t (after b (digit c) (suc i) s) (wrong i) ≡ means v
    go true e = let z : 0 * b + digit c ≡ digit c = omega arith in ap (λ (x : ℕ). after b x (suc i) s) (sym z) ∙ e
    go false e = e

-- a spelled number means that number
pub spell_means : (b i n : ℕ) → 10 ≤ b → b ≤ 16 → n < 2 ^ 64 → digits b i (spell b 20 n) ≡ means n
spell_means b i n p q h =
    digits_after b i n (spell b 20 n) (spell_plain b 20 n (omega arith) q) (spell_some b 19 n)
    (ap (after b 0 i) (spell_fixed b 20 n)
    ∙ after_fixed b (length (spell b 20 n)) n 0 i (omega arith) q (holds b 20 n (omega arith) (twenty b n p h))
    ∙ ap means (omega arith))

-- plain bytes do not begin with `0x`
plain_not_hex : (s : List ℕ) → AllPlain s → is_hex s ≡ false
plain_not_hex [] w = refl
plain_not_hex (c ∷ []) w = refl
plain_not_hex (c ∷ (d ∷ s)) w = go (eqb c 48)
  where
    go : (t : Bool) → cond t (eqb d 120) false ≡ false
    go true = ne_eqb d 120 (λ e. omega (arith, w.1.0.1))
    go false = refl

fits : (n : ℕ) → n < 2 ^ 64 → fitted (means n) ≡ Ok n
fits n h = rw (lt-ltb n (2 ^ 64) h)

pub decimal_reads : (n : ℕ) → n < 2 ^ 64 → read (decimal n) ≡ Ok n
unfolding decimal
decimal_reads n h =
    let e : is_hex (spell 10 20 n) ≡ false = plain_not_hex (spell 10 20 n) (spell_plain 10 20 n (omega arith) (omega arith)) in
    ap (λ (t : Bool). fitted (cond t (digits 16 2 (lib.ListN.drop 2 (spell 10 20 n))) (digits 10 0 (spell 10 20 n)))) e
    ∙ ap fitted (spell_means 10 0 n (omega arith) (omega arith) h) ∙ fits n h

pub hexadecimal_reads : (n : ℕ) → n < 2 ^ 64 → read (hexadecimal n) ≡ Ok n
unfolding hexadecimal
hexadecimal_reads n h = ap fitted (spell_means 16 2 n (omega arith) (omega arith) h) ∙ fits n h
