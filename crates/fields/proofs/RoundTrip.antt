-- A window that is printed reads back as the two numbers that were printed. Assumes nothing.
--     window_reads     print, then read, is the identity on windows
use mathlib.Core.Path.{◌≡◌, refl, ap, ◌∙◌}
use mathlib.Core.Bool.{true}
use mathlib.Core.List.{List, [], ◌∷◌, ◌++◌}
use Prim.Native.Nat.{ℕ, suc, ◌+◌, ◌-◌, ◌^◌, ◌≤◌, ◌<◌}
use native.Mathlib.Omega.{arith}
use lib.ListN.{length, take, get_or, length-append}
use lib.Seq.{take_at, take_all, drop-append-add, get_or-append-add}
use borrow.Author.Tests.{le-ltb, ne_eqb}
use Rattle.text.specs.Words.{is_in, is_blank, is_solid, is_undotted, run, scan_of, start_of, between}
use Rattle.text.specs.declared.Class.{Class}
use Rattle.text.specs.declared.Class.TheVariants.{Solid, Undotted}
use Rattle.numerals.specs.Numeral.{read}
use Rattle.numerals.specs.Spelled.{spell, hexadecimal}
use Rattle.std.proofs.Common.{Ok}
use Rattle.numerals.proofs.Plain.{Plain, AllPlain, spell_plain}
use Rattle.numerals.proofs.RoundTrip.{hexadecimal_reads}
use Rattle.fields.specs.Answers.{window_text}
use Rattle.fields.specs.Fields.{value_at, number_in, window_at}
use Rattle.fields.proofs.Windows.{window_length}

-- every byte is of a class
abbrev AllIn : Class → List ℕ → Type 0
AllIn k [] = Unit
AllIn k (c ∷ s) = (is_in k c ≡ true) × AllIn k s

-- a run goes through such bytes, and on behind them
run_through : (k : Class) (s t : List ℕ) → AllIn k s → run k (s ++ t) ≡ length s + run k t
run_through k [] t w = omega arith
run_through k (c ∷ s) t w = rw w.0 (omega (arith, run_through k s t w.1))

-- digits are bytes of a word without dots
plain_solid : (c : ℕ) → Plain c → is_solid c ≡ true
unfolding is_solid is_blank
plain_solid c p =
    rw (ne_eqb c 32 (λ e. omega (arith, p.0))) (rw (ne_eqb c 9 (λ e. omega (arith, p.0)))
    (rw (ne_eqb c 13 (λ e. omega (arith, p.0))) (rw (ne_eqb c 35 (λ e. omega (arith, p.0))))))

plain_undotted : (c : ℕ) → Plain c → is_undotted c ≡ true
unfolding is_undotted
plain_undotted c p = rw (plain_solid c p) (rw (ne_eqb c 46 (λ e. omega (arith, p.0))))

all_solid : (s : List ℕ) → AllPlain s → AllIn Solid s
all_solid [] w = tt
all_solid (c ∷ s) w = (plain_solid c w.0, all_solid s w.1)

all_undotted : (s : List ℕ) → AllPlain s → AllIn Undotted s
all_undotted [] w = tt
all_undotted (c ∷ s) w = (plain_undotted c w.0, all_undotted s w.1)

-- so are those of a hexadecimal number
hex_solid : (n : ℕ) → AllIn Solid (hexadecimal n)
unfolding hexadecimal is_solid is_blank
hex_solid n = (refl, (refl, all_solid (spell 16 20 n) (spell_plain 16 20 n (omega arith) (omega arith))))

hex_undotted : (n : ℕ) → AllIn Undotted (hexadecimal n)
unfolding hexadecimal is_undotted is_solid is_blank
hex_undotted n = (refl, (refl, all_undotted (spell 16 20 n) (spell_plain 16 20 n (omega arith) (omega arith))))

module _ (low high : ℕ) where
  -- the window's word starts at once,
  starts : start_of (window_text low high) 0 ≡ 0
  unfolding scan_of window_text hexadecimal is_blank
  starts = omega arith

  -- has its dots behind the first number,
  stops : scan_of Undotted (window_text low high) 0 ≡ length (hexadecimal low)
  unfolding scan_of window_text is_undotted is_solid is_blank
  stops = omega (arith, run_through Undotted (hexadecimal low) (46 ∷ (46 ∷ hexadecimal high)) (hex_undotted low))

  -- and is the whole text
  ends : scan_of Solid (window_text low high) 0 ≡ length (window_text low high)
  unfolding scan_of window_text is_solid is_blank
  ends =
      omega (
        arith,
        run_through Solid (hexadecimal low) (46 ∷ (46 ∷ hexadecimal high)) (hex_solid low),
        run_end (hexadecimal high) (hex_solid high),
        length-append (hexadecimal low) (46 ∷ (46 ∷ hexadecimal high)),
      )
    where
      run_end : (s : List ℕ) → AllIn Solid s → run Solid s ≡ length s
      run_end [] w = refl
      run_end (c ∷ s) w = rw w.0 (ap suc (run_end s w.1))

  second_dot : get_or (window_text low high) (length (hexadecimal low) + 1) 0 ≡ 46
  unfolding window_text
  second_dot = get_or-append-add (hexadecimal low) (46 ∷ (46 ∷ hexadecimal high)) 1 0

  -- the two parts
  first_part : between (window_text low high) 0 (length (hexadecimal low)) ≡ hexadecimal low
  unfolding window_text
  first_part = take_at (hexadecimal low) (46 ∷ (46 ∷ hexadecimal high)) (length (hexadecimal low) - 0) (omega arith)

  second_part : between (window_text low high) (length (hexadecimal low) + 2) (length (window_text low high)) ≡ hexadecimal high
  unfolding window_text
  second_part =
      ap (take (length (window_text low high) - (length (hexadecimal low) + 2))) (drop-append-add (hexadecimal low) (46 ∷ (46 ∷ hexadecimal high)) 2)
      ∙ take_all (length (window_text low high) - (length (hexadecimal low) + 2)) (hexadecimal high) (omega (arith, window_length low high))

  number : (x y : ℕ) (t : List ℕ) (n : ℕ) → between (window_text low high) x y ≡ t → read t ≡ Ok n → number_in (window_text low high) x y ≡ Ok (n, y)
  unfolding number_in
  number x y t n e r = ap (λ (u : List ℕ). value_at x y (read u)) e ∙ ap (value_at x y) r

  pub window_reads : low < 2 ^ 64 → high < 2 ^ 64 → window_at (window_text low high) 0 ≡ Ok (low, high, length (window_text low high))
  unfolding window_at
  window_reads a b =
      let l : length (hexadecimal low) + 2 ≤ length (window_text low high) = omega (arith, window_length low high) in
      let p : number_in (window_text low high) 0 (length (hexadecimal low)) ≡ Ok (low, length (hexadecimal low)) = number 0 (length (hexadecimal low)) (hexadecimal low) low first_part (hexadecimal_reads low a) in
      let q : number_in (window_text low high) (length (hexadecimal low) + 2) (length (window_text low high)) ≡ Ok (high, length (window_text low high)) = number (length (hexadecimal low) + 2) (length (window_text low high)) (hexadecimal high) high second_part (hexadecimal_reads high b) in
      rw starts (rw stops (rw ends (rw (le-ltb _ _ l) (rw second_dot (rw p (rw q))))))
