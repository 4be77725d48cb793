-- `fields::print::put_window` meets its contract: three texts, one behind the other, where there is room for all.
use mathlib.Core.Path.{refl}
use Prim.Native.Nat.{◌+◌, ◌≤◌}
use native.Mathlib.Omega.{arith}
use lib.ListN.{length}
use Rattle.numerals.specs.Spelled.{hexadecimal}
use Rattle.numerals.proofs.Spelling.{hexadecimal_most}
use Rattle.fields.proofs.Windows.{window_length, window_puts}
use Rattle.fields.proofs.print.put_window.Goals as goal

pub overflow_add-k : goal.overflow_add-k
overflow_add-k c = let a = c.args in record { fits = omega (arith, hexadecimal_most a.low, hexadecimal_most a.high, c.hexadecimal_len.ensures, c.hexadecimal_len-2.ensures) }

pub overflow_add-k-2 : goal.overflow_add-k-2
overflow_add-k-2 c = let a = c.args in record { fits = omega (arith, hexadecimal_most a.low, hexadecimal_most a.high, c.hexadecimal_len.ensures, c.hexadecimal_len-2.ensures) }

pub returns-then-out-saturating_add : goal.returns-then-out-saturating_add
returns-then-out-saturating_add c = let a = c.args in (omega (arith, c.saturating_add.ensures, c.hexadecimal_len.ensures, c.hexadecimal_len-2.ensures, window_length a.low a.high), refl)

pub returns : goal.returns
returns c =
    let a = c.args in
    let h : a.at + (length (hexadecimal a.low) + length (hexadecimal a.high) + 2) ≤ length a.out.now = omega (arith, c.saturating_add.ensures, c.hexadecimal_len.ensures, c.hexadecimal_len-2.ensures) in
    window_puts a.low a.high a.at a.out.now h _ _ c.hexadecimal-2.new.out _ _ c.hexadecimal-2.result c.in_ok-dots.ensures c.in_ok-second.ensures c.hexadecimal-2.ensures
