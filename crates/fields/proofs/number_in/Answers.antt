-- `fields::number_in` meets its contract: where a digit is wanted lies in the numeral or just behind it.
use mathlib.Core.Path.{sym, ap, ◌∙◌}
use native.Mathlib.Omega.{arith}
use Prim.Native.Nat.{◌-◌}
use lib.ListN.{drop, length-take, length-drop}
use Rattle.std.proofs.Common.{Err}
use Rattle.text.specs.Words.{between}
use Rattle.numerals.proofs.Places.{read_place}
use Rattle.fields.proofs.number_in.Goals as goal

pub overflow_add-a : goal.overflow_add-a
overflow_add-a c =
    let a = c.args in
    let p = read_place (between a.s.now a.a a.e) _ (sym c.read.ensures ∙ c.in-Err-NoDigit.is ∙ ap Err c.in-Err-NoDigit.field-0-is) in
    record { fits = omega (arith, p, length-take (a.e - a.a) (drop a.a a.s.now), length-drop a.a a.s.now, c.requires.a_le_e, c.requires.e_in_bounds, c.well_formed) }
