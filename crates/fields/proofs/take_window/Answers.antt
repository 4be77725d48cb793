-- `fields::take_window` meets its contract: a word's places are places of the line.
use native.Mathlib.Omega.{arith}
use Prim.Native.Nat.{◌≤◌}
use lib.ListN.{length}
use Rattle.text.proofs.Scans.{word_within, scan_within}
use Rattle.text.specs.declared.Class.TheVariants.{Blank}
use Rattle.fields.proofs.take_window.Goals as goal

pub bounds-s-m : goal.bounds-s-m
bounds-s-m c = omega (arith, word_within c.args.s.now c.args.at, c.start-a.ensures, c.end-e.ensures)

pub number_in-requires-clause-a_le_e : goal.number_in-requires-clause-a_le_e
number_in-requires-clause-a_le_e c =
    let h : c.start-a.result ≤ length c.args.s.now = omega (arith, scan_within Blank c.args.s.now c.args.at, c.start-a.ensures) in
    c.scan-m.ensures.behind h

pub number_in-requires-2-clause-e_in_bounds : goal.number_in-requires-2-clause-e_in_bounds
number_in-requires-2-clause-e_in_bounds c = omega (arith, word_within c.args.s.now c.args.at, c.start-a.ensures, c.end-e.ensures)
