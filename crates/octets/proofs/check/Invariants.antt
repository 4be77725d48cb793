-- `octets::check` meets its contract. The invariant: c is the check of the words passed.
use Rattle.std.proofs.Common.{◌≡◌, ◌*◌, ◌≤◌, length}
use Rattle.octets.specs.Octets.{check, word}
use Rattle.octets.proofs.check.Given as goal

abbrev pub invariant-loop-i : goal.invariant-loop-i
invariant-loop-i l = (8 * l.n ≤ length l.bs) × (l.c ≡ check (word l.bs) l.i)
