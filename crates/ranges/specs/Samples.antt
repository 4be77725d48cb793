-- Worked examples of the definitions, computed.
use Rattle.std.specs.Prelude.{refl}
use Rattle.std.proofs.Common.{arith}
use Rattle.ranges.specs.declared.RangeInclusive.{RangeInclusive}
use Rattle.ranges.specs.Range.{IsRange, Overlap, Counts}

-- 0x10..0x1f
abbrev low : RangeInclusive
low = record { start = 0x10; end = 0x1f }

-- 0x1f..0x2f
abbrev high : RangeInclusive
high = record { start = 0x1f; end = 0x2f }

-- the two have 0x1f in common
meet : Overlap low high
meet = (0x1f, (omega arith, omega arith), (omega arith, omega arith))

-- (0, M) is no range, and (0, M - 1) is one
whole_refused : IsRange 0 0xffff_ffff_ffff_ffff → ⊥
whole_refused w = omega (arith, w.1)

nearly_whole : IsRange 0 0xffff_ffff_ffff_fffe
nearly_whole = (omega arith, omega arith)

-- 0x10..0x1f has 16 addresses
sixteen : Counts low 16
sixteen = record { of_range = λ w. refl; of_none = λ n. absurd (n (omega arith, omega arith)) }
