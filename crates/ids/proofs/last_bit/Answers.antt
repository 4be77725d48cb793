-- `ids::last_bit` meets its contract: each test is a part of `Headed`, and the number of words is one number (`words_unique`).
use native.Mathlib.Omega.{arith}
use Rattle.bits.proofs.Rooms.{words_unique}
use Rattle.ids.proofs.last_bit.Goals as goal

pub returns-then-words-room : goal.returns-then-words-room
returns-then-words-room c = λ h.
    let e = words_unique h.taken c.room.ensures.0 in
    omega (arith, h.enough, c.if-words-room.true)
