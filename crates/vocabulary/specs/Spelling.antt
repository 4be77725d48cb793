-- The words of the language, as bytes.
use Rattle.std.specs.Prelude.{List, [], ◌∷◌, ℕ}
use Rattle.ranges.specs.declared.Error.{Error}
use Rattle.ranges.specs.declared.Error.TheVariants.{Overflow, OutOfRange, AlreadyReleased, NeverAllocated, ResourceNotAvailable, InvalidRange, InvalidAlignment, UnalignedAddress, Underflow, InvalidSize, NoRoom, InvalidPolicy, NoState}
use Rattle.vocabulary.specs.declared.Word.{Word}
use Rattle.vocabulary.specs.declared.Word.TheVariants.{Pool, Ids, Allocate, Free, Show, Limit, Align, First, Last, Exact, Arrow, Freed, Refused, InUse, Yes, No, Together}

-- `pool`, `ids`, `allocate`, `free`, `show`, `limit`, `align`, `first`, `last`, `exact`, `=>`, `freed`, `refused`, `in-use`, `yes`, `no`, `together`
abbrev pub word_text : Word → List ℕ
word_text Pool = 112 ∷ 111 ∷ 111 ∷ 108 ∷ []
word_text Ids = 105 ∷ 100 ∷ 115 ∷ []
word_text Allocate = 97 ∷ 108 ∷ 108 ∷ 111 ∷ 99 ∷ 97 ∷ 116 ∷ 101 ∷ []
word_text Free = 102 ∷ 114 ∷ 101 ∷ 101 ∷ []
word_text Show = 115 ∷ 104 ∷ 111 ∷ 119 ∷ []
word_text Limit = 108 ∷ 105 ∷ 109 ∷ 105 ∷ 116 ∷ []
word_text Align = 97 ∷ 108 ∷ 105 ∷ 103 ∷ 110 ∷ []
word_text First = 102 ∷ 105 ∷ 114 ∷ 115 ∷ 116 ∷ []
word_text Last = 108 ∷ 97 ∷ 115 ∷ 116 ∷ []
word_text Exact = 101 ∷ 120 ∷ 97 ∷ 99 ∷ 116 ∷ []
word_text Arrow = 61 ∷ 62 ∷ []
word_text Freed = 102 ∷ 114 ∷ 101 ∷ 101 ∷ 100 ∷ []
word_text Refused = 114 ∷ 101 ∷ 102 ∷ 117 ∷ 115 ∷ 101 ∷ 100 ∷ []
word_text InUse = 105 ∷ 110 ∷ 45 ∷ 117 ∷ 115 ∷ 101 ∷ []
word_text Yes = 121 ∷ 101 ∷ 115 ∷ []
word_text No = 110 ∷ 111 ∷ []
word_text Together = 116 ∷ 111 ∷ 103 ∷ 101 ∷ 116 ∷ 104 ∷ 101 ∷ 114 ∷ []

-- `overflow`, `out-of-range`, `already-released`, `never-allocated`, `not-available`, `invalid-range`, `invalid-alignment`, `unaligned`, `underflow`, `invalid-size`, `no-room`, `invalid-policy`, `no-state`
abbrev pub reason_text : Error → List ℕ
reason_text Overflow = 111 ∷ 118 ∷ 101 ∷ 114 ∷ 102 ∷ 108 ∷ 111 ∷ 119 ∷ []
reason_text OutOfRange = 111 ∷ 117 ∷ 116 ∷ 45 ∷ 111 ∷ 102 ∷ 45 ∷ 114 ∷ 97 ∷ 110 ∷ 103 ∷ 101 ∷ []
reason_text AlreadyReleased = 97 ∷ 108 ∷ 114 ∷ 101 ∷ 97 ∷ 100 ∷ 121 ∷ 45 ∷ 114 ∷ 101 ∷ 108 ∷ 101 ∷ 97 ∷ 115 ∷ 101 ∷ 100 ∷ []
reason_text NeverAllocated = 110 ∷ 101 ∷ 118 ∷ 101 ∷ 114 ∷ 45 ∷ 97 ∷ 108 ∷ 108 ∷ 111 ∷ 99 ∷ 97 ∷ 116 ∷ 101 ∷ 100 ∷ []
reason_text ResourceNotAvailable = 110 ∷ 111 ∷ 116 ∷ 45 ∷ 97 ∷ 118 ∷ 97 ∷ 105 ∷ 108 ∷ 97 ∷ 98 ∷ 108 ∷ 101 ∷ []
reason_text InvalidRange = 105 ∷ 110 ∷ 118 ∷ 97 ∷ 108 ∷ 105 ∷ 100 ∷ 45 ∷ 114 ∷ 97 ∷ 110 ∷ 103 ∷ 101 ∷ []
reason_text InvalidAlignment = 105 ∷ 110 ∷ 118 ∷ 97 ∷ 108 ∷ 105 ∷ 100 ∷ 45 ∷ 97 ∷ 108 ∷ 105 ∷ 103 ∷ 110 ∷ 109 ∷ 101 ∷ 110 ∷ 116 ∷ []
reason_text UnalignedAddress = 117 ∷ 110 ∷ 97 ∷ 108 ∷ 105 ∷ 103 ∷ 110 ∷ 101 ∷ 100 ∷ []
reason_text Underflow = 117 ∷ 110 ∷ 100 ∷ 101 ∷ 114 ∷ 102 ∷ 108 ∷ 111 ∷ 119 ∷ []
reason_text InvalidSize = 105 ∷ 110 ∷ 118 ∷ 97 ∷ 108 ∷ 105 ∷ 100 ∷ 45 ∷ 115 ∷ 105 ∷ 122 ∷ 101 ∷ []
reason_text NoRoom = 110 ∷ 111 ∷ 45 ∷ 114 ∷ 111 ∷ 111 ∷ 109 ∷ []
reason_text InvalidPolicy = 105 ∷ 110 ∷ 118 ∷ 97 ∷ 108 ∷ 105 ∷ 100 ∷ 45 ∷ 112 ∷ 111 ∷ 108 ∷ 105 ∷ 99 ∷ 121 ∷ []
reason_text NoState = 110 ∷ 111 ∷ 45 ∷ 115 ∷ 116 ∷ 97 ∷ 116 ∷ 101 ∷ []
