-- Worked examples of lines that save and load, computed.
use Rattle.std.specs.Prelude.{◌≡◌, refl, [], ◌∷◌, Some, None, Ok, Err}
use Rattle.text.specs.Words.{scan_of, no_word, word_is, is_blank, is_solid, is_undotted, is_named, is_from}
use Rattle.fields.specs.Fields.{wrong, name_at}
use Rattle.fields.specs.declared.Flaw.{Flaw}
use Rattle.keeping.specs.Keeping.{kept_of, named_at, joined_at, file_at}
use Rattle.keeping.specs.declared.Way.{Way}
use Rattle.keeping.specs.declared.Unkept.{Unkept}

-- `save m to a.rk`
a_save : kept_of (115 ∷ 97 ∷ 118 ∷ 101 ∷ 32 ∷ 109 ∷ 32 ∷ 116 ∷ 111 ∷ 32 ∷ 97 ∷ 46 ∷ 114 ∷ 107 ∷ []) ≡ Some (Ok (record { way = Way.Save; name = record { start = 5; len = 1 }; file = record { start = 10; len = 4 } }))
unfolding kept_of named_at joined_at file_at name_at scan_of no_word word_is is_blank is_solid is_undotted is_named is_from
a_save = refl

-- `load irq from /tmp/x # all`
a_load : kept_of (108 ∷ 111 ∷ 97 ∷ 100 ∷ 32 ∷ 105 ∷ 114 ∷ 113 ∷ 32 ∷ 102 ∷ 114 ∷ 111 ∷ 109 ∷ 32 ∷ 47 ∷ 116 ∷ 109 ∷ 112 ∷ 47 ∷ 120 ∷ 32 ∷ 35 ∷ 32 ∷ 97 ∷ 108 ∷ 108 ∷ []) ≡ Some (Ok (record { way = Way.Load; name = record { start = 5; len = 3 }; file = record { start = 14; len = 6 } }))
unfolding kept_of named_at joined_at file_at name_at scan_of no_word word_is is_blank is_solid is_undotted is_named is_from
a_load = refl

-- `save m to`
no_file : kept_of (115 ∷ 97 ∷ 118 ∷ 101 ∷ 32 ∷ 109 ∷ 32 ∷ 116 ∷ 111 ∷ []) ≡ Some (Err (Unkept.Unfiled 9))
unfolding kept_of named_at joined_at file_at name_at scan_of no_word word_is is_blank is_solid is_undotted is_named is_from
no_file = refl

-- `load m to x`
the_other_word : kept_of (108 ∷ 111 ∷ 97 ∷ 100 ∷ 32 ∷ 109 ∷ 32 ∷ 116 ∷ 111 ∷ 32 ∷ 120 ∷ []) ≡ Some (Err (Unkept.Unjoined Way.Load 7))
unfolding kept_of named_at joined_at file_at name_at scan_of no_word word_is is_blank is_solid is_undotted is_named is_from
the_other_word = refl

-- `save m to x y`
one_word_too_many : kept_of (115 ∷ 97 ∷ 118 ∷ 101 ∷ 32 ∷ 109 ∷ 32 ∷ 116 ∷ 111 ∷ 32 ∷ 120 ∷ 32 ∷ 121 ∷ []) ≡ Some (Err (Unkept.Wrong (wrong Flaw.LeftOver 12)))
unfolding kept_of named_at joined_at file_at name_at scan_of no_word word_is is_blank is_solid is_undotted is_named is_from
one_word_too_many = refl

-- `save`
no_name : kept_of (115 ∷ 97 ∷ 118 ∷ 101 ∷ []) ≡ Some (Err (Unkept.Wrong (wrong Flaw.NameExpected 4)))
unfolding kept_of named_at joined_at file_at name_at scan_of no_word word_is is_blank is_solid is_undotted is_named is_from
no_name = refl

-- `saved m`
another_line : kept_of (115 ∷ 97 ∷ 118 ∷ 101 ∷ 100 ∷ 32 ∷ 109 ∷ []) ≡ None
unfolding kept_of named_at joined_at file_at name_at scan_of no_word word_is is_blank is_solid is_undotted is_named is_from
another_line = refl
