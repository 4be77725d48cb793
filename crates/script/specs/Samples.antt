-- Worked examples of lines, computed.
use Rattle.std.specs.Prelude.{◌≡◌, refl, [], ◌∷◌, Some, None, Ok, Err}
use Rattle.text.specs.Words.{scan_of, no_word, word_is, dotted, is_blank, is_solid, is_undotted, is_named, is_from}
use Rattle.numerals.specs.Numeral.{digit}
use Rattle.ranges.specs.declared.AllocPolicy.{AllocPolicy}
use Rattle.ranges.specs.declared.Error.{Error}
use Rattle.fields.specs.Fields.{wrong, name_at, number_in, number_at, id_at, window_at, policy_at}
use Rattle.claims.specs.Claims.{claim_at, said_at, answer_at, closed_at, reason_at, reason_more_at}
use Rattle.lines.specs.Lines.{pool_at, limit_at, ids_at, show_at, together_at, ended_at, other_of}
use Rattle.script.specs.Grammar.{line_of, allocate_at, grant_at, range_at, aligned_at, free_at, free_window_at, free_id_at, in_use_at, asked_at}
use Rattle.claims.specs.declared.Claim.{Claim}
use Rattle.fields.specs.declared.Flaw.{Flaw}
use Rattle.lines.specs.declared.Line.{Line}

-- ` # any`
a_comment : line_of (32 ∷ 35 ∷ 32 ∷ 97 ∷ 110 ∷ 121 ∷ []) ≡ Ok Line.Blank
unfolding line_of allocate_at grant_at range_at aligned_at free_at free_window_at free_id_at pool_at limit_at ids_at show_at ended_at together_at other_of in_use_at asked_at name_at number_at number_in id_at window_at policy_at claim_at said_at answer_at closed_at reason_at reason_more_at scan_of no_word word_is dotted is_blank is_solid is_undotted is_named is_from digit
a_comment = refl

-- `pool m 0x10 32`
a_pool : line_of (112 ∷ 111 ∷ 111 ∷ 108 ∷ 32 ∷ 109 ∷ 32 ∷ 48 ∷ 120 ∷ 49 ∷ 48 ∷ 32 ∷ 51 ∷ 50 ∷ []) ≡ Ok (Line.Pool (record { start = 5; len = 1 }) 16 32 None)
unfolding line_of allocate_at grant_at range_at aligned_at free_at free_window_at free_id_at pool_at limit_at ids_at show_at ended_at together_at other_of in_use_at asked_at name_at number_at number_in id_at window_at policy_at claim_at said_at answer_at closed_at reason_at reason_more_at scan_of no_word word_is dotted is_blank is_solid is_undotted is_named is_from digit
a_pool = refl

-- `pool m 0x10 32 limit 5 # five`
a_limit : line_of (112 ∷ 111 ∷ 111 ∷ 108 ∷ 32 ∷ 109 ∷ 32 ∷ 48 ∷ 120 ∷ 49 ∷ 48 ∷ 32 ∷ 51 ∷ 50 ∷ 32 ∷ 108 ∷ 105 ∷ 109 ∷ 105 ∷ 116 ∷ 32 ∷ 53 ∷ 32 ∷ 35 ∷ 32 ∷ 102 ∷ 105 ∷ 118 ∷ 101 ∷ []) ≡ Ok (Line.Pool (record { start = 5; len = 1 }) 16 32 (Some 5))
unfolding line_of allocate_at grant_at range_at aligned_at free_at free_window_at free_id_at pool_at limit_at ids_at show_at ended_at together_at other_of in_use_at asked_at name_at number_at number_in id_at window_at policy_at claim_at said_at answer_at closed_at reason_at reason_more_at scan_of no_word word_is dotted is_blank is_solid is_undotted is_named is_from digit
a_limit = refl

-- `ids irq 5 23`
ids_line : line_of (105 ∷ 100 ∷ 115 ∷ 32 ∷ 105 ∷ 114 ∷ 113 ∷ 32 ∷ 53 ∷ 32 ∷ 50 ∷ 51 ∷ []) ≡ Ok (Line.Ids (record { start = 4; len = 3 }) 5 23)
unfolding line_of allocate_at grant_at range_at aligned_at free_at free_window_at free_id_at pool_at limit_at ids_at show_at ended_at together_at other_of in_use_at asked_at name_at number_at number_in id_at window_at policy_at claim_at said_at answer_at closed_at reason_at reason_more_at scan_of no_word word_is dotted is_blank is_solid is_undotted is_named is_from digit
ids_line = refl

-- `allocate m 8 align 4 exact 0x10 => 0x10..0x17`
a_claim : line_of (97 ∷ 108 ∷ 108 ∷ 111 ∷ 99 ∷ 97 ∷ 116 ∷ 101 ∷ 32 ∷ 109 ∷ 32 ∷ 56 ∷ 32 ∷ 97 ∷ 108 ∷ 105 ∷ 103 ∷ 110 ∷ 32 ∷ 52 ∷ 32 ∷ 101 ∷ 120 ∷ 97 ∷ 99 ∷ 116 ∷ 32 ∷ 48 ∷ 120 ∷ 49 ∷ 48 ∷ 32 ∷ 61 ∷ 62 ∷ 32 ∷ 48 ∷ 120 ∷ 49 ∷ 48 ∷ 46 ∷ 46 ∷ 48 ∷ 120 ∷ 49 ∷ 55 ∷ []) ≡ Ok (Line.Allocate (record { start = 9; len = 1 }) 8 4 (AllocPolicy.ExactMatch 16) (Claim.Window 16 23))
unfolding line_of allocate_at grant_at range_at aligned_at free_at free_window_at free_id_at pool_at limit_at ids_at show_at ended_at together_at other_of in_use_at asked_at name_at number_at number_in id_at window_at policy_at claim_at said_at answer_at closed_at reason_at reason_more_at scan_of no_word word_is dotted is_blank is_solid is_undotted is_named is_from digit
a_claim = refl

-- `allocate m 8 align 4 last => refused not-available`
a_refusal : line_of (97 ∷ 108 ∷ 108 ∷ 111 ∷ 99 ∷ 97 ∷ 116 ∷ 101 ∷ 32 ∷ 109 ∷ 32 ∷ 56 ∷ 32 ∷ 97 ∷ 108 ∷ 105 ∷ 103 ∷ 110 ∷ 32 ∷ 52 ∷ 32 ∷ 108 ∷ 97 ∷ 115 ∷ 116 ∷ 32 ∷ 61 ∷ 62 ∷ 32 ∷ 114 ∷ 101 ∷ 102 ∷ 117 ∷ 115 ∷ 101 ∷ 100 ∷ 32 ∷ 110 ∷ 111 ∷ 116 ∷ 45 ∷ 97 ∷ 118 ∷ 97 ∷ 105 ∷ 108 ∷ 97 ∷ 98 ∷ 108 ∷ 101 ∷ []) ≡ Ok (Line.Allocate (record { start = 9; len = 1 }) 8 4 AllocPolicy.LastMatch (Claim.Refused Error.ResourceNotAvailable))
unfolding line_of allocate_at grant_at range_at aligned_at free_at free_window_at free_id_at pool_at limit_at ids_at show_at ended_at together_at other_of in_use_at asked_at name_at number_at number_in id_at window_at policy_at claim_at said_at answer_at closed_at reason_at reason_more_at scan_of no_word word_is dotted is_blank is_solid is_undotted is_named is_from digit
a_refusal = refl

-- `allocate irq => 5`
an_id : line_of (97 ∷ 108 ∷ 108 ∷ 111 ∷ 99 ∷ 97 ∷ 116 ∷ 101 ∷ 32 ∷ 105 ∷ 114 ∷ 113 ∷ 32 ∷ 61 ∷ 62 ∷ 32 ∷ 53 ∷ []) ≡ Ok (Line.AllocateId (record { start = 9; len = 3 }) (Claim.Id 5))
unfolding line_of allocate_at grant_at range_at aligned_at free_at free_window_at free_id_at pool_at limit_at ids_at show_at ended_at together_at other_of in_use_at asked_at name_at number_at number_in id_at window_at policy_at claim_at said_at answer_at closed_at reason_at reason_more_at scan_of no_word word_is dotted is_blank is_solid is_undotted is_named is_from digit
an_id = refl

-- `free m 0x10..0x17`
a_free : line_of (102 ∷ 114 ∷ 101 ∷ 101 ∷ 32 ∷ 109 ∷ 32 ∷ 48 ∷ 120 ∷ 49 ∷ 48 ∷ 46 ∷ 46 ∷ 48 ∷ 120 ∷ 49 ∷ 55 ∷ []) ≡ Ok (Line.Free (record { start = 5; len = 1 }) 16 23 Claim.Unsaid)
unfolding line_of allocate_at grant_at range_at aligned_at free_at free_window_at free_id_at pool_at limit_at ids_at show_at ended_at together_at other_of in_use_at asked_at name_at number_at number_in id_at window_at policy_at claim_at said_at answer_at closed_at reason_at reason_more_at scan_of no_word word_is dotted is_blank is_solid is_undotted is_named is_from digit
a_free = refl

-- `\tfrob m`
an_unknown_word : line_of (9 ∷ 102 ∷ 114 ∷ 111 ∷ 98 ∷ 32 ∷ 109 ∷ []) ≡ Err (wrong Flaw.UnknownWord 1)
unfolding line_of allocate_at grant_at range_at aligned_at free_at free_window_at free_id_at pool_at limit_at ids_at show_at ended_at together_at other_of in_use_at asked_at name_at number_at number_in id_at window_at policy_at claim_at said_at answer_at closed_at reason_at reason_more_at scan_of no_word word_is dotted is_blank is_solid is_undotted is_named is_from digit
an_unknown_word = refl

-- `pool m 1z 4`
a_bad_digit : line_of (112 ∷ 111 ∷ 111 ∷ 108 ∷ 32 ∷ 109 ∷ 32 ∷ 49 ∷ 122 ∷ 32 ∷ 52 ∷ []) ≡ Err (wrong Flaw.NumberExpected 8)
unfolding line_of allocate_at grant_at range_at aligned_at free_at free_window_at free_id_at pool_at limit_at ids_at show_at ended_at together_at other_of in_use_at asked_at name_at number_at number_in id_at window_at policy_at claim_at said_at answer_at closed_at reason_at reason_more_at scan_of no_word word_is dotted is_blank is_solid is_undotted is_named is_from digit
a_bad_digit = refl

-- `show m n`
something_left : line_of (115 ∷ 104 ∷ 111 ∷ 119 ∷ 32 ∷ 109 ∷ 32 ∷ 110 ∷ []) ≡ Err (wrong Flaw.LeftOver 7)
unfolding line_of allocate_at grant_at range_at aligned_at free_at free_window_at free_id_at pool_at limit_at ids_at show_at ended_at together_at other_of in_use_at asked_at name_at number_at number_in id_at window_at policy_at claim_at said_at answer_at closed_at reason_at reason_more_at scan_of no_word word_is dotted is_blank is_solid is_undotted is_named is_from digit
something_left = refl

-- `free m 5 =>`
nothing_claimed : line_of (102 ∷ 114 ∷ 101 ∷ 101 ∷ 32 ∷ 109 ∷ 32 ∷ 53 ∷ 32 ∷ 61 ∷ 62 ∷ []) ≡ Err (wrong Flaw.ClaimExpected 11)
unfolding line_of allocate_at grant_at range_at aligned_at free_at free_window_at free_id_at pool_at limit_at ids_at show_at ended_at together_at other_of in_use_at asked_at name_at number_at number_in id_at window_at policy_at claim_at said_at answer_at closed_at reason_at reason_more_at scan_of no_word word_is dotted is_blank is_solid is_undotted is_named is_from digit
nothing_claimed = refl

-- `free m 5.6`
one_dot : line_of (102 ∷ 114 ∷ 101 ∷ 101 ∷ 32 ∷ 109 ∷ 32 ∷ 53 ∷ 46 ∷ 54 ∷ []) ≡ Err (wrong Flaw.WindowExpected 8)
unfolding line_of allocate_at grant_at range_at aligned_at free_at free_window_at free_id_at pool_at limit_at ids_at show_at ended_at together_at other_of in_use_at asked_at name_at number_at number_in id_at window_at policy_at claim_at said_at answer_at closed_at reason_at reason_more_at scan_of no_word word_is dotted is_blank is_solid is_undotted is_named is_from digit
one_dot = refl

-- `in-use irq 5 => yes`
a_question : line_of (105 ∷ 110 ∷ 45 ∷ 117 ∷ 115 ∷ 101 ∷ 32 ∷ 105 ∷ 114 ∷ 113 ∷ 32 ∷ 53 ∷ 32 ∷ 61 ∷ 62 ∷ 32 ∷ 121 ∷ 101 ∷ 115 ∷ []) ≡ Ok (Line.InUse (record { start = 7; len = 3 }) 5 Claim.Yes)
unfolding line_of allocate_at grant_at range_at aligned_at free_at free_window_at free_id_at pool_at limit_at ids_at show_at ended_at together_at other_of in_use_at asked_at name_at number_at number_in id_at window_at policy_at claim_at said_at answer_at closed_at reason_at reason_more_at scan_of no_word word_is dotted is_blank is_solid is_undotted is_named is_from digit
a_question = refl

-- `together 3`
all_or_none : line_of (116 ∷ 111 ∷ 103 ∷ 101 ∷ 116 ∷ 104 ∷ 101 ∷ 114 ∷ 32 ∷ 51 ∷ []) ≡ Ok (Line.Together 3)
unfolding line_of allocate_at grant_at range_at aligned_at free_at free_window_at free_id_at pool_at limit_at ids_at show_at ended_at together_at other_of in_use_at asked_at name_at number_at number_in id_at window_at policy_at claim_at said_at answer_at closed_at reason_at reason_more_at scan_of no_word word_is dotted is_blank is_solid is_undotted is_named is_from digit
all_or_none = refl
