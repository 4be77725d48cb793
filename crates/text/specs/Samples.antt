-- Worked examples of the definitions, computed: the line `\tshow a-b # c`.
use Rattle.std.specs.Prelude.{◌≡◌, refl, true, List, [], ◌∷◌, ℕ}
use Rattle.text.specs.Words.{is_blank, is_solid, scan_of, start_of, end_of, no_word, word_is}

abbrev line : List ℕ
line = 9 ∷ 115 ∷ 104 ∷ 111 ∷ 119 ∷ 32 ∷ 97 ∷ 45 ∷ 98 ∷ 32 ∷ 35 ∷ 32 ∷ 99 ∷ []

-- the first word is `show`, from place 1 to 5
first_start : start_of line 0 ≡ 1
unfolding scan_of is_blank is_solid
first_start = refl

first_end : end_of line 0 ≡ 5
unfolding scan_of is_blank is_solid
first_end = refl

first_is : word_is line 0 (115 ∷ 104 ∷ 111 ∷ 119 ∷ []) ≡ true
unfolding scan_of is_blank is_solid word_is
first_is = refl

-- the second is `a-b`, from place 6 to 9
second_start : start_of line 5 ≡ 6
unfolding scan_of is_blank is_solid
second_start = refl

second_end : end_of line 5 ≡ 9
unfolding scan_of is_blank is_solid
second_end = refl

-- then nothing, at the `#`
nothing_left : no_word line 9 ≡ true
unfolding scan_of is_blank is_solid no_word
nothing_left = refl

left_at : start_of line 9 ≡ 10
unfolding scan_of is_blank is_solid
left_at = refl
