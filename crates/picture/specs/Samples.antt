-- Worked examples of the definitions, computed: ten addresses in four cells are three, three, two and two.
use Rattle.std.specs.Prelude.{◌≡◌, refl}
use Rattle.picture.specs.Bar.{before}

second : before 10 4 1 ≡ 3
unfolding before
second = refl

third : before 10 4 2 ≡ 6
unfolding before
third = refl

fourth : before 10 4 3 ≡ 8
unfolding before
fourth = refl

all : before 10 4 4 ≡ 10
unfolding before
all = refl

-- three addresses in five cells: one each for the first three, and none for the others
few : before 3 5 3 ≡ 3
unfolding before
few = refl

none_left : before 3 5 5 ≡ 3
unfolding before
none_left = refl
