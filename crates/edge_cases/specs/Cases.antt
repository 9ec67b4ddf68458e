-- The edge cases of the rule book, asked of the definitions. Assumes nothing.
--   cases         each case as a test
--   all_hold bs   each test of the list is passed
use Rattle.std.specs.Prelude.{Bool, true, not, ◌&&◌, List, [], ◌∷◌, eqb}
use Rattle.committee.specs.Membership.{is_committee}
use Rattle.committee.specs.Views.{epoch_of, place_of}

abbrev pub cases : List Bool
cases =
    -- f = 1: process 0 may be faulty
    is_committee 1 1
    -- two faulty processes are too many
    ∷ not (is_committee 1 3)
    -- process 4 is none of the committee
    ∷ not (is_committee 1 16)
    -- no committee for f = 0, nor for f = 11
    ∷ not (is_committee 0 0)
    ∷ not (is_committee 11 0)
    -- f = 1: view 3 is the first of epoch 2
    ∷ (eqb (epoch_of 1 3) 2 && eqb (place_of 1 3) 1)
    ∷ []

abbrev pub all_hold : List Bool → Bool
all_hold [] = true
all_hold (b ∷ bs) = b && all_hold bs
