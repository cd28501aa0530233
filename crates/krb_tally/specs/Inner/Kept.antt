-- How the times of one owner are kept.
use Rattle.std.specs.Prelude.{◌+ℤ◌, ◌<ℤ◌, ◌^◌, ℤ, pos, List, [], ◌∷◌, ⊤}
use Rattle.krb_tally.specs.declared.times.Kept.{Kept}
use Rattle.krb_tally.specs.declared.times.Kept.TheVariants.{One, Two, Few, Many}

-- Of two times the first stands there, and how much later the second is.
abbrev pub times_of : Kept → List ℤ
times_of (One time) = time ∷ []
times_of (Two later first) = first ∷ (first +ℤ pos later) ∷ []
times_of (Few times) = times.value
times_of (Many times) = times.value

-- the second of two is a number of 8 bytes, too
abbrev pub FitsTwo : Kept → Type 0
FitsTwo (Two later first) = (first +ℤ pos later) <ℤ pos (2 ^ 63)
FitsTwo (One time) = ⊤
FitsTwo (Few times) = ⊤
FitsTwo (Many times) = ⊤
