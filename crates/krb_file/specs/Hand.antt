-- What is seen of the bytes of a file that are taken piece by piece.
use Rattle.std.specs.Prelude.{ℕ, List, Option, Some}
use Rattle.krb_file.specs.Window.{AtHand}

-- the bytes that are held, the most that were held at once, how many were taken in all, and, as the
-- source, the list of those still to come, if that is known
abbrev pub Hand : Type 0
Hand = AtHand (Option (List ℕ))

-- those of a source, and those of a slice
abbrev pub window_hand : {S : Type 0} → (S → Option (List ℕ)) → AtHand S → Hand
window_hand left window = record { source = left window.source; bytes = window.bytes; peak = window.peak; given = window.given }

abbrev pub slice_hand : AtHand (List ℕ) → Hand
slice_hand slice = window_hand (λ bytes. Some bytes) slice
