-- The bytes of a file that were taken from a source.
use Rattle.std.specs.Prelude.{◌≡◌, ◌⊎◌, ◌<◌, ℕ, List, length}
use Rattle.krb_file.specs.File.{file_limit}

-- all of the file; or, of a file that is too long, more than a file may have
abbrev pub HoldsFile : List ℕ → List ℕ → Type 0
HoldsFile whole bytes = (whole ≡ bytes) ⊎ ((file_limit < length bytes) × (file_limit < length whole))
