-- A stamp as one string of bytes, for a store that several services share. The form is our own:
-- each text and each list stands after its length, so no two stamps have the same bytes. Numbers
-- have 8 bytes, the highest first.
use Rattle.std.specs.Prelude.{◌≡◌, ◌<◌, ◌^◌, ℕ, List, ◌++◌, All, length, FitsSigned}
use Rattle.std.specs.Int.{w64, to_be_bytes, cast_unsigned}
use Rattle.std.specs.List.{flat_map}
use Rattle.krb_replay.specs.Stamp.{RealmAndName, Stamp}

abbrev pub number_bytes : ℕ → List ℕ
number_bytes number = to_be_bytes w64 number

-- a text after its length
abbrev pub text_bytes : List ℕ → List ℕ
text_bytes text = number_bytes (length text) ++ text

-- a name: its realm, how many components it has, and each of them
abbrev pub name_bytes : RealmAndName → List ℕ
name_bytes name = text_bytes name.realm ++ (number_bytes (length name.components) ++ flat_map text_bytes name.components)

-- a stamp: the server's name, the client's, and the time, in two's complement
abbrev pub stamp_bytes : Stamp → List ℕ
stamp_bytes stamp = name_bytes stamp.server ++ (name_bytes stamp.client ++ number_bytes (cast_unsigned w64 stamp.time))

-- each length of a name is a number of 8 bytes
pub record HasLengths (name : RealmAndName) : Type 0 where
  pub realm : length name.realm < 2 ^ 64
  pub count : length name.components < 2 ^ 64
  pub components : All (λ component. length component < 2 ^ 64) name.components

-- the bytes are those of the stamp, whose lengths and time are such numbers
pub record IsBytesOf (stamp : Stamp) (bytes : List ℕ) : Type 0 where
  pub server : HasLengths stamp.server
  pub client : HasLengths stamp.client
  pub time : FitsSigned w64 stamp.time
  pub bytes_are : bytes ≡ stamp_bytes stamp
