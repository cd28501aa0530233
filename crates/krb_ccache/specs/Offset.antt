-- The KDC's clock offset of a header as a computation. `laws` says that it is the one that the
-- header has, and that none is computed if there is no field of tag 1.
use Rattle.std.specs.Prelude.{◌≡◌, ◌≢◌, ℕ, ◌==◌, ℤ, List, [], ◌∷◌, take, drop, Option, Some, None, All, IfSome, IfNone, if◌then◌else◌}
use Rattle.std.specs.Int.{w32, from_be_bytes, cast_signed}
use Rattle.krb_ccache.specs.Types.{HeaderField}
use Rattle.krb_ccache.specs.Configuration.{HoldsOffset}

-- four bytes as a signed number
abbrev pub signed_of : List ℕ → ℤ
signed_of bytes = cast_signed w32 (from_be_bytes w32 bytes)

-- the value of the first field of tag 1
abbrev pub clock_offset : List HeaderField → Option (ℤ × ℤ)
clock_offset [] = None
clock_offset (field ∷ header) =
    if field.tag == 1 then Some (signed_of (take 4 field.value), signed_of (drop 4 field.value)) else clock_offset header

-- what a header has: this offset, or none
pub record IsOffsetOf (header : List HeaderField) (offset : Option (ℤ × ℤ)) : Type 0 where
  pub some : IfSome offset (λ known. HoldsOffset header known.0 known.1)
  pub none : IfNone offset (All (λ field. field.tag ≢ 1) header)
  pub computed : offset ≡ clock_offset header
