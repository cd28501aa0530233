-- What is read of the parts of a cache, and the place after it; nothing, if they aren't there.
use Rattle.std.specs.Prelude.{ℕ, ◌==◌, ◌&&◌, ◌||◌, not, Bool, true, ℤ, List, length, Option, Some, None, nat_le, if◌then◌else◌}
use Rattle.std.specs.Int.{w8, w16, w32}
use Rattle.krb_file.specs.Cursor.{Place, ◌>>=◌, number_at, signed_at, data_at, times_at}
use Rattle.krb_ccache.specs.Types.{Principal, TypedBytes, HeaderField, Layout, Version3, Version4}

-- ---- ways to join readings

-- one thing, and another after it that depends on it
abbrev pub then_at : {X Y : Type 0} → (Place → Option (X × Place)) → (X → Place → Option (Y × Place)) → Place → Option ((X × Y) × Place)
then_at first second place = do
  x ← first place
  y ← second x.0 x.1
  Some ((x.0, y.0), y.1)

abbrev pub both_at : {X Y : Type 0} → (Place → Option (X × Place)) → (Place → Option (Y × Place)) → Place → Option ((X × Y) × Place)
both_at first second place = do
  x ← first place
  y ← second x.1
  Some ((x.0, y.0), y.1)

-- what is made of a thing
abbrev pub made_at : {X Y : Type 0} → (X → Y) → (Place → Option (X × Place)) → Place → Option (Y × Place)
made_at make read place = do
  x ← read place
  Some (make x.0, x.1)

-- a thing that passes a test
abbrev pub passing_at : {X : Type 0} → (X → Bool) → (Place → Option (X × Place)) → Place → Option (X × Place)
passing_at test read place = do
  x ← read place
  if test x.0 then Some x else None

-- ---- the parts

-- whether a number is that of a version
abbrev pub is_layout : ℕ → Bool
is_layout number = number == 0x0503 || number == 0x0504

abbrev pub layout_of : ℕ → Layout
layout_of number = if number == 0x0503 then Version3 else Version4

unfoldable pub layout_at : Place → Option (Layout × Place)
layout_at place = made_at layout_of (passing_at is_layout (number_at w16)) place

abbrev pub field_of : ℕ × List ℕ → HeaderField
field_of parts = record { tag = parts.0; value = parts.1 }

-- a field of tag 1 has 8 bytes
abbrev pub is_field : HeaderField → Bool
is_field field = not (field.tag == 1 && not (length field.value == 8))

unfoldable pub field_at : Place → Option (HeaderField × Place)
field_at place = passing_at is_field (made_at field_of (both_at (number_at w16) (data_at w16))) place

abbrev pub name_of : ℤ × (ℕ × (List ℕ × List (List ℕ))) → Principal
name_of (name_type, (count, (realm, components))) = record { realm = realm; name_type = name_type; components = components }

unfoldable pub name_at : Place → Option (Principal × Place)
name_at place = made_at name_of (both_at (signed_at w32) (then_at (number_at w32) (λ count. both_at (data_at w32) (times_at (data_at w32) count)))) place

-- the byte of a flag; where it is checked, it is 0 or 1
abbrev pub is_flag : ℕ → Bool
is_flag number = nat_le number 1

-- whether it passes: what isn't checked always does
abbrev pub allowed : Bool → Bool → Bool
allowed strict good = if strict then good else true

abbrev pub byte_at : Bool → Place → Option (ℕ × Place)
byte_at strict = passing_at (λ number. allowed strict (is_flag number)) (number_at w8)

abbrev pub typed_of : ℕ × List ℕ → TypedBytes
typed_of parts = record { kind = parts.0; bytes = parts.1 }

unfoldable pub typed_at : Place → Option (TypedBytes × Place)
typed_at place = made_at typed_of (both_at (number_at w16) (data_at w32)) place

unfoldable pub list_at : Place → Option (List TypedBytes × Place)
list_at place = made_at (λ counted. counted.1) (then_at (number_at w32) (times_at typed_at)) place
