-- The clock offset as it is computed.
use Rattle.std.proofs.Common.{◌≡◌, ◌≢◌, ℕ, ℤ, true, false, eqb, List, [], ◌∷◌, ◌++◌, take, drop, Option, Some, None, refl, sym, ap, ◌∙◌}
use Rattle.std.specs.Int.{w32, cast_signed, cast_unsigned}
use Rattle.std.specs.Prelude.{All, FitsSigned, IfSome, IfNone}
use Rattle.std.specs.List.{AllByRecursion}
use Rattle.std.proofs.Math.Facts.{Fits-of_z}
use Rattle.std.proofs.lemmas.Bool.{eq-eqb, ne_eqb}
use Rattle.std.proofs.lemmas.Int.{to_z-of_z}
use Rattle.std.proofs.lemmas.List.{take_at, drop_at}
use Rattle.std.proofs.lemmas.List.Elements.{recursion_from_All}
use Rattle.std.proofs.lemmas.Nat.{from_be_bytes-to_be_bytes_4}
use Rattle.krb_file.specs.Cursor.{signed_bytes}
use Rattle.krb_ccache.specs.Types.{HeaderField}
use Rattle.krb_ccache.specs.Configuration.{IsOffset, HoldsOffset}
use Rattle.krb_ccache.specs.Offset.{signed_of, clock_offset, IsOffsetOf}

signed_back : (z : ℤ) → FitsSigned w32 z → signed_of (signed_bytes w32 z) ≡ z
signed_back z fits = ap (cast_signed w32) (from_be_bytes-to_be_bytes_4 (cast_unsigned w32 z) (Fits-of_z fits).fits) ∙ to_z-of_z w32 z fits

abbrev pair_of : ℤ → ℤ → Option (ℤ × ℤ)
pair_of a b = Some (a, b)

value_back : (value : List ℕ) (seconds microseconds : ℤ) → IsOffset value seconds microseconds → pair_of (signed_of (take 4 value)) (signed_of (drop 4 value)) ≡ Some (seconds, microseconds)
value_back value seconds microseconds o =
    let front : take 4 value ≡ signed_bytes w32 seconds = ap (take 4) o.value_is ∙ take_at (signed_bytes w32 seconds) (signed_bytes w32 microseconds) 4 refl in
    let back : drop 4 value ≡ signed_bytes w32 microseconds = ap (drop 4) o.value_is ∙ drop_at (signed_bytes w32 seconds) (signed_bytes w32 microseconds) 4 refl in
    ap (λ (z : ℤ). pair_of z (signed_of (drop 4 value))) (ap signed_of front ∙ signed_back seconds o.seconds_fit) ∙ ap (pair_of seconds) (ap signed_of back ∙ signed_back microseconds o.microseconds_fit)

past_others : (before : List HeaderField) (field : HeaderField) (after : List HeaderField) (seconds microseconds : ℤ) → AllByRecursion (λ other. other.tag ≢ 1) before → field.tag ≡ 1 → IsOffset field.value seconds microseconds
    → clock_offset (before ++ field ∷ after) ≡ Some (seconds, microseconds)
past_others [] field after seconds microseconds none tag o = let there : eqb field.tag 1 ≡ true = eq-eqb field.tag 1 tag in rw there (value_back field.value seconds microseconds o)
past_others (other ∷ before) field after seconds microseconds none tag o = let not : eqb other.tag 1 ≡ false = ne_eqb other.tag 1 none.0 in rw not (past_others before field after seconds microseconds none.1 tag o)

pub held_computed : (header : List HeaderField) (seconds microseconds : ℤ) → HoldsOffset header seconds microseconds → clock_offset header ≡ Some (seconds, microseconds)
held_computed header seconds microseconds h =
    ap clock_offset h.header_is ∙ past_others h.before h.field h.after seconds microseconds (recursion_from_All (λ other. other.tag ≢ 1) h.before h.first) h.tag h.offset

no_field : (header : List HeaderField) → AllByRecursion (λ other. other.tag ≢ 1) header → clock_offset header ≡ None
no_field [] none = refl
no_field (other ∷ header) none = let not : eqb other.tag 1 ≡ false = ne_eqb other.tag 1 none.0 in rw not (no_field header none.1)

pub none_computed : (header : List HeaderField) → All (λ field. field.tag ≢ 1) header → clock_offset header ≡ None
none_computed header none = no_field header (recursion_from_All (λ other. other.tag ≢ 1) header none)

-- the offset that a field holds is that of the header
pub offset_there : (header : List HeaderField) (result : Option (ℤ × ℤ)) → IfNone result ⊥ → IfSome result (λ offset. HoldsOffset header offset.0 offset.1) → IsOffsetOf header result
offset_there header None none some = absurd none
offset_there header (Some offset) none some = record { some = some; none = tt; computed = sym (held_computed header offset.0 offset.1 some) }
