-- Each part of a cache is read as it is spelled.
use Rattle.std.proofs.Common.{◌≡◌, ℕ, ◌<◌, ◌^◌, Bool, true, false, cond, eqb, List, ◌++◌, length, refl, sym, ap, subst, arith}
use Rattle.std.specs.Int.{w8, w16, w32}
use Rattle.std.specs.Prelude.{◌||◌}
use Rattle.std.specs.List.{flat_map}
use Rattle.std.proofs.lemmas.Bool.{eqb-true}
use Rattle.std.proofs.lemmas.List.Elements.{All-from_recursion, recursion_from_All}
use Rattle.krb_file.specs.Cursor.{data_at, number_bytes, signed_bytes, data_bytes}
use Rattle.krb_file.specs.Field.{IsField}
use Rattle.krb_file.proofs.CursorLaws.{IsField-bytes, IsField-u8, IsField-u16, IsField-u32, IsField-i16, IsField-i32, IsField-data16, IsField-data32}
use Rattle.krb_file.proofs.Repeated.{IsField-times}
use Rattle.krb_ccache.specs.Types.{TypedBytes, Layout, Version3, Version4}
use Rattle.krb_ccache.specs.Spelling.{field_bytes, name_bytes, typed_bytes, list_bytes}
use Rattle.krb_ccache.specs.Format.{version_of, second_size}
use Rattle.krb_ccache.specs.Inner.Stepping.{Any}
use Rattle.krb_ccache.specs.Value.{FitsName, FitsList}
use Rattle.krb_ccache.specs.Inner.Reading.{field_of, is_field, field_at, name_of, name_at, is_flag, allowed, byte_at, typed_of, typed_at, list_at, is_layout, layout_of, layout_at}
use Rattle.krb_ccache.specs.Inner.Row.{Row, name_field, data_field, list_field, flag_field, number_field, signed_field, second_field, both_fields, row_at, row_bytes, FitsRow}
use Rattle.krb_ccache.specs.Inner.Standing.{FitsField}
use Rattle.krb_ccache.proofs.Fields.{IsField-then, IsField-both, IsField-made, IsField-passing}

abbrev pub Below16 : ℕ → Type 0
Below16 n = n < 2 ^ 16

abbrev pub Below32 : ℕ → Type 0
Below32 n = n < 2 ^ 32

abbrev pub Short16 : List ℕ → Type 0
Short16 bytes = length bytes < 2 ^ 16

abbrev pub Short32 : List ℕ → Type 0
Short32 bytes = length bytes < 2 ^ 32

-- ---- a field of the header

pub IsField-field : IsField field_at field_bytes FitsField
unfolding field_at
IsField-field =
    IsField-passing is_field
    (IsField-made field_of (IsField-both IsField-u16 IsField-data16) field_bytes (λ field. Below16 field.tag × Short16 field.value) (λ parts fits. (fits, refl)) (λ field fits. ((field.tag, field.value), fits, refl, refl)))

-- ---- a principal

pub IsField-name : IsField name_at name_bytes FitsName
unfolding name_at
IsField-name =
    IsField-made name_of (IsField-both IsField-i32 (IsField-then IsField-u32 (λ count. IsField-both IsField-data32 (IsField-times (data_at w32) (data_bytes w32) Short32 IsField-data32 count)))) name_bytes FitsName
    (λ parts fits. (
      record {
        lengths = record { count = subst Below32 (sym fits.1.1.1.0) fits.1.0; realm = fits.1.1.0; components = All-from_recursion Short32 parts.1.1.1 fits.1.1.1.1 };
        name_type = fits.0;
      },
      ap (λ (count : ℕ). signed_bytes w32 parts.0 ++ (number_bytes w32 count ++ (data_bytes w32 parts.1.1.0 ++ flat_map (data_bytes w32) parts.1.1.1))) fits.1.1.1.0,
    ))
    (λ name fits. (
      (name.name_type, (length name.components, (name.realm, name.components))),
      (fits.name_type, (fits.lengths.count, (fits.lengths.realm, (refl, recursion_from_All Short32 name.components fits.lengths.components)))),
      refl,
      refl,
    ))

-- ---- a flag

IsField-byte : (strict : Bool) → IsField (byte_at strict) (number_bytes w8) (λ n. (n < 2 ^ 8) × (allowed strict (is_flag n) ≡ true))
IsField-byte strict = IsField-passing (λ n. allowed strict (is_flag n)) IsField-u8

-- ---- addresses and authorization data

abbrev pub FitsTyped : TypedBytes → Type 0
FitsTyped element = Below16 element.kind × Short32 element.bytes

IsField-typed : IsField typed_at typed_bytes FitsTyped
unfolding typed_at
IsField-typed = IsField-made typed_of (IsField-both IsField-u16 IsField-data32) typed_bytes FitsTyped (λ parts fits. (fits, refl)) (λ element fits. ((element.kind, element.bytes), fits, refl, refl))

pub IsField-list : IsField list_at list_bytes FitsList
unfolding list_at
IsField-list =
    IsField-made (λ counted. counted.1) (IsField-then IsField-u32 (IsField-times typed_at typed_bytes FitsTyped IsField-typed)) list_bytes FitsList
    (λ counted fits.
    let each = All-from_recursion FitsTyped counted.1 fits.1.1 in (
      record {
        lengths = record { count = subst Below32 (sym fits.1.0) fits.0; each = λ k d lt. (each k d lt).1 };
        kinds = λ k d lt. (each k d lt).0;
      },
      ap (λ (count : ℕ). number_bytes w32 count ++ flat_map typed_bytes counted.1) fits.1.0,
    ))
    (λ list fits. ((length list, list), (fits.lengths.count, (refl, recursion_from_All FitsTyped list (λ k d lt. (fits.kinds k d lt, fits.lengths.each k d lt)))), refl, refl))

-- ---- a version

layout_is : (n : ℕ) → is_layout n ≡ true → version_of (layout_of n) ≡ number_bytes w16 n
layout_is n e = tested (eqb n 0x0503) (eqb n 0x0504) refl refl e
  where
    tested : (b c : Bool) → eqb n 0x0503 ≡ b → eqb n 0x0504 ≡ c → (b || c) ≡ true → version_of (cond b Version3 Version4) ≡ number_bytes w16 n
    tested true c p q r = sym (ap (number_bytes w16) (eqb-true n 0x0503 p))
    tested false true p q r = sym (ap (number_bytes w16) (eqb-true n 0x0504 q))
    tested false false p q r = absurd cc

number_of : (layout : Layout) → Any layout → (n : ℕ) × ((n < 2 ^ 16) × (is_layout n ≡ true)) × (layout_of n ≡ layout) × (number_bytes w16 n ≡ version_of layout)
number_of Version3 any = (0x0503, (omega arith, refl), refl, refl)
number_of Version4 any = (0x0504, (omega arith, refl), refl, refl)

pub IsField-layout : IsField layout_at version_of Any
unfolding layout_at
IsField-layout = IsField-made layout_of (IsField-passing is_layout IsField-u16) version_of Any (λ n fits. (tt, layout_is n fits.1)) number_of

-- ---- a row

pub IsField-row : (row : Row) (strict : Bool) (layout : Layout) → IsField (row_at row strict layout) (row_bytes row) (FitsRow row strict layout)
IsField-row name_field strict layout = IsField-name
IsField-row data_field strict layout = IsField-data32
IsField-row list_field strict layout = IsField-list
IsField-row flag_field strict layout = IsField-byte strict
IsField-row number_field strict layout = IsField-u32
IsField-row signed_field strict layout = IsField-i16
IsField-row second_field strict layout = IsField-bytes (second_size layout)
IsField-row (both_fields one other) strict layout = IsField-both (IsField-row one strict layout) (IsField-row other strict layout)
