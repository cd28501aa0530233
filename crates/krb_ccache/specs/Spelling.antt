-- How the parts of a credential cache are spelled (MIT krb5, "Credential cache file format").
-- Numbers are big-endian, signed ones in two's complement.
use Rattle.std.specs.Prelude.{ℕ, Bool, true, false, List, [], ◌++◌, length}
use Rattle.std.specs.Int.{w8, w16, w32}
use Rattle.std.specs.List.{flat_map}
use Rattle.krb_file.specs.Cursor.{number_bytes, signed_bytes, data_bytes}
use Rattle.krb_ccache.specs.Types.{Principal, TypedBytes, HeaderField, Credential}

-- ---- the header: its length, and then its fields

abbrev pub field_bytes : HeaderField → List ℕ
field_bytes field = number_bytes w16 field.tag ++ data_bytes w16 field.value

abbrev pub fields_bytes : List HeaderField → List ℕ
fields_bytes header = flat_map field_bytes header

abbrev pub header_bytes : List HeaderField → List ℕ
header_bytes header = data_bytes w16 (fields_bytes header)

-- ---- a principal

abbrev pub name_bytes : Principal → List ℕ
name_bytes name =
    signed_bytes w32 name.name_type
    ++ (number_bytes w32 (length name.components)
    ++ (data_bytes w32 name.realm
    ++ flat_map (data_bytes w32) name.components))

-- ---- a credential

abbrev pub flag_bytes : Bool → List ℕ
flag_bytes true = number_bytes w8 1
flag_bytes false = number_bytes w8 0

abbrev pub typed_bytes : TypedBytes → List ℕ
typed_bytes element = number_bytes w16 element.kind ++ data_bytes w32 element.bytes

abbrev pub list_bytes : List TypedBytes → List ℕ
list_bytes list = number_bytes w32 (length list) ++ flat_map typed_bytes list

-- with these bytes after the encryption type, and these for `is_skey`
abbrev pub marked_bytes : Credential → List ℕ → List ℕ → List ℕ
marked_bytes credential second mark =
    name_bytes credential.client
    ++ (name_bytes credential.server
    ++ (signed_bytes w16 credential.etype
    ++ (second
    ++ (data_bytes w32 credential.key
    ++ (number_bytes w32 credential.authtime
    ++ (number_bytes w32 credential.starttime
    ++ (number_bytes w32 credential.endtime
    ++ (number_bytes w32 credential.renew_till
    ++ (mark
    ++ (number_bytes w32 credential.ticket_flags
    ++ (list_bytes credential.addresses
    ++ (list_bytes credential.authdata
    ++ (data_bytes w32 credential.ticket
    ++ data_bytes w32 credential.second_ticket)))))))))))))

-- with these bytes after the encryption type
abbrev pub keyed_bytes : Credential → List ℕ → List ℕ
keyed_bytes credential second = marked_bytes credential second (flag_bytes credential.is_skey)

-- in version 0x0504 the encryption type is written once
abbrev pub credential_bytes : Credential → List ℕ
credential_bytes credential = keyed_bytes credential []
