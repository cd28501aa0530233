-- The parts that the fields of messages are made of, as kinds of elements and their values (RFC
-- 4120, sections 5.2 and 5.3). Each has a type and, in a second field, what is of that type.
use Rattle.std.specs.Prelude.{ℕ, ℤ, List}
use Rattle.krb_name.specs.declared.principal.Principal.{Principal}
use Rattle.krb_der.specs.Kind.{Kind, leaf, sequence, ends, must, each, field, int32, octets, string, ValueOf}

-- one field, and those after it
infixr 5 ◌▸◌
abbrev pub ◌▸◌ : {A B : Type 0} → A → B → A × B
a ▸ b = (a, b)

-- SEQUENCE OF
abbrev pub sequence_of : Kind → Kind
sequence_of k = sequence (each k)

-- a SEQUENCE of a field 0 that is an Int32, and a field 1
abbrev pub typed : Kind → Kind
typed k = sequence (must (field 0 (leaf int32)) (must (field 1 k) ends))

-- ---- PrincipalName: name-type and name-string (section 5.2.2)
abbrev pub principal_name : Kind
principal_name = typed (sequence_of (leaf string))

abbrev pub name_value : ℤ → List (List ℕ) → ValueOf principal_name
name_value name_type components = name_type ▸ components ▸ tt

abbrev pub name_type_of : ValueOf principal_name → ℤ
name_type_of v = v.0

abbrev pub components_of : ValueOf principal_name → List (List ℕ)
components_of v = v.1.0

-- the principal of a name in a realm
abbrev pub principal_in : List ℕ → ValueOf principal_name → Principal
principal_in realm v = record { realm = realm; name_type = name_type_of v; components = components_of v }

-- a principal's name without its realm
abbrev pub principal_name_of : Principal → ValueOf principal_name
principal_name_of p = name_value p.name_type p.components

-- ---- a type and bytes
-- keytype and keyvalue (section 5.2.9)
abbrev pub encryption_key : Kind
encryption_key = typed (leaf octets)

-- cksumtype and checksum (section 5.2.9)
abbrev pub checksum : Kind
checksum = typed (leaf octets)

-- addr-type and address (section 5.2.5)
abbrev pub host_address : Kind
host_address = typed (leaf octets)

-- ad-type and ad-data, any number of times (section 5.2.6)
abbrev pub authorization_data : Kind
authorization_data = sequence_of (typed (leaf octets))

-- tr-type and contents (section 5.3)
abbrev pub transited_encoding : Kind
transited_encoding = typed (leaf octets)

abbrev pub typed_value : ℤ → List ℕ → ValueOf (typed (leaf octets))
typed_value type bytes = type ▸ bytes ▸ tt

abbrev pub type_of : ValueOf (typed (leaf octets)) → ℤ
type_of v = v.0

abbrev pub bytes_of : ValueOf (typed (leaf octets)) → List ℕ
bytes_of v = v.1.0
