-- The kinds of elements (X.690, section 8.1), and what a message is made of: a schema that reads
-- like a module of ASN.1.
use Rattle.std.specs.Prelude.{ℕ, ◌+◌, List, Option}
pub use Rattle.krb_der.specs.Content.{Content, int32, uint32, seq_number, microseconds, constant, octets, string, flags, time, ContentValue}
use Rattle.krb_der.specs.Content.{leaf_of}

-- An element without parts, one with a tag around one other element, or a SEQUENCE of fields.
-- Fields are those that still come: none, one that must come or may come and others, or one kind
-- again and again.
mutual
  pub data Kind : Type 0 where
    leaf : Content → Kind
    wrapped : ℕ → Kind → Kind
    sequence : Fields → Kind

  pub data Fields : Type 0 where
    ends : Fields
    must : Kind → Fields → Fields
    may : Kind → Fields → Fields
    each : Kind → Fields

-- the field [n] of a SEQUENCE (X.690, section 8.14: context class, constructed, explicit)
abbrev pub field : ℕ → Kind → Kind
field n k = wrapped (0xa0 + n) k

-- [APPLICATION n] around an element
abbrev pub application : ℕ → Kind → Kind
application n k = wrapped (0x60 + n) k

abbrev pub tag_of : Kind → ℕ
tag_of (leaf c) = (leaf_of c).tag
tag_of (wrapped tag k) = tag
tag_of (sequence fs) = 0x30

-- the values of a kind; fields have theirs in nested pairs
abbrev mutual
  pub ValueOf : Kind → Type 0
  ValueOf (leaf c) = ContentValue c
  ValueOf (wrapped tag k) = ValueOf k
  ValueOf (sequence fs) = FieldsOf fs

  pub FieldsOf : Fields → Type 0
  FieldsOf ends = Unit {0}
  FieldsOf (must k fs) = ValueOf k × FieldsOf fs
  FieldsOf (may k fs) = Option (ValueOf k) × FieldsOf fs
  FieldsOf (each k) = List (ValueOf k)
