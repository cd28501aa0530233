-- How many bytes are written for a value (X.690, sections 8.1.3, 8.3 and 10.1), and for which
-- values bytes are written.
use Rattle.std.specs.Prelude.{ℕ, ◌+◌, ◌^◌, nat_lt, if◌then◌else◌, List, [], ◌∷◌, Option, Some, None, IfSome}
use Rattle.krb_der.specs.Kind.{Kind, leaf, wrapped, sequence, Fields, ends, must, may, each, ValueOf, FieldsOf}
use Rattle.krb_der.specs.Content.{leaf_of}

-- of a length: one byte below 128, else one and as few as the number needs
abbrev pub length_size : ℕ → ℕ
length_size n =
    if nat_lt n 128 then 1 else if nat_lt n (2 ^ 8) then 2 else if nat_lt n (2 ^ 16) then 3 else if nat_lt n (2 ^ 24) then 4 else 5

-- of an element with a content of n bytes: its tag, the length, and the content
abbrev pub element_size : ℕ → ℕ
element_size n = 1 + length_size n + n

-- of an optional part
abbrev pub size_if : {V : Type 0} → (V → ℕ) → Option V → ℕ
size_if size None = 0
size_if size (Some v) = size v

-- of one part after another
abbrev pub sizes_of : {V : Type 0} → (V → ℕ) → List V → ℕ
sizes_of size [] = 0
sizes_of size (v ∷ vs) = size v + sizes_of size vs

abbrev mutual
  -- of the content of an element, and of the fields in it
  pub content_size : (k : Kind) → ValueOf k → ℕ
  content_size (leaf c) v = (leaf_of c).size v
  content_size (wrapped tag k) v = element_size (content_size k v)
  content_size (sequence fs) v = fields_size fs v

  pub fields_size : (fs : Fields) → FieldsOf fs → ℕ
  fields_size ends v = 0
  fields_size (must k fs) v = element_size (content_size k v.0) + fields_size fs v.1
  fields_size (may k fs) v = size_if (λ x. element_size (content_size k x)) v.0 + fields_size fs v.1
  fields_size (each k) v = sizes_of (λ x. element_size (content_size k x)) v

-- of a value of the kind
abbrev pub size_of : (k : Kind) → ValueOf k → ℕ
size_of k v = element_size (content_size k v)

-- a condition on each of some values
abbrev pub ForAll : {V : Type 0} → (V → Type 0) → List V → Type 0
ForAll P [] = Unit {0}
ForAll P (v ∷ vs) = P v × ForAll P vs

abbrev mutual
  -- each number in the value is in its range
  pub NumbersFit : (k : Kind) → ValueOf k → Type 0
  NumbersFit (leaf c) v = (leaf_of c).Fits v
  NumbersFit (wrapped tag k) v = NumbersFit k v
  NumbersFit (sequence fs) v = FieldsFit fs v

  pub FieldsFit : (fs : Fields) → FieldsOf fs → Type 0
  FieldsFit ends v = Unit {0}
  FieldsFit (must k fs) v = NumbersFit k v.0 × FieldsFit fs v.1
  FieldsFit (may k fs) v = IfSome v.0 (λ x. NumbersFit k x) × FieldsFit fs v.1
  FieldsFit (each k) v = ForAll (λ x. NumbersFit k x) v
