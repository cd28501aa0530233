-- Reading from left to right, which gives the value and the place after it, or the first fault.
use Rattle.std.specs.Prelude.{ℕ, zero, suc, ◌+◌, ◌-◌, ◌^◌, Bool, not, ◌&&◌, ◌==◌, nat_lt, nat_le, if◌then◌else◌, List, [], ◌∷◌, length, take, drop, Option, Some, None, Result, Ok, Err}
use Rattle.krb_der.specs.declared.fault.Fault.{Fault}
use Rattle.krb_der.specs.declared.fault.FaultKind.{FaultKind}
use Rattle.krb_der.specs.declared.fault.FaultKind.TheVariants.{Truncated, Tag, Length, Trailing, TooLong}
use Rattle.krb_der.specs.Kind.{Kind, leaf, wrapped, sequence, Fields, ends, must, may, each, tag_of, ValueOf, FieldsOf}
use Rattle.krb_der.specs.Content.{Content, int32, uint32, seq_number, microseconds, constant, octets, string, flags, time, ContentValue, leaf_of}
use Rattle.krb_der.specs.Whole.{number}
use Rattle.krb_der.specs.Place.{Place, begin_at, end_of, begins}
use Rattle.krb_der.specs.Spells.{limit}
use Rattle.krb_der.specs.Computed.Steps.{◌>>=◌, ◌>>?◌}
use Rattle.krb_der.specs.Computed.Whole.{are_bytes, whole_of, natural_below, int32_within, seq_number_within, constant_at, flags_of}
use Rattle.krb_time.specs.Clock.{time_of}

abbrev pub fault_at : {A : Type 0} → FaultKind → ℕ → Result A Fault
fault_at kind at = Err (record { kind = kind; at = at })

-- ---- the length: its number, and the bytes after it
abbrev pub Sized : Type 0
Sized = Result (ℕ × List ℕ) FaultKind

-- the digits of the long form are those of a length
abbrev pub are_length : List ℕ → Bool
are_length digits = are_bytes digits && not (begins 0 digits) && nat_le 0x80 (number digits)

unfoldable pub long_of : ℕ → List ℕ → Sized
long_of count bytes =
    if nat_lt (length bytes) count then Err Truncated
    else if are_length (take count bytes) then Ok (number (take count bytes), drop count bytes)
    else Err Length

unfoldable pub length_of : List ℕ → Sized
length_of [] = Err Truncated
length_of (f ∷ bytes) =
    if nat_lt f 0x80 then Ok (f, bytes)
    else if nat_le 0x81 f && nat_le f 0x84 then long_of (f - 0x80) bytes
    else Err Length

-- ---- the head: where the content begins, and what comes after it
unfoldable pub split_at : Place → ℕ → List ℕ → Result (Place × Place) Fault
split_at p n bytes =
    if nat_lt (length bytes) n then fault_at Truncated (end_of p)
    else Ok (
      record { at = p.at + (length p.rest - length bytes); rest = take n bytes },
      record { at = p.at + (length p.rest - length bytes) + n; rest = drop n bytes },
    )

-- the fault of an element whose length has a fault
abbrev pub length_fault : Place → FaultKind → Fault
length_fault p Truncated = record { kind = Truncated; at = end_of p }
length_fault p kind = record { kind = Length; at = p.at + 1 }

abbrev pub sized_at : Place → Sized → Result (Place × Place) Fault
sized_at p (Ok x) = split_at p x.0 x.1
sized_at p (Err kind) = Err (length_fault p kind)

abbrev pub head_from : ℕ → Place → List ℕ → Result (Place × Place) Fault
head_from tag p [] = fault_at Truncated (end_of p)
head_from tag p (b ∷ bytes) = if b == tag then sized_at p (length_of bytes) else fault_at Tag p.at

unfoldable pub enter_at : ℕ → Place → Result (Place × Place) Fault
enter_at tag p = head_from tag p p.rest

-- the same for an optional element
unfoldable pub may_enter : ℕ → Place → Result (Option Place × Place) Fault
may_enter tag p = if begins tag p.rest then (enter_at tag p >>= λ e. Ok (Some e.0, e.1)) else Ok (None, p)

-- ---- contents
abbrev pub content_of : (c : Content) → List ℕ → Option (ContentValue c)
content_of int32 content = whole_of content >>? int32_within
content_of uint32 content = whole_of content >>? natural_below (2 ^ 32)
content_of seq_number content = whole_of content >>? seq_number_within
content_of microseconds content = whole_of content >>? natural_below 1_000_000
content_of (constant n) content = whole_of content >>? constant_at n
content_of octets content = Some content
content_of string content = Some content
content_of flags content = flags_of content
content_of time content = time_of content

abbrev pub value_or : {A : Type 0} → Option A → FaultKind → ℕ → Result A Fault
value_or (Some v) kind at = Ok v
value_or None kind at = fault_at kind at

-- ---- the end
abbrev pub finish_from : Place → List ℕ → Result (Unit {0}) Fault
finish_from p [] = Ok tt
finish_from p (b ∷ bytes) = fault_at Trailing p.at

unfoldable pub finish_at : Place → Result (Unit {0}) Fault
finish_at p = finish_from p p.rest

-- ---- elements
abbrev pub leaf_at : {A : Type 0} → ℕ → (List ℕ → Option A) → FaultKind → Place → Result (A × Place) Fault
leaf_at tag read kind p = enter_at tag p >>= λ e. value_or (read e.0.rest) kind p.at >>= λ v. Ok (v, e.1)

abbrev pub wrapped_at : {A : Type 0} → ℕ → (Place → Result (A × Place) Fault) → Place → Result (A × Place) Fault
wrapped_at tag read p = enter_at tag p >>= λ e. read e.0 >>= λ x. finish_at x.1 >>= λ _. Ok (x.0, e.1)

abbrev pub sequence_at : {A : Type 0} → (Place → Result A Fault) → Place → Result (A × Place) Fault
sequence_at read p = enter_at 0x30 p >>= λ e. read e.0 >>= λ v. Ok (v, e.1)

-- ---- fields, up to the end of the enclosing element
abbrev pub must_at : {A B : Type 0} → (Place → Result (A × Place) Fault) → (Place → Result B Fault) → Place → Result (A × B) Fault
must_at first others p = first p >>= λ x. others x.1 >>= λ y. Ok (x.0, y)

abbrev pub may_at : {A B : Type 0} → ℕ → (Place → Result (A × Place) Fault) → (Place → Result B Fault) → Place → Result (Option A × B) Fault
may_at tag first others p =
    if begins tag p.rest then (first p >>= λ x. others x.1 >>= λ y. Ok (Some x.0, y)) else (others p >>= λ y. Ok (None, y))

-- one after another; no element is empty, so the length of what is left is fuel enough
abbrev pub each_from : {A : Type 0} → (Place → Result (A × Place) Fault) → ℕ → Place → List ℕ → Result (List A) Fault
each_from read fuel p [] = Ok []
each_from read zero p (b ∷ bytes) = fault_at Trailing p.at
each_from read (suc fuel) p (b ∷ bytes) = read p >>= λ x. each_from read fuel x.1 x.1.rest >>= λ xs. Ok (x.0 ∷ xs)

abbrev pub each_at : {A : Type 0} → (Place → Result (A × Place) Fault) → Place → Result (List A) Fault
each_at read p = each_from read (length p.rest) p p.rest

unfoldable mutual
  pub element_at : (k : Kind) → Place → Result (ValueOf k × Place) Fault
  element_at (leaf c) = leaf_at (leaf_of c).tag (content_of c) (leaf_of c).fault
  element_at (wrapped tag k) = wrapped_at tag (element_at k)
  element_at (sequence fs) = sequence_at (fields_at fs)

  pub fields_at : (fs : Fields) → Place → Result (FieldsOf fs) Fault
  fields_at ends = finish_at
  fields_at (must k fs) = must_at (element_at k) (fields_at fs)
  fields_at (may k fs) = may_at (tag_of k) (element_at k) (fields_at fs)
  fields_at (each k) = each_at (element_at k)

-- a whole message
unfoldable pub message_of : (k : Kind) → List ℕ → Result (ValueOf k) Fault
message_of k bytes =
    if nat_lt limit (length bytes) then fault_at TooLong 0
    else (element_at k (begin_at bytes) >>= λ x. finish_at x.1 >>= λ _. Ok x.0)
