-- How long replies are at most.
use Rattle.std.proofs.Common.{◌≡◌, ℕ, zero, suc, ◌+◌, ◌<◌, ◌≤◌, ℤ, pos, negsuc, length, Option, Some, None, ap, arith}
use Rattle.std.proofs.lemmas.Bool.{lt-ltb}
use Rattle.krb_der.specs.Kind.{leaf, uint32, field, ValueOf}
use Rattle.krb_der.specs.Whole.{natural_size, integer_size}
use Rattle.krb_der.specs.Size.{length_size, element_size, size_if, size_of, content_size}
use Rattle.krb_msg.specs.Module.{encrypted_data, encryption_key, enc_ap_rep_part, ap_rep}
use Rattle.krb_msg.proofs.Sizes.{fields_of, size_after, with_lengths, part_more, reply_more}
use Rattle.krb_msg.specs.Fields.{bytes_of, encrypted_fields, reply_enc_part, reply_fields}

length_few : (n : ℕ) → length_size n ≤ 5
length_few n = grind arith

-- what an element adds to its content
adds : (m n : ℕ) → m ≤ n → element_size m ≤ n + 6
adds m n le = omega (arith, le, length_few m)

-- and to a short one
short_adds : (m n : ℕ) → m ≤ n → n < 128 → element_size m ≤ n + 2
short_adds m n le lt = let short : m < 128 = omega (arith, le, lt) in rw (lt-ltb m 128 short) (omega (arith, le))

natural_few : (n : ℕ) → natural_size n ≤ 5
natural_few n = grind arith

integer_few : (z : ℤ) → integer_size z ≤ 5
integer_few (pos n) = natural_few n
integer_few (negsuc m) = natural_few m

-- ---- fields
field_few : (m : ℕ) → m ≤ 5 → element_size (element_size m) ≤ 9
field_few m few = let inner : element_size m ≤ 7 = short_adds m 5 few (omega arith) in short_adds (element_size m) 7 inner (omega arith)

field_adds : (m n : ℕ) → m ≤ n → element_size (element_size m) ≤ n + 12
field_adds m n le = let inner = adds m n le in let outer = adds (element_size m) (n + 6) inner in omega (arith, outer)

maybe_few : (o : Option ℕ) → size_if (size_of (field 0 (leaf uint32))) o ≤ 9
maybe_few None = omega arith
maybe_few (Some n) = field_few (natural_size n) (natural_few n)

key_adds : (key : ValueOf encryption_key) → size_of (field 0 encryption_key) key ≤ length (bytes_of key) + 33
key_adds key =
    let n = length (bytes_of key) in
    let type = field_few (integer_size key.0) (integer_few key.0) in
    let bytes = field_adds n n (omega arith) in
    let all : content_size encryption_key key ≤ n + 21 = omega (arith, type, bytes) in
    let outer = field_adds (content_size encryption_key key) (n + 21) all in
    omega (arith, outer)

-- ---- replies
-- two elements around fields that have few bytes, but for those of some that follow
few_add : (m r : ℕ) → m ≤ 37 + r → element_size (element_size m) ≤ 41 + with_lengths r
few_add m zero le = let inner = short_adds m 37 (omega (arith, le)) (omega arith) in short_adds (element_size m) 39 inner (omega arith)
few_add m (suc r) le = let outer = field_adds m (37 + suc r) le in omega (arith, outer)

abbrev key_size : Option (ValueOf encryption_key) → ℕ
key_size o = size_if (size_of (field 0 encryption_key)) o

-- the size of its fields
abbrev fields : ValueOf enc_ap_rep_part → ℕ
fields v =
    19 + (element_size (element_size (natural_size v.1.0)) + (key_size v.1.1.0 + (size_if (size_of (field 0 (leaf uint32))) v.1.1.1.0 + part_more v)))

fields_few : (v : ValueOf enc_ap_rep_part) → fields v ≤ 37 + key_size v.1.1.0 + part_more v
fields_few v = omega (arith, field_few (natural_size v.1.0) (natural_few v.1.0), maybe_few v.1.1.1.0)

pub without_key : (v : ValueOf enc_ap_rep_part) → (reply_fields v).subkey ≡ None → size_of enc_ap_rep_part v ≤ 41 + with_lengths (part_more v)
without_key v none =
    let key : key_size v.1.1.0 ≡ 0 = ap key_size none in
    few_add (fields v) (part_more v) (omega (arith, fields_few v, key))

pub with_key : (v : ValueOf enc_ap_rep_part) (key : ValueOf encryption_key) → (reply_fields v).subkey ≡ Some key
    → size_of enc_ap_rep_part v ≤ 82 + part_more v + length (bytes_of key)
with_key v key some =
    let has : key_size v.1.1.0 ≡ size_of (field 0 encryption_key) key = ap key_size some in
    let few : fields v ≤ length (bytes_of key) + 70 + part_more v = omega (arith, fields_few v, has, key_adds key) in
    let outer = field_adds (fields v) (length (bytes_of key) + 70 + part_more v) few in
    omega (arith, outer)

pub reply : (v : ValueOf ap_rep) → size_of ap_rep v ≤ 64 + reply_more v + length (encrypted_fields (reply_enc_part v)).cipher
reply v =
    let part = reply_enc_part v in
    let n = length (encrypted_fields part).cipher in
    let inner = size_after 3 (fields_of encrypted_data) part in
    let outer = size_after 3 (fields_of ap_rep) v in
    let etype = field_few (integer_size part.0) (integer_few part.0) in
    let kvno = maybe_few part.1.0 in
    let cipher = field_adds n n (omega arith) in
    let all : content_size encrypted_data part ≤ n + 30 + inner = omega (arith, etype, kvno, cipher) in
    let wrapped = field_adds (content_size encrypted_data part) (n + 30 + inner) all in
    let row = 5 + (5 + (element_size (element_size (content_size encrypted_data part)) + outer)) in
    let few : row ≤ n + 52 + reply_more v = omega (arith, wrapped) in
    let whole = field_adds row (n + 52 + reply_more v) few in
    omega (arith, whole)
