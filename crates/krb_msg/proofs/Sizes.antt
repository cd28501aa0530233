-- How many bytes the fields after those that a law speaks of add to a message.
use Rattle.std.specs.Prelude.{ℕ, zero, suc, ◌+◌}
use Rattle.krb_der.specs.Kind.{Kind, leaf, wrapped, sequence, Fields, ends, must, may, each, ValueOf, FieldsOf}
use Rattle.krb_der.specs.Size.{fields_size}
use Rattle.krb_msg.specs.Module.{encrypted_data, ap_rep, enc_ap_rep_part}
use Rattle.krb_msg.specs.Fields.{reply_enc_part}

abbrev pub fields_of : Kind → Fields
fields_of (leaf c) = ends
fields_of (wrapped tag k) = fields_of k
fields_of (sequence fs) = fs

-- the size of the fields after the first n
abbrev pub size_after : ℕ → (fs : Fields) → FieldsOf fs → ℕ
size_after zero fs v = fields_size fs v
size_after (suc n) ends v = 0
size_after (suc n) (must k fs) v = size_after n fs v.1
size_after (suc n) (may k fs) v = size_after n fs v.1
size_after (suc n) (each k) v = 0

-- with what the two lengths around such fields can grow by
abbrev pub with_lengths : ℕ → ℕ
with_lengths zero = 0
with_lengths (suc n) = suc n + 8

-- The size of the fields after seq-number in the sealed part of a reply, and of those after the last
-- ones of a reply and of its sealed data. Each is 0, since the standard has no such fields.
abbrev pub part_more : ValueOf enc_ap_rep_part → ℕ
part_more v = size_after 4 (fields_of enc_ap_rep_part) v

abbrev pub reply_more : ValueOf ap_rep → ℕ
reply_more v = size_after 3 (fields_of ap_rep) v + size_after 3 (fields_of encrypted_data) (reply_enc_part v)
