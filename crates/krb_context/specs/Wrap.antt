-- Wrap tokens (RFC 4121, sections 4.2.3 to 4.2.5 and 4.2.6.2). Texts and tokens are lists of bytes; sequence numbers are below 2 ^ 64.
use Rattle.std.specs.Prelude.{◌≡◌, ◌<◌, ◌^◌, ◌%◌, ◌-◌, ◌+◌, ℕ, List, ◌∷◌, ◌++◌, length, take, drop, Bool, true, false, if◌then◌else◌}
use Rattle.std.specs.Int.{w16, w64, to_be_bytes}
use Rattle.krb_enc.specs.Key.{profile_of}
use Rattle.krb_enc.specs.Sealed.{sealed, checksum_of}
use Rattle.krb_enc.specs.Opens.{Opens}
use Rattle.krb_context.specs.Side.{Sender, HasFlags, flags_of, seal_usage}

-- TOK_ID 05 04, the flags, a byte FF, EC, RRC, SND_SEQ (section 4.2.6.2)
abbrev pub wrap_header : ℕ → ℕ → ℕ → ℕ → List ℕ
wrap_header flags extra rotation number =
    5 ∷ 4 ∷ flags ∷ 255 ∷ (to_be_bytes w16 extra ++ (to_be_bytes w16 rotation ++ to_be_bytes w64 number))

-- what comes after the header, rotated to the right by RRC bytes (section 4.2.5)
abbrev pub rotated : ℕ → List ℕ → List ℕ
rotated rotation body =
    drop (length body - rotation % length body) body ++ take (length body - rotation % length body) body

-- what is encrypted: the text, EC bytes of filler, and the header with an RRC of 0 (section 4.2.4)
abbrev pub sealed_text : ℕ → ℕ → List ℕ → List ℕ → List ℕ
sealed_text flags number text filler = text ++ (filler ++ wrap_header flags (length filler) 0 number)

-- a token with confidentiality
pub record IsSealed (sender : Sender) (number : ℕ) (text token : List ℕ) : Type 0 where
  pub flags : ℕ
  pub has_flags : HasFlags sender true flags
  pub fits : number < 2 ^ 64
  pub rotation : ℕ
  pub rotation_fits : rotation < 2 ^ 16
  pub filler : List ℕ
  pub filler_fits : length filler < 2 ^ 16
  pub body : List ℕ
  pub opens : Opens (profile_of sender.key) sender.key.bytes (seal_usage sender.side) body (sealed_text flags number text filler)
  pub whole : token ≡ wrap_header flags (length filler) rotation number ++ rotated rotation body

-- the checksum of a token without confidentiality, of the text and the header with EC and RRC of 0 (section 4.2.4)
abbrev pub wrap_checksum : Sender → ℕ → ℕ → List ℕ → List ℕ
wrap_checksum sender flags number text =
    checksum_of (profile_of sender.key) sender.key.bytes (seal_usage sender.side) (text ++ wrap_header flags 0 0 number)

-- a token without confidentiality: EC is the length of the checksum (section 4.2.3)
pub record IsInPlain (sender : Sender) (number : ℕ) (text token : List ℕ) : Type 0 where
  pub flags : ℕ
  pub has_flags : HasFlags sender false flags
  pub fits : number < 2 ^ 64
  pub rotation : ℕ
  pub rotation_fits : rotation < 2 ^ 16
  pub whole : token ≡ wrap_header flags (profile_of sender.key).tag_len rotation number
      ++ rotated rotation (text ++ wrap_checksum sender flags number text)

-- the token is the sender's, of the text with this number
abbrev pub IsWrap : Sender → Bool → ℕ → List ℕ → List ℕ → Type 0
IsWrap sender true number text token = IsSealed sender number text token
IsWrap sender false number text token = IsInPlain sender number text token

-- what a sender writes: no filler, and an RRC of 0, or another one
abbrev pub sealed_token : Sender → List ℕ → ℕ → List ℕ → List ℕ
sealed_token sender confounder number text =
    wrap_header (flags_of sender true) 0 0 number
    ++ sealed (profile_of sender.key) sender.key.bytes (seal_usage sender.side) confounder (text ++ wrap_header (flags_of sender true) 0 0 number)

abbrev pub plain_token : Sender → ℕ → List ℕ → List ℕ
plain_token sender number text =
    wrap_header (flags_of sender false) (profile_of sender.key).tag_len 0 number
    ++ (text ++ wrap_checksum sender (flags_of sender false) number text)

abbrev pub rotated_token : Sender → ℕ → List ℕ → ℕ → List ℕ → List ℕ
rotated_token sender rotation confounder number text =
    wrap_header (flags_of sender true) 0 rotation number
    ++ rotated rotation (sealed (profile_of sender.key) sender.key.bytes (seal_usage sender.side) confounder (text ++ wrap_header (flags_of sender true) 0 0 number))

-- sealed and rotated, or in plain
abbrev pub wrap_token : Sender → Bool → ℕ → List ℕ → ℕ → List ℕ → List ℕ
wrap_token sender true rotation confounder number text = rotated_token sender rotation confounder number text
wrap_token sender false rotation confounder number text = plain_token sender number text

-- how much longer than its text a token is that a sender writes: a sealed one has two headers, a confounder and a tag, one in plain a header
-- and a checksum
abbrev pub wrap_overhead : Sender → Bool → ℕ
wrap_overhead sender is_sealed = (if is_sealed then 48 else 16) + (profile_of sender.key).tag_len
