-- MIC tokens (RFC 4121, sections 4.2.4 and 4.2.6.1). Texts and tokens are lists of bytes; sequence numbers are below 2 ^ 64.
use Rattle.std.specs.Prelude.{◌≡◌, ◌<◌, ◌^◌, ℕ, List, ◌∷◌, ◌++◌, replicate, false}
use Rattle.std.specs.Int.{w64, to_be_bytes}
use Rattle.krb_enc.specs.Key.{profile_of}
use Rattle.krb_enc.specs.Sealed.{checksum_of}
use Rattle.krb_context.specs.Side.{Sender, HasFlags, flags_of, sign_usage}

-- TOK_ID 04 04, the flags, five bytes FF, SND_SEQ (section 4.2.6.1)
abbrev pub mic_header : ℕ → ℕ → List ℕ
mic_header flags number = 4 ∷ 4 ∷ flags ∷ (replicate 5 255 ++ to_be_bytes w64 number)

-- the header, and the checksum of the text and the header after it (section 4.2.4)
abbrev pub mic_with : Sender → ℕ → ℕ → List ℕ → List ℕ
mic_with sender flags number text =
    mic_header flags number
    ++ checksum_of (profile_of sender.key) sender.key.bytes (sign_usage sender.side) (text ++ mic_header flags number)

-- what a sender writes
abbrev pub mic_token : Sender → ℕ → List ℕ → List ℕ
mic_token sender number text = mic_with sender (flags_of sender false) number text

-- the token is the sender's, of the text with this number
pub record IsMic (sender : Sender) (number : ℕ) (text token : List ℕ) : Type 0 where
  pub flags : ℕ
  pub has_flags : HasFlags sender false flags
  pub fits : number < 2 ^ 64
  pub whole : token ≡ mic_with sender flags number text
