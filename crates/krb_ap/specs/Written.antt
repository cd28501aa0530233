-- What a side writes: a message, and a text that it seals.
use Rattle.std.specs.Prelude.{◌≡◌, ◌<◌, ℕ, List, All, length}
use Rattle.krb_der.specs.Kind.{Kind, ValueOf}
use Rattle.krb_der.specs.Spells.{IsMessage}
use Rattle.krb_der.specs.Writing.{Writes}
use Rattle.krb_enc.specs.Key.{KeyValue, profile_of}
use Rattle.krb_enc.specs.Sealed.{sealed}
use Rattle.krb_msg.specs.Module.{encryption_key}
use Rattle.krb_msg.specs.Fields.{typed_value}

-- the bytes are a message of the kind, exactly as it is written for the value
pub record IsWritten (k : Kind) (value : ValueOf k) (bytes : List ℕ) : Type 0 where
  pub message : IsMessage k value bytes
  pub written : Writes k value bytes

-- the bytes of a plain text, sealed with a confounder of 16 bytes under a key for a usage
pub record IsSealed (key : KeyValue) (usage : ℕ) (confounder plain text : List ℕ) : Type 0 where
  pub size : length confounder ≡ 16
  pub confounder_bytes : All (λ byte. byte < 256) confounder
  pub plain_bytes : All (λ byte. byte < 256) plain
  pub text_is : text ≡ sealed (profile_of key) key.bytes usage confounder plain

-- a key as a message carries it
abbrev pub key_value : KeyValue → ValueOf encryption_key
key_value key = typed_value key.etype key.bytes
