-- How keys hold the bytes of a base key, beside a key of HMAC as one block.
use Rattle.std.specs.Prelude.{◌≡◌, ℕ, pos, List}
use Rattle.krb_kdf.specs.Hmac.{block_key}
use Rattle.krb_kdf.specs.declared.purpose.Purpose.TheVariants.{Kc, Ki}
use Rattle.krb_enc.specs.Sealed.{encryption_key, mac_key}
use Rattle.krb_enc.specs.Key.{KeyValue, IsUsable, profile_of}
use Rattle.krb_enc.specs.declared.key_bytes.KeyBytes.{KeyBytes}
use Rattle.krb_enc.specs.declared.key_bytes.KeyBytes.TheVariants.{Short, Long}

abbrev pub value_of : KeyBytes → KeyValue
value_of (Short bytes _) = record { etype = pos 19; bytes = bytes }
value_of (Long bytes _) = record { etype = pos 20; bytes = bytes }

abbrev pub mac_of : KeyBytes → List ℕ
mac_of (Short _ mac) = mac
mac_of (Long _ mac) = mac

-- the key of HMAC is Ki of the usage, and the schedule is that of Ke
pub record IsReadyFor (held : KeyBytes) (usage : ℕ) (schedule : List ℕ) : Type 0 where
  pub usable : IsUsable (value_of held)
  pub mac : mac_of held ≡ block_key (profile_of (value_of held)).hash (mac_key (profile_of (value_of held)) (value_of held).bytes usage Ki)
  pub schedule_is : schedule ≡ encryption_key (profile_of (value_of held)) (value_of held).bytes usage

-- the key of HMAC is Kc of the usage
pub record IsReadyForChecksums (held : KeyBytes) (usage : ℕ) : Type 0 where
  pub usable : IsUsable (value_of held)
  pub mac : mac_of held ≡ block_key (profile_of (value_of held)).hash (mac_key (profile_of (value_of held)) (value_of held).bytes usage Kc)
