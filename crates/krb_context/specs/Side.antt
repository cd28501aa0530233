-- The two sides of a context: flags and key usages of what they send (RFC 4121, sections 2 and 4.2.2).
use Rattle.std.specs.Prelude.{◌≡◌, ℕ, ◌+◌, ◌<◌, ◌%◌, Bool, if◌then◌else◌}
use Rattle.krb_enc.specs.Key.{KeyValue}
use Rattle.krb_context.specs.declared.role.Role.{Role}
use Rattle.krb_context.specs.declared.role.Role.TheVariants.{Initiator, Acceptor}

abbrev pub peer_of : Role → Role
peer_of Initiator = Acceptor
peer_of Acceptor = Initiator

-- what protects the tokens that one side sends: the context's key, the side, and whether the key is a subkey that the acceptor asserted
pub record Sender : Type 0 where
  pub key : KeyValue
  pub side : Role
  pub acceptor_subkey : Bool

-- what the other side of the context sends is protected alike
abbrev pub peer_sender : Sender → Sender
peer_sender sender = record { key = sender.key; side = peer_of sender.side; acceptor_subkey = sender.acceptor_subkey }

-- KG-USAGE-ACCEPTOR-SIGN and KG-USAGE-INITIATOR-SIGN (section 2)
abbrev pub sign_usage : Role → ℕ
sign_usage Acceptor = 23
sign_usage Initiator = 25

-- KG-USAGE-ACCEPTOR-SEAL and KG-USAGE-INITIATOR-SEAL (section 2)
abbrev pub seal_usage : Role → ℕ
seal_usage Acceptor = 22
seal_usage Initiator = 24

-- SentByAcceptor, bit 0 (section 4.2.2)
abbrev pub sender_flag : Role → ℕ
sender_flag Initiator = 0
sender_flag Acceptor = 1

-- the flags: SentByAcceptor, Sealed (bit 1), AcceptorSubkey (bit 2) (section 4.2.2)
abbrev pub flags_of : Sender → Bool → ℕ
flags_of sender is_sealed =
    sender_flag sender.side + (if is_sealed then 2 else 0) + (if sender.acceptor_subkey then 4 else 0)

-- these flags are the sender's; a receiver ignores the other five bits of the byte (section 4.2.2)
pub record HasFlags (sender : Sender) (is_sealed : Bool) (flags : ℕ) : Type 0 where
  pub byte : flags < 256
  pub known : flags % 8 ≡ flags_of sender is_sealed
