-- What a reader knows of a token whose header it has read.
use Rattle.std.specs.Prelude.{◌≡◌, ◌-◌, ◌==◌, ℕ, List, ◌++◌, length, drop, if◌then◌else◌}
use Rattle.krb_enc.specs.Key.{profile_of}
use Rattle.krb_enc.specs.Opens.{Opens}
use Rattle.krb_context.specs.Side.{Sender, HasFlags, sender_flag, seal_usage}
use Rattle.krb_context.specs.Wrap.{wrap_header, wrap_checksum}
use Rattle.krb_context.specs.Faults.{HasRoom, sealed_bit, sender_bit, subkey_bit}
use Rattle.krb_context.specs.declared.fault.MessageFault.{MessageFault}
use Rattle.krb_context.specs.declared.fault.MessageFault.TheVariants.{Defective, Direction, OtherKey, Integrity}
use Rattle.krb_context.specs.declared.header.WrapHeader.{WrapHeader}

-- it is of this sender, and has this header and room for what that says
pub record IsFormed (sender : Sender) (token : List ℕ) (header : WrapHeader) : Type 0 where
  pub whole : token ≡ wrap_header header.flags header.extra header.rotation header.number ++ drop 16 token
  pub has_flags : HasFlags sender (sealed_bit header.flags == 1) header.flags
  pub has_room : HasRoom sender header.flags header.extra (length token - 16)

-- the flags are of another side, or of another key
abbrev pub IsFlagFault : Sender → ℕ → MessageFault → Type 0
IsFlagFault sender flags Defective = ⊥
IsFlagFault sender flags Direction = ¬ (sender_bit flags ≡ sender_flag sender.side)
IsFlagFault sender flags OtherKey =
    (sender_bit flags ≡ sender_flag sender.side) × ¬ (subkey_bit flags ≡ (if sender.acceptor_subkey then 1 else 0))
IsFlagFault sender flags Integrity = ⊥

-- a body opens to the text, filler and the header
pub record OpensTo (sender : Sender) (header : WrapHeader) (body text : List ℕ) : Type 0 where
  pub filler : List ℕ
  pub size : length filler ≡ header.extra
  pub opens : Opens (profile_of sender.key) sender.key.bytes (seal_usage sender.side) body
      (text ++ (filler ++ wrap_header header.flags header.extra 0 header.number))

-- what comes after a header, turned back, holds the text
pub record Holds (sender : Sender) (header : WrapHeader) (body text : List ℕ) : Type 0 where
  pub if_sealed : sealed_bit header.flags ≡ 1 → OpensTo sender header body text
  pub if_plain : sealed_bit header.flags ≡ 0 → body ≡ text ++ wrap_checksum sender header.flags header.number text
