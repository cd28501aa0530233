-- The keys that a direction holds, and what a side of a context holds.
use Rattle.std.specs.Prelude.{◌≡◌, ℕ, Bool, Option}
use Rattle.krb_enc.specs.Key.{KeyValue, UsageKeyValue}
use Rattle.krb_context.specs.Side.{Sender, seal_usage}
use Rattle.krb_context.specs.Sequence.{Known}
use Rattle.krb_context.specs.Context.{State}
use Rattle.krb_context.specs.declared.agreed.Options.{Options}
use Rattle.krb_context.specs.declared.role.Role.{Role}

abbrev pub sender_of : KeyValue → Role → Bool → Sender
sender_of key side subkey = record { key = key; side = side; acceptor_subkey = subkey }

-- the key of a side's Wrap tokens, and its usage
abbrev pub seal_key : Sender → UsageKeyValue
seal_key sender = record { key = sender.key; usage = seal_usage sender.side }

-- what protects the Wrap tokens is of the side and the key of the MIC tokens
pub record IsPrepared (mics : Sender) (checksums sealing : UsageKeyValue) : Type 0 where
  pub checksums_are : checksums ≡ seal_key mics
  pub sealing_is : sealing ≡ seal_key mics

abbrev pub state_of : Sender → Options → Option ℕ → Known → State
state_of sender options next window = record { sender = sender; options = options; next = next; window = window }
