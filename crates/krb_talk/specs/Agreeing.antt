-- The context that an accepted request and its reply agree on, on the service's side (RFC 4121, section 2).
use Rattle.std.specs.Prelude.{◌≡◌, ℕ, Option, Some, None, if◌then◌else◌}
use Rattle.krb_ap.specs.declared.accepted.Accepted.{Accepted}
use Rattle.krb_ap.specs.declared.reply.ReplyOptions.{ReplyOptions}
use Rattle.krb_context.specs.Context.{State, IsBegun}
use Rattle.krb_context.specs.declared.agreed.Agreed.{Agreed}
use Rattle.krb_context.specs.declared.agreed.Options.{Options}
use Rattle.krb_context.specs.declared.role.Role.TheVariants.{Acceptor}
use Rattle.krb_enc.specs.Key.{KeyValue, IsUsable}
use Rattle.krb_msg.specs.declared.key.RawKey.{RawKey}

abbrev pub number_or_0 : Option ℕ → ℕ
number_or_0 (Some number) = number
number_or_0 None = 0

abbrev pub key_in : RawKey → KeyValue
key_in raw = record { etype = raw.etype; bytes = raw.bytes.items }

-- the client's subkey, if it has one, as a key of a context: one of type 19 or 20
abbrev pub IsSubkey : Option RawKey → Option KeyValue → Type 0
IsSubkey None subkey = subkey ≡ None
IsSubkey (Some raw) subkey = (subkey ≡ Some (key_in raw)) × IsUsable (key_in raw)

-- it has one, and it isn't such a key
abbrev pub HasOtherKey : Option RawKey → Type 0
HasOtherKey None = ⊥
HasOtherKey (Some raw) = IsUsable (key_in raw) → ⊥

-- What both sides know: the keys and first numbers of the request, and those of the reply. Without a reply there is no key of the service,
-- and its first number is the client's, as with MIT krb5.
abbrev pub agreed_by : Accepted → ReplyOptions → Option KeyValue → Agreed
agreed_by accepted choice subkey = record {
  session_key = accepted.session_key;
  initiator_subkey = subkey;
  acceptor_subkey = if accepted.mutual then choice.subkey else None;
  initiator_number = number_or_0 accepted.seq;
  acceptor_number = if accepted.mutual then number_or_0 choice.seq else number_or_0 accepted.seq;
}

-- the service's side has sent and taken nothing, and takes tokens as the options say
pub record IsContextOf (accepted : Accepted) (choice : ReplyOptions) (options : Options) (state : State) : Type 0 where
  pub subkey : Option KeyValue
  pub subkey_is : IsSubkey accepted.subkey subkey
  pub begun : IsBegun (agreed_by accepted choice subkey) Acceptor state
  pub options_are : state.options ≡ options
