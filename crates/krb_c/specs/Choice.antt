-- What a side chooses: a subkey, a sequence number, whether a reply is wanted; and which keys and
-- confounders are invalid.
use Rattle.std.specs.Prelude.{◌≡◌, ◌≢◌, ◌⊎◌, ℕ, ℤ, pos, Bool, true, false, List, length, Option, Some, None}
use Rattle.krb_enc.specs.Key.{KeyValue, IsKnown, IsUsable, profile_of}
use Rattle.krb_enc.specs.Opens.{HasTag, IsShort, Opens}
use Rattle.krb_enc.specs.Sealed.{checksum_of, sealed}
use Rattle.krb_ap.specs.Answer.{taken_of}
use Rattle.krb_ap.specs.Reply.{IsReply}
use Rattle.krb_ap.specs.declared.accepted.Accepted.{Accepted}
use Rattle.krb_c.specs.Answer.{Delivers, plain}
use Rattle.krb_c.specs.Codes.{bad_confounder, key_length, key_type, nothing_there, ok, out_of_memory, text_integrity, text_short}
use Rattle.krb_c.specs.declared.structs.Answer.{Answer}
use Rattle.krb_c.specs.declared.structs.Choice.{Choice}

abbrev pub key_value : ℤ → List ℕ → KeyValue
key_value etype bytes = record { etype = etype; bytes = bytes }

-- why a type and bytes aren't a key, and why bytes aren't a confounder
abbrev pub IsKeyFault : ℤ → List ℕ → Answer → Type 0
IsKeyFault etype bytes answer = (¬ IsKnown etype × (answer ≡ plain key_type)) ⊎ ((IsKnown etype × ¬ IsUsable (key_value etype bytes)) × (answer ≡ plain key_length))

abbrev pub IsConfounderFault : List ℕ → Answer → Type 0
IsConfounderFault confounder answer = (length confounder ≢ 16) × (answer ≡ plain bad_confounder)

-- type 0 asks for no subkey
abbrev pub IsChosen : ℤ → List ℕ → Option KeyValue → Type 0
IsChosen etype bytes None = etype ≡ pos 0
IsChosen etype bytes (Some key) = (etype ≢ pos 0) × ((key ≡ key_value etype bytes) × IsUsable key)

-- a subkey is asked for, and its type and bytes aren't a key
abbrev pub IsSubkeyFault : Choice → List ℕ → Answer → Type 0
IsSubkeyFault choice subkey answer = (choice.subkey_type ≢ pos 0) × IsKeyFault choice.subkey_type subkey answer

abbrev pub HasSubkey : Choice → List ℕ → Type 0
HasSubkey choice subkey = (key : Option KeyValue) × IsChosen choice.subkey_type subkey key

abbrev pub seq_if : Bool → ℕ → Option ℕ
seq_if true seq = Some seq
seq_if false seq = None

abbrev pub seq_of : Choice → Option ℕ
seq_of choice = seq_if choice.has_seq choice.seq

-- the reply to what was accepted, with a confounder of 16 bytes and the chosen subkey and number
pub record Replied (accepted : Accepted) (confounder : List ℕ) (choice : Choice) (subkey bytes : List ℕ) : Type 0 where
  pub key : Option KeyValue
  pub chosen : IsChosen choice.subkey_type subkey key
  pub size : length confounder ≡ 16
  pub reply : IsReply (taken_of accepted) confounder (record { subkey = key; seq = seq_of choice }) bytes

-- why there is no reply: the first that holds
abbrev pub IsReplyFault : List ℕ → Choice → List ℕ → Answer → Type 0
IsReplyFault confounder choice subkey answer =
    IsConfounderFault confounder answer
    ⊎ ((length confounder ≡ 16) × (IsSubkeyFault choice subkey answer ⊎ (HasSubkey choice subkey × (answer ≡ plain out_of_memory))))

-- a sealed text
pub record SealsTo (key : KeyValue) (usage : ℕ) (confounder plain_text text : List ℕ) : Type 0 where
  pub usable : IsUsable key
  pub size : length confounder ≡ 16
  pub text_is : text ≡ sealed (profile_of key) key.bytes usage confounder plain_text

-- why there is no sealed text: the first that holds
abbrev pub IsSealFault : KeyValue → List ℕ → Answer → Type 0
IsSealFault key confounder answer =
    IsKeyFault key.etype key.bytes answer ⊎ (IsUsable key × IsConfounderFault confounder answer)

-- an opened text, and why a text isn't opened: the first that holds
abbrev pub OpensTo : KeyValue → ℕ → List ℕ → List ℕ → Type 0
OpensTo key usage text plain_text = IsUsable key × Opens (profile_of key) key.bytes usage text plain_text

abbrev pub IsOpenFault : KeyValue → ℕ → List ℕ → Answer → Type 0
IsOpenFault key usage text answer =
    IsKeyFault key.etype key.bytes answer ⊎ (IsUsable key × ((IsShort (profile_of key) text × (answer ≡ plain text_short))
    ⊎ ((¬ IsShort (profile_of key) text) × ((¬ HasTag (profile_of key) key.bytes usage text) × (answer ≡ plain text_integrity)))))

-- a tag is the checksum of a text, or it isn't
abbrev pub IsChecked : KeyValue → ℕ → List ℕ → List ℕ → Answer → Type 0
IsChecked key usage text tag answer =
    IsKeyFault key.etype key.bytes answer ⊎ (IsUsable key × (((tag ≡ checksum_of (profile_of key) key.bytes usage text) × (answer ≡ plain ok))
    ⊎ ((tag ≢ checksum_of (profile_of key) key.bytes usage text) × (answer ≡ plain text_integrity))))

-- the reply to what was accepted is returned, or the reason is reported
abbrev pub TellsReply : Option Accepted → List ℕ → Choice → List ℕ → List ℕ → List ℕ → Answer → Type 0
TellsReply None confounder choice subkey old new answer = (answer ≡ plain nothing_there) × (new ≡ old)
TellsReply (Some accepted) confounder choice subkey old new answer =
    Delivers (Replied accepted confounder choice subkey) (IsReplyFault confounder choice subkey) old new answer
