-- What `finish` prints: what a client and its service agree on by the reply to a request of `request`, or why there is nothing.
use Rattle.std.specs.Prelude.{◌≡◌, ⊤, ℕ, ℤ, true, List, [], ◌∷◌, ◌++◌, Option, Some, None, codes, replicate}
use Rattle.std.specs.Fmt.{decimal, signed_decimal}
use Rattle.krb_name.specs.Text.{text_of}
use Rattle.krb_name.specs.declared.principal.Principal.{Principal}
use Rattle.krb_ccache.specs.Format.{IsCache, IsFaultOf}
use Rattle.krb_ccache.specs.Value.{Cache}
use Rattle.krb_msg.specs.declared.key.RawKey.{RawKey}
use Rattle.krb_ap.specs.Request.{Awaited, HasGoodTicket, IsRequest, Prevents}
use Rattle.krb_ap.specs.Finish.{FinishCause, IsAgreed, IsReplyOfType, agreement_of}
use Rattle.krb_ap.specs.declared.finish.Agreed.{Agreed}
use Rattle.krb_ap.specs.declared.finish.FinishFault.{FinishFault}
use Rattle.krb_ap.specs.declared.request.RequestFault.{RequestFault}
use Rattle.krb_ap.specs.declared.finish.FinishFault.TheVariants as finish
use Rattle.krb_ap.specs.declared.request.RequestFault.TheVariants as request
use Rattle.krb_file_commands.specs.Engine.{OfFile}
use Rattle.krb_client_commands.specs.Requesting.{plain_options}
use Rattle.krb_client_commands.specs.declared.fault.ClientFault.{ClientFault}
use Rattle.krb_client_commands.specs.declared.fault.ClientFault.TheVariants as of
use Rattle.krb_client_commands.specs.declared.finish.Replied.{Replied}

-- the request's own confounder isn't known any more; what is awaited doesn't depend on it
abbrev pub no_confounder : List ℕ
no_confounder = replicate 16 0

-- this is awaited since the request of this moment
pub record IsPending (cache : Cache) (service : Principal) (at : ℤ) (awaited : Awaited) : Type 0 where
  pub bytes : List ℕ
  pub request : IsRequest cache service at no_confounder (plain_options true) bytes awaited

-- there is no such request, for this reason
abbrev pub IsUnasked : Cache → Principal → ℤ → RequestFault → Type 0
IsUnasked cache service at fault = Prevents cache service at no_confounder (plain_options true) fault

-- the reply to it is refused, for this reason
pub record IsRefusedReply (cache : Cache) (service : Principal) (at : ℤ) (reply : List ℕ) (fault : FinishFault) : Type 0 where
  pub awaited : Awaited
  pub pending : IsPending cache service at awaited
  pub cause : FinishCause awaited reply fault

-- the reply to it is a message with the awaited type of key, whatever it is sealed with
pub record IsReadable (cache : Cache) (service : Principal) (at : ℤ) (reply : List ℕ) : Type 0 where
  pub awaited : Awaited
  pub pending : IsPending cache service at awaited
  pub typed : IsReplyOfType awaited reply

-- ---- the line

-- the service's first sequence number, if the reply has one
abbrev pub seq_text : Option ℕ → List ℕ
seq_text None = []
seq_text (Some number) = codes " seq " ++ decimal number

-- the encryption type of the service's subkey, if the reply has one
abbrev pub subkey_text : Option RawKey → List ℕ
subkey_text None = []
subkey_text (Some key) = codes " subkey " ++ signed_decimal key.etype

-- the client, and the encryption type of the session key; and those
abbrev pub agreed_line : Agreed → List ℕ
agreed_line x =
    codes "agreed " ++ (text_of x.client ++ (32 ∷ (signed_decimal x.session_key.etype ++ (seq_text x.service_seq ++ (subkey_text x.service_subkey
    ++ 10 ∷ [])))))

-- this is agreed by the reply
pub record IsAgreement (cache : Cache) (service : Principal) (at : ℤ) (reply : List ℕ) (agreed : Agreed) : Type 0 where
  pub awaited : Awaited
  pub pending : IsPending cache service at awaited
  pub agrees : IsAgreed awaited reply (agreement_of agreed)

-- the line says what is agreed by the reply
pub record IsAgreedLine (cache : Cache) (replied : Replied) (line : List ℕ) : Type 0 where
  pub agreed : Agreed
  pub agreement : IsAgreement cache replied.service replied.at replied.reply.items agreed
  pub line_is : line ≡ agreed_line agreed

-- why nothing is made of a file with these bytes
abbrev pub IsUnfinished : Replied → List ℕ → ClientFault → Type 0
IsUnfinished replied given (of.Cache fault) = IsFaultOf given fault
IsUnfinished replied given (of.Request fault) = (cache : Cache) × (IsCache given cache × IsUnasked cache replied.service replied.at fault)
IsUnfinished replied given (of.Finish fault) = (cache : Cache) × (IsCache given cache × IsRefusedReply cache replied.service replied.at replied.reply.items fault)
IsUnfinished replied given of.OutOfMemory = ⊥

-- memory for the request is asked for only once a credential is chosen and its ticket was read, for the reply only if it is one with the awaited
-- type of key, and for the line once something is agreed
abbrev pub AllowsUnfinished : Replied → Option (List ℕ) → ClientFault → Type 0
AllowsUnfinished replied from (of.Cache fault) = ⊤
AllowsUnfinished replied from (of.Request fault) = fault ≡ request.OutOfMemory → OfFile IsCache from (λ cache. HasGoodTicket cache replied.service replied.at)
AllowsUnfinished replied from (of.Finish fault) = fault ≡ finish.OutOfMemory → OfFile IsCache from (λ cache. IsReadable cache replied.service replied.at replied.reply.items)
AllowsUnfinished replied from of.OutOfMemory =
    OfFile IsCache from (λ cache. (agreed : Agreed) × IsAgreement cache replied.service replied.at replied.reply.items agreed)
