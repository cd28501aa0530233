-- The client's side: a cache that is kept, and a request from one of its credentials.
use Rattle.std.specs.Prelude.{◌≡◌, ◌≢◌, ◌⊎◌, ℕ, ℤ, List, [], length, Option, Some, Ok, Err}
use Rattle.std.specs.Str.{IsUtf8}
use Rattle.krb_name.specs.Reading.{IsReadAs}
use Rattle.krb_name.specs.declared.principal.Principal.{Principal}
use Rattle.krb_name.specs.declared.text_fault.TextFault.{TextFault}
use Rattle.krb_name.specs.declared.text_fault.TextFault.TheVariants as text
use Rattle.krb_time.specs.Moments.{micros_of}
use Rattle.krb_ccache.specs.Format.{IsCache, IsFaultOf}
use Rattle.krb_ccache.specs.Value.{Cache}
use Rattle.krb_ccache.specs.declared.fault.CacheFault.{CacheFault}
use Rattle.krb_ccache.specs.declared.fault.CacheFault.TheVariants as file
use Rattle.krb_ap.specs.Request.{Awaited, HasGoodTicket, IsRequest, Prevents}
use Rattle.krb_ap.specs.declared.request.ContextRequest.{ContextRequest}
use Rattle.krb_ap.specs.declared.request.RequestOptions.{RequestOptions}
use Rattle.krb_ap.specs.declared.request.RequestFault.{RequestFault}
use Rattle.krb_ap.specs.declared.request.RequestFault.TheVariants as request
use Rattle.krb_c.specs.Service.{IsMomentOf}
use Rattle.krb_c.specs.Answer.{Hands, plain, placed, sized}
use Rattle.krb_c.specs.Choice.{IsChosen, IsConfounderFault, IsSubkeyFault, seq_of}
use Rattle.krb_c.specs.Codes.{bad_moment, bad_text, bad_ticket, credential_expired, file_bad_item, file_header, file_version, no_credential, no_realm, no_usable_key, not_read, not_utf8, ok, out_of_memory, too_long}
use Rattle.krb_c.specs.declared.structs.Answer.{Answer}
use Rattle.krb_c.specs.declared.structs.Time.{Time}
use Rattle.krb_c.specs.declared.structs.ContextChoice.{ContextChoice}
use Rattle.krb_c.specs.declared.structs.Choice.{Choice}

-- ---- faults

abbrev pub cache_answer : CacheFault → Answer
cache_answer file.Version = plain file_version
cache_answer file.Header = plain file_header
cache_answer (file.BadItem at) = placed file_bad_item at
cache_answer file.TooLong = plain too_long
cache_answer file.Read = plain not_read
cache_answer file.OutOfMemory = plain out_of_memory

abbrev pub name_answer : TextFault → Answer
name_answer (text.BadText at) = placed bad_text at
name_answer text.NoRealm = plain no_realm
name_answer text.OutOfMemory = plain out_of_memory

abbrev pub request_answer : RequestFault → Answer
request_answer request.NoCredential = plain no_credential
request_answer request.NoUsableKey = plain no_usable_key
request_answer request.Expired = plain credential_expired
request_answer request.BadTicket = plain bad_ticket
request_answer request.TooLong = plain too_long
request_answer request.OutOfMemory = plain out_of_memory

abbrev pub HasCache : List ℕ → Type 0
HasCache bytes = (cache : Cache) × IsCache bytes cache

abbrev pub HasName : List ℕ → Type 0
HasName bytes = (name : Principal) × IsReadAs bytes (Ok name)

-- why no cache is read: a fault of the bytes, or lack of memory for bytes that are a cache
pub record HasCacheFault (bytes : List ℕ) (answer : Answer) : Type 0 where
  pub fault : CacheFault
  pub holds : fault ≢ file.OutOfMemory → IsFaultOf bytes fault
  pub memory : fault ≡ file.OutOfMemory → HasCache bytes
  pub answer_is : answer ≡ cache_answer fault

-- why a text isn't a name's
pub record HasNameFault (bytes : List ℕ) (answer : Answer) : Type 0 where
  pub fault : TextFault
  pub utf8 : IsUtf8 bytes
  pub holds : IsReadAs bytes (Err fault)
  pub answer_is : answer ≡ name_answer fault

abbrev pub IsNameFault : List ℕ → Answer → Type 0
IsNameFault bytes answer = HasNameFault bytes answer ⊎ ((¬ IsUtf8 bytes) × (answer ≡ plain not_utf8))

-- a service is named by a text that isn't a name's
abbrev pub IsUnnamed : List ℕ → Answer → Type 0
IsUnnamed text answer = (text ≢ []) × IsNameFault text answer

-- the text of a name, and how many components it has; or why it isn't a name's
abbrev pub IsNameChecked : List ℕ → Answer → Type 0
IsNameChecked bytes answer =
    ((name : Principal) × (IsReadAs bytes (Ok name) × (answer ≡ sized ok (length name.components))))
    ⊎ (IsNameFault bytes answer × (answer ≢ plain out_of_memory))

-- ---- what is passed

-- a cache, the service's text, the moment, what the client chooses, and what a client of GSS-API asks
-- for, if it is one
pub record Ask : Type 0 where
  pub cache : Cache
  pub service : List ℕ
  pub at : Time
  pub choice : Choice
  pub subkey : List ℕ
  pub context : Option ContextRequest

abbrev pub ask : Cache → List ℕ → Time → Choice → List ℕ → Option ContextRequest → Ask
ask cache service at choice subkey context =
    record { cache = cache; service = service; at = at; choice = choice; subkey = subkey; context = context }

-- what a client of GSS-API asks for
abbrev pub context_for : ContextChoice → ContextRequest
context_for choice = record { flags = choice.flags; bindings = choice.bindings }

abbrev pub moment_of : Time → ℤ
moment_of at = micros_of at.seconds at.micros

-- what it is read as
pub record IsAsked (a : Ask) (service : Principal) (options : RequestOptions) : Type 0 where
  pub service_is : IsReadAs a.service (Ok service)
  pub at_is : IsMomentOf a.at
  pub chosen : IsChosen a.choice.subkey_type a.subkey options.subkey
  pub seq_is : options.seq ≡ seq_of a.choice
  pub reply : options.«mutual» ≡ a.choice.wants_reply
  pub context_is : options.context ≡ a.context

-- ---- the request

-- the bytes are a request for what is passed, and this is awaited of the reply
pub record IsRequestFor (a : Ask) (confounder bytes : List ℕ) (awaited : Awaited) : Type 0 where
  pub service : Principal
  pub options : RequestOptions
  pub asked : IsAsked a service options
  pub size : length confounder ≡ 16
  pub request : IsRequest a.cache service (moment_of a.at) confounder options bytes awaited

-- there is no request, for this reason; out of memory only with a ticket
pub record HasRequestFault (a : Ask) (confounder : List ℕ) (answer : Answer) : Type 0 where
  pub service : Principal
  pub options : RequestOptions
  pub asked : IsAsked a service options
  pub fault : RequestFault
  pub prevents : fault ≢ request.OutOfMemory → Prevents a.cache service (moment_of a.at) confounder options fault
  pub memory : fault ≡ request.OutOfMemory → HasGoodTicket a.cache service (moment_of a.at)
  pub answer_is : answer ≡ request_answer fault

abbrev pub IsMomentFault : Time → Answer → Type 0
IsMomentFault at answer = (¬ IsMomentOf at) × (answer ≡ plain bad_moment)

-- there is no request: the first fault that holds
abbrev pub IsAskFault : Ask → List ℕ → Answer → Type 0
IsAskFault a confounder answer =
    IsNameFault a.service answer
    ⊎ (HasName a.service × (IsMomentFault a.at answer
    ⊎ (IsMomentOf a.at × (IsConfounderFault confounder answer
    ⊎ ((length confounder ≡ 16) × (IsSubkeyFault a.choice a.subkey answer
    ⊎ HasRequestFault a confounder answer))))))

-- a request is returned, and what is awaited is kept; or the reason is reported, and what was kept
-- is unchanged
abbrev pub Sends : Ask → List ℕ → Option Awaited → Option Awaited → List ℕ → List ℕ → Answer → Type 0
Sends a confounder was is old new answer =
    ((bytes : List ℕ) × ((awaited : Awaited) × (IsRequestFor a confounder bytes awaited × ((is ≡ Some awaited) × Hands bytes old new answer))))
    ⊎ (IsAskFault a confounder answer × ((is ≡ was) × (new ≡ old)))

-- the bytes are a cache, which is kept, and how many credentials it has; or the reason is reported,
-- and what was kept is unchanged
abbrev pub Keeps : List ℕ → Option Cache → Option Cache → Answer → Type 0
Keeps bytes was is answer =
    ((cache : Cache) × (IsCache bytes cache × ((answer ≡ sized ok (length cache.credentials)) × (is ≡ Some cache))))
    ⊎ (HasCacheFault bytes answer × (is ≡ was))
