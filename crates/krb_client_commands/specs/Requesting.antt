-- What `request` prints: a request, or a token of GSS-API that holds it.
use Rattle.std.specs.Prelude.{◌≡◌, ◌<◌, ⊤, ℕ, Bool, List, [], ◌∷◌, ◌++◌, Option, Some, None, codes, length, replicate}
use Rattle.hex.specs.Hex.{encode_lower}
use Rattle.krb_ccache.specs.Format.{IsCache, IsFaultOf}
use Rattle.krb_ccache.specs.Value.{Cache}
use Rattle.krb_der.specs.Spells.{limit}
use Rattle.krb_gss.specs.Token.{IsToken}
use Rattle.krb_gss.specs.Wrapping.{WritesRequest, request_size}
use Rattle.krb_gss.specs.declared.mechanism.Mechanism.TheVariants.{Kerberos, Microsoft, Draft}
use Rattle.krb_gss.specs.declared.opening.Wrapping.{Wrapping}
use Rattle.krb_gss.specs.declared.opening.Wrapping.TheVariants.{Bare, Negotiated}
use Rattle.krb_ap.specs.Request.{Awaited, HasGoodTicket, IsRequest, Prevents}
use Rattle.krb_ap.specs.declared.request.ContextRequest.{ContextRequest}
use Rattle.krb_ap.specs.declared.request.RequestOptions.{RequestOptions}
use Rattle.krb_ap.specs.declared.request.RequestFault.{RequestFault}
use Rattle.krb_ap.specs.declared.request.RequestFault.TheVariants.{OutOfMemory, TooLong}
use Rattle.krb_file_commands.specs.Engine.{OfFile}
use Rattle.krb_client_commands.specs.declared.fault.ClientFault.{ClientFault}
use Rattle.krb_client_commands.specs.declared.fault.ClientFault.TheVariants as of
use Rattle.krb_client_commands.specs.declared.request.Asked.{Asked}

-- what the program chooses: whether a reply is asked for, and neither a subkey nor a sequence number
abbrev pub plain_options : Bool → RequestOptions
plain_options wants_reply = record { «mutual» = wants_reply; subkey = None; seq = None; context = None }

-- what a client of GSS-API asks for besides a reply: nothing; and there are no bindings
abbrev pub plain_context : ContextRequest
plain_context = record { flags = 0; bindings = replicate 16 0 }

-- in a token the request has a sequence number, 0, and what its client asks for (RFC 4121, section 4.1.1)
abbrev pub chosen_options : Bool → Option Wrapping → RequestOptions
chosen_options wants_reply None = plain_options wants_reply
chosen_options wants_reply (Some wrapping) = record { «mutual» = wants_reply; subkey = None; seq = Some 0; context = Some plain_context }

-- the bytes are the request that is built with the cache
pub record IsRequested (cache : Cache) (asked : Asked) (bytes : List ℕ) : Type 0 where
  pub awaited : Awaited
  pub request : IsRequest cache asked.service asked.at asked.confounder (chosen_options asked.wants_reply asked.wrapping) bytes awaited

-- the bytes are a token in this wrapping that holds the request; it gives Kerberos its own name
pub record IsTokenOf (wrapping : Wrapping) (request bytes : List ℕ) : Type 0 where
  pub token : IsToken wrapping Kerberos request bytes
  pub written : WritesRequest wrapping Kerberos request bytes

-- what is printed for a request: it, or a token
abbrev pub IsPrintedFor : Option Wrapping → List ℕ → List ℕ → Type 0
IsPrintedFor None request bytes = bytes ≡ request
IsPrintedFor (Some wrapping) request bytes = IsTokenOf wrapping request bytes

-- the bytes are what is asked for of the cache
pub record IsAskedFor (cache : Cache) (asked : Asked) (bytes : List ℕ) : Type 0 where
  pub request : List ℕ
  pub requested : IsRequested cache asked request
  pub printed : IsPrintedFor asked.wrapping request bytes

-- the request is built, and the token that would hold it is too long
pub record IsTokenTooLong (cache : Cache) (asked : Asked) : Type 0 where
  pub wrapping : Wrapping
  pub request : List ℕ
  pub wrapping_is : asked.wrapping ≡ Some wrapping
  pub requested : IsRequested cache asked request
  pub longer : limit < request_size wrapping (length request)

-- something prevents the request that is asked for
abbrev pub PreventsAsked : Cache → Asked → RequestFault → Type 0
PreventsAsked cache asked fault = Prevents cache asked.service asked.at asked.confounder (chosen_options asked.wants_reply asked.wrapping) fault

-- why nothing is printed
pub data IsUnprinted (cache : Cache) (asked : Asked) (fault : RequestFault) : Type 0 where
  prevented : PreventsAsked cache asked fault → IsUnprinted cache asked fault
  token_too_long : IsTokenTooLong cache asked → fault ≡ TooLong → IsUnprinted cache asked fault

-- its line, in lower-case hexadecimal digits
abbrev pub request_line : List ℕ → List ℕ
request_line bytes = encode_lower bytes ++ 10 ∷ []

-- the line is made of the cache
pub record IsRequestLine (cache : Cache) (asked : Asked) (line : List ℕ) : Type 0 where
  pub bytes : List ℕ
  pub asked_for : IsAskedFor cache asked bytes
  pub line_is : line ≡ request_line bytes

-- why nothing is made of a file with these bytes
abbrev pub IsUnrequested : Asked → List ℕ → ClientFault → Type 0
IsUnrequested asked given (of.Cache fault) = IsFaultOf given fault
IsUnrequested asked given (of.Request fault) = (cache : Cache) × (IsCache given cache × IsUnprinted cache asked fault)
IsUnrequested asked given _ = ⊥

-- memory for the request or its token is asked for only once a credential is chosen and its ticket was read, and for the line once they are made
abbrev pub AllowsUnrequested : Asked → Option (List ℕ) → ClientFault → Type 0
AllowsUnrequested asked from (of.Cache fault) = ⊤
AllowsUnrequested asked from (of.Request fault) = fault ≡ OutOfMemory → OfFile IsCache from (λ cache. HasGoodTicket cache asked.service asked.at)
AllowsUnrequested asked from (of.Finish fault) = ⊥
AllowsUnrequested asked from of.OutOfMemory = OfFile IsCache from (λ cache. (bytes : List ℕ) × IsAskedFor cache asked bytes)

-- the word for a token: one of Kerberos alone, or in a negotiation that names Kerberos
abbrev pub IsTokenWord : List ℕ → Wrapping → Type 0
IsTokenWord word Bare = word ≡ codes "gss"
IsTokenWord word (Negotiated Kerberos) = word ≡ codes "spnego"
IsTokenWord word (Negotiated Microsoft) = ⊥
IsTokenWord word (Negotiated Draft) = ⊥
