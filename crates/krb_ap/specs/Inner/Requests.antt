-- Why no request is built with a credential.
use Rattle.std.specs.Prelude.{ℕ, ℤ, List}
use Rattle.krb_der.specs.Kind.{ValueOf}
use Rattle.krb_der.specs.Spells.{IsMessage}
use Rattle.krb_msg.specs.Module.{ticket as ticket_kind}
use Rattle.krb_ccache.specs.declared.credential.Credential.{Credential}
use Rattle.krb_ap.specs.Request.{IsBuilt}
use Rattle.krb_ap.specs.declared.request.RequestOptions.{RequestOptions}
use Rattle.krb_ap.specs.declared.request.RequestFault.{RequestFault}
use Rattle.krb_ap.specs.declared.request.RequestFault.TheVariants.{BadTicket, TooLong}

-- the bytes of its ticket are a ticket
abbrev pub HasReadableTicket : Credential → Type 0
HasReadableTicket credential = (ticket : ValueOf ticket_kind) × IsMessage ticket_kind ticket credential.ticket

-- they aren't; or they are, and no bytes are the request
abbrev pub IsUnbuilt : Credential → ℤ → List ℕ → RequestOptions → RequestFault → Type 0
IsUnbuilt credential at confounder options BadTicket = ¬ HasReadableTicket credential
IsUnbuilt credential at confounder options TooLong = HasReadableTicket credential × ((bytes : List ℕ) → ¬ IsBuilt credential at confounder options bytes)
IsUnbuilt credential at confounder options _ = ⊥
