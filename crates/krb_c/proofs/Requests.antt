-- A request at another name of its moment and of its confounder, and what it is asked with.
use Rattle.std.proofs.Common.{◌≡◌, ℤ, ℕ, List, Option, refl, subst}
use Rattle.std.specs.Prelude.{◌≢◌, Ok}
use Rattle.krb_enc.specs.Key.{KeyValue}
use Rattle.krb_name.specs.Reading.{IsReadAs}
use Rattle.krb_name.specs.declared.principal.Principal.{Principal}
use Rattle.krb_ccache.specs.Value.{Cache}
use Rattle.krb_ap.specs.Request.{Awaited, HasGoodTicket, IsRequest, Prevents}
use Rattle.krb_ap.specs.declared.request.RequestOptions.{RequestOptions}
use Rattle.krb_ap.specs.declared.request.RequestFault.{RequestFault}
use Rattle.krb_ap.specs.declared.request.RequestFault.TheVariants.{OutOfMemory}
use Rattle.krb_c.specs.Choice.{IsChosen, seq_of}
use Rattle.krb_c.specs.Request.{Ask, IsAsked}
use Rattle.krb_c.specs.Service.{IsMomentOf}

abbrev pub options_of : Ask → Option KeyValue → Option ℕ → RequestOptions
options_of a subkey seq = record { «mutual» = a.choice.wants_reply; subkey = subkey; seq = seq; context = a.context }

pub asked_with : (a : Ask) (service : Principal) (subkey : Option KeyValue) (seq : Option ℕ) → IsReadAs a.service (Ok service) → IsMomentOf a.at
    → IsChosen a.choice.subkey_type a.subkey subkey → seq ≡ seq_of a.choice → IsAsked a service (options_of a subkey seq)
asked_with a service subkey seq named moment chosen is = record {
  service_is = named;
  at_is = moment;
  chosen = chosen;
  seq_is = is;
  reply = refl;
  context_is = refl;
}

module _ (cache : Cache) (service : Principal) (at other : ℤ) (block confounder : List ℕ) (options : RequestOptions) where
  pub request_at : (bytes : List ℕ) (awaited : Awaited) → at ≡ other → block ≡ confounder → IsRequest cache service at block options bytes awaited
      → IsRequest cache service other confounder options bytes awaited
  request_at bytes awaited same alike request =
      subst (λ (m : ℤ). IsRequest cache service m confounder options bytes awaited) same
      (subst (λ (k : List ℕ). IsRequest cache service at k options bytes awaited) alike request)

  pub prevents_at : (fault : RequestFault) → at ≡ other → block ≡ confounder
      → (fault ≢ OutOfMemory → Prevents cache service at block options fault) → fault ≢ OutOfMemory → Prevents cache service other confounder options fault
  prevents_at fault same alike prevents named =
      subst (λ (m : ℤ). Prevents cache service m confounder options fault) same
      (subst (λ (k : List ℕ). Prevents cache service at k options fault) alike (prevents named))

  -- a request that is built has a ticket
  pub requested_ticket : (bytes : List ℕ) (awaited : Awaited) → IsRequest cache service other confounder options bytes awaited
      → HasGoodTicket cache service other
  requested_ticket bytes awaited request = record {
    credential = request.credential;
    used = request.used;
    ticket = request.built.ticket;
    ticket_is = request.built.ticket_is;
  }
