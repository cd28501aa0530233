-- A service that gets a new keytab, and keeps what it has seen.
use Rattle.std.specs.Prelude.{◌≡◌, ◌≢◌, ◌⊎◌, ℕ, Bool, IsTrue, List, [], Option, Some, None, IsSomeAnd}
use Rattle.krb_keytab.specs.Entry.{KeytabEntry}
use Rattle.krb_keytab.specs.Format.{IsKeytab}
use Rattle.krb_ap.specs.Setup.{Arrival, as_decided, with_entries}
use Rattle.krb_c.specs.Service.{Serves, Stands}
use Rattle.krb_c.specs.Answer.{plain}
use Rattle.krb_c.specs.Request.{IsUnnamed}
use Rattle.krb_c.specs.Codes.{empty_handle, no_name, ok}
use Rattle.krb_c.specs.KeytabFile.{HasKeytab, HasKeytabFault}
use Rattle.krb_c.specs.declared.structs.Answer.{Answer}
use Rattle.krb_c.specs.declared.service_state.ServiceState.{ServiceState}

-- the same service with other entries
abbrev pub renewed : ServiceState → List KeytabEntry → ServiceState
renewed state entries = record {
  service = record {
    acceptor = record { setup = with_entries state.service.acceptor.setup entries; memory = state.service.acceptor.memory };
    terms = state.service.terms;
  };
  subkey_type = state.subkey_type;
  is_shared = state.is_shared;
  refusal = state.refusal;
}

-- The bytes are a keytab, and these are its entries of the service of this name (all, if the text
-- is empty).
pub record IsServed (text bytes : List ℕ) (kept : List KeytabEntry) : Type 0 where
  pub entries : List KeytabEntry
  pub keytab : IsKeytab bytes entries
  pub serves : Serves text entries kept

-- nothing but the entries is another, and the memory stands for the same calls
pub record IsRenewed (text bytes : List ℕ) (old new : ServiceState) : Type 0 where
  pub kept : List KeytabEntry
  pub is_served : IsServed text bytes kept
  pub new_is : new ≡ renewed old kept
  pub stands : (history : List Arrival) → Stands old history → Stands new (as_decided old.service.acceptor.setup history)

-- a name is given, or each name of the keytab is to be served
abbrev pub IsNamed : Bool → List ℕ → Type 0
IsNamed any_name text = (text ≢ []) ⊎ IsTrue any_name

-- no keytab is read, or it is one and the text isn't a name
abbrev pub IsUnusable : List ℕ → List ℕ → Answer → Type 0
IsUnusable text bytes answer = HasKeytabFault bytes answer ⊎ (HasKeytab bytes × IsUnnamed text answer)

-- no name is given, or else there are no entries of it
abbrev pub IsNotRenewed : Bool → List ℕ → List ℕ → Answer → Type 0
IsNotRenewed any_name text bytes answer =
    ((¬ IsNamed any_name text) × (answer ≡ plain no_name)) ⊎ (IsNamed any_name text × IsUnusable text bytes answer)

abbrev pub Renews : Bool → List ℕ → List ℕ → ServiceState → ServiceState → Answer → Type 0
Renews any_name text bytes old new answer =
    ((answer ≡ plain ok) × (IsNamed any_name text × IsRenewed text bytes old new)) ⊎ (IsNotRenewed any_name text bytes answer × (new ≡ old))

abbrev pub RenewsHeld : Bool → List ℕ → List ℕ → Option ServiceState → Option ServiceState → Answer → Type 0
RenewsHeld any_name text bytes None new answer = (answer ≡ plain empty_handle) × (new ≡ None)
RenewsHeld any_name text bytes (Some old) new answer = IsSomeAnd new (λ state. Renews any_name text bytes old state answer)
