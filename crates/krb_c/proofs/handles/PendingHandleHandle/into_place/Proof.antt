-- Made from interface.toml by `make generate`. Don't edit this file.
-- `into_place` moves the fields (`Moved`).
use Rattle.std.proofs.Common.{◌≡◌, refl}
use base.Logic.{emp}
use contract.Monad.{fact_i}
use denote.Exit.{yes}
use denote.Signature.{plain}
use Rattle.core.proofs.alloc.Calls.{Goes-blank}
use Rattle.krb_ap.specs.contracts.finish.Pending.{the_row as V}
use Rattle.krb_c.specs.contracts.place.Place as place
use Rattle.krb_c.specs.contracts.handles.PendingHandle as handle
use Rattle.krb_c.specs.contracts.handles.PendingHandleHandle.into_place.{clauses}
use Rattle.krb_c.specs.contracts.handles.PendingHandleHandle.into_place.Key.{name}
use Rattle.krb_c.proofs.Move.{moved}
use Rattle.krb_c.proofs.handles.PendingHandleHandle.into_place.Statement.{statement}
use Rattle.krb_c.proofs.handles.PendingHandleHandle.into_place.Code as code

pub into_place_spec : {M : Type 1} → statement M
into_place_spec 𝓤 𝓛 𝓜 𝓡 wired =
    moved V handle.the_row (place.the_row V) 𝓛 𝓜 𝓡 (place.the_type V).name handle.the_type.name (λ d. record { at = d.at; alloc = d.alloc; value = d.value }) (λ d. record { at = d.at; alloc = d.alloc; value = d.value }) (λ d vs. refl) (λ d vs. refl) (λ d. _)
    (Goes-blank 𝓛 0 (plain (λ _. handle.the_row)) yes (λ κs x f. tt), tt) (clauses 𝓛 𝓜.mem 𝓡.returns) (λ κs a g e. fact_i 𝓤 (a.0.value ≡ a.0.value) (emp 𝓤) refl) name (code.unfolded 𝓤 𝓛.H 𝓜 𝓡 wired)
