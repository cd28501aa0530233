use Rattle.std.proofs.Common.{refl}
use Rattle.krb_c.specs.Bindings.{replaced}
use Rattle.krb_c.proofs.service_state.ServiceState.bind.Goals as goal

pub returns-in-Some : goal.returns-in-Some
returns-in-Some c = replaced c.in-Some.bindings c.in-Some.ensures refl c.plain.ensures
