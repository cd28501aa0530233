use Rattle.std.proofs.Common.{subst}
use Rattle.krb_file.proofs.Exits.{err_is}
use Rattle.krb_enc.specs.Key.{IsUsable}
use Rattle.krb_c.specs.Messages.{no_session_key, no_client_subkey, no_service_subkey}
use Rattle.krb_c.proofs.structs.MessageOptions.begin.Goals as goal

pub returns-in_err-session_key-clause-fault : goal.returns-in_err-session_key-clause-fault
returns-in_err-session_key-clause-fault c =
    rw (err_is c.from_residual.result c.from_residual.ensures.1) (no_session_key c.in-Some.role c.in-Some.ensures c.in_err-session_key.ensures.fault)

pub returns-in_err-client_subkey-clause-fault : goal.returns-in_err-client_subkey-clause-fault
returns-in_err-client_subkey-clause-fault c =
    let key = c.in_ok-session_key.ensures in
    let fault = c.in_err-client_subkey.ensures.fault in
    rw (err_is c.from_residual-in_err-client_subkey.result c.from_residual-in_err-client_subkey.ensures.1) (no_client_subkey c.in-Some.role c.in-Some.ensures (subst IsUsable key.made key.usable) fault.0 fault.1)

pub returns-in_err-service_subkey-clause-fault : goal.returns-in_err-service_subkey-clause-fault
returns-in_err-service_subkey-clause-fault c =
    let key = c.in_ok-session_key.ensures in
    let client = c.in_ok-client_subkey in
    let fault = c.in_err-service_subkey.ensures.fault in
    rw (err_is c.from_residual-in_err-service_subkey.result c.from_residual-in_err-service_subkey.ensures.1) (no_service_subkey c.in-Some.role c.in-Some.ensures (subst IsUsable key.made key.usable) (client.field-0, client.ensures.chosen) fault.0 fault.1)
