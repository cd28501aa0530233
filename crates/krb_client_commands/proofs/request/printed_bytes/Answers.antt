use Rattle.std.proofs.Common.{List, ℕ, subst}
use Rattle.krb_file_commands.proofs.FaultLaws.{if_err_map, if_ok_map, on_ok_map}
use Rattle.krb_client_commands.proofs.RequestLaws.{longer_token, no_token_fits, request_asked, ticket_read, token_asked, token_fits}
use Rattle.krb_client_commands.specs.Requesting.{IsTokenOf}
use Rattle.krb_client_commands.proofs.request.printed_bytes.Goals as goal

pub returns-in-Some-clause-bytes : goal.returns-in-Some-clause-bytes
returns-in-Some-clause-bytes c = if_ok_map c.token_of.result
    (λ token holds. token_asked c.args.cache.now c.args.asked.now c.in-Some.wrapping c.in_ok-request.request.items token.items c.in-Some.is
    c.in_ok-request.ensures.request (subst (λ (r : List ℕ). IsTokenOf c.in-Some.wrapping r token.items) c.deref.ensures.value holds))
    c.token_of.ensures.token

pub returns-in-Some-clause-fault : goal.returns-in-Some-clause-fault
returns-in-Some-clause-fault c = if_err_map c.token_of.result
    (λ fault holds apart. longer_token c.args.cache.now c.args.asked.now c.in-Some.wrapping c.in_ok-request.request.items fault c.in-Some.is
    c.in_ok-request.ensures.request (rw c.deref.ensures.value at (holds apart)))
    c.token_of.ensures.fault

pub returns-in-None-clause-bytes : goal.returns-in-None-clause-bytes
returns-in-None-clause-bytes c =
    request_asked c.args.cache.now c.args.asked.now c.in_ok-request.request.items c.in-None.is c.in_ok-request.ensures.request

pub returns-in-Some-clause-memory : goal.returns-in-Some-clause-memory
returns-in-Some-clause-memory c = λ _. ticket_read c.args.cache.now c.args.asked.now c.in_ok-request.request.items c.in_ok-request.ensures.request

pub returns-in-Some-clause-fits : goal.returns-in-Some-clause-fits
returns-in-Some-clause-fits c = on_ok_map c.token_of.result
    (λ within. token_fits c.built_or_prevented.ensures.one c.args.cache.now c.args.asked.now c.in-Some.wrapping c.in_ok-request.request.items c.in-Some.is
    c.in_ok-request.ensures.request (rw c.deref.ensures.value at within)) c.token_of.ensures.fits

pub returns-in-None-clause-fits : goal.returns-in-None-clause-fits
returns-in-None-clause-fits c = no_token_fits c.args.cache.now c.args.asked.now c.in-None.is
