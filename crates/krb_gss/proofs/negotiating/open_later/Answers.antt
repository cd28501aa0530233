use Rattle.std.proofs.Common.{sym}
use Rattle.krb_gss.specs.Token.{IsMessage}
use Rattle.krb_gss.specs.Later.{IsGoingOn}
use Rattle.krb_gss.proofs.ReadLaws.{reads-going-on}
use Rattle.krb_gss.proofs.OpenLaws.{fault-at-exit, unread-only, unread-faulty, unheld-only, unheld-faulty, whole-found, one-whole, one_request}
use Rattle.krb_gss.proofs.negotiating.open_later.Goals as goal

pub returns-in_err-mechanism-clause-only : goal.returns-in_err-mechanism-clause-only
returns-in_err-mechanism-clause-only c m request t = absurd (unread-only IsGoingOn reads-going-on (IsMessage 0x01) c.args.bytes.now (sym c.in_err-mechanism.ensures) m request t)

pub returns-in_err-mechanism-clause-faulty : goal.returns-in_err-mechanism-clause-faulty
returns-in_err-mechanism-clause-faulty c = fault-at-exit _ _ c.from_residual.ensures.1 (unread-faulty IsGoingOn reads-going-on (IsMessage 0x01) c.args.bytes.now (sym c.in_err-mechanism.ensures))

pub returns-in_err-request-clause-only : goal.returns-in_err-request-clause-only
returns-in_err-request-clause-only c m request t = absurd (unheld-only IsGoingOn reads-going-on (IsMessage 0x01) c.args.bytes.now (sym c.in_ok-mechanism.ensures) c.in_err-request.ensures.faulty m request t)

pub returns-in_err-request-clause-faulty : goal.returns-in_err-request-clause-faulty
returns-in_err-request-clause-faulty c = fault-at-exit _ _ c.from_residual-in_err-request.ensures.1 (unheld-faulty IsGoingOn reads-going-on (IsMessage 0x01) c.args.bytes.now (sym c.in_ok-mechanism.ensures) c.in_err-request.ensures.faulty)

pub returns-clause-found : goal.returns-clause-found
returns-clause-found c = whole-found IsGoingOn reads-going-on (IsMessage 0x01) c.args.bytes.now (sym c.in_ok-mechanism.ensures) c.in_ok-request.request.now c.in_ok-request.ensures.found

pub returns-clause-only : goal.returns-clause-only
returns-clause-only c m request t =
    let s = one-whole IsGoingOn reads-going-on (IsMessage 0x01) c.args.bytes.now (sym c.in_ok-mechanism.ensures) one_request c.in_ok-request.request.now c.in_ok-request.ensures.found m request t in
    (s.0, s.1)
