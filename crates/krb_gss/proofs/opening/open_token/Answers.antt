use Rattle.std.proofs.Common.{sym, ap}
use Rattle.krb_gss.specs.declared.mechanism.Mechanism.{Mechanism}
use Rattle.krb_gss.specs.declared.opening.Wrapping.{Wrapping}
use Rattle.krb_gss.specs.Token.{IsMessage}
use Rattle.krb_gss.proofs.ReadLaws.{reads-wrapped}
use Rattle.krb_gss.proofs.OpenLaws.{AsToken, fault-at-exit, unread-only, unread-faulty, unheld-only, unheld-faulty, whole-found, one-whole, one_request}
use Rattle.krb_gss.proofs.opening.open_token.Goals as goal

pub returns-in_err-wrapping-clause-only : goal.returns-in_err-wrapping-clause-only
returns-in_err-wrapping-clause-only c w m message t = absurd (unread-only AsToken reads-wrapped (IsMessage 0x01) c.args.bytes.now (sym c.in_err-wrapping.ensures) (w, m) message t)

pub returns-in_err-wrapping-clause-faulty : goal.returns-in_err-wrapping-clause-faulty
returns-in_err-wrapping-clause-faulty c = fault-at-exit _ _ c.from_residual.ensures.1 (unread-faulty AsToken reads-wrapped (IsMessage 0x01) c.args.bytes.now (sym c.in_err-wrapping.ensures))

pub returns-in_err-request-clause-only : goal.returns-in_err-request-clause-only
returns-in_err-request-clause-only c w m message t = absurd (unheld-only AsToken reads-wrapped (IsMessage 0x01) c.args.bytes.now (sym c.in_ok-wrapping.ensures) c.in_err-request.ensures.faulty (w, m) message t)

pub returns-in_err-request-clause-faulty : goal.returns-in_err-request-clause-faulty
returns-in_err-request-clause-faulty c = fault-at-exit _ _ c.from_residual-in_err-request.ensures.1 (unheld-faulty AsToken reads-wrapped (IsMessage 0x01) c.args.bytes.now (sym c.in_ok-wrapping.ensures) c.in_err-request.ensures.faulty)

pub returns-clause-found : goal.returns-clause-found
returns-clause-found c = whole-found AsToken reads-wrapped (IsMessage 0x01) c.args.bytes.now (sym c.in_ok-wrapping.ensures) c.in_ok-request.request.now c.in_ok-request.ensures.found

pub returns-clause-only : goal.returns-clause-only
returns-clause-only c w m message t =
    let s = one-whole AsToken reads-wrapped (IsMessage 0x01) c.args.bytes.now (sym c.in_ok-wrapping.ensures) one_request c.in_ok-request.request.now c.in_ok-request.ensures.found (w, m) message t in
    record { wrapping_is = ap (λ (x : Wrapping × Mechanism). x.0) s.0; mechanism_is = ap (λ (x : Wrapping × Mechanism). x.1) s.0; request_is = s.1 }
