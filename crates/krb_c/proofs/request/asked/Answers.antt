use Rattle.std.proofs.Common.{inr, refl, subst, sym}
use Rattle.krb_ap.specs.Request.{Awaited}
use Rattle.krb_ap.specs.declared.request.RequestFault.TheVariants.{OutOfMemory}
use Rattle.krb_c.specs.Request.{IsRequestFor, ask, moment_of}
use Rattle.krb_c.proofs.Requests.{asked_with, options_of, request_at, requested_ticket}
use Rattle.krb_c.proofs.request.asked.Goals as goal

pub returns-in-Ok-new-clause-asks : goal.returns-in-Ok-new-clause-asks
returns-in-Ok-new-clause-asks c =
    let a = ask c.args.cache.now c.args.given.now.service.now c.args.given.now.at.now c.args.given.now.choice.now c.args.given.now.subkey.now c.args.given.now.context in
    let options = options_of a c.in_ok-subkey.subkey c.seq.result in
    subst (λ (awaited : Awaited). IsRequestFor a c.args.given.now.confounder.now c.in-Ok.made.0.items awaited) (sym c.in-Ok-new.ensures.ok) (record {
      service = c.in_ok-service.service;
      options = options;
      asked = asked_with a _ _ _ c.in_ok-service.ensures.name c.in-Some.ensures.0 c.in_ok-subkey.ensures.chosen c.seq.ensures;
      size = c.in_ok-confounder.ensures.size;
      request = request_at a.cache c.in_ok-service.service c.in-Some.now (moment_of a.at) c.in_ok-confounder.confounder c.args.given.now.confounder.now options _ _
          c.in-Some.ensures.1 c.in_ok-confounder.ensures.made c.in-Ok.ensures.request;
    })

pub returns-clause-fault : goal.returns-clause-fault
returns-clause-fault c =
    let a = ask c.args.cache.now c.args.given.now.service.now c.args.given.now.at.now c.args.given.now.choice.now c.args.given.now.subkey.now c.args.given.now.context in
    let options = options_of a c.in_ok-subkey.subkey c.seq.result in
    inr (
      (_, c.in_ok-service.ensures.name),
      inr (
        c.in-Some.ensures.0,
        inr (
          c.in_ok-confounder.ensures.size,
          inr (record {
            service = c.in_ok-service.service;
            options = options;
            asked = asked_with a _ _ _ c.in_ok-service.ensures.name c.in-Some.ensures.0 c.in_ok-subkey.ensures.chosen c.seq.ensures;
            fault = OutOfMemory;
            prevents = λ other. absurd (other refl);
            memory = λ _. requested_ticket a.cache c.in_ok-service.service c.in-Some.now (moment_of a.at) c.in_ok-confounder.confounder c.args.given.now.confounder.now options _ _
                (request_at a.cache c.in_ok-service.service c.in-Some.now (moment_of a.at) c.in_ok-confounder.confounder c.args.given.now.confounder.now options _ _
                c.in-Some.ensures.1 c.in_ok-confounder.ensures.made c.in-Ok.ensures.request);
            answer_is = c.request_told-in-Err-new.ensures;
          }),
        ),
      ),
    )
