use Rattle.std.proofs.Common.{ℤ, sym, subst}
use Rattle.krb_ap.specs.declared.refusal.Refusal.TheVariants.{Authorization}
use Rattle.krb_login.specs.Login.{HasCause, IsRefusedSo}
use Rattle.krb_login.specs.declared.cause.Cause.{Cause}
use Rattle.krb_login.proofs.LoginLaws.{is_some_asked, not_none}
use Rattle.krb_login.proofs.service.turn_away.Goals as goal

pub returns-clause-cause : goal.returns-clause-cause
returns-clause-cause c for_service call taken holds at accept first =
    let asked = c.asked_of-asked.ensures for_service in
    subst (λ (cause : Cause). HasCause call c.refused_as.result cause) (sym c.refused_as.ensures.cause) (
      c.args.carrier,
      (
        c.args.request.now,
        (
          taken,
          (
            holds,
            (
              accept,
              (
                first,
                (
                  subst (λ (now : ℤ). IsRefusedSo now c.args.carrier c.args.request.now Authorization c.refused_as.result) (sym at)
                      (c.refused_as.ensures.so c.args.request.now (is_some_asked c.args.request.now _ asked)),
                  not_none c.args.request.now _ _ c.refused_as.ensures.asked asked,
                ),
              ),
            ),
          ),
        ),
      ),
    )
