use Rattle.std.proofs.Common.{◌≡◌, subst}
use Rattle.std.specs.Prelude.{◌≢◌, IfErr}
use Rattle.krb_enc.specs.Key.{UsageKeyValue}
use Rattle.krb_ap.specs.Opened.{authenticator_usage}
use Rattle.krb_ap.specs.Inner.Stages.{IsShut, key_in}
use Rattle.krb_ap.specs.declared.refusal.Refusal.TheVariants.{OutOfMemory}
use Rattle.krb_ap.proofs.session_keys.SessionKeys.open.Goals as goal

pub returns-clause-nothing : goal.returns-clause-nothing
returns-clause-nothing c =
    let cached : c.in-Some.keys ≡ record { key = key_in c.args.key.now; usage = authenticator_usage } = cc in
    subst (λ (k : UsageKeyValue). IfErr c.open_under.result (λ refusal. refusal ≢ OutOfMemory → IsShut k.key k.usage c.args.cipher.now))
    cached c.open_under.ensures.nothing
