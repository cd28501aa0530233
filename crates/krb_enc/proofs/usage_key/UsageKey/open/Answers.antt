use Rattle.krb_enc.specs.Key.{profile_of}
use Rattle.krb_enc.proofs.KeyLaws.{known_profile}
use Rattle.krb_enc.proofs.Opening.{plain_is}
use Rattle.krb_enc.proofs.usage_key.UsageKey.open.Goals as goal

pub returns-in_err-body-clause-found : goal.returns-in_err-body-clause-found
returns-in_err-body-clause-found c plain o = absurd (c.in_err-body.ensures.refused plain o)

pub returns-clause-found : goal.returns-clause-found
returns-clause-found c plain o =
    let key = c.args.self.now.key in
    plain_is (profile_of key) key.bytes c.args.self.now.usage c.args.text.now c.schedule.result.now c.in_ok-body.body.now c.in_ok-decrypted.field-0.items plain (known_profile key)
    c.in_ok-body.ensures.opens c.schedule.ensures c.in_ok-decrypted.ensures o
