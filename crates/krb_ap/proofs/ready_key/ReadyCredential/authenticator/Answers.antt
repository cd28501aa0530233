use Rattle.std.proofs.Common.{refl, subst, ℕ, ◌<◌}
use Rattle.krb_der.specs.Kind.{ValueOf}
use Rattle.krb_der.specs.Size.{size_of}
use Rattle.krb_der.specs.Spells.{limit}
use Rattle.krb_msg.specs.Module.{authenticator as authenticator_kind}
use Rattle.krb_ap.specs.Written.{IsWritten}
use Rattle.krb_ap.specs.Opened.{authenticator_usage}
use Rattle.krb_ap.specs.Credentials.{credential_key}
use Rattle.krb_ap.proofs.Building.{copied, sealed_by, untold}
use Rattle.krb_ap.proofs.ready_key.ReadyCredential.authenticator.Goals as goal

pub returns-in-Err-TooLong-clause-fault : goal.returns-in-Err-TooLong-clause-fault
returns-in-Err-TooLong-clause-fault c = λ named. (
  refl,
  untold c.writing.ensures c.args.self.now.credential.now c.args.at c.args.options.now c.parts-ctime.result.0 c.parts-ctime.result.1 c.parts-ctime.ensures
      (subst (λ (n : ℕ). n < 1_000_000) c.get.ensures.value c.get.ensures.range)
      (subst (λ (v : ValueOf authenticator_kind). limit < size_of authenticator_kind v)
      (copied c.in_ok-clone.field-0 c.args.self.now.credential.now c.parts-ctime.result.0 c.parts-ctime.result.1 _ _ c.args.options.now c.in_ok-clone.ensures.cases c.in_ok-checksum_of.ensures c.in_ok-raw_key.ensures.value)
      ((rw c.in-Err-TooLong.field-0-is at c.in-Err-TooLong.ensures.too_long) refl)),
)

pub returns-clause-sealed : goal.returns-clause-sealed
returns-clause-sealed c = record {
  plain = c.in-Ok.plain.items;
  told = record {
    ctime = c.parts-ctime.result.0;
    cusec = c.parts-ctime.result.1;
    at_is = c.parts-ctime.ensures;
    micros = subst (λ (n : ℕ). n < 1_000_000) c.get.ensures.value c.get.ensures.range;
    plain_is = subst (λ (v : ValueOf authenticator_kind). IsWritten authenticator_kind v c.in-Ok.plain.items)
        (copied c.in_ok-clone.field-0 c.args.self.now.credential.now c.parts-ctime.result.0 c.parts-ctime.result.1 _ _ c.args.options.now c.in_ok-clone.ensures.cases c.in_ok-checksum_of.ensures c.in_ok-raw_key.ensures.value)
        (record { message = c.in-Ok.ensures.ok; written = c.in-Ok.ensures.written });
  };
  text_is = sealed_by _ _ (credential_key c.args.self.now.credential.now) authenticator_usage _ _ _ _ c.args.self.now.key.now.keys_are c.args.self.now.key_is c.deref.ensures.value c.in_ok-cipher.ensures.sealed;
}
