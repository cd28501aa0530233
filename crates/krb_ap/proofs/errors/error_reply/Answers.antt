use Rattle.std.proofs.Common.{ap, refl, subst, sym, ◌∙◌, ℕ, ◌<◌, ℤ}
use Rattle.std.specs.Int.{w32}
use Rattle.std.proofs.lemmas.Int.{to_z-of_z}
use Rattle.krb_der.specs.Kind.{ValueOf}
use Rattle.krb_der.specs.Size.{size_of}
use Rattle.krb_der.specs.Spells.{limit}
use Rattle.krb_msg.specs.Module.{krb_error}
use Rattle.krb_name.specs.declared.principal.Principal.{Principal}
use Rattle.krb_ap.specs.ErrorReply.{error_for}
use Rattle.krb_ap.specs.Written.{IsWritten}
use Rattle.krb_ap.proofs.Codes.{code_fits}
use Rattle.krb_ap.proofs.Replying.{untold_error}
use Rattle.krb_ap.proofs.errors.error_reply.Goals as goal

pub returns-in-Ok-clause-error : goal.returns-in-Ok-clause-error
returns-in-Ok-clause-error c = record {
  code = c.in-Some.code;
  code_is = sym c.code.ensures ∙ c.in-Some.is;
  error = record {
    stime = c.parts-stime.result.0;
    susec = c.parts-stime.result.1;
    now_is = c.parts-stime.ensures;
    micros = subst (λ (n : ℕ). n < 1_000_000) c.get.ensures.value c.get.ensures.range;
    bytes_are = subst (λ (v : ValueOf krb_error). IsWritten krb_error v c.in-Ok.bytes.items)
        (ap (λ (z : ℤ). error_for c.parts-stime.result.0 c.parts-stime.result.1 z c.in_ok-clone.field-0)
        (to_z-of_z w32 c.in-Some.code (code_fits c.args.refusal.now c.in-Some.code (sym c.code.ensures ∙ c.in-Some.is)))
        ∙ ap (λ (p : Principal). error_for c.parts-stime.result.0 c.parts-stime.result.1 c.in-Some.code p) c.in_ok-clone.ensures.cases)
        (record { message = c.in-Ok.ensures.ok; written = c.in-Ok.ensures.written });
  };
}

pub returns-in-Err-TooLong-clause-too_long : goal.returns-in-Err-TooLong-clause-too_long
returns-in-Err-TooLong-clause-too_long c = λ long. record {
  code = c.in-Some.code;
  code_is = sym c.code.ensures ∙ c.in-Some.is;
  unwritten = untold_error c.writing.ensures c.in-Some.code c.args.now c.args.service.now c.parts-stime.result.0 c.parts-stime.result.1 c.parts-stime.ensures
      (subst (λ (n : ℕ). n < 1_000_000) c.get.ensures.value c.get.ensures.range)
      (subst (λ (v : ValueOf krb_error). limit < size_of krb_error v)
      (ap (λ (z : ℤ). error_for c.parts-stime.result.0 c.parts-stime.result.1 z c.in_ok-clone.field-0)
      (to_z-of_z w32 c.in-Some.code (code_fits c.args.refusal.now c.in-Some.code (sym c.code.ensures ∙ c.in-Some.is)))
      ∙ ap (λ (p : Principal). error_for c.parts-stime.result.0 c.parts-stime.result.1 c.in-Some.code p) c.in_ok-clone.ensures.cases)
      ((rw c.in-Err-TooLong.field-0-is at c.in-Err-TooLong.ensures.too_long) refl));
}
