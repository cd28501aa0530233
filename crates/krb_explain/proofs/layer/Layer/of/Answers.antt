use Rattle.std.proofs.Common.{◌≡◌, Bool, true, false, List, ℕ, sym, subst}
use Rattle.std.specs.Prelude.{if◌then◌else◌}
use Rattle.krb_gss.specs.declared.fault.TokenFault.{TokenFault}
use Rattle.krb_gss.specs.Fault.{IsTokenFault}
use Rattle.krb_gss.specs.Answered.{IsAnswerFault}
use Rattle.krb_explain.specs.Layer.{IsFaultOf}
use Rattle.krb_der.specs.Place.{begins}
use Rattle.krb_explain.proofs.layer.Layer.of.Goals as goal

-- the fault is that of what the bytes begin as
of_begin : (b : Bool) (bytes : List ℕ) (answer token fault : TokenFault) → IsAnswerFault bytes answer → IsTokenFault bytes token
    → fault ≡ (if b then answer else token) → IsFaultOf b bytes fault
of_begin true bytes answer token fault of_answer of_token is = subst (λ (other : TokenFault). IsAnswerFault bytes other) (sym is) of_answer
of_begin false bytes answer token fault of_answer of_token is = subst (λ (other : TokenFault). IsTokenFault bytes other) (sym is) of_token

pub returns-in-None : goal.returns-in-None
returns-in-None c = record {
  no_token = λ wrapping mechanism request is. c.in-Err.ensures.only wrapping mechanism request is;
  no_answer = λ wrapping mechanism answer is. c.in-Err-open_answer.ensures.only wrapping mechanism answer is;
  no_verdict = λ verdict is. c.in-None.ensures verdict is;
  fault_is = of_begin (begins 0xa1 c.args.bytes.now) c.args.bytes.now c.in-Err-open_answer.other c.in-Err.fault c.fault_of.result
      c.in-Err-open_answer.ensures.faulty c.in-Err.ensures.faulty c.fault_of.ensures;
}
