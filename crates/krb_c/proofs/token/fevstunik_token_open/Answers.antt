use Rattle.std.proofs.Common.{inr, refl}
use Rattle.krb_c.specs.Tokens.{HasTokenFault}
use Rattle.krb_c.proofs.token.fevstunik_token_open.Goals as goal

pub returns-in-Err : goal.returns-in-Err
returns-in-Err c =
    let fault : HasTokenFault c.args.token.now c.token_told.result = record {
      fault = c.in-Err.fault;
      is_fault = c.in-Err.ensures.faulty;
      answer_is = c.token_told.ensures;
    } in inr (fault, (refl, refl))
