use Rattle.std.proofs.Common.{arith}
use Rattle.krb_c.proofs.ServiceLaws.{cache_there}
use Rattle.krb_c.proofs.cache.cache_of.Goals as goal

pub returns-in-Err-clause-fault : goal.returns-in-Err-clause-fault
returns-in-Err-clause-fault c = let some = c.each_file_has_one_answer.ensures.some c.args.bytes.now (λ i. omega (arith, c.type_inv.bytes i)) in record {
  fault = c.in-Err.fault;
  holds = c.in-Err.ensures.fault;
  memory = cache_there c.args.bytes.now c.in-Err.fault some.0 some.1 c.in-Err.ensures.faulty;
  answer_is = c.cache_told.ensures;
}
