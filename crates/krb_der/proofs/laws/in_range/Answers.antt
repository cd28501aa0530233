use Rattle.krb_der.proofs.Spelled.{spelled_is}
use Rattle.krb_der.proofs.laws.in_range.Goals as goal

pub returns : goal.returns
returns c = λ k v. (spelled_is k v).fits
