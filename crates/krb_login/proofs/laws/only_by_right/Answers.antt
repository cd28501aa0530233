use Rattle.krb_login.proofs.Following.{given_by_right}
use Rattle.krb_login.proofs.laws.only_by_right.Goals as goal

pub returns : goal.returns
returns c = λ call decision accepted. given_by_right call decision accepted
