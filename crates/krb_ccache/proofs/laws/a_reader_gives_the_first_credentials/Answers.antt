use Rattle.krb_ccache.proofs.AnswerLaws.{taken_first}
use Rattle.krb_ccache.proofs.laws.a_reader_gives_the_first_credentials.Goals as goal

pub returns : goal.returns
returns c = λ whole left layout at cache all h k. taken_first whole left layout at cache all h k
