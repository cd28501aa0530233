use Rattle.krb_ccache.proofs.AnswerLaws.{taken_same}
use Rattle.krb_ccache.proofs.laws.each_credential_ends_at_one_place.Goals as goal

pub returns : goal.returns
returns c = λ whole left right layout also at here one other h k same. taken_same whole left right layout also at here one other h k same
