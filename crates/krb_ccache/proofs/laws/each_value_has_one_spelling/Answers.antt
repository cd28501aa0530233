use Rattle.krb_ccache.proofs.AnswerLaws.{one_value, spelled_again}
use Rattle.krb_ccache.proofs.laws.each_value_has_one_spelling.Goals as goal

pub returns-clause-value : goal.returns-clause-value
returns-clause-value c = one_value

pub returns-clause-again : goal.returns-clause-again
returns-clause-again c = spelled_again
