use Rattle.std.proofs.Common.{[], refl}
use Rattle.krb_msg.proofs.Messages.{same_kind}
use Rattle.krb_msg.proofs.laws.one_type.Goals as goal

pub returns-clause-kind : goal.returns-clause-kind
returns-clause-kind c = λ k l m n v w bytes s t. same_kind k l m n v w bytes bytes [] [] s t refl
