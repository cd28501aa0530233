use Rattle.std.proofs.Common.{ℕ, List, length, subst}
use Rattle.krb_ccache.specs.Inner.Standing.{Leaves}
use Rattle.krb_ccache.proofs.part.CredentialPart.behind.Goals as goal

pub returns : goal.returns
returns c = subst (λ (bytes : List ℕ). Leaves c.args.left (length bytes) c.behind.result) c.row.ensures.spelled c.behind.ensures
