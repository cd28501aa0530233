use Rattle.std.proofs.Common.{rules}
use Rattle.krb_ccache.proofs.CredentialLaws.{made_spells}
use Rattle.krb_ccache.proofs.credential.Credential.from_row.Goals as goal

pub returns : goal.returns
returns c = λ layout raw is fits. made_spells layout raw _ fits (search rules)
