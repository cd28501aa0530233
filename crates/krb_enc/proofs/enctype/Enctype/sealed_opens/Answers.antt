use Rattle.krb_enc.proofs.OnePlain.{sealed_opens, sealed_undone}
use Rattle.krb_enc.proofs.enctype.Enctype.sealed_opens.Goals as goal

pub returns-clause-sealed : goal.returns-clause-sealed
returns-clause-sealed g c key usage confounder plain block bytes =
    sealed_opens g.Self.Enctype.profile key usage confounder plain g.met.Self.Enctype.is_profile block bytes

pub returns-clause-undone : goal.returns-clause-undone
returns-clause-undone g c key usage confounder plain block bytes =
    sealed_undone g.Self.Enctype.profile key usage confounder plain g.met.Self.Enctype.is_profile block bytes
