use Rattle.std.proofs.Common.{◌≡◌, ◌++◌, ℕ, List, subst}
use Rattle.std.specs.Prelude.{OnOk}
use Rattle.krb_ccache.proofs.part.CredentialPart.write.Goals as goal

pub write-requires : goal.write-requires
write-requires c = c.row.ensures.fits c.requires

pub returns : goal.returns
returns c = subst (λ (bytes : List ℕ). OnOk c.write.result (c.write.new.out.items ≡ c.args.out.now.items ++ bytes)) c.row.ensures.spelled c.write.ensures
