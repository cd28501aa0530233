use Rattle.std.proofs.Common.{◌∙◌, sym}
use Rattle.std.proofs.lemmas.Result.{IfOk-weaker}
use Rattle.krb_ccache.specs.Inner.Reading.{name_at}
use Rattle.krb_ccache.proofs.Fields.{nothing_made}
use Rattle.krb_ccache.proofs.FileLaws.{name_lies, name_missing}
use Rattle.krb_ccache.proofs.leading.PrincipalLeading.read.Goals as goal

pub returns-clause-read : goal.returns-clause-read
returns-clause-read c = IfOk-weaker c.read.result _ _ (λ name read. name_lies c.args.cursor.now name c.read.new.cursor c.requires (sym (nothing_made (name_at c.args.cursor.now)) ∙ read)) c.read.ensures.read

pub returns-clause-missing : goal.returns-clause-missing
returns-clause-missing c = λ missing. name_missing c.args.cursor.now (sym (nothing_made (name_at c.args.cursor.now)) ∙ c.read.ensures.missing missing)
