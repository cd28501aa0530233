use Rattle.krb_file.proofs.CursorLaws.{IsField-data16, IsField-data32}
use Rattle.krb_file.proofs.laws.data_are_fields.Goals as goal

pub returns-clause-data16 : goal.returns-clause-data16
returns-clause-data16 c = IsField-data16

pub returns-clause-data32 : goal.returns-clause-data32
returns-clause-data32 c = IsField-data32
