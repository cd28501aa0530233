use Rattle.krb_file.proofs.CursorLaws.{IsField-bytes}
use Rattle.krb_file.proofs.laws.bytes_are_fields.Goals as goal

pub returns : goal.returns
returns c = IsField-bytes
