use Rattle.krb_file.proofs.CursorLaws.{IsField-i16, IsField-i32}
use Rattle.krb_file.proofs.laws.signed_numbers_are_fields.Goals as goal

pub returns-clause-i16 : goal.returns-clause-i16
returns-clause-i16 c = IsField-i16

pub returns-clause-i32 : goal.returns-clause-i32
returns-clause-i32 c = IsField-i32
