use Rattle.krb_file.proofs.CursorLaws.{IsField-u8, IsField-u16, IsField-u32}
use Rattle.krb_file.proofs.laws.numbers_are_fields.Goals as goal

pub returns-clause-u8 : goal.returns-clause-u8
returns-clause-u8 c = IsField-u8

pub returns-clause-u16 : goal.returns-clause-u16
returns-clause-u16 c = IsField-u16

pub returns-clause-u32 : goal.returns-clause-u32
returns-clause-u32 c = IsField-u32
