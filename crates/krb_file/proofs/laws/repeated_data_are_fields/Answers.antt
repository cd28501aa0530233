use Rattle.std.proofs.Common.{◌^◌, ◌<◌, length}
use Rattle.std.specs.Int.{w16, w32}
use Rattle.krb_file.specs.Cursor.{data_at, data_bytes}
use Rattle.krb_file.proofs.CursorLaws.{IsField-data16, IsField-data32}
use Rattle.krb_file.proofs.Repeated.{IsField-times}
use Rattle.krb_file.proofs.laws.repeated_data_are_fields.Goals as goal

pub returns-clause-data16 : goal.returns-clause-data16
returns-clause-data16 c = IsField-times (data_at w16) (data_bytes w16) (λ bytes. length bytes < 2 ^ 16) IsField-data16

pub returns-clause-data32 : goal.returns-clause-data32
returns-clause-data32 c = IsField-times (data_at w32) (data_bytes w32) (λ bytes. length bytes < 2 ^ 32) IsField-data32
