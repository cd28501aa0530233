-- How a key holds its bytes.
use Rattle.std.specs.Prelude.{pos}
use Rattle.krb_enc.specs.Key.{KeyValue}
use Rattle.krb_enc.specs.declared.key.BaseKey.{BaseKey}
use Rattle.krb_enc.specs.declared.key.BaseKey.TheVariants.{Short, Long}

abbrev pub base_of : BaseKey → KeyValue
base_of (Short bytes) = record { etype = pos 19; bytes = bytes }
base_of (Long bytes) = record { etype = pos 20; bytes = bytes }
