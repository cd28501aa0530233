-- The values of names, keys and other parts of owned messages.
use Rattle.std.specs.Prelude.{List, map}
use Rattle.krb_der.specs.Kind.{leaf, octets, ValueOf}
use Rattle.krb_msg.specs.Parts.{name_value, typed_value, principal_name, typed}
pub use Rattle.krb_msg.specs.Parts.{principal_name_of}
use Rattle.krb_msg.specs.declared.name.Name.{Name}
use Rattle.krb_msg.specs.declared.typed.Typed.{Typed}
use Rattle.krb_msg.specs.declared.key.RawKey.{RawKey}

abbrev pub owned_name_of : Name → ValueOf principal_name
owned_name_of n = name_value n.name_type n.components

abbrev pub owned_typed_of : Typed → ValueOf (typed (leaf octets))
owned_typed_of t = typed_value t.kind t.bytes.items

abbrev pub owned_list_of : List Typed → List (ValueOf (typed (leaf octets)))
owned_list_of ts = map owned_typed_of ts

abbrev pub owned_key_of : RawKey → ValueOf (typed (leaf octets))
owned_key_of k = typed_value k.etype k.bytes.items
