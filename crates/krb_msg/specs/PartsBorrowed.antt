-- The values of names, keys and other parts of messages that are read in place.
use Rattle.krb_der.specs.Kind.{leaf, octets, ValueOf}
use Rattle.krb_msg.specs.Parts.{name_value, typed_value, principal_name, typed}
use Rattle.krb_msg.specs.declared.name.NameRef.{NameRef}
use Rattle.krb_msg.specs.declared.typed.TypedRef.{TypedRef}
use Rattle.krb_msg.specs.declared.key.KeyRef.{KeyRef}

abbrev pub name_of : NameRef → ValueOf principal_name
name_of n = name_value n.name_type n.components

abbrev pub typed_of : TypedRef → ValueOf (typed (leaf octets))
typed_of t = typed_value t.kind t.bytes.now

abbrev pub key_of : KeyRef → ValueOf (typed (leaf octets))
key_of k = typed_value k.etype k.bytes.now
