-- When two principals have the same name (RFC 4120, sections 6.1 and 6.2), and a hash of names.
use Rattle.std.specs.Prelude.{◌≡◌, ℕ, ◌%◌, ◌^◌}
use Rattle.std.specs.List.{fold}
use Rattle.std.specs.Hash.FoldHasher.{initial, write, finish}
use Rattle.krb_name.specs.declared.principal.Principal.{Principal}

-- realm and components are equal; the name type, which is only a hint, may differ
pub record SameName (one other : Principal) : Type 0 where
  pub realm : one.realm ≡ other.realm
  pub components : one.components ≡ other.components

-- the low 32 bits of that of the realm and the components, by std's FoldHasher; the name type isn't hashed
unfoldable pub name_hash : Principal → ℕ
name_hash name = finish (fold write (write initial name.realm) name.components) % 2 ^ 32
