use Rattle.std.proofs.Common.{◌≡◌}
use Rattle.std.specs.List.{fold}
use Rattle.std.specs.Hash.FoldHasher.{initial, write}
use Rattle.krb_name.proofs.principal.Principal.name_hash.Given as goal

-- with what is left, the hash of all
abbrev pub invariant-loop-component : goal.invariant-loop-component
invariant-loop-component l = fold write l.hasher l.component-iterator ≡ fold write (write initial l.self.realm) l.self.components
