use Rattle.std.proofs.Common.{◌≡◌, map, take}
use Rattle.krb_keytab.specs.declared.holes.Hole.{Hole}
use Rattle.krb_keytab.proofs.holes.sizes_of.Given as goal

abbrev pub invariant-loop-hole : goal.invariant-loop-hole
invariant-loop-hole l = l.sizes.items ≡ map (λ (hole : Hole). hole.size) (take l.hole-index l.holes)
