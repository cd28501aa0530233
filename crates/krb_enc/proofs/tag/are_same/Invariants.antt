use Rattle.krb_enc.proofs.Compared.{SameSoFar}
use Rattle.krb_enc.proofs.tag.are_same.Given as goal

abbrev pub invariant-loop-i : goal.invariant-loop-i
invariant-loop-i l = SameSoFar l.differing l.i l.one l.other
