use Rattle.krb_aes.proofs.InvSteps.{IsUnderWay}
use Rattle.krb_aes.proofs.lanes.decrypt_block.Given as goal

abbrev pub invariant-loop-at : goal.invariant-loop-at
invariant-loop-at l = IsUnderWay l.schedule l.block l.form l.at
