use Rattle.krb_aes.proofs.InvSteps.{IsUnderWay}
use Rattle.krb_aes.proofs.lanes.decrypt_two_blocks.Given as goal

abbrev pub invariant-loop-round : goal.invariant-loop-round
invariant-loop-round l = record {
  one : IsUnderWay l.schedule l.one l.one_form l.round;
  other : IsUnderWay l.schedule l.other l.other_form l.round;
}
