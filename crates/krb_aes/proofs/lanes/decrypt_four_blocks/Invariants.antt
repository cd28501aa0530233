use Rattle.std.proofs.Common.{[], get_or}
use Rattle.krb_aes.proofs.InvSteps.{IsUnderWay}
use Rattle.krb_aes.proofs.lanes.decrypt_four_blocks.Given as goal

abbrev pub invariant-loop-round : goal.invariant-loop-round
invariant-loop-round l = record {
  first : IsUnderWay l.schedule (get_or l.blocks 0 []) l.first l.round;
  second : IsUnderWay l.schedule (get_or l.blocks 1 []) l.second l.round;
  third : IsUnderWay l.schedule (get_or l.blocks 2 []) l.third l.round;
  fourth : IsUnderWay l.schedule (get_or l.blocks 3 []) l.fourth l.round;
}
