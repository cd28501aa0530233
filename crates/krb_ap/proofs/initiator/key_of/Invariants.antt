use Rattle.krb_ap.proofs.initiator.key_of.Given as goal

-- nothing is known of the keys before
abbrev pub invariant-loop-key : goal.invariant-loop-key
invariant-loop-key l = Unit {0}
