use Rattle.krb_file_commands.proofs.FaultLaws.{err_is}
use Rattle.krb_file_commands.proofs.AddLaws.{not_added, so_far_next}
use Rattle.krb_file_commands.proofs.add.add_in_order.Goals as goal

pub returns-in_err-add_lacking-clause-fault : goal.returns-in_err-add_lacking-clause-fault
returns-in_err-add_lacking-clause-fault c =
    rw (err_is c.from_residual.result c.from_residual.ensures.1)
    (not_added c.args.adder.now c.args.held.now c.args.entries.now c.loop-at.at c.index-entries-at.result c.loop-at.adder c.in_err-add_lacking.field-0.0
    c.requires.held c.loop-at-test.true c.index-entries-at.is c.loop-at.invariant (rw c.requires.keys at c.in_err-add_lacking.ensures.fault))

pub loop-at-preserved : goal.loop-at-preserved
loop-at-preserved c =
    so_far_next c.args.adder.now c.args.held.now c.args.entries.now c.loop-at.at c.index-entries-at.result c.loop-at.adder c.add_lacking.new.adder
    c.loop-at-test.true c.index-entries-at.is c.loop-at.invariant (rw c.requires.keys at c.in_ok-add_lacking.ensures.taken)
