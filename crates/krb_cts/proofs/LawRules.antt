use Rattle.krb_cts.proofs.Lengths.{length-undo}
use Rattle.krb_cts.proofs.Encrypted.{length-cts}
use Rattle.krb_cts.proofs.Undone.{undo-cts}
use Rattle.krb_cts.proofs.Redone.{cts-undo}
use Rattle.krb_cts.proofs.TextLaws.{IsText-cts, IsText-undo, one_to_one, onto}

pub ruleset laws = (length-cts, length-undo, undo-cts, cts-undo, IsText-cts, IsText-undo, one_to_one, onto)
