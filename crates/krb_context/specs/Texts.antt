-- What is printed of faults.
use Rattle.std.specs.Prelude.{ℕ, List, ◌++◌, codes, decimal}
use Rattle.krb_context.specs.declared.fault.MessageFault.{MessageFault}
use Rattle.krb_context.specs.declared.fault.MessageFault.TheVariants.{Defective, Direction, OtherKey, Integrity}
use Rattle.krb_context.specs.declared.fault.SendFault.{SendFault}
use Rattle.krb_context.specs.declared.fault.SendFault.TheVariants.{ShortSlice, NumbersUsedUp}
use Rattle.krb_context.specs.declared.fault.ReceiveFault.{ReceiveFault}
use Rattle.krb_context.specs.declared.fault.ReceiveFault.TheVariants.{NotAccepted, OutOfOrder}

abbrev pub text_of : MessageFault → List ℕ
text_of Defective = codes "the bytes are no token of this kind"
text_of Direction = codes "the token was sent back: it is of the side that reads it"
text_of OtherKey = codes "the token is under another key"
text_of Integrity = codes "the checksum is wrong"

abbrev pub send_text : SendFault → List ℕ
send_text (ShortSlice needed) = codes "the slice has fewer than " ++ (decimal needed ++ codes " bytes")
send_text NumbersUsedUp = codes "all sequence numbers are used up"

abbrev pub receive_text : ReceiveFault → List ℕ
receive_text (NotAccepted fault) = text_of fault
receive_text (OutOfOrder order) = codes "the token isn't the next one"
