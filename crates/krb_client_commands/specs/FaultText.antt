-- What the program prints of a fault of a client's command: its name, and its offset in bytes if it has one.
use Rattle.std.specs.Prelude.{ℕ, List, Some, None, codes}
use Rattle.krb_ap.specs.declared.request.RequestFault.{RequestFault}
use Rattle.krb_ap.specs.declared.request.RequestFault.TheVariants as request
use Rattle.krb_ap.specs.declared.finish.FinishFault.{FinishFault}
use Rattle.krb_ap.specs.declared.finish.FinishFault.TheVariants as finish
use Rattle.krb_file_commands.specs.FaultText.{FaultText, cache_text}
use Rattle.krb_client_commands.specs.declared.fault.ClientFault.{ClientFault}
use Rattle.krb_client_commands.specs.declared.fault.ClientFault.TheVariants.{Cache, Request, Finish, OutOfMemory}

abbrev pub request_text : RequestFault → FaultText
request_text request.NoCredential = (codes "NoCredential", None)
request_text request.NoUsableKey = (codes "NoUsableKey", None)
request_text request.Expired = (codes "Expired", None)
request_text request.BadTicket = (codes "BadTicket", None)
request_text request.TooLong = (codes "TooLong", None)
request_text request.OutOfMemory = (codes "OutOfMemory", None)

abbrev pub finish_text : FinishFault → FaultText
finish_text finish.MessageType = (codes "MessageType", None)
finish_text (finish.Malformed fault) = (codes "Malformed", Some fault.at)
finish_text finish.Integrity = (codes "Integrity", None)
finish_text finish.Mismatch = (codes "Mismatch", None)
finish_text finish.OutOfMemory = (codes "OutOfMemory", None)

abbrev pub text_of : ClientFault → FaultText
text_of (Cache fault) = cache_text fault
text_of (Request fault) = request_text fault
text_of (Finish fault) = finish_text fault
text_of OutOfMemory = (codes "OutOfMemory", None)

-- what a fault is of, by the names of a file and of a command
abbrev pub subject_of : ClientFault → List ℕ → List ℕ → List ℕ
subject_of (Cache _) file command = file
subject_of (Request _) file command = codes "request"
subject_of (Finish _) file command = codes "finish"
subject_of OutOfMemory file command = command
