-- The exit status of a client's command. 1: the content is refused. 3: a file, the output or memory failed.
use Rattle.std.specs.Prelude.{ℕ}
use Rattle.krb_ap.specs.declared.finish.FinishFault.{FinishFault}
use Rattle.krb_ap.specs.declared.finish.FinishFault.TheVariants as finish
use Rattle.krb_ap.specs.declared.request.RequestFault.{RequestFault}
use Rattle.krb_ap.specs.declared.request.RequestFault.TheVariants as request
use Rattle.krb_file_commands.specs.Status.{cache_reads, of_cache}
use Rattle.krb_client_commands.specs.declared.fault.ClientFault.{ClientFault}
use Rattle.krb_client_commands.specs.declared.fault.ClientFault.TheVariants.{Cache, Request, Finish, OutOfMemory}

abbrev pub of_request : RequestFault → ℕ
of_request request.OutOfMemory = 3
of_request _ = 1

abbrev pub of_finish : FinishFault → ℕ
of_finish finish.OutOfMemory = 3
of_finish _ = 1

abbrev pub status_of : ClientFault → ℕ
status_of (Cache fault) = of_cache fault
status_of (Request fault) = of_request fault
status_of (Finish fault) = of_finish fault
status_of OutOfMemory = 3

-- how many reads failed, by a fault
abbrev pub client_reads : ClientFault → ℕ
client_reads (Cache fault) = cache_reads fault
client_reads _ = 0
