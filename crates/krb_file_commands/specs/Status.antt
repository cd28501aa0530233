-- The exit status of the program. 1: the content is refused. 3: a file, the output or memory failed. 2: the command line is wrong.
use Rattle.std.specs.Prelude.{ℕ}
use Rattle.krb_keytab.specs.declared.fault.KeytabFault.{KeytabFault}
use Rattle.krb_keytab.specs.declared.fault.KeytabFault.TheVariants as keytab
use Rattle.krb_ccache.specs.declared.fault.CacheFault.{CacheFault}
use Rattle.krb_ccache.specs.declared.fault.CacheFault.TheVariants as cache
use Rattle.krb_name.specs.declared.text_fault.TextFault.{TextFault}
use Rattle.krb_name.specs.declared.text_fault.TextFault.TheVariants as text
use Rattle.krb_file_commands.specs.declared.engine.Ended.{Ended}
use Rattle.krb_file_commands.specs.declared.engine.Ended.TheVariants as ended
use Rattle.krb_file_commands.specs.declared.fault.AddFault.{AddFault}
use Rattle.krb_file_commands.specs.declared.fault.AddFault.TheVariants as add
use Rattle.krb_file_commands.specs.declared.fault.PickFault.{PickFault}
use Rattle.krb_file_commands.specs.declared.fault.PickFault.TheVariants as pick

abbrev pub of_keytab : KeytabFault → ℕ
of_keytab keytab.Read = 3
of_keytab keytab.OutOfMemory = 3
of_keytab _ = 1

abbrev pub of_cache : CacheFault → ℕ
of_cache cache.Read = 3
of_cache cache.OutOfMemory = 3
of_cache _ = 1

abbrev pub of_pick : PickFault → ℕ
of_pick (pick.Keytab fault) = of_keytab fault
of_pick pick.OutOfMemory = 3
of_pick _ = 1

abbrev pub of_adding : AddFault → ℕ
of_adding (add.Keytab fault) = of_keytab fault
of_adding (add.Added fault) = of_keytab fault

abbrev pub of_ended : {E : Type 0} → (E → ℕ) → Ended E → ℕ
of_ended status (ended.Unmade fault) = status fault
of_ended status ended.Write = 3

-- of a service's name
abbrev pub service_status : TextFault → ℕ
service_status text.OutOfMemory = 3
service_status _ = 2

-- ---- how many reads failed, by a fault

abbrev pub keytab_reads : KeytabFault → ℕ
keytab_reads keytab.Read = 1
keytab_reads _ = 0

abbrev pub cache_reads : CacheFault → ℕ
cache_reads cache.Read = 1
cache_reads _ = 0

abbrev pub pick_reads : PickFault → ℕ
pick_reads (pick.Keytab fault) = keytab_reads fault
pick_reads _ = 0

-- of the keytab that keys are added to, and of the other
abbrev pub held_reads : AddFault → ℕ
held_reads (add.Keytab fault) = keytab_reads fault
held_reads (add.Added fault) = 0

abbrev pub added_reads : AddFault → ℕ
added_reads (add.Keytab fault) = 0
added_reads (add.Added fault) = keytab_reads fault
