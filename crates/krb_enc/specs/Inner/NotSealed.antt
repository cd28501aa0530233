-- Why a text has no body that can be decrypted, as each way of opening reports it.
use Rattle.krb_enc.specs.declared.fault.NotSealed.{NotSealed}
use Rattle.krb_enc.specs.declared.fault.NotSealed.TheVariants as not_sealed
use Rattle.krb_enc.specs.declared.fault.OpenFault.{OpenFault}
use Rattle.krb_enc.specs.declared.fault.OpenFault.TheVariants as fault
use Rattle.krb_enc.specs.declared.fault.OpenToFault.{OpenToFault}
use Rattle.krb_enc.specs.declared.fault.OpenToFault.TheVariants as slice_fault

abbrev pub fault_of : NotSealed → OpenFault
fault_of not_sealed.Short = fault.Short
fault_of not_sealed.Integrity = fault.Integrity

abbrev pub slice_fault_of : NotSealed → OpenToFault
slice_fault_of not_sealed.Short = slice_fault.Short
slice_fault_of not_sealed.Integrity = slice_fault.Integrity
