-- A keytab that is edited: what was taken of it, and why it isn't changed.
use Rattle.std.proofs.Common.{◌≡◌, ℕ, ◌<◌, List, length, Option, Some, None, Result, Ok, Err, ◌⊎◌, ◌∙◌, refl, sym, ap, subst, arith, inl, inr}
use Rattle.std.specs.Prelude.{◌≢◌, ◌↔◌, IfSome}
use Rattle.krb_file.specs.File.{file_limit}
use Rattle.krb_keytab.specs.Edit.{MakesHole, LosesEntry, LacksEntry}
use Rattle.krb_keytab.specs.Format.{IsFaultOf}
use Rattle.krb_keytab.specs.declared.fault.KeytabFault.{KeytabFault}
use Rattle.krb_keytab.specs.declared.fault.KeytabFault.TheVariants.{Version, Truncated, BadEntry, TooLong, NoSuchEntry, Read, OutOfMemory}
use Rattle.krb_file_commands.specs.Removing.{IsRemoved, IsUnremoved}
use Rattle.krb_file_commands.specs.Inner.Whole.{HoldsFile}
use Rattle.krb_file_commands.specs.Status.{keytab_reads, of_keytab}
use Rattle.krb_file_commands.proofs.FaultLaws.{no_ok}
use Rattle.krb_file_commands.proofs.WholeLaws.{taken_of}

-- a fault of too many bytes
long_unremoved : (bytes more : List ℕ) (index : ℕ) (fault : KeytabFault) → file_limit < length bytes → file_limit < length more
    → IsUnremoved bytes index fault → IsUnremoved more index fault
long_unremoved bytes more index Version long longer is = let limit = is.0 in absurd (omega arith)
long_unremoved bytes more index (Truncated at) long longer is = let limit = is.limit in absurd (omega arith)
long_unremoved bytes more index (BadEntry at) long longer is = let limit = is.limit in absurd (omega arith)
long_unremoved bytes more index TooLong long longer is = longer
long_unremoved bytes more index NoSuchEntry long longer is = let limit = is.list.limit in absurd (omega arith)
long_unremoved bytes more index Read long longer is = absurd is
long_unremoved bytes more index OutOfMemory long longer is = absurd is

-- what holds of the bytes that were taken holds of the file, and the other way round
pub of_taken : (whole bytes : List ℕ) (index : ℕ) (fault : KeytabFault) → HoldsFile whole bytes → IsUnremoved bytes index fault → IsUnremoved whole index fault
of_taken whole bytes index fault holds is = elim holds [
  | inl same ↦ subst (λ (t : List ℕ). IsUnremoved t index fault) (sym same) is
  | inr long ↦ long_unremoved bytes whole index fault long.0 long.1 is
]

pub of_whole : (whole bytes : List ℕ) (index : ℕ) (fault : KeytabFault) → HoldsFile whole bytes → IsUnremoved whole index fault → IsUnremoved bytes index fault
of_whole whole bytes index fault holds is = elim holds [
  | inl same ↦ subst (λ (t : List ℕ). IsUnremoved t index fault) same is
  | inr long ↦ long_unremoved whole bytes index fault long.1 long.0 is
]

pub unremoved_known : (from : Option (List ℕ)) (bytes : List ℕ) (index : ℕ) (fault : KeytabFault) → IfSome from (λ whole. HoldsFile whole bytes)
    → IsUnremoved bytes index fault → IfSome from (λ whole. IsUnremoved whole index fault)
unremoved_known None bytes index fault holds is = tt
unremoved_known (Some whole) bytes index fault holds is = of_taken whole bytes index fault holds is

-- the call that makes a hole fails so
pub answer_means : {X : Type 0} (result : Result X KeytabFault) (bytes : List ℕ) (index : ℕ) (fault : KeytabFault)
    → (result ≡ Err NoSuchEntry) ↔ LacksEntry bytes index
    → ((f : KeytabFault) → f ≢ NoSuchEntry → (result ≡ Err f) ↔ IsFaultOf bytes f)
    → (result ≡ Err fault) ↔ IsUnremoved bytes index fault
answer_means result bytes index Version missing faults = faults Version (λ e. cc)
answer_means result bytes index (Truncated at) missing faults = faults (Truncated at) (λ e. cc)
answer_means result bytes index (BadEntry at) missing faults = faults (BadEntry at) (λ e. cc)
answer_means result bytes index TooLong missing faults = faults TooLong (λ e. cc)
answer_means result bytes index NoSuchEntry missing faults = missing
answer_means result bytes index Read missing faults = faults Read (λ e. cc)
answer_means result bytes index OutOfMemory missing faults = faults OutOfMemory (λ e. cc)

-- a read that wasn't made or memory that ran out is of status 3
pub unread_exits : (fault : KeytabFault) → (fault ≡ OutOfMemory) ⊎ (fault ≡ Read) → of_keytab fault ≡ 3
unread_exits fault which = elim which [ inl memory ↦ ap of_keytab memory | inr read ↦ ap of_keytab read ]

-- if the file isn't edited, no read failed
pub no_failed_read : (met : KeytabFault) (bytes : List ℕ) (index : ℕ) → IsUnremoved bytes index met → keytab_reads met ≡ 0
no_failed_read Version bytes index unremoved = refl
no_failed_read (Truncated at) bytes index unremoved = refl
no_failed_read (BadEntry at) bytes index unremoved = refl
no_failed_read TooLong bytes index unremoved = refl
no_failed_read NoSuchEntry bytes index unremoved = refl
no_failed_read Read bytes index unremoved = absurd unremoved
no_failed_read OutOfMemory bytes index unremoved = refl

-- the new bytes are those of the file without the entry
pub removed_known : (from : Option (List ℕ)) (file new : List ℕ) (index : ℕ) → IfSome from (λ whole. HoldsFile whole file) → MakesHole file index new → LosesEntry file index new
    → IfSome from (λ bytes. IsRemoved bytes index new)
removed_known None file new index holds hole list = tt
removed_known (Some whole) file new index holds hole list = elim holds [
  | inl same ↦ record {
    hole = subst (λ (t : List ℕ). MakesHole t index new) (sym same) hole;
    list = subst (λ (t : List ℕ). LosesEntry t index new) (sym same) list;
  }
  | inr long ↦ let limit = list.old_list.limit in absurd (omega (arith, long.0))
]

-- an edited file has no fault
pub none_unremoved : {X : Type 0} (from : Option (List ℕ)) (file : List ℕ) (index : ℕ) (answer : Result X KeytabFault) (value : X) → answer ≡ Ok value → IfSome from (λ whole. HoldsFile whole file)
    → ((fault : KeytabFault) → (answer ≡ Err fault) ↔ IsUnremoved file index fault) → (given : List ℕ) (fault : KeytabFault) → from ≡ Some given → IsUnremoved given index fault → ⊥
none_unremoved from file index answer value is holds means given fault tells has =
    no_ok value fault (sym is ∙ (means fault).1 (of_whole given file index fault (taken_of from given file holds tells) has))
