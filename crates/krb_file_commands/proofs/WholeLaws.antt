-- The bytes of a whole keytab that were taken from a source: what they are, and their fault.
use Rattle.std.proofs.Common.{◌≡◌, ◌<◌, ◌≤◌, ◌+◌, ℕ, Bool, true, false, List, length, Option, Some, None, Result, Ok, Err, sym, subst, arith, inl, inr}
use Rattle.std.specs.Prelude.{IfSome}
use Rattle.krb_file.specs.File.{file_limit, TakesFile}
use Rattle.krb_file.specs.Window.{AtHand, CameOf, Fills}
use Rattle.krb_file.specs.declared.reading.ReadFault.{ReadFault}
use Rattle.krb_keytab.specs.Entry.{KeytabEntry}
use Rattle.krb_keytab.specs.Format.{IsFaultOf, IsKeytab}
use Rattle.krb_keytab.specs.declared.fault.KeytabFault.{KeytabFault}
use Rattle.krb_keytab.specs.declared.fault.KeytabFault.TheVariants.{Version, Truncated, BadEntry, TooLong, NoSuchEntry, Read, OutOfMemory}
use Rattle.krb_file_commands.specs.Inner.Whole.{HoldsFile}

-- ---- how much the source gave

came_within : {E : Type 0} (answer : Result Bool E) (count : ℕ) (piece : List ℕ) (to : Option (List ℕ)) → CameOf answer count piece to → length piece ≤ count
came_within (Ok true) count piece to came = omega (arith, came)
came_within (Ok false) count piece to came = omega (arith, came.0)
came_within (Err fault) count piece to came = omega (arith, came)

pub fills_taken : {S : Type 0} (from to : Option (List ℕ)) (old new : AtHand S) (count : ℕ) (answer : Result Bool ReadFault) → count ≡ file_limit + 1 → Fills from to old new count answer → TakesFile from to
fills_taken from to old new count answer whole f = let came = came_within answer count f.piece to f.came in record { piece = f.piece; taken = f.keeps.consumed; within = omega (arith, came, whole) }

-- ---- what was taken of it

-- a fault of too many bytes
long_fault : (bytes more : List ℕ) (fault : KeytabFault) → file_limit < length bytes → file_limit < length more → IsFaultOf bytes fault
    → IsFaultOf more fault
long_fault bytes more Version long longer is = let limit = is.0 in absurd (omega arith)
long_fault bytes more (Truncated at) long longer is = let limit = is.limit in absurd (omega arith)
long_fault bytes more (BadEntry at) long longer is = let limit = is.limit in absurd (omega arith)
long_fault bytes more TooLong long longer is = longer
long_fault bytes more NoSuchEntry long longer is = absurd is
long_fault bytes more Read long longer is = absurd is
long_fault bytes more OutOfMemory long longer is = absurd is

-- what is a fault of the bytes is one of the file, and the other way round
pub fault_of_taken : (whole bytes : List ℕ) (fault : KeytabFault) → HoldsFile whole bytes → IsFaultOf bytes fault → IsFaultOf whole fault
fault_of_taken whole bytes fault holds is = elim holds [
  | inl same ↦ subst (λ (t : List ℕ). IsFaultOf t fault) (sym same) is
  | inr long ↦ long_fault bytes whole fault long.0 long.1 is
]

pub fault_of_whole : (whole bytes : List ℕ) (fault : KeytabFault) → HoldsFile whole bytes → IsFaultOf whole fault → IsFaultOf bytes fault
fault_of_whole whole bytes fault holds is = elim holds [
  | inl same ↦ subst (λ (t : List ℕ). IsFaultOf t fault) same is
  | inr long ↦ long_fault whole bytes fault long.1 long.0 is
]

pub fault_known : (from : Option (List ℕ)) (bytes : List ℕ) (fault : KeytabFault) → IfSome from (λ whole. HoldsFile whole bytes)
    → IsFaultOf bytes fault → IfSome from (λ whole. IsFaultOf whole fault)
fault_known None bytes fault holds is = tt
fault_known (Some whole) bytes fault holds is = fault_of_taken whole bytes fault holds is

-- a keytab was taken whole
pub whole_taken : (from : Option (List ℕ)) (bytes : List ℕ) (entries : List KeytabEntry) → IfSome from (λ whole. HoldsFile whole bytes)
    → IsKeytab bytes entries → IfSome from (λ whole. whole ≡ bytes)
whole_taken None bytes entries holds is = tt
whole_taken (Some whole) bytes entries holds is = elim holds [
  | inl same ↦ same
  | inr long ↦ let limit = is.limit in absurd (omega (arith, long.0))
]

pub taken_of : (from : Option (List ℕ)) (whole bytes : List ℕ) → IfSome from (λ it. HoldsFile it bytes) → from ≡ Some whole → HoldsFile whole bytes
taken_of from whole bytes holds tells = rw tells at holds
