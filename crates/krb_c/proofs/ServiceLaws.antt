-- How files are read as the answers that they have.
use Rattle.std.proofs.Common.{◌≡◌, ◌⊎◌, inl, inr, ℕ, List, ap, subst, sym, ◌∙◌}
use Rattle.std.specs.Prelude.{Result, Ok, Err}
use Rattle.krb_keytab.specs.Entry.{KeytabEntry}
use Rattle.krb_keytab.specs.Format.{IsAnswerOf as IsKeytabAnswerOf, IsFaultOf as IsKeytabFaultOf}
use Rattle.krb_keytab.specs.declared.fault.KeytabFault.{KeytabFault}
use Rattle.krb_keytab.specs.declared.fault.KeytabFault.TheVariants as keytab
use Rattle.krb_ccache.specs.Format.{IsAnswerOf, IsFaultOf}
use Rattle.krb_ccache.specs.Value.{Cache}
use Rattle.krb_ccache.specs.declared.fault.CacheFault.{CacheFault}
use Rattle.krb_ccache.specs.declared.fault.CacheFault.TheVariants.{OutOfMemory}
use Rattle.krb_c.specs.Request.{HasCache}
use Rattle.krb_c.specs.KeytabFile.{HasKeytab}
use Rattle.krb_c.specs.declared.structs.Answer.{Answer}

abbrev fault_or : {X E : Type 0} → E → Result X E → E
fault_or e (Ok x) = e
fault_or e (Err f) = f

abbrev value_or : {X E : Type 0} → X → Result X E → X
value_or x (Ok y) = y
value_or x (Err e) = x

abbrev Succeeds : {X E : Type 0} → Result X E → Type 0
Succeeds (Ok x) = Unit {0}
Succeeds (Err e) = ⊥

-- What an answer of `parse` says, if the bytes have one. X is what is read, E why it isn't, and want is out of memory.
module _ (X E : Type 0) (want : E) (told : E → Answer) where
  abbrev R : Type 0
  R = Result X E

  abbrev Same : R → R → Type 0
  Same one other = one ≡ other

  pub wanting : (a : Answer) (f : E) (x : X) → a ≡ told f → Same (Err f) (Ok x) ⊎ Same (Err f) (Err want) → a ≡ told want
  wanting a f x is (inl e) = is ∙ ap (λ (r : R). told (fault_or want r)) e
  wanting a f x is (inr e) = is ∙ ap (λ (r : R). told (fault_or want r)) e

  pub same_fault : (a : Answer) (f g : E) → a ≡ told f → Same (Err f) (Err g) → a ≡ told g
  same_fault a f g is e = is ∙ ap (λ (r : R). told (fault_or f r)) e

  pub same_value : (x y : X) → Same (Ok x) (Ok y) ⊎ Same (Ok x) (Err want) → x ≡ y
  same_value x y (inl e) = ap (value_or y) e
  same_value x y (inr e) = ap (value_or y) e

  pub no_fault : (x : X) (f : E) → Same (Ok x) (Err f) ⊎ Same (Ok x) (Err want) → ⊥
  no_fault x f (inl e) = subst Succeeds e tt
  no_fault x f (inr e) = subst Succeeds e tt

-- out of memory is reported only of a cache or a keytab, since it never takes the place of a fault
pub cache_there : (bytes : List ℕ) (f : CacheFault) (answer : Result Cache CacheFault) → IsAnswerOf bytes answer
    → ((fault : CacheFault) → IsFaultOf bytes fault → ◌≡◌ {A = Result Cache CacheFault} (Err f) (Err fault)) → f ≡ OutOfMemory → HasCache bytes
cache_there bytes f (Ok cache) is faulty want = (cache, is)
cache_there bytes f (Err fault) is faulty want = absurd (subst (IsFaultOf bytes) (sym (ap (fault_or f) (faulty fault is)) ∙ want) is)

pub keytab_there : (bytes : List ℕ) (f : KeytabFault) (answer : Result (List KeytabEntry) KeytabFault) → IsKeytabAnswerOf bytes answer
    → ((fault : KeytabFault) → IsKeytabFaultOf bytes fault → ◌≡◌ {A = Result (List KeytabEntry) KeytabFault} (Err f) (Err fault)) → f ≡ keytab.OutOfMemory → HasKeytab bytes
keytab_there bytes f (Ok entries) is faulty want = (entries, is)
keytab_there bytes f (Err fault) is faulty want = absurd (subst (IsKeytabFaultOf bytes) (sym (ap (fault_or f) (faulty fault is)) ∙ want) is)
