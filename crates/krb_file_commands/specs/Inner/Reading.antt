-- What is answered of a file that is read, if something is made of its value.
use Rattle.std.specs.Prelude.{⊤, ℕ, List, Option, Result}
use Rattle.krb_keytab.specs.Entry.{KeytabEntry}
use Rattle.krb_keytab.specs.Format as in_keytab
use Rattle.krb_keytab.specs.declared.fault.KeytabFault.{KeytabFault}
use Rattle.krb_ccache.specs.Format as in_cache
use Rattle.krb_ccache.specs.Value.{Cache}
use Rattle.krb_ccache.specs.declared.fault.CacheFault.{CacheFault}
use Rattle.krb_file_commands.specs.Engine.{Makes, OfFile}
use Rattle.krb_file_commands.specs.Status as status

-- of a keytab: what its source had to come before and after, how many of its reads had failed, what is made of its entries, and the answer
abbrev pub ReadsKeytab : {X : Type 0} → Option (List ℕ) → Option (List ℕ) → ℕ → ℕ → (X → List KeytabEntry → Type 0) → Result X KeytabFault → Type 0
ReadsKeytab from to before after Holds result =
    Makes (λ made. OfFile in_keytab.IsKeytab from (Holds made)) in_keytab.IsFaultOf (λ _. ⊤) status.of_keytab status.keytab_reads from to before after result

-- of a credential cache
abbrev pub ReadsCache : {X : Type 0} → Option (List ℕ) → Option (List ℕ) → ℕ → ℕ → (X → Cache → Type 0) → Result X CacheFault → Type 0
ReadsCache from to before after Holds result =
    Makes (λ made. OfFile in_cache.IsCache from (Holds made)) in_cache.IsFaultOf (λ _. ⊤) status.of_cache status.cache_reads from to before after result
