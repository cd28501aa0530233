-- What a client of GSS-API asks for in its authenticator's checksum (RFC 4121, section 4.1.1).
use Rattle.std.specs.Prelude.{◌≡◌, ◌⊎◌, List, [], ◌++◌, ℕ, Option, Some, None}
use Rattle.krb_gss.specs.Checksum.{Content, IsChecksum, IsChecksumFault}
use Rattle.krb_gss.specs.declared.checksum.ChecksumFault.{ChecksumFault}
use Rattle.krb_gss.specs.declared.checksum.ChecksumFault.TheVariants.{Truncated, BindingsLength, DelegationOption}
use Rattle.krb_c.specs.Answer.{Tells, plain}
use Rattle.krb_c.specs.Codes.{context_bindings, context_delegation, context_truncated}
use Rattle.krb_c.specs.Known.{is_there, span}
use Rattle.krb_c.specs.declared.structs.Answer.{Answer}
use Rattle.krb_c.specs.declared.structs.Context.{Context}

abbrev pub context_answer : ChecksumFault → Answer
context_answer Truncated = plain context_truncated
context_answer BindingsLength = plain context_bindings
context_answer DelegationOption = plain context_delegation

abbrev pub bytes_or_none : Option (List ℕ) → List ℕ
bytes_or_none None = []
bytes_or_none (Some bytes) = bytes

-- the bindings, the delegation and the extensions
abbrev pub context_bytes : Content → List ℕ
context_bytes c = (c.bindings ++ bytes_or_none c.delegation) ++ c.extensions

abbrev pub context_of : Content → Context
context_of c = record {
  bindings = span [] c.bindings;
  delegation = span c.bindings (bytes_or_none c.delegation);
  extensions = span (c.bindings ++ bytes_or_none c.delegation) c.extensions;
  flags = c.flags;
  has_delegation = is_there c.delegation;
}

-- the bytes are a checksum, and what it says is returned; or memory is lacking
pub record HandsContext (bytes : List ℕ) (was is : Context) (old new : List ℕ) (answer : Answer) : Type 0 where
  pub content : Content
  pub is_checksum : IsChecksum content bytes
  pub tells : Tells (context_bytes content) (context_of content) was is old new answer

-- they are none, and the first fault is reported
pub record HasContextFault (bytes : List ℕ) (answer : Answer) : Type 0 where
  pub fault : ChecksumFault
  pub is_fault : IsChecksumFault bytes fault
  pub answer_is : answer ≡ context_answer fault

abbrev pub ReadsContext : List ℕ → Context → Context → List ℕ → List ℕ → Answer → Type 0
ReadsContext bytes was is old new answer =
    HandsContext bytes was is old new answer ⊎ (HasContextFault bytes answer × ((is ≡ was) × (new ≡ old)))
