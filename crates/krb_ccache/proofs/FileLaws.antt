-- What is read of a file, part by part, is what the file says.
use Rattle.std.proofs.Common.{◌≡◌, ℕ, ◌<◌, ◌≤◌, List, length, Some, None, ap, arith, inl, inr}
use Rattle.std.specs.Prelude.{IfSome}
use Rattle.std.proofs.lemmas.List.{length-append}
use Rattle.krb_file.specs.Cursor.{Place}
use Rattle.krb_file.specs.Field.{IsBytes}
use Rattle.krb_ccache.specs.Types.{Principal, Layout, CacheFault, BadItem}
use Rattle.krb_ccache.specs.Spelling.{name_bytes}
use Rattle.krb_ccache.specs.Value.{FitsName}
use Rattle.krb_ccache.specs.Fault.{offset_of}
use Rattle.krb_ccache.specs.Format.{start_bytes, Spelled, Spells, IsFaultOf}
use Rattle.krb_ccache.specs.Inner.Reading.{name_at}
use Rattle.krb_ccache.specs.Inner.Standing.{Lies, IsMissing}
use Rattle.krb_ccache.proofs.PartLaws.{IsField-name}
use Rattle.krb_ccache.proofs.Repeats.{lies_where, missing_where}
use Rattle.krb_ccache.proofs.LayoutLaws.{credential_some, reached_within}

-- ---- the default principal

pub name_lies : (place : Place) (name : Principal) (behind : Place) → IsBytes place.rest → name_at place ≡ Some (name, behind) → Lies name_bytes FitsName place name behind
name_lies place name behind fits e = lies_where name_at name_bytes FitsName IsField-name place name behind fits e

pub name_missing : (place : Place) → name_at place ≡ None → IsMissing name_bytes FitsName place.rest
name_missing place none = missing_where name_at name_bytes FitsName IsField-name place none

-- ---- a credential

pub spelled_bytes_some : (layout : Layout) (one : Spelled) → Spells layout one → 0 < length one.bytes
spelled_bytes_some layout one h = omega (arith, credential_some one.credential h.second, ap length h.bytes_are)

-- ---- an offset lies within the file

pub fault_within : (bytes : List ℕ) (fault : CacheFault) → IsFaultOf bytes fault → IfSome (offset_of fault) (λ at. at ≤ length bytes)
fault_within bytes (BadItem at) (inl f) = omega (arith, f.at_is, ap length f.bytes_are, length-append (start_bytes f.layout f.header) f.behind)
fault_within bytes (BadItem at) (inr f) = reached_within f.layout bytes at f.cache f.behind f.reached
fault_within bytes _ f = tt
