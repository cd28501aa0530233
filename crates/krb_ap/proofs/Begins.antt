-- How a message begins.
use Rattle.std.proofs.Common.{◌≡◌, ℕ, List, sym, ◌∙◌}
use Rattle.krb_der.specs.Kind.{Kind, ValueOf, tag_of}
use Rattle.krb_der.specs.Spells.{IsMessage}
use Rattle.krb_ap.specs.Causes.{BeginsOtherwise}
use Rattle.krb_ap.proofs.Decided.{head_of}

-- with the tag of its kind
pub begins_so : (k : Kind) (value : ValueOf k) (bytes : List ℕ) → IsMessage k value bytes → ¬ BeginsOtherwise (tag_of k) bytes
begins_so k value bytes message b = b.other (head_of _ _ _ _ (sym b.bytes_are ∙ message.spelled.whole))

-- and with no other
pub same_tag : (k l : Kind) (v : ValueOf k) (w : ValueOf l) (bytes : List ℕ) → IsMessage k v bytes → IsMessage l w bytes → tag_of k ≡ tag_of l
same_tag k l v w bytes one other = head_of _ _ _ _ (sym one.spelled.whole ∙ other.spelled.whole)
