-- How large a name is, and the largest of a keytab.
use Rattle.std.specs.Prelude.{ℕ, ◌+◌, ◌≤◌, List, length, sum_by, All}
use Rattle.krb_name.specs.declared.principal.Principal.{Principal}
use Rattle.krb_keytab.specs.Entry.{KeytabEntry}

-- the bytes of its realm and of its components, and one more for each component
abbrev pub name_size : Principal → ℕ
name_size name = length name.realm + sum_by (λ component. length component + 1) name.components

-- no name of the entries is larger than this
abbrev pub HasSizesWithin : ℕ → List KeytabEntry → Type 0
HasSizesWithin most entries = All (λ entry. name_size entry.principal ≤ most) entries

-- the size of their largest name; 0 if there are no entries
pub record IsLargestSize (entries : List KeytabEntry) (size : ℕ) : Type 0 where
  pub within : HasSizesWithin size entries
  pub least : (most : ℕ) → HasSizesWithin most entries → size ≤ most

-- a name is no larger than their largest
abbrev pub IsNoLarger : List KeytabEntry → Principal → Type 0
IsNoLarger entries name = (most : ℕ) → HasSizesWithin most entries → name_size name ≤ most
