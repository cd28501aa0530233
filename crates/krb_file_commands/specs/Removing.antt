-- What `remove-key` writes: a keytab without one of its entries, or why it has none to remove.
use Rattle.std.specs.Prelude.{ℕ, List}
use Rattle.krb_keytab.specs.Edit.{LacksEntry, LosesEntry, MakesHole}
use Rattle.krb_keytab.specs.Format.{IsFaultOf}
use Rattle.krb_keytab.specs.declared.fault.KeytabFault.{KeytabFault}
use Rattle.krb_keytab.specs.declared.fault.KeytabFault.TheVariants.{NoSuchEntry}

-- the bytes are the keytab with a hole in place of the entry of this index
pub record IsRemoved (old : List ℕ) (index : ℕ) (new : List ℕ) : Type 0 where
  pub hole : MakesHole old index new
  pub list : LosesEntry old index new

-- why no entry is removed: the bytes aren't a keytab, or it has no entry of this index
abbrev pub IsUnremoved : List ℕ → ℕ → KeytabFault → Type 0
IsUnremoved bytes index NoSuchEntry = LacksEntry bytes index
IsUnremoved bytes index fault = IsFaultOf bytes fault
