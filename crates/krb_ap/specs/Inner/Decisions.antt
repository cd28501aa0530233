-- What the layers below decide, in one record, for the lemmas of this crate.
use Rattle.std.specs.Prelude.{◌⊎◌, ℕ, ℤ, List, Option}
use Rattle.krb_name.specs.declared.principal.Principal.{Principal}
use Rattle.krb_der.specs.Kind.{Kind, ValueOf}
use Rattle.krb_der.specs.Spells.{IsMessage}
use Rattle.krb_der.specs.Fault.{IsFault}
use Rattle.krb_der.specs.Flags.{HasBit}
use Rattle.krb_der.specs.declared.fault.Fault.{Fault}
use Rattle.krb_enc.specs.Key.{KeyValue, IsUsable, profile_of}
use Rattle.krb_enc.specs.Opens.{Opens, OpensToNothing}
use Rattle.krb_msg.specs.Module.{IsMessageKind}
use Rattle.krb_keytab.specs.Entry.{KeytabEntry}
use Rattle.krb_keytab.specs.Pick.{Choice, IsChoice}

pub record Decisions : Type 0 where
  pub message : (k : Kind) → IsMessageKind k → (bytes : List ℕ) → ((v : ValueOf k) × IsMessage k v bytes) ⊎ ((v : ValueOf k) → IsMessage k v bytes → ⊥)
  pub fault : (k : Kind) → IsMessageKind k → (bytes : List ℕ) → ((v : ValueOf k) → IsMessage k v bytes → ⊥) → (fault : Fault) × IsFault k bytes fault
  pub bit : (flags n : ℕ) → HasBit flags n ⊎ (HasBit flags n → ⊥)
  pub usable : (key : KeyValue) → IsUsable key ⊎ (IsUsable key → ⊥)
  pub opening : (key : KeyValue) (usage : ℕ) (text : List ℕ)
      → ((plain : List ℕ) × Opens (profile_of key) key.bytes usage text plain) ⊎ OpensToNothing (profile_of key) key.bytes usage text
  pub choice : (entries : List KeytabEntry) (name : Principal) (etype : ℤ) (kvno : Option ℕ) → (choice : Choice) × IsChoice entries name etype kvno choice
