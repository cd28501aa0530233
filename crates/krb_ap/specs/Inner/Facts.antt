-- What the layers below say of messages, keys and choices, in one record, for the lemmas of this crate.
use Rattle.std.specs.Prelude.{◌≡◌, ℕ, List, length}
use Rattle.krb_der.specs.Kind.{Kind, ValueOf}
use Rattle.krb_der.specs.Spells.{IsMessage}
use Rattle.krb_der.specs.Size.{size_of}
use Rattle.krb_der.specs.Writing.{Writes}
use Rattle.krb_enc.specs.Key.{KeyValue, profile_of}
use Rattle.krb_enc.specs.Opens.{Opens}
use Rattle.krb_msg.specs.Module.{IsMessageKind, ap_req}
use Rattle.krb_keytab.specs.Pick.{Choice}
use Rattle.krb_ap.specs.Setup.{Setup}
use Rattle.krb_ap.specs.Opened.{IsChoiceFor}

pub record Facts : Type 0 where
  pub one_value : (k : Kind) → IsMessageKind k → (v w : ValueOf k) (bytes : List ℕ) → IsMessage k v bytes → IsMessage k w bytes → v ≡ w
  pub one_plain : (key : KeyValue) (usage : ℕ) (cipher one other : List ℕ)
      → Opens (profile_of key) key.bytes usage cipher one → Opens (profile_of key) key.bytes usage cipher other → one ≡ other
  pub one_choice : (setup : Setup) (request : ValueOf ap_req) (one other : Choice)
      → IsChoiceFor setup request one → IsChoiceFor setup request other → one ≡ other

-- what is written for a value is one text, and as long as the value's size
pub record WritingFacts : Type 0 where
  pub one : (k : Kind) (v : ValueOf k) (a b : List ℕ) → Writes k v a → Writes k v b → a ≡ b
  pub size : (k : Kind) (v : ValueOf k) (bytes : List ℕ) → Writes k v bytes → length bytes ≡ size_of k v
