-- The lines on a keytab: the entry whose key is for a request's ticket; or why there is none, and which entries of the name there are.
use Rattle.std.specs.Prelude.{◌≡◌, ℕ, ℤ, List, [], ◌∷◌, ◌++◌, map, Option, Some, None, codes}
use Rattle.std.specs.Fmt.{decimal}
use Rattle.krb_name.specs.Text.{text_of}
use Rattle.krb_name.specs.declared.principal.Principal.{Principal}
use Rattle.krb_keytab.specs.Entry.{KeytabEntry}
use Rattle.krb_keytab.specs.Only.{KeepsOnly}
use Rattle.krb_keytab.specs.Pick.{Choice, chosen, no_name, no_key, no_version}
use Rattle.krb_explain.specs.Parts.{type_text}

abbrev pub key_text : KeytabEntry → List ℕ
key_text entry = codes "version number " ++ (decimal entry.kvno ++ (codes ", type " ++ type_text entry.etype))

abbrev pub chosen_line : KeytabEntry → List ℕ
chosen_line entry = codes "keytab's entry: " ++ key_text entry

abbrev pub there_line : KeytabEntry → List ℕ
there_line entry = codes "keytab has: " ++ key_text entry

abbrev pub no_name_line : Principal → List ℕ
no_name_line service = codes "keytab's entry: none, since the service doesn't have the name " ++ text_of service

abbrev pub no_key_line : ℤ → List ℕ
no_key_line etype = codes "keytab's entry: none, since none of this name has a usable key of type " ++ type_text etype

-- without a version number any will do
abbrev pub version_words : Option ℕ → List ℕ
version_words None = codes "any version number"
version_words (Some number) = codes "version number " ++ decimal number

abbrev pub no_version_line : Option ℕ → List ℕ
no_version_line kvno = codes "keytab's entry: none, since no such key has " ++ version_words kvno

-- a line, and then one for each entry of the name
pub record ListsEntries (entries : List KeytabEntry) (service : Principal) (line : List ℕ) (lines : List (List ℕ)) : Type 0 where
  pub named : List KeytabEntry
  pub named_are : KeepsOnly service entries named
  pub lines_are : lines ≡ line ∷ map there_line named

-- the lines of a choice for a ticket of this service, type and version number
abbrev pub AreChoiceLines : List KeytabEntry → Principal → ℤ → Option ℕ → Choice → List (List ℕ) → Type 0
AreChoiceLines entries service etype kvno (chosen entry) lines = lines ≡ chosen_line entry ∷ []
AreChoiceLines entries service etype kvno no_name lines = lines ≡ no_name_line service ∷ []
AreChoiceLines entries service etype kvno no_key lines = ListsEntries entries service (no_key_line etype) lines
AreChoiceLines entries service etype kvno no_version lines = ListsEntries entries service (no_version_line kvno) lines
