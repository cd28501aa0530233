-- The lines of the parts of messages.
use Rattle.std.specs.Prelude.{ℕ, ℤ, pos, List, [], ◌∷◌, ◌++◌, length, Bool, ◌||◌, Option, Some, None, codes, if◌then◌else◌}
use Rattle.std.specs.Ordering.{int_eq}
use Rattle.std.specs.Fmt.{decimal}
use Rattle.krb_der.specs.Kind.{ValueOf}
use Rattle.krb_msg.specs.Module.{encrypted_data}
use Rattle.krb_msg.specs.Fields.{encrypted_fields}
use Rattle.krb_name.specs.Text.{text_of}
use Rattle.krb_name.specs.declared.principal.Principal.{Principal}
use Rattle.krb_explain.specs.Named.{with_name}
use Rattle.krb_readable.specs.Enctype.{enctype_name}

-- `LABEL: NAME`
abbrev pub name_line : List ℕ → Principal → List ℕ
name_line label principal = label ++ (codes ": " ++ text_of principal)

-- what a message is, and how many bytes it has
abbrev pub head_line : List ℕ → ℕ → List ℕ
head_line name size = codes "message: " ++ (name ++ (codes ", " ++ (decimal size ++ codes " bytes")))

-- the number of an encryption type, and its name
abbrev pub type_text : ℤ → List ℕ
type_text etype = with_name etype (enctype_name etype)

abbrev pub version_text : Option ℕ → List ℕ
version_text None = codes ", no version number, "
version_text (Some number) = codes ", version number " ++ (decimal number ++ codes ", ")

-- a sealed part: which key it is sealed under, and how many bytes it has
abbrev pub sealed_text : List ℕ → List ℕ → List ℕ → ℕ → List ℕ
sealed_text label etype version size =
    label ++ (codes ": sealed under a key of type " ++ (etype ++ (version ++ (decimal size ++ codes " bytes"))))

abbrev pub sealed_line : List ℕ → ValueOf encrypted_data → List ℕ
sealed_line label sealed =
    sealed_text label (type_text (encrypted_fields sealed).etype) (version_text (encrypted_fields sealed).kvno) (length (encrypted_fields sealed).cipher)

-- RFC 8009's types
abbrev pub is_usable_type : ℤ → Bool
is_usable_type etype = int_eq etype (pos 19) || int_eq etype (pos 20)

-- what to look at if a ticket is sealed under a key of another type
abbrev pub type_notes : ℤ → List (List ℕ)
type_notes etype = if is_usable_type etype then [] else codes "note: the service needs keys of types 19 and 20 alone" ∷ []
