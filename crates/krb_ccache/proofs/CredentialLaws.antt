-- A credential is read as it is spelled: its fields one after another.
use Rattle.std.proofs.Common.{◌≡◌, ℕ, zero, suc, ◌<◌, ◌≤◌, ◌^◌, Bool, true, false, eqb, List, Option, Some, None, refl, sym, ap, subst, ◌∙◌, append_assoc, arith, rules}
use Rattle.std.specs.Int.{w8}
use Rattle.std.proofs.lemmas.Bool.{leb-true}
use Rattle.krb_file.specs.Cursor.{Place, ◌>>=◌, number_bytes}
use Rattle.krb_file.specs.Field.{IsBytes, Takes, IsField}
use Rattle.krb_file.proofs.CursorLaws.{bind_some, some_is}
use Rattle.krb_ccache.specs.Types.{Credential, Layout}
use Rattle.krb_ccache.specs.Spelling.{flag_bytes, marked_bytes}
use Rattle.krb_ccache.specs.Format.{Spelled, Spells}
use Rattle.krb_ccache.specs.contracts.credential.CredentialHasRow.TheImpl.{ghosts}
use Rattle.krb_ccache.specs.Inner.Reading.{made_at, is_flag, allowed}
use Rattle.krb_ccache.specs.Inner.Row.{Row, Raw, row_at, row_bytes, FitsRow}
use Rattle.krb_ccache.specs.Inner.Standing.{bytes_of, spelled_as, Lies, LiesOne, IsMissing}
use Rattle.krb_ccache.specs.Inner.Walking.{passed_at, Marked, FitsKeyed, whole}
use Rattle.krb_ccache.proofs.Fields.{none_then, IsField-made}
use Rattle.krb_ccache.proofs.PartLaws.{IsField-row}
use Rattle.krb_ccache.proofs.Repeats.{missing_where}
use Rattle.krb_ccache.proofs.WalkParts.{passed_some}

-- ---- its flag

flag_is : (n : ℕ) → is_flag n ≡ true → number_bytes w8 n ≡ flag_bytes (eqb n 1)
flag_is zero e = refl
flag_is (suc zero) e = refl
flag_is (suc (suc n)) e = let small : suc (suc n) ≤ 1 = leb-true _ _ e in absurd (omega (arith, small))

abbrev pub flag_byte : Bool → ℕ
flag_byte true = 1
flag_byte false = 0

-- it is a byte, and is spelled and read as the flag
pub flag_known : (flag : Bool) → ((flag_byte flag < 2 ^ 8) × (is_flag (flag_byte flag) ≡ true)) × ((number_bytes w8 (flag_byte flag) ≡ flag_bytes flag) × (eqb (flag_byte flag) 1 ≡ flag))
flag_known true = ((omega arith, refl), (refl, refl))
flag_known false = ((omega arith, refl), (refl, refl))

-- ---- a credential

-- its fields, in their order
abbrev pub fields : Row
fields = ghosts.fields

-- what their bytes say
abbrev pub Parts : Type 0
Parts = Raw fields

-- those of a credential, with any byte for its flag, are spelled as it is
abbrev pub parts_of : Marked → Parts
parts_of m = ghosts.parts m.credential m.second m.mark

pub parts_bytes : (m : Marked) → row_bytes fields (parts_of m) ≡ whole m
parts_bytes m = simp append_assoc

-- any parts are those of a credential, whatever its flag is
abbrev pub marked_of : (parts : Parts) (flag : Bool) → (m : Marked) × ((parts_of m ≡ parts) × (m.credential.is_skey ≡ flag))
marked_of parts flag = (_, (refl, refl))

abbrev pub mark_in : Parts → ℕ
mark_in parts = (marked_of parts true).0.mark

abbrev pub spelled_of : Parts → Spelled
spelled_of parts = record { bytes = row_bytes fields parts; credential = (marked_of parts (eqb (mark_in parts) 1)).0.credential }

-- a credential, with its bytes
abbrev pub spelled_at : Layout → Place → Option (Spelled × Place)
spelled_at layout place = made_at spelled_of (row_at fields true layout) place

module _ (layout : Layout) where
  -- the parts of a credential, with any byte for its flag
  pub fits_parts : (strict : Bool) (m : Marked) → FitsKeyed layout m → (m.mark < 2 ^ 8) × (allowed strict (is_flag m.mark) ≡ true) → FitsRow fields strict layout (parts_of m)
  fits_parts strict m fits flag = search rules

  pub parts_spell : (parts : Parts) → FitsRow fields true layout parts → Spells layout (spelled_of parts)
  parts_spell parts fits =
      let m : Marked = (marked_of parts true).0 in
      let flag : (m.mark < 2 ^ 8) × (is_flag m.mark ≡ true) = assumption in
      record { fits = assumption; second = m.second; size = assumption; bytes_are = parts_bytes m ∙ ap (marked_bytes m.credential m.second) (flag_is m.mark flag.1) }

  pub made_spells : (parts : Parts) (credential : Credential) → FitsRow fields true layout parts → credential ≡ (spelled_of parts).credential → Spells layout (spelled_as (row_bytes fields parts) credential)
  made_spells parts credential fits same = subst (λ (c : Credential). Spells layout (spelled_as (row_bytes fields parts) c)) (sym same) (parts_spell parts fits)

  -- a credential, with the byte of its flag
  abbrev pub marked : (one : Spelled) → Spells layout one → Marked
  marked one h = record { credential = one.credential; second = h.second; mark = flag_byte one.credential.is_skey }

  pub whole_is : (one : Spelled) (h : Spells layout one) → whole (marked one h) ≡ one.bytes
  whole_is one h = ap (marked_bytes one.credential h.second) (flag_known one.credential.is_skey).1.0 ∙ sym h.bytes_are

  spelled_from : (one : Spelled) → Spells layout one → (parts : Parts) × FitsRow fields true layout parts × (spelled_of parts ≡ one) × (row_bytes fields parts ≡ one.bytes)
  spelled_from one h =
      let m : Marked = marked one h in
      let parts : Parts = parts_of m in
      let bytes_are : row_bytes fields parts ≡ one.bytes = parts_bytes m ∙ whole_is one h in
      let same : spelled_of parts ≡ one = ap (λ (b : List ℕ). spelled_as b (spelled_of parts).credential) bytes_are ∙ ap (λ (b : Bool). spelled_as one.bytes (record one.credential { is_skey = b })) (flag_known one.credential.is_skey).1.1 in
      (parts, fits_parts true m (h.fits, h.size) (flag_known one.credential.is_skey).0, same, bytes_are)

  pub IsField-spelled : IsField (spelled_at layout) bytes_of (Spells layout)
  IsField-spelled = IsField-made spelled_of (IsField-row fields true layout) bytes_of (Spells layout) (λ parts fits. (parts_spell parts fits, refl)) spelled_from

  -- ---- what was read, or passed over

  module _ (place : Place) where
    missing : row_at fields true layout place ≡ None → IsMissing bytes_of (Spells layout) place.rest
    missing none = missing_where (spelled_at layout) bytes_of (Spells layout) IsField-spelled place (ap (λ (read : Option (Parts × Place)). read >>= λ x. Some (spelled_of x.0, x.1)) none)

    module _ {R : Type 0} (value : Parts → R) where
      pub credential_lies : (behind : Place) (row : R) (credential : Credential) → IsBytes place.rest → made_at value (row_at fields true layout) place ≡ Some (row, behind)
          → ((parts : Parts) → row ≡ value parts → FitsRow fields true layout parts → Spells layout (spelled_as (row_bytes fields parts) credential)) → LiesOne layout place credential behind
      credential_lies behind row credential fits e made =
          let a = bind_some (row_at fields true layout place) (λ p. Some (value p.0, p.1)) (row, behind) e in
          let t = (IsField-row fields true layout).takes place a.0.0 a.0.1 fits a.1 in
          let same = some_is (value a.0.0, a.0.1) (row, behind) a.2 in (
            row_bytes fields a.0.0,
            record { fits = made a.0.0 (sym (ap (λ (p : R × Place). p.0) same)) t.1; takes = subst (Takes place (row_bytes fields a.0.0)) (ap (λ (p : R × Place). p.1) same) t.0 },
          )

      pub credential_missing : made_at value (row_at fields true layout) place ≡ None → IsMissing bytes_of (Spells layout) place.rest
      credential_missing none = missing (none_then (row_at fields true layout place) (λ p. (value p.0, p.1)) none)

    pub passed_lies : (behind : Place) → IsBytes place.rest → passed_at (row_at fields true layout) place ≡ Some behind → (one : Spelled) × Lies bytes_of (Spells layout) place one behind
    passed_lies behind fits e =
        let some = passed_some (row_at fields true layout place) behind e in
        let t = (IsField-row fields true layout).takes place some.0 behind fits some.1 in
        (spelled_of some.0, record { fits = parts_spell some.0 t.1; takes = t.0 })

    pub passed_missing : passed_at (row_at fields true layout) place ≡ None → IsMissing bytes_of (Spells layout) place.rest
    passed_missing e = missing (none_then (row_at fields true layout place) (λ p. p.1) e)
