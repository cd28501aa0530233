-- An entry is read as it is spelled.
use Rattle.std.proofs.Common.{◌≡◌, ◌⊎◌, ℕ, ◌+◌, ◌<◌, ◌^◌, Bool, true, false, cond, leb, eqb, not, ◌&&◌, List, ◌++◌, length, take, Option, Some, None, refl, sym, ap, subst, ◌∙◌, inl, inr, arith, append_assoc}
use Rattle.std.specs.Int.{w32, from_be_bytes}
use Rattle.std.proofs.lemmas.List.Elements.{All-from_recursion, recursion_from_All}
use Rattle.krb_file.specs.Cursor.{Place}
use Rattle.krb_file.specs.Field.{IsBytes, Takes}
use Rattle.krb_file.proofs.CursorLaws.{some_is, IsBytes-take}
use Rattle.krb_file.proofs.Rows.{Spelling}
use Rattle.krb_keytab.specs.Entry.{KeytabEntry}
use Rattle.krb_keytab.specs.Format.{entry, entry_bytes, full_kvno, IsEntry}
use Rattle.krb_keytab.specs.Inner.Entry.{HoldsEntry, HoldsNone}
use Rattle.krb_keytab.specs.contracts.layout.EntryViewLaid.TheImpl.{ghosts}

abbrev values : {X : Type 0} → Spelling X → Type 0
values {X} way = X

-- the values of a row
abbrev pub Row : Type 0
Row = values ghosts.way

-- the row of an entry, and the entry of a row
abbrev pub row_of : KeytabEntry → ℕ → Row
row_of e short_kvno = (length e.principal.components, (e.principal.realm, (e.principal.components, (e.principal.name_type, (e.timestamp, (short_kvno, (e.etype, e.key)))))))

abbrev pub entry_of : Row → List ℕ → KeytabEntry
entry_of (count, (realm, (components, (name_type, (timestamp, (short_kvno, (etype, key))))))) rest = record {
  principal = record { realm = realm; name_type = name_type; components = components };
  timestamp = timestamp;
  kvno = full_kvno short_kvno rest;
  etype = etype;
  key = key;
}

abbrev pub row_at : List ℕ → Option (Row × Place)
row_at body = ghosts.way.read (record { at = 0; rest = body })

abbrev pub row_bytes : KeytabEntry → ℕ → List ℕ
row_bytes e short_kvno = ghosts.way.bytes (row_of e short_kvno)

-- a row is spelled as its entry is
pub row_spelled : (e : KeytabEntry) (short_kvno : ℕ) (rest : List ℕ) → row_bytes e short_kvno ++ rest ≡ entry_bytes e short_kvno rest
row_spelled e short_kvno rest = simp append_assoc

-- ---- what is read is spelled

chosen_below : (b : Bool) (x y : ℕ) → x < 2 ^ 32 → y < 2 ^ 32 → cond b x y < 2 ^ 32
chosen_below true x y p q = p
chosen_below false x y p q = q

full_kvno_fits : (short_kvno : ℕ) (rest : List ℕ) → short_kvno < 2 ^ 8 → IsBytes rest → full_kvno short_kvno rest < 2 ^ 32
full_kvno_fits short_kvno rest short_fits fits =
    let four = IsBytes-take 4 rest fits in
    let below : from_be_bytes w32 (take 4 rest) < 2 ^ 32 = omega (arith, four 0, four 1, four 2, four 3) in
    chosen_below (leb 4 (length rest) && not (eqb (from_be_bytes w32 (take 4 rest)) 0)) (from_be_bytes w32 (take 4 rest)) short_kvno below (omega arith)

pub row_holds : (x : Row) (rest : List ℕ) → ghosts.way.InRange x → IsBytes rest → HoldsEntry (ghosts.way.bytes x ++ rest) (entry_of x rest)
row_holds (count, (realm, (components, (name_type, (timestamp, (short_kvno, (etype, key))))))) rest (count_fits, (realm_fits, (listed, (name_type_fits, (timestamp_fits, (short_fits, (etype_fits, key_fits))))))) fits =
    let x : Row = (count, (realm, (components, (name_type, (timestamp, (short_kvno, (etype, key))))))) in
    let e : KeytabEntry = entry_of x rest in
    record {
      short_kvno = short_kvno;
      rest = rest;
      body_is = subst (λ (n : ℕ). ghosts.way.bytes (n, x.1) ++ rest ≡ entry_bytes e short_kvno rest) listed.0 (row_spelled e short_kvno rest);
      is_entry = record {
        fits = record {
          lengths = record { count = subst (λ (n : ℕ). n < 2 ^ 16) (sym listed.0) count_fits; realm = realm_fits; components = All-from_recursion _ components listed.1; key_length = key_fits };
          name_type = name_type_fits;
          timestamp = timestamp_fits;
          kvno = full_kvno_fits short_kvno rest short_fits fits;
          etype = etype_fits;
        };
        short_fits = short_fits;
        kvno = refl;
      };
    }

pub row_taken : (body : List ℕ) (x : Row) (behind : Place) → IsBytes body → row_at body ≡ Some (x, behind) → Takes (record { at = 0; rest = body }) (ghosts.way.bytes x) behind × ghosts.way.InRange x
row_taken body x behind fits read = ghosts.way.field.takes (record { at = 0; rest = body }) x behind fits read

-- ---- what is spelled is read

row_fits : (e : KeytabEntry) (short_kvno : ℕ) (rest : List ℕ) → IsEntry e short_kvno rest → ghosts.way.InRange (row_of e short_kvno)
row_fits e short_kvno rest h =
    let fits = h.fits in
    (fits.lengths.count, (fits.lengths.realm, ((refl, recursion_from_All _ e.principal.components fits.lengths.components), (fits.name_type, (fits.timestamp, (h.short_fits, (fits.etype, fits.lengths.key_length)))))))

row_again : (e : KeytabEntry) (short_kvno : ℕ) (rest : List ℕ) → IsEntry e short_kvno rest → row_at (entry_bytes e short_kvno rest) ≡ Some (row_of e short_kvno, record { at = 0 + length (row_bytes e short_kvno); rest = rest })
row_again e short_kvno rest h = ap row_at (sym (row_spelled e short_kvno rest)) ∙ ghosts.way.field.again 0 (row_of e short_kvno) rest (row_fits e short_kvno rest h)

pub none_holds : (body : List ℕ) → row_at body ≡ None → HoldsNone body
none_holds body none e short_kvno rest is_entry same = let again = ap row_at same ∙ row_again e short_kvno rest is_entry in cc

pub some_holds : (body : List ℕ) → IsBytes body → ((e : KeytabEntry) × HoldsEntry body e) ⊎ HoldsNone body
some_holds body fits = told (row_at body) refl
  where
    told : (read : Option (Row × Place)) → row_at body ≡ read → ((e : KeytabEntry) × HoldsEntry body e) ⊎ HoldsNone body
    told None e = inr (none_holds body e)
    told (Some (x, behind)) e =
        let t = row_taken body x behind fits e in
        inl (entry_of x behind.rest, subst (λ (b : List ℕ). HoldsEntry b (entry_of x behind.rest)) (sym t.0.parts) (row_holds x behind.rest t.1 t.0.rest_fits))

-- ---- bytes hold one entry

pub same_entry : (e f : KeytabEntry) (s t : ℕ) (rest other : List ℕ) → IsEntry e s rest → IsEntry f t other → entry_bytes e s rest ≡ entry_bytes f t other → entry e s rest ≡ entry f t other
same_entry e f s t rest other p q same =
    let both = some_is (row_of e s, record { at = 0 + length (row_bytes e s); rest = rest }) (row_of f t, record { at = 0 + length (row_bytes f t); rest = other }) (sym (row_again e s rest p) ∙ ap row_at same ∙ row_again f t other q) in
    let rows : row_of e s ≡ row_of f t = ap (λ (k : Row × Place). k.0) both in
    let rests : rest ≡ other = ap (λ (k : Row × Place). k.1.rest) both in
    let entries : e ≡ f = ap (λ (n : ℕ). record e { kvno = n }) p.kvno ∙ ap (λ (x : Row). entry_of x rest) rows ∙ ap (entry_of (row_of f t)) rests ∙ ap (λ (n : ℕ). record f { kvno = n }) (sym q.kvno) in
    ap (λ (k : Row). entry e k.1.1.1.1.1.0 rest) rows ∙ ap (λ (g : KeytabEntry). entry g t rest) entries ∙ ap (λ (x : List ℕ). entry f t x) rests
