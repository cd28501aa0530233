-- What bytes begin with: one record alone, or what is no record.
use Rattle.std.proofs.Common.{◌≡◌, ◌⊎◌, ℕ, zero, suc, ℤ, pos, negsuc, neg_ℤ, ◌<◌, List, [], ◌∷◌, ◌++◌, length, take, drop, Option, Some, None, refl, sym, ap, ◌∙◌, append_assoc, arith, rules, inl, inr}
use Rattle.std.specs.Int.{w32}
use Rattle.std.specs.Prelude.{FitsSigned, unsigned_abs}
use Rattle.std.proofs.lemmas.List.{length-append, take_at, drop_at}
use Rattle.krb_file.specs.Cursor.{Place, signed_at, signed_bytes}
use Rattle.krb_file.proofs.CursorLaws.{some_is, IsField-i32}
use Rattle.krb_keytab.specs.Format.{KeytabRecord, hole, entry, entry_bytes, record_bytes, FitsRecord, IsEnd, IsCutOff, HoldsNoEntry}
use Rattle.krb_keytab.specs.Items.{LacksRecord}
use Rattle.krb_keytab.specs.declared.fault.KeytabFault.{KeytabFault}
use Rattle.krb_keytab.specs.declared.fault.KeytabFault.TheVariants.{Truncated, BadEntry}
use Rattle.krb_keytab.proofs.EntryLaws.{same_entry}
use Rattle.krb_keytab.proofs.FileLaws.{entry_size}

-- ---- a size and what follows it

same_size : (size other : ℤ) (x y : List ℕ) → FitsSigned w32 size → FitsSigned w32 other → signed_bytes w32 size ++ x ≡ signed_bytes w32 other ++ y → (size ≡ other) × (x ≡ y)
same_size size other x y p q e =
    let read = some_is _ _ (sym (IsField-i32.again 0 size x p) ∙ ap (λ (t : List ℕ). signed_at w32 (record { at = 0; rest = t })) e ∙ IsField-i32.again 0 other y q) in
    (ap (λ (k : ℤ × Place). k.0) read, ap (λ (k : ℤ × Place). k.1.rest) read)

same_parts : (a b x y : List ℕ) → length a ≡ length b → a ++ x ≡ b ++ y → (a ≡ b) × (x ≡ y)
same_parts a b x y long e = (
  sym (take_at a x (length a) refl) ∙ ap (take (length a)) e ∙ take_at b y (length a) (sym long),
  sym (drop_at a x (length a) refl) ∙ ap (drop (length a)) e ∙ drop_at b y (length a) (sym long),
)

-- bytes begin with a size, and have so many others after it
record IsSized (bytes : List ℕ) (size : ℤ) (body behind : List ℕ) : Type 0 where
  bytes_are : bytes ≡ signed_bytes w32 size ++ (body ++ behind)
  fits : FitsSigned w32 size
  count : length body ≡ unsigned_abs size
  some : 0 < length body

same_sized : {bytes : List ℕ} {size other : ℤ} {body text behind after : List ℕ} → IsSized bytes size body behind → IsSized bytes other text after → (size ≡ other) × ((body ≡ text) × (behind ≡ after))
same_sized {bytes} {size} {other} {body} {text} {behind} {after} p q =
    let s = same_size size other (body ++ behind) (text ++ after) p.fits q.fits (sym p.bytes_are ∙ q.bytes_are) in
    (s.0, same_parts body text behind after (p.count ∙ ap unsigned_abs s.0 ∙ sym q.count) s.1)

abbrev size_of : KeytabRecord → ℤ
size_of (hole ignored) = neg_ℤ (pos (length ignored))
size_of (entry e short_kvno rest) = pos (length (entry_bytes e short_kvno rest))

abbrev body_of : KeytabRecord → List ℕ
body_of (hole ignored) = ignored
body_of (entry e short_kvno rest) = entry_bytes e short_kvno rest

sized : (one : KeytabRecord) (bytes behind : List ℕ) → FitsRecord one → bytes ≡ record_bytes one ++ behind → IsSized bytes (size_of one) (body_of one) behind
sized (hole []) bytes behind fits is = absurd (omega arith)
sized (hole (x ∷ xs)) bytes behind fits is = record { bytes_are = is ∙ append_assoc (signed_bytes w32 (negsuc (length xs))) (x ∷ xs) behind; fits = record { sfits = omega arith }; count = refl; some = omega arith }
sized (entry e short_kvno rest) bytes behind fits is = record {
  bytes_are = is ∙ append_assoc (signed_bytes w32 (size_of (entry e short_kvno rest))) (entry_bytes e short_kvno rest) behind;
  fits = record { sfits = fits.1 };
  count = refl;
  some = entry_size e short_kvno rest;
}

-- ---- one record

not_both : (n m : ℕ) → 0 < n → neg_ℤ (pos n) ≡ pos m → ⊥
not_both zero m some e = omega arith
not_both (suc n) m some e = cc

same_record : (one other : KeytabRecord) → FitsRecord one → FitsRecord other → size_of one ≡ size_of other → body_of one ≡ body_of other → one ≡ other
same_record (hole x) (hole y) p q size body = ap (λ (t : List ℕ). hole t) body
same_record (hole x) (entry f t w) p q size body = absurd (not_both (length x) _ p.0 size)
same_record (entry d s r) (hole y) p q size body = absurd (not_both (length y) _ q.0 (sym size))
same_record (entry d s r) (entry f t w) p q size body = same_entry d f s t r w p.0 q.0 body

-- bytes begin with one record, and what follows it is the same
pub same_first : (one other : KeytabRecord) (x y : List ℕ) → FitsRecord one → FitsRecord other → record_bytes one ++ x ≡ record_bytes other ++ y → (one ≡ other) × (x ≡ y)
same_first one other x y p q both =
    let s = same_sized (sized one _ x p refl) (sized other _ y q both) in
    (same_record one other p q s.0 s.1.0, s.1.1)

-- ---- what is no record

cut_or_sized : {bytes : List ℕ} {size : ℤ} {body behind : List ℕ} → IsEnd bytes ⊎ IsCutOff bytes → IsSized bytes size body behind → ⊥
cut_or_sized {bytes} {size} {body} {behind} (inl (inl none)) s = omega (arith, ap length none, ap length s.bytes_are, length-append (signed_bytes w32 size) (body ++ behind))
cut_or_sized {bytes} {size} {body} {behind} (inl (inr zeros)) s =
    let e = same_size (pos 0) size zeros.0 (body ++ behind) (record { sfits = omega arith }) s.fits (sym zeros.1 ∙ s.bytes_are) in
    omega (arith, s.count, s.some, ap unsigned_abs e.0)
cut_or_sized {bytes} {size} {body} {behind} (inr (inl few)) s = omega (arith, few.1, ap length s.bytes_are, length-append (signed_bytes w32 size) (body ++ behind))
cut_or_sized {bytes} {size} {body} {behind} (inr (inr cut)) s =
    let e = same_size cut.size size cut.body (body ++ behind) cut.size_fits s.fits (sym cut.behind_is ∙ s.bytes_are) in
    omega (arith, cut.short, s.count, ap unsigned_abs e.0, ap length e.1, length-append body behind)

end_or_cut : (bytes : List ℕ) → IsEnd bytes → IsCutOff bytes → ⊥
end_or_cut bytes (inl none) (inl few) = omega (arith, few.0, ap length none)
end_or_cut bytes (inl none) (inr cut) = omega (arith, ap length none, ap length cut.behind_is, length-append (signed_bytes w32 cut.size) cut.body)
end_or_cut bytes (inr zeros) (inl few) = omega (arith, few.1, ap length zeros.1)
end_or_cut bytes (inr zeros) (inr cut) =
    let e = same_size (pos 0) cut.size zeros.0 cut.body (record { sfits = omega arith }) cut.size_fits (sym zeros.1 ∙ cut.behind_is) in
    omega (arith, cut.short, ap unsigned_abs e.0)

sized_bad : {bytes : List ℕ} (h : HoldsNoEntry bytes) → IsSized bytes (pos (length h.body)) h.body h.others
sized_bad h = record { bytes_are = h.behind_is; fits = record { sfits = h.size_fits }; count = refl; some = h.size }

bad_or_record : (one : KeytabRecord) (bytes behind : List ℕ) → FitsRecord one → bytes ≡ record_bytes one ++ behind → HoldsNoEntry bytes → ⊥
bad_or_record (hole x) bytes behind fits is h = not_both (length x) _ fits.0 (same_sized (sized (hole x) bytes behind fits is) (sized_bad h)).0
bad_or_record (entry e s r) bytes behind fits is h = h.no_entry e s r fits.0 (same_sized (sized_bad h) (sized (entry e s r) bytes behind fits is)).1.0

abbrev pub NoRecord : List ℕ → Type 0
NoRecord bytes = (one : KeytabRecord) (behind : List ℕ) → FitsRecord one → bytes ≡ record_bytes one ++ behind → ⊥

pub no_record : (at : ℕ) (last : Option KeytabFault) (bytes : List ℕ) → LacksRecord at last bytes → NoRecord bytes
no_record at None bytes lacks one behind fits is = cut_or_sized (inl lacks) (sized one bytes behind fits is)
no_record at (Some (Truncated place)) bytes lacks one behind fits is = cut_or_sized (inr lacks.1) (sized one bytes behind fits is)
no_record at (Some (BadEntry place)) bytes lacks one behind fits is = bad_or_record one bytes behind fits is lacks.1
no_record at (Some _) bytes lacks one behind fits is = lacks

pub same_last : (at : ℕ) (last other : Option KeytabFault) (bytes : List ℕ) → LacksRecord at last bytes → LacksRecord at other bytes → last ≡ other
same_last at None None bytes p q = refl
same_last at None (Some (Truncated y)) bytes p q = absurd (end_or_cut bytes p q.1)
same_last at None (Some (BadEntry y)) bytes p q = absurd (cut_or_sized (inl p) (sized_bad q.1))
same_last at (Some (Truncated x)) None bytes p q = absurd (end_or_cut bytes q p.1)
same_last at (Some (Truncated x)) (Some (Truncated y)) bytes p q = ap (λ (n : ℕ). Some (Truncated n)) (p.0 ∙ sym q.0)
same_last at (Some (Truncated x)) (Some (BadEntry y)) bytes p q = absurd (cut_or_sized (inr p.1) (sized_bad q.1))
same_last at (Some (BadEntry x)) None bytes p q = absurd (cut_or_sized (inl q) (sized_bad p.1))
same_last at (Some (BadEntry x)) (Some (Truncated y)) bytes p q = absurd (cut_or_sized (inr q.1) (sized_bad p.1))
same_last at (Some (BadEntry x)) (Some (BadEntry y)) bytes p q = ap (λ (n : ℕ). Some (BadEntry n)) (p.0 ∙ sym q.0)
same_last at last other bytes p q = search rules
