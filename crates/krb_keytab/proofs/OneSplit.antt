-- Bytes are one list of records alone, and then what is no record.
use Rattle.std.proofs.Common.{◌≡◌, ℕ, ◌+◌, List, [], ◌∷◌, ◌++◌, length, Option, Some, None, refl, sym, ap, subst, ◌∙◌, append_assoc, append-nil, arith}
use Rattle.std.specs.List.{flat_map, AllByRecursion}
use Rattle.std.specs.Prelude.{All}
use Rattle.std.proofs.lemmas.List.{append_cancel_left, length-append, nil_from_length}
use Rattle.std.proofs.lemmas.List.Concat.{flat_map-cons}
use Rattle.std.proofs.lemmas.List.Elements.{recursion_from_All}
use Rattle.krb_keytab.specs.Entry.{KeytabEntry}
use Rattle.krb_keytab.specs.Edit.{IsMadeOf}
use Rattle.krb_keytab.specs.Format.{version, KeytabRecord, record_bytes, FitsRecord, entries_of}
use Rattle.krb_keytab.specs.Items.{LacksRecord, Stops, StopsSo}
use Rattle.krb_keytab.specs.declared.fault.KeytabFault.{KeytabFault}
use Rattle.krb_keytab.specs.declared.fault.KeytabFault.TheVariants.{Version}
use Rattle.krb_keytab.proofs.OneRecord.{same_first, NoRecord, no_record, same_last}

pub first_is : (one : KeytabRecord) (ones : List KeytabRecord) (b : List ℕ) → flat_map record_bytes (one ∷ ones) ++ b ≡ record_bytes one ++ (flat_map record_bytes ones ++ b)
first_is one ones b = ap (λ (t : List ℕ). t ++ b) (flat_map-cons record_bytes one ones) ∙ append_assoc (record_bytes one) (flat_map record_bytes ones) b

-- records that come before others are the first of all, if no more follow
first_among : (ones others : List KeytabRecord) (b c : List ℕ) → AllByRecursion FitsRecord ones → AllByRecursion FitsRecord others → flat_map record_bytes ones ++ b ≡ flat_map record_bytes others ++ c → NoRecord c → (more : List KeytabRecord) × (others ≡ ones ++ more)
first_among [] others b c p q e none = (others, refl)
first_among (one ∷ ones) [] b c p q e none = absurd (none one (flat_map record_bytes ones ++ b) p.0 (sym e ∙ first_is one ones b))
first_among (one ∷ ones) (other ∷ others) b c p q e none =
    let s = same_first one other _ _ p.0 q.0 (sym (first_is one ones b) ∙ e ∙ first_is other others c) in
    let m = first_among ones others b c p.1 q.1 s.1 none in
    (m.0, ap (λ (r : KeytabRecord). r ∷ others) (sym s.0) ∙ ap (λ (t : List KeytabRecord). one ∷ t) m.1)

module _ (ones others : List KeytabRecord) (b c : List ℕ) (p : All FitsRecord ones) (q : All FitsRecord others) (same : version ++ (flat_map record_bytes ones ++ b) ≡ version ++ (flat_map record_bytes others ++ c)) where
  pub first_records : NoRecord c → (more : List KeytabRecord) × (others ≡ ones ++ more)
  first_records none = first_among ones others b c (recursion_from_All FitsRecord ones p) (recursion_from_All FitsRecord others q) (append_cancel_left version _ _ same) none

-- records that no record follows are one list
same_split : (ones others : List KeytabRecord) (b c : List ℕ) → All FitsRecord ones → All FitsRecord others → version ++ (flat_map record_bytes ones ++ b) ≡ version ++ (flat_map record_bytes others ++ c) → NoRecord b → NoRecord c → (ones ≡ others) × (b ≡ c)
same_split ones others b c p q same none never =
    let m = first_records ones others b c p q same never in
    let n = first_records others ones c b q p (sym same) none in
    let none_more : m.0 ≡ [] = nil_from_length m.0 (omega (arith, ap length m.1, ap length n.1, length-append ones m.0, length-append others n.0)) in
    let is : ones ≡ others = sym (m.1 ∙ ap (λ (t : List KeytabRecord). ones ++ t) none_more ∙ append-nil ones) in
    (is, append_cancel_left (flat_map record_bytes ones) b c (append_cancel_left version _ _ same ∙ ap (λ (t : List KeytabRecord). flat_map record_bytes t ++ c) (sym is)))

pub same_division : {bytes : List ℕ} {ones others : List KeytabRecord} {b c : List ℕ} → IsMadeOf bytes ones b → IsMadeOf bytes others c → (ones ≡ others) × (b ≡ c)
same_division {bytes} {ones} {others} {b} {c} m n = same_split ones others b c m.fit n.fit (sym m.bytes_are ∙ n.bytes_are) (no_record 0 None b m.is_end) (no_record 0 None c n.is_end)

pub same_records : {bytes : List ℕ} {ones others : List KeytabRecord} {b c : List ℕ} → IsMadeOf bytes ones b → IsMadeOf bytes others c → ones ≡ others
same_records m n = (same_division m n).0

-- ---- one last answer

same_stop : (bytes : List ℕ) (entries more : List KeytabEntry) (last other : Option KeytabFault) → Stops bytes entries last → Stops bytes more other → (entries ≡ more) × (last ≡ other)
same_stop bytes entries more last other p q =
    let r = p.reached in
    let t = q.reached in
    let s = same_split r.records t.records p.behind q.behind r.fit t.fit (sym r.bytes_are ∙ t.bytes_are) (no_record p.at last p.behind p.lacks) (no_record q.at other q.behind q.lacks) in
    let at : q.at ≡ p.at = t.at_is ∙ ap (λ (k : List KeytabRecord). 2 + length (flat_map record_bytes k)) (sym s.0) ∙ sym r.at_is in
    let lacks : LacksRecord p.at other p.behind = subst (λ (n : ℕ). LacksRecord n other p.behind) at (subst (LacksRecord q.at other) (sym s.1) q.lacks) in
    (r.entries_are ∙ ap (flat_map entries_of) s.0 ∙ sym t.entries_are, same_last p.at last other p.behind p.lacks lacks)

pub one_last : (bytes : List ℕ) (entries more : List KeytabEntry) (last other : Option KeytabFault) → StopsSo bytes entries last → StopsSo bytes more other → (entries ≡ more) × (last ≡ other)
one_last bytes entries more (Some Version) (Some Version) p q = (p.0 ∙ sym q.0, refl)
one_last bytes entries more (Some Version) other p q = absurd (p.1 _ q.reached.bytes_are)
one_last bytes entries more last (Some Version) p q = absurd (q.1 _ p.reached.bytes_are)
one_last bytes entries more last other p q = same_stop bytes entries more last other p q
