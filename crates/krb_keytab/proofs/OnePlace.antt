-- Two readers of one file stand at one place after as many entries.
use Rattle.std.proofs.Common.{◌≡◌, ℕ, ◌+◌, List, [], ◌∷◌, ◌++◌, length, Option, Some, None, refl, sym, ap, ◌∙◌, append_assoc, append-nil, arith}
use Rattle.std.specs.List.{flat_map, AllByRecursion}
use Rattle.std.specs.Io.KnownBytes.{Consumes}
use Rattle.std.proofs.lemmas.List.{length-append, append_cancel_left}
use Rattle.std.proofs.lemmas.List.Concat.{flat_map-cons}
use Rattle.std.proofs.lemmas.List.Elements.{recursion_from_All}
use Rattle.krb_keytab.specs.Entry.{KeytabEntry}
use Rattle.krb_keytab.specs.Format.{version, KeytabRecord, entry, record_bytes, FitsRecord, entries_of}
use Rattle.krb_keytab.specs.Items.{EndsWithEntry, StandsTo}
use Rattle.krb_keytab.specs.declared.stage.Stage.TheVariants.{Records}
use Rattle.krb_keytab.proofs.OneRecord.{same_first}
use Rattle.krb_keytab.proofs.OneSplit.{first_is}

-- ---- records up to an entry

-- how many entries they have
abbrev count : List KeytabRecord → ℕ
count ones = length (flat_map entries_of ones)

count_first : (one : KeytabRecord) (ones : List KeytabRecord) → count (one ∷ ones) ≡ length (entries_of one) + count ones
count_first one ones = ap length (flat_map-cons entries_of one ones) ∙ length-append (entries_of one) (flat_map entries_of ones)

-- as many, and then an entry
same_front : (ones others : List KeytabRecord) (last final : KeytabRecord) (x y : List ℕ) → AllByRecursion FitsRecord ones → AllByRecursion FitsRecord others → FitsRecord last → FitsRecord final → length (entries_of last) ≡ 1 → length (entries_of final) ≡ 1
    → flat_map record_bytes ones ++ (record_bytes last ++ x) ≡ flat_map record_bytes others ++ (record_bytes final ++ y) → count ones ≡ count others → (ones ≡ others) × (last ≡ final)
same_front [] [] last final x y p q f g l m e c = (refl, (same_first last final x y f g e).0)
same_front [] (other ∷ others) last final x y p q f g l m e c =
    let same = same_first last other x (flat_map record_bytes others ++ (record_bytes final ++ y)) f q.0 (e ∙ first_is other others (record_bytes final ++ y)) in
    absurd (omega (arith, c, count_first other others, l, ap (λ (r : KeytabRecord). length (entries_of r)) same.0))
same_front (one ∷ ones) [] last final x y p q f g l m e c =
    let same = same_first final one y (flat_map record_bytes ones ++ (record_bytes last ++ x)) g p.0 (sym e ∙ first_is one ones (record_bytes last ++ x)) in
    absurd (omega (arith, c, count_first one ones, m, ap (λ (r : KeytabRecord). length (entries_of r)) same.0))
same_front (one ∷ ones) (other ∷ others) last final x y p q f g l m e c =
    let s : List ℕ = flat_map record_bytes ones ++ (record_bytes last ++ x) in
    let t : List ℕ = flat_map record_bytes others ++ (record_bytes final ++ y) in
    let same = same_first one other s t p.0 q.0 (sym (first_is one ones (record_bytes last ++ x)) ∙ e ∙ first_is other others (record_bytes final ++ y)) in
    let fewer : count ones ≡ count others = omega (arith, c, count_first one ones, count_first other others, ap (λ (r : KeytabRecord). length (entries_of r)) same.0) in
    let rest = same_front ones others last final x y p.1 q.1 f g l m same.1 fewer in
    (ap (λ (r : KeytabRecord). r ∷ ones) same.0 ∙ ap (λ (k : List KeytabRecord). other ∷ k) rest.0, rest.1)

-- ---- two readers

-- the records say what the source gave, and what was returned of it
abbrev bytes_of : List KeytabRecord → KeytabRecord → List ℕ
bytes_of ones last = (version ++ (flat_map record_bytes ones ++ [])) ++ record_bytes last

abbrev given_of : List KeytabRecord → KeytabRecord → List KeytabEntry
given_of ones last = flat_map entries_of ones ++ entries_of last

parted : (ones : List KeytabRecord) (last : KeytabRecord) (x : List ℕ) → bytes_of ones last ++ x ≡ version ++ (flat_map record_bytes ones ++ (record_bytes last ++ x))
parted ones last x =
    let front : List ℕ = flat_map record_bytes ones in
    let back : List ℕ = record_bytes last in
    ap (λ (t : List ℕ). ((version ++ t) ++ back) ++ x) (append-nil front) ∙ append_assoc (version ++ front) back x ∙ append_assoc version front (back ++ x)

pub same_place : (whole bytes others : List ℕ) (left right : Option (List ℕ)) (held peak : ℕ) (entries more : List KeytabEntry)
    → Consumes (Some whole) left bytes → StandsTo left held Records bytes entries → Consumes (Some whole) right others → StandsTo right peak Records others more → length entries ≡ length more → (bytes ≡ others) × (entries ≡ more)
same_place whole bytes others None right held peak entries more c s d t n = absurd c
same_place whole bytes others (Some x) None held peak entries more c s d t n = absurd d
same_place whole bytes others (Some x) (Some y) held peak entries more c s d t n =
    let v : EndsWithEntry held bytes entries = s.1 in
    let w : EndsWithEntry peak others more = t.1 in
    let ones : List KeytabRecord = v.reached.records in
    let twos : List KeytabRecord = w.reached.records in
    let last : KeytabRecord = entry v.last v.short_kvno v.rest in
    let final : KeytabRecord = entry w.last w.short_kvno w.rest in
    let bytes_are : bytes ≡ bytes_of ones last = v.bytes_are ∙ ap (λ (b : List ℕ). b ++ record_bytes last) v.reached.bytes_are in
    let others_are : others ≡ bytes_of twos final = w.bytes_are ∙ ap (λ (b : List ℕ). b ++ record_bytes final) w.reached.bytes_are in
    let entries_are : entries ≡ given_of ones last = v.entries_are ∙ ap (λ (k : List KeytabEntry). k ++ v.last ∷ []) v.reached.entries_are in
    let more_are : more ≡ given_of twos final = w.entries_are ∙ ap (λ (k : List KeytabEntry). k ++ w.last ∷ []) w.reached.entries_are in
    let one_way : whole ≡ version ++ (flat_map record_bytes ones ++ (record_bytes last ++ x)) = c ∙ ap (λ (b : List ℕ). b ++ x) bytes_are ∙ parted ones last x in
    let other_way : whole ≡ version ++ (flat_map record_bytes twos ++ (record_bytes final ++ y)) = d ∙ ap (λ (b : List ℕ). b ++ y) others_are ∙ parted twos final y in
    let as_many : count ones ≡ count twos = omega (arith, n, ap length entries_are, ap length more_are, length-append (flat_map entries_of ones) (v.last ∷ []), length-append (flat_map entries_of twos) (w.last ∷ [])) in
    let same = same_front ones twos last final x y (recursion_from_All FitsRecord ones v.reached.fit) (recursion_from_All FitsRecord twos w.reached.fit) v.fits w.fits refl refl (append_cancel_left version _ _ (sym one_way ∙ other_way)) as_many in (
      bytes_are ∙ ap (λ (k : List KeytabRecord). bytes_of k last) same.0 ∙ ap (λ (r : KeytabRecord). bytes_of twos r) same.1 ∙ sym others_are,
      entries_are ∙ ap (λ (k : List KeytabRecord). given_of k last) same.0 ∙ ap (λ (r : KeytabRecord). given_of twos r) same.1 ∙ sym more_are,
    )
