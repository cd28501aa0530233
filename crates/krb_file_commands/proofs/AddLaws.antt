-- Keys that are added to a keytab one after another.
use Rattle.std.proofs.Common.{◌≡◌, ◌⊎◌, ◌+◌, ◌-◌, ◌<◌, ◌∙◌, ℕ, List, [], ◌∷◌, ◌++◌, length, take, drop, get_or, suc, length-append, add-one, drop-cons, arith, ap, sym, subst, refl, inl, inr, append_assoc}
use Rattle.std.proofs.Math.ListN.{get_or-append}
use Rattle.std.proofs.Math.Seq.{get_or-append_right, take-suc}
use Rattle.std.proofs.lemmas.Bool.{cases_lt}
use Rattle.std.proofs.lemmas.List.{append-nil, get_or-append-add, take-append-drop}
use Rattle.std.specs.Prelude.{◌≢◌, IfErr, IfSome, OnOk, Option, Some, None, Result, Ok, Err}
use Rattle.krb_keytab.specs.Edit.{AddsEntry, GainsEntry, IsUnadded, WouldPass}
use Rattle.krb_keytab.specs.Entry.{KeytabEntry}
use Rattle.krb_keytab.specs.Format.{IsAnswerOf, IsFaultOf, IsKeytab}
use Rattle.krb_keytab.specs.SameKey.{HasKeyOf}
use Rattle.krb_keytab.specs.declared.fault.KeytabFault.{KeytabFault}
use Rattle.krb_keytab.specs.declared.fault.KeytabFault.TheVariants.{Version, Truncated, BadEntry, TooLong, NoSuchEntry, Read, OutOfMemory}
use Rattle.krb_file_commands.specs.declared.fault.AddFault.TheVariants.{Keytab}
use Rattle.krb_file_commands.specs.Adding.{AddsEach, AreLacking, Extends, IsExtended, IsUnextended, PassesLimit}
use Rattle.krb_file_commands.specs.Status.{keytab_reads, of_keytab}
use Rattle.krb_file_commands.specs.Inner.Adding.{IsAddedSoFar, TakesEntry}
use Rattle.krb_file_commands.proofs.FileLaws.{of_file}

-- one more entry, whose key is known
held_more : (held before lacking : List KeytabEntry) (entry : KeytabEntry) → AreLacking held before lacking
    → HasKeyOf (held ++ before) entry → AreLacking held (before ++ entry ∷ []) lacking
held_more held [] lacking entry are has = inl (subst (λ (l : List KeytabEntry). HasKeyOf l entry) (append-nil held) has, are)
held_more held (first ∷ others) lacking entry are has =
    let known : HasKeyOf ((held ++ first ∷ []) ++ others) entry =
    subst (λ (l : List KeytabEntry). HasKeyOf l entry) (sym (append_assoc held (first ∷ []) others)) has in
    elim are [
      | inl left ↦ inl (left.0, held_more (held ++ first ∷ []) others lacking entry left.1 known)
      | inr right ↦ inr (right.0, (right.1.0, (right.1.1.0, held_more (held ++ first ∷ []) others right.1.0 entry right.1.1.1 known)))
    ]

-- one more entry, which is lacking
lacking_more : (held before lacking : List KeytabEntry) (entry : KeytabEntry) → AreLacking held before lacking
    → (¬ HasKeyOf (held ++ before) entry) → AreLacking held (before ++ entry ∷ []) (lacking ++ entry ∷ [])
lacking_more held [] lacking entry are lacks =
    inr (
      subst (λ (l : List KeytabEntry). ¬ HasKeyOf l entry) (append-nil held) lacks,
      ([], (ap (λ (l : List KeytabEntry). l ++ entry ∷ []) are, refl)),
    )
lacking_more held (first ∷ others) lacking entry are lacks =
    let unknown : ¬ HasKeyOf ((held ++ first ∷ []) ++ others) entry =
    subst (λ (l : List KeytabEntry). ¬ HasKeyOf l entry) (sym (append_assoc held (first ∷ []) others)) lacks in
    elim are [
      | inl left ↦ inl (left.0, lacking_more (held ++ first ∷ []) others lacking entry left.1 unknown)
      | inr right ↦ inr (
        right.0,
        (
          right.1.0 ++ entry ∷ [],
          (
            ap (λ (l : List KeytabEntry). l ++ entry ∷ []) right.1.1.0,
            lacking_more (held ++ first ∷ []) others right.1.0 entry right.1.1.1 unknown,
          ),
        ),
      )
    ]

adds_more : (old : List ℕ) (lacking : List KeytabEntry) (next : List ℕ) (entry : KeytabEntry) (new : List ℕ) → AddsEach old lacking next
    → AddsEntry next entry new × GainsEntry next entry new → AddsEach old (lacking ++ entry ∷ []) new
adds_more old [] next entry new added step =
    (new, (subst (λ (l : List ℕ). AddsEntry l entry new × GainsEntry l entry new) (sym added) step, refl))
adds_more old (first ∷ others) next entry new added step =
    (added.0, (added.1.0, adds_more added.0 others next entry new added.1.1 step))

-- the entries so far, and one more
pub so_far_more : (old : List ℕ) (held before : List KeytabEntry) (next : List ℕ) (entry : KeytabEntry) (new : List ℕ) → IsAddedSoFar old held before next
    → TakesEntry (held ++ before) next entry new → IsAddedSoFar old held (before ++ entry ∷ []) new
so_far_more old held before next entry new so_far takes = elim takes [
  | inl known ↦ record {
    lacking = so_far.lacking;
    lacking_are = held_more held before so_far.lacking entry so_far.lacking_are known.0;
    added = subst (λ (l : List ℕ). AddsEach old so_far.lacking l) known.1 so_far.added;
  }
  | inr lacks ↦ record {
    lacking = so_far.lacking ++ entry ∷ [];
    lacking_are = lacking_more held before so_far.lacking entry so_far.lacking_are lacks.0;
    added = adds_more old so_far.lacking next entry new so_far.added lacks.1;
  }
]

pub key_after : (one other : List KeytabEntry) (entry : KeytabEntry) → HasKeyOf other entry → HasKeyOf (one ++ other) entry
key_after one other entry has =
    let at : length one + has.0 < length (one ++ other) = omega (arith, length-append one other, has.2) in
    (length one + has.0, has.1, at, get_or-append-add one other has.0 has.1 ∙ has.3, has.4)

pub key_in_one : (one other : List KeytabEntry) (entry : KeytabEntry) → HasKeyOf (one ++ other) entry → HasKeyOf one entry ⊎ HasKeyOf other entry
key_in_one one other entry has = elim (cases_lt has.0 (length one)) [
  | inl below ↦ inl (has.0, has.1, below, sym (get_or-append one other has.1 has.0 below) ∙ has.3, has.4)
  | inr above ↦
      let at : has.0 - length one < length other = omega (arith, length-append one other, has.2, above) in
      inr (has.0 - length one, has.1, at, sym (get_or-append_right one other has.0 has.1 above) ∙ has.3, has.4)
]

-- the answer of a call that adds the entry, which is lacking
pub taken : {F : Type 0} (result : Result Unit F) (known : List KeytabEntry) (old : List ℕ) (entry : KeytabEntry) (new : List ℕ)
    → (¬ HasKeyOf known entry) → OnOk result (AddsEntry old entry new) → OnOk result (GainsEntry old entry new)
    → OnOk result (TakesEntry known old entry new)
taken (Ok x) known old entry new lacks adds gains = inr (lacks, (adds, gains))
taken (Err fault) known old entry new lacks adds gains = tt

-- that each file has one answer
abbrev pub HaveOne : Type 0
HaveOne = (bytes : List ℕ) (answer other : Result (List KeytabEntry) KeytabFault) → IsAnswerOf bytes answer → IsAnswerOf bytes other → answer ≡ other

no_fault : (bytes : List ℕ) (fault : KeytabFault) → HaveOne → (entries : List KeytabEntry) × IsKeytab bytes entries → IsFaultOf bytes fault → ⊥
no_fault bytes fault one keytab is = let same = one bytes (Ok keytab.0) (Err fault) keytab.1 is in cc

-- a keytab isn't refused, except that memory may be lacking
only_memory : (fault : KeytabFault) → (fault ≢ OutOfMemory → ⊥) → fault ≡ OutOfMemory
only_memory OutOfMemory not_other = refl
only_memory Version not_other = absurd (not_other (λ is. cc))
only_memory (Truncated at) not_other = absurd (not_other (λ is. cc))
only_memory (BadEntry at) not_other = absurd (not_other (λ is. cc))
only_memory TooLong not_other = absurd (not_other (λ is. cc))
only_memory NoSuchEntry not_other = absurd (not_other (λ is. cc))
only_memory Read not_other = absurd (not_other (λ is. cc))

pub not_refused : {X : Type 0} (result : Result X KeytabFault) (bytes : List ℕ) → HaveOne → (entries : List KeytabEntry) × IsKeytab bytes entries
    → IfErr result (λ fault. fault ≢ OutOfMemory → IsFaultOf bytes fault) → IfErr result (λ fault. fault ≡ OutOfMemory)
not_refused (Ok x) bytes one keytab is = tt
not_refused (Err fault) bytes one keytab is = only_memory fault (λ other. no_fault bytes fault one keytab (is other))

-- why the entry, which is lacking, isn't added
unadded : (known : List KeytabEntry) (old : List ℕ) (entry : KeytabEntry) (fault : KeytabFault) → (¬ HasKeyOf known entry) → IsUnadded old entry fault
    → (fault ≡ OutOfMemory) ⊎ ((fault ≡ TooLong) × ((¬ HasKeyOf known entry) × WouldPass old entry))
unadded known old entry Version lacks is = absurd is
unadded known old entry (Truncated at) lacks is = absurd is
unadded known old entry (BadEntry at) lacks is = absurd is
unadded known old entry TooLong lacks is = inr (refl, (lacks, is))
unadded known old entry NoSuchEntry lacks is = absurd is
unadded known old entry Read lacks is = absurd is
unadded known old entry OutOfMemory lacks is = inl refl

pub not_added_if : {X : Type 0} (result : Result X KeytabFault) (known : List KeytabEntry) (old : List ℕ) (entry : KeytabEntry)
    → (¬ HasKeyOf known entry) → IfErr result (IsUnadded old entry)
    → IfErr result (λ fault. (fault ≡ OutOfMemory) ⊎ ((fault ≡ TooLong) × ((¬ HasKeyOf known entry) × WouldPass old entry)))
not_added_if (Ok x) known old entry lacks is = tt
not_added_if (Err fault) known old entry lacks is = unadded known old entry fault lacks is

at_next : (entries : List KeytabEntry) (at : ℕ) (entry : KeytabEntry) → at < length entries → entry ≡ get_or entries at entry
    → take (at + 1) entries ≡ take at entries ++ entry ∷ []
at_next entries at entry within is =
    rw (add-one, take-suc entries at entry within) (ap (λ (e : KeytabEntry). take at entries ++ e ∷ []) (sym is))

-- one more step of the loop
pub so_far_next : (old : List ℕ) (held entries : List KeytabEntry) (at : ℕ) (entry : KeytabEntry) (next new : List ℕ)
    → at < length entries → entry ≡ get_or entries at entry → IsAddedSoFar old held (take at entries) next
    → TakesEntry (held ++ take at entries) next entry new → IsAddedSoFar old held (take (at + 1) entries) new
so_far_next old held entries at entry next new within is so_far takes =
    subst (λ (l : List KeytabEntry). IsAddedSoFar old held l new) (sym (at_next entries at entry within is))
    (so_far_more old held (take at entries) next entry new so_far takes)

split_at : (entries : List KeytabEntry) (at : ℕ) (entry : KeytabEntry) → at < length entries → entry ≡ get_or entries at entry
    → entries ≡ take at entries ++ entry ∷ drop (suc at) entries
split_at entries at entry within is =
    sym (take-append-drop at entries) ∙ ap (λ (l : List KeytabEntry). take at entries ++ l)
    (drop-cons entries at entry within ∙ ap (λ (e : KeytabEntry). e ∷ drop (suc at) entries) (sym is))

-- why the step fails
pub not_added : (old : List ℕ) (held entries : List KeytabEntry) (at : ℕ) (entry : KeytabEntry) (next : List ℕ) (fault : KeytabFault)
    → IsKeytab old held → at < length entries → entry ≡ get_or entries at entry
    → IsAddedSoFar old held (take at entries) next
    → (fault ≡ OutOfMemory) ⊎ ((fault ≡ TooLong) × ((¬ HasKeyOf (held ++ take at entries) entry) × WouldPass next entry))
    → (fault ≡ OutOfMemory) ⊎ ((fault ≡ TooLong) × PassesLimit old entries)
not_added old held entries at entry next fault keytab within is so_far which = elim which [
  | inl memory ↦ inl memory
  | inr long ↦ inr (
    long.0,
    record {
      before = take at entries;
      entry = entry;
      after = drop (suc at) entries;
      held = held;
      lacking = so_far.lacking;
      new = next;
      entries_are = split_at entries at entry within is;
      old_is = keytab;
      lacking_are = so_far.lacking_are;
      added = so_far.added;
      lacks = long.1.0;
      passes = long.1.1;
    },
  )
]

-- what holds of the bytes and entries that were read holds of both files
passes_known : (from other : Option (List ℕ)) (file : List ℕ) (entries : List KeytabEntry) → IfSome from (λ whole. whole ≡ file)
    → IfSome other (λ bytes. IsKeytab bytes entries) → PassesLimit file entries → IsUnextended from other (Keytab TooLong)
passes_known None other file entries whole read passes = tt
passes_known (Some bytes) other file entries whole read passes =
    let here : PassesLimit bytes entries = subst (λ (l : List ℕ). PassesLimit l entries) (sym whole) passes in
    inr (refl, ((here.held, here.old_is), of_file IsKeytab other entries (PassesLimit bytes) read here))

pub too_long_known : (from other : Option (List ℕ)) (file : List ℕ) (entries : List KeytabEntry) (met : KeytabFault) → IfSome from (λ whole. whole ≡ file)
    → IfSome other (λ bytes. IsKeytab bytes entries) → (met ≡ OutOfMemory) ⊎ ((met ≡ TooLong) × PassesLimit file entries)
    → of_keytab met ≢ 3 → IsUnextended from other (Keytab met)
too_long_known from other file entries met whole read which content = elim which [
  | inl memory ↦ absurd (content (ap of_keytab memory))
  | inr long ↦ subst (λ (f : KeytabFault). IsUnextended from other (Keytab f)) (sym long.0) (passes_known from other file entries whole read long.1)
]

-- then no read failed
pub unadded_reads : {P : Type 0} (met : KeytabFault) → (met ≡ OutOfMemory) ⊎ ((met ≡ TooLong) × P) → keytab_reads met ≡ 0
unadded_reads met which = elim which [ inl memory ↦ ap keytab_reads memory | inr long ↦ ap keytab_reads long.0 ]

pub extended_known : (from other : Option (List ℕ)) (file : List ℕ) (entries : List KeytabEntry) (new : List ℕ)
    → IfSome from (λ whole. whole ≡ file) → IfSome other (λ bytes. IsKeytab bytes entries) → IsExtended file entries new → Extends from other new
extended_known None other file entries new whole read is = tt
extended_known (Some bytes) other file entries new whole read is =
    of_file IsKeytab other entries (λ (those : List KeytabEntry). IsExtended bytes those new) read
    (subst (λ (l : List ℕ). IsExtended l entries new) (sym whole) is)

-- what is found of bytes that hold a keytab is no failed read
pub parsed_reads : (met : KeytabFault) (bytes : List ℕ) → (met ≢ OutOfMemory → IsFaultOf bytes met) → keytab_reads met ≡ 0
parsed_reads Version bytes is = refl
parsed_reads (Truncated at) bytes is = refl
parsed_reads (BadEntry at) bytes is = refl
parsed_reads TooLong bytes is = refl
parsed_reads NoSuchEntry bytes is = refl
parsed_reads Read bytes is = absurd (is (λ e. cc))
parsed_reads OutOfMemory bytes is = refl
