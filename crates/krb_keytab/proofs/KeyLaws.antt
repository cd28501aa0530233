-- Looking for a key by an index: the same keys have the same hash.
use Rattle.std.proofs.Common.{◌≡◌, ℕ, ◌+◌, ◌<◌, ◌≤◌, ◌%◌, ◌^◌, ℤ, List, length, map, take, get_or, sym, ap, ◌∙◌, inl, inr, subst, arith}
use Rattle.std.specs.Prelude.{◌↔◌, ◌≢◌, slice_index, Bool, true, false, IsTrue}
use Rattle.std.proofs.lemmas.Bool.{cases_lt}
use Rattle.std.proofs.lemmas.List.{get_or_default, get_or-map, get_or-take, length-map, length-take}
use Rattle.krb_keytab.specs.Entry.{KeytabEntry}
use Rattle.krb_keytab.specs.SameKey.{HasKeyOf, IsSameKey}
use Rattle.std.specs.List.{fold}
use Rattle.std.specs.Hash as fed
use Rattle.std.specs.Hash.FoldHasher.{initial, write, finish}
use Rattle.krb_index.specs.Places.{IsFirstEqual, NoneEqual}
use Rattle.krb_name.specs.Name.{name_hash}
use Rattle.krb_name.proofs.Names.{same_hash}
use Rattle.krb_keytab.specs.Inner.KeyHash.{key_hash}

hash_parts : (named kvno : ℕ) (etype : ℤ) (key : List ℕ) → ℕ
hash_parts named kvno etype key = finish (write (fold write (fold write (fold write initial (fed.u32 named)) (fed.i16 etype)) (fed.u32 kvno)) key) % 2 ^ 32

same_key_hash : (one other : KeytabEntry) → IsSameKey one other → key_hash one ≡ key_hash other
unfolding key_hash hash_parts
same_key_hash one other same =
    ap (λ n. hash_parts n one.kvno one.etype one.key) (same_hash one.principal other.principal same.name)
    ∙ ap (λ n. hash_parts (name_hash other.principal) n one.etype one.key) same.kvno
    ∙ ap (λ n. hash_parts (name_hash other.principal) other.kvno n one.key) same.etype
    ∙ ap (hash_parts (name_hash other.principal) other.kvno other.etype) same.key

-- the first entries have other keys
abbrev pub OtherKeys : List KeytabEntry → KeytabEntry → ℕ → Type 0
OtherKeys entries entry count = (k : ℕ) (d : KeytabEntry) → k < count → k < length entries → ¬ IsSameKey (get_or entries k d) entry

-- keys of another hash are others
skipped : (entries : List KeytabEntry) (entry : KeytabEntry) (hashes : List ℕ) (from to : ℕ) → hashes ≡ map key_hash entries → ((k : ℕ) → from ≤ k → k < to → k < length hashes → slice_index hashes k ≢ key_hash entry)
    → OtherKeys entries entry from → OtherKeys entries entry to
skipped entries entry hashes from to are skips others = λ k d below within same.
    elim (cases_lt k from) [
      | inl before ↦ others k d before within same
      | inr behind ↦ skips k behind below (omega (arith, within, ap length are, length-map entries key_hash))
          (ap (λ (l : List ℕ). slice_index l k) are ∙ get_or-map key_hash entries k d 0 within ∙ same_key_hash _ entry same)
    ]

pub others_before : (entries : List KeytabEntry) (entry : KeytabEntry) (hashes : List ℕ) (from at : ℕ) → hashes ≡ map key_hash entries → IsFirstEqual hashes (key_hash entry) from at → OtherKeys entries entry from → OtherKeys entries entry at
others_before entries entry hashes from at are first others = skipped entries entry hashes from at are (λ k ge lt within. first.between k ge lt) others

pub others_left : (entries : List KeytabEntry) (entry : KeytabEntry) (hashes : List ℕ) (from : ℕ) → hashes ≡ map key_hash entries → NoneEqual hashes (key_hash entry) from → OtherKeys entries entry from → OtherKeys entries entry (length entries)
others_left entries entry hashes from are none others = skipped entries entry hashes from (length entries) are (λ k ge lt within. none k ge within) others

pub within_entries : (entries : List KeytabEntry) (hashes : List ℕ) (at : ℕ) → hashes ≡ map key_hash entries → at < length hashes → at < length entries
within_entries entries hashes at are within = omega (arith, within, ap length are, length-map entries key_hash)

pub none_before : (entries : List KeytabEntry) (entry : KeytabEntry) (place to : ℕ) → OtherKeys entries entry to → ((k : ℕ) → k < place → k < length entries → k < to) → IsTrue false ↔ HasKeyOf (take place entries) entry
none_before entries entry place to others reaches = (
  λ yes. cc,
  λ has.
      let below : has.0 < place = omega (arith, has.2, length-take place entries) in
      let inside : has.0 < length entries = omega (arith, has.2, length-take place entries) in
      let is : get_or entries has.0 has.1 ≡ has.1 = sym (get_or-take place entries has.0 has.1 below) ∙ has.3 in
      absurd (others has.0 has.1 (reaches has.0 below inside) inside (subst (λ e. IsSameKey e entry) (sym is) has.4)),
)

pub one_other : (entries : List KeytabEntry) (entry one : KeytabEntry) (at : ℕ) → at < length entries → (¬ IsSameKey (get_or entries at one) entry)
    → OtherKeys entries entry at → OtherKeys entries entry (at + 1)
one_other entries entry one at within other others = λ k d below inside same.
    elim (cases_lt k at) [
      | inl before ↦ others k d before inside same
      | inr behind ↦
          let here : k ≡ at = omega arith in
          let there : get_or entries k d ≡ get_or entries at one = ap (λ n. get_or entries n d) here ∙ get_or_default entries at d one within in
          other (subst (λ e. IsSameKey e entry) there same)
    ]

-- what is false isn't so
pub denied : {P : Type 0} (b : Bool) → IsTrue b ↔ P → b ≡ false → ¬ P
denied true means is has = cc
denied false means is has = let yes = means.1 has in cc
