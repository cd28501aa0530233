-- The order in which tuples are kept: by time first, and then by the names.
use Rattle.std.specs.Prelude.{◌≡◌, ℕ, List, true, refl}
use Rattle.std.specs.Cmp.{IsTotalOrder}
use Rattle.std.specs.Cmp.Lexicographic.{slice_cmp}
use Rattle.std.proofs.lemmas.Cmp.{then_total, on_total, lists_total, nat_cmp_total, int_cmp_total}
use Rattle.std.specs.declared.cmp.Ordering.{Ordering}
use Rattle.std.specs.declared.cmp.Ordering.TheVariants.{Less, Equal, Greater}
use Rattle.std.specs.Ordering.{int_cmp, is_le, nat_cmp, on, ordering_then, then_cmp}
use Rattle.krb_replay.specs.Bytes.{name_bytes}
use Rattle.krb_replay.specs.Stamp.{RealmAndName, Stamp}
use Rattle.krb_replay.specs.Inner.Names.{hash_of}

-- the components of a name, each compared byte for byte
abbrev pub components_cmp : List (List ℕ) → List (List ℕ) → Ordering
components_cmp = slice_cmp (slice_cmp nat_cmp)

abbrev pub parts_cmp : RealmAndName → RealmAndName → Ordering
parts_cmp = then_cmp (on (λ name. name.realm) (slice_cmp nat_cmp)) (on (λ name. name.components) components_cmp)

-- Names are compared by their bytes. Those of names whose lengths are numbers of 8 bytes differ if
-- the names do.
abbrev pub bytes_cmp : RealmAndName → RealmAndName → Ordering
bytes_cmp = then_cmp (on name_bytes (slice_cmp nat_cmp)) parts_cmp

-- The names of clients are compared by a hash first.
abbrev pub name_cmp : RealmAndName → RealmAndName → Ordering
name_cmp = then_cmp (on hash_of nat_cmp) bytes_cmp

-- the names of a service and a client
abbrev pub TwoNames : Type 0
TwoNames = RealmAndName × RealmAndName

abbrev pub names_of : Stamp → TwoNames
names_of stamp = (stamp.server, stamp.client)

abbrev pub pair_cmp : TwoNames → TwoNames → Ordering
pair_cmp = then_cmp (on (λ names. names.1) name_cmp) (on (λ names. names.0) bytes_cmp)

-- by the client alone
abbrev pub client_cmp : TwoNames → TwoNames → Ordering
client_cmp = on (λ names. names.1) name_cmp

abbrev pub stamp_cmp : Stamp → Stamp → Ordering
stamp_cmp = then_cmp (on (λ stamp. stamp.time) int_cmp) (on names_of pair_cmp)

pub parts_total : IsTotalOrder parts_cmp
parts_total = then_total (on_total (λ name. name.realm) (lists_total nat_cmp_total))
    (on_total (λ name. name.components) (lists_total (lists_total nat_cmp_total)))

-- they are total orders
pub bytes_total : IsTotalOrder bytes_cmp
bytes_total = then_total (on_total name_bytes (lists_total nat_cmp_total)) parts_total

pub name_total : IsTotalOrder name_cmp
name_total = then_total (on_total hash_of nat_cmp_total) bytes_total

pub pair_total : IsTotalOrder pair_cmp
pair_total = then_total (on_total (λ names. names.1) name_total) (on_total (λ names. names.0) bytes_total)

pub client_total : IsTotalOrder client_cmp
client_total = on_total (λ names. names.1) name_total

pub stamp_total : IsTotalOrder stamp_cmp
stamp_total = then_total (on_total (λ stamp. stamp.time) int_cmp_total) (on_total names_of pair_total)

-- what isn't after another by two orders isn't by the first
pub first_le : (one other : Ordering) → is_le (ordering_then one other) ≡ true → is_le one ≡ true
first_le Less other le = refl
first_le Equal other le = refl
first_le Greater other le = le

-- no stamp is in the order before one of an earlier time
pub stamp_by_time : (one other : Stamp) → is_le (stamp_cmp one other) ≡ true → is_le (int_cmp one.time other.time) ≡ true
stamp_by_time one other le = first_le (int_cmp one.time other.time) (pair_cmp (names_of one) (names_of other)) le
