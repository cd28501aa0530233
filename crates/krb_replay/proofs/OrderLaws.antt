-- The order of stamps is strict, and goes by time.
use Rattle.std.proofs.Common.{◌≡◌, [], ◌∷◌, refl}
use Rattle.std.specs.declared.cmp.Ordering.{Ordering}
use Rattle.std.specs.Ordering.{ordering_then, int_cmp, nat_cmp}
use Rattle.std.specs.declared.cmp.Ordering.TheVariants.{Less, Equal, Greater}
use Rattle.std.specs.Cmp.Lexicographic.{slice_cmp}
use Rattle.std.proofs.lemmas.Map.Lookups.{CmpEqualImpliesEq, exact_signed, exact_bytes}
use Rattle.krb_replay.specs.Bytes.{name_bytes}
use Rattle.krb_replay.specs.Inner.Names.{hash_of}
use Rattle.krb_replay.specs.Inner.Order.{bytes_cmp, name_cmp, parts_cmp, pair_cmp, stamp_cmp}

-- both of two orders tie where the one after the other does
first_tied : (one other : Ordering) → ordering_then one other ≡ Equal → one ≡ Equal
first_tied Less other e = e
first_tied Equal other e = refl
first_tied Greater other e = e

second_tied : (one other : Ordering) → ordering_then one other ≡ Equal → other ≡ Equal
second_tied Less other e = absurd (cc)
second_tied Equal other e = e
second_tied Greater other e = absurd (cc)

pub exact_lists : {K : Type 0} (R : K → K → Ordering) → CmpEqualImpliesEq R → CmpEqualImpliesEq (slice_cmp R)
exact_lists R exact [] [] e = refl
exact_lists R exact [] (y ∷ ys) e = absurd (cc)
exact_lists R exact (x ∷ xs) [] e = absurd (cc)
exact_lists R exact (x ∷ xs) (y ∷ ys) e =
    let head : x ≡ y = exact x y (first_tied (R x y) (slice_cmp R xs ys) e) in
    let tail : xs ≡ ys = exact_lists R exact xs ys (second_tied (R x y) (slice_cmp R xs ys) e) in
    cc

exact_parts : CmpEqualImpliesEq parts_cmp
exact_parts one other e =
    let realms : one.realm ≡ other.realm = exact_bytes one.realm other.realm (first_tied _ _ e) in
    let components : one.components ≡ other.components =
    exact_lists (slice_cmp nat_cmp) exact_bytes one.components other.components (second_tied _ _ e) in
    λ i. record { realm = realms i; components = components i }

exact_by_bytes : CmpEqualImpliesEq bytes_cmp
exact_by_bytes one other e = exact_parts one other (second_tied (slice_cmp nat_cmp (name_bytes one) (name_bytes other)) (parts_cmp one other) e)

pub exact_names : CmpEqualImpliesEq name_cmp
exact_names one other e = exact_by_bytes one other (second_tied (nat_cmp (hash_of one) (hash_of other)) (bytes_cmp one other) e)

pub exact_pairs : CmpEqualImpliesEq pair_cmp
exact_pairs one other e =
    let clients : one.1 ≡ other.1 = exact_names one.1 other.1 (first_tied (name_cmp one.1 other.1) (bytes_cmp one.0 other.0) e) in
    let servers : one.0 ≡ other.0 = exact_by_bytes one.0 other.0 (second_tied (name_cmp one.1 other.1) (bytes_cmp one.0 other.0) e) in
    λ i. (servers i, clients i)

pub exact_stamps : CmpEqualImpliesEq stamp_cmp
exact_stamps one other e =
    let times : one.time ≡ other.time = exact_signed one.time other.time (first_tied _ _ e) in
    let names = second_tied (int_cmp one.time other.time) _ e in
    let clients : one.client ≡ other.client = exact_names one.client other.client (first_tied (name_cmp one.client other.client) (bytes_cmp one.server other.server) names) in
    let servers : one.server ≡ other.server = exact_by_bytes one.server other.server (second_tied (name_cmp one.client other.client) (bytes_cmp one.server other.server) names) in
    λ i. record { server = servers i; client = clients i; time = times i }
