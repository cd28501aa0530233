-- Names are read back from their bytes.
use Rattle.std.proofs.Common.{◌≡◌, ℕ, ◌<◌, ◌^◌, List, [], ◌∷◌, ◌++◌, length, take, drop, refl, sym, ◌∙◌, ap, subst, append_assoc, append-nil, length-append, arith}
use Rattle.std.specs.Int.{w64, from_be_bytes}
use Rattle.std.specs.List.{All, flat_map}
use Rattle.std.specs.Cmp.Lexicographic.{slice_cmp}
use Rattle.std.specs.declared.cmp.Ordering.{Ordering}
use Rattle.std.specs.declared.cmp.Ordering.TheVariants.{Less, Equal, Greater}
use Rattle.std.specs.Ordering.{nat_cmp, ordering_then}
use Rattle.std.proofs.Math.Seq.{drop-append_seam, take-append_seam}
use Rattle.std.proofs.lemmas.Cmp.{tied_itself}
use Rattle.std.proofs.lemmas.List.Elements.{All-head, All-tail}
use Rattle.std.proofs.lemmas.Map.Lookups.{exact_bytes}
use Rattle.std.proofs.lemmas.Nat.{from_be_bytes-to_be_bytes_8}
use Rattle.krb_name.specs.Name.{name_hash}
use Rattle.krb_name.specs.declared.principal.Principal.{Principal}
use Rattle.krb_replay.specs.Stamp.{RealmAndName, name_of}
use Rattle.krb_replay.specs.Bytes.{HasLengths, name_bytes, number_bytes, text_bytes}
use Rattle.krb_replay.specs.Inner.Names.{AreNames, after_text, hash_of, name_at, number_at, text_at, texts_at}
use Rattle.krb_replay.specs.Inner.Order.{bytes_cmp, parts_cmp, parts_total}
use Rattle.krb_replay.proofs.BytesLaws.{grouped, name_back}

number_read : (n : ℕ) (rest : List ℕ) → n < 2 ^ 64 → number_at (number_bytes n ++ rest) ≡ n
number_read n rest fits = ap (λ (bytes : List ℕ). from_be_bytes w64 bytes) (take-append_seam (number_bytes n) rest) ∙ from_be_bytes-to_be_bytes_8 n fits

past_number : (n : ℕ) (rest : List ℕ) → drop 8 (number_bytes n ++ rest) ≡ rest
past_number n rest = drop-append_seam (number_bytes n) rest

text_read : (text rest : List ℕ) → length text < 2 ^ 64 → text_at (text_bytes text ++ rest) ≡ text
text_read text rest fits =
    ap text_at (append_assoc (number_bytes (length text)) text rest)
    ∙ (ap (λ (n : ℕ). take n (drop 8 (number_bytes (length text) ++ (text ++ rest)))) (number_read (length text) (text ++ rest) fits)
    ∙ (ap (λ (bytes : List ℕ). take (length text) bytes) (past_number (length text) (text ++ rest)) ∙ take-append_seam text rest))

after_read : (text rest : List ℕ) → length text < 2 ^ 64 → after_text (text_bytes text ++ rest) ≡ rest
after_read text rest fits =
    ap after_text (append_assoc (number_bytes (length text)) text rest)
    ∙ (ap (λ (n : ℕ). drop n (drop 8 (number_bytes (length text) ++ (text ++ rest)))) (number_read (length text) (text ++ rest) fits)
    ∙ (ap (λ (bytes : List ℕ). drop (length text) bytes) (past_number (length text) (text ++ rest)) ∙ drop-append_seam text rest))

texts_read : (texts : List (List ℕ)) (rest : List ℕ) → All (λ (text : List ℕ). length text < 2 ^ 64) texts
    → texts_at (length texts) (flat_map text_bytes texts ++ rest) ≡ texts
texts_read [] rest fit = refl
texts_read (text ∷ texts) rest fit =
    let short : length text < 2 ^ 64 = All-head (λ (one : List ℕ). length one < 2 ^ 64) text texts fit in
    let parts : flat_map text_bytes (text ∷ texts) ++ rest ≡ text_bytes text ++ (flat_map text_bytes texts ++ rest) =
    append_assoc (text_bytes text) (flat_map text_bytes texts) rest in
    ap (λ (bytes : List ℕ). text_at bytes ∷ texts_at (length texts) (after_text bytes)) parts
    ∙ (ap (λ (one : List ℕ). one ∷ texts_at (length texts) (after_text (text_bytes text ++ (flat_map text_bytes texts ++ rest)))) (text_read text (flat_map text_bytes texts ++ rest) short)
    ∙ (ap (λ (bytes : List ℕ). text ∷ texts_at (length texts) bytes) (after_read text (flat_map text_bytes texts ++ rest) short)
    ∙ ap (λ (others : List (List ℕ)). text ∷ others) (texts_read texts rest (All-tail (λ (one : List ℕ). length one < 2 ^ 64) text texts fit))))

pub name_read : (name : RealmAndName) (rest : List ℕ) → HasLengths name → name_at (name_bytes name ++ rest) ≡ name
name_read name rest fits =
    let tail : List ℕ = number_bytes (length name.components) ++ (flat_map text_bytes name.components ++ rest) in
    let bytes : name_bytes name ++ rest ≡ text_bytes name.realm ++ tail = grouped name rest in
    let realm : text_at (text_bytes name.realm ++ tail) ≡ name.realm = text_read name.realm tail fits.realm in
    let after : after_text (text_bytes name.realm ++ tail) ≡ tail = after_read name.realm tail fits.realm in
    let components : texts_at (number_at tail) (drop 8 tail) ≡ name.components =
    ap (λ (n : ℕ). texts_at n (drop 8 tail)) (number_read (length name.components) (flat_map text_bytes name.components ++ rest) fits.count)
    ∙ (ap (λ (left : List ℕ). texts_at (length name.components) left) (past_number (length name.components) (flat_map text_bytes name.components ++ rest))
    ∙ texts_read name.components rest fits.components) in
    ap name_at bytes
    ∙ (ap (λ (left : List ℕ). record { realm = text_at (text_bytes name.realm ++ tail); components = texts_at (number_at left) (drop 8 left) }) after
    ∙ (ap (λ (r : List ℕ). record { realm = r; components = texts_at (number_at tail) (drop 8 tail) }) realm
    ∙ ap (λ (cs : List (List ℕ)). record { realm = name.realm; components = cs }) components))

-- two names, one after the other
pub names_read : (server client : RealmAndName) → HasLengths server → HasLengths client
    → AreNames (name_bytes server ++ name_bytes client) (length (name_bytes server)) (hash_of client)
names_read server client fits also =
    let one : name_at (name_bytes server ++ name_bytes client) ≡ server = name_read server (name_bytes client) fits in
    let past : drop (length (name_bytes server)) (name_bytes server ++ name_bytes client) ≡ name_bytes client = drop-append_seam (name_bytes server) (name_bytes client) in
    let other : name_at (drop (length (name_bytes server)) (name_bytes server ++ name_bytes client)) ≡ client =
    ap name_at (past ∙ sym (append-nil (name_bytes client))) ∙ name_read client [] also in
    let both = length-append (name_bytes server) (name_bytes client) in
    record {
      within = omega arith;
      server = subst HasLengths (sym one) fits;
      client = subst HasLengths (sym other) also;
      server_is = take-append_seam (name_bytes server) (name_bytes client) ∙ ap name_bytes (sym one);
      client_is = past ∙ ap name_bytes (sym other);
      hash_is = ap hash_of (sym other);
    }

-- the type doesn't count
pub hash_same : (name : Principal) → name_hash name ≡ hash_of (name_of name)
unfolding name_hash
hash_same name = refl

by_bytes : (bytes rest : Ordering) → (bytes ≡ Equal → rest ≡ Equal) → bytes ≡ ordering_then bytes rest
by_bytes Less rest tie = refl
by_bytes Equal rest tie = sym (tie refl)
by_bytes Greater rest tie = refl

-- names are compared by their bytes
bytes_order : (one other : RealmAndName) → HasLengths one → HasLengths other → slice_cmp nat_cmp (name_bytes one) (name_bytes other) ≡ bytes_cmp one other
bytes_order one other fits also =
    by_bytes (slice_cmp nat_cmp (name_bytes one) (name_bytes other)) (parts_cmp one other)
    (λ same. let bytes : name_bytes one ++ [] ≡ name_bytes other ++ [] = ap (λ (list : List ℕ). list ++ []) (exact_bytes (name_bytes one) (name_bytes other) same) in
    let names : one ≡ other = (name_back one other [] [] fits also bytes).0 in
    ap (λ (name : RealmAndName). parts_cmp name other) names ∙ tied_itself parts_total other)

-- the same of two strings of bytes that are names
pub compared : {answer : Ordering} {first second : List ℕ} (one other : RealmAndName) → answer ≡ slice_cmp nat_cmp first second
    → first ≡ name_bytes one → second ≡ name_bytes other → HasLengths one → HasLengths other → answer ≡ bytes_cmp one other
compared {first = first} {second = second} one other is name also fits both =
    is ∙ (ap (λ (bytes : List ℕ). slice_cmp nat_cmp bytes second) name ∙ (ap (λ (bytes : List ℕ). slice_cmp nat_cmp (name_bytes one) bytes) also
    ∙ bytes_order one other fits both))

-- bytes that are two names
pub names_are : (bytes : List ℕ) (first hash : ℕ) (server client : RealmAndName) → bytes ≡ name_bytes server ++ name_bytes client
    → first ≡ length (name_bytes server) → hash ≡ hash_of client → HasLengths server → HasLengths client → AreNames bytes first hash
names_are bytes first hash server client is long hashed fits also =
    subst (λ (list : List ℕ). AreNames list first hash) (sym is)
    (subst (λ (n : ℕ). AreNames (name_bytes server ++ name_bytes client) n hash) (sym long)
    (subst (λ (h : ℕ). AreNames (name_bytes server ++ name_bytes client) (length (name_bytes server)) h) (sym hashed) (names_read server client fits also)))

pub names_back : (bytes : List ℕ) (first : ℕ) (server client : RealmAndName) → bytes ≡ name_bytes server ++ name_bytes client
    → first ≡ length (name_bytes server) → HasLengths server → HasLengths client
    → (name_at bytes ≡ server) × (name_at (drop first bytes) ≡ client)
names_back bytes first server client is long fits also = (
  ap name_at is ∙ name_read server (name_bytes client) fits,
  ap (λ (n : ℕ). name_at (drop n bytes)) long
      ∙ (ap (λ (list : List ℕ). name_at (drop (length (name_bytes server)) list)) is
      ∙ (ap name_at (drop-append_seam (name_bytes server) (name_bytes client) ∙ sym (append-nil (name_bytes client))) ∙ name_read client [] also)),
)
