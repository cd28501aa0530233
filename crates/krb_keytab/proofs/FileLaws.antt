-- What whole records reach, and what is found after them.
use Rattle.std.proofs.Common.{◌≡◌, ℕ, pos, neg_ℤ, ◌<◌, ◌≤◌, List, [], ◌∷◌, ◌++◌, length, refl, ap, subst, ◌∙◌, append-nil, arith}
use Rattle.std.specs.Int.{w32}
use Rattle.std.specs.List.{flat_map}
use Rattle.std.specs.Prelude.{All}
use Rattle.std.proofs.Math.Seq.{get_or-append_seam}
use Rattle.std.proofs.lemmas.List.{length-append}
use Rattle.std.proofs.lemmas.List.Concat.{flat_map-append}
use Rattle.std.proofs.lemmas.List.Elements.{All-from_recursion}
use Rattle.krb_file.specs.Cursor.{signed_bytes}
use Rattle.krb_keytab.specs.Entry.{KeytabEntry}
use Rattle.krb_keytab.specs.Format.{version, KeytabRecord, hole, entry, entry_bytes, record_bytes, FitsRecord, IsReached}

-- ---- the version is reached

pub reach_start : (bytes rest : List ℕ) → bytes ≡ version ++ rest → IsReached bytes 2 [] rest
reach_start bytes rest e = record { records = []; fit = All-from_recursion FitsRecord [] tt; bytes_are = e; at_is = refl; entries_are = refl }

-- ---- one record more

pub flat_push : {X A : Type 0} (f : X → List A) (xs : List X) (x : X) → flat_map f (xs ++ x ∷ []) ≡ flat_map f xs ++ f x
flat_push f xs x = flat_map-append f xs (x ∷ []) ∙ ap (λ t. flat_map f xs ++ t) (append-nil (f x))

pub record_first : (one : KeytabRecord) → 4 ≤ length (record_bytes one)
record_first (hole ignored) = omega (arith, length-append (signed_bytes w32 (neg_ℤ (pos (length ignored)))) ignored)
record_first (entry e short_kvno rest) = omega (arith, length-append (signed_bytes w32 (pos (length (entry_bytes e short_kvno rest)))) (entry_bytes e short_kvno rest))

pub entry_size : (e : KeytabEntry) (short_kvno : ℕ) (rest : List ℕ) → 0 < length (entry_bytes e short_kvno rest)
entry_size e short_kvno rest = omega arith

-- ---- one element among others

pub at_middle : {X : Type 0} (P : X → Type 0) (before : List X) (x : X) (after : List X) → All P (before ++ x ∷ after) → P x
at_middle P before x after all = subst P (get_or-append_seam before x after x) (all (length before) x (omega (arith, length-append before (x ∷ after))))
