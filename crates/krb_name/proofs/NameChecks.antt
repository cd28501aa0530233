-- A name's text that is checked and not kept.
use Rattle.std.proofs.Common.{◌≡◌, ℕ, ◌+◌, ◌≤◌, List, [], ◌∷◌, ◌++◌, length, pos, Ok, Err, Result, ap, subst, ◌∙◌, arith}
use Rattle.std.proofs.lemmas.List.{length-append}
use Rattle.krb_file.specs.Cursor.{Place}
use Rattle.krb_name.specs.Text.{escaped}
use Rattle.krb_name.specs.Reading.{IsCheckedAs}
use Rattle.krb_name.specs.declared.text_fault.TextFault.{TextFault}
use Rattle.krb_name.specs.declared.text_fault.TextFault.TheVariants.{BadText, NoRealm, OutOfMemory}
use Rattle.krb_name.specs.Inner.Names.{Advances, CountsComponents, ReadsBytes, ReadsSome, SkipsName, SkipsRealm, before_slashes}
use Rattle.krb_name.proofs.NameReading.{components_fault, place_of}
use Rattle.krb_name.proofs.NameAnswers.{components_refused, name_read, realm_refused}

not_fewer : (components : List (List ℕ)) → length components ≤ length (before_slashes components)
not_fewer [] = omega arith
not_fewer (c ∷ cs) = omega (arith, not_fewer cs, length-append (escaped c ++ 0x2f ∷ []) (before_slashes cs), length-append (escaped c) (0x2f ∷ []))

-- there are no more components than bytes that were passed over
pub count_within : (old : Place) (components : List (List ℕ)) (now : Place) (last : List ℕ) (after : Place) (byte : ℕ) (new : Place) (count : ℕ)
    → ReadsSome old components now → ReadsBytes now last after → Advances after (byte ∷ []) new → count ≡ length components → count + 1 ≤ new.at
count_within old components now last after byte new count p q r e = omega (arith, not_fewer components, p.advances.at, q.advances.at, r.at, e)

pub count_more : (count : ℕ) (components : List (List ℕ)) (last : List ℕ) → count ≡ length components → count + 1 ≡ length (components ++ last ∷ [])
count_more count components last e = omega (arith, e, length-append components (last ∷ []))

pub count_fault : (fault : TextFault) (old : Place) (components : List (List ℕ)) (now new : Place) → ReadsSome old components now → SkipsName now new (Err fault) → CountsComponents old new (Err fault)
count_fault (BadText at) old components now new p q = components_fault (BadText at) old components now new p q
count_fault NoRealm old components now new p q = absurd q
count_fault OutOfMemory old components now new p q = absurd q

pub check_refused : (text : List ℕ) (old new : Place) (fault : TextFault) → old ≡ place_of 0 text → CountsComponents old new (Err fault) → IsCheckedAs text (Err fault)
check_refused text old new (BadText at) e h = components_refused text old new (BadText at) e h
check_refused text old new NoRealm e h = components_refused text old new NoRealm e h
check_refused text old new OutOfMemory e h = absurd h

pub check_realm_refused : (text : List ℕ) (old : Place) (count : ℕ) (mid new : Place) (fault : TextFault) → old ≡ place_of 0 text → CountsComponents old mid (Ok count)
    → SkipsRealm mid new (Err fault) → IsCheckedAs text (Err fault)
check_realm_refused text old count mid new (BadText at) e p h = realm_refused text old p.0 mid new (BadText at) e p.1 h
check_realm_refused text old count mid new NoRealm e p h = absurd h
check_realm_refused text old count mid new OutOfMemory e p h = absurd h

pub checked : (text : List ℕ) (old : Place) (count : ℕ) (mid new : Place) (kept : Unit {0}) → old ≡ place_of 0 text → CountsComponents old mid (Ok count)
    → SkipsRealm mid new (Ok kept) → IsCheckedAs text (Ok count)
checked text old count mid new kept e p h =
    (record { realm = h.0; name_type = pos 0; components = p.0 }, name_read text old p.0 mid h.0 new (pos 0) e p.1 h.1, p.2)
