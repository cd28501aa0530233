-- What is left of a name's text after each step of reading.
use Rattle.std.proofs.Common.{◌≡◌, ◌≢◌, ℕ, zero, suc, ◌+◌, ◌-◌, ◌<◌, ◌≤◌, ◌⊎◌, inl, inr, List, [], ◌∷◌, ◌++◌, length, Some, None, Ok, Err, refl, sym, ap, subst, ◌∙◌, append_assoc, append-nil, arith}
use Rattle.std.proofs.lemmas.List.{length-append}
use Rattle.std.proofs.lemmas.Grind.{flat_map-append}
use Rattle.std.proofs.lemmas.List.Concat.{flat_map-cons}
use Rattle.std.specs.List.{AllByRecursion}
use Rattle.krb_name.specs.declared.text_fault.TextFault.{TextFault}
use Rattle.krb_name.specs.declared.text_fault.TextFault.TheVariants.{BadText, NoRealm, OutOfMemory}
use Rattle.krb_file.specs.Cursor.{Place}
use Rattle.krb_file.specs.Field.{IsBytes}
use Rattle.krb_name.specs.Text.{escaped_byte, escaped}
use Rattle.krb_name.specs.Reading.{AreComponents, components_text}
use Rattle.krb_name.specs.Inner.Escapes.{byte_at}
use Rattle.krb_name.specs.Inner.Names.{Advances, AtEnd, ReadsByte, ReadsBytes, ReadsSome, before_slashes, ReadsName, ReadsComponents, OffendsInName}
use Rattle.krb_file.proofs.CursorLaws.{IsBytes-append}
use Rattle.krb_name.proofs.EscapeLaws.{byte_takes, none_offends}

abbrev pub place_of : ℕ → List ℕ → Place
place_of at rest = record { at = at; rest = rest }

pub byte_shorter : (rest : List ℕ) (byte : ℕ) (behind : List ℕ) → Some (byte, behind) ≡ byte_at rest → length behind ≤ length rest
byte_shorter rest byte behind e =
    let w = byte_takes rest byte behind (sym e) in
    omega (arith, ap length w.parts, length-append (escaped_byte byte) behind)

pub byte_step : (at : ℕ) (rest : List ℕ) (byte : ℕ) (behind : List ℕ) → Some (byte, behind) ≡ byte_at rest
    → ReadsByte (record { at = at; rest = rest }) byte (record { at = at + (length rest - length behind); rest = behind })
byte_step at rest byte behind e =
    let w = byte_takes rest byte behind (sym e) in
    record {
      small = w.small;
      advances = record { parts = w.parts; at = omega (arith, ap length w.parts, length-append (escaped_byte byte) behind) };
    }

pub Advances-nil : (place : Place) → Advances place [] place
Advances-nil place = record { parts = refl; at = omega arith }

pub Advances-after : (a : Place) (x : List ℕ) (b : Place) (y : List ℕ) (c : Place) → Advances a x b → Advances b y c → Advances a (x ++ y) c
Advances-after a x b y c p q = record {
  parts = p.parts ∙ ap (λ (t : List ℕ). x ++ t) q.parts ∙ sym (append_assoc x y c.rest);
  at = omega (arith, p.at, q.at, length-append x y);
}

pub ReadsBytes-none : (place : Place) → ReadsBytes place [] place
ReadsBytes-none place = record { are = λ i. omega arith; advances = Advances-nil place }

IsBytes-one : (byte : ℕ) → byte < 256 → IsBytes (byte ∷ [])
IsBytes-one byte lt zero = lt
IsBytes-one byte lt (suc i) = omega arith

pub ReadsBytes-more : (old : Place) (bytes : List ℕ) (now : Place) (byte : ℕ) (new : Place) → ReadsBytes old bytes now → ReadsByte now byte new → ReadsBytes old (bytes ++ byte ∷ []) new
ReadsBytes-more old bytes now byte new p q = record {
  are = IsBytes-append bytes (byte ∷ []) p.are (IsBytes-one byte q.small);
  advances = rw (flat_map-append escaped_byte bytes (byte ∷ []), append-nil (escaped_byte byte)) (Advances-after old (escaped bytes) now (escaped_byte byte) new p.advances q.advances);
}

-- ---- components

not_nil : (components : List (List ℕ)) (last : List ℕ) → components ++ last ∷ [] ≢ []
not_nil [] last e = cc
not_nil (one ∷ others) last e = cc

all_push : (components : List (List ℕ)) (last : List ℕ) → AllByRecursion IsBytes components → IsBytes last → AllByRecursion IsBytes (components ++ last ∷ [])
all_push [] last p q = (q, tt)
all_push (one ∷ others) last p q = (p.0, all_push others last p.1 q)

joined_behind : (components : List (List ℕ)) (last : List ℕ) → components_text (components ++ last ∷ []) ≡ before_slashes components ++ escaped last
joined_behind [] last = refl
joined_behind (one ∷ []) last = rw (append-nil (escaped one ++ 0x2f ∷ []), append_assoc (escaped one) (0x2f ∷ []) (escaped last)) refl
joined_behind (one ∷ two ∷ others) last =
    ap (λ (t : List ℕ). escaped one ++ 0x2f ∷ t) (joined_behind (two ∷ others) last) ∙ rw (flat_map-cons (λ component. escaped component ++ 0x2f ∷ []) one (two ∷ others), append_assoc (escaped one ++ 0x2f ∷ []) (before_slashes (two ∷ others)) (escaped last), append_assoc (escaped one) (0x2f ∷ []) (before_slashes (two ∷ others) ++ escaped last)) refl

AreComponents-push : (components : List (List ℕ)) (last : List ℕ) → AllByRecursion IsBytes components → IsBytes last → AreComponents (components ++ last ∷ [])
AreComponents-push components last p q = record { some = not_nil components last; bytes = all_push components last p q }

-- some components, and after one more that isn't followed by a slash
pub components_read : (old : Place) (components : List (List ℕ)) (now : Place) (last : List ℕ) (new : Place) → ReadsSome old components now → ReadsBytes now last new
    → AreComponents (components ++ last ∷ []) × Advances old (components_text (components ++ last ∷ [])) new
components_read old components now last new p q =
    (AreComponents-push components last p.are q.are, rw (joined_behind components last) (Advances-after old (before_slashes components) now (escaped last) new p.advances q.advances))

pub components_fault : (fault : TextFault) (old : Place) (components : List (List ℕ)) (now new : Place) → ReadsSome old components now → ReadsName now new (Err fault) → ReadsComponents old new (Err fault)
components_fault (BadText at) old components now new p q =
    let r = components_read old components now q.bytes new p q.reads in
    (components ++ q.bytes ∷ [], r.0, r.1, q.at_is, q.offends)
components_fault NoRealm old components now new p q = absurd q
components_fault OutOfMemory old components now new p q = tt

pub components_end : (old : Place) (components : List (List ℕ)) (now : Place) (last : List ℕ) (new : Place) → ReadsSome old components now → ReadsBytes now last new → new.rest ≡ []
    → ReadsComponents old new (Err NoRealm)
components_end old components now last new p q e = let r = components_read old components now last new p q in (components ++ last ∷ [], r.0, r.1, e)

pub components_done : (old : Place) (components : List (List ℕ)) (now : Place) (last : List ℕ) (after : Place) (byte : ℕ) (new : Place) → ReadsSome old components now → ReadsBytes now last after
    → Advances after (byte ∷ []) new → byte ≡ 0x40 → ReadsComponents old new (Ok (components ++ last ∷ []))
components_done old components now last after byte new p q r e =
    let read = components_read old components now last after p q in
    (read.0, Advances-after old (components_text (components ++ last ∷ [])) after (0x40 ∷ []) new read.1 (subst (λ (b : ℕ). Advances after (b ∷ []) new) e r))

pub ReadsSome-none : (place : Place) → ReadsSome place [] place
ReadsSome-none place = record { are = tt; advances = Advances-nil place }

pub ReadsSome-more : (old : Place) (components : List (List ℕ)) (now : Place) (last : List ℕ) (after : Place) (byte : ℕ) (new : Place) → ReadsSome old components now → ReadsBytes now last after
    → Advances after (byte ∷ []) new → byte ≡ 0x2f → ReadsSome old (components ++ last ∷ []) new
ReadsSome-more old components now last after byte new p q r e = record {
  are = all_push components last p.are q.are;
  advances =
      rw (flat_map-append (λ component. escaped component ++ 0x2f ∷ []) components (last ∷ []), append-nil (escaped last ++ 0x2f ∷ []))
      (Advances-after old (before_slashes components) now (escaped last ++ 0x2f ∷ []) new p.advances
      (Advances-after now (escaped last) after (0x2f ∷ []) new q.advances (subst (λ (b : ℕ). Advances after (b ∷ []) new) e r)));
}

pub at_sign : (byte : ℕ) → (byte ≡ 0x2f) ⊎ (byte ≡ 0x40) → (byte ≡ 0x2f → ⊥) → byte ≡ 0x40
at_sign byte (inl slash) other = absurd (other slash)
at_sign byte (inr sign) other = sign

-- no byte of a name goes on, and the name isn't at its end
pub name_offends : (old now : Place) (bytes : List ℕ) (new : Place) (at : ℕ) (rest : List ℕ) → ReadsBytes old bytes now → byte_at now.rest ≡ None → new ≡ now
    → place_of at rest ≡ new → (AtEnd rest → ⊥) → OffendsInName old new at
name_offends old now bytes new at rest p none same place no_end =
    let rest_is : rest ≡ new.rest = ap (λ (q : Place). q.rest) place in
    let stuck : byte_at new.rest ≡ None = ap (λ (q : Place). byte_at q.rest) same ∙ none in
    let open_end : AtEnd new.rest → ⊥ = λ e. no_end (subst AtEnd (sym rest_is) e) in
    record {
      bytes = bytes;
      reads = subst (ReadsBytes old bytes) (sym same) p;
      at_is = ap (λ (q : Place). q.at) place;
      offends = none_offends new.rest stuck (λ e. open_end (inl e)) (λ s. open_end (inr s));
    }
