-- The text of a name, component by component.
use Rattle.std.proofs.Common.{◌≡◌, ℕ, List, [], ◌∷◌, ◌++◌, All, map, take, drop, length, slice_index_or, ◌+◌, ◌<◌, lit<, suc, zero, refl, ap, subst, sym, ◌∙◌, append-nil, append_assoc}
use Rattle.std.proofs.lemmas.List.Elements.{All-head, All-tail, All-nil, All-cons, All-append}
use Rattle.std.proofs.Math.Numerals.{suc-eq-add-one}
use Rattle.std.proofs.Math.Seq.{take-suc}
use Rattle.std.proofs.lemmas.Str.{IsUtf8-from_ascii}
use Rattle.std.specs.Str.{IsAscii, IsUtf8}
use Rattle.std.specs.List.{join_with_byte}
use Rattle.krb_name.specs.Text.{escaped}
use Rattle.krb_name.specs.Inner.Components.{behind_slashes, IsPlain}

pub joined : (first : List ℕ) (others : List (List ℕ)) → join_with_byte 0x2f (map escaped (first ∷ others)) ≡ escaped first ++ behind_slashes others
joined first [] = sym (append-nil (escaped first))
joined first (second ∷ others) = ap (λ (text : List ℕ). escaped first ++ 0x2f ∷ text) (joined second others)

-- the first component was written, and then the others
pub components_written : (old now first : List ℕ) (others components : List (List ℕ)) → now ≡ old ++ escaped first → components ≡ first ∷ others
    → now ++ behind_slashes others ≡ old ++ join_with_byte 0x2f (map escaped components)
components_written old now first others components written parts =
    ap (λ (text : List ℕ). text ++ behind_slashes others) written ∙ append_assoc old (escaped first) (behind_slashes others) ∙ ap (λ (text : List ℕ). old ++ text) (sym (joined first others) ∙ ap (λ (all : List (List ℕ)). join_with_byte 0x2f (map escaped all)) (sym parts))

-- bytes at the front that are written as they are
pub plain_first : (n : ℕ) (bytes : List ℕ) → All IsPlain (take n bytes) → escaped bytes ≡ take n bytes ++ escaped (drop n bytes)
plain_first zero bytes plain = refl
plain_first (suc n) [] plain = refl
plain_first (suc n) (b ∷ bytes) plain =
    ap (λ (front : List ℕ). front ++ escaped bytes) (IsPlain.same (All-head IsPlain b (take n bytes) plain)) ∙ ap (λ (text : List ℕ). b ∷ text) (plain_first n bytes (All-tail IsPlain b (take n bytes) plain))

-- such bytes are ASCII
pub plain_is_ascii : (bytes : List ℕ) → All IsPlain bytes → IsAscii bytes
plain_is_ascii [] plain i = lit< tt
plain_is_ascii (b ∷ bytes) plain zero = IsPlain.ascii (All-head IsPlain b bytes plain)
plain_is_ascii (b ∷ bytes) plain (suc i) = plain_is_ascii bytes (All-tail IsPlain b bytes plain) i

pub plain_is_utf8 : (bytes : List ℕ) → All IsPlain bytes → IsUtf8 bytes
plain_is_utf8 bytes plain = IsUtf8-from_ascii bytes (plain_is_ascii bytes plain)

-- and one more
pub one_more : (bytes : List ℕ) (n : ℕ) → n < length bytes → All IsPlain (take n bytes) → IsPlain (slice_index_or bytes n 0) → All IsPlain (take (n + 1) bytes)
one_more bytes n below all one =
    let b = slice_index_or bytes n 0 in
    let longer = All-append IsPlain (take n bytes) (b ∷ []) all (All-cons IsPlain b [] one (All-nil IsPlain)) in
    subst (λ (k : ℕ). All IsPlain (take k bytes)) (suc-eq-add-one n) (subst (All IsPlain) (sym (take-suc bytes n 0 below)) longer)

-- these were written, and then the others
pub escaped_written : (old now bytes plain rest : List ℕ) (n : ℕ) → All IsPlain (take n bytes) → plain ≡ take n bytes → rest ≡ drop n bytes → now ≡ old ++ plain
    → now ++ escaped rest ≡ old ++ escaped bytes
escaped_written old now bytes plain rest n all front back written =
    let parts = ap (λ (text : List ℕ). text ++ escaped rest) front ∙ ap (λ (text : List ℕ). take n bytes ++ escaped text) back ∙ sym (plain_first n bytes all) in
    ap (λ (text : List ℕ). text ++ escaped rest) written ∙ append_assoc old plain (escaped rest) ∙ ap (λ (text : List ℕ). old ++ text) parts
