-- Bytes that move piece by piece.
use Rattle.std.proofs.Common.{◌≡◌, ℕ, ◌+◌, ◌-◌, List, ◌++◌, length, take, drop, Option, sym, subst, ap, ◌∙◌, arith, take-add}
use Rattle.std.proofs.lemmas.List.{take_all, length-drop}
use Rattle.std.specs.Io.KnownBytes.{Appends}
use Rattle.std.proofs.KnownBytes.{Appends-trans}

-- some of the bytes from a place on, after all that lie before it
take_on : (bytes : List ℕ) (done count : ℕ) → take done bytes ++ take count (take (length bytes - done) (drop done bytes)) ≡ take (done + count) bytes
take_on bytes done count =
    let rest : take (length bytes - done) (drop done bytes) ≡ drop done bytes = take_all (length bytes - done) (drop done bytes) (omega (arith, length-drop done bytes)) in
    ap (λ (list : List ℕ). take done bytes ++ take count list) rest ∙ sym (take-add done count bytes)

-- a beginning was taken, and then more of the bytes after it
pub Appends-more : (old now new : Option (List ℕ)) (bytes : List ℕ) (done count : ℕ) → Appends old now (take done bytes)
    → Appends now new (take count (take (length bytes - done) (drop done bytes))) → Appends old new (take (done + count) bytes)
Appends-more old now new bytes done count first second = subst (Appends old new) (take_on bytes done count) (Appends-trans old now new _ _ first second)
