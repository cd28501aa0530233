-- Rotations (RFC 4121, section 4.2.5), and how they are undone.
use Rattle.std.proofs.Common.{◌≡◌, ◌∙◌, ◌-◌, ◌%◌, ◌<◌, ℕ, List, ◌++◌, length, take, drop, sym, ap, ap₂, arith}
use Rattle.std.proofs.lemmas.List.{take-append-drop, length-append, length-take-le, length-drop}
use Rattle.std.proofs.lemmas.Nat.{mod_below}
use Rattle.std.proofs.Math.Seq.{take-append_seam, drop-append_seam}
use Rattle.krb_context.specs.Wrap.{rotated}

-- what `rotate_left` makes of a body
abbrev pub turned_back : ℕ → List ℕ → List ℕ
turned_back rotation body = drop (rotation % length body) body ++ take (rotation % length body) body

pub length-rotated : (rotation : ℕ) (body : List ℕ) → 0 < length body → length (rotated rotation body) ≡ length body
length-rotated rotation body some =
    let at : ℕ = length body - rotation % length body in
    omega (arith, length-append (drop at body) (take at body), length-drop at body, length-take-le at body (omega arith))

pub length-turned_back : (rotation : ℕ) (body : List ℕ) → 0 < length body → length (turned_back rotation body) ≡ length body
length-turned_back rotation body some =
    let at : ℕ = rotation % length body in
    omega (arith, length-append (drop at body) (take at body), length-drop at body, length-take-le at body (omega (arith, mod_below rotation (length body) some)))

-- two parts that were swapped, swapped again
swapped : (front back : List ℕ) (n : ℕ) → n ≡ length front → drop n (front ++ back) ++ take n (front ++ back) ≡ back ++ front
swapped front back n is =
    ap₂ (λ (x y : List ℕ). x ++ y) (ap (λ (k : ℕ). drop k (front ++ back)) is ∙ drop-append_seam front back)
    (ap (λ (k : ℕ). take k (front ++ back)) is ∙ take-append_seam front back)

pub rotated_again : (rotation : ℕ) (body : List ℕ) → 0 < length body → rotated rotation (turned_back rotation body) ≡ body
rotated_again rotation body some =
    let at : ℕ = rotation % length body in
    let size = length-turned_back rotation body some in
    let back : length (turned_back rotation body) - rotation % length (turned_back rotation body) ≡ length (drop at body) =
    ap (λ (n : ℕ). n - rotation % n) size ∙ sym (length-drop at body) in
    swapped (drop at body) (take at body) _ back ∙ take-append-drop at body

pub back_again : (rotation : ℕ) (body : List ℕ) → 0 < length body → turned_back rotation (rotated rotation body) ≡ body
back_again rotation body some =
    let at : ℕ = length body - rotation % length body in
    let size = length-rotated rotation body some in
    let le = mod_below rotation (length body) some in
    let front : rotation % length (rotated rotation body) ≡ length (drop at body) =
    ap (λ (n : ℕ). rotation % n) size ∙ omega (arith, le, length-drop at body) in
    swapped (drop at body) (take at body) _ front ∙ take-append-drop at body
