-- Texts that are sealed and opened in place: a body of some length, and a tag after it.
use Rattle.std.proofs.Common.{◌≡◌, ℕ, ◌+◌, ◌-◌, ◌≤◌, List, ◌++◌, length, take, drop, sym, ap, subst, ◌∙◌, arith}
use Rattle.std.proofs.lemmas.List.{length-append, length-drop, length-take-le}
use Rattle.std.proofs.Math.Seq.{take-append_seam}
use Rattle.krb_cts.specs.Undo.{undo}
use Rattle.krb_cts.proofs.Lengths.{length-undo}
use Rattle.krb_enc.specs.Sealed.{Profile, encryption_key}
use Rattle.krb_enc.specs.Opens.{Opens, body_of}

-- a new body before the old tag
pub body_before : (p : Profile) (text body : List ℕ) (size : ℕ) → size ≡ p.tag_len → size ≤ length text → length body ≡ length text - size
    → body_of p (body ++ drop (length text - size) text) ≡ body
body_before p text body size is fits same =
    let all : length (body ++ drop (length text - size) text) - p.tag_len ≡ length body =
    omega (arith, is, fits, same, length-append body (drop (length text - size) text), length-drop (length text - size) text) in
    ap (λ (n : ℕ). take n (body ++ drop (length text - size) text)) all ∙ take-append_seam body (drop (length text - size) text)

-- what a body is undone to stands in its place
pub opened : (p : Profile) (key : List ℕ) (usage : ℕ) (text body now : List ℕ) (size : ℕ) → size ≡ p.tag_len → 16 + size ≤ length text
    → body ≡ take (length text - size) text → now ≡ undo (encryption_key p key usage) body
    → Opens p key usage text (drop 16 (undo (encryption_key p key usage) (body_of p text)))
    → Opens p key usage text (drop 16 (body_of p (now ++ drop (length text - size) text)))
opened p key usage text body now size is fits body_is now_is o =
    let ke = encryption_key p key usage in
    let body_of_is : body_of p text ≡ body = ap (λ (n : ℕ). take (length text - n) text) (sym is) ∙ sym body_is in
    let length_body : length body ≡ length text - size = ap length body_is ∙ length-take-le (length text - size) text (omega arith) in
    let length_now : length now ≡ length text - size = ap length now_is ∙ length-undo ke body (omega (arith, length_body, fits)) ∙ length_body in
    let there : body_of p (now ++ drop (length text - size) text) ≡ now = body_before p text now size is (omega (arith, fits)) length_now in
    subst (λ (t : List ℕ). Opens p key usage text (drop 16 t)) (ap (undo ke) body_of_is ∙ sym now_is ∙ sym there) o
